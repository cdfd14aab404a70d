-- The cores of lanes.
use Rattle.std.proofs.Common.{ℕ, List, ◌≡◌, refl, sym, ap, ◌∙◌}
use Rattle.std.specs.FinSet as set
use Rattle.pmg_commit.specs.Entries.{Entry}
use Rattle.pmg_commit.specs.Levels.{level}
use Rattle.pmg_commit.specs.Knowledge.{Contribution, Knowledge, nothing, union, core, knowledge_of, numbers_between}
use Rattle.pmg_commit.specs.Cores.{Core, core_of, join_cores, same_core}
use Rattle.pmg_commit.specs.CoreLaws.{numbers-core, core-union_left}
use Rattle.pmg_commit.proofs.Joining.{core_of_union, union_nothing, core-nothing}
use Rattle.pmg_lane.specs.Lanes.{known_by, level_of}
use Rattle.pmg_lane.specs.Merged.{told}
use Rattle.pmg_lane.specs.declared.track.Track.{Track}
use Rattle.pmg_lane.proofs.Merging.{told_numbers}

-- what is known of two is the join of their cores
pub joined : (k l both : Knowledge) → core both ≡ core (union k l) → core_of both ≡ join_cores (core_of k) (core_of l)
joined k l both h = same_core (core_of both) (join_cores (core_of k) (core_of l)) (h ∙ core_of_union k l)

pub told_is : (c : Contribution) (from to : ℕ) (es : List Entry) → from ≡ c.from → to ≡ c.to → es ≡ c.entries → told from to es ≡ knowledge_of c
unfolding told knowledge_of
told_is c from to es f t e = (λ i. told (f i) (t i) (e i)) ∙ refl

-- what is known once a contribution is taken too
pub known_with :
    (k : Knowledge) (c : Contribution) (from to : ℕ) (es : List Entry) → told from to es ≡ knowledge_of c → (a : Core) → core_of k ≡ a
    → core (union k (told from to es)) ≡ (join_cores a (core_of (knowledge_of c))).knowledge
known_with k c from to es told a view =
    ap (λ m. core (union k m)) told ∙ core_of_union k (knowledge_of c) ∙ ap (λ b. (join_cores b (core_of (knowledge_of c))).knowledge) view

-- its level
pub level_together : (k : Knowledge) (from to : ℕ) (es : List Entry) → level (set.union k.numbers (numbers_between from to)) ≡ level (core (union k (told from to es))).numbers
level_together k from to es = sym (ap level (numbers-core (union k (told from to es))) ∙ ap (λ s. level (set.union k.numbers s)) (told_numbers from to es))

pub level_in : (t : Track) → level_of t ≡ level (core (known_by t)).numbers
level_in t = sym (ap level (numbers-core (known_by t)))

pub nothing_joined : (a : Core) → join_cores (core_of nothing) a ≡ a
nothing_joined a =
    same_core (join_cores (core_of nothing) a) a
    (ap (λ k. core (union k a.knowledge)) core-nothing ∙ ap core (union_nothing a.knowledge) ∙ a.is_core)

pub taken_in : (t : Track) (n : ℕ) → set.contains (known_by t).numbers n ≡ set.contains (core (known_by t)).numbers n
taken_in t n = ap (λ s. set.contains s n) (sym (numbers-core (known_by t)))

-- what is known of two, of which one is known by its core
pub joined_after : (k m l both : Knowledge) → core m ≡ core k → core both ≡ core (union m l) → core both ≡ core (union k l)
joined_after k m l both same is = is ∙ sym (core-union_left m l) ∙ ap (λ k. core (union k l)) same ∙ core-union_left k l

-- what is known from a contribution alone
pub alone : (none more all : Knowledge) → none ≡ nothing → core all ≡ core (union none more) → core all ≡ core more
alone none more all is taken = taken ∙ ap (λ k. core (union k more)) is ∙ ap core (union_nothing more)
