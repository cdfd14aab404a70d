-- What is held of a process is the core of the union of what the pieces tell of it.
use Rattle.std.proofs.Common.{ℕ, List, [], ◌∷◌, ◌≡◌, Bool, true, false, map, refl, sym, ap, ◌∙◌}
use Rattle.std.specs.Prelude.{Option, Some, None, if◌then◌else◌}
use Rattle.std.specs.FinMap as finite
use Rattle.pmg_value.specs.declared.process.Proc.{Proc}
use Rattle.pmg_value.specs.Process.{proc_cmp}
use Rattle.pmg_join.specs.Joins.{join_all}
use Rattle.pmg_commit.specs.Levels.{level}
use Rattle.pmg_commit.specs.Knowledge.{Contribution, nothing, union, knowledge_of, core, read}
use Rattle.pmg_commit.specs.CoreLaws.{numbers-core, core-union_left}
use Rattle.pmg_commit.specs.Cores.{Core}
use Rattle.pmg_commit.specs.Data.{Data, join_data, of_contribution, known, knowledge_in, level_at, read_at}
use Rattle.pmg_commit.proofs.Joining.{unions_assoc, unions_comm, union_nothing, core-union_right, core-nothing, known_together, known_of_one}
use Rattle.pmg_commit.proofs.ReadLaws.{read-core}
use Rattle.pmg_store.specs.Pieces.{data_of, is_of, piece_knowledge, pieces_told}
use Rattle.pmg_store.specs.Convergence.{HoldsUnion}

-- ---- the union
known-core : (d : Data) (p : Proc) → core (known d p) ≡ known d p
unfolding known
known-core d p = in_it (finite.get d p)
  where
    in_it : (o : Option Core) → core (knowledge_in o) ≡ knowledge_in o
    in_it None = core-nothing
    in_it (Some c) = c.is_core

pub known-empty : (p : Proc) → known finite.empty p ≡ nothing
unfolding known
known-empty p = ap knowledge_in (finite.get-empty proc_cmp p)

pub known_by : (c : Contribution) (p : Proc) → known (of_contribution c) p ≡ core (piece_knowledge p c)
known_by c p = known_of_one c p ∙ chosen (is_of p c)
  where
    chosen : (b : Bool) → (if b then core (knowledge_of c) else nothing) ≡ core (if b then knowledge_of c else nothing)
    chosen true = refl
    chosen false = sym core-nothing

known_behind : (d : Data) (p : Proc) (cs : List Contribution) → known (join_all join_data d (map of_contribution cs)) p ≡ core (union (known d p) (pieces_told p cs))
known_behind d p [] = sym (ap core (unions_comm (known d p) nothing ∙ union_nothing (known d p)) ∙ known-core d p)
known_behind d p (c ∷ cs) =
    let k = known d p in
    let b = piece_knowledge p c in
    let rest = pieces_told p cs in
    known_behind (join_data d (of_contribution c)) p cs
    ∙ ap (λ m. core (union m rest)) (known_together d (of_contribution c) p ∙ ap (λ m. core (union k m)) (known_by c p) ∙ core-union_right k b)
    ∙ core-union_left (union k b) rest
    ∙ ap core (unions_assoc k b rest)

pub holds_union : HoldsUnion
holds_union pieces p = known_behind finite.empty p pieces ∙ ap (λ m. core (union m (pieces_told p pieces))) (known-empty p) ∙ ap core (union_nothing (pieces_told p pieces))

-- ---- so its level, and what is read
pub level-told : (p : Proc) (cs : List Contribution) → level_at (data_of cs) p ≡ level (pieces_told p cs).numbers
level-told p cs = ap (λ k. level k.numbers) (holds_union cs p) ∙ ap level (numbers-core (pieces_told p cs))

pub read-told : (p : Proc) (cs : List Contribution) (key : List ℕ) → read_at (data_of cs) p key ≡ read (pieces_told p cs) key
read-told p cs key = ap (λ k. read k key) (holds_union cs p) ∙ read-core (pieces_told p cs) key
