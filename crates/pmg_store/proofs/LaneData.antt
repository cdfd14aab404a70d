-- What lanes know, as data.
use Rattle.std.proofs.Common.{arith, ◌≡◌, ℕ, List, [], ◌∷◌, ◌++◌, ◌⊎◌, inl, inr, Bool, true, false, cond, refl, sym, ap, ◌∙◌}
use Rattle.std.specs.Prelude.{Option, Some, None, is_some, if◌then◌else◌}
use Rattle.std.specs.Option.{option_map, option_to_list}
use Rattle.std.specs.List.{flat_map}
use Rattle.std.specs.Cmp.{Equal-is}
use Rattle.std.specs.Ordering.{eq_by_cmp, is_eq}
use Rattle.std.specs.BTreeMap.{BTreeMap, get, keys}
use Rattle.std.specs.FinMap as finite
use Rattle.std.specs.FinSet as set
use Rattle.std.specs.Ordering.{nat_cmp}
use Rattle.std.specs.FinMap.Entries.{find}
use Rattle.std.proofs.lemmas.Bool.{false≢true}
use Rattle.std.proofs.lemmas.Cmp.{tied_itself}
use Rattle.pmg_value.specs.declared.process.Proc.{Proc}
use Rattle.pmg_value.specs.Lists.{In}
use Rattle.pmg_value.specs.Maps.{join_options, join_to}
use Rattle.pmg_value.specs.Process.{proc_cmp}
use Rattle.pmg_value.proofs.MapLemmas.{get-join_maps}
use Rattle.pmg_value.proofs.ProcessOrder.{procs_total, exact_procs}
use Rattle.pmg_value.proofs.RowLemmas.{key_there}
use Rattle.pmg_commit.specs.Cores.{Core, core_of, join_cores}
use Rattle.pmg_commit.specs.CoreLaws.{numbers-core, core-union_left}
use Rattle.pmg_commit.specs.Data.{Data, join_data, absorbed, of_contribution, known, knowledge_in, level_at, read_at}
use Rattle.pmg_commit.specs.Knowledge.{Contribution, Knowledge, nothing, union, core, knowledge_of, read}
use Rattle.pmg_commit.specs.Entries.{entry_cmp}
use Rattle.pmg_commit.specs.Levels.{level}
use Rattle.pmg_commit.specs.LevelLaws.{level_unique}
use Rattle.pmg_commit.proofs.Joining.{unions_comm, union_nothing, core-union_right, known_together, known_of_one}
use Rattle.pmg_commit.proofs.ReadLaws.{read_none, read-core}
use Rattle.pmg_lane.specs.Lanes.{core_in, known_by}
use Rattle.pmg_join.specs.Maps.{joined_under}
use Rattle.pmg_join.specs.Places.{placed, there_at}
use Rattle.pmg_lane.specs.declared.track.Track.{Track}
use Rattle.pmg_store.specs.Lanes.{held_at, row_at, data_in}

-- ---- what is found at a process

-- a row before others, of what is held of its process
abbrev with_row : Proc → Option Core → List (Proc × Core) → List (Proc × Core)
with_row p o rest = option_to_list (option_map (λ core. (p, core)) o) ++ rest

past_row : (q p : Proc) (o : Option Core) (rest : List (Proc × Core)) → eq_by_cmp proc_cmp q p ≡ false → find proc_cmp q (with_row p o rest) ≡ find proc_cmp q rest
past_row q p None rest t = refl
past_row q p (Some core) rest t = ap (λ b. cond b (Some core) (find proc_cmp q rest)) t

own_row : (q p : Proc) (o : Option Core) (rest : List (Proc × Core)) → eq_by_cmp proc_cmp q p ≡ true → (o ≡ None → find proc_cmp q rest ≡ None) → find proc_cmp q (with_row p o rest) ≡ o
own_row q p None rest t none = none refl
own_row q p (Some core) rest t none = ap (λ b. cond b (Some core) (find proc_cmp q rest)) t

module _ (places : BTreeMap Proc (Option Track)) where
  found_row : (q : Proc) (ps : List Proc) → In q ps ⊎ (held_at places q ≡ None) → find proc_cmp q (flat_map (row_at places) ps) ≡ held_at places q
  found_row q [] (inl i) = absurd i
  found_row q [] (inr none) = sym none
  found_row q (p ∷ ps) h =
      elim (eq_by_cmp proc_cmp q p) as (λ t. eq_by_cmp proc_cmp q p ≡ t → find proc_cmp q (flat_map (row_at places) (p ∷ ps)) ≡ held_at places q) [
        | true ↦ λ t.
            let same : q ≡ p = exact_procs q p ((Equal-is _).0 t) in
            own_row q p (held_at places p) (flat_map (row_at places) ps) t (λ none. let gone : held_at places q ≡ None = ap (held_at places) same ∙ none in found_row q ps (inr gone) ∙ gone)
            ∙ ap (held_at places) (sym same)
        | false ↦ λ t. past_row q p (held_at places p) (flat_map (row_at places) ps) t ∙ found_row q ps (elim h [
          | inl (inl same) ↦ absurd (false≢true (sym t ∙ ap (eq_by_cmp proc_cmp q) (sym same) ∙ ap is_eq (tied_itself procs_total q)))
          | inl (inr i) ↦ inl i
          | inr none ↦ inr none
        ])
      ] refl

  key_or_none : (q : Proc) → In q (keys places) ⊎ (held_at places q ≡ None)
  key_or_none q = go (get proc_cmp places q) refl
    where
      go : (o : Option (Option Track)) → get proc_cmp places q ≡ o → In q (keys places) ⊎ (held_at places q ≡ None)
      go None is = inr (ap (λ o. option_map core_in (placed o)) is)
      go (Some place) is = inl (key_there exact_procs places.entries q (ap is_some is))

  pub get-data_in : (q : Proc) → finite.get (data_in places) q ≡ held_at places q
  unfolding data_in
  get-data_in q = finite.get-from_entries procs_total (flat_map (row_at places) (keys places)) q ∙ found_row q (keys places) (key_or_none q)

  pub known_in : (q : Proc) → known (data_in places) q ≡ knowledge_in (held_at places q)
  unfolding known
  known_in q = ap knowledge_in (get-data_in q)

-- ---- the same data, and more

pub same_data : (old new : BTreeMap Proc (Option Track)) → ((q : Proc) → held_at new q ≡ held_at old q) → data_in new ≡ data_in old
same_data old new same = finite.same_map procs_total exact_procs (data_in new) (data_in old) (λ q. get-data_in new q ∙ same q ∙ sym (get-data_in old q))

pub joined_data : (old other new : BTreeMap Proc (Option Track)) → ((q : Proc) → held_at new q ≡ join_options join_cores (held_at old q) (held_at other q))
    → data_in new ≡ join_data (data_in old) (data_in other)
joined_data old other new joined =
    finite.same_map procs_total exact_procs (data_in new) (join_data (data_in old) (data_in other)) (λ q.
    get-data_in new q
    ∙ joined q
    ∙ (λ i. join_options join_cores (sym (get-data_in old q) i) (sym (get-data_in other q) i))
    ∙ sym (get-join_maps procs_total join_cores (data_in old) (data_in other) q))

-- room was made, and then all was taken
pub taken_all : (old roomy other new : BTreeMap Proc (Option Track)) (d e : Data) → ((q : Proc) → held_at roomy q ≡ held_at old q)
    → ((q : Proc) → held_at new q ≡ join_options join_cores (held_at roomy q) (held_at other q)) → data_in old ≡ d → data_in other ≡ e → data_in new ≡ join_data d e
taken_all old roomy other new d e same joined is_d is_e =
    joined_data old other new (λ q. joined q ∙ ap (λ o. join_options join_cores o (held_at other q)) (same q)) ∙ (λ i. join_data (is_d i) (is_e i))

joined_one : (b : Bool) (o : Option Core) (c : Core) → cond b (Some (join_to join_cores o c)) o ≡ join_options join_cores o (cond b (Some c) None)
joined_one true None c = refl
joined_one true (Some a) c = refl
joined_one false None c = refl
joined_one false (Some a) c = refl

get-of : (c : Contribution) (q : Proc) → finite.get (of_contribution c) q ≡ cond (eq_by_cmp proc_cmp q c.proc) (Some (core_of (knowledge_of c))) None
unfolding of_contribution
get-of c q =
    finite.get-insert procs_total finite.empty c.proc (core_of (knowledge_of c)) q ∙ ap (cond (eq_by_cmp proc_cmp q c.proc) (Some (core_of (knowledge_of c)))) (finite.get-empty proc_cmp q)

-- what is held of one process, joined to the knowledge of a contribution
here_or_there : (places : BTreeMap Proc (Option Track)) (p q : Proc) (c : Core)
    → joined_under proc_cmp join_cores (held_at places) p c q ≡ cond (eq_by_cmp proc_cmp q p) (Some (join_to join_cores (held_at places q) c)) (held_at places q)
here_or_there places p q c =
    elim (eq_by_cmp proc_cmp q p) as (λ t. eq_by_cmp proc_cmp q p ≡ t → (if t then Some (join_to join_cores (held_at places p) c) else held_at places q)
    ≡ cond t (Some (join_to join_cores (held_at places q) c)) (held_at places q)) [
      | true ↦ λ t. ap (λ r. Some (join_to join_cores (held_at places r) c)) (sym (exact_procs q p ((Equal-is _).0 t)))
      | false ↦ λ t. refl
    ] refl

pub absorbed_data :
    (old new : BTreeMap Proc (Option Track)) (c : Contribution) (p : Proc) (known : Core) → p ≡ c.proc → known ≡ core_of (knowledge_of c)
    → ((q : Proc) → held_at new q ≡ joined_under proc_cmp join_cores (held_at old) p known q) → data_in new ≡ absorbed (data_in old) c
absorbed_data old new c p known is told put =
    finite.same_map procs_total exact_procs (data_in new) (absorbed (data_in old) c) (λ q.
    get-data_in new q
    ∙ put q
    ∙ (λ i. joined_under proc_cmp join_cores (held_at old) (is i) (told i) q)
    ∙ here_or_there old c.proc q (core_of (knowledge_of c))
    ∙ joined_one (eq_by_cmp proc_cmp q c.proc) (held_at old q) (core_of (knowledge_of c))
    ∙ (λ i. join_options join_cores (sym (get-data_in old q) i) (sym (get-of c q) i))
    ∙ sym (get-join_maps procs_total join_cores (data_in old) (of_contribution c) q))

pub nothing_in : (places : BTreeMap Proc (Option Track)) → ((q : Proc) → held_at places q ≡ None) → data_in places ≡ finite.empty
nothing_in places none = finite.same_map procs_total exact_procs (data_in places) finite.empty (λ q. get-data_in places q ∙ none q ∙ sym (finite.get-empty proc_cmp q))

-- ---- what is known of a process
module _ (places : BTreeMap Proc (Option Track)) (p : Proc) where
  pub known_there : (t : Track) → Some t ≡ there_at proc_cmp places p → core (known_by t) ≡ known (data_in places) p
  known_there t there = sym (known_in places p ∙ ap (λ o. knowledge_in (option_map core_in o)) (sym there))

  -- a core has the numbers of the knowledge, and reads the same
  pub numbers_there : (t : Track) → Some t ≡ there_at proc_cmp places p → (known_by t).numbers ≡ (known (data_in places) p).numbers
  numbers_there t there = sym (numbers-core (known_by t)) ∙ ap (λ k. k.numbers) (known_there t there)

  pub read_there : (t : Track) (key : List ℕ) → Some t ≡ there_at proc_cmp places p → read (known_by t) key ≡ read (known (data_in places) p) key
  read_there t key there = sym (read-core (known_by t) key) ∙ ap (λ k. read k key) (known_there t there)

  pub known_none : None ≡ there_at proc_cmp places p → nothing ≡ known (data_in places) p
  known_none there = sym (known_in places p ∙ ap (λ o. knowledge_in (option_map core_in o)) (sym there))

-- ---- what is known once a contribution is taken too
module _ (d : Data) (c : Contribution) (p : Proc) where
  known_here : eq_by_cmp proc_cmp p c.proc ≡ true → known (absorbed d c) p ≡ core (union (known d p) (knowledge_of c))
  known_here same =
      known_together d (of_contribution c) p
      ∙ ap (λ k. core (union (known d p) k)) (known_of_one c p ∙ ap (λ b. cond b (core (knowledge_of c)) nothing) same)
      ∙ core-union_right (known d p) (knowledge_of c)

  known_past : eq_by_cmp proc_cmp p c.proc ≡ false → known (absorbed d c) p ≡ core (known d p)
  known_past other =
      known_together d (of_contribution c) p
      ∙ ap (λ k. core (union (known d p) k)) (known_of_one c p ∙ ap (λ b. cond b (core (knowledge_of c)) nothing) other)
      ∙ ap core (unions_comm (known d p) nothing ∙ union_nothing (known d p))

  -- of another process, what was known is known
  pub level_past : eq_by_cmp proc_cmp p c.proc ≡ false → level_at d p ≡ level_at (absorbed d c) p
  level_past other = sym (ap level (numbers-core (known d p))) ∙ ap (λ k. level k.numbers) (sym (known_past other))

  pub read_past : (key : List ℕ) → eq_by_cmp proc_cmp p c.proc ≡ false → read_at d p key ≡ read_at (absorbed d c) p key
  read_past key other = sym (read-core (known d p) key) ∙ ap (λ k. read k key) (sym (known_past other))

  -- of its process, what was known and what it tells
  module _ (k m : Knowledge) (is : core k ≡ known d p) (told : m ≡ knowledge_of c) (same : eq_by_cmp proc_cmp p c.proc ≡ true) where
    pub level_here : level (union k m).numbers ≡ level_at (absorbed d c) p
    level_here =
        ap (λ s. level (set.union s m.numbers)) (sym (numbers-core k))
        ∙ (λ i. level (union (is i) (told i)).numbers)
        ∙ sym (ap level (numbers-core (union (known d p) (knowledge_of c))))
        ∙ ap (λ k. level k.numbers) (sym (known_here same))

    pub read_here : (key : List ℕ) → read (union k m) key ≡ read_at (absorbed d c) p key
    read_here key =
        sym (read-core (union k m) key)
        ∙ ap (λ k. read k key) (sym (core-union_left k m))
        ∙ read-core (union (core k) m) key
        ∙ (λ i. read (union (is i) (told i)) key)
        ∙ sym (read-core (union (known d p) (knowledge_of c)) key)
        ∙ ap (λ k. read k key) (sym (known_here same))

pub level-nothing : 0 ≡ level nothing.numbers
level-nothing = level_unique nothing.numbers 0 ((λ i low high. absurd (let bad : ⊥ = omega (arith, low, high) in bad)), set.contains-empty nat_cmp 1)

pub read-nothing : (key : List ℕ) → read nothing key ≡ None
read-nothing key = read_none nothing key (λ f has r. false≢true (sym (set.contains-empty entry_cmp f) ∙ has))

-- ---- whether something is read
pub is_read_alike : {V : Type 0} (o : Option V) (bytes : Option (List ℕ)) (f : V → List ℕ) → option_map f o ≡ bytes → is_some o ≡ is_some bytes
is_read_alike None bytes f e = ap is_some e
is_read_alike (Some v) bytes f e = ap is_some e
