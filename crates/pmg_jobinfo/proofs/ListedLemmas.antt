-- Whom the nodes of a group have at home.
use Rattle.std.proofs.Common.{◌≡◌, ℕ, ◌<◌, ◌≤◌, ◌*◌, Bool, true, false, cond, not, ◌&&◌, ◌||◌, T, List, [], ◌∷◌, get_or, length, Option, Some, None, refl, sym, ap, subst, ◌∙◌, inl, inr, arith}
use Rattle.std.specs.Prelude.{◌==◌, nat_le, nat_lt}
use Rattle.std.specs.Cmp.{IsTotalOrder, Equal-is}
use Rattle.std.specs.Cmp.Lexicographic.{nat_list_cmp_total}
use Rattle.std.specs.FinMap as finite
use Rattle.std.specs.FinMap.{IsAntisymmetric}
use Rattle.std.specs.FinMap.Entries.{find, below_all, is_sorted}
use Rattle.std.specs.List.{flat_map, list_all}
use Rattle.std.specs.Option.{unwrap_or}
use Rattle.std.specs.declared.cmp.Ordering.{Ordering}
use Rattle.std.specs.declared.cmp.Ordering.TheVariants.{Less}
use Rattle.std.specs.Ordering.{eq_by_cmp, is_eq, is_lt, ordering_reverse}
use Rattle.std.proofs.lemmas.Bool.{eq-eqb, eqb-true, le-leb, lt-ltb, ltb-true}
use Rattle.std.proofs.lemmas.Cmp.{tied_itself}
use Rattle.std.proofs.lemmas.List.{length-append, length-map}
use Rattle.std.proofs.lemmas.List.FromFn.{length-range_with_len}
use Rattle.std.proofs.lemmas.List.Sums.{count_by-le-length, length-filter}
use Rattle.std.proofs.lemmas.Map.Lookups.{exact_bytes}
use Rattle.pmg_value.specs.declared.process.Proc.{Proc}
use Rattle.pmg_value.specs.Lists.{In}
use Rattle.pmg_value.specs.Process.{is_client, is_host, can_commit}
use Rattle.pmg_value.proofs.ListLemmas.{in_map, in_map_from}
use Rattle.pmg_value.proofs.MadeLists.{in_filter, in_filter_from, in_flat, in_flat_from, in_range, range_in}
use Rattle.pmg_scope.proofs.SumLemmas.{t_first, t_second, is_less}
use Rattle.pmg_jobinfo.specs.Expansion.{ranks}
use Rattle.pmg_jobinfo.specs.Jobs.{Jobs, AreJobs, IsSpace, homes_of}
use Rattle.pmg_jobinfo.specs.Procs.{procs_of, procs_at}
use Rattle.pmg_jobinfo.specs.Reserved.{ranks_at}
use Rattle.pmg_jobinfo.specs.Rules.{OwnAreListed, ListedAreOwn, ListedAreClients}
use Rattle.pmg_jobinfo.specs.declared.registry.TheConstants.{MAX_RANKS, MAX_SPACES}
use Rattle.pmg_jobinfo.proofs.TableLemmas.{space_at}

pub all_pass : {A : Type 0} (p : A → Bool) (xs : List A) → ((x : A) → In x xs → p x ≡ true) → list_all p xs ≡ true
all_pass p [] each = refl
all_pass p (x ∷ xs) each = ap (λ (b : Bool). b && list_all p xs) (each x (inl refl)) ∙ all_pass p xs (λ y i. each y (inr i))

-- ---- entries of a map

below_is_other : {K : Type 0} {R : K → K → Ordering} → IsTotalOrder R → (q k : K) → R k q ≡ Less → eq_by_cmp R q k ≡ false
below_is_other o q k h = ap is_eq (o.antisymm q k) ∙ ap (λ (r : Ordering). is_eq (ordering_reverse r)) h

module _ {K X : Type 0} {R : K → K → Ordering} (o : IsTotalOrder R) where
  below_in : (k : K) (es : List (K × X)) (e : K × X) → T (below_all R k es) → In e es → R k e.0 ≡ Less
  below_in k [] e below i = absurd i
  below_in k (f ∷ fs) e below (inl same) = ap (λ (g : K × X). R k g.0) same ∙ is_less (R k f.0) (t_first (is_lt (R k f.0)) (below_all R k fs) below)
  below_in k (f ∷ fs) e below (inr i) = below_in k fs e (t_second (is_lt (R k f.0)) (below_all R k fs) below) i

  row_found : (es : List (K × X)) (e : K × X) → T (is_sorted R es) → In e es → find R e.0 es ≡ Some e.1
  row_found [] e rises i = absurd i
  row_found (f ∷ fs) e rises (inl same) =
      ap (λ (g : K × X). find R g.0 (f ∷ fs)) same ∙ ap (λ (r : Ordering). cond (is_eq r) (Some f.1) (find R f.0 fs)) (tied_itself o f.0) ∙ ap (λ (g : K × X). Some g.1) (sym same)
  row_found (f ∷ fs) e rises (inr i) =
      ap (λ (b : Bool). cond b (Some f.1) (find R e.0 fs)) (below_is_other o e.0 f.0 (below_in f.0 fs e (t_first (below_all R f.0 fs) (is_sorted R fs) rises) i))
      ∙ row_found fs e (t_second (below_all R f.0 fs) (is_sorted R fs) rises) i

  -- under the key of an entry stands its value
  pub entry_get : (m : finite.FinMap R X) (e : K × X) → In e (finite.entries m) → finite.get m e.0 ≡ Some e.1
  entry_get m e i = finite.get-entries m e.0 ∙ row_found (finite.entries m) e (finite.entries_sorted m) i

module _ {K X : Type 0} {R : K → K → Ordering} (exact : IsAntisymmetric R) where
  found_row : (es : List (K × X)) (q : K) (x : X) → find R q es ≡ Some x → In (q, x) es
  found_row [] q x is = cc
  found_row (e ∷ es) q x is =
      elim (eq_by_cmp R q e.0) as (λ b. eq_by_cmp R q e.0 ≡ b → cond b (Some e.1) (find R q es) ≡ Some x → In (q, x) (e ∷ es)) [
        | true ↦ λ t h. inl (λ i. (exact q e.0 ((Equal-is _).0 t) i, ap (λ (v : Option X). unwrap_or v x) (sym h) i))
        | false ↦ λ t h. inr (found_row es q x h)
      ] refl is

  -- what stands under a key is an entry
  pub get_entry : (m : finite.FinMap R X) (q : K) (x : X) → finite.get m q ≡ Some x → In (q, x) (finite.entries m)
  get_entry m q x is = found_row (finite.entries m) q x (sym (finite.get-entries m q) ∙ is)

-- ---- ranks at a node

rank_at : (node : ℕ) (homes : List ℕ) (rank : ℕ) → rank < length homes → get_or homes rank 0 ≡ node → In rank (ranks_at node homes)
rank_at node homes rank less here =
    in_filter (λ k. get_or homes k 0 == node) (ranks (length homes)) rank (range_in 0 (length homes) rank (omega arith) (omega (arith, less)))
    (eq-eqb (get_or homes rank 0) node here)

at_rank : (node : ℕ) (homes : List ℕ) (rank : ℕ) → In rank (ranks_at node homes) → (rank < length homes) × (get_or homes rank 0 ≡ node)
at_rank node homes rank i =
    let found = in_filter_from (λ k. get_or homes k 0 == node) (ranks (length homes)) rank i in
    let below = in_range 0 (length homes) rank found.0 in
    (omega (arith, below.1), eqb-true (get_or homes rank 0) node found.1)

-- ---- processes at a node

abbrev Space : Type 0
Space = List ℕ × List ℕ

-- a process of the namespace at home at the node is listed there
listed_by : (jobs : Jobs) (node : ℕ) (p : Proc) (found : Option (List ℕ)) → finite.get jobs.spaces p.nspace ≡ found
    → nat_lt p.rank (length (unwrap_or found [])) ≡ true → get_or (unwrap_or found []) p.rank 0 ≡ node → In p (procs_at jobs node)
listed_by jobs node p None is member here = absurd (omega (arith, ltb-true p.rank 0 member))
listed_by jobs node p (Some homes) is member here =
    in_flat (λ (e : Space). procs_of e.0 (ranks_at node e.1)) (finite.entries jobs.spaces) (p.nspace, homes) p (get_entry exact_bytes jobs.spaces p.nspace homes is)
    (in_map (λ rank. record { nspace = p.nspace; rank = rank }) (ranks_at node homes) p.rank (rank_at node homes p.rank (ltb-true p.rank (length homes) member) here))

pub own_are_listed : OwnAreListed
own_are_listed jobs node p member here = listed_by jobs node p (finite.get jobs.spaces p.nspace) refl member here

-- the namespace of a process that is listed at the node: its homes, and the process's rank among them
record IsAt (jobs : Jobs) (node : ℕ) (p : Proc) (homes : List ℕ) : Type 0 where
  registered : finite.get jobs.spaces p.nspace ≡ Some homes
  less : p.rank < length homes
  here : get_or homes p.rank 0 ≡ node

listed_at : (jobs : Jobs) (node : ℕ) (p : Proc) → In p (procs_at jobs node) → (homes : List ℕ) × IsAt jobs node p homes
listed_at jobs node p i =
    let space = in_flat_from (λ (e : Space). procs_of e.0 (ranks_at node e.1)) (finite.entries jobs.spaces) p i in
    let one = in_map_from (λ rank. record { nspace = space.0.0; rank = rank }) (ranks_at node space.0.1) p space.2 in
    let at = at_rank node space.0.1 one.0 one.1 in
    (space.0.1, subst (λ (q : Proc). IsAt jobs node q space.0.1) (sym one.2) (record { registered = entry_get nat_list_cmp_total jobs.spaces space.0 space.1; less = at.0; here = at.1 }))

pub listed_are_own : ListedAreOwn
listed_are_own jobs node p i =
    let at = listed_at jobs node p i in
    let homes : homes_of jobs p.nspace ≡ at.0 = ap (λ (o : Option (List ℕ)). unwrap_or o []) at.1.registered in (
      ap (λ (hs : List ℕ). nat_lt p.rank (length hs)) homes ∙ lt-ltb p.rank (length at.0) at.1.less,
      ap (λ (hs : List ℕ). get_or hs p.rank 0) homes ∙ at.1.here,
    )

client_of : (nodes : ℕ) (p : Proc) (homes : List ℕ) → IsSpace nodes p.nspace homes → p.rank < length homes → is_client p ≡ true
client_of nodes p homes space less =
    ap (λ (b : Bool). not b && nat_le p.rank 4095) space.named ∙ le-leb p.rank 4095 (omega (arith, space.few, less))

-- each process that is listed at a node is one that a group may register
pub listed_is_client : (jobs : Jobs) (node : ℕ) (p : Proc) → AreJobs jobs → In p (procs_at jobs node) → is_client p ≡ true
listed_is_client jobs node p are i =
    let at = listed_at jobs node p i in
    client_of (length jobs.nodes) p at.0 (space_at jobs p.nspace at.0 are (sym at.1.registered)) at.1.less

pub listed_are_clients : ListedAreClients
listed_are_clients jobs node are = all_pass is_client (procs_at jobs node) (λ p i. listed_is_client jobs node p are i)

-- and commits
pub listed_can_commit : (jobs : Jobs) (node : ℕ) → AreJobs jobs → list_all can_commit (procs_at jobs node) ≡ true
listed_can_commit jobs node are =
    all_pass can_commit (procs_at jobs node) (λ p i. ap (λ (b : Bool). b || is_host p) (listed_is_client jobs node p are i))

-- ---- how many processes a node has at home

-- lists of at most so many items as a namespace has ranks, one after the other
few_in_all : {A : Type 0} (f : A → List Proc) (xs : List A) → ((x : A) → In x xs → length (f x) ≤ MAX_RANKS) → length (flat_map f xs) ≤ length xs * MAX_RANKS
few_in_all f [] each = omega arith
few_in_all f (x ∷ xs) each =
    let first = each x (inl refl) in
    let rest = few_in_all f xs (λ y i. each y (inr i)) in
    let both = length-append (f x) (flat_map f xs) in
    omega (arith, first, rest, both)

few_at : (node : ℕ) (name homes : List ℕ) → length homes ≤ MAX_RANKS → length (procs_of name (ranks_at node homes)) ≤ MAX_RANKS
few_at node name homes few =
    let here : ℕ → Bool = λ rank. get_or homes rank 0 == node in
    let mapped = length-map {B = Proc} (ranks_at node homes) (λ rank. record { nspace = name; rank = rank }) in
    let counted = length-filter here (ranks (length homes)) in
    let below = count_by-le-length here (ranks (length homes)) in
    let all = length-range_with_len 0 (length homes) in
    omega (arith, mapped, counted, below, all, few)

-- at most as many as a group may register
pub few_listed : (jobs : Jobs) (node : ℕ) → AreJobs jobs → length (procs_at jobs node) ≤ MAX_SPACES * MAX_RANKS
few_listed jobs node are =
    let space : (e : Space) → In e (finite.entries jobs.spaces) → length (procs_of e.0 (ranks_at node e.1)) ≤ MAX_RANKS = λ e i.
    few_at node e.0 e.1 (space_at jobs e.0 e.1 are (sym (entry_get nat_list_cmp_total jobs.spaces e i))).few in
    let all = few_in_all (λ (e : Space). procs_of e.0 (ranks_at node e.1)) (finite.entries jobs.spaces) space in
    let count = finite.len-entries jobs.spaces in
    let spaces = are.few_spaces in
    omega (arith, all, count, spaces)
