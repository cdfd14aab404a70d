-- Refusals and causes; what stands under a process; homes, and the process that stands for the host.
use Rattle.std.proofs.Common.{◌≡◌, ℕ, zero, suc, ◌<◌, Bool, true, false, cond, ◌&&◌, not, List, [], ◌∷◌, get_or, length, Option, Some, None, Ok, Err, inl, inr, ◌⊎◌, refl, sym, ap, subst, ◌∙◌, IfSome}
use Rattle.std.specs.Prelude.{if◌then◌else◌}
use Rattle.std.specs.FinMap as finite
use Rattle.std.specs.FinMap.{IsAntisymmetric}
use Rattle.std.specs.BTreeMap.{is_at}
use Rattle.std.specs.Cmp.{Equal-is}
use Rattle.std.specs.FinMap.Entries.{find}
use Rattle.std.specs.List.{list_all}
use Rattle.std.specs.Option.{option_map, unwrap_or}
use Rattle.std.specs.Ordering.{eq_by_cmp}
use Rattle.std.specs.declared.cmp.Ordering.{Ordering}
use Rattle.std.proofs.lemmas.Bool.{false≢true, and_parts, or_parts, not-false, eqb-true, lt-ltb}
use Rattle.std.proofs.lemmas.Slice.Eq.{bytes_eq-Decides}
use Rattle.pmg_value.specs.CheckOrder.{check_order, first_in, first_of}
use Rattle.pmg_value.specs.Lists.{In}
use Rattle.pmg_value.specs.Process.{proc_cmp, is_host, host_name}
use Rattle.pmg_value.specs.declared.process.Proc.{Proc}
use Rattle.pmg_value.specs.declared.refusal.Refusal.{Refusal}
use Rattle.pmg_value.specs.declared.refusal.Refusal.TheVariants as refusals
use Rattle.pmg_value.proofs.ProcessOrder.{procs_total}
use Rattle.pmg_value.proofs.RowLemmas.{at_key, get-rows_of}
use Rattle.pmg_fence.specs.Entering.{same_proc}
use Rattle.pmg_fence.proofs.HeaderLemmas.{by_proc}
use Rattle.pmg_jobinfo.specs.Jobs.{Jobs, IsSpace, AreJobs, is_node, is_registered, is_member, home_of}
use Rattle.pmg_node_model.specs.Acts.{Act, Reply, Done, done_as, cause, does, over, acts, caller_cause, is_misnamed}
use Rattle.pmg_node_model.specs.Holdings.{CallState, NodeState, settled, mapped}
use Rattle.pmg_node_model.specs.Kept.{IsOwn}
use Rattle.pmg_pset.specs.Sets.{host}
use Rattle.pmg_pset.proofs.SetLemmas.{made_alike}

-- ---- accepted or refused

-- a call has no cause to be refused
abbrev pub IsFree : Jobs → ℕ → NodeState → Act → Type 0
IsFree jobs id h a = (e : Refusal) → In e check_order → cause jobs id h a e ≡ false

no_cause_in : (x : Refusal) (es : List Refusal) (causes : Refusal → Bool) → causes x ≡ false → ((y : Refusal) → In y es → causes y ≡ false) → (e : Refusal) → In e (x ∷ es) → causes e ≡ false
no_cause_in x es causes here rest e (inl same) = ap causes same ∙ here
no_cause_in x es causes here rest e (inr later) = rest e later

-- the first refusal of a list, or none
abbrev Verdict : List Refusal → (Refusal → Bool) → Done → Type 0
Verdict es causes d = (((e : Refusal) → In e es → causes e ≡ false) × (first_in es causes d ≡ Ok d)) ⊎ ((e : Refusal) × (first_in es causes d ≡ Err e))

verdict_by : (x : Refusal) (es : List Refusal) (causes : Refusal → Bool) (d : Done) (b : Bool) → causes x ≡ b → Verdict es causes d → Verdict (x ∷ es) causes d
verdict_by x es causes d true e rest = inr (x, ap (λ b. if b then Err x else first_in es causes d) e)
verdict_by x es causes d false e (inl rest) = inl (no_cause_in x es causes e rest.0, ap (λ b. if b then Err x else first_in es causes d) e ∙ rest.1)
verdict_by x es causes d false e (inr rest) = inr (rest.0, ap (λ b. if b then Err x else first_in es causes d) e ∙ rest.1)

verdict : (es : List Refusal) (causes : Refusal → Bool) (d : Done) → Verdict es causes d
verdict [] causes d = inl (λ e i. absurd i, refl)
verdict (x ∷ es) causes d = verdict_by x es causes d (causes x) refl (verdict es causes d)

-- an act is done where it is free, or it is refused
pub act_cases : (jobs : Jobs) (id : ℕ) (h : NodeState) (a : Act) (P : Done → Type 0)
    → (IsFree jobs id h a → P (done_as (does jobs id h a).reply (settled jobs id (does jobs id h a).left))) → ((e : Refusal) → P (done_as (Reply.refused e) h)) → P (acts jobs id h a)
act_cases jobs id h a P free refused =
    elim (verdict check_order (cause jobs id h a) (does jobs id h a)) [
      | inl none ↦ subst (λ r. P (over jobs id h r)) (sym none.1) (free none.0)
      | inr some ↦ subst (λ r. P (over jobs id h r)) (sym some.1) (refused some.0)
    ]

refused_in : {A B : Type 0} (es : List Refusal) (causes : Refusal → Bool) (a : A) (b : B) (e : Refusal) → first_in es causes a ≡ Err e → first_in es causes b ≡ Err e
refused_in [] causes a b e is = absurd cc
refused_in (x ∷ es) causes a b e is =
    elim (causes x) as (λ c. (if c then Err x else first_in es causes a) ≡ Err e → (if c then Err x else first_in es causes b) ≡ Err e) [
      | true ↦ λ t. let same : x ≡ e = cc in ap Err same
      | false ↦ λ t. refused_in es causes a b e t
    ] is

-- an act for which no cause to be refused is found is done, and then calls are settled
pub act_free : (jobs : Jobs) (id : ℕ) (h : NodeState) (a : Act) → first_of {Y = Unit {0}} (cause jobs id h a) (tt {0}) ≡ Ok (tt {0})
    → acts jobs id h a ≡ done_as (does jobs id h a).reply (settled jobs id (does jobs id h a).left)
act_free jobs id h a e = ap (over jobs id h) (made_alike (cause jobs id h a) (tt {0}) (tt {0}) (does jobs id h a) e).1

-- and one for which a cause is found is refused
pub act_refused : (jobs : Jobs) (id : ℕ) (h : NodeState) (a : Act) (e : Refusal) → first_of {Y = Unit {0}} (cause jobs id h a) (tt {0}) ≡ Err e → acts jobs id h a ≡ done_as (Reply.refused e) h
act_refused jobs id h a e is = ap (over jobs id h) (refused_in check_order (cause jobs id h a) (tt {0}) (does jobs id h a) e is)

pub bad : In refusals.BadParam check_order
bad = inr (inl refl)

pub unknown : In refusals.UnknownNamespace check_order
unknown = inr (inr (inl refl))

pub foreign : In refusals.NotMine check_order
foreign = inr (inr (inr (inl refl)))

pub busy : In refusals.Busy check_order
busy = inr (inr (inr (inr (inr (inl refl)))))

pub outside : In refusals.NotAParticipant check_order
outside = inr (inr (inr (inr (inr (inr (inl refl))))))

-- ---- what stands under a process

module _ {X : Type 0} (m : finite.FinMap proc_cmp X) (p q : Proc) where
  cond_put : (b : Bool) (x y : X) (o : Option X) → cond b (Some x) o ≡ Some y → ((b ≡ true) × (x ≡ y)) ⊎ (o ≡ Some y)
  cond_put true x y o e = inl (refl, cc)
  cond_put false x y o e = inr e

  -- what stands there after something was put
  pub put_cases : (x y : X) {P : Type 0} → finite.get (finite.insert m p x) q ≡ Some y → (q ≡ p → x ≡ y → P) → (finite.get m q ≡ Some y → P) → P
  put_cases x y {P} is here there =
      by_proc q p
      (λ same. elim (cond_put (same_proc q p) x y (finite.get m q) (sym (finite.get-insert procs_total m p x q) ∙ is)) [ inl e ↦ here same e.1 | inr e ↦ there e ])
      (λ other. there (sym (finite.get-insert procs_total m p x q ∙ ap (λ b. cond b (Some x) (finite.get m q)) other) ∙ is))

  cond_removed : (b : Bool) (y : X) (o : Option X) → cond b None o ≡ Some y → o ≡ Some y
  cond_removed true y o e = absurd cc
  cond_removed false y o e = e

  pub removed_some : (y : X) → finite.get (finite.remove m p) q ≡ Some y → finite.get m q ≡ Some y
  removed_some y is = cond_removed (same_proc q p) y (finite.get m q) (sym (finite.get-remove procs_total m p q) ∙ is)

  pub put_other : (x : X) → same_proc q p ≡ false → finite.get (finite.insert m p x) q ≡ finite.get m q
  put_other x other = finite.get-insert procs_total m p x q ∙ ap (λ b. cond b (Some x) (finite.get m q)) other

-- what is found under a key stands there
pub lookup_row : {K X : Type 0} {R : K → K → Ordering} → IsAntisymmetric R → (rows : List (K × X)) (k : K) (x : X) → at_key R k rows ≡ Some x → In (k, x) rows
lookup_row exact [] k x e = cc
lookup_row {K} {X} {R} exact (r ∷ rows) k x e =
    elim (is_at (R k) r.0) as (λ b. is_at (R k) r.0 ≡ b → cond b (Some r.1) (at_key R k rows) ≡ Some x → In (k, x) (r ∷ rows)) [
      | true ↦ λ t is. inl (λ i. (exact k r.0 ((Equal-is _).0 t) i, sym (same_there is) i))
      | false ↦ λ t is. inr (lookup_row exact rows k x is)
    ] refl e
  where
    same_there : {Y : Type 0} {a b : Y} → Some a ≡ Some b → a ≡ b
    same_there is = cc

find_at : {K X : Type 0} (R : K → K → Ordering) (q : K) (es : List (K × X)) → find R q es ≡ at_key R q es
find_at R q [] = refl
find_at R q (e ∷ es) = ap (cond (eq_by_cmp R q e.0) (Some e.1)) (find_at R q es)

-- what stands under a key is an entry
pub entry_listed : {K X : Type 0} {R : K → K → Ordering} → IsAntisymmetric R → (m : finite.FinMap R X) (k : K) (x : X) → finite.get m k ≡ Some x → In (k, x) (finite.entries m)
entry_listed {R = R} exact m k x e = lookup_row exact (finite.entries m) k x (sym (finite.get-entries m k ∙ find_at R k (finite.entries m)) ∙ e)

-- ---- calls that are settled

pub get-mapped : (f : CallState → CallState) (m : finite.FinMap proc_cmp CallState) (q : Proc) → finite.get (mapped f m) q ≡ option_map f (finite.get m q)
unfolding mapped
get-mapped f m q = get-rows_of procs_total f (finite.entries m) q ∙ ap (option_map f) (sym (finite.get-entries m q ∙ find_at proc_cmp q (finite.entries m)))

pub mapped_some : {A B : Type 0} (f : A → B) (o : Option A) (y : B) → option_map f o ≡ Some y → (x : A) × (o ≡ Some x) × (f x ≡ y)
mapped_some f None y e = absurd cc
mapped_some f (Some x) y e = (x, refl, cc)

-- ---- who calls

named_is_member : (registered member : Bool) → (registered && not member) ≡ false → not registered ≡ false → member ≡ true
named_is_member registered true misnamed stranger = refl
named_is_member true false misnamed stranger = absurd (false≢true (sym misnamed))
named_is_member false false misnamed stranger = absurd (false≢true (sym stranger))

pub is_member_by : (jobs : Jobs) (p : Proc) → is_misnamed jobs p ≡ false → not (is_registered jobs p.nspace) ≡ false → is_member jobs p ≡ true
is_member_by jobs p misnamed stranger = named_is_member (is_registered jobs p.nspace) (is_member jobs p) misnamed stranger

pub caller_is : (jobs : Jobs) (id : ℕ) (h : NodeState) (p : Proc) → caller_cause jobs id h p refusals.BadParam ≡ false → caller_cause jobs id h p refusals.UnknownNamespace ≡ false
    → caller_cause jobs id h p refusals.NotMine ≡ false → IsOwn jobs id p
caller_is jobs id h p first second third = (
  is_member_by jobs p (or_parts _ _ first).1 second,
  eqb-true (home_of jobs p) id (not-false _ third),
)

-- ---- homes

all_at : (p : ℕ → Bool) (xs : List ℕ) (i d : ℕ) → list_all p xs ≡ true → p d ≡ true → p (get_or xs i d) ≡ true
all_at p [] i d all other = other
all_at p (x ∷ xs) zero d all other = (and_parts _ _ all).0
all_at p (x ∷ xs) (suc i) d all other = all_at p xs i d (and_parts _ _ all).1 other

home_in : (jobs : Jobs) (p : Proc) (o : Option (List ℕ)) → IfSome o (IsSpace (length jobs.nodes) p.nspace) → 0 < length jobs.nodes
    → is_node jobs (get_or (unwrap_or o []) p.rank 0) ≡ true
home_in jobs p None space some = lt-ltb 0 (length jobs.nodes) some
home_in jobs p (Some homes) space some = all_at (is_node jobs) homes p.rank 0 space.at_nodes (lt-ltb 0 (length jobs.nodes) some)

-- each process's home is a node of the group
pub home_is_node : (jobs : Jobs) → AreJobs jobs → (p : Proc) → is_node jobs (home_of jobs p) ≡ true
home_is_node jobs are p = home_in jobs p (finite.get jobs.spaces p.nspace) (are.spaces p.nspace) are.some

host_space : (jobs : Jobs) (o : Option (List ℕ)) → IfSome o (IsSpace (length jobs.nodes) host_name) → get_or (unwrap_or o []) 0 0 ≡ 0
host_space jobs None space = refl
host_space jobs (Some homes) space = absurd (false≢true (sym space.named))

-- the home of the host's process is node 0
pub host_home : (jobs : Jobs) → AreJobs jobs → home_of jobs host ≡ 0
host_home jobs are = host_space jobs (finite.get jobs.spaces host_name) (are.spaces host_name)

pub host_is : (p : Proc) → is_host p ≡ true → p ≡ host
host_is p e =
    let parts = and_parts _ _ e in
    let name : p.nspace ≡ host_name = (bytes_eq-Decides p.nspace host_name).0 parts.0 in
    λ i. record { nspace = name i; rank = eqb-true p.rank 0 parts.1 i }
