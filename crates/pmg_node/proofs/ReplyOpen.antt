-- Replies find the gets that wait for them: once a get asked anew, and once a reply is taken.
use Rattle.std.proofs.Common.{◌≡◌, ◌≤◌, ℕ, suc, arith, Bool, true, false, cond, Option, Some, None, is_some, refl, sym, ap, ◌∙◌}
use Rattle.std.specs.Prelude.{◌==◌, if◌then◌else◌}
use Rattle.std.specs.FinMap as finite
use Rattle.std.specs.FinMap.{nat_cmp-IsAntisymmetric}
use Rattle.std.specs.Cmp.{nat_cmp_total, Equal-is}
use Rattle.std.specs.Ordering.{nat_cmp, eq_by_cmp}
use Rattle.std.proofs.lemmas.Bool.{and_parts, and_from, eqb-true, eq-eqb, false≢true}
use Rattle.pmg_value.specs.Names.{is_reserved}
use Rattle.pmg_value.specs.declared.process.Proc.{Proc}
use Rattle.pmg_value.proofs.SortedLists.{tied}
use Rattle.pmg_fence.specs.Entering.{same_proc}
use Rattle.pmg_fence.proofs.EntryLemmas.{proc_itself}
use Rattle.pmg_fence.proofs.Trees.{get_put}
use Rattle.pmg_jobinfo.specs.Jobs.{Jobs}
use Rattle.pmg_dmodex.specs.Refreshes.{Refreshes, requested, asker_for, asker_at, answered}
use Rattle.pmg_get.specs.declared.view.Mode.TheVariants as modes
use Rattle.pmg_node_parts.specs.Answered.{ArePlainAnew, IsAsker}
use Rattle.pmg_node_parts.specs.Codes.{Calls}
use Rattle.pmg_node_model.specs.Holdings.{Get, CallState, NodeState, answer_in, mapped, settle, is_replied, answer_reply}
use Rattle.pmg_node_model.specs.Kept.{is_about, settle_where}
use Rattle.pmg_node_model.proofs.KeptBasics.{put_cases, get-mapped, mapped_some}
use Rattle.pmg_node_model.proofs.KeptChanges.{settle_refreshing, reply_refreshing}
use Rattle.pmg_node.specs.Content.{AreOpen}

-- ---- as it is

pub open_plain : (calls : Calls) (anew : Refreshes) → AreOpen calls anew → ArePlainAnew calls
open_plain calls anew are p get number e = (are p get number e).0

replied_to : (number waits_for : ℕ) (q : Proc) (get : Get) → is_replied number q get waits_for ≡ true → (waits_for ≡ number) × (get.target ≡ q)
replied_to number waits_for q get is =
    let parts = and_parts (waits_for == number) (same_proc get.target q) is in (eqb-true waits_for number parts.0, tied get.target q parts.1)

pub open_asker : (calls : Calls) (anew : Refreshes) → AreOpen calls anew → (number : ℕ) (q : Proc) → IsAsker calls (asker_at anew number q) number q
open_asker calls anew are number q p get waits_for e is =
    let its = replied_to number waits_for q get is in (λ i. asker_at anew (sym its.0 i) (sym its.1 i)) ∙ (are p get waits_for e).1

-- ---- once a get asked anew

same_number : (k n : ℕ) → eq_by_cmp nat_cmp k n ≡ true → k ≡ n
same_number k n is = nat_cmp-IsAntisymmetric k n ((Equal-is _).0 is)

-- the next request is the asker's, and each before is whose it was
next_asker : (anew : Refreshes) (p target : Proc) → asker_at (requested anew p target) (suc anew.last) target ≡ Some p
next_asker anew p target =
    ap (asker_for target) (get_put nat_cmp_total nat_cmp-IsAntisymmetric anew.waiting (suc anew.last) (p, target))
    ∙ ap (λ (b : Bool). cond b (Some p) None) (proc_itself target)

same_asker : (anew : Refreshes) (p target q : Proc) (k : ℕ) → k ≤ anew.last → asker_at (requested anew p target) k q ≡ asker_at anew k q
same_asker anew p target q k low =
    ap (asker_for q) (finite.get-insert nat_cmp_total anew.waiting (suc anew.last) (p, target) k ∙ by_test (eq_by_cmp nat_cmp k (suc anew.last)) refl)
  where
    not_next : (k last : ℕ) → k ≤ last → k ≡ suc last → ⊥
    not_next k last low is = omega (arith, low, is)

    by_test : (b : Bool) → eq_by_cmp nat_cmp k (suc anew.last) ≡ b → cond b (Some (p, target)) (finite.get anew.waiting k) ≡ finite.get anew.waiting k
    by_test true is = absurd (not_next k anew.last low (same_number k (suc anew.last) is))
    by_test false is = refl

one_call : (get other : Get) (n k : ℕ) → CallState.refreshing get n ≡ CallState.refreshing other k → (get ≡ other) × (n ≡ k)
one_call get other n k is = (cc, cc)

pub asked_open : (calls : Calls) (anew : Refreshes) → AreOpen calls anew
    → ((p : Proc) (get : Get) (number : ℕ) → finite.get calls p ≡ Some (CallState.refreshing get number) → number ≤ anew.last)
    → (p : Proc) (get : Get) → is_reserved get.key ≡ false → AreOpen (finite.insert calls p (CallState.refreshing get (suc anew.last))) (requested anew p get.target)
asked_open calls anew are low p get plain q other k e =
    put_cases calls p q (CallState.refreshing get (suc anew.last)) (CallState.refreshing other k) e
    (λ same is.
    let its = one_call get other (suc anew.last) k is in (
      ap (λ (x : Get). is_reserved x.key) (sym its.0) ∙ plain,
      (λ i. asker_at (requested anew p get.target) (sym its.1 i) (sym its.0 i).target) ∙ next_asker anew p get.target ∙ ap Some (sym same),
    ))
    (λ old.
    let its = are q other k old in
    (its.0, same_asker anew p get.target other.target k (low q other k old) ∙ its.1))

-- ---- once a reply is taken

one_target : (o : Option (Proc × Proc)) (q t p : Proc) → is_some (asker_for q o) ≡ true → asker_for t o ≡ Some p → t ≡ q
one_target None q t p some is = absurd cc
one_target (Some asked) q t p some is = by_tests (same_proc asked.1 q) refl (same_proc asked.1 t) refl some is
  where
    by_tests : (a : Bool) → same_proc asked.1 q ≡ a → (b : Bool) → same_proc asked.1 t ≡ b → is_some (cond a (Some asked.0) None) ≡ true → cond b (Some asked.0) None ≡ Some p → t ≡ q
    by_tests true one true other some is = sym (tied asked.1 t other) ∙ tied asked.1 q one
    by_tests true one false other some is = absurd cc
    by_tests false one b other some is = absurd cc

-- a request that is not answered so is open still
pub still_asked : (anew : Refreshes) (number k : ℕ) (q : Proc) (get : Get) (p : Proc) → is_replied number q get k ≡ false → asker_at anew k get.target ≡ Some p
    → asker_at (answered anew number q) k get.target ≡ Some p
still_asked anew number k q get p other is = by_test (is_some (asker_at anew number q)) refl
  where
    is_it : get.target ≡ q → k ≡ number → is_replied number q get k ≡ true
    is_it target same = and_from (k == number) (same_proc get.target q) (eq-eqb k number same) (ap (same_proc get.target) (sym target) ∙ proc_itself get.target)

    removed : (b : Bool) → eq_by_cmp nat_cmp k number ≡ b → is_some (asker_at anew number q) ≡ true → asker_for get.target (cond b None (finite.get anew.waiting k)) ≡ Some p
    removed true same some =
        let its = same_number k number same in
        let target = one_target (finite.get anew.waiting number) q get.target p some (ap (λ (n : ℕ). asker_at anew n get.target) (sym its) ∙ is) in
        absurd (false≢true (sym other ∙ is_it target its))
    removed false apart some = is

    by_test : (b : Bool) → is_some (asker_at anew number q) ≡ b
        → asker_at (if b then record { last = anew.last; waiting = finite.remove anew.waiting number } else anew) k get.target ≡ Some p
    by_test true some =
        ap (asker_for get.target) (finite.get-remove nat_cmp_total anew.waiting number k) ∙ removed (eq_by_cmp nat_cmp k number) refl some
    by_test false none = is

-- no number is given by an answer
pub last_answered : (anew : Refreshes) (number : ℕ) (q : Proc) → (answered anew number q).last ≡ anew.last
last_answered anew number q = by_test (is_some (asker_at anew number q))
  where
    by_test : (b : Bool) → (if b then record { last = anew.last; waiting = finite.remove anew.waiting number } else anew).last ≡ anew.last
    by_test true = refl
    by_test false = refl

module _ (jobs : Jobs) (id : ℕ) (h : NodeState) (number : ℕ) (q : Proc) where
  not_replied : (get : Get) (k : ℕ) → answer_reply jobs id h number q (CallState.refreshing get k) ≡ CallState.refreshing get k → is_replied number q get k ≡ false
  not_replied get k is = by_test (is_replied number q get k) is
    where
      by_test : (b : Bool) → (if b then CallState.refreshed get (answer_in jobs id h get modes.Now) else CallState.refreshing get k) ≡ CallState.refreshing get k → b ≡ false
      by_test true is = absurd cc
      by_test false is = refl

  later_refreshing : (t : CallState) (get : Get) (k : ℕ) → settle_where jobs id h (is_about q) t ≡ CallState.refreshing get k → t ≡ CallState.refreshing get k
  later_refreshing t get k is = by_test (is_about q t) is
    where
      by_test : (b : Bool) → (if b then settle jobs id h t else t) ≡ CallState.refreshing get k → t ≡ CallState.refreshing get k
      by_test true is = settle_refreshing jobs id h t get k is
      by_test false is = is

  pub replied_open : (calls : Calls) (anew : Refreshes) → AreOpen calls anew
      → AreOpen (mapped (settle_where jobs id h (is_about q)) (mapped (answer_reply jobs id h number q) calls)) (answered anew number q)
  replied_open calls anew are p get k e =
      let replied = mapped (answer_reply jobs id h number q) calls in
      let was = mapped_some (settle_where jobs id h (is_about q)) (finite.get replied p) (CallState.refreshing get k) (sym (get-mapped (settle_where jobs id h (is_about q)) replied p) ∙ e) in
      let still = was.1 ∙ ap Some (later_refreshing was.0 get k was.2) in
      let before = mapped_some (answer_reply jobs id h number q) (finite.get calls p) (CallState.refreshing get k) (sym (get-mapped (answer_reply jobs id h number q) calls p) ∙ still) in
      let same = reply_refreshing jobs id h number q before.0 get k before.2 in
      let its = are p get k (before.1 ∙ ap Some same) in
      (its.0, still_asked anew number k q get p (not_replied get k (ap (answer_reply jobs id h number q) (sym same) ∙ before.2)) its.1)
