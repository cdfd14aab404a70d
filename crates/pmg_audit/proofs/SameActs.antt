-- The tests of sameness decide whether two acts are one, and two replies.
use Rattle.std.proofs.Common.{◌≡◌, ℕ, Bool, true, false, ◌&&◌, ◌==◌, List, [], ◌∷◌, get_or, refl, sym, ap, subst, ◌∙◌, rules}
use Rattle.std.specs.Bool.{Decides}
use Rattle.std.specs.Cmp.Lexicographic.{slice_cmp, nat_list_cmp_total, pointwise_decides, bytes_decides}
use Rattle.std.specs.Ordering.{nat_cmp}
use Rattle.std.proofs.lemmas.Bool.Decides.{Decides-eqb, Decides-and, Decides-like}
use Rattle.std.proofs.lemmas.Map.Lookups.{exact_bytes}
use Rattle.pmg_value.specs.Process.{is_same_proc}
use Rattle.pmg_value.specs.Refusals.{number_of}
use Rattle.pmg_value.specs.contracts.refusal.CausePartialEq.TheImpl as cause_tests
use Rattle.pmg_value.specs.contracts.refusal.Cause.{the_type as the_causes}
use Rattle.pmg_value.specs.declared.process.Proc.{Proc}
use Rattle.pmg_value.specs.declared.refusal.Cause.{Cause}
use Rattle.pmg_value.specs.declared.refusal.Cause.TheVariants as causes
use Rattle.pmg_value.specs.declared.refusal.Fault.{Fault}
use Rattle.pmg_value.specs.declared.refusal.Refusal.{Refusal}
use Rattle.pmg_value.specs.declared.refusal.Refusal.TheVariants as refusals
use Rattle.pmg_value.proofs.SameLemmas.{by_cmp}
use Rattle.pmg_frame.proofs.SameLemmas.{same_procs}
use Rattle.pmg_get.specs.contracts.view.ModePartialEq.TheImpl as mode_tests
use Rattle.pmg_get.specs.contracts.view.Mode.{the_type as the_modes}
use Rattle.pmg_get.specs.declared.view.Mode.{Mode}
use Rattle.pmg_get.specs.declared.view.Mode.TheVariants as modes
use Rattle.pmg_node_model.specs.Acts.{Reply, Request}
use Rattle.pmg_node_model.specs.Holdings.{Get}
use Rattle.pmg_audit.specs.Sameness.{are_same_procs, is_same_flag, is_same_refusal, is_same_reply, is_same_request, is_same_text, is_same_value}
use denote.Enum.Bare.{same_true}

same_flags : (b c : Bool) → Decides (is_same_flag b c) (b ≡ c)
same_flags true true = (λ h. refl, λ e. refl)
same_flags true false = (λ h. absurd cc, λ e. absurd cc)
same_flags false true = (λ h. absurd cc, λ e. absurd cc)
same_flags false false = (λ h. refl, λ e. refl)

mode_itself : (m : Mode) → mode_tests.ghosts.eq m m ≡ true
mode_itself modes.Wait = refl
mode_itself m = refl

same_modes : (m n : Mode) → Decides (mode_tests.ghosts.eq m n) (m ≡ n)
same_modes m n = (λ h. same_true the_modes (search rules) m n h, λ e. subst (λ (x : Mode). mode_tests.ghosts.eq m x ≡ true) e (mode_itself m))

same_lists : (ps qs : List Proc) → Decides (are_same_procs ps qs) (ps ≡ qs)
same_lists ps qs = pointwise_decides same_procs ps qs

same_texts : (s t : List ℕ) → Decides (is_same_text s t) (s ≡ t)
same_texts s t = bytes_decides s t

same_values : (v w : List ℕ) → Decides (is_same_value v w) (v ≡ w)
same_values v w = by_cmp (slice_cmp nat_cmp) nat_list_cmp_total exact_bytes v w

-- two tests at once
both : {A B C : Type 0} (s t : Bool) → Decides s A → Decides t B → (A → B → C) → (C → A × B) → Decides (s && t) C
both s t one other forth back = Decides-like _ (λ h. forth h.0 h.1) back (Decides-and s t one other)

-- ---- requests

pub same_requests : (q r : Request) → Decides (is_same_request q r) (q ≡ r)
unfolding is_same_request
same_requests (Request.enter p list collect) (Request.enter q others other) =
    both (is_same_proc p q) (are_same_procs list others && is_same_flag collect other) (same_procs p q)
    (Decides-and (are_same_procs list others) (is_same_flag collect other) (same_lists list others) (same_flags collect other))
    (λ one rest. (λ i. Request.enter (one i) (rest.0 i) (rest.1 i))) (λ e. (cc, (cc, cc)))
same_requests (Request.leave p) (Request.leave q) = Decides-like _ (λ h. ap (λ (x : Proc). Request.leave x) h) (λ e. cc) (same_procs p q)
same_requests (Request.ask p get mode) (Request.ask q other how) =
    both (is_same_proc p q) (is_same_proc get.target other.target && (is_same_text get.key other.key && mode_tests.ghosts.eq mode how)) (same_procs p q)
    (Decides-and (is_same_proc get.target other.target) (is_same_text get.key other.key && mode_tests.ghosts.eq mode how) (same_procs get.target other.target)
    (Decides-and (is_same_text get.key other.key) (mode_tests.ghosts.eq mode how) (same_texts get.key other.key) (same_modes mode how)))
    (λ one rest. (λ i. Request.ask (one i) (record { target = rest.0 i; key = rest.1.0 i }) (rest.1.1 i))) (λ e. asked e)
  where
    asked : Request.ask p get mode ≡ Request.ask q other how → (p ≡ q) × ((get.target ≡ other.target) × ((get.key ≡ other.key) × (mode ≡ how)))
    asked e =
        let one : p ≡ q = cc in
        let two : get ≡ other = cc in
        let three : mode ≡ how = cc in
        (one, (ap (λ (g : Get). g.target) two, (ap (λ (g : Get). g.key) two, three)))
same_requests (Request.take p) (Request.take q) = Decides-like _ (λ h. ap (λ (x : Proc). Request.take x) h) (λ e. cc) (same_procs p q)
same_requests (Request.terminate p) (Request.terminate q) = Decides-like _ (λ h. ap (λ (x : Proc). Request.terminate x) h) (λ e. cc) (same_procs p q)
same_requests (Request.define name list) (Request.define other others) =
    both (is_same_text name other) (are_same_procs list others) (same_texts name other) (same_lists list others) (λ one two. (λ i. Request.define (one i) (two i))) (λ e. (cc, cc))
same_requests (Request.delete name) (Request.delete other) = Decides-like _ (λ h. ap (λ (x : List ℕ). Request.delete x) h) (λ e. cc) (same_texts name other)
same_requests Request.nudge Request.nudge = (λ h. refl, λ e. refl)
same_requests q r = (λ h. absurd cc, λ e. absurd cc)

-- ---- refusals

cause_itself : (s : Cause) → cause_tests.ghosts.eq s s ≡ true
cause_itself causes.Version = refl
cause_itself s = refl

same_causes : (s t : Cause) → Decides (cause_tests.ghosts.eq s t) (s ≡ t)
same_causes s t = (λ h. same_true the_causes (search rules) s t h, λ e. subst (λ (x : Cause). cause_tests.ghosts.eq s x ≡ true) e (cause_itself s))

same_faults : (f g : Fault) → Decides (f.offset == g.offset && cause_tests.ghosts.eq f.cause g.cause) (refusals.BadFrame f ≡ refusals.BadFrame g)
same_faults f g =
    both (f.offset == g.offset) (cause_tests.ghosts.eq f.cause g.cause) (Decides-eqb f.offset g.offset) (same_causes f.cause g.cause)
    (λ one two. (λ i. refusals.BadFrame (record { offset = one i; cause = two i }))) (λ e. of_fault e)
  where
    of_fault : refusals.BadFrame f ≡ refusals.BadFrame g → (f.offset ≡ g.offset) × (f.cause ≡ g.cause)
    of_fault e = let same : f ≡ g = cc in (ap (λ (x : Fault). x.offset) same, ap (λ (x : Fault). x.cause) same)

-- the refusal of the number, where that is not 10
numbered : ℕ → Refusal
numbered n =
    get_or
    (refusals.NoMemory ∷ refusals.BadParam ∷ refusals.NotFound ∷ refusals.OutsideScope ∷ refusals.UnknownNamespace ∷ refusals.NotMine ∷ refusals.Busy ∷ refusals.Terminated ∷ refusals.NotAParticipant
    ∷ refusals.TooMany ∷ refusals.Closed ∷ refusals.Exists ∷ refusals.Collision ∷ refusals.Stale ∷ refusals.Unordered ∷ []) n refusals.Closed

numbered_is : (f : Refusal) → (number_of f == 10) ≡ false → numbered (number_of f) ≡ f
unfolding numbered
numbered_is (refusals.BadFrame f) e = absurd cc
numbered_is f e = refl

by_number : (e f : Refusal) → (number_of e == 10) ≡ false → Decides (number_of e == number_of f) (e ≡ f)
by_number e f not_ten = Decides-like _
    (λ same. sym (numbered_is e not_ten) ∙ ap numbered same ∙ numbered_is f (subst (λ n. (n == 10) ≡ false) same not_ten))
    (λ is. ap number_of is) (Decides-eqb (number_of e) (number_of f))

pub same_refusals : (e f : Refusal) → Decides (is_same_refusal e f) (e ≡ f)
unfolding is_same_refusal
same_refusals (refusals.BadFrame f) (refusals.BadFrame g) = same_faults f g
same_refusals (refusals.BadFrame f) g = (λ h. absurd cc, λ e. absurd cc)
same_refusals e f = by_number e f refl

-- ---- replies

pub same_replies : (r s : Reply) → Decides (is_same_reply r s) (r ≡ s)
unfolding is_same_reply
same_replies (Reply.refused e) (Reply.refused f) = Decides-like _ (λ h. ap (λ (x : Refusal). Reply.refused x) h) (λ is. cc) (same_refusals e f)
same_replies Reply.done Reply.done = (λ h. refl, λ e. refl)
same_replies (Reply.committed n) (Reply.committed m) = Decides-like _ (λ h. ap Reply.committed h) (λ is. cc) (Decides-eqb n m)
same_replies (Reply.entered n) (Reply.entered m) = Decides-like _ (λ h. ap Reply.entered h) (λ is. cc) (Decides-eqb n m)
same_replies Reply.idle Reply.idle = (λ h. refl, λ e. refl)
same_replies Reply.waiting Reply.waiting = (λ h. refl, λ e. refl)
same_replies (Reply.released n gone) (Reply.released m others) =
    both (n == m) (are_same_procs gone others) (Decides-eqb n m) (same_lists gone others) (λ one two. (λ i. Reply.released (one i) (two i))) (λ e. (cc, cc))
same_replies (Reply.found v) (Reply.found w) = Decides-like _ (λ h. ap Reply.found h) (λ is. cc) (same_values v w)
same_replies Reply.parked Reply.parked = (λ h. refl, λ e. refl)
same_replies Reply.taken Reply.taken = (λ h. refl, λ e. refl)
same_replies Reply.ignored Reply.ignored = (λ h. refl, λ e. refl)
same_replies (Reply.ended n) (Reply.ended m) = Decides-like _ (λ h. ap Reply.ended h) (λ is. cc) (Decides-eqb n m)
same_replies (Reply.defined n) (Reply.defined m) = Decides-like _ (λ h. ap Reply.defined h) (λ is. cc) (Decides-eqb n m)
same_replies r s = (λ h. absurd cc, λ e. absurd cc)
