-- A node keeps two instances of a signature, and those in which its processes wait.
use Rattle.std.proofs.Common.{◌≡◌, ◌≤◌, ◌<◌, ◌⊎◌, ℕ, zero, suc, Bool, true, false, ◌==◌, nat_lt, cond, [], ◌∷◌, Option, Some, None, inl, inr, refl, sym, ap, subst, ◌∙◌, arith}
use Rattle.std.specs.Option.{option_map}
use Rattle.std.proofs.lemmas.Bool.Decides.{nat_tests}
use Rattle.pmg_value.specs.Signatures.{Signature, FenceName}
use Rattle.pmg_value.specs.declared.process.Proc.{Proc}
use Rattle.pmg_scope.specs.Scripts.{Call, Script, has_end}
use Rattle.pmg_jobinfo.specs.Jobs.{Jobs}
use Rattle.pmg_fence.specs.Entering.{same_signature, enters, level_before, entry_by, entry}
use Rattle.pmg_fence.specs.Tables.{fence_of, is_old, has_name}
use Rattle.pmg_fence.specs.declared.entry.Entry.{Entry}
use Rattle.pmg_fence.proofs.EntryLemmas.{no_end}
use Rattle.pmg_node_model.specs.Fitting.{FitsCall, last_signature, last_fence}
use Rattle.pmg_node_model.specs.Holdings.{CallState, NodeState}
use Rattle.pmg_node_model.specs.Kept.{top_in}
use Rattle.pmg_node_model.specs.Sending.{WaitsIn}
use Rattle.pmg_group_model.specs.Forgetting.{KeepsTwo, KeepsWaiting}
use Rattle.pmg_group_model.specs.Laws.{Good}
use Rattle.pmg_group_model.specs.Turns.{Waits, Turned}
use Rattle.pmg_group_model.specs.Worlds.{World}
use Rattle.pmg_group_model.proofs.Runs.{always_good}
use Rattle.pmg_group_model.proofs.Turned.{always_turned}

-- ---- two of a signature

last_two : (k top : ℕ) → nat_lt (suc k) top ≡ false → k ≤ top → (k ≡ top) ⊎ (suc k ≡ top)
last_two k top keeps le = by_test (k == top) refl
  where
    by_test : (b : Bool) → (k == top) ≡ b → (k ≡ top) ⊎ (suc k ≡ top)
    by_test true is = inl (grind (arith, nat_tests))
    by_test false is = inr (grind (arith, nat_tests))

pub keeps_two : KeepsTwo
unfolding is_old
keeps_two jobs are xs w run node f has =
    let kept = (always_good jobs are xs w run).kept node f has in
    last_two f.instance (top_in (w.nodes node).table f.signature) kept.0 kept.1

-- ---- the one in which a process waits

before_one : (o : Option ℕ) (level : ℕ) → option_map suc o ≡ Some level → (n : ℕ) × (o ≡ Some n)
before_one None level e = absurd cc
before_one (Some n) level e = (n, refl)

one_more : (k n level : ℕ) (o p : Option ℕ) (b c : Bool) → (k == 0) ≡ c → (o ≡ Some level → k ≤ n) → (p ≡ Some level → suc k ≤ n) → cond b (cond c (Some 0) o) p ≡ Some level
    → suc k ≤ cond b (suc n) n
one_more k n level o p true true is before more e = grind (arith, nat_tests)
one_more k n level o p true false is before more e = let le = before e in omega (arith, le)
one_more k n level o p false c is before more e = more e

-- who made a k-th entry made k
pub level_some : (s : Script) (g : Signature) (k level : ℕ) → level_before s g k ≡ Some level → k ≤ enters s g
unfolding level_before
level_some [] g k level e = absurd cc
level_some (Call.put scope key value ∷ cs) g k level e = level_some cs g k level e
level_some (Call.commit ∷ cs) g k level e = let one = before_one (level_before cs g k) level e in level_some cs g k one.0 one.1
level_some (Call.enter h ∷ cs) g zero level e = absurd cc
level_some (Call.enter h ∷ cs) g (suc k) level e =
    one_more k (enters cs g) level (level_before cs g k) (level_before cs g (suc k)) (same_signature g h) (k == 0) refl (level_some cs g k level) (level_some cs g (suc k) level) e
level_some (Call.terminate ∷ cs) g k level e = absurd cc

-- the number of its last fence is how often it entered those
last_number : (s : Script) (f : FenceName) → last_fence s ≡ Some f → enters s f.signature ≡ f.instance
last_number s f is = by_signature (last_signature s) refl is
  where
    by_signature : (o : Option Signature) → last_signature s ≡ o → option_map (λ g. fence_of g (enters s g)) o ≡ Some f → enters s f.signature ≡ f.instance
    by_signature None none e = absurd cc
    by_signature (Some g) some e =
        let same : fence_of g (enters s g) ≡ f = cc in
        ap (λ (x : FenceName). enters s x.signature) (sym same) ∙ ap (λ (x : FenceName). x.instance) same

-- a process that has not ended stands to no fence past the last that it entered
not_entered : (s : Script) (g : Signature) (k : ℕ) (e : Entry) → has_end s ≡ false → enters s g ≡ k → entry s (fence_of g (suc k)) ≡ Some e → ⊥
unfolding entry
not_entered s g k e live last is = by_level (level_before s g (suc k)) refl (ap (entry_by (level_before s g (suc k))) (sym (no_end s live)) ∙ is)
  where
    by_level : (o : Option ℕ) → level_before s g (suc k) ≡ o → entry_by o None ≡ Some e → ⊥
    by_level (Some n) at z = let within = level_some s g (suc k) n at in absurd (omega (arith, last, within))
    by_level None at z = cc

waiting_kept : (jobs : Jobs) (w : World) → Good jobs w → Turned jobs w → (node : ℕ) (f : FenceName) (p : Proc) → WaitsIn jobs node (w.nodes node) f p → has_name (w.nodes node).table f ≡ true
unfolding is_old
waiting_kept jobs w good turned node f p in_it = waits.named (by_test (nat_lt (suc f.instance) top) refl)
  where
    h : NodeState
    h = w.nodes node

    top : ℕ
    top = top_in h.table f.signature

    waits : Waits w.scripts h.table p f
    waits = (turned.named node).calls p f in_it.1

    call : FitsCall (w.scripts p) (Some (CallState.in_fence f))
    call = subst (FitsCall (w.scripts p)) in_it.1 ((good.fits node).calls p in_it.0)

    by_test : (b : Bool) → nat_lt (suc f.instance) top ≡ b → b ≡ false
    by_test true below =
        let less : suc f.instance < top = grind (arith, nat_tests) in
        let entered = (turned.named node).tops f.signature (omega (arith, less)) in
        let many = level_some (w.scripts entered.0) f.signature top entered.1 entered.2 in
        let over = turned.turn entered.0 f.signature (suc f.instance) (omega arith) (omega (arith, less, many)) in
        let mine = over p waits.part in
        absurd (not_entered (w.scripts p) f.signature f.instance mine.0 call.1 (last_number (w.scripts p) f call.0) mine.1)
    by_test false keeps = refl

pub keeps_waiting : KeepsWaiting
keeps_waiting jobs are xs w run node f p in_it = waiting_kept jobs w (always_good jobs are xs w run) (always_turned jobs are xs w run) node f p in_it
