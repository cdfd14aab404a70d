-- How a process's entries come with its calls, and stay.
use Rattle.std.proofs.Common.{◌≡◌, ℕ, zero, suc, Bool, true, false, ◌==◌, cond, List, [], ◌∷◌, ◌++◌, Option, Some, None, refl, sym, ap, ◌∙◌, arith}
use Rattle.std.specs.Option.{option_map}
use Rattle.std.specs.Ordering.{is_eq}
use Rattle.std.proofs.lemmas.Bool.Decides.{nat_tests}
use Rattle.std.proofs.lemmas.Cmp.{tied_itself}
use Rattle.pmg_value.specs.Signatures.{Signature}
use Rattle.pmg_value.specs.declared.process.Proc.{Proc}
use Rattle.pmg_value.proofs.ProcessOrder.{procs_total}
use Rattle.pmg_scope.specs.declared.scope.Scope.{Scope}
use Rattle.pmg_scope.specs.Scripts.{Call, Script, has_end, count_commits, commits}
use Rattle.pmg_scope.proofs.ScriptLaws.{by_end, end_is_last}
use Rattle.pmg_frame.specs.FenceOrder.{signature_total}
use Rattle.pmg_fence.specs.Entering.{same_proc, same_signature, enters, level_before, level_at_end, entry_by, entry}
use Rattle.pmg_fence.specs.Rules.{EntryStays}

pub proc_itself : (p : Proc) → same_proc p p ≡ true
proc_itself p = ap is_eq (tied_itself procs_total p)

pub signature_itself : (g : Signature) → same_signature g g ≡ true
signature_itself g = ap is_eq (tied_itself signature_total g)

pub not_zero : (n : ℕ) → (suc n == 0) ≡ false
not_zero n = grind (arith, nat_tests)

-- ---- the end

pub has_end_more : (s t : Script) → has_end s ≡ true → has_end (s ++ t) ≡ true
has_end_more [] t e = absurd cc
has_end_more (Call.put scope key value ∷ cs) t e = has_end_more cs t e
has_end_more (Call.commit ∷ cs) t e = has_end_more cs t e
has_end_more (Call.enter h ∷ cs) t e = has_end_more cs t e
has_end_more (Call.terminate ∷ cs) t e = refl

pub has_end_next : (s t : Script) → has_end s ≡ false → has_end (s ++ t) ≡ has_end t
has_end_next [] t e = refl
has_end_next (Call.put scope key value ∷ cs) t e = has_end_next cs t e
has_end_next (Call.commit ∷ cs) t e = has_end_next cs t e
has_end_next (Call.enter h ∷ cs) t e = has_end_next cs t e
has_end_next (Call.terminate ∷ cs) t e = absurd cc

-- ---- how often it entered

two_tests : (a b : Bool) (n : ℕ) → cond a (suc (cond b (suc n) n)) (cond b (suc n) n) ≡ cond b (suc (cond a (suc n) n)) (cond a (suc n) n)
two_tests true true n = refl
two_tests true false n = refl
two_tests false true n = refl
two_tests false false n = refl

pub enters_enter : (s : Script) (h g : Signature) → has_end s ≡ false → enters (s ++ Call.enter h ∷ []) g ≡ cond (same_signature g h) (suc (enters s g)) (enters s g)
enters_enter [] h g e = refl
enters_enter (Call.put scope key value ∷ cs) h g e = enters_enter cs h g e
enters_enter (Call.commit ∷ cs) h g e = enters_enter cs h g e
enters_enter (Call.enter i ∷ cs) h g e =
    ap (λ n. cond (same_signature g i) (suc n) n) (enters_enter cs h g e) ∙ two_tests (same_signature g i) (same_signature g h) (enters cs g)
enters_enter (Call.terminate ∷ cs) h g e = absurd cc

-- calls that enter nothing
pub data Idle : Call → Type 0 where
  puts : (scope : Scope) (key value : List ℕ) → Idle (Call.put scope key value)
  commits_now : Idle Call.commit
  ends_now : Idle Call.terminate

pub enters_idle : (s : Script) (call : Call) (g : Signature) → Idle call → enters (s ++ call ∷ []) g ≡ enters s g
enters_idle [] (Call.put scope key value) g i = refl
enters_idle [] Call.commit g i = refl
enters_idle [] Call.terminate g i = refl
enters_idle [] (Call.enter h) g i = elim i [ ]
enters_idle (Call.put scope key value ∷ cs) call g i = enters_idle cs call g i
enters_idle (Call.commit ∷ cs) call g i = enters_idle cs call g i
enters_idle (Call.enter h ∷ cs) call g i = ap (λ n. cond (same_signature g h) (suc n) n) (enters_idle cs call g i)
enters_idle (Call.terminate ∷ cs) call g i = refl

-- ---- the levels at which it entered

-- where nothing more counts, neither as an entry nor behind an end
level_same : (s t : Script) → (has_end s ≡ false → (g : Signature) (k : ℕ) → level_before t g k ≡ None) → (g : Signature) (k : ℕ) → level_before (s ++ t) g k ≡ level_before s g k
unfolding level_before
level_same [] t none g k = none refl g k
level_same (Call.put scope key value ∷ cs) t none g k = level_same cs t none g k
level_same (Call.commit ∷ cs) t none g k = ap (option_map suc) (level_same cs t none g k)
level_same (Call.enter h ∷ cs) t none g zero = refl
level_same (Call.enter h ∷ cs) t none g (suc k) =
    (λ j. cond (same_signature g h) (cond (k == 0) (Some 0) (level_same cs t none g k j)) (level_same cs t none g (suc k) j))
level_same (Call.terminate ∷ cs) t none g k = refl

level_alone : (call : Call) → Idle call → (g : Signature) (k : ℕ) → level_before (call ∷ []) g k ≡ None
unfolding level_before
level_alone (Call.put scope key value) i g k = refl
level_alone Call.commit i g k = refl
level_alone Call.terminate i g k = refl
level_alone (Call.enter h) i g k = elim i [ ]

pub level_idle : (s : Script) (call : Call) (g : Signature) (k : ℕ) → Idle call → level_before (s ++ call ∷ []) g k ≡ level_before s g k
level_idle s call g k i = level_same s (call ∷ []) (λ live. level_alone call i) g k

-- the next entry is at the level
pub level_entered : (s : Script) (g : Signature) → has_end s ≡ false → level_before (s ++ Call.enter g ∷ []) g (suc (enters s g)) ≡ Some (count_commits s)
unfolding level_before
level_entered [] g e = rw (signature_itself g) refl
level_entered (Call.put scope key value ∷ cs) g e = level_entered cs g e
level_entered (Call.commit ∷ cs) g e = ap (option_map suc) (level_entered cs g e)
level_entered (Call.enter i ∷ cs) g e =
    let n = enters cs g in
    let ds = cs ++ Call.enter g ∷ [] in
    let below : level_before ds g (suc n) ≡ Some (count_commits cs) = level_entered cs g e in
    elim (same_signature g i) as (λ b. cond b (cond (cond b (suc n) n == 0) (Some 0) (level_before ds g (cond b (suc n) n))) (level_before ds g (suc (cond b (suc n) n))) ≡ Some (count_commits cs)) [
      | true ↦ ap (λ c. cond c (Some 0) (level_before ds g (suc n))) (not_zero n) ∙ below
      | false ↦ below
    ]
level_entered (Call.terminate ∷ cs) g e = absurd cc

is_zero : (n : ℕ) → (n == 0) ≡ true → n ≡ 0
is_zero n z = grind (arith, nat_tests)

first_only : (b : Bool) (k : ℕ) → (b ≡ true → suc k ≡ suc 0 → ⊥) → ◌≡◌ {A = Option ℕ} (cond b (cond (k == 0) (Some 0) None) None) None
first_only false k apart = refl
first_only true k apart = by_zero (k == 0) refl
  where
    by_zero : (c : Bool) → (k == 0) ≡ c → ◌≡◌ {A = Option ℕ} (cond c (Some 0) None) None
    by_zero true z = absurd (apart refl (ap suc (is_zero k z)))
    by_zero false z = refl

-- and all others are as they were
pub level_other : (s : Script) (h g : Signature) (k : ℕ) → has_end s ≡ false → (same_signature g h ≡ true → k ≡ suc (enters s g) → ⊥)
    → level_before (s ++ Call.enter h ∷ []) g k ≡ level_before s g k
unfolding level_before
level_other [] h g zero e apart = refl
level_other [] h g (suc k) e apart = first_only (same_signature g h) k apart
level_other (Call.put scope key value ∷ cs) h g k e apart = level_other cs h g k e apart
level_other (Call.commit ∷ cs) h g k e apart = ap (option_map suc) (level_other cs h g k e apart)
level_other (Call.enter i ∷ cs) h g zero e apart = refl
level_other (Call.enter i ∷ cs) h g (suc k) e apart =
    let n = enters cs g in
    let ds = cs ++ Call.enter h ∷ [] in
    elim (same_signature g i) as (λ b. (same_signature g h ≡ true → suc k ≡ suc (cond b (suc n) n) → ⊥)
    → cond b (cond (k == 0) (Some 0) (level_before ds g k)) (level_before ds g (suc k)) ≡ cond b (cond (k == 0) (Some 0) (level_before cs g k)) (level_before cs g (suc k))) [
      | true ↦ λ far_off. ap (cond (k == 0) (Some 0)) (level_other cs h g k e (λ t z. far_off t (ap suc z)))
      | false ↦ λ far_off. level_other cs h g (suc k) e far_off
    ] apart
level_other (Call.terminate ∷ cs) h g k e apart = absurd cc

still_some : (o p : Option ℕ) (l : ℕ) → ((m : ℕ) → o ≡ Some m → p ≡ Some m) → option_map suc o ≡ Some l → option_map suc p ≡ Some l
still_some None p l same h = absurd cc
still_some (Some m) p l same h = ap (option_map suc) (same m refl) ∙ h

still_there : (b c : Bool) (o p x y : Option ℕ) (l : ℕ) → ((m : ℕ) → o ≡ Some m → p ≡ Some m) → ((m : ℕ) → x ≡ Some m → y ≡ Some m)
    → cond b (cond c (Some 0) o) x ≡ Some l → cond b (cond c (Some 0) p) y ≡ Some l
still_there true true o p x y l one other h = h
still_there true false o p x y l one other h = one l h
still_there false c o p x y l one other h = other l h

pub level_stays : (s t : Script) (g : Signature) (k l : ℕ) → level_before s g k ≡ Some l → level_before (s ++ t) g k ≡ Some l
unfolding level_before
level_stays [] t g k l h = absurd cc
level_stays (Call.put scope key value ∷ cs) t g k l h = level_stays cs t g k l h
level_stays (Call.commit ∷ cs) t g k l h = still_some (level_before cs g k) (level_before (cs ++ t) g k) l (level_stays cs t g k) h
level_stays (Call.enter i ∷ cs) t g zero l h = absurd cc
level_stays (Call.enter i ∷ cs) t g (suc k) l h =
    still_there (same_signature g i) (k == 0) (level_before cs g k) (level_before (cs ++ t) g k) (level_before cs g (suc k)) (level_before (cs ++ t) g (suc k)) l
    (level_stays cs t g k) (level_stays cs t g (suc k)) h
level_stays (Call.terminate ∷ cs) t g k l h = absurd cc

-- nothing counts after an end
pub level_still : (s t : Script) (g : Signature) (k : ℕ) → has_end s ≡ true → level_before (s ++ t) g k ≡ level_before s g k
level_still s t g k e = level_same s t (λ live. absurd (apart (sym e ∙ live))) g k
  where
    apart : true ≡ false → ⊥
    apart z = cc

pub end_still : (s t : Script) → has_end s ≡ true → level_at_end (s ++ t) ≡ level_at_end s
end_still s t e = (λ i. cond (has_end_more s t e i) (Some (end_is_last s t e i)) None) ∙ ap (λ b. cond b (Some (commits s)) None) (sym e)

pub no_end : (s : Script) → has_end s ≡ false → level_at_end s ≡ None
no_end s e = ap (λ b. cond b (Some (commits s)) None) e

pub entry_stays : EntryStays
unfolding entry
entry_stays s t f e h = by_level (level_before s f.signature f.instance) refl
  where
    no_level : level_before s f.signature f.instance ≡ None → entry_by (level_before (s ++ t) f.signature f.instance) (level_at_end (s ++ t)) ≡ Some e
    no_level none = by_end s
        (λ over. (λ i. entry_by (level_still s t f.signature f.instance over i) (end_still s t over i)) ∙ h)
        (λ live. absurd (none_some (sym (λ i. entry_by (none i) (no_end s live i)) ∙ h)))
      where
        none_some : None ≡ Some e → ⊥
        none_some z = cc

    by_level : (o : Option ℕ) → level_before s f.signature f.instance ≡ o → entry_by (level_before (s ++ t) f.signature f.instance) (level_at_end (s ++ t)) ≡ Some e
    by_level (Some l) is = ap (λ o. entry_by o (level_at_end (s ++ t))) (level_stays s t f.signature f.instance l is) ∙ sym (ap (λ o. entry_by o (level_at_end s)) is) ∙ h
    by_level None is = no_level is
