-- The scripts once a process has made some calls.
use Rattle.std.proofs.Common.{◌≡◌, ℕ, suc, Bool, true, false, cond, List, [], ◌∷◌, ◌++◌, Some, refl, sym, ap, subst, ◌∙◌}
use Rattle.std.specs.Option.{option_map}
use Rattle.std.proofs.lemmas.List.{append_assoc}
use Rattle.pmg_value.specs.Signatures.{Signature}
use Rattle.pmg_value.specs.declared.process.Proc.{Proc}
use Rattle.pmg_scope.specs.Scripts.{Call, Script, has_end}
use Rattle.pmg_scope.specs.declared.scope.Scope.TheVariants as scopes
use Rattle.pmg_pset.specs.Changes.{Change, script_of}
use Rattle.pmg_jobinfo.specs.Jobs.{Jobs, home_of}
use Rattle.pmg_fence.specs.Entering.{same_proc, enters}
use Rattle.pmg_fence.specs.Rules.{FitsTable, Scripts, Grows, with_call}
use Rattle.pmg_fence.specs.Tables.{Fences, fence_of}
use Rattle.pmg_fence.proofs.EntryLemmas.{proc_itself, signature_itself, enters_enter}
use Rattle.pmg_fence.proofs.HeaderLemmas.{by_proc}
use Rattle.pmg_fence.proofs.LineLemmas.{append_empty}
use Rattle.pmg_fence.proofs.StepLemmas.{others_fit}
use Rattle.pmg_node_model.specs.Acts.{said_by}
use Rattle.pmg_node_model.specs.Fitting.{with_said, later_signature, last_signature, last_fence}

-- what holds of the script of the one who spoke, with its calls, and of all others, holds of all scripts then
pub each_said : (scripts : Scripts) (p : Proc) (calls : Script) (P : Proc → Script → Type 0) → P p (scripts p ++ calls)
    → ((q : Proc) → same_proc q p ≡ false → P q (scripts q)) → (q : Proc) → P q (with_said scripts (said_by p calls) q)
each_said scripts p calls P one other q = by_proc q p
    (λ e. subst (λ r. P r (with_said scripts (said_by p calls) r)) (sym e) (subst (λ b. P p (cond b (scripts p ++ calls) (scripts p))) (sym (proc_itself p)) one))
    (λ e. subst (λ b. P q (cond b (scripts q ++ calls) (scripts q))) (sym e) (other q e))

grown_by : (b : Bool) (s calls : Script) → (later : Script) × (cond b (s ++ calls) s ≡ s ++ later)
grown_by true s calls = (calls, refl)
grown_by false s calls = ([], sym (append_empty s))

pub said_grows : (scripts : Scripts) (p : Proc) (calls : Script) → Grows scripts (with_said scripts (said_by p calls))
said_grows scripts p calls q = grown_by (same_proc q p) (scripts q) calls

pub same_grows : (scripts : Scripts) → Grows scripts scripts
same_grows scripts q = ([], sym (append_empty (scripts q)))

pub script_said : (scripts : Scripts) (p : Proc) (calls : Script) → with_said scripts (said_by p calls) p ≡ scripts p ++ calls
script_said scripts p calls = ap (λ b. cond b (scripts p ++ calls) (scripts p)) (proc_itself p)

-- ---- one call after the other

twice : (b : Bool) (s : Script) (c : Call) (cs : Script) → cond b (cond b (s ++ c ∷ []) s ++ cs) (cond b (s ++ c ∷ []) s) ≡ cond b (s ++ c ∷ cs) s
twice true s c cs = append_assoc s (c ∷ []) cs
twice false s c cs = refl

pub said_more : (scripts : Scripts) (p : Proc) (c : Call) (cs : Script) → with_said (with_call scripts p c) (said_by p cs) ≡ with_said scripts (said_by p (c ∷ cs))
said_more scripts p c cs = λ i q. twice (same_proc q p) (scripts q) c cs i

none_said : (b : Bool) (s : Script) → cond b (s ++ []) s ≡ s
none_said true s = append_empty s
none_said false s = refl

pub said_nothing : (scripts : Scripts) (p : Proc) → with_said scripts (said_by p []) ≡ scripts
said_nothing scripts p = λ i q. none_said (same_proc q p) (scripts q) i

-- the table of another node goes on fitting
pub table_elsewhere : (jobs : Jobs) (node : ℕ) (t : Fences) (p : Proc) → (home_of jobs p ≡ node → ⊥) → (calls : Script) (scripts : Scripts)
    → FitsTable jobs node scripts t → FitsTable jobs node (with_said scripts (said_by p calls)) t
table_elsewhere jobs node t p away [] scripts fits = subst (λ s. FitsTable jobs node s t) (sym (said_nothing scripts p)) fits
table_elsewhere jobs node t p away (c ∷ cs) scripts fits =
    subst (λ s. FitsTable jobs node s t) (said_more scripts p c cs) (table_elsewhere jobs node t p away cs (with_call scripts p c) (others_fit jobs node scripts t p c away fits))

-- ---- the host's process

pub host_goes_on : (cs : List Change) → has_end (script_of cs) ≡ false
host_goes_on [] = refl
host_goes_on (c ∷ cs) = host_goes_on cs

pub host_more : (cs : List Change) (c : Change) → script_of cs ++ script_of (c ∷ []) ≡ script_of (cs ++ c ∷ [])
host_more [] c = refl
host_more (d ∷ cs) c = ap (λ (s : Script). Call.put scopes.Global d.name d.bytes ∷ Call.commit ∷ s) (host_more cs c)

-- ---- the fence that was entered last

pub signature_entered : (s : Script) (g : Signature) → has_end s ≡ false → last_signature (s ++ Call.enter g ∷ []) ≡ Some g
signature_entered [] g live = refl
signature_entered (Call.put scope key value ∷ cs) g live = signature_entered cs g live
signature_entered (Call.commit ∷ cs) g live = signature_entered cs g live
signature_entered (Call.enter h ∷ cs) g live = ap (later_signature h) (signature_entered cs g live)
signature_entered (Call.terminate ∷ cs) g live = absurd cc

pub fence_entered : (s : Script) (g : Signature) → has_end s ≡ false → last_fence (s ++ Call.enter g ∷ []) ≡ Some (fence_of g (suc (enters s g)))
fence_entered s g live =
    ap (option_map (λ h. fence_of h (enters (s ++ Call.enter g ∷ []) h))) (signature_entered s g live)
    ∙ ap (λ n. Some (fence_of g n)) (enters_enter s g g live ∙ ap (λ b. cond b (suc (enters s g)) (enters s g)) (signature_itself g))
