-- What is forgotten behind a change of a fence.
use Rattle.std.proofs.Common.{◌≡◌, ℕ, Bool, true, false, cond, List, refl, sym, ap, ◌∙◌}
use Rattle.std.specs.Ordering.{eq_by_cmp}
use Rattle.pmg_value.specs.Signatures.{FenceName}
use Rattle.pmg_value.specs.declared.process.Proc.{Proc}
use Rattle.pmg_frame.specs.FenceOrder.{name_cmp}
use Rattle.pmg_commit.specs.Data.{Data, level_at}
use Rattle.pmg_jobinfo.specs.Jobs.{Jobs}
use Rattle.pmg_fence.specs.Changes.{forgotten}
use Rattle.pmg_fence.specs.Tables.{Fences, gone_by}
use Rattle.pmg_fence.proofs.OldLemmas.{ready_young, gone-forgotten, ready-forgotten}
use Rattle.pmg_node_parts.specs.Answering.{AreAnswers}
use Rattle.pmg_node_parts.specs.Codes.{Calls}
use Rattle.pmg_node_parts.specs.declared.call.Completion.{Completion}
use Rattle.pmg_node_model.specs.Holdings.{CallState, NodeState, is_ready_at, mapped, released_by, settle, with_table}
use Rattle.pmg_node_model.specs.Kept.{is_in, settle_where}

-- ---- who is in the fence is settled as before it

freed_alike : (x f : FenceName) (b : Bool) (gone left : List Proc) → (b ≡ true → gone ≡ left) → released_by b x gone ≡ released_by b x left
freed_alike x f true gone left same = ap (CallState.released x) (same refl)
freed_alike x f false gone left same = refl

module _ (jobs : Jobs) (id : ℕ) (h : NodeState) (f : FenceName) where
  abbrev then_held : NodeState
  then_held = with_table h (forgotten h.table f.signature)

  settles_alike : (x : FenceName) → settle jobs id then_held (CallState.in_fence x) ≡ settle jobs id h (CallState.in_fence x)
  settles_alike x =
      ap (λ b. released_by b x (gone_by jobs id then_held.table x)) (ready-forgotten h.table f.signature jobs id x (level_at h.far))
      ∙ freed_alike x f (is_ready_at jobs id h x) _ _ (λ ready. gone-forgotten h.table f.signature jobs id x (ready_young jobs id h.table x (level_at h.far) ready))

  settled_alike : (s : CallState) → settle_where jobs id then_held (is_in f) s ≡ settle_where jobs id h (is_in f) s
  settled_alike (CallState.in_fence x) = ap (λ s. cond (eq_by_cmp name_cmp x f) s (CallState.in_fence x)) (settles_alike x)
  settled_alike (CallState.released x gone) = refl
  settled_alike (CallState.parked get) = refl
  settled_alike (CallState.answered get outcome) = refl
  settled_alike (CallState.refreshing get number) = refl
  settled_alike (CallState.refreshed get outcome) = refl

-- so what answers calls in the fence before it is forgotten what is old, answers them then
pub answers_then : (jobs : Jobs) (id : ℕ) (f : FenceName) (t : Fences) (near far : Data) (calls : Calls) (answers : List (Proc × Completion))
    → AreAnswers jobs id (is_in f) t near far calls answers → AreAnswers jobs id (is_in f) (forgotten t f.signature) near far calls answers
answers_then jobs id f t near far calls answers are h table nears fars =
    are (with_table h t) refl nears fars
    ∙ (λ i. mapped (λ s. sym (settled_alike jobs id (with_table h t) f s) i) calls)
    ∙ ap (λ x. mapped (settle_where jobs id (with_table h x) (is_in f)) calls) (sym table)
