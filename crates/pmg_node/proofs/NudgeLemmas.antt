-- A nudge: what is asked for again, and that nothing else changes.
use Rattle.std.proofs.Common.{◌≡◌, ℕ, List, [], ◌∷◌, ◌++◌, Some, Ok, refl, ◌∙◌}
use Rattle.std.specs.FinMap as finite
use Rattle.std.specs.List.{flat_map}
use Rattle.std.specs.Option.{option_to_list}
use Rattle.std.proofs.lemmas.List.{append-nil}
use Rattle.std.proofs.lemmas.List.Concat.{flat_map-append}
use Rattle.pmg_value.specs.CheckOrder.{first_of}
use Rattle.pmg_value.specs.declared.process.Proc.{Proc}
use Rattle.pmg_jobinfo.specs.Jobs.{Jobs}
use Rattle.pmg_node_model.specs.Acts.{Act, Request, Reply, cause, request_cause, serves, does}
use Rattle.pmg_node_parts.specs.Calls.{ask_of, all_asks}
use Rattle.pmg_node_model.specs.Choosing.{Out, asking_home, asking_anew, asking_for, nudging, due_by, due_by_request, marked_by_act, sends}
use Rattle.pmg_node_model.specs.Holdings.{CallState, NodeState, sealer_of}
use Rattle.pmg_node_model.specs.Kept.{IsSettled}
use Rattle.pmg_node.specs.Asking.{asking_as}
use Rattle.pmg_node.specs.Servers.{Server, reply_to, sent_by, after}
use Rattle.pmg_node_model.specs.declared.due.ToSend.{ToSend}
use Rattle.pmg_node.proofs.ActLemmas.{accepted_reply, accepted_after, accepted_sent}
use Rattle.pmg_node.proofs.FrameLemmas.{with_marks}
use Rattle.pmg_node_model.proofs.KeptSettled.{settled_same}

-- ---- gets that wait

module _ (jobs : Jobs) (id : ℕ) (h : NodeState) where
  one_asked : (s : CallState) → flat_map (asking_as jobs id h) (option_to_list (ask_of s)) ≡ asking_for jobs id h (Some s)
  one_asked (CallState.in_fence f) = refl
  one_asked (CallState.released f gone) = refl
  one_asked (CallState.parked get) = append-nil (asking_home jobs id h get.target)
  one_asked (CallState.answered get outcome) = refl
  one_asked (CallState.refreshing get number) = append-nil (asking_anew jobs id h get.target number)
  one_asked (CallState.refreshed get outcome) = refl

  rows_asked : (rows : List (Proc × CallState))
      → flat_map (asking_as jobs id h) (flat_map (λ e. option_to_list (ask_of e.1)) rows) ≡ flat_map (λ e. asking_for jobs id h (Some e.1)) rows
  rows_asked [] = refl
  rows_asked (e ∷ rows) =
      flat_map-append (asking_as jobs id h) (option_to_list (ask_of e.1)) (flat_map (λ e. option_to_list (ask_of e.1)) rows)
      ∙ (λ i. one_asked e.1 i ++ rows_asked rows i)

  -- the homes of the processes whose keys gets wait for are asked
  pub homes_asked : flat_map (asking_as jobs id h) (all_asks h.calls) ≡ flat_map (λ e. asking_for jobs id h (Some e.1)) (finite.entries h.calls)
  homes_asked = rows_asked (finite.entries h.calls)

-- ---- the act

-- what goes out
abbrev pub nudge_out : Server → Out
nudge_out s = sends (sealer_of s.holding) s.marks (nudging s.jobs s.id s.holding)

module _ (s : Server) (is : IsSettled s.jobs s.id s.holding) where
  nudge_free : first_of (cause s.jobs s.id s.holding (Act.request Request.nudge)) (tt {0}) ≡ Ok tt
  unfolding cause request_cause
  nudge_free = refl

  pub nudge_reply : reply_to s (Act.request Request.nudge) ≡ Reply.done
  unfolding does serves due_by due_by_request
  nudge_reply =
      accepted_reply s (Act.request Request.nudge) nudge_free refl s.holding (settled_same s.jobs s.id s.holding is) (nudging s.jobs s.id s.holding) refl

  pub nudge_after : after s (Act.request Request.nudge) ≡ with_marks (nudge_out s).marks s
  unfolding does serves due_by due_by_request marked_by_act
  nudge_after =
      accepted_after s (Act.request Request.nudge) nudge_free refl s.holding (settled_same s.jobs s.id s.holding is) (nudging s.jobs s.id s.holding) refl

  pub nudge_sent : sent_by s (Act.request Request.nudge) ≡ (nudge_out s).frames
  unfolding does serves due_by due_by_request marked_by_act
  nudge_sent =
      accepted_sent s (Act.request Request.nudge) nudge_free refl s.holding (settled_same s.jobs s.id s.holding is) (nudging s.jobs s.id s.holding) refl

pub nudge_sends : (s old : Server) (dues : List ToSend) → old ≡ s → dues ≡ nudging s.jobs s.id s.holding → sends (sealer_of old.holding) old.marks dues ≡ nudge_out s
nudge_sends s old dues same due = λ i. sends (sealer_of (same i).holding) (same i).marks (due i)
