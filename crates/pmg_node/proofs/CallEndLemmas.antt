-- A process ends its call.
use Rattle.std.proofs.Common.{◌≡◌, ℕ, [], Some, None, Ok, Err}
use Rattle.pmg_value.specs.CheckOrder.{first_of}
use Rattle.pmg_value.specs.declared.process.Proc.{Proc}
use Rattle.pmg_value.specs.declared.refusal.Refusal.{Refusal}
use Rattle.pmg_jobinfo.specs.Jobs.{Jobs}
use Rattle.pmg_dmodex.specs.Levels.{Levels}
use Rattle.pmg_node_model.specs.Acts.{Act, Reply, done_as, cause, caller_cause, acts}
use Rattle.pmg_node_model.specs.Choosing.{chosen}
use Rattle.pmg_node_model.specs.Holdings.{NodeState, call_of, uncalled}
use Rattle.pmg_node_model.specs.Kept.{IsSettled}
use Rattle.pmg_node.specs.CallEnds.{ending_request, over_reply, standing_reply}
use Rattle.pmg_node.specs.declared.call_ends.CallEnd.{CallEnd}
use Rattle.pmg_node.specs.declared.call_ends.CallEnd.TheVariants as ends
use Rattle.pmg_node.proofs.SilentLemmas.{leave_refused, leave_stays, leave_goes, leave_silent, take_refused, take_stays, take_goes, take_silent}

-- the act
abbrev pub call_ends_by : CallEnd → Proc → Act
call_ends_by end p = Act.request (ending_request end p)

module _ (jobs : Jobs) (id : ℕ) (h : NodeState) (p : Proc) where
  -- who may not call is refused
  pub end_barred : (end : CallEnd) (e : Refusal) → first_of (caller_cause jobs id h p) (tt {0}) ≡ Err e → first_of (cause jobs id h (call_ends_by end p)) (tt {0}) ≡ Err e
  end_barred ends.Leave e is = leave_refused jobs id h p e is
  end_barred ends.Take e is = take_refused jobs id h p e is

  -- a call that is not over stays
  pub end_waits : (end : CallEnd) → IsSettled jobs id h → first_of (caller_cause jobs id h p) (tt {0}) ≡ Ok tt → (r : Reply) → standing_reply end (call_of h p) ≡ Some r
      → acts jobs id h (call_ends_by end p) ≡ done_as r h
  end_waits ends.Leave is free r told = leave_stays jobs id h p is free r told
  end_waits ends.Take is free r told = take_stays jobs id h p is free r told

  -- and one that is goes
  pub end_goes : (end : CallEnd) → IsSettled jobs id h → first_of (caller_cause jobs id h p) (tt {0}) ≡ Ok tt → standing_reply end (call_of h p) ≡ None
      → acts jobs id h (call_ends_by end p) ≡ done_as (over_reply end (call_of h p)) (uncalled h p)
  end_goes ends.Leave is free none = leave_goes jobs id h p is free none
  end_goes ends.Take is free none = take_goes jobs id h p is free none

  pub end_silent : (end : CallEnd) (marks : Levels) → chosen jobs id h marks (call_ends_by end p) ≡ record { frames = []; marks = marks }
  end_silent ends.Leave marks = leave_silent jobs id h p marks
  end_silent ends.Take marks = take_silent jobs id h p marks
