-- How a node judges who calls.
use Rattle.std.proofs.Common.{◌≡◌, ℕ, Bool, true, false, ◌||◌, cond, is_some, Result, Ok, Err, refl}
use Rattle.pmg_value.specs.CheckOrder.{first_of}
use Rattle.pmg_value.specs.declared.process.Proc.{Proc}
use Rattle.pmg_value.specs.declared.refusal.Refusal.{Refusal}
use Rattle.pmg_value.specs.declared.refusal.Refusal.TheVariants as refusals
use Rattle.pmg_jobinfo.specs.Jobs.{Jobs}
use Rattle.pmg_node_model.specs.Acts.{caller_cause, free_cause}
use Rattle.pmg_node_model.specs.Holdings.{NodeState, call_of}

-- whoever may call is refused where it is in a call
abbrev pub then_busy : Result (Unit {0}) Refusal → Bool → Result (Unit {0}) Refusal
then_busy (Err e) busy = Err e
then_busy (Ok u) busy = cond busy (Err refusals.Busy) (Ok tt)

judged : (a b c d e : Bool)
    → cond (a || false) (Err refusals.BadParam) (cond (b || false) (Err refusals.UnknownNamespace) (cond (c || false) (Err refusals.NotMine) (cond (d || false) (Err refusals.Terminated) (cond e (Err refusals.Busy) (Ok (tt {0}))))))
    ≡ then_busy (cond a (Err refusals.BadParam) (cond b (Err refusals.UnknownNamespace) (cond c (Err refusals.NotMine) (cond d (Err refusals.Terminated) (Ok tt))))) e
judged true b c d e = refl
judged false true c d e = refl
judged false false true d e = refl
judged false false false true e = refl
judged false false false false e = refl

pub free_first : (jobs : Jobs) (id : ℕ) (h : NodeState) (p : Proc)
    → first_of (free_cause jobs id h p) (tt {0}) ≡ then_busy (first_of (caller_cause jobs id h p) tt) (is_some (call_of h p))
free_first jobs id h p =
    judged (caller_cause jobs id h p refusals.BadParam) (caller_cause jobs id h p refusals.UnknownNamespace) (caller_cause jobs id h p refusals.NotMine)
    (caller_cause jobs id h p refusals.Terminated) (is_some (call_of h p))
