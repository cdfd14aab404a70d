-- The causes to refuse an entry into a fence.
use Rattle.std.specs.Prelude.{ℕ, Bool, false, not, nat_lt, List, Option, Some, None, if◌then◌else◌}
use Rattle.std.specs.FinSet as set
use Rattle.pmg_value.specs.Signatures.{FenceName}
use Rattle.pmg_value.specs.declared.process.Proc.{Proc}
use Rattle.pmg_value.specs.declared.refusal.Refusal.{Refusal}
use Rattle.pmg_value.specs.declared.refusal.Refusal.TheVariants as refusals
use Rattle.pmg_frame.specs.declared.signature.TheConstants.{MAX_PARTICIPANTS}
use Rattle.pmg_jobinfo.specs.Expansion.{expansion}
use Rattle.pmg_jobinfo.specs.Jobs.{Jobs}
use Rattle.pmg_fence.specs.Changes.{next_name}
use Rattle.pmg_node_model.specs.Acts.{also, free_cause, list_cause, list_of, signature_of, signature_cause}
use Rattle.pmg_node_model.specs.Holdings.{NodeState}

-- the caller must take part
abbrev pub part_cause : Jobs → Proc → List Proc → Refusal → Bool
part_cause jobs p list refusals.NotAParticipant = not (set.contains (expansion jobs (list_of p list)) p)
part_cause jobs p list _ = false

-- the list means more participants than a fence may have
abbrev pub is_crowd : Jobs → Proc → List Proc → Bool
is_crowd jobs p list = nat_lt MAX_PARTICIPANTS (set.len (expansion jobs (list_of p list)))

-- the causes to refuse an entry, except its limits, which need the expanded list of participants
abbrev pub entry_cause : Jobs → ℕ → NodeState → Proc → List Proc → Refusal → Bool
entry_cause jobs id h p list = also (free_cause jobs id h p) (also (list_cause jobs (list_of p list)) (part_cause jobs p list))

-- the fence that the process enters, if the entry is within the limits
abbrev pub entered_name : Jobs → NodeState → Proc → List Proc → Bool → Option FenceName
entered_name jobs h p list collect =
    if signature_cause h (signature_of jobs p list collect) p refusals.TooMany then None else Some (next_name h.table (signature_of jobs p list collect) p)
