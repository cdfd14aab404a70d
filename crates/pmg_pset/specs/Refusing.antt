-- Where each call of the sets has a cause to be refused. The causes are looked for in the order of all calls.
use Rattle.std.specs.Prelude.{◌≡◌, ◌-◌, ◌≤◌, ℕ, Bool, false, ◌||◌, ◌==◌, not, nat_lt, nat_le, List, length, Result, Ok, Err, if◌then◌else◌}
use Rattle.std.specs.List.{list_all}
use Rattle.pmg_value.specs.declared.process.Proc.{Proc}
use Rattle.pmg_value.specs.declared.refusal.Refusal.{Refusal}
use Rattle.pmg_value.specs.declared.refusal.Refusal.TheVariants as refusals
use Rattle.pmg_value.specs.Names.{is_reserved}
use Rattle.pmg_value.specs.Process.{is_client}
use Rattle.pmg_scope.specs.Cached.{global_put}
use Rattle.pmg_commit.specs.Sealed.{Sealed, can_seal}
use Rattle.pmg_pset.specs.Members.{each_once, proc_bytes}
use Rattle.pmg_pset.specs.Sets.{is_live}
use Rattle.pmg_value.specs.declared.value.TheConstants.{MAX_VALUE_SIZE}
use Rattle.pmg_pset.specs.declared.members.TheConstants.{MAX_MEMBERS}
use Rattle.pmg_commit.specs.declared.piece.TheConstants.{MAX_COMMIT}

-- no commit can seal the change: its number is the one that is kept for an end, or a limit of a sealer would be passed
abbrev pub is_too_much : Sealed → List ℕ → List ℕ → Bool
is_too_much z name bytes = not (can_seal z (global_put name bytes))

-- the processes, each once and in their order, are more than a set may have, or longer than a value may be
abbrev pub are_too_many : List Proc → Bool
are_too_many procs = nat_lt MAX_MEMBERS (length procs) || nat_lt MAX_VALUE_SIZE (length (proc_bytes procs))

-- what a change to these processes under the name gives, by which it can be taken back: the sets as they were
abbrev pub change_answer : Sealed → List ℕ → List Proc → Result Sealed Refusal
change_answer z name procs = if are_too_many procs || is_too_much z name (proc_bytes procs) then Err refusals.TooMany else Ok z

-- no set can have these members: there are none, or one is no process that a group may register
abbrev pub are_unfit : List Proc → Bool
are_unfit list = (length list == 0) || not (list_all is_client list)

-- A definition: the name is none of the standard's, and there is some member, each a process that a group may register;
-- there is no set of that name; and the members, and all sets together, stay within the limits.
abbrev pub define_cause : Sealed → List ℕ → List Proc → Refusal → Bool
define_cause z name list refusals.BadParam = is_reserved name || are_unfit list
define_cause z name list refusals.Exists = is_live z name
define_cause z name list refusals.TooMany = are_too_many (each_once list) || is_too_much z name (proc_bytes (each_once list))
define_cause z name list _ = false

-- what is left to look for once the members are known, each once and in their order: there is no set of that name; and the
-- members, and all sets together, stay within the limits
abbrev pub room_cause : Sealed → List ℕ → List Proc → Refusal → Bool
room_cause z name procs refusals.Exists = is_live z name
room_cause z name procs refusals.TooMany = are_too_many procs || is_too_much z name (proc_bytes procs)
room_cause z name procs _ = false

-- The processes are of that number and their array of that many canonical bytes, as far as it matters: of more than a set
-- may have neither needs to be told.
pub record AreMeasured (procs : List Proc) (count size : ℕ) : Type 0 where
  pub number : nat_lt MAX_MEMBERS count ≡ nat_lt MAX_MEMBERS (length procs)
  pub bytes : length procs ≤ MAX_MEMBERS → size ≡ length (proc_bytes procs)

-- the next commit's number would be the one that is kept for an end
abbrev pub is_full : Sealed → Bool
is_full z = nat_le (MAX_COMMIT - 1) z.level

-- a deletion: there is a set of that name, and a number for the commit
abbrev pub delete_cause : Sealed → List ℕ → Refusal → Bool
delete_cause z name refusals.NotFound = not (is_live z name)
delete_cause z name refusals.TooMany = is_full z
delete_cause z name _ = false

-- a look at the members: there is a set of that name
abbrev pub members_cause : Sealed → List ℕ → Refusal → Bool
members_cause z name refusals.NotFound = not (is_live z name)
members_cause z name _ = false
