-- The numbers and names of the refusals, and the names of the causes.
use Rattle.std.specs.Prelude.{ℕ, List, codes}
use Rattle.pmg_value.specs.declared.refusal.Refusal.{Refusal}
use Rattle.pmg_value.specs.declared.refusal.Refusal.TheVariants as refusals
use Rattle.pmg_value.specs.declared.refusal.Cause.{Cause}
use Rattle.pmg_value.specs.declared.refusal.Cause.TheVariants as causes

-- each refusal's number
abbrev pub number_of : Refusal → ℕ
number_of refusals.NoMemory = 0
number_of refusals.BadParam = 1
number_of refusals.NotFound = 2
number_of refusals.OutsideScope = 3
number_of refusals.UnknownNamespace = 4
number_of refusals.NotMine = 5
number_of refusals.Busy = 6
number_of refusals.Terminated = 7
number_of refusals.NotAParticipant = 8
number_of refusals.TooMany = 9
number_of (refusals.BadFrame f) = 10
number_of refusals.Exists = 11
number_of refusals.Collision = 12
number_of refusals.Stale = 13
number_of refusals.Unordered = 14
number_of refusals.Closed = 15

-- each refusal's name
abbrev pub name_of : Refusal → List ℕ
name_of refusals.NoMemory = codes "NoMemory"
name_of refusals.BadParam = codes "BadParam"
name_of refusals.NotFound = codes "NotFound"
name_of refusals.OutsideScope = codes "OutsideScope"
name_of refusals.UnknownNamespace = codes "UnknownNamespace"
name_of refusals.NotMine = codes "NotMine"
name_of refusals.Busy = codes "Busy"
name_of refusals.Terminated = codes "Terminated"
name_of refusals.NotAParticipant = codes "NotAParticipant"
name_of refusals.TooMany = codes "TooMany"
name_of (refusals.BadFrame f) = codes "BadFrame"
name_of refusals.Exists = codes "Exists"
name_of refusals.Collision = codes "Collision"
name_of refusals.Stale = codes "Stale"
name_of refusals.Unordered = codes "Unordered"
name_of refusals.Closed = codes "Closed"

-- each cause's name
abbrev pub cause_name : Cause → List ℕ
cause_name causes.Version = codes "Version"
cause_name causes.Kind = codes "Kind"
cause_name causes.Length = codes "Length"
cause_name causes.Short = codes "Short"
cause_name causes.Long = codes "Long"
cause_name causes.Name = codes "Name"
cause_name causes.Rank = codes "Rank"
cause_name causes.Range = codes "Range"
cause_name causes.Count = codes "Count"
cause_name causes.Key = codes "Key"
cause_name causes.Order = codes "Order"
cause_name causes.Member = codes "Member"
cause_name causes.Number = codes "Number"
cause_name causes.Level = codes "Level"
cause_name causes.Node = codes "Node"
cause_name causes.Tag = codes "Tag"
cause_name causes.Bool = codes "Bool"
cause_name causes.Text = codes "Text"
cause_name causes.Size = codes "Size"
cause_name causes.Cut = codes "Cut"
cause_name causes.Hex = codes "Hex"
cause_name causes.Script = codes "Script"
cause_name causes.Input = codes "Input"
