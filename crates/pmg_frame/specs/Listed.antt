-- The participants of a fence, in either storage.
use Rattle.std.specs.Prelude.{List}
use Rattle.pmg_value.specs.declared.process.Proc.{Proc}
use Rattle.pmg_frame.specs.declared.signature.Participants.{Participants}
use Rattle.pmg_frame.specs.declared.signature.Participants.TheVariants as places

-- the processes, in a list of one owner or in a shared one
abbrev pub listed_in : Participants → List Proc
listed_in (places.Own list) = list.items
listed_in (places.Shared list) = list.value.items
