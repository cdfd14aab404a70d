-- The process sets in a node's knowledge.
use Rattle.std.specs.Prelude.{ℕ, Bool, false, List, [], Option, Some, None, is_none}
use Rattle.std.specs.Option.{unwrap_or}
use Rattle.pmg_value.specs.Names.{is_reserved}
use Rattle.pmg_value.specs.declared.refusal.Refusal.{Refusal}
use Rattle.pmg_value.specs.declared.refusal.Refusal.TheVariants as refusals
use Rattle.pmg_commit.specs.Data.{Data, read_at}
use Rattle.pmg_pset.specs.Members.{members_told}
use Rattle.pmg_pset.specs.Sets.{host}

-- the bytes of the members' array in a value, if there is one
abbrev pub members_of_value : Option (List ℕ) → Option (List ℕ)
members_of_value None = None
members_of_value (Some bytes) = members_told bytes

-- the bytes of the members' array of the set of that name in the node's knowledge: the set was defined, and not deleted since
abbrev pub known_members : Data → List ℕ → Option (List ℕ)
known_members far name = members_of_value (read_at far host name)

-- the known members, empty if there is no such set
abbrev pub members_known : Data → List ℕ → List ℕ
members_known far name = unwrap_or (known_members far name) []

-- a query of the members: the name must not be reserved, and the node must know a set of it
abbrev pub known_members_cause : Data → List ℕ → Refusal → Bool
known_members_cause far name refusals.BadParam = is_reserved name
known_members_cause far name refusals.NotFound = is_none (known_members far name)
known_members_cause far name _ = false
