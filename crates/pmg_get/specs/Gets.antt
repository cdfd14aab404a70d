-- What a get is answered (PMIx Standard 5.0, PMIx_Get).
use Rattle.std.specs.Prelude.{ℕ, Bool, List, Option, Some, None, if◌then◌else◌}
use Rattle.pmg_get.specs.declared.view.Mode.{Mode}
use Rattle.pmg_get.specs.declared.view.Mode.TheVariants as modes

-- What there is to be seen of a key: what the registry has; the last put of the process itself; of another process on
-- the same node, what reads from its own node and from other nodes give, and whether it ended; of one on another node,
-- what reads from other nodes give, and whether it ended. Values are seen as their canonical bytes.
pub data Seen : Type 0 where
  reserved : Option (List ℕ) → Seen
  own : Option (List ℕ) → Seen
  local : Option (List ℕ) → Option (List ℕ) → Bool → Seen
  remote : Option (List ℕ) → Bool → Seen

-- What a get comes to: a value; that none is seen; one whose scope leaves out who asks; or that the get parks.
pub data Outcome : Type 0 where
  found : List ℕ → Outcome
  absent : Outcome
  outside : Outcome
  parks : Outcome

-- the value, or else this
abbrev pub found_or : Option (List ℕ) → Outcome → Outcome
found_or (Some value) otherwise = Outcome.found value
found_or None otherwise = otherwise

-- nothing is seen: it stays so where the process ended, and a get that does not wait is told so
abbrev pub unseen : Bool → Mode → Outcome
unseen ended modes.Now = Outcome.absent
unseen ended modes.Wait = if ended then Outcome.absent else Outcome.parks
unseen ended modes.Refresh = Outcome.absent

-- The answer of a get: the first line that fits. A get that asks anew waits for what the home of a process on another node replies.
-- Both the mode that never waits and the answer of a value out of scope are this project's (PMIx Standard 5.0, PMIX_GET_REFRESH_CACHE).
unfoldable pub resolve : Seen → Mode → Outcome
resolve (Seen.reserved value) mode = found_or value Outcome.absent
resolve (Seen.own value) mode = found_or value Outcome.absent
resolve (Seen.local (Some value) other ended) mode = Outcome.found value
resolve (Seen.local None (Some value) ended) mode = Outcome.outside
resolve (Seen.local None None ended) mode = unseen ended mode
resolve (Seen.remote value ended) modes.Wait = found_or value (unseen ended modes.Wait)
resolve (Seen.remote value ended) modes.Now = found_or value (unseen ended modes.Now)
resolve (Seen.remote value ended) modes.Refresh = Outcome.parks

-- how a get is answered that had to wait: one that asks anew as one that looks only at what its node holds, once the reply is there
abbrev pub later_as : Mode → Mode
later_as modes.Wait = modes.Wait
later_as modes.Now = modes.Now
later_as modes.Refresh = modes.Now
