-- The node in a handle of C.
use Rattle.std.specs.Prelude.{◌≡◌, ℕ, Option, Some, None}
use Rattle.pmg_daemon.specs.declared.codes.TheConstants.{WRONG_HANDLE}
use Rattle.pmg_daemon.specs.declared.daemon.Daemon.{Daemon}

-- The effect of a call on the node of a handle, which holds the node again afterwards. An empty handle stays empty, the code says it, and
-- the caller's arguments stay unchanged.
abbrev pub OnNode : Option Daemon → Option Daemon → ℕ → Type 0 → (Daemon → Daemon → Type 0) → Type 0
OnNode None new code kept does = (code ≡ WRONG_HANDLE) × ((new ≡ None) × kept)
OnNode (Some d) None code kept does = ⊥
OnNode (Some d) (Some e) code kept does = does d e
