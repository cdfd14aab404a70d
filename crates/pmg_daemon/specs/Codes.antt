-- The answers of a call, as numbers: codes, and the contents of buffers.
use Rattle.std.specs.Prelude.{◌≡◌, ◌≢◌, ◌⊎◌, ℕ, ◌+◌, ◌==◌, ◌<◌, ◌≤◌, List, ◌++◌, length, Option, Some, None, drop, option_map, if◌then◌else◌}
use Rattle.pmg_value.specs.Refusals.{name_of, number_of}
use Rattle.pmg_value.specs.declared.refusal.Cause.TheVariants as causes
use Rattle.pmg_value.specs.declared.refusal.Refusal.{Refusal}
use Rattle.pmg_value.specs.declared.refusal.Refusal.TheVariants as refusals
use Rattle.pmg_node_model.specs.Acts.{Reply, Status}
use Rattle.pmg_daemon.specs.declared.codes.TheConstants.{DONE, IDLE, IGNORED, NO_MEMORY, REFUSED, TOO_SMALL, WAITS}

-- the code of a reply
unfoldable pub reply_code : Reply → ℕ
reply_code (Reply.refused e) = REFUSED + number_of e
reply_code Reply.done = DONE
reply_code (Reply.committed n) = DONE
reply_code (Reply.entered n) = DONE
reply_code Reply.idle = IDLE
reply_code Reply.waiting = WAITS
reply_code (Reply.released n gone) = DONE
reply_code (Reply.found value) = DONE
reply_code Reply.parked = WAITS
reply_code Reply.taken = DONE
reply_code Reply.ignored = IGNORED
reply_code (Reply.ended n) = DONE
reply_code (Reply.defined n) = DONE

-- the number in a reply, else the old one
unfoldable pub number_or : ℕ → Reply → ℕ
number_or old (Reply.committed n) = n
number_or old (Reply.entered n) = n
number_or old (Reply.released n gone) = n
number_or old (Reply.ended n) = n
number_or old (Reply.defined n) = n
number_or old _ = old

-- the status of a process, by number
abbrev pub status_number : Status → ℕ
status_number Status.stranger = 0
status_number Status.idle = 1
status_number Status.in_fence = 2
status_number Status.released = 3
status_number Status.parked = 4
status_number Status.answered = 5
status_number Status.ended = 6

-- The bytes go to the front of the buffer, and the rest of it stays; or the buffer is too small, and stays unchanged. Both set the length
-- of the bytes. NoMemory leaves buffer and length.
pub record Fills (bytes old : List ℕ) (old_len code : ℕ) (new : List ℕ) (new_len : ℕ) : Type 0 where
  pub codes : (code ≡ DONE) ⊎ ((code ≡ TOO_SMALL) ⊎ (code ≡ NO_MEMORY))
  pub done : code ≡ DONE → new ≡ bytes ++ drop (length bytes) old
  pub fits : code ≡ DONE → length bytes ≤ length old
  pub small : code ≡ TOO_SMALL → length old < length bytes
  pub kept : code ≢ DONE → new ≡ old
  pub len : code ≢ NO_MEMORY → new_len ≡ length bytes
  pub kept_len : code ≡ NO_MEMORY → new_len ≡ old_len

-- the refusal of that code, if the code belongs to a refusal; the refusal of bytes that are no frame has its fault at their start
abbrev pub refusal_coded : ℕ → Option Refusal
refusal_coded code =
    if code == 16 then Some refusals.NoMemory
    else if code == 17 then Some refusals.BadParam
    else if code == 18 then Some refusals.NotFound
    else if code == 19 then Some refusals.OutsideScope
    else if code == 20 then Some refusals.UnknownNamespace
    else if code == 21 then Some refusals.NotMine
    else if code == 22 then Some refusals.Busy
    else if code == 23 then Some refusals.Terminated
    else if code == 24 then Some refusals.NotAParticipant
    else if code == 25 then Some refusals.TooMany
    else if code == 26 then Some (refusals.BadFrame (record { offset = 0; cause = causes.Version }))
    else if code == 27 then Some refusals.Exists
    else if code == 28 then Some refusals.Collision
    else if code == 29 then Some refusals.Stale
    else if code == 30 then Some refusals.Unordered
    else if code == 31 then Some refusals.Closed
    else None

-- the name of the refusal of that code
abbrev pub refusal_named : ℕ → Option (List ℕ)
refusal_named code = option_map name_of (refusal_coded code)
