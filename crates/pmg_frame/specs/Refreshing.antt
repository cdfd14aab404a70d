-- The request of a refreshing get to its target's home, and the reply.
use Rattle.std.specs.Prelude.{ℕ, ◌+◌, Bool, ◌&&◌, ◌||◌, ◌==◌, nat_lt, nat_le, length, Option, Some, None, if◌then◌else◌, []}
use Rattle.pmg_value.specs.Process.{is_client, is_host}
use Rattle.pmg_value.specs.declared.process.Proc.{Proc}
use Rattle.pmg_commit.specs.Knowledge.{Contribution}
use Rattle.pmg_commit.specs.Pieces.{body_size, is_piece}
use Rattle.pmg_frame.specs.Fences.{CommitAsk, is_ask, is_level}
use Rattle.pmg_frame.specs.declared.frame.TheConstants.{MAX_BODY_SIZE}

-- A node asks for the puts that a process sealed after the commits that the node knows, under a number of its own (PMIx Standard 5.0,
-- PMIX_GET_REFRESH_CACHE).
pub record RefreshAsk : Type 0 where
  pub request : ℕ
  pub ask : CommitAsk

-- the ask for commits, under the request's number
abbrev pub refresh_ask : ℕ → CommitAsk → RefreshAsk
refresh_ask request ask = record { request = request; ask = ask }

-- The process's home replies to that node, under that number, with the puts that the process sealed in the commits from+1 to to; there are
-- no commits if from is to.
pub record RefreshReply : Type 0 where
  pub node : ℕ
  pub request : ℕ
  pub told : Contribution

-- the reply to the node, under the request's number, with this contribution
abbrev pub refresh_reply : ℕ → ℕ → Contribution → RefreshReply
refresh_reply node request told = record { node = node; request = request; told = told }

-- requests are counted from 1
abbrev pub is_request : ℕ → Bool
is_request n = nat_lt 0 n && nat_le n 18446744073709551615

-- an ask that a frame can hold
abbrev pub is_refresh_ask : RefreshAsk → Bool
is_refresh_ask a = is_request a.request && is_ask a.ask

-- no commits of the process after that one
abbrev pub no_commits : Proc → ℕ → Contribution
no_commits p n = record { proc = p; from = n; to = n; entries = [] }

-- a contribution of no commit, after one of the commits of a process that commits
abbrev pub is_no_commit : Contribution → Bool
is_no_commit c = (is_client c.proc || is_host c.proc) && (c.from == c.to && (is_level c.to && length c.entries == 0))

-- a reply that a frame can hold: of a piece, or of no commit, in a body that is not too long
unfoldable pub is_refresh_reply : RefreshReply → Bool
is_refresh_reply r =
    is_request r.request && (is_piece r.told || is_no_commit r.told) && nat_le (13 + body_size r.told.proc r.told.entries) MAX_BODY_SIZE

-- the contribution that the reply adds, if it has commits
abbrev pub told_by : RefreshReply → Option Contribution
told_by r = if nat_lt r.told.from r.told.to then Some r.told else None
