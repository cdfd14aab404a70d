-- Comparison of two frames, field by field.
use Rattle.std.specs.Prelude.{Bool, ◌&&◌, ◌==◌}
use Rattle.std.specs.Cmp.Lexicographic.{pointwise}
use Rattle.std.specs.Ordering.{eq_by_cmp}
use Rattle.pmg_value.specs.Process.{is_same_proc}
use Rattle.pmg_commit.specs.Entries.{is_same_entry}
use Rattle.pmg_commit.specs.Knowledge.{Contribution}
use Rattle.pmg_frame.specs.FenceOrder.{name_cmp}
use Rattle.pmg_frame.specs.Fences.{Header, FenceAsk, CommitAsk}
use Rattle.pmg_frame.specs.Refreshing.{RefreshAsk, RefreshReply}
use Rattle.pmg_frame.specs.contracts.local.LocalPartialEq.TheImpl as local_tests

-- the contributions are equal
abbrev pub is_same_piece : Contribution → Contribution → Bool
is_same_piece c d = is_same_proc c.proc d.proc && (c.from == d.from && (c.to == d.to && pointwise is_same_entry c.entries d.entries))

-- the headers are equal
abbrev pub is_same_header : Header → Header → Bool
is_same_header h k = h.node == k.node && (eq_by_cmp name_cmp h.name k.name && pointwise local_tests.ghosts.eq h.locals k.locals)

-- the fence asks are equal
abbrev pub is_same_fence_ask : FenceAsk → FenceAsk → Bool
is_same_fence_ask a b = a.node == b.node && eq_by_cmp name_cmp a.name b.name

-- the asks for commits are equal
abbrev pub is_same_commit_ask : CommitAsk → CommitAsk → Bool
is_same_commit_ask a b = a.node == b.node && (is_same_proc a.proc b.proc && (a.level == b.level))

-- the refresh asks are equal
abbrev pub is_same_refresh_ask : RefreshAsk → RefreshAsk → Bool
is_same_refresh_ask a b = a.request == b.request && is_same_commit_ask a.ask b.ask

-- the replies are equal
abbrev pub is_same_refresh_reply : RefreshReply → RefreshReply → Bool
is_same_refresh_reply r s = r.node == s.node && (r.request == s.request && is_same_piece r.told s.told)
