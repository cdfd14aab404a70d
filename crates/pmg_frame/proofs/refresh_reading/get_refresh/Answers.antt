use Rattle.std.proofs.Common.{arith}
use Rattle.pmg_frame.proofs.RefreshLaws.{asker_read}
use Rattle.pmg_frame.proofs.refresh_reading.get_refresh.Goals as goal

pub get_refresh_reply-requires-clause-bound : goal.get_refresh_reply-requires-clause-bound
get_refresh_reply-requires-clause-bound c =
    let x = c.in_ok-node in
    (asker_read c.args.at.now (x.node, (x.request, x.is_reply)) c.get_asker.new.at c.offset-start.ensures.bytes x.ensures).node

pub get_refresh_reply-requires-clause-number : goal.get_refresh_reply-requires-clause-number
get_refresh_reply-requires-clause-number c =
    let x = c.in_ok-node in
    (asker_read c.args.at.now (x.node, (x.request, x.is_reply)) c.get_asker.new.at c.offset-start.ensures.bytes x.ensures).request

pub get_refresh_reply-requires-clause-small : goal.get_refresh_reply-requires-clause-small
get_refresh_reply-requires-clause-small c =
    let x = c.in_ok-node in
    omega (arith, c.requires, (asker_read c.args.at.now (x.node, (x.request, x.is_reply)) c.get_asker.new.at c.offset-start.ensures.bytes x.ensures).len)

pub get_refresh_ask-requires : goal.get_refresh_ask-requires
get_refresh_ask-requires c =
    let x = c.in_ok-node in
    (asker_read c.args.at.now (x.node, (x.request, x.is_reply)) c.get_asker.new.at c.offset-start.ensures.bytes x.ensures).request
