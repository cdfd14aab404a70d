use Rattle.std.proofs.Common.{Option, refl, sym, subst}
use Rattle.std.specs.Vec.{with_item}
use Rattle.pmg_link.specs.declared.inbox.Inbox.{Inbox}
use Rattle.pmg_daemon.specs.Frames.{FeedsFrom}
use Rattle.pmg_daemon.specs.declared.daemon.Daemon.{Daemon}
use Rattle.pmg_daemon.proofs.FrameLemmas.{past, there}
use Rattle.pmg_daemon.proofs.daemon.Daemon.feed.Goals as goal

pub returns-in-Some : goal.returns-in-Some
returns-in-Some c =
    let d = c.args.self.now in
    let i = c.in-Some.inbox.now in
    let e : Daemon = record { alloc = d.alloc; link = d.link; inboxes = with_item d.inboxes c.args.from c.feed.new.self; list = d.list; reply = d.reply } in
    subst (λ (o : Option Inbox). FeedsFrom o d c.args.from c.args.bytes.now c.done_code.result e) (sym (there d.inboxes.items c.args.from i c.in-Some.ensures.item.3.0 c.in-Some.ensures.item.1)) (
      c.feed.new.self,
      c.feed.result,
      record {
        fed = c.feed.ensures.fed;
        idle = c.feed.ensures.idle;
        closed = c.feed.ensures.closed;
        busy = c.feed.ensures.busy;
        waits = c.feed.ensures.waits;
        too_many = c.feed.ensures.too_many;
        no_other = c.feed.ensures.no_other;
        err = c.feed.ensures.err;
      },
      c.done_code.ensures,
      refl,
      refl,
      record { list = refl; reply = refl },
    )

pub returns-in-None : goal.returns-in-None
returns-in-None c =
    let d = c.args.self.now in
    subst (λ (o : Option Inbox). FeedsFrom o d c.args.from c.args.bytes.now c.no_node_code.result d) (sym (past d.inboxes.items c.args.from c.in-None.ensures.item.3))
    (c.no_node_code.ensures, refl)
