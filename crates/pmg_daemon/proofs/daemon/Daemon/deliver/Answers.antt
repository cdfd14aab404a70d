use Rattle.std.proofs.Common.{Option, refl, sym, ap, subst, ◌∙◌, arith, slice_set}
use Rattle.std.specs.Vec.{with_item}
use Rattle.pmg_link.specs.declared.inbox.Inbox.{Inbox}
use Rattle.pmg_daemon.specs.Frames.{DeliversFrom}
use Rattle.pmg_daemon.specs.declared.daemon.Daemon.{Daemon}
use Rattle.pmg_daemon.proofs.FrameLemmas.{set_again, there, unrefused_frame}
use Rattle.pmg_daemon.proofs.daemon.Daemon.deliver.Goals as goal

pub returns-in-Ok : goal.returns-in-Ok
returns-in-Ok c =
    let d = c.args.self.now in
    let i = c.in-Some.inbox.now in
    let e : Daemon = record { alloc = d.alloc; link = c.deliver_next.new.self; inboxes = with_item d.inboxes c.args.from c.deliver_next.new.inbox; list = d.list; reply = d.reply } in
    subst (λ (o : Option Inbox). DeliversFrom o d c.args.from c.delivered_code.result e) (sym (there d.inboxes.items c.args.from i c.in-Some.ensures.item.3.0 c.in-Some.ensures.item.1)) (
      (λ short. absurd (grind (arith, short, c.delivered_code.ensures, unrefused_frame c.in-Ok.reply))),
      (λ no. (c.deliver_next.new.inbox, c.in-Ok.reply, c.in-Ok.ensures.delivers, c.delivered_code.ensures, refl, record { list = refl; reply = refl })),
    )

pub returns-in-Err : goal.returns-in-Err
returns-in-Err c =
    let d = c.args.self.now in
    let i = c.in-Some.inbox.now in
    let e : Daemon = record { alloc = d.alloc; link = c.deliver_next.new.self; inboxes = with_item d.inboxes c.args.from c.deliver_next.new.inbox; list = d.list; reply = d.reply } in
    subst (λ (o : Option Inbox). DeliversFrom o d c.args.from 16 e) (sym (there d.inboxes.items c.args.from i c.in-Some.ensures.item.3.0 c.in-Some.ensures.item.1)) (
      (λ short. (
        c.in-Err.ensures.err,
        ap (slice_set d.inboxes.items c.args.from) c.in-Err.ensures.kept ∙ set_again d.inboxes.items c.args.from i c.in-Some.ensures.item.3.0 c.in-Some.ensures.item.1,
        record { list = refl; reply = refl },
      )),
      (λ no. absurd (no refl)),
    )
