use Rattle.std.proofs.Common.{◌≡◌, List, ◌++◌, sym, ap, subst, ◌∙◌, rules}
use Rattle.std.specs.Option.{option_map}
use Rattle.pmg_frame.specs.Refreshing.{RefreshReply, told_by}
use Rattle.pmg_frame.specs.declared.frame.Frame.TheVariants as frames
use Rattle.pmg_dmodex.specs.Refreshes.{Refreshes, answered}
use Rattle.pmg_dmodex.specs.Requests.{Requests, with_anew}
use Rattle.pmg_node_parts.specs.Codes.{Calls}
use Rattle.pmg_node_model.specs.Acts.{Act}
use Rattle.pmg_node_model.specs.Choosing.{sends}
use Rattle.pmg_node_model.specs.Holdings.{joined, sealer_of, with_far}
use Rattle.pmg_node.specs.Content.{server_of, AreOpen}
use Rattle.pmg_node.specs.Servers.{Server, IsNode, after}
use Rattle.pmg_node_model.specs.declared.sent.Sent.{Sent}
use Rattle.pmg_node.proofs.FrameLemmas.{ignores}
use Rattle.pmg_node.proofs.NodeKept.{node_stays}
use Rattle.pmg_node.proofs.ReplyOpen.{replied_open, last_answered}
use Rattle.pmg_node.proofs.ReplyTaking.{reply_tells, reply_calls, reply_moved}
use Rattle.pmg_node.proofs.server.Server.deliver_refresh_reply.Goals as goal

pub returns-then-not-is_replied : goal.returns-then-not-is_replied
returns-then-not-is_replied c =
    let none = sym c.is_replied.ensures ∙ c.if-not-is_replied.true in
    let its = ignores c.args.self.now (subst IsNode c.self.view_is c.self.invariant.node) (frames.RefreshReply c.args.reply.now) none c.args.out.now.items in
    record { reply = its.reply; ok = its.ok; sent = its.sent; err = search rules; unsent = search rules }

module _ (c : goal.Joined-told-5) where
  abbrev r : RefreshReply
  r = c.args.reply.now

  abbrev was : Server
  was = server_of c.self.inside.table c.self.inside.id c.self.inside.board c.self.inside.own c.self.inside.calls c.self.inside.held c.self.inside.marks

  told_is : option_map (λ p. p.now) c.as_ref-3.result ≡ told_by r
  told_is = c.as_ref-3.ensures.value ∙ c.into_piece-told.ensures ∙ ap told_by c.in_ok-copy.ensures

  held_is : c.answered.new.self ≡ with_anew c.self.inside.held (answered c.self.inside.held.anew r.request r.told.proc)
  held_is = c.answered.ensures.left ∙ (λ i. with_anew c.self.inside.held (answered c.self.inside.held.anew (c.request.ensures i) (c.proc.ensures i)))

  moved : server_of c.self.inside.table c.self.inside.id c.absorb_told.new.board c.self.inside.own c.answer.new.self c.answered.new.self c.hand_out.new.marks ≡ after c.args.self.now (Act.deliver (frames.RefreshReply r))
  moved =
      reply_moved c.args.self.now was r c.self.view_is (sym c.is_replied.ensures ∙ c.if-not-is_replied.false) c.absorb_told.new.board.near c.absorb_told.new.board.far c.answer.new.self
      c.answered.new.self.held c.hand_out.new.marks c.answered.new.self.anew.last c.in_ok-answers.answers.items c.in_ok-dues.dues.items
      c.absorb_told.ensures.near (c.in_default.ensures.far ∙ ap (joined c.self.inside.board.far) told_is) c.answer.ensures
      (ap (λ (h : Requests). h.held) held_is) (ap (λ (h : Requests). h.anew.last) held_is ∙ last_answered c.self.inside.held.anew r.request r.told.proc)
      c.in_ok-handed.ensures.marks c.in_ok-answers.ensures c.in_ok-dues.ensures

pub invariant_of-self-2 : goal.invariant_of-self-2
invariant_of-self-2 c =
    let s = c.args.self.now in
    let kept = subst IsNode c.self.view_is c.self.invariant.node in
    let taken = sym c.is_replied.ensures ∙ c.if-not-is_replied.false in
    let grown = with_far s.holding (joined s.holding.far (told_by (r c))) in
    record {
      same = c.self.invariant.same;
      told = c.self.invariant.told;
      node = subst IsNode (sym (moved c)) (node_stays s (Act.deliver (frames.RefreshReply (r c))) kept);
      replies = subst (λ (p : Calls × Refreshes). AreOpen p.0 p.1)
          (λ i. (sym (ap (λ (x : Server). x.holding.calls) (moved c) ∙ reply_calls s (r c) taken kept.server.settled) i, sym (ap (λ (h : Requests). h.anew) (held_is c)) i))
          (replied_open s.jobs s.id grown (r c).request (r c).told.proc s.holding.calls c.self.inside.held.anew
          (subst (λ (x : Server). AreOpen x.holding.calls c.self.inside.held.anew) c.self.view_is c.self.invariant.replies));
    }

pub returns : goal.returns
returns c =
    let s = c.args.self.now in
    let taken = sym c.is_replied.ensures ∙ c.if-not-is_replied.false in
    record {
      reply = (reply_tells s (r c) taken).reply;
      ok = moved c;
      sent = c.in_ok-handed.ensures.frames
          ∙ ap (λ (x : Server). c.args.out.now.items ++ (sends (sealer_of x.holding) x.marks c.in_ok-dues.dues.items).frames) c.self.view_is
          ∙ ap (λ (fs : List Sent). c.args.out.now.items ++ fs) (sym ((reply_tells s (r c) taken).sent c.in_ok-dues.dues.items c.in_ok-dues.ensures));
      err = search rules;
      unsent = search rules;
    }
