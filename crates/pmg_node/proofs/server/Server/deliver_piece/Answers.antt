use Rattle.std.proofs.Common.{List, ◌++◌, refl, sym, ap, subst, ◌∙◌, rules}
use Rattle.pmg_frame.specs.declared.frame.Frame.TheVariants as frames
use Rattle.pmg_node_model.specs.Acts.{Act}
use Rattle.pmg_node_model.specs.Choosing.{sends}
use Rattle.pmg_node.specs.Content.{server_of}
use Rattle.pmg_node_model.specs.Holdings.{sealer_of}
use Rattle.pmg_node.specs.Servers.{Server, IsNode}
use Rattle.pmg_node_model.specs.declared.sent.Sent.{Sent}
use Rattle.pmg_node.proofs.FrameLemmas.{ignores}
use Rattle.pmg_node.proofs.NodeKept.{node_stays}
use Rattle.pmg_node.proofs.OpenLemmas.{still_open}
use Rattle.pmg_node.proofs.PieceLemmas.{piece_tells, piece_moved}
use Rattle.pmg_node.proofs.server.Server.deliver_piece.Goals as goal

pub returns-then-not-is_foreign : goal.returns-then-not-is_foreign
returns-then-not-is_foreign c =
    let none = sym c.is_foreign.ensures ∙ c.if-not-is_foreign.true in
    let its = ignores c.args.self.now (subst IsNode c.self.view_is c.self.invariant.node) (frames.Piece c.args.piece.now) none c.args.out.now.items in
    record { reply = its.reply; ok = its.ok; sent = its.sent; err = search rules; unsent = search rules }

pub invariant_of-self-2 : goal.invariant_of-self-2
invariant_of-self-2 c =
    let s = c.args.self.now in
    let inside = c.self.inside in
    let t : Server = server_of inside.table inside.id inside.board inside.own inside.calls inside.held inside.marks in
    let piece = c.args.piece.now in
    let kept = subst IsNode c.self.view_is c.self.invariant.node in
    let taken = sym c.is_foreign.ensures ∙ c.if-not-is_foreign.false in
    let moved =
    piece_moved s t piece c.self.view_is taken c.absorb_far.new.self.near c.absorb_far.new.self.far c.answer.new.self c.hand_out.new.marks c.in_ok-answers.answers.items c.in_ok-dues.dues.items
    c.absorb_far.ensures.near c.in_default.ensures.far c.answer.ensures c.in_ok-handed.ensures.marks c.in_ok-answers.ensures c.in_ok-dues.ensures in
    record {
      same = c.self.invariant.same;
      told = c.self.invariant.told;
      node = subst IsNode (sym moved) (node_stays s (Act.deliver (frames.Piece piece)) kept);
      replies = still_open t s c.self.view_is (Act.deliver (frames.Piece piece)) kept _ moved refl inside.held.anew inside.held.anew refl c.self.invariant.replies;
    }

pub returns : goal.returns
returns c =
    let s = c.args.self.now in
    let inside = c.self.inside in
    let t : Server = server_of inside.table inside.id inside.board inside.own inside.calls inside.held inside.marks in
    let taken = sym c.is_foreign.ensures ∙ c.if-not-is_foreign.false in
    record {
      reply = (piece_tells s c.args.piece.now taken).reply;
      ok = piece_moved s t c.args.piece.now c.self.view_is taken c.absorb_far.new.self.near c.absorb_far.new.self.far c.answer.new.self c.hand_out.new.marks c.in_ok-answers.answers.items
          c.in_ok-dues.dues.items c.absorb_far.ensures.near c.in_default.ensures.far c.answer.ensures c.in_ok-handed.ensures.marks c.in_ok-answers.ensures c.in_ok-dues.ensures;
      sent = c.in_ok-handed.ensures.frames
          ∙ ap (λ (x : Server). c.args.out.now.items ++ (sends (sealer_of x.holding) x.marks c.in_ok-dues.dues.items).frames) c.self.view_is
          ∙ ap (λ (fs : List Sent). c.args.out.now.items ++ fs) (sym ((piece_tells s c.args.piece.now taken).sent c.in_ok-dues.dues.items c.in_ok-dues.ensures));
      err = search rules;
      unsent = search rules;
    }
