use Rattle.std.proofs.Common.{◌≡◌, sym, ◌∙◌}
use Rattle.pmg_commit.specs.Data.{level_at}
use Rattle.pmg_frame.specs.Fences.{commit_ask, is_ask}
use Rattle.pmg_frame.specs.declared.frame.Frame.TheVariants as frames
use Rattle.pmg_node_model.specs.declared.due.ToSend.TheVariants as sendings
use Rattle.pmg_node_parts.specs.BoardPreview.{far_ahead}
use Rattle.pmg_node_parts.proofs.SendLemmas.{ask_made}
use Rattle.pmg_node_parts.proofs.answering.home_ask.Goals as goal

pub returns : goal.returns
returns c =
    let due = commit_ask c.args.id c.in_ok-copy.field-0 c.far_level.result in
    let is : c.in-Ok.ask ≡ commit_ask c.args.id c.args.proc.now (level_at (far_ahead c.args.ahead.now) c.args.proc.now) =
    ask_made (is_ask due) due c.in-Ok.ask (sym c.new.ensures ∙ c.in-Ok.is)
    ∙ (λ i. commit_ask c.args.id (c.in_ok-copy.ensures i) (c.far_level.ensures.value i)) in
    λ i. sendings.Whole (record { to = c.home_of.ensures i; frame = frames.DirectAsk (is i) })
