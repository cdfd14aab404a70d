use Rattle.std.proofs.Common.{sym, ap, ◌∙◌}
use Rattle.pmg_commit.specs.Data.{absorbed}
use Rattle.pmg_node_parts.proofs.PublishLemmas.{joined_alone}
use Rattle.pmg_node.proofs.publishing.publish.Goals as goal

pub returns-clause-joined_near : goal.returns-clause-joined_near
returns-clause-joined_near c = joined_alone c.args.board.now.near c.absorb_all.new.self.near c.from_ref.result.now _ _ c.in_default.ensures.near_ok c.from_ref.ensures.value c.in_ok-near.ensures

pub returns-clause-joined_far : goal.returns-clause-joined_far
returns-clause-joined_far c = joined_alone c.args.board.now.far c.absorb_all.new.self.far c.from_ref-2.result.now _ _ c.in_default.ensures.far_ok c.from_ref-2.ensures.value c.in_ok-far.ensures

pub returns-clause-answers : goal.returns-clause-answers
returns-clause-answers c =
    λ h table near far. c.in_ok-answers.ensures h table (near ∙ ap (absorbed c.args.board.now.near) (sym c.in_ok-near.ensures)) (far ∙ ap (absorbed c.args.board.now.far) (sym c.in_ok-far.ensures))
