use Rattle.std.proofs.Common.{ap, ◌∙◌}
use Rattle.std.specs.Prelude.{is_some}
use Rattle.std.specs.Option.{option_map}
use Rattle.pmg_value.specs.Spelling.{spelling}
use Rattle.pmg_scope.specs.Scripts.{term_key}
use Rattle.pmg_commit.specs.Data.{read_at}
use Rattle.pmg_node_model.specs.Holdings.{joined}
use Rattle.pmg_node_parts.proofs.SeenLemmas.{near_alike}
use Rattle.pmg_node_parts.proofs.ahead.BoardPreview.answer_near.Goals as goal

pub returns : goal.returns
returns c =
    let p = c.args.target.now in
    let key = c.args.key.now in
    let near = option_map (λ x. x.now) c.args.self.now.near in
    let far = option_map (λ x. x.now) c.args.self.now.far in
    c.resolve.ensures
    ∙ near_alike (λ v. spelling v.now) c.read-near.result c.read-far.result _ _ c.has_ended-term.result _ c.args.mode
    (c.read-near.ensures ∙ ap (λ d. read_at (joined d near) p key) c.near.ensures)
    (c.read-far.ensures ∙ ap (λ d. read_at (joined d far) p key) c.far.ensures)
    (λ none. c.has_ended-term.ensures none ∙ ap (λ d. is_some (read_at (joined d near) p term_key)) c.near-2.ensures)
