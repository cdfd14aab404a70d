use Rattle.std.proofs.Common.{ap, ◌∙◌}
use Rattle.std.specs.Prelude.{is_some}
use Rattle.std.specs.Option.{option_map}
use Rattle.pmg_value.specs.Spelling.{spelling}
use Rattle.pmg_scope.specs.Scripts.{term_key}
use Rattle.pmg_commit.specs.Data.{read_at}
use Rattle.pmg_node_model.specs.Holdings.{joined}
use Rattle.pmg_node_parts.proofs.SeenLemmas.{far_alike}
use Rattle.pmg_node_parts.proofs.ahead.BoardPreview.answer_far.Goals as goal

pub returns : goal.returns
returns c =
    let p = c.args.target.now in
    let far = option_map (λ x. x.now) c.args.self.now.far in
    c.resolve.ensures
    ∙ far_alike (λ v. spelling v.now) c.read-far.result _ c.has_ended-term.result _ c.args.mode
    (c.read-far.ensures ∙ ap (λ d. read_at (joined d far) p c.args.key.now) c.far-store.ensures)
    (λ none. c.has_ended-term.ensures none ∙ ap (λ d. is_some (read_at (joined d far) p term_key)) c.far-store.ensures)
