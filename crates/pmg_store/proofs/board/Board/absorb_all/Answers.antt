use Rattle.std.proofs.Common.{rules, ◌≡◌, length, ◌∙◌}
use Rattle.std.proofs.lemmas.Result.{on_ok_weaker}
use Rattle.pmg_frame.proofs.EncodedLemmas.{on_ok_always}
use Rattle.pmg_store.proofs.Converging.{none_more, one_more}
use Rattle.pmg_store.proofs.board.Board.absorb_all.Goals as goal

pub returns-in-empty-len1-clause-near_ok : goal.returns-in-empty-len1-clause-near_ok
returns-in-empty-len1-clause-near_ok c =
    let none : length c.args.near.now ≡ 0 = search rules in
    on_ok_always c.absorb_far.result (c.absorb_far.ensures.near ∙ none_more c.args.self.now.near c.args.near.now none)

pub returns-in-empty-len1-clause-far_ok : goal.returns-in-empty-len1-clause-far_ok
returns-in-empty-len1-clause-far_ok c =
    let one : length c.args.far.now ≡ 1 = search rules in
    on_ok_weaker c.absorb_far.result (λ is. is ∙ one_more c.args.self.now.far c.args.far.now c.piece-item.result one c.piece-item.is) c.absorb_far.ensures.far
