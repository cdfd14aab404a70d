use Rattle.std.proofs.Common.{Ok, sym, ap, ◌∙◌}
use Rattle.pmg_commit.specs.Data.{join_data}
use Rattle.pmg_store.proofs.Converging.{joined_to_nothing}
use Rattle.pmg_store.proofs.stream.store_of_stream.Goals as goal

pub returns : goal.returns
returns c =
    let taken = c.in_ok-take_stream.ensures.taken in
    taken.1 ∙ ap Ok (sym (taken.2 ∙ ap (λ d. join_data d taken.0) c.new-store.ensures ∙ joined_to_nothing taken.0))
