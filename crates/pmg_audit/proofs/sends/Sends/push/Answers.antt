use Rattle.std.proofs.Common.{◌≡◌, ◌++◌, ◌∷◌, [], List, sym, subst, ◌∙◌}
use Rattle.pmg_node_model.specs.Sending.{sent}
use Rattle.pmg_node_model.specs.declared.sent.Sent.{Sent}
use Rattle.pmg_audit.specs.Sends.{ArePlaced}
use Rattle.pmg_audit.proofs.sends.Sends.push.Goals as goal

pub returns-clause-numbered : goal.returns-clause-numbered
returns-clause-numbered c =
    let frames = c.args.self.now.frames.items in
    let items : c.push.new.self.items ≡ frames ++ sent c.index.result c.args.sent.frame ∷ [] =
    c.in_ok-push.ensures.items ∙ (λ i. (c.keep_place.ensures.frames i).items ++ sent (sym c.index.ensures.value i) c.args.sent.frame ∷ []) in
    subst (λ (fs : List Sent). ArePlaced fs c.keep_place.new.self.places.entries) (sym items) c.in_ok-keep_place.ensures.placed
