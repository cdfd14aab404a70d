use Rattle.std.proofs.Common.{List, ◌++◌, append_assoc, ap, ◌∙◌}
use Rattle.std.specs.List.{flat_map}
use Rattle.pmg_node_parts.specs.Calls.{all_asks}
use Rattle.pmg_node_model.specs.Choosing.{asking_fence, asking_sets, waited_in}
use Rattle.pmg_node_model.specs.declared.due.ToSend.{ToSend}
use Rattle.pmg_node.specs.Asking.{asking_as}
use Rattle.pmg_node.proofs.NudgeLemmas.{homes_asked}
use Rattle.pmg_node.proofs.server.Server.ask_all.Goals as goal

pub returns : goal.returns
returns c =
    let s = c.args.self.now in
    let start = c.args.dues.now.items in
    let fences = flat_map (asking_fence s.jobs s.id s.holding) (waited_in s.holding) in
    let homes = flat_map (asking_as s.jobs s.id s.holding) (all_asks s.holding.calls) in
    let sets = asking_sets s.id s.holding in
    c.in_ok-ask_sets.ensures
    ∙ ap (λ (ds : List ToSend). ds ++ sets) (c.in_ok-ask_homes.ensures ∙ ap (λ (ds : List ToSend). ds ++ homes) c.in_ok-ask_fences.ensures)
    ∙ append_assoc (start ++ fences) homes sets
    ∙ append_assoc start fences (homes ++ sets)
    ∙ ap (λ (ds : List ToSend). start ++ (fences ++ (ds ++ sets))) (homes_asked s.jobs s.id s.holding)
