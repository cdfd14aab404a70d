use Rattle.std.proofs.Common.{sym, ap, ◌∙◌}
use Rattle.pmg_node_parts.specs.Calls.{get_of}
use Rattle.pmg_node_model.specs.Holdings.{answer_in}
use Rattle.pmg_node.proofs.AskLemmas.{now_told}
use Rattle.pmg_node.proofs.server.Server.wait.Goals as goal

pub park-requires-in-Now-clause-parks : goal.park-requires-in-Now-clause-parks
park-requires-in-Now-clause-parks c =
    let s = c.args.self.now in
    let get = get_of c.args.target.now c.args.key.now in
    absurd (now_told s.jobs s.id s.holding get (ap (answer_in s.jobs s.id s.holding get) (sym c.in-Now.is) ∙ c.requires.parks))

pub returns-in-Now-clause-ok : goal.returns-in-Now-clause-ok
returns-in-Now-clause-ok c =
    let s = c.args.self.now in
    let get = get_of c.args.target.now c.args.key.now in
    absurd (now_told s.jobs s.id s.holding get (ap (answer_in s.jobs s.id s.holding get) (sym c.in-Now.is) ∙ c.requires.parks))

pub returns-in-Now-clause-sent : goal.returns-in-Now-clause-sent
returns-in-Now-clause-sent c =
    let s = c.args.self.now in
    let get = get_of c.args.target.now c.args.key.now in
    absurd (now_told s.jobs s.id s.holding get (ap (answer_in s.jobs s.id s.holding get) (sym c.in-Now.is) ∙ c.requires.parks))
