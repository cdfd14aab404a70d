use Rattle.std.proofs.Common.{sym, subst, ◌∙◌}
use Rattle.pmg_node_parts.specs.Calls.{get_of}
use Rattle.pmg_node.specs.Servers.{IsNode}
use Rattle.pmg_node.proofs.AskLemmas.{ask_bad, ask_known}
use Rattle.pmg_node.proofs.server.Server.check_target.Goals as goal

pub returns-then-is_bad_get-clause-value : goal.returns-then-is_bad_get-clause-value
returns-then-is_bad_get-clause-value c =
    let s = c.args.self.now in
    let get = get_of c.args.target.now c.args.key.now in
    sym (ask_bad s.jobs s.id s.holding c.args.proc.now get (sym (c.is_bad_get.ensures s.jobs c.requires.misnamed) ∙ c.if-is_bad_get.true))

pub returns-then-is_bad_get-clause-settled : goal.returns-then-is_bad_get-clause-settled
returns-then-is_bad_get-clause-settled c = (subst IsNode c.self.view_is c.self.invariant.node).server.settled

pub returns-then-listing-clause-value : goal.returns-then-listing-clause-value
returns-then-listing-clause-value c =
    let s = c.args.self.now in
    let get = get_of c.args.target.now c.args.key.now in
    let good = sym (c.is_bad_get.ensures s.jobs c.requires.misnamed) ∙ c.if-is_bad_get.false in
    c.check_free.ensures ∙ sym (ask_known s.jobs s.id s.holding c.args.proc.now get good (sym c.requires.registered ∙ c.if-listing.true))

pub returns-then-listing-clause-settled : goal.returns-then-listing-clause-settled
returns-then-listing-clause-settled c = (subst IsNode c.self.view_is c.self.invariant.node).server.settled

pub returns-then-is_bad_caller-clause-settled : goal.returns-then-is_bad_caller-clause-settled
returns-then-is_bad_caller-clause-settled c = (subst IsNode c.self.view_is c.self.invariant.node).server.settled

pub returns-clause-settled : goal.returns-clause-settled
returns-clause-settled c = (subst IsNode c.self.view_is c.self.invariant.node).server.settled
