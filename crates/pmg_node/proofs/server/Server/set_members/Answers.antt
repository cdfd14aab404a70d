use Rattle.std.proofs.Common.{sym, ◌∙◌}
use Rattle.pmg_value.specs.Spelling.{spelling}
use Rattle.pmg_value.specs.declared.value.Value.TheVariants as values
use Rattle.pmg_node.proofs.MemberLemmas.{read_known, no_members, some_members}
use Rattle.pmg_node.proofs.server.Server.set_members.Goals as goal

pub returns-in-Some-members_in-clause-value : goal.returns-in-Some-members_in-clause-value
returns-in-Some-members_in-clause-value c =
    let s = c.args.self.now in
    let name = c.args.name.now in
    let bytes = spelling (values.Array c.in-Some-members_in.members.now) in
    let live = read_known s _ c.far.result.now c.of_host.result name _ c.self.view_is c.far.ensures c.of_host.ensures.nspace c.of_host.ensures.rank c.in-Some.ensures in
    sym (some_members s.holding.far name bytes (sym c.is_reserved.ensures ∙ c.if-is_reserved.false) (sym live ∙ sym c.in-Some-members_in.ensures.value))

pub returns-in-None-clause-value : goal.returns-in-None-clause-value
returns-in-None-clause-value c =
    let s = c.args.self.now in
    let name = c.args.name.now in
    let live = read_known s _ c.far.result.now c.of_host.result name _ c.self.view_is c.far.ensures c.of_host.ensures.nspace c.of_host.ensures.rank c.in-Some.ensures in
    sym (no_members s.holding.far name (sym c.is_reserved.ensures ∙ c.if-is_reserved.false) (sym live ∙ sym c.in-None.ensures.value))
