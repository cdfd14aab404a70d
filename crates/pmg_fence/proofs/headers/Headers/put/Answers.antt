use Rattle.std.proofs.Common.{sym, ◌∙◌}
use Rattle.std.specs.FinMap.{nat_cmp-IsAntisymmetric}
use Rattle.std.specs.Cmp.{nat_cmp_total}
use Rattle.pmg_fence.proofs.BackLemmas.{gone_back}
use Rattle.pmg_fence.proofs.RowFacts.{is_there, not_there, first_stays, first_comes}
use Rattle.pmg_fence.proofs.Trees.{put_in}
use Rattle.pmg_fence.proofs.headers.Headers.put.Goals as goal

pub returns-then-is_some-clause-ok : goal.returns-then-is_some-clause-ok
returns-then-is_some-clause-ok c =
    let key = c.index.result in
    first_stays c.args.self.now key c.args.header.node c.args.header.locals (c.index.ensures.value ∙ c.node.ensures)
    (is_there c.self.inside.rows.entries c.args.self.now key c.get.result _ c.self.view_is c.get.ensures.value (sym c.is_some.ensures ∙ c.if-is_some.true))

pub returns-clause-ok : goal.returns-clause-ok
returns-clause-ok c =
    let key = c.index.result in
    first_comes c.args.self.now _ key c.args.header.node c.args.header.locals (c.index.ensures.value ∙ c.node.ensures)
    (is_there c.self.inside.rows.entries c.args.self.now key c.get.result _ c.self.view_is c.get.ensures.value (sym c.is_some.ensures ∙ c.if-is_some.false))
    (put_in nat_cmp_total nat_cmp-IsAntisymmetric (λ h. h.locals) c.self.inside.rows.entries c.insert.new.self.entries c.args.self.now key c.args.header c.self.view_is (c.in_ok-insert.ensures).updates.0)

pub returns-clause-before : goal.returns-clause-before
returns-clause-before c =
    let key = c.index.result in
    gone_back nat_cmp_total nat_cmp-IsAntisymmetric c.args.self.now _ key c.args.header.locals
    (not_there c.self.inside.rows.entries c.args.self.now key c.get.result c.self.view_is c.get.ensures.value (sym c.is_some.ensures ∙ c.if-is_some.false))
    (put_in nat_cmp_total nat_cmp-IsAntisymmetric (λ h. h.locals) c.self.inside.rows.entries c.insert.new.self.entries c.args.self.now key c.args.header c.self.view_is (c.in_ok-insert.ensures).updates.0)
