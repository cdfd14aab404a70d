use Rattle.std.proofs.Common.{None}
use Rattle.std.proofs.lemmas.Result.{err_from_is_err_and}
use Rattle.pmg_wire.specs.Fields.{read_plain}
use Rattle.pmg_wire.specs.Many.{many}
use Rattle.pmg_wire.proofs.Building.{starts, one_more, stops, all_read}
use Rattle.pmg_wire.proofs.values.elements_of.Goals as goal

pub loop-init : goal.loop-init
loop-init c = starts c.args.tag c.args.count _ c.args.at.now c.in_ok-items.ensures.items c.offset-start.ensures.bytes c.requires

pub loop-preserved : goal.loop-preserved
loop-preserved c =
    let total = many (λ _. read_plain c.args.tag) c.args.count None c.args.at.now in
    one_more c.args.tag c.args.count c.loop.counter c.loop.items.items c.push.new.self.items c.in_ok-item.item c.loop.at c.plain_of.new.at total c.loop-test.true c.in_ok-push.ensures.items c.in_ok-item.ensures c.loop.invariant

pub plain_of-requires : goal.plain_of-requires
plain_of-requires c = c.loop.invariant.short

pub returns-in_err-item-clause-read : goal.returns-in_err-item-clause-read
returns-in_err-item-clause-read c =
    let err = err_from_is_err_and c.from_residual-in_err-item.result c.from_residual-in_err-item.ensures.1 in
    let total = many (λ _. read_plain c.args.tag) c.args.count None c.args.at.now in
    rw (err.1, err.2) (stops c.args.tag c.args.count c.loop.counter c.loop.items.items c.in_err-item.field-0.0 c.loop.at total c.loop-test.true c.in_err-item.ensures c.loop.invariant)

pub returns-clause-read : goal.returns-clause-read
returns-clause-read c =
    let total = many (λ _. read_plain c.args.tag) c.args.count None c.args.at.now in
    all_read c.args.tag c.args.count c.loop.counter c.loop.items.items c.loop.at total c.loop-test.false c.loop.invariant

pub returns-clause-plain : goal.returns-clause-plain
returns-clause-plain c = c.loop.invariant.plain
