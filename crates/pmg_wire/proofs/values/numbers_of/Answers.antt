use Rattle.std.proofs.Common.{None, map, ap}
use Rattle.std.proofs.lemmas.Result.{err_from_is_err_and}
use Rattle.pmg_value.specs.Items.{number_value}
use Rattle.pmg_wire.specs.Fields.{read_plain}
use Rattle.pmg_wire.specs.Many.{many}
use Rattle.pmg_wire.proofs.Building.{starts, one_more, stops, all_read, number_more}
use Rattle.pmg_wire.proofs.values.numbers_of.Goals as goal

pub loop-init : goal.loop-init
loop-init c = starts c.args.tag c.args.count _ c.args.at.now (ap (map (number_value c.args.tag)) c.in_ok-numbers.ensures.items) c.offset-start.ensures.bytes c.requires.short

pub loop-preserved : goal.loop-preserved
loop-preserved c =
    let total = many (λ _. read_plain c.args.tag) c.args.count None c.args.at.now in
    let more = number_more c.args.tag c.as_number.result c.loop.numbers.items c.push.new.self.items c.in_ok-item.item c.loop.at c.plain_of.new.at c.requires.kind c.loop.invariant.bytes
    c.in_ok-push.ensures.items c.as_number.ensures c.in_ok-item.ensures in
    one_more c.args.tag c.args.count c.loop.counter (map (number_value c.args.tag) c.loop.numbers.items) (map (number_value c.args.tag) c.push.new.self.items) c.in_ok-item.item c.loop.at c.plain_of.new.at total c.loop-test.true more c.in_ok-item.ensures c.loop.invariant

pub plain_of-requires : goal.plain_of-requires
plain_of-requires c = c.loop.invariant.short

pub returns-in_err-item : goal.returns-in_err-item
returns-in_err-item c =
    let err = err_from_is_err_and c.from_residual-in_err-item.result c.from_residual-in_err-item.ensures.1 in
    let total = many (λ _. read_plain c.args.tag) c.args.count None c.args.at.now in
    rw (err.1, err.2) (stops c.args.tag c.args.count c.loop.counter (map (number_value c.args.tag) c.loop.numbers.items) c.in_err-item.field-0.0 c.loop.at total c.loop-test.true c.in_err-item.ensures c.loop.invariant)

pub returns : goal.returns
returns c =
    let total = many (λ _. read_plain c.args.tag) c.args.count None c.args.at.now in
    all_read c.args.tag c.args.count c.loop.counter (map (number_value c.args.tag) c.loop.numbers.items) c.loop.at total c.loop-test.false c.loop.invariant
