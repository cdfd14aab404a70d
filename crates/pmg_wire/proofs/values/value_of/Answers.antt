use Rattle.std.proofs.Common.{length, get_or, ap, arith, ◌<◌, ◌≤◌, ◌≡◌, ◌∙◌}
use Rattle.pmg_wire.proofs.Windows.{quick_value}
use Rattle.pmg_wire.proofs.values.value_of.Goals as goal

pub returns : goal.returns
returns c =
    let rest = c.rest-rest.ensures in
    let some : 0 < length c.args.at.now.rest = omega (arith, ap length rest, c.in-Some.ensures.item.3.0) in
    let tag : c.in-Some.tag.now ≡ get_or c.args.at.now.rest 0 0 = c.in-Some.ensures.item.3.1 0 ∙ ap (λ bytes. get_or bytes 0 0) rest in
    let few : length c.args.at.now.rest ≤ 1048576 = omega (arith, ap length rest, c.if-rest-gt-MAX_VALUE_SIZE.false) in
    quick_value c.args.at.now c.skip.new.self _ _ _ some tag c.skip.ensures (omega arith) (omega arith) c.offset-start.ensures.bytes few c.plain_of.ensures
