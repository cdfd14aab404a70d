use Rattle.std.proofs.Common.{None, map}
use Rattle.pmg_value.specs.Items.{number_value}
use Rattle.pmg_wire.specs.Fields.{read_plain}
use Rattle.pmg_wire.specs.Many.{many}
use Rattle.pmg_wire.proofs.Building.{HasRead}
use Rattle.pmg_wire.proofs.values.numbers_of.Given as goal

abbrev pub invariant-loop : goal.invariant-loop
invariant-loop l = HasRead l.tag l.count l.counter (map (number_value l.tag) l.numbers.items) l.at (many (λ _. read_plain l.tag) l.count None l.fn.at)
