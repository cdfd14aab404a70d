use Rattle.std.proofs.Common.{None}
use Rattle.pmg_wire.specs.Fields.{read_plain}
use Rattle.pmg_wire.specs.Many.{many}
use Rattle.pmg_wire.proofs.Building.{HasRead}
use Rattle.pmg_wire.proofs.values.elements_of.Given as goal

abbrev pub invariant-loop : goal.invariant-loop
invariant-loop l = HasRead l.tag l.count l.counter l.items.items l.at (many (λ _. read_plain l.tag) l.count None l.fn.at)
