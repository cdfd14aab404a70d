use Rattle.std.proofs.Common.{◌≡◌, ◌-◌, None}
use Rattle.pmg_wire.specs.Fields.{passed, read_plain}
use Rattle.pmg_wire.specs.Many.{many}
use Rattle.pmg_wire.proofs.skip.skip_elements.Given as goal

-- after the elements that are left lies what lies after all of them
abbrev pub invariant-loop : goal.invariant-loop
invariant-loop l = passed (many (λ _. read_plain l.tag) (l.count - l.counter) None l.at) ≡ passed (many (λ _. read_plain l.tag) l.count None l.fn.at)
