use Rattle.std.proofs.Common.{ap, subst, List}
use mathlib.Core.List.{IsPrefix}
use Rattle.pmg_publish.specs.declared.counting.Publication.{Publication}
use Rattle.pmg_publish.proofs.Prefixes.{in_line}
use Rattle.pmg_publish.proofs.history.History.continues.Goals as goal

pub returns : goal.returns
returns c =
    let both = c.learn.new.self.log in
    let this : IsPrefix c.self.inside.seen.log both = subst (λ (l : List Publication). IsPrefix l both) (ap (λ s. s.log) c.again-both.ensures) c.learn.ensures.2 in
    rw (← c.self.view_is, ← c.other.view_is)
    (in_line c.self.inside.seen.log c.other.inside.seen.log both c.self.inside.count c.other.inside.count c.self.invariant c.other.invariant this c.learn.ensures.3)
