use Rattle.std.proofs.Common.{◌∙◌}
use Rattle.std.specs.Ordering.{nat_cmp}
use Rattle.std.specs.Cmp.Lexicographic.{slice_cmp}
use Rattle.pmg_value.proofs.WordLemmas.{by_end, by_firsts, by_seconds}
use Rattle.pmg_value.proofs.word.Word.compare.Goals as goal

pub returns-then-self-other : goal.returns-then-self-other
returns-then-self-other c =
    c.cmp.ensures
    ∙ by_firsts c.self.inside.text c.other.inside.text c.self.inside.first c.other.inside.first c.self.inside.second c.other.inside.second
    c.self.invariant c.other.invariant c.if-self-other.true
    ∙ (λ i. slice_cmp nat_cmp (c.self.view_is i) (c.other.view_is i))

pub returns-then-self-other-2 : goal.returns-then-self-other-2
returns-then-self-other-2 c =
    c.cmp-then-self-other-2.ensures
    ∙ by_seconds c.self.inside.text c.other.inside.text c.self.inside.first c.other.inside.first c.self.inside.second c.other.inside.second
    c.self.invariant c.other.invariant c.if-self-other.false c.if-self-other-2.true
    ∙ (λ i. slice_cmp nat_cmp (c.self.view_is i) (c.other.view_is i))

pub returns-then-self-eq0 : goal.returns-then-self-eq0
returns-then-self-eq0 c =
    by_end c.self.inside.text c.other.inside.text c.self.inside.first c.other.inside.first c.self.inside.second c.other.inside.second
    c.self.invariant c.other.invariant c.if-self-other.false c.if-self-other-2.false c.if-self-eq0.true
    ∙ (λ i. slice_cmp nat_cmp (c.self.view_is i) (c.other.view_is i))
