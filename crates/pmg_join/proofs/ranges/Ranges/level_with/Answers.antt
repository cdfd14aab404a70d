use Rattle.std.proofs.Common.{inl, inr, arith}
use Rattle.pmg_join.specs.Ranges.{Between}
use Rattle.pmg_join.proofs.RangeSteps.{reached_with}
use Rattle.pmg_join.proofs.ranges.Ranges.level_with.Goals as goal

pub returns-clause-reached : goal.returns-clause-reached
returns-clause-reached c n some up =
    reached_with c.args.self.now.ends (Between c.args.from c.args.to) c.level-level.result c.args.from c.args.to c.max.result c.reach_from.result n
    c.if-level-from.false c.max.ensures (λ i b. b) (λ i some le. inl (c.level-level.ensures.reached i some le)) c.reach_from.ensures.reached some up

pub returns-clause-no_more : goal.returns-clause-no_more
returns-clause-no_more c h = elim h [
  | inl there ↦ c.reach_from.ensures.no_more there
  | inr b ↦ let is = c.max.ensures in let far = c.reach_from.ensures.far in omega (arith, is, far, b.1)
]
