use Rattle.std.proofs.Common.{◌+◌, ap}
use Rattle.pmg_jobinfo.specs.Expansion.{expansion}
use Rattle.pmg_pset.proofs.MeasureLemmas.{set_measured}
use Rattle.pmg_node_model.specs.Acts.{members_of}
use Rattle.pmg_node.proofs.setting.check_room.Goals as goal
use Rattle.std.proofs.Common.{arith}
use Rattle.std.proofs.lemmas.Bool.Decides.{nat_tests}

pub returns-then-count-gt-MAX_MEMBERS : goal.returns-then-count-gt-MAX_MEMBERS
returns-then-count-gt-MAX_MEMBERS c =
    let many = c.if-count-gt-MAX_MEMBERS.true in
    let counted = c.count_meant-count.ensures in
    c.can_define.ensures (members_of c.args.registry.now c.args.list.now)
    (set_measured (expansion c.args.registry.now c.args.list.now) _ _ counted (λ few. absurd (grind (arith, nat_tests, many, counted, few))))

pub returns : goal.returns
returns c =
    c.can_define-2.ensures (members_of c.args.registry.now c.args.list.now)
    (set_measured (expansion c.args.registry.now c.args.list.now) _ _ c.count_meant-count.ensures (λ few. ap (λ n. 6 + n) c.size_meant.ensures.value))
