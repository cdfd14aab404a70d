use Rattle.std.proofs.Common.{arith}
use Rattle.pmg_pset.proofs.MemberLemmas.{none_counted, none_sized, some_sized}
use Rattle.pmg_pset.proofs.members.array_size.Goals as goal

pub returns-then-procs-gt-MAX_MEMBERS : goal.returns-then-procs-gt-MAX_MEMBERS
returns-then-procs-gt-MAX_MEMBERS c = none_counted c.args.procs.now c.if-procs-gt-MAX_MEMBERS.true

pub returns-then-size-gt-MAX_VALUE_SIZE : goal.returns-then-size-gt-MAX_VALUE_SIZE
returns-then-size-gt-MAX_VALUE_SIZE c = none_sized c.args.procs.now (omega (arith, c.if-size-gt-MAX_VALUE_SIZE.true, c.bodies_size-size.ensures.value))

pub returns : goal.returns
returns c =
    some_sized c.args.procs.now _ c.if-procs-gt-MAX_MEMBERS.false (omega (arith, c.bodies_size-size.ensures.value)) c.if-size-gt-MAX_VALUE_SIZE.false
