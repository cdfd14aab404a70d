use Rattle.std.proofs.Common.{arith}
use Rattle.std.proofs.lemmas.Result.{err_from_is_err_and}
use Rattle.pmg_value.specs.CheckOrder.{first_of}
use Rattle.pmg_jobinfo.specs.Jobs.{registered}
use Rattle.pmg_jobinfo.specs.Refusing.{register_cause}
use Rattle.pmg_jobfile.specs.Described.{with_spaces}
use Rattle.pmg_jobfile.proofs.ReadLemmas.{weaker, unless}
use Rattle.pmg_jobfile.proofs.JobLemmas.{is_of, registers, refuses, space_more, space_bad, all_spaces}
use Rattle.pmg_jobfile.proofs.job.with_spaces.Goals as goal

pub returns-in_err-register : goal.returns-in_err-register
returns-in_err-register c =
    let p = err_from_is_err_and c.from_residual-in_err-register.result c.from_residual-in_err-register.ensures.1 in
    let e = c.in_err-register.field-0.0 in
    let jobs = c.loop-space.registry in
    let n = c.in_ok-copy.field-0 in
    let h = c.deref.result.now in
    let s = c.space-item.result in
    let is = is_of n c.space.inside.name h c.space.inside.homes.items s c.in_ok-copy.ensures c.deref.ensures.value c.space.view_is in
    rw (p.1, p.2) (weaker e (λ given. space_bad jobs c.args.spaces.now c.loop-space.space-index (with_spaces c.args.registry c.args.spaces.now) c.loop-space.invariant
    s e c.loop-space-test.true c.space-item.is (refuses jobs n h s e is given)) (unless e (first_of (register_cause jobs n h) (tt {0})) c.in_err-register.ensures.value))

pub loop-space-preserved : goal.loop-space-preserved
loop-space-preserved c =
    let jobs = c.loop-space.registry in
    let n = c.in_ok-copy.field-0 in
    let h = c.deref.result.now in
    let s = c.space-item.result in
    let is = is_of n c.space.inside.name h c.space.inside.homes.items s c.in_ok-copy.ensures c.deref.ensures.value c.space.view_is in
    rw c.in_ok-register.ensures.ok (space_more jobs c.args.spaces.now c.loop-space.space-index (with_spaces c.args.registry c.args.spaces.now) c.loop-space.invariant
    s (registered jobs n h) c.loop-space-test.true c.space-item.is (registers jobs n h s c.in_ok-register.field-0 is c.in_ok-register.ensures.value))

pub returns : goal.returns
returns c = all_spaces c.loop-space.registry c.args.spaces.now c.loop-space.space-index (with_spaces c.args.registry c.args.spaces.now) c.loop-space.invariant (omega (arith, c.loop-space-test.false))
