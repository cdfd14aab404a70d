use Rattle.std.proofs.Common.{◌≤◌, length, inr, refl, subst, arith}
use Rattle.std.proofs.lemmas.Bool.Decides.{nat_tests}
use Rattle.pmg_daemon.proofs.FrameLemmas.{out_of}
use Rattle.pmg_daemon.proofs.daemon.Daemon.open.Goals as goal

pub returns-then-id-node_count-clause-refused : goal.returns-then-id-node_count-clause-refused
returns-then-id-node_count-clause-refused c =
    let jobs = c.in_ok-registry.registry in
    let out : c.node_count.result ≤ c.args.id = grind (arith, nat_tests, c.if-id-node_count.true) in
    inr (refl, (jobs, (c.in_ok-registry.ensures, out_of c.args.id (length jobs.nodes) (subst (λ n. n ≤ c.args.id) c.node_count.ensures.value out))))
