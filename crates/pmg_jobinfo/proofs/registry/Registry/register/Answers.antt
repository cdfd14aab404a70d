use Rattle.std.proofs.Common.{sym, subst}
use Rattle.pmg_jobinfo.specs.Jobs.{AreJobs}
use Rattle.pmg_jobinfo.proofs.TableLemmas.{jobs_with, jobs_registered}
use Rattle.pmg_jobinfo.proofs.registry.Registry.register.Goals as goal

pub invariant_of-self-2 : goal.invariant_of-self-2
invariant_of-self-2 c =
    let is = jobs_with c.self.inside.nodes.items c.self.inside.spaces.entries c.insert.new.self.entries c.args.self.now c.args.nspace c.in_ok-homes.homes c.args.homes.now c.self.view_is c.in_ok-homes.ensures c.in_ok-insert.ensures.updates.0 in
    subst AreJobs (sym is) (jobs_registered c.args.self.now c.args.nspace c.args.homes.now (subst AreJobs c.self.view_is c.self.invariant) c.in_ok-check_space.ensures.space c.in_ok-check_space.ensures.room)

pub returns-clause-ok : goal.returns-clause-ok
returns-clause-ok c =
    jobs_with c.self.inside.nodes.items c.self.inside.spaces.entries c.insert.new.self.entries c.args.self.now c.args.nspace c.in_ok-homes.homes c.args.homes.now c.self.view_is c.in_ok-homes.ensures c.in_ok-insert.ensures.updates.0
