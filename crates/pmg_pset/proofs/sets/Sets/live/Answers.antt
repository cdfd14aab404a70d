use Rattle.std.proofs.Common.{sym, ap, ◌∙◌}
use Rattle.std.specs.Option.{option_map}
use Rattle.pmg_commit.specs.Sealed.{Sealed}
use Rattle.pmg_commit.specs.Stamped.{stamp_of}
use Rattle.pmg_pset.specs.Sets.{live_in, live_at}
use Rattle.pmg_pset.proofs.SetLemmas.{found_procs}
use Rattle.pmg_pset.proofs.sets.Sets.live.Goals as goal

pub members_of-requires : goal.members_of-requires
members_of-requires c =
    found_procs c.self.inside.sealer c.args.name.now (stamp_of c.in-Some.put.now) c.self.invariant
    (ap (option_map (λ v. stamp_of v.now)) (sym c.in-Some.is) ∙ c.far_put.ensures)

pub returns-in-Some-clause-value : goal.returns-in-Some-clause-value
returns-in-Some-clause-value c =
    c.members_of.ensures.value ∙ ap live_in (ap (option_map (λ v. stamp_of v.now)) (sym c.in-Some.is) ∙ c.far_put.ensures)
    ∙ ap (λ (s : Sealed). live_at s c.args.name.now) c.self.view_is

pub returns-in-None-clause-value : goal.returns-in-None-clause-value
returns-in-None-clause-value c =
    ap live_in (ap (option_map (λ v. stamp_of v.now)) (sym c.in-None.is) ∙ c.far_put.ensures)
    ∙ ap (λ (s : Sealed). live_at s c.args.name.now) c.self.view_is
