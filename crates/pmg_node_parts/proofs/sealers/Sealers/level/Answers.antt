use Rattle.std.proofs.Common.{sym, ap, subst, ◌∙◌}
use Rattle.std.specs.Option.{option_map, unwrap_or}
use Rattle.pmg_commit.specs.Sealed.{fresh}
use Rattle.pmg_commit.specs.Stamped.{IsSealer}
use Rattle.pmg_commit.proofs.SealerFacts.{fresh_is}
use Rattle.pmg_node_parts.proofs.sealers.Sealers.level.Goals as goal

pub returns-in-None-clause-sealer : goal.returns-in-None-clause-sealer
returns-in-None-clause-sealer c commits =
    let p = c.args.proc.now in
    let none = sym c.get.ensures ∙ ap (option_map (λ z. z.now)) c.in-None.is in
    subst IsSealer (ap (λ o. unwrap_or o (fresh p)) (sym none)) (fresh_is p commits)
