use Rattle.std.proofs.Common.{◌≡◌, drop}
use Rattle.std.specs.Prelude.{◌==◌}
use Rattle.std.specs.List.{list_any}
use Rattle.pmg_jobinfo.proofs.homes.is_host.Given as goal

abbrev pub invariant-loop-home : goal.invariant-loop-home
invariant-loop-home l = list_any (λ home. home == l.node) l.homes ≡ list_any (λ home. home == l.node) (drop l.home-index l.homes)
