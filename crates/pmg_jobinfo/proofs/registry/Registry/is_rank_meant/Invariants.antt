use Rattle.std.proofs.Common.{◌≡◌, drop}
use Rattle.std.specs.List.{list_any}
use Rattle.pmg_jobinfo.proofs.MeantLemmas.{means}
use Rattle.pmg_jobinfo.proofs.registry.Registry.is_rank_meant.Given as goal

-- nobody before stands for the process
abbrev pub invariant-loop-proc : goal.invariant-loop-proc
invariant-loop-proc l =
    list_any (λ p. means l.self p (record { nspace = l.nspace; rank = l.rank })) l.list
    ≡ list_any (λ p. means l.self p (record { nspace = l.nspace; rank = l.rank })) (drop l.proc-index l.list)
