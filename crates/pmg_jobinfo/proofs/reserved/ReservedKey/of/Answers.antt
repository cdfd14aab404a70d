use Rattle.std.proofs.Common.{sym, ap, ◌∙◌, arith}
use Rattle.std.specs.Str.{bytes_eq}
use Rattle.pmg_jobinfo.specs.Reserved.{key_of, key_name, all_keys}
use Rattle.pmg_jobinfo.proofs.SearchLemmas.{found, not_found}
use Rattle.pmg_jobinfo.proofs.reserved.ReservedKey.of.Goals as goal

pub returns-then-eq : goal.returns-then-eq
unfolding key_of
returns-then-eq c =
    rw (← c.as_bytes-name.ensures.value) (found (λ key. bytes_eq c.as_bytes-name.result.now (key_name key)) all_keys c.loop-candidate.candidate-index _ (omega arith) c.loop-candidate.invariant.1 (ap (bytes_eq c.as_bytes-name.result.now) (sym c.name.ensures) ∙ sym c.eq.ensures ∙ c.if-eq.true))

pub returns : goal.returns
unfolding key_of
returns c =
    rw (← c.as_bytes-name.ensures.value) (not_found (λ key. bytes_eq c.as_bytes-name.result.now (key_name key)) all_keys c.loop-candidate.candidate-index (omega arith) c.loop-candidate.invariant.1)
