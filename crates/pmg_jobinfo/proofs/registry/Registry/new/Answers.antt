use Rattle.std.proofs.Common.{length, ap, ◌∙◌, arith}
use Rattle.std.proofs.lemmas.List.{length-map}
use Rattle.pmg_jobinfo.proofs.TableLemmas.{jobs_opened}
use Rattle.pmg_jobinfo.proofs.registry.Registry.new.Goals as goal

pub invariant_of-result : goal.invariant_of-result
invariant_of-result c =
    let count = ap length c.in_ok-texts_of.ensures ∙ length-map c.args.names.now (λ n. n.now) in
    jobs_opened _ _ c.new.ensures.empty (grind (arith, count)) (omega (arith, count))
