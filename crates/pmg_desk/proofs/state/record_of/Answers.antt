use Rattle.std.proofs.Common.{rules, refl}
use Rattle.pmg_desk.proofs.KeptLemmas.{evidence_kept}
use Rattle.pmg_desk.proofs.state.record_of.Goals as goal

pub with_evidence-requires : goal.with_evidence-requires
with_evidence-requires g c = evidence_kept c.args.parts c.requires _ refl (search rules)
