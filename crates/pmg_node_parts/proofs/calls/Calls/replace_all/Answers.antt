use Rattle.std.proofs.Common.{sym, ap, ◌∙◌}
use Rattle.pmg_node_parts.specs.Calls.{all_instead}
use Rattle.pmg_node_parts.specs.Codes.{Calls}
use Rattle.pmg_node_parts.proofs.CallLemmas.{instead-push}
use Rattle.pmg_node_parts.proofs.calls.Calls.replace_all.Goals as goal

pub loop-proc-preserved : goal.loop-proc-preserved
loop-proc-preserved c =
    let answers = c.pop.new.self.items in
    ap (λ (m : Calls). all_instead m answers) c.replace.ensures
    ∙ sym (instead-push c.loop-proc.self answers c.in-Some.proc c.in-Some.settled)
    ∙ ap (all_instead c.loop-proc.self) (sym c.in-Some.ensures.items)
    ∙ c.loop-proc.invariant
