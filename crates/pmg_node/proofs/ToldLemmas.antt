-- A get that is answered at once.
use Rattle.std.proofs.Common.{◌≡◌, List, ◌++◌, append-nil, Ok, sym, ap, ◌∙◌}
use Rattle.pmg_value.specs.declared.process.Proc.{Proc}
use Rattle.pmg_get.specs.declared.view.Mode.{Mode}
use Rattle.pmg_node_model.specs.Acts.{Act, reply_of}
use Rattle.pmg_node_model.specs.Holdings.{Get}
use Rattle.pmg_node_model.specs.Kept.{IsSettled}
use Rattle.pmg_node_model.specs.declared.sent.Sent.{Sent}
use Rattle.pmg_node.specs.Servers.{Server, sent_by, after}
use Rattle.pmg_node.proofs.AskLemmas.{IsTold, answer_at, ask_of, judged, told_after, told_sent}

-- an act that changes and sends nothing
pub record IsUnmoved (s : Server) (a : Act) (out : List Sent) : Type 0 where
  pub done : s ≡ after s a
  pub sent : out ≡ out ++ sent_by s a

pub told_unmoved : (s : Server) (p : Proc) (get : Get) (mode : Mode) → IsSettled s.jobs s.id s.holding → judged s.jobs s.id s.holding p get mode ≡ Ok tt → IsTold (reply_of (answer_at s get mode))
    → (out : List Sent) → IsUnmoved s (ask_of p get mode) out
told_unmoved s p get mode is free told out = record {
  done = sym (told_after s p get mode is free told);
  sent = sym (append-nil out) ∙ ap (λ (x : List Sent). out ++ x) (sym (told_sent s p get mode is free told));
}
