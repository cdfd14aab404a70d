use Rattle.std.proofs.Common.{◌≡◌, ℕ, Some, Ok, subst}
use Rattle.pmg_value.specs.Answers.{Fails}
use Rattle.pmg_jobinfo.specs.Jobs.{Jobs}
use Rattle.pmg_node_parts.specs.Calls.{get_of}
use Rattle.pmg_node.specs.Servers.{Server, IsNode}
use Rattle.pmg_node.proofs.AskLemmas.{told_first, reserved_found, reserved_refuses}
use Rattle.pmg_node.proofs.server.Server.tell_reserved.Goals as goal

-- what holds of the registry that was read holds of the node's jobs
of_node : (P : Jobs → ℕ → Type 0) (read : Jobs) (t s : Server) → read ≡ t.jobs → t ≡ s → P read t.id → P s.jobs s.id
of_node P read t s same view is = subst (λ (x : Server). P x.jobs x.id) view (subst (λ (jobs : Jobs). P jobs t.id) same is)

pub returns-in-Ok : goal.returns-in-Ok
returns-in-Ok c mode =
    let s = c.args.self.now in
    let get = get_of c.args.target.now c.args.key.now in
    reserved_found s.jobs s.id get s.holding mode c.requires.reserved (subst IsNode c.self.view_is c.self.invariant.node).node c.requires.known c.requires.named c.in-Ok.value
    (of_node (λ jobs id. told_first jobs id get ≡ Ok (Some c.in-Ok.value)) _ _ s c.registry.ensures c.self.view_is c.in-Ok.ensures)

pub returns-in-Err : goal.returns-in-Err
returns-in-Err c mode =
    let s = c.args.self.now in
    let get = get_of c.args.target.now c.args.key.now in
    reserved_refuses s.jobs s.id get s.holding mode c.requires.reserved (subst IsNode c.self.view_is c.self.invariant.node).node c.requires.known c.requires.named c.in-Err.refusal
    (of_node (λ jobs id. Fails c.in-Err.refusal (told_first jobs id get)) _ _ s c.registry.ensures c.self.view_is c.in-Err.ensures)
