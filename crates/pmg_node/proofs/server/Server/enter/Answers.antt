use Rattle.std.proofs.Common.{◌≡◌, ◌++◌, List, Ok, inl, refl, sym, ap, ◌∙◌, rules}
use Rattle.std.proofs.lemmas.Result.{err_from_is_err_and}
use Rattle.pmg_value.specs.Signatures.{FenceName}
use Rattle.pmg_value.specs.declared.refusal.Refusal.TheVariants as refusals
use Rattle.pmg_node_model.specs.Acts.{Act, Request, Reply, cause, signature_of}
use Rattle.pmg_node_model.specs.Holdings.{call_of}
use Rattle.pmg_node.specs.Servers.{Server}
use Rattle.pmg_node_model.specs.declared.sent.Sent.{Sent}
use Rattle.pmg_value.specs.CheckOrder.{first_of}
use Rattle.pmg_fence.specs.Changes.{next_name}
use Rattle.pmg_fence.specs.declared.change.Change.TheVariants as changes
use Rattle.pmg_node_parts.specs.Owns.{sealed_of}
use Rattle.pmg_node.specs.Fencing.{fence_dues}
use Rattle.pmg_node.proofs.FenceLemmas.{Steps}
use Rattle.pmg_node.proofs.ActLemmas.{refused}
use Rattle.pmg_node.proofs.EntryLemmas.{entry_refused, entry_idle, entry_told, entry_short, enters_it, entry_limited, entry_named, entry_steps}
use Rattle.pmg_node.proofs.NodeInside.{server_with, sends_in}
use Rattle.pmg_node.proofs.server.Server.enter.Goals as goal
use Rattle.pmg_node.proofs.server.Server.enter.Goals.{After-drop-name-inside-2}

pub returns-in-Err : goal.returns-in-Err
returns-in-Err c =
    let s = c.args.self.now in
    let p = c.args.proc.now in
    let list = c.args.list.now in
    let judged = sym c.check_entry.ensures ∙ c.in-Err.is in
    let is = entry_refused s.jobs s.id s.holding p list c.args.collect c.in-Err.refusal judged in
    let its = refused s (Act.request (Request.enter p list c.args.collect)) c.in-Err.refusal is c.args.out.now.items in
    record { reply = entry_told s p list c.args.collect c.in-Err.refusal judged; done = λ _. its.done; sent = λ _. its.sent; memory = λ _. refl; unsent = λ _. refl }

pub returns-in_err-name-clause-reply : goal.returns-in_err-name-clause-reply
returns-in_err-name-clause-reply c =
    let e = err_from_is_err_and c.from_residual.result c.from_residual.ensures.1 in
    rw (e.1, e.2) (entry_short c.args.self.now c.args.proc.now c.args.list.now c.args.collect (sym c.check_entry.ensures ∙ c.in_default.is) c.in_err-name.ensures.few)

pub returns-in_default-2 : goal.returns-in_default-2
returns-in_default-2 c =
    let s = c.args.self.now in
    let p = c.args.proc.now in
    let list = c.args.list.now in
    let full = entry_limited s p list c.args.collect (sym c.check_entry.ensures ∙ c.in_default.is) (sym c.in_ok-name.ensures.name ∙ c.in_default-2.is) in
    let its = refused s (Act.request (Request.enter p list c.args.collect)) refusals.TooMany full c.args.out.now.items in
    record { reply = its.reply; done = λ _. its.done; sent = λ _. its.sent; memory = λ _. refl; unsent = λ _. refl }

pub enter_fence-requires-clause-free : goal.enter_fence-requires-clause-free
enter_fence-requires-clause-free c =
    let s = c.args.self.now in
    let p = c.args.proc.now in
    ap (λ (x : Server). call_of x.holding p) c.self.view_is ∙ entry_idle s.jobs s.id s.holding p c.args.list.now (sym c.check_entry.ensures ∙ c.in_default.is)

pub returns-in_err-enter_fence-clause-reply : goal.returns-in_err-enter_fence-clause-reply
returns-in_err-enter_fence-clause-reply c =
    let e = err_from_is_err_and c.from_residual-in_err-enter_fence.result c.from_residual-in_err-enter_fence.ensures.1 in
    let s = c.args.self.now in
    let p = c.args.proc.now in
    let list = c.args.list.now in
    let judged = sym c.check_entry.ensures ∙ c.in_default.is in
    let named = entry_named s p list c.args.collect c.in-Some.name judged (sym c.in_ok-name.ensures.name ∙ c.in-Some.is) in
    rw (e.1, e.2) (inl (enters_it s p list c.args.collect named.0))

-- ---- the process enters

module _ (c : After-drop-name-inside-2) where
  abbrev s : Server
  s = c.args.self.now

  abbrev a : Act
  a = Act.request (Request.enter c.args.proc.now c.args.list.now c.args.collect)

  abbrev its_name : FenceName
  its_name = next_name s.holding.table (signature_of s.jobs c.args.proc.now c.args.list.now c.args.collect) c.args.proc.now

  named : (first_of (cause s.jobs s.id s.holding a) (tt {0}) ≡ Ok tt) × (c.in-Some.name ≡ its_name)
  named = entry_named s c.args.proc.now c.args.list.now c.args.collect c.in-Some.name (sym c.check_entry.ensures ∙ c.in_default.is) (sym c.in_ok-name.ensures.name ∙ c.in-Some.is)

  steps : let i = c.self.inside in let p = c.args.proc.now in let then = c.enter_fence.new in
      Steps s a (Reply.entered its_name.instance) then.table i.id i.held.anew (server_with i then.table then.calls then.marks)
      (sends_in i (fence_dues i.table c.in-Some.name (changes.Entered p (sealed_of i.own p).level))).frames
  steps =
      let i = c.self.inside in
      let then = c.enter_fence.new in
      let ok = c.in_ok-enter_fence.ensures in
      entry_steps s c.args.proc.now c.args.list.now c.args.collect i c.self.view_is c.self.invariant named.0 c.in-Some.name named.1
      then.calls then.table then.marks ok.calls ok.table ok.marks

pub invariant_of-self-2 : goal.invariant_of-self-2
invariant_of-self-2 c = (steps c).kept

pub returns : goal.returns
returns c = record {
  reply = (steps c).replied ∙ ap (λ n. Reply.entered n) (ap (λ (f : FenceName). f.instance) (sym (named c).1) ∙ sym c.instance.ensures.value);
  done = λ _. (steps c).done;
  sent = λ _. c.in_ok-enter_fence.ensures.sent ∙ ap (λ (x : List Sent). c.args.out.now.items ++ x) (steps c).sent;
  memory = search rules;
  unsent = search rules;
}
