use Rattle.std.proofs.Common.{rules, ◌≡◌, Result, Err, sym, subst}
use Rattle.pmg_value.specs.declared.refusal.Refusal.{Refusal}
use Rattle.pmg_value.specs.declared.value.Value.{Value}
use Rattle.pmg_node_model.specs.Acts.{Act, Reply, Request}
use Rattle.pmg_node.specs.Replies.{asked_reply}
use Rattle.pmg_node.specs.declared.parking.Asked.{Asked}
use Rattle.pmg_journal.specs.Journals.{IsEvent}
use Rattle.pmg_value.specs.declared.process.Proc.{Proc}
use Rattle.pmg_node_parts.specs.Calls.{get_of}
use Rattle.pmg_desk.specs.Clients.{Tells, proc_of}
use Rattle.pmg_desk.specs.Reading.{IsOwnGet, TellsGet}
use Rattle.pmg_desk.proofs.GetLemmas.{by_refusal, by_value, never_idle}
use Rattle.pmg_desk.proofs.OwnLemmas.{own_target}
use Rattle.pmg_desk.proofs.client.Client.get_as.Goals as goal

pub returns-then-is_own-clause-own : goal.returns-then-is_own-clause-own
returns-then-is_own-clause-own g c = λ own.
    subst (λ (q : Proc). IsOwnGet c.args.self.now c.get_own.new.self (get_of q c.args.key.now) c.args.mode c.get_own.result) (own_target (proc_of c.args.self.now) c.args.target.now c.args.key.now own) c.get_own.ensures.own

pub returns-in_err-take-in-Parked-clause-told : goal.returns-in_err-take-in-Parked-clause-told
returns-in_err-take-in-Parked-clause-told g c = λ other event.
    let it = c.args.self.now in
    let mid = c.ask.new.self in
    let d = c.take.new.self in
    let get = get_of c.args.target.now c.args.key.now in
    let e : Refusal = c.in_err-take-in-Parked.field-0.0 in
    let is : c.from_residual-in_err-take-in-Parked.result ≡ Err e = search rules in
    let asked : Tells it mid (Act.request (Request.ask (proc_of it) get c.args.mode)) Reply.parked =
    subst (λ (x : Asked). Tells it mid (Act.request (Request.ask (proc_of it) get c.args.mode)) (asked_reply x)) c.in-Parked.is (c.in_ok-value.ensures.told tt) in
    subst (λ (r : Result Value Refusal). IsEvent r → TellsGet it d get c.args.mode r) (sym is)
    (by_refusal it mid d get c.args.mode c.ask.ensures.later asked e c.in_err-take-in-Parked.ensures.told) event

pub value_in-requires-clause-idle : goal.value_in-requires-clause-idle
value_in-requires-clause-idle g c =
    let it = c.args.self.now in
    let mid = c.ask.new.self in
    let get = get_of c.args.target.now c.args.key.now in
    let asked : Tells it mid (Act.request (Request.ask (proc_of it) get c.args.mode)) Reply.parked =
    subst (λ (x : Asked). Tells it mid (Act.request (Request.ask (proc_of it) get c.args.mode)) (asked_reply x)) c.in-Parked.is (c.in_ok-value.ensures.told tt) in
    never_idle it mid c.take.new.self get c.args.mode c.ask.ensures.later asked c.in_ok-take-in-Parked.field-0 c.take.ensures.later (c.in_ok-take-in-Parked.ensures.told tt)

pub returns-in_ok-take-in-Parked-clause-told : goal.returns-in_ok-take-in-Parked-clause-told
returns-in_ok-take-in-Parked-clause-told g c = λ other event.
    let it = c.args.self.now in
    let mid = c.ask.new.self in
    let get = get_of c.args.target.now c.args.key.now in
    let asked : Tells it mid (Act.request (Request.ask (proc_of it) get c.args.mode)) Reply.parked =
    subst (λ (x : Asked). Tells it mid (Act.request (Request.ask (proc_of it) get c.args.mode)) (asked_reply x)) c.in-Parked.is (c.in_ok-value.ensures.told tt) in
    by_value it mid c.take.new.self get c.args.mode c.ask.ensures.later asked c.in_ok-take-in-Parked.field-0 c.value_in.result c.value_in.ensures (c.in_ok-take-in-Parked.ensures.told tt)
