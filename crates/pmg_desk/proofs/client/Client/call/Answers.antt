use Rattle.std.specs.Prelude.{IfOk}
use Rattle.std.proofs.Common.{rules, ◌≡◌, ap, subst}
use Rattle.pmg_value.specs.declared.process.Proc.{Proc}
use Rattle.pmg_history.specs.Entries.{Entries}
use Rattle.pmg_journal.specs.Journals.{happened}
use Rattle.pmg_journal.specs.Knowing.{GoesOnBy, happened_by}
use Rattle.pmg_journal.specs.declared.journal.Event.{Event}
use Rattle.pmg_desk.specs.Clients.{Client, journal_of, proc_of}
use Rattle.pmg_desk.proofs.ClientLemmas.{told_by}
use Rattle.pmg_desk.proofs.client.Client.call.Goals as goal

pub returns-clause-told : goal.returns-clause-told
returns-clause-told g c =
    let it : Client = c.args.self.now in
    let act = c.act_for-answer in
    let place = c.self.inside.desk.now.place in
    let d : Client = record { jobs = place.registry; node = place.node; viewer = act.new.viewer; known = act.new.known; transcript = c.end.new.self } in
    let proc : c.transcript.result.now.proc ≡ proc_of it = search rules in
    let known : c.self.inside.known ≡ it.known = ap (λ (x : Client). x.known) c.self.view_is in
    let told : IfOk act.result (λ t. GoesOnBy (proc_of it) (journal_of it) (journal_of d) (happened c.args.act t.told)) =
    subst (λ (p : Proc). IfOk act.result (λ t. GoesOnBy p (happened_by it.known) (journal_of d) (happened c.args.act t.told))) proc
    (subst (λ (k : Entries Event). IfOk act.result (λ t. GoesOnBy c.transcript.result.now.proc (happened_by k) (journal_of d) (happened c.args.act t.told))) known act.ensures.told) in
    told_by it d c.args.act act.result c.end.result told act.ensures.knows act.ensures.err c.end.ensures.told c.end.ensures.refused
