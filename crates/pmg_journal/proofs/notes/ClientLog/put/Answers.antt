use Rattle.std.proofs.Common.{◌≡◌, List, subst}
use Rattle.pmg_value.specs.Spelling.{spelling}
use Rattle.pmg_node_model.specs.Acts.{Reply}
use Rattle.pmg_journal.proofs.NoteLemmas.{put_cached, put_waits}
use Rattle.pmg_journal.specs.Transcripts.{Calling, Noted, NotesCall, noted_in}
use Rattle.pmg_journal.proofs.notes.ClientLog.put.Goals as goal

pub invariant_of-self : goal.invariant_of-self
invariant_of-self c =
    let ns : List Noted = noted_in c.self.inside.transcript in
    let more : List Noted = noted_in c.note_put.new.transcript in
    let call : Calling.put c.args.scope c.in_ok-copy.field-0 (spelling c.in_ok-copy-2.field-0) ≡ Calling.put c.args.scope c.args.key (spelling c.args.value) =
    λ i. Calling.put c.args.scope (c.in_ok-copy.ensures i) (spelling (c.in_ok-copy-2.ensures i)) in
    let is = subst (λ (x : Calling). NotesCall ns more x (λ _. Reply.done) c.put_into-answer.result) call c.note_put.ensures.noted in (
      put_cached ns more c.args.scope c.args.key (spelling c.args.value) c.self.inside.cache c.put_into-answer.new.cache c.put_into-answer.result c.self.invariant.0 c.put_into-answer.ensures.ok c.put_into-answer.ensures.err is,
      put_waits ns more c.args.scope c.args.key (spelling c.args.value) c.self.inside.cache c.put_into-answer.new.cache c.self.inside.in_call c.put_into-answer.result c.self.invariant.1 is,
    )
