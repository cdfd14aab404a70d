use Rattle.std.proofs.Common.{List}
use Rattle.pmg_journal.proofs.NoteLemmas.{cached_on, waits_on}
use Rattle.pmg_journal.specs.declared.transcript.Called.{Called}
use Rattle.pmg_journal.proofs.notes.ClientLog.note.Goals as goal

pub invariant_of-self : goal.invariant_of-self
invariant_of-self c =
    let x : Called = record { call = c.args.call; answer = c.args.answer } in
    let calls : List Called = c.self.inside.transcript.calls.items in
    let is = c.push_reserved.ensures.items in (
      cached_on calls c.push_reserved.new.self.items x is c.self.inside.cache _ c.self.invariant.0 c.seal_by.ensures,
      waits_on calls c.push_reserved.new.self.items x is c.self.inside.in_call _ c.self.invariant.1 c.waits_by-waits.ensures,
    )
