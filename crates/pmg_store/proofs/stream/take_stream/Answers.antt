use Rattle.std.proofs.Common.{ap, ◌∙◌}
use Rattle.std.specs.Prelude.{Some}
use Rattle.pmg_frame.specs.Streams.{finished}
use Rattle.pmg_frame.proofs.Cuts.{moves_on}
use Rattle.pmg_store.proofs.ToldLemmas.{none_taken, one_taken, fault_told, end_told, end_cut}
use Rattle.pmg_store.proofs.stream.take_stream.Goals as goal

pub loop-frame-init : goal.loop-frame-init
loop-frame-init c = rw c.of-at.ensures (none_taken c.args.bytes.now c.args.store.now)

pub loop-frame-smaller : goal.loop-frame-smaller
loop-frame-smaller c = moves_on c.loop-frame.at c.in-Ok-Some.frame c.get_frame.new.at (rw c.in-Ok-Some.field-0-is at c.in-Ok-Some.ensures)

pub loop-frame-preserved : goal.loop-frame-preserved
loop-frame-preserved c =
    one_taken c.args.bytes.now c.args.store.now c.loop-frame.store c.take_frame.new.store c.loop-frame.at c.get_frame.new.at c.in-Ok-Some.frame c.loop-frame.invariant
    (rw c.in-Ok-Some.field-0-is at c.in-Ok-Some.ensures) c.in_ok-take_frame-in-Ok-Some.ensures

pub returns-in-Ok-None-clause-taken : goal.returns-in-Ok-None-clause-taken
returns-in-Ok-None-clause-taken c =
    let read = rw c.in-Ok-None.field-0-is at c.in-Ok-None.ensures in
    end_told c.args.bytes.now c.args.store.now c.loop-frame.store c.loop-frame.at c.end_of_stream.result c.loop-frame.invariant read.0
    (c.end_of_stream.ensures ∙ ap (λ at. finished (Some at)) read.1)

pub returns-in-Ok-None-clause-fault : goal.returns-in-Ok-None-clause-fault
returns-in-Ok-None-clause-fault c =
    let read = rw c.in-Ok-None.field-0-is at c.in-Ok-None.ensures in
    end_cut c.args.bytes.now c.args.store.now c.loop-frame.store c.loop-frame.at c.end_of_stream.result c.loop-frame.invariant read.0
    (c.end_of_stream.ensures ∙ ap (λ at. finished (Some at)) read.1)

pub returns-in-Err-clause-fault : goal.returns-in-Err-clause-fault
returns-in-Err-clause-fault c = fault_told c.args.bytes.now c.args.store.now c.loop-frame.store c.loop-frame.at c.in-Err.refusal c.loop-frame.invariant c.in-Err.ensures.0
