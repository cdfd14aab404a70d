use Rattle.std.proofs.Common.{map, arith, inl, inr}
use Rattle.std.proofs.lemmas.List.{length-map}
use Rattle.std.proofs.lemmas.Result.{err_from_is_err_and}
use Rattle.pmg_store.proofs.MergeLemmas.{many_due, merge_failed, merge_written}
use Rattle.pmg_store.proofs.OutcomeLemmas.{keeps_same}
use Rattle.pmg_store.proofs.merge.merge_inputs.Goals as goal

pub returns-then-inputs-gt-MAX_STREAMS-clause-merges : goal.returns-then-inputs-gt-MAX_STREAMS-clause-merges
returns-then-inputs-gt-MAX_STREAMS-clause-merges g c =
    let long = length-map c.args.inputs.now (λ input. input.items) in
    inl (inr (many_due (map (λ input. input.items) c.args.inputs.now) (omega (arith, long, c.if-inputs-gt-MAX_STREAMS.true))), keeps_same _)

pub returns-in_err-store-clause-merges : goal.returns-in_err-store-clause-merges
returns-in_err-store-clause-merges g c =
    let err = err_from_is_err_and c.from_residual.result c.from_residual.ensures.1 in
    let long = length-map c.args.inputs.now (λ input. input.items) in
    rw (err.1, err.2) (merge_failed (g.W.Write.contents c.args.writer.now.writer) c.in_err-store.field-0.0 (map (λ input. input.items) c.args.inputs.now)
    (omega (arith, long, c.if-inputs-gt-MAX_STREAMS.false)) c.in_err-store.ensures.gives)

pub returns-clause-merges : goal.returns-clause-merges
returns-clause-merges g c =
    let long = length-map c.args.inputs.now (λ input. input.items) in
    merge_written (g.W.Write.contents c.args.writer.now.writer) (g.W.Write.contents c.dump.new.writer.writer) c.dump.result
    (map (λ input. input.items) c.args.inputs.now) c.in_ok-store.store (omega (arith, long, c.if-inputs-gt-MAX_STREAMS.false))
    c.in_ok-store.ensures.gives c.dump.ensures.dumps
