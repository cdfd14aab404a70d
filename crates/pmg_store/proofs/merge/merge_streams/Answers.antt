use Rattle.std.proofs.Common.{arith, inl, inr}
use Rattle.std.proofs.lemmas.Result.{err_from_is_err_and}
use Rattle.pmg_store.proofs.MergeLaws.{written_alike}
use Rattle.pmg_store.proofs.MergeLemmas.{many_due, merge_failed, merge_written, known_alike}
use Rattle.pmg_store.proofs.OutcomeLemmas.{keeps_same}
use Rattle.pmg_store.proofs.ReaderLemmas.{few_start}
use Rattle.pmg_store.proofs.merge.merge_streams.Goals as goal

pub returns-then-readers-gt-MAX_STREAMS-clause-merges : goal.returns-then-readers-gt-MAX_STREAMS-clause-merges
returns-then-readers-gt-MAX_STREAMS-clause-merges g c streams known =
    let alike = known_alike (λ r. g.R.Read.remaining r.reader) c.args.readers.now streams known in
    inl (inr (many_due streams (omega (arith, alike, c.if-readers-gt-MAX_STREAMS.true))), keeps_same _)

pub returns-then-readers-gt-MAX_STREAMS-clause-few : goal.returns-then-readers-gt-MAX_STREAMS-clause-few
returns-then-readers-gt-MAX_STREAMS-clause-few g c = few_start c.args.readers.now

pub returns-in_err-store-clause-merges : goal.returns-in_err-store-clause-merges
returns-in_err-store-clause-merges g c streams known =
    let err = err_from_is_err_and c.from_residual.result c.from_residual.ensures.1 in
    let alike = known_alike (λ r. g.R.Read.remaining r.reader) c.args.readers.now streams known in
    rw (err.1, err.2) (merge_failed (g.W.Write.contents c.args.writer.now.writer) c.in_err-store.field-0.0 streams
    (omega (arith, alike, c.if-readers-gt-MAX_STREAMS.false)) (c.in_err-store.ensures.gives streams known))

pub returns-clause-merges : goal.returns-clause-merges
returns-clause-merges g c streams known =
    let alike = known_alike (λ r. g.R.Read.remaining r.reader) c.args.readers.now streams known in
    merge_written (g.W.Write.contents c.args.writer.now.writer) (g.W.Write.contents c.dump.new.writer.writer) c.dump.result streams c.in_ok-store.store
    (omega (arith, alike, c.if-readers-gt-MAX_STREAMS.false)) (c.in_ok-store.ensures.gives streams known) c.dump.ensures.dumps

pub returns-clause-any_order : goal.returns-clause-any_order
returns-clause-any_order g c streams others known same few =
    written_alike (g.W.Write.contents c.args.writer.now.writer) (g.W.Write.contents c.dump.new.writer.writer) c.dump.result streams others same few
    (returns-clause-merges g c streams known)
