use Rattle.std.proofs.Common.{◌≡◌, map, drop}
use Rattle.pmg_store.specs.Readers.{AnyFailed, ReadFewTimes}
use Rattle.pmg_store.proofs.MergeLemmas.{IsOnTheWay}
use Rattle.pmg_store.proofs.merge.store_of_streams.Given as goal

-- what was taken, with what the other readers give, is what all give; and these were not read yet, and none has failed by now
abbrev pub invariant-loop-reader : goal.invariant-loop-reader
invariant-loop-reader g l = record {
  number : l.number ≡ l.reader-index;
  unread : drop l.reader-index l.readers ≡ drop l.reader-index l.fn.readers;
  few : ReadFewTimes l.fn.readers l.readers;
  failed : AnyFailed l.readers → AnyFailed l.fn.readers;
  way : IsOnTheWay l.all l.reader-index (map (λ r. g.R.Read.remaining r.reader) (drop l.reader-index l.readers)) (map (λ r. g.R.Read.remaining r.reader) l.fn.readers);
}
