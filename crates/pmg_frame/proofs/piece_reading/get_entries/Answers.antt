use Rattle.std.proofs.Common.{◌≡◌, ◌++◌, ◌∷◌, [], None, map}
use Rattle.std.proofs.lemmas.Result.{err_from_is_err_and}
use Rattle.std.proofs.lemmas.List.{map_push}
use Rattle.pmg_wire.specs.Many.{many}
use Rattle.pmg_wire.proofs.Counted.{goes_on, ends, is_done, last_seen, last_of}
use Rattle.pmg_wire.specs.Reading.{FailsReading}
use Rattle.pmg_commit.specs.Pieces.{entry_of}
use Rattle.pmg_frame.specs.PieceReading.{read_entry}
use Rattle.pmg_frame.proofs.piece_reading.get_entries.Goals as goal

pub returns-in_err-entry : goal.returns-in_err-entry
returns-in_err-entry c =
    let err = err_from_is_err_and c.from_residual-in_err-entry.result c.from_residual-in_err-entry.ensures.1 in
    let read = read_entry c.args.from c.args.to in
    let front = map entry_of c.loop.entries.items in
    let last = last_seen entry_of c.last.result c.loop.entries.items (rw c.deref.ensures.value at c.last.ensures.value) in
    let failed : FailsReading c.in_err-entry.field-0.0 (read (last_of front) c.loop.at) = rw (← last) c.in_err-entry.ensures in
    rw (err.1, err.2) (ends read c.in_err-entry.field-0.0 front c.args.count c.loop.counter c.loop.at (many read c.args.count None c.args.at.now) c.loop-test.true failed c.loop.invariant)

pub loop-preserved : goal.loop-preserved
loop-preserved c =
    let read = read_entry c.args.from c.args.to in
    let front = map entry_of c.loop.entries.items in
    let e = c.in_ok-entry.entry in
    let last = last_seen entry_of c.last.result c.loop.entries.items (rw c.deref.ensures.value at c.last.ensures.value) in
    let grown : map entry_of c.push.new.self.items ≡ front ++ entry_of e ∷ [] = rw c.in_ok-push.ensures.items (map_push _ c.loop.entries.items e) in
    rw grown (goes_on read front c.args.count c.loop.counter c.loop.at (entry_of e) c.get_entry.new.at (many read c.args.count None c.args.at.now) c.loop-test.true (rw (← last) c.in_ok-entry.ensures) c.loop.invariant)

pub returns : goal.returns
returns c = is_done (read_entry c.args.from c.args.to) (map entry_of c.loop.entries.items) c.args.count c.loop.counter c.loop.at (many (read_entry c.args.from c.args.to) c.args.count None c.args.at.now) c.loop-test.false c.loop.invariant
