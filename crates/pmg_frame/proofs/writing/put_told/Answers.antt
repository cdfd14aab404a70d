use Rattle.std.proofs.Common.{◌≡◌, ◌++◌, length, map}
use Rattle.std.specs.Int.{w32, w64, to_be_bytes}
use Rattle.std.specs.List.{flat_map}
use Rattle.std.proofs.lemmas.List.{length-map}
use Rattle.std.proofs.lemmas.Result.{on_ok_weaker}
use Rattle.pmg_wire.specs.Spelling.{proc_spelling}
use Rattle.pmg_commit.specs.Pieces.{entry_of}
use Rattle.pmg_frame.specs.Spelling.{entry_spelling}
use Rattle.pmg_frame.proofs.Appending.{appended_5}
use Rattle.pmg_frame.proofs.writing.put_told.Goals as goal

pub returns-clause-bytes : goal.returns-clause-bytes
returns-clause-bytes c =
    let a = c.args in
    let entries = map entry_of a.entries.now in
    let proc : c.put_proc.new.out.items ≡ a.out.now.items ++ proc_spelling a.proc.now = c.in_ok-put_proc.ensures.ok in
    let from : c.extend_from_slice.new.self.items ≡ c.put_proc.new.out.items ++ to_be_bytes w64 a.from = rw c.to_be_bytes.ensures at c.in_ok-extend_from_slice.ensures.ok in
    let to : c.extend_from_slice-2.new.self.items ≡ c.extend_from_slice.new.self.items ++ to_be_bytes w64 a.to = rw c.to_be_bytes-2.ensures at c.in_ok-extend_from_slice-2.ensures.ok in
    let count : c.extend_from_slice-3.new.self.items ≡ c.extend_from_slice-2.new.self.items ++ to_be_bytes w32 (length entries) =
    rw (length-map a.entries.now entry_of) (rw c.to_be_bytes-3.ensures at c.in_ok-extend_from_slice-3.ensures.ok) in
    on_ok_weaker c.put_entries.result
    (λ (e : c.put_entries.new.out.items ≡ c.extend_from_slice-3.new.self.items ++ flat_map entry_spelling entries).
    appended_5 a.out.now.items c.put_proc.new.out.items c.extend_from_slice.new.self.items c.extend_from_slice-2.new.self.items c.extend_from_slice-3.new.self.items c.put_entries.new.out.items
    (proc_spelling a.proc.now) (to_be_bytes w64 a.from) (to_be_bytes w64 a.to) (to_be_bytes w32 (length entries)) (flat_map entry_spelling entries) proc from to count e)
    c.put_entries.ensures.bytes
