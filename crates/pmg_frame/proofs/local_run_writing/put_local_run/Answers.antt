use Rattle.std.proofs.Common.{◌≡◌, ◌++◌}
use Rattle.std.specs.Int.{w32, w64, to_be_bytes}
use Rattle.std.proofs.lemmas.Result.{on_ok_weaker}
use Rattle.pmg_wire.specs.Spelling.{proc_spelling}
use Rattle.pmg_frame.specs.Fences.{is_gone}
use Rattle.pmg_frame.specs.Spelling.{flag_spelling}
use Rattle.pmg_frame.proofs.Appending.{appended_4}
use Rattle.pmg_frame.proofs.local_run_writing.put_local_run.Goals as goal

pub returns : goal.returns
returns c =
    let a = c.args in
    let first = a.first.now in
    let proc : c.put_proc.new.out.items ≡ a.out.now.items ++ proc_spelling first.proc = c.in_ok-put_proc.ensures.ok in
    let last : c.extend_from_slice.new.self.items ≡ c.put_proc.new.out.items ++ to_be_bytes w32 a.last = rw c.to_be_bytes.ensures at c.in_ok-extend_from_slice.ensures.ok in
    let flag : c.put_flag.new.out.items ≡ c.extend_from_slice.new.self.items ++ flag_spelling (is_gone first.state) = rw c.is_gone.ensures at c.in_ok-put_flag.ensures in
    on_ok_weaker c.extend_from_slice-2.result
    (λ (e : c.extend_from_slice-2.new.self.items ≡ c.put_flag.new.out.items ++ to_be_bytes w64 first.level).
    appended_4 a.out.now.items c.put_proc.new.out.items c.extend_from_slice.new.self.items c.put_flag.new.out.items c.extend_from_slice-2.new.self.items
    (proc_spelling first.proc) (to_be_bytes w32 a.last) (flag_spelling (is_gone first.state)) (to_be_bytes w64 first.level) proc last flag e)
    (rw c.to_be_bytes-2.ensures at c.extend_from_slice-2.ensures.ok)
