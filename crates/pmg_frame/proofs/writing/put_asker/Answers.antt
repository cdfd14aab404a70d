use Rattle.std.proofs.Common.{◌≡◌, ◌++◌}
use Rattle.std.specs.Int.{w32, w64, to_be_bytes}
use Rattle.std.proofs.lemmas.Result.{on_ok_weaker}
use Rattle.pmg_frame.specs.Spelling.{flag_spelling}
use Rattle.pmg_frame.proofs.Appending.{appended_3}
use Rattle.pmg_frame.proofs.writing.put_asker.Goals as goal

pub returns-clause-bytes : goal.returns-clause-bytes
returns-clause-bytes c =
    let a = c.args in
    let node : c.put_node.new.out.items ≡ a.out.now.items ++ to_be_bytes w32 a.node = c.in_ok-put_node.ensures.bytes in
    let request : c.extend_from_slice.new.self.items ≡ c.put_node.new.out.items ++ to_be_bytes w64 a.request = rw c.to_be_bytes.ensures at c.in_ok-extend_from_slice.ensures.ok in
    on_ok_weaker c.put_flag.result
    (λ (e : c.put_flag.new.out.items ≡ c.extend_from_slice.new.self.items ++ flag_spelling a.role).
    appended_3 a.out.now.items c.put_node.new.out.items c.extend_from_slice.new.self.items c.put_flag.new.out.items (to_be_bytes w32 a.node) (to_be_bytes w64 a.request) (flag_spelling a.role) node request e)
    c.put_flag.ensures
