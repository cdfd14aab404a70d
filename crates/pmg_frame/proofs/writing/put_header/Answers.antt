use Rattle.std.proofs.Common.{◌≡◌, ◌++◌, length}
use Rattle.std.specs.Int.{w32, to_be_bytes}
use Rattle.std.specs.List.{flat_map}
use Rattle.std.proofs.lemmas.Result.{on_ok_weaker}
use Rattle.pmg_frame.specs.Spelling.{name_spelling, local_spelling}
use Rattle.pmg_frame.proofs.Appending.{appended_4}
use Rattle.pmg_frame.proofs.HeaderTests.{are_headers}
use Rattle.pmg_frame.proofs.EncodedLemmas.{on_ok_always}
use Rattle.pmg_frame.proofs.writing.put_header.Goals as goal

pub returns-clause-bytes : goal.returns-clause-bytes
returns-clause-bytes c =
    let h = c.args.header.now in
    let node : c.put_node.new.out.items ≡ c.args.out.now.items ++ to_be_bytes w32 h.node = rw c.node.ensures at c.in_ok-put_node.ensures.bytes in
    let name : c.put_name.new.out.items ≡ c.put_node.new.out.items ++ name_spelling h.name = rw c.name.ensures at c.in_ok-put_name.ensures.bytes in
    let count : c.extend_from_slice.new.self.items ≡ c.put_name.new.out.items ++ to_be_bytes w32 (length h.locals) = rw (c.to_be_bytes.ensures, c.locals-locals.ensures.value) at c.in_ok-extend_from_slice.ensures.ok in
    on_ok_weaker c.put_locals.result
    (λ (e : c.put_locals.new.out.items ≡ c.extend_from_slice.new.self.items ++ flat_map local_spelling h.locals).
    appended_4 c.args.out.now.items c.put_node.new.out.items c.put_name.new.out.items c.extend_from_slice.new.self.items c.put_locals.new.out.items
    (to_be_bytes w32 h.node) (name_spelling h.name) (to_be_bytes w32 (length h.locals)) (flat_map local_spelling h.locals) node name count e)
    (rw c.locals-locals.ensures.value at c.put_locals.ensures)

pub returns-clause-valid : goal.returns-clause-valid
returns-clause-valid c =
    let fits = are_headers c.args.header.now (rw c.node.ensures at c.in_ok-put_node.ensures.bound) (rw c.name.ensures at c.in_ok-put_name.ensures.valid) in
    on_ok_always c.put_locals.result (fits.0 c.locals-locals.ensures.header)
