use Rattle.std.proofs.Common.{◌≡◌, ◌++◌}
use Rattle.std.specs.Int.{w32, to_be_bytes}
use Rattle.std.proofs.lemmas.Result.{on_ok_weaker}
use Rattle.pmg_frame.specs.RunSpelling.{short_name, local_runs_spelling}
use Rattle.pmg_frame.proofs.Appending.{appended_3}
use Rattle.pmg_frame.proofs.EncodedLemmas.{on_ok_always}
use Rattle.pmg_frame.proofs.HeaderTests.{are_headers}
use Rattle.pmg_frame.proofs.local_run_writing.put_short_header.Goals as goal

pub returns-clause-bytes : goal.returns-clause-bytes
returns-clause-bytes c =
    let h = c.args.header.now in
    let node : c.put_node.new.out.items ≡ c.args.out.now.items ++ to_be_bytes w32 h.node = rw c.node.ensures at c.in_ok-put_node.ensures.bytes in
    let name : c.put_short_name.new.out.items ≡ c.put_node.new.out.items ++ short_name h.name = rw c.name.ensures at c.in_ok-put_short_name.ensures.bytes in
    on_ok_weaker c.put_local_runs.result
    (λ (e : c.put_local_runs.new.out.items ≡ c.put_short_name.new.out.items ++ local_runs_spelling h.locals).
    appended_3 c.args.out.now.items c.put_node.new.out.items c.put_short_name.new.out.items c.put_local_runs.new.out.items
    (to_be_bytes w32 h.node) (short_name h.name) (local_runs_spelling h.locals) node name e)
    (rw c.locals.ensures.value at c.put_local_runs.ensures)

pub returns-clause-valid : goal.returns-clause-valid
returns-clause-valid c =
    let fits = are_headers c.args.header.now (rw c.node.ensures at c.in_ok-put_node.ensures.bound) (rw c.name.ensures at c.in_ok-put_short_name.ensures.valid) in
    on_ok_always c.put_local_runs.result (fits.0 c.locals.ensures.header)
