use Rattle.std.specs.Int.{w32, to_be_bytes}
use Rattle.pmg_frame.specs.RunSpelling.{short_name}
use Rattle.pmg_frame.proofs.Appending.{then_appended}
use Rattle.pmg_frame.proofs.run_writing.put_short_fence_ask.Goals as goal

pub returns-clause-bytes : goal.returns-clause-bytes
returns-clause-bytes c =
    let a = c.args.ask.now in
    then_appended c.put_short_name.result c.args.out.now.items c.put_node.new.out.items c.put_short_name.new.out.items (to_be_bytes w32 a.node) (short_name a.name)
    (rw c.node.ensures at c.in_ok-put_node.ensures.bytes) (rw c.name.ensures at c.put_short_name.ensures.bytes)
