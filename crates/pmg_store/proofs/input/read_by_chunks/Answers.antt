use Rattle.std.proofs.Common.{◌≡◌, ◌≤◌, take, length, length-take, arith, refl}
use Rattle.pmg_store.specs.declared.input.TheConstants.{INPUT_LIMIT}
use Rattle.pmg_store.proofs.InputLemmas.{all_read, too_much_read}
use Rattle.pmg_store.proofs.input.read_by_chunks.Goals as goal

pub returns-then-count-eq0-clause-input : goal.returns-then-count-eq0-clause-input
returns-then-count-eq0-clause-input g c =
    let none : c.in_ok-count.count ≡ 0 = omega arith in
    let within : length c.loop.input.items ≤ INPUT_LIMIT = omega (arith, c.loop.input.ok.0) in
    all_read (g.R.Read.remaining c.args.reader.now.reader) (g.R.Read.remaining c.loop.reader.reader)
    (g.R.Read.remaining c.read.new.self.reader) c.loop.input.items (take c.in_ok-count.count c.read.new.chunk) within (rw none refl)
    c.loop.invariant.read c.in_ok-count.ensures.bytes.0 (c.in_ok-count.ensures.bytes.1 none (omega arith))

pub returns-then-count-len-clause-input : goal.returns-then-count-len-clause-input
returns-then-count-len-clause-input g c =
    let fits : c.in_ok-count.count ≤ length c.read.new.chunk = c.in_ok-count.ensures.bound.0 in
    rw c.too_long.ensures (too_much_read (g.R.Read.remaining c.args.reader.now.reader) (g.R.Read.remaining c.loop.reader.reader)
    (g.R.Read.remaining c.read.new.self.reader) c.loop.input.items _ (simp length-take (omega (arith, c.loop.input.ok.0)))
    c.loop.invariant.read c.in_ok-count.ensures.bytes.0)
