use Rattle.std.proofs.Common.{◌≡◌, ◌-◌, ◌<◌, ◌+◌, length, take, get_or, arith, rules, refl, sym, ap, subst, ◌∙◌}
use Rattle.std.proofs.lemmas.Result.{err_from_is_err_and}
use Rattle.pmg_store.specs.declared.input.TheConstants.{INPUT_LIMIT}
use Rattle.pmg_script.specs.Reading.{IsUnended}
use Rattle.pmg_script.proofs.ReadingLemmas.{goes_on, is_past_limit, is_whole, no_line_read, nothing_more, read_on, stops_on, unended_of}
use Rattle.pmg_script.proofs.reading.next_line.Goals as goal

pub returns-in_err-read_through-clause-line : goal.returns-in_err-read_through-clause-line
returns-in_err-read_through-clause-line g c =
    let err = err_from_is_err_and c.from_residual.result c.from_residual.ensures.1 in
    rw (err.1, err.2) (no_line_read c.args.start (g.R.Read.remaining c.args.reader.now.reader) (g.R.Read.remaining c.loop.reader.reader)
    (g.R.Read.remaining c.read_through.new.self.reader) c.loop.line.items c.read_through.new.list.items _ c.in_err-read_through.ensures.cause c.in_err-read_through.ensures.none
    c.loop.invariant.unended c.loop.invariant.read c.in_err-read_through.ensures.bytes)

pub returns-then-branch-eq0-clause-line : goal.returns-then-branch-eq0-clause-line
returns-then-branch-eq0-clause-line g c =
    let same = nothing_more c.loop.line.items c.read_through.new.list.items c.in_ok-read_through.ensures.appends (omega (arith, c.in_ok-read_through.ensures.count, c.if-branch-eq0.true)) in (
      subst IsUnended (sym same) (unended_of c.loop.line.items c.loop.invariant.unended),
      (
        read_on (g.R.Read.remaining c.args.reader.now.reader) (g.R.Read.remaining c.loop.reader.reader) (g.R.Read.remaining c.read_through.new.self.reader) c.loop.line.items
            c.read_through.new.list.items c.in_ok-read_through.ensures.appends c.loop.invariant.read c.in_ok-read_through.ensures.bytes,
        search rules,
      ),
    )

pub returns-then-start-len-gt-INPUT_LIMIT-clause-line :
    goal.returns-then-start-len-gt-INPUT_LIMIT-clause-line
returns-then-start-len-gt-INPUT_LIMIT-clause-line g c =
    let stops = stops_on c.loop.line.items c.read_through.new.list.items c.in_ok-read_through.ensures.appends c.loop.invariant.unended c.in_ok-read_through.ensures.stops in
    let read = read_on (g.R.Read.remaining c.args.reader.now.reader) (g.R.Read.remaining c.loop.reader.reader) (g.R.Read.remaining c.read_through.new.self.reader) c.loop.line.items
    c.read_through.new.list.items c.in_ok-read_through.ensures.appends c.loop.invariant.read c.in_ok-read_through.ensures.bytes in
    let cut : c.pop.new.self.items ≡ take (length c.read_through.new.list.items - 1) c.read_through.new.list.items = search rules in
    let some : 0 < length c.read_through.new.list.items = search rules in
    let limit : c.args.start + length c.pop.new.self.items ≡ INPUT_LIMIT = search rules in
    rw c.too_long.ensures (refl, is_past_limit c.args.start _ _ c.read_through.new.list.items c.pop.new.self.items some cut limit stops read)

pub returns-then-index-eq-LF-clause-line : goal.returns-then-index-eq-LF-clause-line
returns-then-index-eq-LF-clause-line g c =
    let stops = stops_on c.loop.line.items c.read_through.new.list.items c.in_ok-read_through.ensures.appends c.loop.invariant.unended c.in_ok-read_through.ensures.stops in
    let some : 0 < length c.read_through.new.list.items = search rules in
    let size : c.len-in-loop-2.result ≡ length c.read_through.new.list.items = search rules in
    let at = c.index.ensures ∙ ap (λ n. get_or c.read_through.new.list.items (n - 1) c.index.result.now) size in (
      is_whole c.read_through.new.list.items c.index.result.now some at c.if-index-eq-LF.true stops,
      read_on (g.R.Read.remaining c.args.reader.now.reader) (g.R.Read.remaining c.loop.reader.reader) (g.R.Read.remaining c.read_through.new.self.reader) c.loop.line.items
          c.read_through.new.list.items c.in_ok-read_through.ensures.appends c.loop.invariant.read c.in_ok-read_through.ensures.bytes,
    )

pub loop-preserved : goal.loop-preserved
loop-preserved g c =
    let stops = stops_on c.loop.line.items c.read_through.new.list.items c.in_ok-read_through.ensures.appends c.loop.invariant.unended c.in_ok-read_through.ensures.stops in
    let some : 0 < length c.read_through.new.list.items = search rules in
    let size : c.len-in-loop-2.result ≡ length c.read_through.new.list.items = search rules in
    let at = c.index.ensures ∙ ap (λ n. get_or c.read_through.new.list.items (n - 1) c.index.result.now) size in
    record {
      failure = search rules;
      reads = search rules;
      count = search rules;
      within = search rules;
      unended = goes_on c.read_through.new.list.items c.index.result.now some at c.if-index-eq-LF.false stops;
      read = read_on (g.R.Read.remaining c.args.reader.now.reader) (g.R.Read.remaining c.loop.reader.reader) (g.R.Read.remaining c.read_through.new.self.reader) c.loop.line.items
          c.read_through.new.list.items c.in_ok-read_through.ensures.appends c.loop.invariant.read c.in_ok-read_through.ensures.bytes;
    }
