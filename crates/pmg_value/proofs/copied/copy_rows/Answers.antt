use Rattle.std.proofs.Common.{List, sym, ap, ◌∙◌}
use Rattle.pmg_value.proofs.RowLemmas.{with_rest, none_copied, one_copied}
use Rattle.pmg_value.proofs.copied.copy_rows.Goals as goal

pub loop-key-init : goal.loop-key-init
loop-key-init g c = λ q.
    ap (λ (t : List (g.row.K.Denot × g.row.V.Denot)). with_rest g.K.Ord.cmp c.new-copies.result.entries t q) (c.into_iter-key-iterator.ensures.into_iter_gives ∙ c.iter-key-items.ensures.rest)
    ∙ none_copied g.met.K.Ord.total c.new-copies.result.entries c.args.rows.now.entries c.new-copies.ensures.empty c.iter-key-items.ensures.ordered q

pub loop-key-preserved-in_ok-insert : goal.loop-key-preserved-in_ok-insert
loop-key-preserved-in_ok-insert g c = λ q.
    one_copied g.K.Ord.cmp c.loop-key.copies.entries c.insert.new.self.entries c.next.new.self c.loop-key.key-iterator c.in-Some.key.now c.in-Some.value.now _
    c.in_ok-copy.field-0 c.in_ok-copy-2.field-0 c.in-Some.ensures.steps c.in_ok-copy.ensures c.in_ok-copy-2.ensures c.in_ok-insert.ensures.updates.0 q (c.loop-key.invariant q)

pub loop-key-preserved : goal.loop-key-preserved
loop-key-preserved g c = λ q.
    one_copied g.K.Ord.cmp c.loop-key.copies.entries c.insert.new.self.entries c.next.new.self c.loop-key.key-iterator c.in-Some.key.now c.in-Some.value.now _
    c.in_ok-copy.field-0 c.in_ok-copy-2.field-0 c.in-Some.ensures.steps c.in_ok-copy.ensures c.in_ok-copy-2.ensures c.in_ok-insert.ensures.updates.0 q (c.loop-key.invariant q)

pub returns : goal.returns
returns g c = λ q. ap (λ (t : List (g.row.K.Denot × g.row.V.Denot)). with_rest g.K.Ord.cmp c.loop-key.copies.entries t q) (sym c.in-None.ensures.steps.0) ∙ c.loop-key.invariant q
