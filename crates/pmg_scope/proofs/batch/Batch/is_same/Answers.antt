use Rattle.std.proofs.Common.{◌&&◌, ap, ◌∙◌}
use Rattle.std.specs.Cmp.Lexicographic.{pointwise}
use Rattle.pmg_scope.specs.Rows.{canonical_rows, is_same_row}
use Rattle.pmg_scope.proofs.SameRows.{told_same}
use Rattle.pmg_scope.proofs.batch.Batch.is_same.Goals as goal

pub returns-then-are_same_rows : goal.returns-then-are_same_rows
returns-then-are_same_rows c =
    let a = c.self.inside in
    let b = c.other.inside in
    let far = pointwise is_same_row (canonical_rows a.far.items) (canonical_rows b.far.items) in
    let near = c.if-are_same_rows.ensures ∙ (λ i. pointwise is_same_row (canonical_rows (c.deref.ensures.value i)) (canonical_rows (c.deref-2.ensures.value i))) in
    told_same a.near.items a.far.items b.near.items b.far.items c.self.invariant c.other.invariant c.args.self.now c.args.other.now c.self.view_is c.other.view_is _
    (c.are_same_rows-then-are_same_rows.ensures
    ∙ (λ i. pointwise is_same_row (canonical_rows (c.deref-then-are_same_rows.ensures.value i)) (canonical_rows (c.deref-then-are_same_rows-2.ensures.value i)))
    ∙ ap (λ t. t && far) near)

pub returns-else-are_same_rows : goal.returns-else-are_same_rows
returns-else-are_same_rows c =
    let near = c.if-are_same_rows.ensures ∙ (λ i. pointwise is_same_row (canonical_rows (c.deref.ensures.value i)) (canonical_rows (c.deref-2.ensures.value i))) in
    told_same c.self.inside.near.items c.self.inside.far.items c.other.inside.near.items c.other.inside.far.items c.self.invariant c.other.invariant c.args.self.now c.args.other.now c.self.view_is c.other.view_is _
    (c.if-are_same_rows.false ∙ ap (λ t. t && pointwise is_same_row (canonical_rows c.self.inside.far.items) (canonical_rows c.other.inside.far.items)) near)
