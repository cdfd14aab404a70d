-- Rows that are the same make one table, and only they do.
use Rattle.std.proofs.Common.{◌≡◌, ℕ, Bool, ◌&&◌, nat_eq, List, sym, ap, subst, ◌∙◌}
use Rattle.std.specs.Bool.{Decides}
use Rattle.std.specs.Cmp.Lexicographic.{slice_cmp, nat_list_cmp_total, pointwise, pointwise_decides, bytes_decides}
use Rattle.std.specs.FinMap as finite
use Rattle.std.specs.Ordering.{nat_cmp, is_eq}
use Rattle.std.proofs.lemmas.Bool.Decides.{Decides-and, Decides-like}
use Rattle.std.proofs.lemmas.Map.Lookups.{exact_bytes}
use Rattle.pmg_value.specs.Spelling.{spelling}
use Rattle.pmg_value.specs.declared.value.Value.{Value}
use Rattle.pmg_value.proofs.RowLemmas.{entries_rising}
use Rattle.pmg_value.proofs.SameLemmas.{by_cmp}
use Rattle.pmg_scope.specs.Cached.{Unsealed}
use Rattle.pmg_scope.specs.Rows.{IsRising, canonical_rows, is_same_row, table_of}

abbrev Row : Type 0
Row = List ℕ × List ℕ

same_row : (e f : Row) → Decides (is_same_row e f) (e ≡ f)
same_row e f =
    let forth : (e.0 ≡ f.0) × (e.1 ≡ f.1) → e ≡ f = λ h. λ i. (h.0 i, h.1 i) in
    Decides-like _ forth (λ x. (ap (λ (z : Row). z.0) x, ap (λ (z : Row). z.1) x))
    (Decides-and (pointwise nat_eq e.0 f.0) (is_eq (slice_cmp nat_cmp e.1 f.1)) (bytes_decides e.0 f.0)
    (by_cmp (slice_cmp nat_cmp) nat_list_cmp_total exact_bytes e.1 f.1))

entries_are : (rows : List (List ℕ × Value)) → IsRising rows → finite.entries (table_of rows) ≡ canonical_rows rows
entries_are rows rising = entries_rising nat_list_cmp_total spelling rows rising

same_tables : (rows others : List (List ℕ × Value)) → IsRising rows → IsRising others
    → Decides (pointwise is_same_row (canonical_rows rows) (canonical_rows others)) (table_of rows ≡ table_of others)
same_tables rows others rises rise =
    Decides-like _ (λ e. ap finite.from_entries e) (λ e. sym (entries_are rows rises) ∙ ap finite.entries e ∙ entries_are others rise)
    (pointwise_decides same_row (canonical_rows rows) (canonical_rows others))

pub same_batches : (near far others_near others_far : List (List ℕ × Value)) → IsRising near → IsRising far → IsRising others_near → IsRising others_far
    → Decides (pointwise is_same_row (canonical_rows near) (canonical_rows others_near) && pointwise is_same_row (canonical_rows far) (canonical_rows others_far))
    (◌≡◌ {A = Unsealed} (record { near = table_of near; far = table_of far }) (record { near = table_of others_near; far = table_of others_far }))
same_batches near far others_near others_far a b c d =
    Decides-like _ (λ h. λ i. record { near = h.0 i; far = h.1 i }) (λ e. (ap (λ (u : Unsealed). u.near) e, ap (λ (u : Unsealed). u.far) e))
    (Decides-and _ _ (same_tables near others_near a c) (same_tables far others_far b d))

-- what the two tests together tell
pub told_same : (near far others_near others_far : List (List ℕ × Value)) → IsRising near × IsRising far → IsRising others_near × IsRising others_far
    → (x y : Unsealed) → ◌≡◌ {A = Unsealed} (record { near = table_of near; far = table_of far }) x → ◌≡◌ {A = Unsealed} (record { near = table_of others_near; far = table_of others_far }) y
    → (result : Bool) → result ≡ (pointwise is_same_row (canonical_rows near) (canonical_rows others_near) && pointwise is_same_row (canonical_rows far) (canonical_rows others_far))
    → Decides result (x ≡ y)
told_same near far others_near others_far rises rise x y first second result is =
    subst (λ (b : Bool). Decides b (x ≡ y)) (sym is)
    (Decides-like _ (λ e. sym first ∙ e ∙ second) (λ e. first ∙ e ∙ sym second) (same_batches near far others_near others_far rises.0 rises.1 rise.0 rise.1))
