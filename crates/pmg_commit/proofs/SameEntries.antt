-- The test of sameness decides whether two entries are one.
use Rattle.std.proofs.Common.{◌≡◌, ℕ, ◌==◌, ◌&&◌, nat_eq, List, ap, ◌∙◌}
use Rattle.std.specs.Bool.{Decides}
use Rattle.std.specs.Cmp.Lexicographic.{slice_cmp, nat_list_cmp_total, pointwise, bytes_decides}
use Rattle.std.specs.Ordering.{nat_cmp, is_eq}
use Rattle.std.proofs.lemmas.Bool.Decides.{Decides-eqb, Decides-and, Decides-like}
use Rattle.std.proofs.lemmas.Map.Lookups.{exact_bytes}
use Rattle.pmg_value.proofs.SameLemmas.{by_cmp}
use Rattle.pmg_commit.specs.Entries.{Entry, is_same_entry}

pub same_entries : (e f : Entry) → Decides (is_same_entry e f) (e ≡ f)
same_entries e f =
    let forth : (e.key ≡ f.key) × ((e.number ≡ f.number) × (e.bytes ≡ f.bytes)) → e ≡ f = λ h.
    ap (λ (k : List ℕ). record { key = k; number = e.number; bytes = e.bytes }) h.0
    ∙ ap (λ (n : ℕ). record { key = f.key; number = n; bytes = e.bytes }) h.1.0
    ∙ ap (λ (b : List ℕ). record { key = f.key; number = f.number; bytes = b }) h.1.1 in
    Decides-like _ forth (λ x. (ap (λ (z : Entry). z.key) x, (ap (λ (z : Entry). z.number) x, ap (λ (z : Entry). z.bytes) x)))
    (Decides-and (pointwise nat_eq e.key f.key) (e.number == f.number && is_eq (slice_cmp nat_cmp e.bytes f.bytes)) (bytes_decides e.key f.key)
    (Decides-and (e.number == f.number) (is_eq (slice_cmp nat_cmp e.bytes f.bytes)) (Decides-eqb e.number f.number)
    (by_cmp (slice_cmp nat_cmp) nat_list_cmp_total exact_bytes e.bytes f.bytes)))
