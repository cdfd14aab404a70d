-- The orders of entries, and what their tests say.
use Rattle.std.proofs.Common.{ℕ, List, ◌≡◌, ◌<◌, ◌≤◌, ◌⊎◌, inl, inr, nat_le, refl, ap, ◌∙◌, arith}
use Rattle.std.specs.Bool.{Decides}
use Rattle.std.specs.Cmp.{IsTotalOrder}
use Rattle.std.specs.Cmp.Lexicographic.{slice_cmp, nat_list_cmp_total}
use Rattle.std.specs.Ordering.{nat_cmp, ordering_then, is_lt, ordering_reverse}
use Rattle.std.specs.declared.cmp.Ordering.{Ordering}
use Rattle.std.specs.declared.cmp.Ordering.TheVariants.{Less, Equal, Greater}
use Rattle.std.proofs.lemmas.Cmp.{then_total, on_total, nat_cmp_total, tied_itself}
use Rattle.std.proofs.lemmas.Bool.{false≢true, leb-true, le-leb}
use Rattle.std.proofs.lemmas.Bool.Decides.{Decides-and, Decides-or, Decides-ltb, Decides-eqb}
use Rattle.std.proofs.lemmas.Slice.Eq.{bytes_eq-Decides}
use Rattle.std.proofs.lemmas.Map.Lookups.{CmpEqualImpliesEq, exact_pairs, exact_bytes, exact_unsigned}
use Rattle.pmg_commit.specs.Entries.{Entry, entry_cmp, is_later, is_readable, is_superseded}

pub entries_total : IsTotalOrder entry_cmp
entries_total = then_total (on_total (λ e. e.key) nat_list_cmp_total) (then_total (on_total (λ e. e.number) nat_cmp_total) (on_total (λ e. e.bytes) nat_list_cmp_total))

pub exact_entries : CmpEqualImpliesEq entry_cmp
exact_entries e f h =
    let rest = exact_pairs nat_cmp (slice_cmp nat_cmp) exact_unsigned exact_bytes in
    let triple = exact_pairs (slice_cmp nat_cmp) (λ (x y : ℕ × List ℕ). ordering_then (nat_cmp x.0 y.0) (slice_cmp nat_cmp x.1 y.1)) exact_bytes rest (e.key, (e.number, e.bytes)) (f.key, (f.number, f.bytes)) h in
    ap (λ (t : List ℕ × (ℕ × List ℕ)). record { key = t.0; number = t.1.0; bytes = t.1.1 }) triple

-- the bytes a are less than the bytes b
abbrev pub Below : List ℕ → List ℕ → Type 0
Below a b = slice_cmp nat_cmp a b ≡ Less

-- the test of `is_later`: f has a greater number than e, or an equal number and the greater bytes
abbrev pub Later : Entry → Entry → Type 0
Later e f = (e.number < f.number) ⊎ ((e.number ≡ f.number) × Below e.bytes f.bytes)

-- the test of `is_readable`: e is an entry of the key, and its number is at most the level
abbrev pub Readable : ℕ → List ℕ → Entry → Type 0
Readable level key e = (key ≡ e.key) × (e.number ≤ level)

-- the test of `is_superseded`: f has e's key and is later, and its number is at most the level or is e's own
abbrev pub Superseded : ℕ → Entry → Entry → Type 0
Superseded level e f = ((e.key ≡ f.key) × Later e f) × ((f.number ≤ level) ⊎ (e.number ≡ f.number))

is_lt-Decides : (r : Ordering) → Decides (is_lt r) (r ≡ Less)
is_lt-Decides Less = (λ _. refl, λ _. refl)
is_lt-Decides Equal = (λ h. absurd (false≢true h), λ h. cc)
is_lt-Decides Greater = (λ h. absurd (false≢true h), λ h. cc)

nat_le-Decides : (a b : ℕ) → Decides (nat_le a b) (a ≤ b)
nat_le-Decides a b = (leb-true a b, le-leb a b)

pub is_later-Decides : (e f : Entry) → Decides (is_later e f) (Later e f)
is_later-Decides e f = Decides-or _ _ (Decides-ltb e.number f.number) (Decides-and _ _ (Decides-eqb e.number f.number) (is_lt-Decides (slice_cmp nat_cmp e.bytes f.bytes)))

pub is_readable-Decides : (level : ℕ) (key : List ℕ) (e : Entry) → Decides (is_readable level key e) (Readable level key e)
is_readable-Decides level key e = Decides-and _ _ (bytes_eq-Decides key e.key) (nat_le-Decides e.number level)

pub is_superseded-Decides : (level : ℕ) (e f : Entry) → Decides (is_superseded level e f) (Superseded level e f)
is_superseded-Decides level e f =
    Decides-and _ _ (Decides-and _ _ (bytes_eq-Decides e.key f.key) (is_later-Decides e f))
    (Decides-or _ _ (nat_le-Decides f.number level) (Decides-eqb e.number f.number))

pub below_itself : (a : List ℕ) → Below a a → ⊥
below_itself a h = let tie : slice_cmp nat_cmp a a ≡ Equal = tied_itself nat_list_cmp_total a in cc

pub below_cases : (a b : List ℕ) → Below a b ⊎ ((a ≡ b) ⊎ Below b a)
below_cases a b =
    elim (slice_cmp nat_cmp a b) as (λ r. slice_cmp nat_cmp a b ≡ r → Below a b ⊎ ((a ≡ b) ⊎ Below b a)) [
      | Less ↦ λ h. inl h
      | Equal ↦ λ h. inr (inl (exact_bytes a b h))
      | Greater ↦ λ h. inr (inr (nat_list_cmp_total.antisymm b a ∙ ap ordering_reverse h))
    ] refl

pub later_itself : (e : Entry) → Later e e → ⊥
later_itself e (inl h) = absurd (omega arith)
later_itself e (inr h) = below_itself e.bytes h.1

pub later_trans : (e f g : Entry) → Later e f → Later f g → Later e g
later_trans e f g (inl a) (inl b) = inl (omega arith)
later_trans e f g (inl a) (inr b) = inl (omega arith)
later_trans e f g (inr a) (inl b) = inl (omega arith)
later_trans e f g (inr a) (inr b) = inr (a.0 ∙ b.0, nat_list_cmp_total.trans e.bytes f.bytes g.bytes a.1 b.1)

pub superseded_itself : (level : ℕ) (e : Entry) → Superseded level e e → ⊥
superseded_itself level e s = later_itself e s.0.1

pub superseded_trans : (level : ℕ) (e f g : Entry) → Superseded level e f → Superseded level f g → Superseded level e g
superseded_trans level e f g s t = ((s.0.0 ∙ t.0.0, later_trans e f g s.0.1 t.0.1), last s.1 t.1)
  where
    last : (f.number ≤ level) ⊎ (e.number ≡ f.number) → (g.number ≤ level) ⊎ (f.number ≡ g.number) → (g.number ≤ level) ⊎ (e.number ≡ g.number)
    last a (inl b) = inl b
    last (inl a) (inr b) = inl (omega arith)
    last (inr a) (inr b) = inr (a ∙ b)

-- a higher level supersedes more
pub superseded_more : (m n : ℕ) (e f : Entry) → m ≤ n → Superseded m e f → Superseded n e f
superseded_more m n e f h s = (s.0, elim s.1 [ inl a ↦ inl (omega arith) | inr b ↦ inr b ])
