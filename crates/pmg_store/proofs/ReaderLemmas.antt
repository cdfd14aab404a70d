-- Several readers, of which one is read: what became of them, and which come after it.
use Rattle.std.proofs.Common.{◌≡◌, ℕ, suc, ◌+◌, ◌<◌, ◌≤◌, ◌⊎◌, zero, List, [], ◌∷◌, map, length, drop, get_or, inl, inr, sym, ap, arith, ◌∙◌}
use Rattle.std.proofs.Math.ListN.{set}
use Rattle.std.proofs.Math.Seq.{drop-cons}
use Rattle.std.proofs.lemmas.List.{drop-set-lt}
use Rattle.std.specs.Prelude.{IsSome}
use Rattle.pmg_store.specs.declared.input.WatchedReader.{WatchedReader}
use Rattle.pmg_store.specs.declared.input.TheConstants.{MOST_READS}
use Rattle.pmg_store.specs.Readers.{AnyFailed, ReadFewTimes}

-- the reader at that place has failed
pub failed_at : {R : Type 0} (rs : List (WatchedReader R)) (i : ℕ) (r : WatchedReader R) → i < length rs → IsSome r.failure → AnyFailed (set rs i r)
failed_at [] i r within failed = absurd (omega arith)
failed_at (x ∷ xs) zero r within failed = inl failed
failed_at (x ∷ xs) (suc i) r within failed = inr (failed_at xs i r (omega arith) failed)

-- where one has failed after the reader at that place was read, it is that one, or one that had failed before
pub failed_parts : {R : Type 0} (rs : List (WatchedReader R)) (i : ℕ) (r : WatchedReader R) → AnyFailed (set rs i r) → IsSome r.failure ⊎ AnyFailed rs
failed_parts [] i r failed = inr failed
failed_parts (x ∷ xs) zero r (inl failed) = inl failed
failed_parts (x ∷ xs) zero r (inr failed) = inr (inr failed)
failed_parts (x ∷ xs) (suc i) r (inl failed) = inr (inl failed)
failed_parts (x ∷ xs) (suc i) r (inr failed) = elim (failed_parts xs i r failed) [ inl now ↦ inl now | inr was ↦ inr (inr was) ]

pub failed_before : {R : Type 0} (rs : List (WatchedReader R)) (i : ℕ) (d : WatchedReader R) → i < length rs → IsSome (get_or rs i d).failure → AnyFailed rs
failed_before [] i d within failed = absurd (omega arith)
failed_before (x ∷ xs) zero d within failed = inl failed
failed_before (x ∷ xs) (suc i) d within failed = inr (failed_before xs i d (omega arith) failed)

-- none was read yet
pub few_start : {R : Type 0} (rs : List (WatchedReader R)) → ReadFewTimes rs rs
few_start [] = tt
few_start (r ∷ rs) = (omega arith, few_start rs)

-- the reader at that place was read
pub few_at : {R : Type 0} (olds news : List (WatchedReader R)) (i : ℕ) (d new : WatchedReader R) → ReadFewTimes olds news →
    new.reads ≤ (get_or olds i d).reads + MOST_READS → ReadFewTimes olds (set news i new)
few_at [] news i d new few read = tt
few_at (x ∷ xs) [] i d new few read = tt
few_at (x ∷ xs) (y ∷ ys) zero d new few read = (read, few.1)
few_at (x ∷ xs) (y ∷ ys) (suc i) d new few read = (few.0, few_at xs ys i d new few.1 read)

one_more : (n : ℕ) → suc n ≡ n + 1
one_more n = omega arith

-- the others come after it, as they were
pub others_stay : {R : Type 0} (rs : List (WatchedReader R)) (i : ℕ) (new : WatchedReader R) → drop (i + 1) (set rs i new) ≡ drop (i + 1) rs
others_stay rs i new = drop-set-lt (i + 1) rs i new (omega arith)

pub next_reader : {R X : Type 0} (give : WatchedReader R → X) (rs : List (WatchedReader R)) (i : ℕ) (d new : WatchedReader R) → i < length rs →
    map give (drop i rs) ≡ give (get_or rs i d) ∷ map give (drop (i + 1) (set rs i new))
next_reader give rs i d new within = ap (map give)
    (drop-cons rs i d within ∙ ap (λ n. get_or rs i d ∷ drop n rs) (one_more i) ∙ ap (λ tail. get_or rs i d ∷ tail) (sym (others_stay rs i new)))

-- it is the one that was there at the start
pub same_reader : {R : Type 0} (olds rs : List (WatchedReader R)) (i : ℕ) (d : WatchedReader R) → i < length rs → drop i rs ≡ drop i olds →
    length rs ≡ length olds → get_or rs i d ≡ get_or olds i d
same_reader olds rs i d within same long =
    let here = drop-cons rs i d within in
    let there = drop-cons olds i d (omega arith) in
    cc

-- and so are those after it
pub same_others : {R : Type 0} (olds rs : List (WatchedReader R)) (i : ℕ) (new : WatchedReader R) → i < length rs → drop i rs ≡ drop i olds →
    length rs ≡ length olds → drop (i + 1) (set rs i new) ≡ drop (i + 1) olds
same_others olds rs i new within same long =
    let here = drop-cons rs i new within in
    let there = drop-cons olds i new (omega arith) in
    let tails : drop (suc i) rs ≡ drop (suc i) olds = cc in
    others_stay rs i new ∙ ap (λ n. drop n rs) (sym (one_more i)) ∙ tails ∙ ap (λ n. drop n olds) (one_more i)
