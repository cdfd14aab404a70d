-- What a change of a node's fences leaves: names, and the greatest instances.
use Rattle.std.proofs.Common.{◌≡◌, ◌⊎◌, ◌≤◌, ℕ, suc, Bool, true, false, nat_lt, cond, inl, inr, refl, sym, ap, subst, ◌∙◌, arith}
use Rattle.std.proofs.lemmas.Bool.{false≢true}
use Rattle.std.proofs.lemmas.Bool.Decides.{nat_tests}
use Rattle.pmg_value.specs.Signatures.{Signature, FenceName}
use Rattle.pmg_value.specs.declared.process.Proc.{Proc}
use Rattle.pmg_fence.specs.Changes.{greater_of, fence_placed, with_counts, forgotten, with_fence, next_name, noted_entry, entered_by, ended_by, fence_entered, counts_entered}
use Rattle.pmg_fence.specs.Entering.{same_signature}
use Rattle.pmg_fence.specs.Tables.{Numbers, Fence, Series, Fences, fence_of, is_old, series_at, has_name, fence_at}
use Rattle.pmg_fence.proofs.EntryLemmas.{signature_itself}
use Rattle.pmg_fence.proofs.NewsLemmas.{name_itself}
use Rattle.pmg_fence.proofs.OldLemmas.{series-counts, name-counts, top-forgotten, old-forgotten, name_was, name-forgotten, name_dropped, name-entered}
use Rattle.pmg_fence.proofs.TableLemmas.{same_name, signature_exact, name_exact, name-placed, top-placed}
use Rattle.pmg_node_model.specs.Kept.{top_in, HasTwo}

same_number : (n : ℕ) → n ≤ n
same_number n = omega arith

-- a fence is old by the greatest instance of its signature
pub old_by : (old new : Fences) (f : FenceName) → top_in new f.signature ≡ top_in old f.signature → is_old new f ≡ is_old old f
unfolding is_old
old_by old new f same = ap (nat_lt (suc f.instance)) same

-- what is not old was not old, as greatest instances never fall
pub not_old_before : (old new : Fences) (f : FenceName) → top_in old f.signature ≤ top_in new f.signature → is_old new f ≡ false → is_old old f ≡ false
unfolding is_old
not_old_before old new f rises e = by_test (nat_lt (suc f.instance) (top_in old f.signature)) refl
  where
    by_test : (b : Bool) → nat_lt (suc f.instance) (top_in old f.signature) ≡ b → b ≡ false
    by_test true below = absurd (grind (arith, nat_tests))
    by_test false keeps = refl

greater_cases : (m n : ℕ) (b : Bool) → nat_lt m n ≡ b → ((cond b n m ≡ m) ⊎ (cond b n m ≡ n)) × (m ≤ cond b n m) × (n ≤ cond b n m)
greater_cases m n true e = (inr refl, grind (arith, nat_tests), same_number _)
greater_cases m n false e = (inl refl, same_number _, grind (arith, nat_tests))

is_greater : (m n : ℕ) → (greater_of m n ≡ m) ⊎ (greater_of m n ≡ n)
is_greater m n = (greater_cases m n (nat_lt m n) refl).0

no_less : (m n : ℕ) → (m ≤ greater_of m n) × (n ≤ greater_of m n)
no_less m n = let is = greater_cases m n (nat_lt m n) refl in (is.1, is.2)

top-counts : (t : Fences) (g : Signature) (counts : Numbers) (h : Signature) → top_in (with_counts t g counts) h ≡ top_in t h
top-counts t g counts h = ap (λ (s : Series). s.top) (series-counts t g counts h) ∙ by_test (same_signature h g) refl
  where
    by_test : (b : Bool) → same_signature h g ≡ b → (cond b (record { counts = counts; fences = (series_at t g).fences; top = top_in t g }) (series_at t h)).top ≡ top_in t h
    by_test true same = ap (top_in t) (sym (signature_exact h g same))
    by_test false other = refl

-- those of the signature that are there are not old
kept_none : (t : Fences) (g : Signature) (f : FenceName) → same_signature f.signature g ≡ true → has_name (forgotten t g) f ≡ true → is_old t f ≡ false
kept_none t g f same has = by_old (is_old t f) refl
  where
    by_old : (b : Bool) → is_old t f ≡ b → b ≡ false
    by_old true old = absurd (false≢true (sym (name_dropped t g f (signature_exact f.signature g same) old) ∙ has))
    by_old false young = refl

-- ---- changes, before anything is forgotten and after

-- What is noted of a signature: names that were there stay, and another one is no greater than the greatest instance; and the greatest
-- instances are those that they were, or the new one, and are no less.
pub record NamesNoted (P : FenceName → Type 0) (g : Signature) (old new : Fences) : Type 0 where
  pub names : (f : FenceName) → has_name new f ≡ true → (has_name old f ≡ true) ⊎ (P f × (f.signature ≡ g) × (f.instance ≤ top_in new f.signature))
  pub kept : (f : FenceName) → has_name old f ≡ true → has_name new f ≡ true
  pub tops : (h : Signature) → (top_in new h ≡ top_in old h) ⊎ P (fence_of h (top_in new h))
  pub rises : (h : Signature) → top_in old h ≤ top_in new h
  pub apart : (h : Signature) → same_signature h g ≡ false → top_in new h ≡ top_in old h

-- How the names of a table change: one that is new is so; those that are not old stay; the greatest instances are those that they
-- were, or the new one, and are no less; and where there were two of a signature, so there are.
pub record NamesAfter (P : FenceName → Type 0) (old new : Fences) : Type 0 where
  pub names : (f : FenceName) → has_name new f ≡ true → (has_name old f ≡ true) ⊎ P f
  pub kept : (f : FenceName) → has_name old f ≡ true → is_old new f ≡ false → has_name new f ≡ true
  pub tops : (g : Signature) → (top_in new g ≡ top_in old g) ⊎ P (fence_of g (top_in new g))
  pub rises : (g : Signature) → top_in old g ≤ top_in new g
  pub two : HasTwo old → HasTwo new

-- so what is not old then was not old
pub young_before : (P : FenceName → Type 0) (old new : Fences) → NamesAfter P old new → (f : FenceName) → is_old new f ≡ false → is_old old f ≡ false
young_before P old new after f young = not_old_before old new f (after.rises f.signature) young

module _ (P : FenceName → Type 0) where
  pub same_names : (t : Fences) → NamesAfter P t t
  same_names t = record { names = λ f has. inl has; kept = λ f has keeps. has; tops = λ g. inl refl; rises = λ g. same_number _; two = λ two. two }

  pub ended_names : (t : Fences) (p : Proc) (level : ℕ) → NamesAfter P t (ended_by t p level)
  unfolding has_name series_at is_old
  ended_names t p level = record { names = λ f has. inl has; kept = λ f has keeps. has; tops = λ g. inl refl; rises = λ g. same_number _; two = λ two. two }

  -- ---- once the old ones are forgotten
  module _ (g : Signature) (old mid : Fences) (noted : NamesNoted P g old mid) where
    abbrev then : Fences
    then = forgotten mid g

    top_then : (h : Signature) → top_in then h ≡ top_in mid h
    top_then h = top-forgotten mid g h

    old_then : (f : FenceName) → is_old then f ≡ is_old mid f
    old_then f = old-forgotten mid g f

    names_then : (f : FenceName) → has_name then f ≡ true → (has_name old f ≡ true) ⊎ P f
    names_then f has = elim (noted.names f (name_was mid g f has)) [
      | inl was ↦ inl was
      | inr now ↦ inr now.0
    ]

    tops_then : (h : Signature) → (top_in then h ≡ top_in old h) ⊎ P (fence_of h (top_in then h))
    tops_then h = elim (noted.tops h) [
      | inl was ↦ inl (top_then h ∙ was)
      | inr now ↦ inr (subst (λ n. P (fence_of h n)) (sym (top_then h)) now)
    ]

    rises_then : (h : Signature) → top_in old h ≤ top_in then h
    rises_then h = let is = top_then h in omega (arith, is, noted.rises h)

    within : HasTwo old → (f : FenceName) → has_name then f ≡ true → f.instance ≤ top_in then f.signature
    within two f has = elim (noted.names f (name_was mid g f has)) [
      | inl was ↦ omega (arith, (two f was).1, rises_then f.signature)
      | inr now ↦ let is = top_then f.signature in omega (arith, is, now.2)
    ]

    still_two : HasTwo old → (f : FenceName) → has_name then f ≡ true → same_signature f.signature g ≡ false → is_old then f ≡ false
    still_two two f has other = elim (noted.names f (name_was mid g f has)) [
      | inl was ↦ old_then f ∙ old_by old mid f (noted.apart f.signature other) ∙ (two f was).0
      | inr now ↦ absurd (false≢true (sym other ∙ ap (λ h. same_signature h g) now.1 ∙ signature_itself g))
    ]

    two_then : HasTwo old → HasTwo then
    two_then two f has = by_test (same_signature f.signature g) refl
      where
        by_test : (b : Bool) → same_signature f.signature g ≡ b → (is_old then f ≡ false) × (f.instance ≤ top_in then f.signature)
        by_test true same = (old_then f ∙ kept_none mid g f same has, within two f has)
        by_test false other = (still_two two f has other, within two f has)

    pub forget_names : NamesAfter P old then
    forget_names = record {
      names = names_then;
      kept = λ f has keeps. name-forgotten mid g f (sym (old_then f) ∙ keeps) ∙ noted.kept f has;
      tops = tops_then;
      rises = rises_then;
      two = two_then;
    }

  -- ---- one fence
  module _ (t : Fences) (x : FenceName) (fence : Fence) (counts : Numbers) (its : P x) where
    abbrev put : Fences
    put = fence_placed t x fence counts

    top_put : (h : Signature) → top_in put h ≡ cond (same_signature h x.signature) (greater_of (top_in t x.signature) x.instance) (top_in t h)
    top_put h = top-placed t x fence counts h

    top_is : (h : Signature) → same_signature h x.signature ≡ true → top_in put h ≡ greater_of (top_in t x.signature) x.instance
    top_is h same = top_put h ∙ ap (λ b. cond b (greater_of (top_in t x.signature) x.instance) (top_in t h)) same

    top_still : (h : Signature) → same_signature h x.signature ≡ false → top_in put h ≡ top_in t h
    top_still h other = top_put h ∙ ap (λ b. cond b (greater_of (top_in t x.signature) x.instance) (top_in t h)) other

    names_put : (f : FenceName) → has_name put f ≡ true → (has_name t f ≡ true) ⊎ (P f × (f.signature ≡ x.signature) × (f.instance ≤ top_in put f.signature))
    names_put f has = by_test (same_name f x) refl (sym (name-placed t x fence counts f) ∙ has)
      where
        by_test : (b : Bool) → same_name f x ≡ b → cond b true (has_name t f) ≡ true → (has_name t f ≡ true) ⊎ (P f × (f.signature ≡ x.signature) × (f.instance ≤ top_in put f.signature))
        by_test false other e = inl e
        by_test true same e =
            let is = name_exact f x same in
            let signature = ap (λ (y : FenceName). y.signature) is in
            let number = ap (λ (y : FenceName). y.instance) is in
            let top = top_is f.signature (ap (λ h. same_signature h x.signature) signature ∙ signature_itself x.signature) in
            inr (subst P (sym is) its, signature, omega (arith, number, top, (no_less (top_in t x.signature) x.instance).1))

    kept_put : (f : FenceName) → has_name t f ≡ true → has_name put f ≡ true
    kept_put f has = name-placed t x fence counts f ∙ ap (cond (same_name f x) true) has ∙ true_anyway (same_name f x)
      where
        true_anyway : (b : Bool) → cond b true true ≡ true
        true_anyway true = refl
        true_anyway false = refl

    tops_put : (h : Signature) → (top_in put h ≡ top_in t h) ⊎ P (fence_of h (top_in put h))
    tops_put h = by_test (same_signature h x.signature) refl
      where
        by_test : (b : Bool) → same_signature h x.signature ≡ b → (top_in put h ≡ top_in t h) ⊎ P (fence_of h (top_in put h))
        by_test false other = inl (top_still h other)
        by_test true same =
            let signature = signature_exact h x.signature same in
            elim (is_greater (top_in t x.signature) x.instance) [
              | inl before ↦ inl (top_is h same ∙ before ∙ ap (top_in t) (sym signature))
              | inr now ↦ inr (subst P (λ i. fence_of (sym signature i) (sym (top_is h same ∙ now) i)) its)
            ]

    rises_put : (h : Signature) → top_in t h ≤ top_in put h
    rises_put h = by_test (same_signature h x.signature) refl
      where
        by_test : (b : Bool) → same_signature h x.signature ≡ b → top_in t h ≤ top_in put h
        by_test false other = let still = top_still h other in omega (arith, still)
        by_test true same =
            let is = top_is h same in
            let its_top = ap (top_in t) (signature_exact h x.signature same) in
            omega (arith, is, its_top, (no_less (top_in t x.signature) x.instance).0)

    placed_noted : NamesNoted P x.signature t put
    placed_noted = record { names = names_put; kept = kept_put; tops = tops_put; rises = rises_put; apart = top_still }

  counted_noted : (t : Fences) (g : Signature) (counts : Numbers) → NamesNoted P g t (with_counts t g counts)
  counted_noted t g counts = record {
    names = λ f has. inl (sym (name-counts t g counts f) ∙ has);
    kept = λ f has. name-counts t g counts f ∙ has;
    tops = λ h. inl (top-counts t g counts h);
    rises = λ h. let is = top-counts t g counts h in omega (arith, is);
    apart = λ h other. top-counts t g counts h;
  }

  -- a name or a header comes
  pub known_names : (t : Fences) (x : FenceName) (fence : Fence) → P x → NamesAfter P t (with_fence t x fence)
  known_names t x fence its = by_old (is_old t x)
    where
      by_old : (b : Bool) → NamesAfter P t (cond b t (forgotten (fence_placed t x fence (series_at t x.signature).counts) x.signature))
      by_old true = same_names t
      by_old false = forget_names x.signature t (fence_placed t x fence (series_at t x.signature).counts) (placed_noted t x fence (series_at t x.signature).counts its)

  -- a process enters
  pub entry_names : (t : Fences) (g : Signature) (p : Proc) (level : ℕ) → P (next_name t g p) → NamesAfter P t (entered_by t g p level)
  entry_names t g p level its = forget_names g t (noted_entry t g p level) (by_old (is_old t (next_name t g p)))
    where
      by_old : (b : Bool) → NamesNoted P g t (cond b (with_counts t g (counts_entered t g p)) (fence_placed t (next_name t g p) (fence_entered (fence_at t (next_name t g p)) p level) (counts_entered t g p)))
      by_old true = counted_noted t g (counts_entered t g p)
      by_old false = placed_noted t (next_name t g p) (fence_entered (fence_at t (next_name t g p)) p level) (counts_entered t g p) its

-- the fence that a process entered has its name, unless it is old
pub entry_named : (t : Fences) (g : Signature) (p : Proc) (level : ℕ) → is_old (entered_by t g p level) (next_name t g p) ≡ false → has_name (entered_by t g p level) (next_name t g p) ≡ true
entry_named t g p level keeps =
    name-entered t g p level (next_name t g p) keeps ∙ ap (λ b. cond b true (has_name t (next_name t g p))) (name_itself (next_name t g p))
