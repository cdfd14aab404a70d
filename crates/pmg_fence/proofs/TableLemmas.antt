-- What a change of a fence leaves.
use Rattle.std.proofs.Common.{◌≡◌, ℕ, suc, Bool, true, false, ◌&&◌, nat_lt, cond, Option, Some, is_some, refl, sym, ap, ◌∙◌, arith}
use Rattle.std.proofs.lemmas.Bool.Decides.{nat_tests}
use Rattle.std.specs.FinMap as finite
use Rattle.std.specs.FinMap.{nat_cmp-IsAntisymmetric}
use Rattle.std.specs.Option.{unwrap_or}
use Rattle.std.specs.Ordering.{nat_cmp, eq_by_cmp}
use Rattle.std.specs.Cmp.{Equal-is, nat_cmp_total}
use Rattle.pmg_value.specs.Signatures.{Signature, FenceName}
use Rattle.pmg_value.specs.declared.process.Proc.{Proc}
use Rattle.pmg_frame.specs.FenceOrder.{signature_total}
use Rattle.pmg_frame.proofs.FenceOrderLemmas.{signatures_exact}
use Rattle.pmg_fence.specs.Entering.{same_signature}
use Rattle.pmg_fence.proofs.EntryLemmas.{signature_itself}
use Rattle.pmg_fence.specs.Tables.{Numbers, Fence, Series, Fences, no_fence, no_series, series_at, has_name, is_old, fence_at, count_of}
use Rattle.pmg_fence.specs.Changes.{greater_of, fence_placed}

-- the test of two instances
abbrev pub same_instance : ℕ → ℕ → Bool
same_instance = eq_by_cmp nat_cmp

-- the test of two names
abbrev pub same_name : FenceName → FenceName → Bool
same_name x f = same_signature x.signature f.signature && same_instance x.instance f.instance

pub signature_exact : (g h : Signature) → same_signature g h ≡ true → g ≡ h
signature_exact g h e = signatures_exact g h ((Equal-is _).0 e)

both_true : (a b : Bool) → (a && b) ≡ true → (a ≡ true) × (b ≡ true)
both_true true b e = (refl, e)
both_true false b e = absurd cc

pub name_exact : (x f : FenceName) → same_name x f ≡ true → x ≡ f
name_exact x f e =
    let parts = both_true (same_signature x.signature f.signature) (same_instance x.instance f.instance) e in
    let same = signature_exact x.signature f.signature parts.0 in
    let number : x.instance ≡ f.instance = nat_cmp-IsAntisymmetric x.instance f.instance ((Equal-is _).0 parts.1) in
    λ i. record { signature = same i; instance = number i }

unwrap_cond : {A : Type 0} (b : Bool) (x : A) (o : Option A) (d : A) → unwrap_or (cond b (Some x) o) d ≡ cond b x (unwrap_or o d)
unwrap_cond true x o d = refl
unwrap_cond false x o d = refl

-- what lies below neither the greater of two lies below neither
below_greater : (k m n : ℕ) → nat_lt k (greater_of m n) ≡ false → nat_lt k m ≡ false
below_greater k m n e = by_test (nat_lt m n) refl e
  where
    by_test : (b : Bool) → nat_lt m n ≡ b → nat_lt k (cond b n m) ≡ false → nat_lt k m ≡ false
    by_test true less h = grind (arith, nat_tests)
    by_test false less h = h

greater_reaches : (m n : ℕ) → nat_lt (suc n) m ≡ false → nat_lt (suc n) (greater_of m n) ≡ false
greater_reaches m n e = by_test (nat_lt m n)
  where
    by_test : (b : Bool) → nat_lt (suc n) (cond b n m) ≡ false
    by_test true = grind (arith, nat_tests)
    by_test false = e

module _ (t : Fences) (f : FenceName) (fence : Fence) (counts : Numbers) where
  -- what is known of the fence's signature then
  abbrev pub series_placed : Series
  series_placed = record {
    counts = counts;
    fences = finite.insert (series_at t f.signature).fences f.instance fence;
    top = greater_of (series_at t f.signature).top f.instance;
  }

  pub series-placed : (g : Signature) → series_at (fence_placed t f fence counts) g ≡ cond (same_signature g f.signature) series_placed (series_at t g)
  unfolding fence_placed series_at
  series-placed g =
      ap (λ o. unwrap_or o no_series) (finite.get-insert signature_total t.series f.signature series_placed g)
      ∙ unwrap_cond (same_signature g f.signature) series_placed (finite.get t.series g) no_series

  get_placed : (x : FenceName) (b : Bool) → same_signature x.signature f.signature ≡ b
      → finite.get (cond b series_placed (series_at t x.signature)).fences x.instance
      ≡ cond (b && same_instance x.instance f.instance) (Some fence) (finite.get (series_at t x.signature).fences x.instance)
  get_placed x false e = refl
  get_placed x true e =
      finite.get-insert nat_cmp_total (series_at t f.signature).fences f.instance fence x.instance
      ∙ ap (λ g. cond (same_instance x.instance f.instance) (Some fence) (finite.get (series_at t g).fences x.instance)) (sym (signature_exact x.signature f.signature e))

  pub fences-placed : (x : FenceName) → finite.get (series_at (fence_placed t f fence counts) x.signature).fences x.instance
      ≡ cond (same_name x f) (Some fence) (finite.get (series_at t x.signature).fences x.instance)
  fences-placed x = ap (λ (s : Series). finite.get s.fences x.instance) (series-placed x.signature) ∙ get_placed x (same_signature x.signature f.signature) refl

  pub fence-placed : (x : FenceName) → fence_at (fence_placed t f fence counts) x ≡ cond (same_name x f) fence (fence_at t x)
  unfolding fence_at
  fence-placed x =
      ap (λ o. unwrap_or o no_fence) (fences-placed x)
      ∙ unwrap_cond (same_name x f) fence (finite.get (series_at t x.signature).fences x.instance) no_fence

  pub name-placed : (x : FenceName) → has_name (fence_placed t f fence counts) x ≡ cond (same_name x f) true (has_name t x)
  unfolding has_name
  name-placed x = ap is_some (fences-placed x) ∙ is_some_cond (same_name x f) (finite.get (series_at t x.signature).fences x.instance)
    where
      is_some_cond : (b : Bool) (o : Option Fence) → is_some (cond b (Some fence) o) ≡ cond b true (is_some o)
      is_some_cond true o = refl
      is_some_cond false o = refl

  pub count-placed : (g : Signature) (p : Proc) → count_of (fence_placed t f fence counts) g p ≡ cond (same_signature g f.signature) (unwrap_or (finite.get counts p) 0) (count_of t g p)
  unfolding count_of
  count-placed g p = ap (λ (s : Series). unwrap_or (finite.get s.counts p) 0) (series-placed g) ∙ by_test (same_signature g f.signature)
    where
      by_test : (b : Bool) → unwrap_or (finite.get (cond b series_placed (series_at t g)).counts p) 0 ≡ cond b (unwrap_or (finite.get counts p) 0) (unwrap_or (finite.get (series_at t g).counts p) 0)
      by_test true = refl
      by_test false = refl

  pub top-placed : (g : Signature) → (series_at (fence_placed t f fence counts) g).top ≡ cond (same_signature g f.signature) (greater_of (series_at t f.signature).top f.instance) (series_at t g).top
  top-placed g = ap (λ (s : Series). s.top) (series-placed g) ∙ by_test (same_signature g f.signature)
    where
      by_test : (b : Bool) → (cond b series_placed (series_at t g)).top ≡ cond b (greater_of (series_at t f.signature).top f.instance) (series_at t g).top
      by_test true = refl
      by_test false = refl

  -- what is not old then was not old before
  pub old-placed : (x : FenceName) → is_old (fence_placed t f fence counts) x ≡ false → is_old t x ≡ false
  unfolding is_old
  old-placed x e = by_test (same_signature x.signature f.signature) refl (sym (ap (nat_lt (suc x.instance)) (top-placed x.signature)) ∙ e)
    where
      by_test : (b : Bool) → same_signature x.signature f.signature ≡ b → nat_lt (suc x.instance) (cond b (greater_of (series_at t f.signature).top f.instance) (series_at t x.signature).top) ≡ false
          → nat_lt (suc x.instance) (series_at t x.signature).top ≡ false
      by_test true same h =
          ap (λ g. nat_lt (suc x.instance) (series_at t g).top) (signature_exact x.signature f.signature same)
          ∙ below_greater (suc x.instance) (series_at t f.signature).top f.instance h
      by_test false same h = h

  -- the fence itself is not old then, where it was not
  pub old_there : is_old t f ≡ false → is_old (fence_placed t f fence counts) f ≡ false
  unfolding is_old
  old_there e =
      ap (nat_lt (suc f.instance)) (top-placed f.signature)
      ∙ ap (λ b. nat_lt (suc f.instance) (cond b (greater_of (series_at t f.signature).top f.instance) (series_at t f.signature).top)) (signature_itself f.signature)
      ∙ greater_reaches (series_at t f.signature).top f.instance e

  pub ends-placed : (fence_placed t f fence counts).ends ≡ t.ends
  unfolding fence_placed
  ends-placed = refl
