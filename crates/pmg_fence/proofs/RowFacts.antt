-- Headers of one fence in memory, and fences of one signature.
use Rattle.std.proofs.Common.{◌≡◌, ℕ, suc, Bool, true, false, not, nat_lt, cond, List, [], ◌∷◌, map, Option, Some, None, is_some, refl, sym, ap, ◌∙◌, Bor}
use Rattle.std.specs.FinMap as finite
use Rattle.std.specs.FinMap.{nat_cmp-IsAntisymmetric}
use Rattle.std.specs.FinMap.Entries.{find, find-where_key}
use Rattle.std.specs.List.{filter}
use Rattle.std.specs.Option.{option_map, option_copied}
use Rattle.std.specs.Ordering.{nat_cmp}
use Rattle.std.specs.Cmp.{nat_cmp_total}
use Rattle.pmg_value.specs.Rows.{rows_of}
use Rattle.pmg_value.proofs.RowLemmas.{at_key, insert_same, same_option}
use Rattle.pmg_value.specs.Signatures.{Signature}
use Rattle.pmg_frame.specs.FenceOrder.{signature_cmp, signature_total}
use Rattle.pmg_frame.proofs.FenceOrderLemmas.{signatures_exact}
use Rattle.pmg_frame.specs.Fences.{Header}
use Rattle.pmg_frame.specs.declared.local.Local.{Local}
use Rattle.pmg_fence.specs.Codes.{Headers, Instances, AllSeries}
use Rattle.pmg_fence.specs.Tables.{Fence, Series}
use Rattle.pmg_fence.specs.Changes.{first_locals}
use Rattle.pmg_fence.proofs.Trees.{read, get_at}

is_some_map : {A B : Type 0} (f : A → B) (o : Option A) → is_some (option_map f o) ≡ is_some o
is_some_map f None = refl
is_some_map f (Some x) = refl

-- whether a header is there
pub is_there : (rows : List (ℕ × Header)) (m : Headers) (k : ℕ) (found : Option (Bor Header)) (b : Bool) → rows_of (λ h. h.locals) rows ≡ m
    → option_copied found ≡ at_key nat_cmp k rows → is_some found ≡ b → is_some (finite.get m k) ≡ b
is_there rows m k found b same e is =
    ap is_some (sym (read nat_cmp_total nat_cmp-IsAntisymmetric (λ (h : Header). h.locals) rows m k found same e))
    ∙ is_some_map (λ (h : Bor Header). h.now.locals) found ∙ is

none_of : {A : Type 0} (o : Option A) → is_some o ≡ false → o ≡ None
none_of None h = refl
none_of (Some x) h = absurd cc

pub not_there : (rows : List (ℕ × Header)) (m : Headers) (k : ℕ) (found : Option (Bor Header)) → rows_of (λ h. h.locals) rows ≡ m
    → option_copied found ≡ at_key nat_cmp k rows → is_some found ≡ false → finite.get m k ≡ None
not_there rows m k found same e is = none_of (finite.get m k) (is_there rows m k found false same e is)

kept_by : (m : Headers) (k : ℕ) (ls : List Local) (o : Option (List Local)) → finite.get m k ≡ o → is_some o ≡ true → m ≡ finite.insert m k (first_locals o ls)
kept_by m k ls (Some first) e h = sym (insert_same nat_cmp_total nat_cmp-IsAntisymmetric m k first e)
kept_by m k ls None e h = absurd cc

-- a header is there already
pub first_stays : (m : Headers) (k node : ℕ) (ls : List Local) → k ≡ node → is_some (finite.get m k) ≡ true → m ≡ finite.insert m node (first_locals (finite.get m node) ls)
first_stays m k node ls same h = kept_by m k ls (finite.get m k) refl h ∙ ap (λ n. finite.insert m n (first_locals (finite.get m n) ls)) same

new_by : (o : Option (List Local)) (ls : List Local) → is_some o ≡ false → ls ≡ first_locals o ls
new_by None ls h = refl
new_by (Some x) ls h = absurd cc

-- and is new
pub first_comes : (m n : Headers) (k node : ℕ) (ls : List Local) → k ≡ node → is_some (finite.get m k) ≡ false → n ≡ finite.insert m k ls → n ≡ finite.insert m node (first_locals (finite.get m node) ls)
first_comes m n k node ls same h e = e ∙ ap (finite.insert m k) (new_by (finite.get m k) ls h) ∙ ap (λ j. finite.insert m j (first_locals (finite.get m j) ls)) same

-- ---- fences of one signature

pub fence_is : (rows : List (ℕ × Fence)) (m : Instances) (k : ℕ) (x : Fence) → rows_of (λ f. f) rows ≡ m → at_key nat_cmp k rows ≡ Some x → finite.get m k ≡ Some x
fence_is rows m k x same e = get_at nat_cmp_total nat_cmp-IsAntisymmetric (λ f. f) rows m k same ∙ same_option (at_key nat_cmp k rows) ∙ e

pub fence_is_none : (rows : List (ℕ × Fence)) (m : Instances) (k : ℕ) → rows_of (λ f. f) rows ≡ m → None ≡ at_key nat_cmp k rows → finite.get m k ≡ None
fence_is_none rows m k same e = get_at nat_cmp_total nat_cmp-IsAntisymmetric (λ f. f) rows m k same ∙ same_option (at_key nat_cmp k rows) ∙ sym e

-- ---- fences of all signatures

pub series_is : (rows : List (Signature × Series)) (m : AllSeries) (g : Signature) (x : Series) → rows_of (λ s. s) rows ≡ m → at_key signature_cmp g rows ≡ Some x → finite.get m g ≡ Some x
series_is rows m g x same e = get_at signature_total signatures_exact (λ s. s) rows m g same ∙ same_option (at_key signature_cmp g rows) ∙ e

pub series_is_none : (rows : List (Signature × Series)) (m : AllSeries) (g : Signature) → rows_of (λ s. s) rows ≡ m → None ≡ at_key signature_cmp g rows → finite.get m g ≡ None
series_is_none rows m g same e = get_at signature_total signatures_exact (λ s. s) rows m g same ∙ same_option (at_key signature_cmp g rows) ∙ sym e

-- ---- the fences of one signature that are kept

as_rows : (rows : List (ℕ × Fence)) → map (λ (e : ℕ × Fence). (e.0, e.1)) rows ≡ rows
as_rows [] = refl
as_rows (e ∷ rows) = ap (λ (es : List (ℕ × Fence)). e ∷ es) (as_rows rows)

found_at : (rows : List (ℕ × Fence)) (k : ℕ) → finite.get (rows_of {R = nat_cmp} (λ (f : Fence). f) rows) k ≡ find nat_cmp k rows
found_at rows k = finite.get-from_entries nat_cmp_total (map (λ (e : ℕ × Fence). (e.0, e.1)) rows) k ∙ ap (find nat_cmp k) (as_rows rows)

pub instances_kept : (rows kept : List (ℕ × Fence)) (m : Instances) (top : ℕ) → rows_of (λ f. f) rows ≡ m → kept ≡ filter (λ (e : ℕ × Fence). not (nat_lt (suc e.0) top)) rows
    → rows_of (λ f. f) kept ≡ finite.retain_keys m (λ k. not (nat_lt (suc k) top))
instances_kept rows kept m top same is =
    finite.same_map nat_cmp_total nat_cmp-IsAntisymmetric (rows_of (λ f. f) kept) (finite.retain_keys m stays) (λ k.
    found_at kept k
    ∙ ap (find nat_cmp k) is
    ∙ find-where_key nat_cmp stays k (λ i e. ap stays (sym (nat_cmp-IsAntisymmetric k i e))) rows
    ∙ ap (λ (o : Option Fence). cond (stays k) o None) (sym (found_at rows k) ∙ ap (λ (x : Instances). finite.get x k) same)
    ∙ sym (finite.get-retain_keys m stays k (λ i e. ap stays (sym (nat_cmp-IsAntisymmetric k i e)))))
  where
    stays : ℕ → Bool
    stays k = not (nat_lt (suc k) top)
