-- What a table keeps beside stays right where a change is taken back.
use Rattle.std.proofs.Common.{◌≡◌, ℕ, zero, suc, Bool, true, false, cond, List, [], length, take, Option, Some, is_some, refl, sym, ap, ◌∙◌, subst, Bor}
use Rattle.std.specs.FinMap as finite
use Rattle.std.proofs.Math.Seq.{take-append_seam}
use Rattle.pmg_value.specs.Signatures.{Signature, FenceName}
use Rattle.pmg_frame.specs.FenceOrder.{signature_total}
use Rattle.pmg_frame.specs.Fences.{Header}
use Rattle.pmg_frame.specs.declared.local.Local.{Local}
use Rattle.pmg_fence.specs.declared.change.Change.{Change}
use Rattle.pmg_fence.specs.declared.series.SeriesUndo.{SeriesUndo}
use Rattle.pmg_fence.specs.declared.table.ChangeBefore.TheVariants as change_befores
use Rattle.pmg_fence.specs.declared.table.TableUndo.{TableUndo}
use Rattle.pmg_fence.specs.Entering.{same_signature}
use Rattle.pmg_fence.specs.Tables.{Series, Fences, is_old, fence_at, fence_of}
use Rattle.pmg_fence.specs.Codes.{Known, Owns}
use Rattle.pmg_fence.specs.Changes.{fence_placed, with_counts, taken}
use Rattle.pmg_fence.specs.Kept.{newly_told, fence_changed, counts_noted, changed_with, noted_by, IsKept}
use Rattle.pmg_fence.specs.TakenBack.{fences_back, change_back, table_back, CanRollTableBack}
use Rattle.pmg_fence.proofs.KeptLemmas.{kept_waiting}
use Rattle.pmg_fence.proofs.OldLemmas.{series_then}
use Rattle.pmg_fence.proofs.TableLemmas.{series_placed}

there_still : {X : Type 0} (b : Bool) (x : X) (o : Option X) → is_some o ≡ true → is_some (cond b (Some x) o) ≡ true
there_still true x o there = refl
there_still false x o there = there

-- the signatures of the fences that were held are held
inserted_still : (t : Fences) (g : Signature) (x : Series) (h : Signature) → is_some (finite.get t.series h) ≡ true → is_some (finite.get (finite.insert t.series g x) h) ≡ true
inserted_still t g x h there = ap is_some (finite.get-insert signature_total t.series g x h) ∙ there_still (same_signature h g) x (finite.get t.series h) there

still_held : (t : Fences) (f : FenceName) (change : Change) (h : Signature) → is_some (finite.get t.series h) ≡ true → is_some (finite.get (noted_by t f change).series h) ≡ true
unfolding fence_placed with_counts
still_held t f change h there = by_old (is_old t f)
  where
    by_old : (b : Bool) → is_some (finite.get (cond b (with_counts t f.signature (counts_noted t f change)) (fence_placed t f (fence_changed (fence_at t f) change) (counts_noted t f change))).series h) ≡ true
    by_old true = inserted_still t f.signature (series_then t f.signature (counts_noted t f change)) h there
    by_old false = inserted_still t f.signature (series_placed t f (fence_changed (fence_at t f) change) (counts_noted t f change)) h there

pub note_fits : (old new : Known) (owns : Owns) (before : TableUndo) (f : FenceName) (change : Change) (l : Option Local) → IsKept old owns → new ≡ changed_with old f change l
    → table_back new before ≡ old → CanRollTableBack new before
note_fits old new owns before f change l was is back = λ others kept.
    let now = subst (λ (k : Known). IsKept k others) is kept in
    subst (λ (k : Known). IsKept k others) (sym back) (record {
      own = now.own;
      held = λ h there. now.held h (still_held old.fences f change h there);
      names = was.names;
      levels = was.levels;
      ends = was.ends;
    })

pub note_back : (old new : Known) (f : FenceName) (kept : Bor FenceName) (g : Signature) (i : ℕ) (change : Change) (l : Option Local) (n : ℕ) (before : Option SeriesUndo)
    → kept.now ≡ f → g ≡ f.signature → i ≡ f.instance → n ≡ length old.waiting → new ≡ changed_with old (fence_of g i) change l
    → fences_back new.fences (fence_of g i) before ≡ old.fences → table_back new (record { waiting = n; change = change_befores.Fence kept before }) ≡ old
note_back old new f kept g i change l n before copied same number many is back =
    let name : kept.now ≡ fence_of g i = copied ∙ (λ j. fence_of (sym same j) (sym number j)) in
    let fences : fences_back new.fences kept.now before ≡ old.fences = ap (λ x. fences_back new.fences x before) name ∙ back in
    let waiting : take n new.waiting ≡ old.waiting =
    (λ j. take (many j) ((is j).waiting)) ∙ take-append_seam old.waiting (newly_told old (fence_of g i) l) in
    λ j. record { jobs = (is j).jobs; node = (is j).node; fences = fences j; waiting = waiting j }

-- ---- where the headers that came to exist were taken in between

-- a change that can be taken back can be taken back after that too
pub taken_fits : (k : Known) (before : TableUndo) (rest : List Header) → CanRollTableBack k before → CanRollTableBack (taken k rest) before
taken_fits k before rest fits = λ owns kept. kept_waiting (table_back k before) owns (take before.waiting rest) (fits owns (kept_waiting (taken k rest) owns k.waiting kept))

take_nothing : {A : Type 0} (n : ℕ) → take {A = A} n [] ≡ []
take_nothing zero = refl
take_nothing (suc n) = refl

-- and where nothing waited before, the table is the one from before
pub taken_back : (k old : Known) (before : TableUndo) → table_back k before ≡ old → old.waiting ≡ [] → table_back (taken k []) before ≡ old
taken_back k old before back none =
    (λ i. record { jobs = k.jobs; node = k.node; fences = change_back k.fences before.change; waiting = (take_nothing before.waiting ∙ sym none ∙ ap (λ (t : Known). t.waiting) (sym back)) i })
    ∙ back
