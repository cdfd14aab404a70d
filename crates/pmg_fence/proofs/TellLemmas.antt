-- Own headers that come to exist, and what a change of one fence leaves.
use Rattle.std.proofs.Common.{◌&&◌, Bor, IsTrue, subst, ◌≡◌, ℕ, suc, nat_lt, Bool, true, false, cond, List, [], ◌∷◌, ◌++◌, Option, Some, None, is_some, refl, sym, ap, ◌∙◌}
use Rattle.std.specs.FinMap as finite
use Rattle.std.specs.Option.{option_map}
use Rattle.pmg_value.specs.Signatures.{Signature, FenceName}
use Rattle.pmg_value.specs.declared.process.Proc.{Proc}
use Rattle.pmg_frame.specs.Fences.{Header, header, is_header}
use Rattle.pmg_frame.specs.declared.local.Local.{Local}
use Rattle.pmg_jobinfo.specs.Jobs.{Jobs}
use Rattle.pmg_fence.specs.declared.change.Change.{Change}
use Rattle.pmg_fence.specs.Entering.{locals_of, told_locals}
use Rattle.pmg_fence.specs.Tables.{Numbers, Fence, Fences, fence_of, series_at, has_name, is_old, fence_at, entry_at, own_header}
use Rattle.pmg_fence.specs.Codes.{Known, AllSeries, Owns}
use Rattle.pmg_fence.specs.Changes.{fence_placed, with_counts, present, newly}
use Rattle.pmg_fence.specs.Kept.{counts_noted, fence_changed, instead, entry_with, known_fence, own_of, told_with, newly_told, changed_with, noted_by, known_of, series_in, series_counted, series_placed, series_changed, IsKept, IsLine}
use Rattle.pmg_fence.proofs.LimitLemmas.{header_fits, told_level}

-- what is known of a fence that was looked up
pub fence_known : (t : Fences) (g : Signature) (k : ℕ) (o : Option Fence) → o ≡ finite.get (series_at t g).fences k → known_fence o ≡ fence_at t (fence_of g k)
unfolding fence_at
fence_known t g k o e = ap known_fence e

pub told_known : (t : Fences) (f : FenceName) (known : Fence) (l : Option Local) (ps : List Proc) → known ≡ fence_at t f
    → told_locals (instead l (entry_with known t.ends)) ps ≡ told_locals (instead l (entry_at t f)) ps
unfolding entry_at
told_known t f known l ps e = ap (λ x. told_locals (instead l (entry_with x t.ends)) ps) e

-- ---- whether an own header is there

pub absent_there : (jobs : Jobs) (node : ℕ) (t : Fences) (g : Signature) (k : ℕ) → None ≡ finite.get (series_at t g).fences k
    → false ≡ is_some (present jobs node t (fence_of g k))
unfolding present has_name
absent_there jobs node t g k e = ap (λ b. is_some (cond b (own_header jobs node t (fence_of g k)) None)) (ap is_some e)

pub present_there : (k : Known) (g : Signature) (i : ℕ) (x : Fence) (b : Bool) (ls : Option (List Local)) → Some x ≡ finite.get (series_at k.fences g).fences i
    → b ≡ is_some ls → ls ≡ told_locals (instead None (entry_at k.fences (fence_of g i))) (own_of k g) → b ≡ is_some (present k.jobs k.node k.fences (fence_of g i))
unfolding present has_name own_header locals_of
present_there k g i x b ls e is lines =
    is ∙ ap is_some lines ∙ ap (λ c. is_some (cond c (told_locals (entry_at k.fences (fence_of g i)) (own_of k g)) None)) (ap is_some e)

-- ---- what there is to tell anew

-- the header, if there is one
abbrev pub listed : Option Header → List Header
listed None = []
listed (Some h) = h ∷ []

newly_present : (node : ℕ) (f : FenceName) (before now : Option (List Local)) → is_some before ≡ true → newly node f before now ≡ []
newly_present node f (Some x) now e = refl
newly_present node f None now e = absurd cc

newly_absent : (node : ℕ) (f : FenceName) (before now : Option (List Local)) (o : Option Header) (hs : List Header) → is_some before ≡ false → o ≡ option_map (header node f) now
    → hs ≡ listed o → hs ≡ newly node f before now
newly_absent node f (Some x) now o hs e is all = absurd cc
newly_absent node f None None o hs e is all = all ∙ ap listed is
newly_absent node f None (Some ls) o hs e is all = all ∙ ap listed is

pub nothing_told : (k : Known) (f : FenceName) (l : Option Local) (b : Bool) → b ≡ is_some (present k.jobs k.node k.fences f) → b ≡ true → [] ≡ told_with k f l
nothing_told k f l b is e = sym (newly_present k.node f (present k.jobs k.node k.fences f) _ (sym is ∙ e))

pub header_told : (k : Known) (g : Signature) (i : ℕ) (l : Option Local) (b : Bool) (o : Option Header) (hs : List Header)
    → b ≡ is_some (present k.jobs k.node k.fences (fence_of g i)) → b ≡ false
    → o ≡ option_map (header k.node (fence_of g i)) (told_locals (instead l (entry_at k.fences (fence_of g i))) (own_of k g)) → hs ≡ listed o → hs ≡ told_with k (fence_of g i) l
unfolding locals_of
header_told k g i l b o hs is e made all = newly_absent k.node (fence_of g i) (present k.jobs k.node k.fences (fence_of g i)) _ o hs (sym is ∙ e) made all

-- ---- one fence has changed

-- the fences with the changed ones of the signature
abbrev inserted : Fences → FenceName → Change → Fences
inserted t f change = record { series = finite.insert t.series f.signature (series_changed (series_in t.series f.signature) f.instance change); ends = t.ends }

noted_is : (t : Fences) (f : FenceName) (change : Change) → inserted t f change ≡ noted_by t f change
unfolding is_old fence_placed with_counts series_at fence_at series_changed
noted_is t f change = by_old (is_old t f)
  where
    by_old : (b : Bool) → record { series = finite.insert t.series f.signature (cond b (series_counted (series_in t.series f.signature) (counts_noted t f change)) (series_placed (series_in t.series f.signature) f.instance change (counts_noted t f change))); ends = t.ends }
        ≡ cond b (with_counts t f.signature (counts_noted t f change)) (fence_placed t f (fence_changed (fence_at t f) change) (counts_noted t f change))
    by_old true = refl
    by_old false = refl

pub change_done : (k : Known) (f : FenceName) (change : Change) (l : Option Local) (jobs : Jobs) (node : ℕ) (series new : AllSeries) (ends : Numbers) (waiting told_now after : List Header)
    → known_of jobs node series ends waiting ≡ k → new ≡ finite.insert series f.signature (series_changed (series_in series f.signature) f.instance change)
    → told_now ≡ newly_told k f l → after ≡ waiting ++ told_now → known_of jobs node new ends after ≡ changed_with k f change l
change_done k f change l jobs node series new ends waiting told_now after view is told_is all =
    (λ i. known_of jobs node (is i) ends ((all ∙ ap (λ hs. waiting ++ hs) told_is) i))
    ∙ ap (λ (x : Known). record {
      jobs = x.jobs;
      node = x.node;
      fences = inserted x.fences f change;
      waiting = x.waiting ++ newly_told k f l;
    }) view
    ∙ ap (λ t. record { jobs = k.jobs; node = k.node; fences = t; waiting = k.waiting ++ newly_told k f l }) (noted_is k.fences f change)

-- the header that was made
pub header_is : (k : Known) (g one : Signature) (i node : ℕ) (name : FenceName) (ls : List Local) (h : Header) (now : Option (List Local)) → one ≡ g → node ≡ k.node → name.signature ≡ one
    → name.instance ≡ i → h ≡ header node name ls → Some ls ≡ now → Some h ≡ option_map (header k.node (fence_of g i)) now
header_is k g one i node name ls h now same here signature number made there =
    ap Some (made ∙ (λ j. header (here j) (record { signature = (signature ∙ same) j; instance = number j }) ls)) ∙ ap (option_map (header k.node (fence_of g i))) there

-- is one that a frame can hold
pub header_framed : (k : Known) (owns : Owns) (g one : Signature) (i node : ℕ) (name : FenceName) (ls : List Local) (own : List Proc) (known : Fence) (l : Option Local) → IsKept k owns → IsLine l
    → one ≡ g → node ≡ k.node → name.signature ≡ one → name.instance ≡ i → own ≡ own_of k g → known ≡ fence_at k.fences (fence_of g i)
    → Some ls ≡ told_locals (instead l (entry_with known k.fences.ends)) own → IsTrue (is_header (header node name ls))
header_framed k owns g one i node name ls own known l kept small same here signature number is looked there =
    subst (λ h. IsTrue (is_header h)) (λ j. header (sym here j) (record { signature = sym (signature ∙ same) j; instance = sym number j }) ls)
    (header_fits k (fence_of g i) (instead l (entry_at k.fences (fence_of g i))) own ls is (sym (there ∙ told_known k.fences (fence_of g i) known l own looked)) (told_level k owns (fence_of g i) l kept small))

-- whether the own header is there of a fence that was looked up
pub present_is : (k : Known) (g : Signature) (i : ℕ) (o : Option (Bor Fence)) (own : List Proc) (b : Bool) → own ≡ own_of k g → option_map (λ f. f.now) o ≡ finite.get (series_at k.fences g).fences i
    → b ≡ (is_some o && is_some (told_locals (entry_with (known_fence (option_map (λ f. f.now) o)) k.fences.ends) own)) → b ≡ is_some (present k.jobs k.node k.fences (fence_of g i))
present_is k g i None own b is there e = e ∙ absent_there k.jobs k.node k.fences g i there
present_is k g i (Some x) own b is there e =
    present_there k g i x.now b (told_locals (entry_with x.now k.fences.ends) own) there e
    (ap (told_locals (entry_with x.now k.fences.ends)) is ∙ told_known k.fences (fence_of g i) x.now None (own_of k g) (fence_known k.fences g i (Some x.now) there))

-- ---- an old fence, and one that is not

pub old_told : (k : Known) (g : Signature) (i : ℕ) (l : Option Local) → nat_lt (suc i) (series_at k.fences g).top ≡ true → [] ≡ newly_told k (fence_of g i) l
unfolding is_old
old_told k g i l e = ap (λ b. cond b [] (told_with k (fence_of g i) l)) (sym e)

pub young_told : (k : Known) (g : Signature) (i : ℕ) (l : Option Local) → nat_lt (suc i) (series_at k.fences g).top ≡ false → told_with k (fence_of g i) l ≡ newly_told k (fence_of g i) l
unfolding is_old
young_told k g i l e = ap (λ b. cond b [] (told_with k (fence_of g i) l)) (sym e)
