-- What an end brings to be told.
use Rattle.std.proofs.Common.{◌≡◌, ℕ, Bool, true, false, cond, List, [], ◌∷◌, ◌++◌, map, Option, Some, None, is_some, refl, sym, ap, ◌∙◌, append_assoc}
use Rattle.std.specs.FinMap as finite
use Rattle.std.specs.List.{flat_map}
use Rattle.std.specs.Map.{keys_of}
use Rattle.std.specs.Ordering.{nat_cmp}
use Rattle.std.specs.Cmp.{nat_cmp_total}
use Rattle.std.proofs.lemmas.List.Concat.{flat_map-append}
use Rattle.pmg_value.specs.Rows.{rows_of, AreRising}
use Rattle.pmg_value.proofs.RowLemmas.{entries-map_of}
use Rattle.pmg_value.specs.Signatures.{Signature, FenceName}
use Rattle.pmg_value.specs.declared.process.Proc.{Proc}
use Rattle.std.specs.Cmp.{Equal-is}
use Rattle.pmg_value.proofs.ProcessOrder.{procs_total, exact_procs}
use Rattle.pmg_frame.specs.FenceOrder.{signature_cmp, signature_total}
use Rattle.pmg_frame.specs.Fences.{Header}
use Rattle.pmg_frame.specs.declared.local.Local.{Local}
use Rattle.pmg_frame.specs.declared.local.State.TheVariants as states
use Rattle.pmg_jobinfo.specs.Jobs.{Jobs}
use Rattle.pmg_fence.specs.Entering.{same_proc, gone, entry_by, locals_of, told_locals}
use Rattle.pmg_fence.specs.Tables.{Numbers, Fence, Series, fence_of, series_at, has_name, fence_at, entry_at, own_header, names_of}
use Rattle.pmg_fence.specs.Codes.{Known, AllSeries, Instances}
use Rattle.pmg_fence.specs.Changes.{ended_by, changed, present, newly, news}
use Rattle.pmg_fence.specs.Kept.{instead, told_with, ended_told, known_of}
use Rattle.pmg_fence.proofs.HeaderLemmas.{by_proc, told_alike}
use Rattle.pmg_fence.proofs.TellLemmas.{fence_known}

abbrev pub end_line : Proc → ℕ → Local
end_line p level = record { proc = p; state = states.Gone; level = level }

pub newly_same : (node : ℕ) (f : FenceName) (o : Option (List Local)) → newly node f o o ≡ []
newly_same node f None = refl
newly_same node f (Some ls) = refl

-- a process that entered stands as it did, and so does each other one
stays : (m ends : Numbers) (p : Proc) (level n : ℕ) → finite.get m p ≡ Some n → (q : Proc) → entry_by (finite.get m q) (finite.get (finite.insert ends p level) q) ≡ entry_by (finite.get m q) (finite.get ends q)
stays m ends p level n there q = by_proc q p same other
  where
    same : q ≡ p → entry_by (finite.get m q) (finite.get (finite.insert ends p level) q) ≡ entry_by (finite.get m q) (finite.get ends q)
    same e =
        let is = ap (finite.get m) e ∙ there in
        ap (λ o. entry_by o (finite.get (finite.insert ends p level) q)) is ∙ sym (ap (λ o. entry_by o (finite.get ends q)) is)

    other : same_proc q p ≡ false → entry_by (finite.get m q) (finite.get (finite.insert ends p level) q) ≡ entry_by (finite.get m q) (finite.get ends q)
    other e = ap (entry_by (finite.get m q)) (finite.get-insert procs_total ends p level q ∙ ap (λ b. cond b (Some level) (finite.get ends q)) e)

by_test : (b : Bool) (o y : Option ℕ) (level : ℕ) → (b ≡ true → o ≡ None) → entry_by o (cond b (Some level) y) ≡ cond b (Some (gone level)) (entry_by o y)
by_test true o y level none = ap (λ x. entry_by x (Some level)) (none refl)
by_test false o y level none = refl

-- one that did not is gone
leaves : (m ends : Numbers) (p : Proc) (level : ℕ) → finite.get m p ≡ None → (q : Proc)
    → entry_by (finite.get m q) (finite.get (finite.insert ends p level) q) ≡ cond (same_proc q p) (Some (gone level)) (entry_by (finite.get m q) (finite.get ends q))
leaves m ends p level none q =
    ap (entry_by (finite.get m q)) (finite.get-insert procs_total ends p level q)
    ∙ by_test (same_proc q p) (finite.get m q) (finite.get ends q) level (λ t. ap (finite.get m) (exact_procs q p ((Equal-is _).0 t)) ∙ none)

module _ (k : Known) (p : Proc) (level : ℕ) (f : FenceName) where
  -- an end changes no fence
  ended_fence : fence_at (ended_by k.fences p level) f ≡ fence_at k.fences f
  unfolding fence_at series_at
  ended_fence = refl

  ended_name : has_name (ended_by k.fences p level) f ≡ has_name k.fences f
  unfolding has_name series_at
  ended_name = refl

  ended_entry : (q : Proc) → entry_at (ended_by k.fences p level) f q ≡ entry_by (finite.get (fence_at k.fences f).levels q) (finite.get (finite.insert k.fences.ends p level) q)
  unfolding entry_at
  ended_entry q = ap (λ (x : Fence). entry_by (finite.get x.levels q) (finite.get (finite.insert k.fences.ends p level) q)) ended_fence

  told_entered : (n : ℕ) → finite.get (fence_at k.fences f).levels p ≡ Some n → told_locals (entry_at (ended_by k.fences p level) f) (locals_of k.jobs f k.node) ≡ own_header k.jobs k.node k.fences f
  unfolding own_header entry_at
  told_entered n there = told_alike _ _ (locals_of k.jobs f k.node) (λ q i. ended_entry q ∙ stays (fence_at k.fences f).levels k.fences.ends p level n there q)

  told_left : finite.get (fence_at k.fences f).levels p ≡ None → told_locals (entry_at (ended_by k.fences p level) f) (locals_of k.jobs f k.node) ≡ told_locals (instead (Some (end_line p level)) (entry_at k.fences f)) (locals_of k.jobs f k.node)
  unfolding entry_at
  told_left none = told_alike _ _ (locals_of k.jobs f k.node) (λ q i. ended_entry q ∙ leaves (fence_at k.fences f).levels k.fences.ends p level none q)

  by_level : (o : Option ℕ) → finite.get (fence_at k.fences f).levels p ≡ o → (b : Bool) → has_name k.fences f ≡ b
      → cond b (cond (is_some o) [] (newly k.node f (cond b (own_header k.jobs k.node k.fences f) None) (told_locals (instead (Some (end_line p level)) (entry_at k.fences f)) (locals_of k.jobs f k.node)))) []
      ≡ newly k.node f (cond b (own_header k.jobs k.node k.fences f) None) (cond b (told_locals (entry_at (ended_by k.fences p level) f) (locals_of k.jobs f k.node)) None)
  by_level o e false there = refl
  by_level (Some n) e true there = sym (ap (newly k.node f (own_header k.jobs k.node k.fences f)) (told_entered n e) ∙ newly_same k.node f (own_header k.jobs k.node k.fences f))
  by_level None e true there = sym (ap (newly k.node f (own_header k.jobs k.node k.fences f)) (told_left e))

  -- what the end brings is the news
  pub ended_is : ended_told k (end_line p level) f ≡ news k.jobs k.node k.fences (ended_by k.fences p level) f
  unfolding news present own_header
  ended_is =
      by_level (finite.get (fence_at k.fences f).levels p) refl (has_name k.fences f) refl
      ∙ ap (λ b. newly k.node f (cond (has_name k.fences f) (told_locals (entry_at k.fences f) (locals_of k.jobs f k.node)) None) (cond b (told_locals (entry_at (ended_by k.fences p level) f) (locals_of k.jobs f k.node)) None)) (sym ended_name)

-- ---- the call

pub end_done : (k : Known) (p one two : Proc) (level : ℕ) (jobs : Jobs) (node : ℕ) (series : AllSeries) (ends new : Numbers) (waiting brought after : List Header)
    → known_of jobs node series ends waiting ≡ k → one ≡ p → two ≡ p → new ≡ finite.insert ends two level
    → brought ≡ flat_map (ended_told k (end_line one level)) (names_of k.fences) → after ≡ waiting ++ brought
    → known_of jobs node series new after ≡ changed k (ended_by k.fences p level)
end_done k p one two level jobs node series ends new waiting brought after view first second is all after_is =
    (λ i. known_of jobs node series ((is ∙ ap (λ q. finite.insert ends q level) second) i) ((after_is ∙ ap (λ hs. waiting ++ hs) (all ∙ ap (λ q. flat_map (ended_told k (end_line q level)) (names_of k.fences)) first)) i))
    ∙ ap (λ (x : Known). record { jobs = x.jobs; node = x.node; fences = ended_by x.fences p level; waiting = x.waiting ++ flat_map (ended_told k (end_line p level)) (names_of k.fences) }) view
    ∙ ap (λ (hs : List Header). record { jobs = k.jobs; node = k.node; fences = ended_by k.fences p level; waiting = k.waiting ++ hs })
    (λ i. flat_map (λ f. ended_is k p level f i) (names_of k.fences))

-- ---- rows, one after another

pub instances_are : (rows : List (ℕ × Fence)) (m : Instances) → rows_of (λ f. f) rows ≡ m → AreRising nat_cmp rows → finite.entries m ≡ rows
instances_are rows m same rising = sym (ap finite.entries same) ∙ entries-map_of nat_cmp_total rows rising

pub series_are : (rows : List (Signature × Series)) (m : AllSeries) → rows_of (λ s. s) rows ≡ m → AreRising signature_cmp rows → finite.entries m ≡ rows
series_are rows m same rising = sym (ap finite.entries same) ∙ entries-map_of signature_total rows rising

-- the names of the fences of one row
abbrev pub names_in : Signature × Series → List FenceName
names_in e = map (fence_of e.0) (finite.keys e.1.fences)

pub row_added : (n : FenceName → List Header) (e : Signature × Series) (rest left : List (Signature × Series)) (news new all : List Header) → left ≡ e ∷ rest
    → news ++ flat_map n (flat_map names_in left) ≡ all → new ≡ news ++ flat_map n (names_in e) → new ++ flat_map n (flat_map names_in rest) ≡ all
row_added n e rest left news new all is so_far made =
    ap (λ hs. hs ++ flat_map n (flat_map names_in rest)) made ∙ append_assoc news (flat_map n (names_in e)) (flat_map n (flat_map names_in rest))
    ∙ ap (λ hs. news ++ hs) (sym (flat_map-append n (names_in e) (flat_map names_in rest)))
    ∙ ap (λ es. news ++ flat_map n (flat_map names_in es)) (sym is) ∙ so_far

pub instance_added : (n : FenceName → List Header) (g : Signature) (i : ℕ) (x : Fence) (rest left : List (ℕ × Fence)) (news more new all : List Header) → left ≡ (i, x) ∷ rest
    → news ++ flat_map n (map (fence_of g) (keys_of left)) ≡ all → more ≡ n (fence_of g i) → new ≡ news ++ more → new ++ flat_map n (map (fence_of g) (keys_of rest)) ≡ all
instance_added n g i x rest left news more new all is so_far brought made =
    ap (λ hs. hs ++ flat_map n (map (fence_of g) (keys_of rest))) (made ∙ ap (λ hs. news ++ hs) brought)
    ∙ append_assoc news (n (fence_of g i)) (flat_map n (map (fence_of g) (keys_of rest)))
    ∙ ap (λ es. news ++ flat_map n (map (fence_of g) (keys_of es))) (sym is) ∙ so_far

-- ---- one fence

pub nameless : (k : Known) (l : Local) (g : Signature) (i : ℕ) → None ≡ finite.get (series_at k.fences g).fences i → [] ≡ ended_told k l (fence_of g i)
unfolding has_name
nameless k l g i e =
    ap (λ (o : Option Fence). cond (is_some o) (cond (is_some (finite.get (fence_at k.fences (fence_of g i)).levels l.proc)) [] (told_with k (fence_of g i) (Some l))) []) e

pub entered_already : (k : Known) (l : Local) (g : Signature) (i : ℕ) (x : Fence) (n : ℕ) → Some x ≡ finite.get (series_at k.fences g).fences i → Some n ≡ finite.get x.levels l.proc
    → [] ≡ ended_told k l (fence_of g i)
unfolding has_name
entered_already k l g i x n e there =
    ap (λ (o : Option ℕ). cond (is_some o) [] (told_with k (fence_of g i) (Some l))) (there ∙ ap (λ (y : Fence). finite.get y.levels l.proc) (fence_known k.fences g i (Some x) e))
    ∙ ap (λ (o : Option Fence). cond (is_some o) (cond (is_some (finite.get (fence_at k.fences (fence_of g i)).levels l.proc)) [] (told_with k (fence_of g i) (Some l))) []) e

pub left_now : (k : Known) (l : Local) (g : Signature) (i : ℕ) (x : Fence) → Some x ≡ finite.get (series_at k.fences g).fences i → None ≡ finite.get x.levels l.proc
    → told_with k (fence_of g i) (Some l) ≡ ended_told k l (fence_of g i)
unfolding has_name
left_now k l g i x e none =
    ap (λ (o : Option ℕ). cond (is_some o) [] (told_with k (fence_of g i) (Some l))) (none ∙ ap (λ (y : Fence). finite.get y.levels l.proc) (fence_known k.fences g i (Some x) e))
    ∙ ap (λ (o : Option Fence). cond (is_some o) (cond (is_some (finite.get (fence_at k.fences (fence_of g i)).levels l.proc)) [] (told_with k (fence_of g i) (Some l))) []) e
