-- What comes to be told once one fence has changed.
use Rattle.std.proofs.Common.{◌≡◌, ℕ, suc, ◌+◌, Bool, true, false, ◌&&◌, cond, List, [], ◌++◌, Option, Some, None, refl, sym, ap, ◌∙◌, add-one}
use Rattle.std.specs.FinMap as finite
use Rattle.std.specs.Ordering.{is_eq, nat_cmp, eq_by_cmp}
use Rattle.std.specs.Cmp.{nat_cmp_total}
use Rattle.std.proofs.lemmas.Cmp.{tied_itself}
use Rattle.pmg_value.specs.Signatures.{Signature, FenceName}
use Rattle.pmg_value.specs.declared.process.Proc.{Proc}
use Rattle.pmg_value.proofs.ProcessOrder.{procs_total}
use Rattle.pmg_frame.specs.Fences.{Header}
use Rattle.pmg_frame.specs.declared.local.Local.{Local}
use Rattle.pmg_frame.specs.declared.local.State.TheVariants as states
use Rattle.pmg_fence.specs.declared.change.Change.{Change}
use Rattle.pmg_fence.specs.declared.change.Change.TheVariants as changes
use Rattle.pmg_fence.specs.Entering.{same_proc, entered, entry_by, locals_of, told_locals}
use Rattle.pmg_fence.specs.Tables.{Numbers, Fence, Fences, fence_of, series_at, has_name, is_old, fence_at, entry_at, count_of, own_header}
use Rattle.pmg_fence.specs.Codes.{Known}
use Rattle.pmg_fence.specs.Changes.{fence_placed, with_counts, forgotten, with_fence, with_fences, learned, next_name, entered_by, with_header, fence_entered, fence_changed_at, present, newly, news}
use Rattle.pmg_fence.specs.Kept.{changed_local, instead, told_with, newly_told, fence_changed, counts_noted, changed_with, noted_by, placed_by}
use Rattle.pmg_fence.proofs.EntryLemmas.{signature_itself}
use Rattle.pmg_fence.proofs.EndLemmas.{newly_same}
use Rattle.pmg_fence.proofs.HeaderLemmas.{told_alike}
use Rattle.pmg_fence.proofs.LineLemmas.{append_empty}
use Rattle.pmg_fence.proofs.OldLemmas.{fence-counts, name-counts, old-counts, ends-counts, present_alike, news-forgotten, no_news}
use Rattle.pmg_fence.proofs.TableLemmas.{same_name, fence-placed, name-placed, old_there}

pub name_itself : (f : FenceName) → same_name f f ≡ true
name_itself f = (λ i. signature_itself f.signature i && instance i)
  where
    instance : eq_by_cmp nat_cmp f.instance f.instance ≡ true
    instance = ap is_eq (tied_itself nat_cmp_total f.instance)

module _ (t : Fences) (f : FenceName) (fence : Fence) (counts : Numbers) where
  pub fence_there : fence_at (fence_placed t f fence counts) f ≡ fence
  fence_there = fence-placed t f fence counts f ∙ ap (λ b. cond b fence (fence_at t f)) (name_itself f)

  pub name_there : has_name (fence_placed t f fence counts) f ≡ true
  name_there = name-placed t f fence counts f ∙ ap (λ b. cond b true (has_name t f)) (name_itself f)

  -- how a process stands then
  pub entry_there : (q : Proc) → entry_at (fence_placed t f fence counts) f q ≡ entry_by (finite.get fence.levels q) (finite.get t.ends q)
  unfolding entry_at fence_placed
  entry_there q = ap (λ (x : Fence). entry_by (finite.get x.levels q) (finite.get t.ends q)) fence_there

cond_entry : (b : Bool) (level : ℕ) (o last : Option ℕ) → entry_by (cond b (Some level) o) last ≡ cond b (Some (entered level)) (entry_by o last)
cond_entry true level o last = refl
cond_entry false level o last = refl

module _ (k : Known) (f : FenceName) (change : Change) where
  abbrev fence_then : Fence
  fence_then = fence_changed (fence_at k.fences f) change

  abbrev placed_then : Fences
  placed_then = fence_placed k.fences f fence_then (counts_noted k.fences f change)

  abbrev counted_then : Fences
  counted_then = with_counts k.fences f.signature (counts_noted k.fences f change)

  -- the news are what is told_locals, where the process stands to the fence as the line says
  placed_news : (l : Option Local) → ((q : Proc) → entry_at placed_then f q ≡ instead l (entry_at k.fences f) q) → told_with k f l ≡ news k.jobs k.node k.fences placed_then f
  unfolding news present own_header
  placed_news l same =
      let now : told_locals (instead l (entry_at k.fences f)) (locals_of k.jobs f k.node) ≡ told_locals (entry_at placed_then f) (locals_of k.jobs f k.node) =
      told_alike (instead l (entry_at k.fences f)) (entry_at placed_then f) (locals_of k.jobs f k.node) (λ q i. sym (same q)) in
      let there : has_name placed_then f ≡ true = name_there k.fences f _ _ in
      ap (newly k.node f (present k.jobs k.node k.fences f)) (now ∙ ap (λ b. cond b (told_locals (entry_at placed_then f) (locals_of k.jobs f k.node)) None) (sym there))

  -- where the counts alone change, there are none
  counted_news : [] ≡ news k.jobs k.node k.fences counted_then f
  unfolding news
  counted_news =
      sym (ap (newly k.node f (present k.jobs k.node k.fences f))
      (present_alike k.jobs k.node k.fences counted_then f (fence-counts k.fences f.signature (counts_noted k.fences f change) f) (ends-counts k.fences f.signature (counts_noted k.fences f change))
      (name-counts k.fences f.signature (counts_noted k.fences f change) f))
      ∙ newly_same k.node f (present k.jobs k.node k.fences f))

  told_is_news : (l : Option Local) → ((q : Proc) → entry_at placed_then f q ≡ instead l (entry_at k.fences f) q) → newly_told k f l ≡ news k.jobs k.node k.fences (noted_by k.fences f change) f
  told_is_news l same = by_old (is_old k.fences f)
    where
      by_old : (b : Bool) → cond b [] (told_with k f l) ≡ news k.jobs k.node k.fences (cond b counted_then placed_then) f
      by_old true = counted_news
      by_old false = placed_news l same

  told_news : (l : Option Local) → ((q : Proc) → entry_at placed_then f q ≡ instead l (entry_at k.fences f) q) → changed_with k f change l ≡ fence_changed_at k f (noted_by k.fences f change)
  told_news l same = ap (λ (hs : List Header). record { jobs = k.jobs; node = k.node; fences = noted_by k.fences f change; waiting = k.waiting ++ hs }) (told_is_news l same)

  -- the news are the same once what the change made old is forgotten
  pub news-placed_by : news k.jobs k.node k.fences (placed_by k.fences f change) f ≡ news k.jobs k.node k.fences (noted_by k.fences f change) f
  news-placed_by = by_old (is_old k.fences f) refl
    where
      by_old : (b : Bool) → is_old k.fences f ≡ b → news k.jobs k.node k.fences (forgotten (cond b counted_then placed_then) f.signature) f ≡ news k.jobs k.node k.fences (cond b counted_then placed_then) f
      by_old true old =
          no_news k.jobs k.node k.fences counted_then f (old-counts k.fences f.signature (counts_noted k.fences f change) f ∙ old) ∙ counted_news
      by_old false young =
          news-forgotten k.jobs k.node k.fences placed_then f f.signature (old_there k.fences f fence_then (counts_noted k.fences f change) young)

  -- a change that is noted, and then what it made old is forgotten
  pub forget_noted : (new now : Known) → new ≡ fence_changed_at k f (noted_by k.fences f change) → now ≡ with_fences new (forgotten new.fences f.signature) → now ≡ fence_changed_at k f (placed_by k.fences f change)
  forget_noted new now noted is =
      is ∙ ap (λ (x : Known). with_fences x (forgotten x.fences f.signature)) noted
      ∙ ap (λ (hs : List Header). record { jobs = k.jobs; node = k.node; fences = placed_by k.fences f change; waiting = k.waiting ++ hs }) (sym news-placed_by)

  -- of a fence that is not old a change that places it is what is kept
  young_placed : is_old k.fences f ≡ false → fence_changed_at k f (placed_by k.fences f change) ≡ fence_changed_at k f (forgotten placed_then f.signature)
  young_placed young = ap (λ b. fence_changed_at k f (forgotten (cond b counted_then placed_then) f.signature)) young

  -- and of an old one nothing changes where nothing does
  pub nothing_changed : (fence : Fence) → is_old k.fences f ≡ true → k ≡ fence_changed_at k f (with_fence k.fences f fence)
  unfolding news
  nothing_changed fence old =
      (λ i. record { jobs = k.jobs; node = k.node; fences = k.fences; waiting = (sym (append_empty k.waiting) ∙ ap (λ hs. k.waiting ++ hs) (sym (newly_same k.node f (present k.jobs k.node k.fences f)))) i })
      ∙ ap (λ b. fence_changed_at k f (cond b k.fences (forgotten (fence_placed k.fences f fence (series_at k.fences f.signature).counts) f.signature))) (sym old)

entry_learned : (t : Fences) (f : FenceName) (q : Proc) → entry_at (fence_placed t f (fence_at t f) (series_at t f.signature).counts) f q ≡ instead None (entry_at t f) q
unfolding entry_at
entry_learned t f q = entry_there t f (fence_at t f) (series_at t f.signature).counts q

entry_told : (t : Fences) (f : FenceName) (h : Header) (q : Proc) → entry_at (fence_placed t f (fence_changed (fence_at t f) (changes.Told h)) (series_at t f.signature).counts) f q ≡ instead None (entry_at t f) q
unfolding entry_at
entry_told t f h q = entry_there t f _ _ q

entry_entered : (t : Fences) (f : FenceName) (p : Proc) (level : ℕ) (q : Proc)
    → entry_at (fence_placed t f (fence_entered (fence_at t f) p level) (counts_noted t f (changes.Entered p level))) f q ≡ instead (Some (record { proc = p; state = states.Entered; level = level })) (entry_at t f) q
unfolding entry_at
entry_entered t f p level q =
    entry_there t f (fence_entered (fence_at t f) p level) _ q
    ∙ ap (λ o. entry_by o (finite.get t.ends q)) (finite.get-insert procs_total (fence_at t f).levels p level q)
    ∙ cond_entry (same_proc q p) level (finite.get (fence_at t f).levels q) (finite.get t.ends q)

entry_changed : (t : Fences) (f : FenceName) (change : Change) (q : Proc) → entry_at (fence_placed t f (fence_changed (fence_at t f) change) (counts_noted t f change)) f q ≡ instead (changed_local change) (entry_at t f) q
entry_changed t f changes.Learned q = entry_learned t f q
entry_changed t f (changes.Entered p level) q = entry_entered t f p level q
entry_changed t f (changes.Told h) q = entry_told t f h q

-- ---- the calls

pub note_done : (k new : Known) (f : FenceName) (g : Signature) (i : ℕ) (change : Change) (l : Option Local) → g ≡ f.signature → i ≡ f.instance → l ≡ changed_local change
    → new ≡ changed_with k (fence_of g i) change l → new ≡ fence_changed_at k f (noted_by k.fences f change)
note_done k new f g i change l same number line is =
    is ∙ (λ j. changed_with k (fence_of (same j) (number j)) change (line j)) ∙ told_news k f change (changed_local change) (entry_changed k.fences f change)

pub enter_done : (k new now : Known) (g : Signature) (p one two : Proc) (level n : ℕ) → n ≡ count_of k.fences g p → one ≡ p → two ≡ p
    → new ≡ changed_with k (fence_of g (n + 1)) (changes.Entered two level) (Some (record { proc = one; state = states.Entered; level = level }))
    → now ≡ with_fences new (forgotten new.fences g) → now ≡ fence_changed_at k (next_name k.fences g p) (entered_by k.fences g p level)
enter_done k new now g p one two level n count first second is then =
    forget_noted k (next_name k.fences g p) (changes.Entered p level) new now
    (note_done k new (next_name k.fences g p) g (n + 1) (changes.Entered p level) (Some (record { proc = one; state = states.Entered; level = level })) refl (add-one n ∙ ap suc count)
    (λ i. Some (record { proc = first i; state = states.Entered; level = level })) (is ∙ (λ i. changed_with k (fence_of g (n + 1)) (changes.Entered (second i) level) (Some (record { proc = one; state = states.Entered; level = level }))))) then

-- what a change of a fence that is not old leaves, once what it made old is forgotten
changed_young : (k new now : Known) (f : FenceName) (g h : Signature) (i : ℕ) (change : Change) → g ≡ f.signature → h ≡ f.signature → i ≡ f.instance → None ≡ changed_local change → is_old k.fences f ≡ false
    → new ≡ changed_with k (fence_of g i) change None → now ≡ with_fences new (forgotten new.fences h)
    → now ≡ fence_changed_at k f (forgotten (fence_placed k.fences f (fence_changed (fence_at k.fences f) change) (counts_noted k.fences f change)) f.signature)
changed_young k new now f g h i change same again number line young is then =
    forget_noted k f change new now (note_done k new f g i change None same number line is) (then ∙ ap (λ x. with_fences new (forgotten new.fences x)) again) ∙ young_placed k f change young

pub learn_done : (k new now : Known) (f : FenceName) (g h : Signature) (i : ℕ) → g ≡ f.signature → h ≡ f.signature → i ≡ f.instance → is_old k.fences f ≡ false
    → new ≡ changed_with k (fence_of g i) changes.Learned None → now ≡ with_fences new (forgotten new.fences h) → now ≡ fence_changed_at k f (learned k.fences f)
learn_done k new now f g h i same again number young is then =
    changed_young k new now f g h i changes.Learned same again number refl young is then
    ∙ ap (λ b. fence_changed_at k f (cond b k.fences (forgotten (fence_placed k.fences f (fence_at k.fences f) (series_at k.fences f.signature).counts) f.signature))) (sym young)

pub header_done : (k new now : Known) (head : Header) (f : FenceName) (g h : Signature) (i : ℕ) → f ≡ head.name → g ≡ f.signature → h ≡ f.signature → i ≡ f.instance → is_old k.fences head.name ≡ false
    → new ≡ changed_with k (fence_of g i) (changes.Told head) None → now ≡ with_fences new (forgotten new.fences h) → now ≡ fence_changed_at k head.name (with_header k.fences head)
header_done k new now head f g h i name same again number young is then =
    let fence = fence_changed (fence_at k.fences head.name) (changes.Told head) in
    changed_young k new now head.name g h i (changes.Told head) (same ∙ ap (λ (x : FenceName). x.signature) name) (again ∙ ap (λ (x : FenceName). x.signature) name) (number ∙ ap (λ (x : FenceName). x.instance) name) refl young is then
    ∙ ap (λ b. fence_changed_at k head.name (cond b k.fences (forgotten (fence_placed k.fences head.name fence (series_at k.fences head.name.signature).counts) head.name.signature))) (sym young)

-- ---- a change of a fence that is not old, in the words of the calls
