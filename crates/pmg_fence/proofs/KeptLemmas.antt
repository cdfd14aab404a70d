-- What a table keeps beside stays right.
use Rattle.std.proofs.Common.{◌≡◌, Bor, ℕ, Bool, true, false, cond, List, [], ◌∷◌, ◌++◌, map, Option, Some, None, is_some, inl, inr, refl, sym, ap, ◌∙◌, subst}
use Rattle.std.specs.FinMap as finite
use Rattle.std.specs.FinSet as set
use Rattle.std.specs.List.{flat_map}
use Rattle.std.specs.List.Sorted.{IsStrictlySortedBy}
use Rattle.std.specs.Map.{keys_of}
use Rattle.std.proofs.lemmas.List.Concat.{flat_map-append}
use Rattle.std.specs.Option.{option_map, unwrap_or}
use Rattle.std.specs.Ordering.{nat_cmp}
use Rattle.std.proofs.lemmas.Bool.{false≢true}
use Rattle.pmg_value.specs.Process.{proc_cmp}
use Rattle.pmg_value.specs.Signatures.{Signature, FenceName}
use Rattle.pmg_value.specs.declared.process.Proc.{Proc}
use Rattle.pmg_value.proofs.ProcessOrder.{procs_total}
use Rattle.pmg_value.specs.Lists.{In}
use Rattle.pmg_value.proofs.RowLemmas.{entries_of_nothing, insert_same}
use Rattle.pmg_frame.specs.FenceOrder.{signature_cmp, signature_total}
use Rattle.pmg_frame.proofs.FenceOrderLemmas.{signatures_exact}
use Rattle.pmg_frame.specs.Fences.{Header, is_instance, is_level}
use Rattle.pmg_frame.specs.declared.local.Local.{Local}
use Rattle.pmg_jobinfo.specs.Jobs.{Jobs}
use Rattle.pmg_fence.specs.declared.change.Change.{Change}
use Rattle.pmg_fence.specs.declared.change.Change.TheVariants as changes
use Rattle.pmg_fence.specs.Entering.{same_proc, same_signature, locals_of, told_locals}
use Rattle.pmg_fence.specs.Tables.{Numbers, Fence, Series, Fences, no_fences, no_series, names_of, fence_of, series_at, has_name, is_old, fence_at, entry_at, own_header}
use Rattle.pmg_fence.specs.Codes.{AllSeries, Known, Owns, Signatures}
use Rattle.pmg_value.specs.Rows as rows
use Rattle.pmg_fence.specs.Changes.{fence_placed, with_counts, series_kept, forgotten, with_fences, changed, ended_by, present, newly}
use Rattle.pmg_fence.specs.Kept.{known_of, own_of, instead, ended_told, series_in, series_told, HasSignaturesOf, fence_changed, counts_noted, newly_told, changed_with, IsKept, CanChange}
use Rattle.pmg_fence.proofs.EndLemmas.{newly_same, names_in}
use Rattle.pmg_fence.proofs.IndexLemmas.{brought_alike, keys_rise, each_row}
use Rattle.pmg_fence.proofs.HeaderLemmas.{by_proc, told_alike}
use Rattle.pmg_fence.proofs.OldLemmas.{series_then, fence-counts, name-counts, ends-counts, name_was, level_was, ends-forgotten}
use Rattle.pmg_fence.proofs.StepLemmas.{new_fence, no_names}
use Rattle.pmg_fence.proofs.TableLemmas.{same_name, name_exact, series_placed, fence-placed, name-placed, ends-placed, signature_exact}
use Rattle.pmg_fence.proofs.Trees.{get_put}

nothing : {A : Type 0} (x : A) → None ≡ Some x → ⊥
nothing x e = cc

-- ---- own participants

own_at_other : (b : Bool) (k : Known) (g h : Signature) (own ps : List Proc) (o : Option (List Proc)) → own ≡ own_of k g → same_signature h g ≡ b → ((qs : List Proc) → o ≡ Some qs → qs ≡ own_of k h)
    → cond b (Some own) o ≡ Some ps → ps ≡ own_of k h
own_at_other true k g h own ps o is e others found = let same : own ≡ ps = cc in sym same ∙ is ∙ ap (own_of k) (sym (signature_exact h g e))
own_at_other false k g h own ps o is e others found = others ps found

there_still : (b : Bool) (own : List Proc) (o : Option (List Proc)) → is_some o ≡ true → is_some (cond b (Some own) o) ≡ true
there_still true own o there = refl
there_still false own o there = there

pub kept_own : (k : Known) (owns new : Owns) (g : Signature) → IsKept k owns → new ≡ finite.insert owns g (own_of k g) → IsKept k new
kept_own k owns new g kept now = record {
  own = λ h ps e. own_at_other (same_signature h g) k g h (own_of k g) ps (finite.get owns h) refl refl (kept.own h)
      (sym (finite.get-insert signature_total owns g (own_of k g) h) ∙ ap (λ (m : Owns). finite.get m h) (sym now) ∙ e);
  held = λ h there. ap (λ (m : Owns). is_some (finite.get m h)) now ∙ ap is_some (finite.get-insert signature_total owns g (own_of k g) h)
      ∙ there_still (same_signature h g) (own_of k g) (finite.get owns h) (kept.held h there);
  names = kept.names;
  levels = kept.levels;
  ends = kept.ends;
}

-- whatever headers wait
pub kept_waiting : (k : Known) (owns : Owns) (waiting : List Header) → IsKept k owns → IsKept (known_of k.jobs k.node k.fences.series k.fences.ends waiting) owns
kept_waiting k owns waiting kept = record {
  own = kept.own;
  held = kept.held;
  names = kept.names;
  levels = kept.levels;
  ends = kept.ends;
}

-- those of the signature are there then
pub own_there : (k : Known) (owns new : Owns) (g : Signature) → new ≡ finite.insert owns g (own_of k g) → is_some (finite.get new g) ≡ true
own_there k owns new g now = ap (λ (m : Owns). is_some (finite.get m g)) now ∙ ap is_some (get_put signature_total signatures_exact owns g (own_of k g))

-- ---- a change of a fence

named_by : (b : Bool) (t : Fences) (x f : FenceName) → same_name x f ≡ b → is_instance f.instance ≡ true → (has_name t x ≡ true → is_instance x.instance ≡ true) → cond b true (has_name t x) ≡ true → is_instance x.instance ≡ true
named_by true t x f e number others there = ap (λ (y : FenceName). is_instance y.instance) (name_exact x f e) ∙ number
named_by false t x f e number others there = others there

leveled_by : (b : Bool) (x y : Fence) (p : Proc) (n : ℕ) → ((m : ℕ) → finite.get x.levels p ≡ Some m → is_level m ≡ true) → ((m : ℕ) → finite.get y.levels p ≡ Some m → is_level m ≡ true)
    → finite.get (cond b x y).levels p ≡ Some n → is_level n ≡ true
leveled_by true x y p n one other e = one n e
leveled_by false x y p n one other e = other n e

entered_level : (b : Bool) (level n : ℕ) (o : Option ℕ) → is_level level ≡ true → (o ≡ Some n → is_level n ≡ true) → cond b (Some level) o ≡ Some n → is_level n ≡ true
entered_level true level n o small others e = let same : level ≡ n = cc in ap is_level (sym same) ∙ small
entered_level false level n o small others e = others e

-- an entry is at a level
abbrev pub HasLevel : Change → Type 0
HasLevel changes.Learned = Unit {0}
HasLevel (changes.Entered p level) = is_level level ≡ true
HasLevel (changes.Told h) = Unit {0}

changed_level : (fence : Fence) (change : Change) (p : Proc) (n : ℕ) → HasLevel change → ((m : ℕ) → finite.get fence.levels p ≡ Some m → is_level m ≡ true)
    → finite.get (fence_changed fence change).levels p ≡ Some n → is_level n ≡ true
changed_level fence changes.Learned p n can others e = others n e
changed_level fence (changes.Entered q level) p n can others e =
    entered_level (same_proc p q) level n (finite.get fence.levels p) can (others n) (sym (finite.get-insert procs_total fence.levels q level p) ∙ e)
changed_level fence (changes.Told h) p n can others e = others n e

can_level : (t : Fences) (f : FenceName) (change : Change) → CanChange t f change → HasLevel change
can_level t f changes.Learned can = tt
can_level t f (changes.Entered q level) can = can.0
can_level t f (changes.Told h) can = tt

held_by : (b : Bool) (owns : Owns) (h g : Signature) (o : Option Series) (x : Series) → same_signature h g ≡ b → is_some (finite.get owns g) ≡ true → (is_some o ≡ true → is_some (finite.get owns h) ≡ true)
    → is_some (cond b (Some x) o) ≡ true → is_some (finite.get owns h) ≡ true
held_by true owns h g o x e own others there = ap (λ (q : Signature). is_some (finite.get owns q)) (signature_exact h g e) ∙ own
held_by false owns h g o x e own others there = others there

held_inserted : (t : Fences) (owns : Owns) (g : Signature) (x : Series) (h : Signature) → is_some (finite.get owns g) ≡ true
    → (is_some (finite.get t.series h) ≡ true → is_some (finite.get owns h) ≡ true) → is_some (finite.get (finite.insert t.series g x) h) ≡ true → is_some (finite.get owns h) ≡ true
held_inserted t owns g x h own others there =
    held_by (same_signature h g) owns h g (finite.get t.series h) x refl own others (ap is_some (sym (finite.get-insert signature_total t.series g x h)) ∙ there)

held_placed : (t : Fences) (owns : Owns) (f : FenceName) (fence : Fence) (counts : Numbers) (h : Signature) → is_some (finite.get owns f.signature) ≡ true
    → (is_some (finite.get t.series h) ≡ true → is_some (finite.get owns h) ≡ true) → is_some (finite.get (fence_placed t f fence counts).series h) ≡ true → is_some (finite.get owns h) ≡ true
unfolding fence_placed
held_placed t owns f fence counts h = held_inserted t owns f.signature (series_placed t f fence counts) h

held_counts : (t : Fences) (owns : Owns) (g : Signature) (counts : Numbers) (h : Signature) → is_some (finite.get owns g) ≡ true
    → (is_some (finite.get t.series h) ≡ true → is_some (finite.get owns h) ≡ true) → is_some (finite.get (with_counts t g counts).series h) ≡ true → is_some (finite.get owns h) ≡ true
unfolding with_counts
held_counts t owns g counts h = held_inserted t owns g (series_then t g counts) h

module _ (k : Known) (owns : Owns) (f : FenceName) (change : Change) (l : Option Local) (kept : IsKept k owns) (own : is_some (finite.get owns f.signature) ≡ true) (number : is_instance f.instance ≡ true) (can : CanChange k.fences f change) where
  abbrev fence_then : Fence
  fence_then = fence_changed (fence_at k.fences f) change

  abbrev counts_then : Numbers
  counts_then = counts_noted k.fences f change

  abbrev waiting_then : List Header
  waiting_then = k.waiting ++ newly_told k f l

  level_kept : (x : FenceName) (p : Proc) (n : ℕ) → finite.get (fence_at (fence_placed k.fences f fence_then counts_then) x).levels p ≡ Some n → is_level n ≡ true
  level_kept x p n e =
      leveled_by (same_name x f) fence_then (fence_at k.fences x) p n (λ m. changed_level (fence_at k.fences f) change p m (can_level k.fences f change can) (kept.levels f p)) (kept.levels x p)
      (ap (λ (y : Fence). finite.get y.levels p) (sym (fence-placed k.fences f fence_then counts_then x)) ∙ e)

  placed_kept : IsKept (record { jobs = k.jobs; node = k.node; fences = fence_placed k.fences f fence_then counts_then; waiting = waiting_then }) owns
  placed_kept = record {
    own = kept.own;
    held = λ h. held_placed k.fences owns f fence_then counts_then h own (kept.held h);
    names = λ x e. named_by (same_name x f) k.fences x f refl number (kept.names x) (sym (name-placed k.fences f fence_then counts_then x) ∙ e);
    levels = level_kept;
    ends = λ p n e. kept.ends p n (sym (ap (λ (m : Numbers). finite.get m p) (ends-placed k.fences f fence_then counts_then)) ∙ e);
  }

  counted_kept : IsKept (record { jobs = k.jobs; node = k.node; fences = with_counts k.fences f.signature counts_then; waiting = waiting_then }) owns
  counted_kept = record {
    own = kept.own;
    held = λ h. held_counts k.fences owns f.signature counts_then h own (kept.held h);
    names = λ x e. kept.names x (sym (name-counts k.fences f.signature counts_then x) ∙ e);
    levels = λ x p n e. kept.levels x p n (sym (ap (λ (y : Fence). finite.get y.levels p) (fence-counts k.fences f.signature counts_then x)) ∙ e);
    ends = λ p n e. kept.ends p n (sym (ap (λ (m : Numbers). finite.get m p) (ends-counts k.fences f.signature counts_then)) ∙ e);
  }

  pub kept_changed : IsKept (changed_with k f change l) owns
  kept_changed = by_old (is_old k.fences f)
    where
      by_old : (b : Bool) → IsKept (record { jobs = k.jobs; node = k.node; fences = cond b (with_counts k.fences f.signature counts_then) (fence_placed k.fences f fence_then counts_then); waiting = waiting_then }) owns
      by_old true = counted_kept
      by_old false = placed_kept

-- ---- what is forgotten

held_before : (t : Fences) (g h : Signature) → is_some (finite.get (forgotten t g).series h) ≡ true → is_some (finite.get t.series h) ≡ true
unfolding forgotten
held_before t g h = by_there (finite.get t.series g) refl
  where
    by_signature : (s : Series) → finite.get t.series g ≡ Some s → (b : Bool) → same_signature h g ≡ b → is_some (cond b (Some (series_kept (series_at t g))) (finite.get t.series h)) ≡ true → is_some (finite.get t.series h) ≡ true
    by_signature s is true same e = ap (λ x. is_some (finite.get t.series x)) (signature_exact h g same) ∙ ap (λ (o : Option Series). is_some o) is
    by_signature s is false same e = e

    by_there : (o : Option Series) → finite.get t.series g ≡ o → is_some (finite.get (cond (is_some o) (finite.insert t.series g (series_kept (series_at t g))) t.series) h) ≡ true → is_some (finite.get t.series h) ≡ true
    by_there (Some s) is there = by_signature s is (same_signature h g) refl (sym (ap (λ (o : Option Series). is_some o) (finite.get-insert signature_total t.series g (series_kept (series_at t g)) h)) ∙ there)
    by_there None is there = there

pub kept_forgotten : (k : Known) (owns : Owns) (g : Signature) → IsKept k owns → IsKept (with_fences k (forgotten k.fences g)) owns
kept_forgotten k owns g kept = record {
  own = kept.own;
  held = λ h there. kept.held h (held_before k.fences g h there);
  names = λ f e. kept.names f (name_was k.fences g f e);
  levels = λ f p n e. kept.levels f p n (level_was k.fences g f p n e);
  ends = λ p n e. kept.ends p n (sym (ap (λ (m : Numbers). finite.get m p) (ends-forgotten k.fences g)) ∙ e);
}

-- the table that is kept then
pub forget_done : (k : Known) (g : Signature) (jobs : Jobs) (node : ℕ) (series new : AllSeries) (ends : Numbers) (waiting : List Header) → known_of jobs node series ends waiting ≡ k
    → new ≡ rows.changed_at series g (series_kept (series_in series g)) → known_of jobs node new ends waiting ≡ with_fences k (forgotten k.fences g)
unfolding forgotten series_at
forget_done k g jobs node series new ends waiting view is = (λ i. known_of jobs node (is i) ends waiting) ∙ ap (λ (x : Known). with_fences x (forgotten x.fences g)) view

-- ---- an end

pub kept_ended : (k : Known) (owns : Owns) (p : Proc) (level : ℕ) → IsKept k owns → is_level level ≡ true → IsKept (changed k (ended_by k.fences p level)) owns
unfolding has_name fence_at series_at
kept_ended k owns p level kept small = record {
  own = kept.own;
  held = kept.held;
  names = kept.names;
  levels = kept.levels;
  ends = λ q n e. entered_level (same_proc q p) level n (finite.get k.fences.ends q) small (kept.ends q n) (sym (finite.get-insert procs_total k.fences.ends p level q) ∙ e);
}

-- ---- a new table

pub kept_new : (k : Known) (owns : Owns) → k.fences ≡ no_fences → owns ≡ finite.empty → IsKept k owns
kept_new k owns none nobody = record {
  own = λ g ps e. absurd (nothing ps (sym (ap (λ (m : Owns). finite.get m g) nobody ∙ finite.get-empty signature_cmp g) ∙ e));
  held = λ g there. absurd (false≢true (sym (ap (λ (t : Fences). is_some (finite.get t.series g)) none ∙ ap (λ (o : Option Series). is_some o) (finite.get-empty signature_cmp g)) ∙ there));
  names = λ f e. absurd (false≢true (sym (ap (λ t. has_name t f) none ∙ no_names f) ∙ e));
  levels = λ f p n e. absurd (nothing n (sym (ap (λ t. finite.get (fence_at t f).levels p) none ∙ ap (λ (x : Fence). finite.get x.levels p) (new_fence f) ∙ finite.get-empty proc_cmp p) ∙ e));
  ends = λ p n e. absurd (nothing n (sym (ap (λ (t : Fences). finite.get t.ends p) none ∙ finite.get-empty proc_cmp p) ∙ e));
}

-- ---- what is read of it

some_now : (o : Option (Bor Fence)) → is_some o ≡ is_some (option_map (λ f. f.now) o)
some_now None = refl
some_now (Some x) = refl

-- a fence that is there has the number of an instance
pub instance_there : (k : Known) (owns : Owns) (g : Signature) (i : ℕ) (o : Option (Bor Fence)) → IsKept k owns → option_map (λ f. f.now) o ≡ finite.get (series_at k.fences g).fences i
    → is_some o ≡ true → is_instance i ≡ true
unfolding has_name
instance_there k owns g i o kept is there = kept.names (fence_of g i) (sym (ap is_some is) ∙ sym (some_now o) ∙ there)

-- ---- an end, in the fences of one signature

-- a fence in which it is no own participant
pub ended_other : (k : Known) (l : Local) (f : FenceName) → (In l.proc (own_of k f.signature) → ⊥) → ended_told k l f ≡ []
unfolding locals_of own_header present
ended_other k l f other = by_name (has_name k.fences f) refl (is_some (finite.get (fence_at k.fences f).levels l.proc))
  where
    same : told_locals (instead (Some l) (entry_at k.fences f)) (own_of k f.signature) ≡ told_locals (entry_at k.fences f) (own_of k f.signature)
    same = told_alike _ _ (own_of k f.signature) (λ q i. by_proc q l.proc
        (λ e. absurd (other (subst (λ r. In r (own_of k f.signature)) e i)))
        (λ e. ap (λ b. cond b (Some (record { state = l.state; level = l.level })) (entry_at k.fences f q)) e))

    by_name : (b : Bool) → has_name k.fences f ≡ b → (c : Bool)
        → cond b (cond c [] (newly k.node f (cond b (told_locals (entry_at k.fences f) (own_of k f.signature)) None) (told_locals (instead (Some l) (entry_at k.fences f)) (own_of k f.signature)))) [] ≡ []
    by_name false e c = refl
    by_name true e true = refl
    by_name true e false = ap (newly k.node f (told_locals (entry_at k.fences f) (own_of k f.signature))) same ∙ newly_same k.node f (told_locals (entry_at k.fences f) (own_of k f.signature))

-- of those of others nothing
others_told : (k : Known) (l : Local) (g : Signature) (ns : List ℕ) → (In l.proc (own_of k g) → ⊥) → flat_map (ended_told k l) (map (fence_of g) ns) ≡ []
others_told k l g [] other = refl
others_told k l g (i ∷ ns) other = ap (λ hs. hs ++ flat_map (ended_told k l) (map (fence_of g) ns)) (ended_other k l (fence_of g i) other) ∙ others_told k l g ns other

-- ---- an end, in the fences of all signatures

-- a signature of which no name is there
no_series_told : (k : Known) (l : Local) (g : Signature) → is_some (finite.get k.fences.series g) ≡ false → series_told k l g ≡ []
no_series_told k l g none = by_series (finite.get k.fences.series g) none
  where
    by_series : (o : Option Series) → is_some o ≡ false → flat_map (ended_told k l) (map (fence_of g) (finite.keys (unwrap_or o no_series).fences)) ≡ []
    by_series None e = ap (λ es. flat_map (ended_told k l) (map (fence_of g) (keys_of es))) (entries_of_nothing nat_cmp)
    by_series (Some x) e = absurd cc

-- one of which the process is no own participant
unlisted_told : (k : Known) (owns : Owns) (l : Local) (found : Signatures) (g : Signature) → IsKept k owns → HasSignaturesOf owns l.proc found → set.contains found g ≡ false → series_told k l g ≡ []
unlisted_told k owns l found g kept all none = by_own (finite.get k.fences.series g) refl
  where
    not_own : (o : Option (List Proc)) → finite.get owns g ≡ o → is_some o ≡ true → In l.proc (own_of k g) → ⊥
    not_own (Some ps) e there i = false≢true (sym none ∙ all g ps e (subst (In l.proc) (sym (kept.own g ps e)) i))
    not_own None e there i = absurd cc

    by_own : (o : Option Series) → finite.get k.fences.series g ≡ o → series_told k l g ≡ []
    by_own None e = no_series_told k l g (ap (λ (o : Option Series). is_some o) e)
    by_own (Some x) e = others_told k l g (finite.keys (series_in k.fences.series g).fences) (not_own (finite.get owns g) refl (kept.held g (ap (λ (o : Option Series). is_some o) e)))

-- each row has the series of its signature
row_told : (k : Known) (l : Local) (es : List (Signature × Series)) → ((e : Signature × Series) → In e es → finite.get k.fences.series e.0 ≡ Some e.1)
    → flat_map (ended_told k l) (flat_map names_in es) ≡ flat_map (series_told k l) (keys_of es)
row_told k l [] each = refl
row_told k l (e ∷ es) each =
    flat_map-append (ended_told k l) (names_in e) (flat_map names_in es)
    ∙ (λ i. flat_map (ended_told k l) (map (fence_of e.0) (finite.keys (unwrap_or (sym (each e (inl refl)) i) no_series).fences)) ++ row_told k l es (λ x j. each x (inr j)) i)

-- an end brings what it brings in the fences of the signatures that are listed
pub listed_told : (k : Known) (owns : Owns) (l : Local) (found : Signatures) (gs : List Signature) → IsKept k owns → HasSignaturesOf owns l.proc found
    → set.from_list gs ≡ found → IsStrictlySortedBy signature_cmp gs → flat_map (series_told k l) gs ≡ flat_map (ended_told k l) (names_of k.fences)
listed_told k owns l found gs kept all is rises =
    brought_alike signature_total signatures_exact (series_told k l) gs (finite.keys k.fences.series) rises (keys_rise signature_cmp k.fences.series)
    (λ g none. no_series_told k l g (finite.contains_key-keys k.fences.series g ∙ none))
    (λ g none. unlisted_told k owns l found g kept all (ap (λ (s : Signatures). set.contains s g) (sym is) ∙ set.contains-from_list signature_total gs g ∙ none))
    ∙ sym (row_told k l (finite.entries k.fences.series) (each_row signature_total k.fences.series))

nothing_from : (n : Signature → List Header) (gs : List Signature) → ((g : Signature) → n g ≡ []) → flat_map n gs ≡ []
nothing_from n [] none = refl
nothing_from n (g ∷ gs) none = ap (λ hs. hs ++ flat_map n gs) (none g) ∙ nothing_from n gs none

-- where none is listed, nothing
pub unlisted_news : (k : Known) (owns : Owns) (l : Local) → IsKept k owns → HasSignaturesOf owns l.proc set.empty → [] ≡ flat_map (ended_told k l) (names_of k.fences)
unlisted_news k owns l kept all =
    sym (row_told k l (finite.entries k.fences.series) (each_row signature_total k.fences.series)
    ∙ nothing_from (series_told k l) (finite.keys k.fences.series) (λ g. unlisted_told k owns l set.empty g kept all (set.contains-empty signature_cmp g)))

-- ---- what is read of one signature

pub series_there : (k : Known) (l : Local) (g : Signature) (x : Series) → Some x ≡ finite.get k.fences.series g → flat_map (ended_told k l) (map (fence_of g) (finite.keys x.fences)) ≡ series_told k l g
series_there k l g x e = ap (λ (o : Option Series). flat_map (ended_told k l) (map (fence_of g) (finite.keys (unwrap_or o no_series).fences))) e

pub no_series_there : (k : Known) (l : Local) (g : Signature) → None ≡ finite.get k.fences.series g → series_told k l g ≡ []
no_series_there k l g e = no_series_told k l g (ap (λ (o : Option Series). is_some o) (sym e))

some_own : (o : Option (Bor (List Proc))) → is_some o ≡ true → (ps : Bor (List Proc)) × (o ≡ Some ps)
some_own (Some ps) e = (ps, refl)
some_own None e = absurd cc

-- own participants that are kept already
pub own_kept : (owns : Owns) (g : Signature) (own : List Proc) (found : Option (Bor (List Proc))) → option_map (λ ps. ps.now) found ≡ finite.get owns g → is_some found ≡ true
    → ((ps : List Proc) → finite.get owns g ≡ Some ps → ps ≡ own) → owns ≡ finite.insert owns g own
own_kept owns g own found is there same =
    let kept = some_own found there in
    let row : finite.get owns g ≡ Some kept.0.now = sym is ∙ ap (option_map (λ (ps : Bor (List Proc)). ps.now)) kept.1 in
    sym (insert_same signature_total signatures_exact owns g own (row ∙ ap Some (same kept.0.now row)))
