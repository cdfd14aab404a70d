-- What is left of a table where old instances are forgotten.
use Rattle.std.proofs.Common.{◌≡◌, ◌⊎◌, ℕ, suc, Bool, true, false, ◌&&◌, not, nat_lt, cond, List, [], ◌==◌, Option, Some, None, is_some, inl, inr, refl, sym, ap, ◌∙◌}
use Rattle.std.specs.FinMap as finite
use Rattle.std.specs.FinMap.{nat_cmp-IsAntisymmetric}
use Rattle.std.specs.Cmp.{nat_cmp_total}
use Rattle.std.specs.List.{list_all}
use Rattle.std.specs.Option.{unwrap_or}
use Rattle.std.specs.Ordering.{nat_cmp}
use Rattle.std.proofs.lemmas.Bool.{false≢true}
use Rattle.pmg_value.specs.Process.{proc_cmp}
use Rattle.pmg_value.specs.Signatures.{Signature, FenceName}
use Rattle.pmg_value.specs.declared.process.Proc.{Proc}
use Rattle.pmg_frame.specs.FenceOrder.{signature_total}
use Rattle.pmg_frame.specs.Fences.{participants_of}
use Rattle.pmg_frame.specs.declared.local.Local.{Local}
use Rattle.pmg_jobinfo.specs.Jobs.{Jobs, home_of}
use Rattle.pmg_fence.specs.Codes.{Instances}
use Rattle.pmg_fence.specs.Entering.{same_signature, entry_by, locals_of}
use Rattle.pmg_fence.specs.Tables.{Numbers, Fence, Series, Fences, no_fence, no_series, series_at, has_name, is_old, fence_at, count_of, entry_at, entry_in, own_header, header_at, told_of, is_covered, is_ready, says_gone, gone_by}
use Rattle.pmg_fence.specs.Changes.{fence_placed, with_counts, series_kept, forgotten, with_fence, next_name, fence_entered, counts_entered, noted_entry, entered_by, present, newly, news}
use Rattle.pmg_fence.proofs.EntryLemmas.{signature_itself}
use Rattle.pmg_fence.proofs.HeaderLemmas.{told_alike}
use Rattle.pmg_fence.proofs.ReadLemmas.{all_alike, filter_alike}
use Rattle.pmg_fence.proofs.TableLemmas.{same_name, signature_exact, name_exact, fence-placed, name-placed, old-placed, ends-placed}

unwrap_cond : {A : Type 0} (b : Bool) (x : A) (o : Option A) (d : A) → unwrap_or (cond b (Some x) o) d ≡ cond b x (unwrap_or o d)
unwrap_cond true x o d = refl
unwrap_cond false x o d = refl

nothing : {A : Type 0} (x : A) → None ≡ Some x → ⊥
nothing x e = cc

-- an old fence is not ready
pub never_ready : (jobs : Jobs) (node : ℕ) (t : Fences) (f : FenceName) (level : Proc → ℕ) → is_old t f ≡ true → is_ready jobs node t f level ≡ false
unfolding is_ready
never_ready jobs node t f level e = ap (λ b. not b && list_all (λ q. is_covered f.signature.collect (level q) (told_of jobs node t f q)) (participants_of f)) e

-- so one that is ready is not old
pub ready_young : (jobs : Jobs) (node : ℕ) (t : Fences) (f : FenceName) (level : Proc → ℕ) → is_ready jobs node t f level ≡ true → is_old t f ≡ false
ready_young jobs node t f level ready = by_old (is_old t f) refl
  where
    by_old : (b : Bool) → is_old t f ≡ b → b ≡ false
    by_old true e = absurd (false≢true (sym (never_ready jobs node t f level e) ∙ ready))
    by_old false e = refl

-- a fence that is not old is another one than one that is
pub apart_names : (t : Fences) (x f : FenceName) → is_old t x ≡ false → is_old t f ≡ true → same_name x f ≡ false
apart_names t x f young old = by_name (same_name x f) refl
  where
    by_name : (b : Bool) → same_name x f ≡ b → b ≡ false
    by_name true e = absurd (false≢true (sym young ∙ ap (is_old t) (name_exact x f e) ∙ old))
    by_name false e = refl

-- ---- two tables that know the same of a fence

module _ (jobs : Jobs) (node : ℕ) (t new : Fences) (f : FenceName) (same : fence_at new f ≡ fence_at t f) (ends : new.ends ≡ t.ends) where
  pub entry_alike : (q : Proc) → entry_at new f q ≡ entry_at t f q
  unfolding entry_at
  entry_alike q = λ i. entry_by (finite.get (same i).levels q) (finite.get (ends i) q)

  pub own_alike : own_header jobs node new f ≡ own_header jobs node t f
  unfolding own_header
  own_alike = told_alike (entry_at new f) (entry_at t f) (locals_of jobs f node) (λ q i. entry_alike q)

  pub header_alike : (other : ℕ) → header_at jobs node new f other ≡ header_at jobs node t f other
  unfolding header_at
  header_alike other = λ i. cond (other == node) (own_alike i) (finite.get (same i).headers other)

  pub told_of_alike : (q : Proc) → told_of jobs node new f q ≡ told_of jobs node t f q
  unfolding told_of
  told_of_alike q = ap (entry_in q) (header_alike (home_of jobs q))

  pub gone_alike : gone_by jobs node new f ≡ gone_by jobs node t f
  unfolding gone_by
  gone_alike = filter_alike (λ q. says_gone (told_of jobs node new f q)) (λ q. says_gone (told_of jobs node t f q)) (participants_of f) (λ q i. ap says_gone (told_of_alike q))

  pub ready_alike : (level : Proc → ℕ) → is_old new f ≡ is_old t f → is_ready jobs node new f level ≡ is_ready jobs node t f level
  unfolding is_ready
  ready_alike level old = (λ i. not (old i) && all i)
    where
      all : list_all (λ q. is_covered f.signature.collect (level q) (told_of jobs node new f q)) (participants_of f) ≡ list_all (λ q. is_covered f.signature.collect (level q) (told_of jobs node t f q)) (participants_of f)
      all = all_alike _ _ (participants_of f) (λ q i. ap (is_covered f.signature.collect (level q)) (told_of_alike q))

  pub present_alike : has_name new f ≡ has_name t f → present jobs node new f ≡ present jobs node t f
  unfolding present
  present_alike named = λ i. cond (named i) (own_alike i) None

-- ---- other counts of one signature

module _ (t : Fences) (g : Signature) (counts : Numbers) where
  abbrev pub series_then : Series
  series_then = record { counts = counts; fences = (series_at t g).fences; top = (series_at t g).top }

  pub series-counts : (h : Signature) → series_at (with_counts t g counts) h ≡ cond (same_signature h g) series_then (series_at t h)
  unfolding with_counts series_at
  series-counts h =
      ap (λ o. unwrap_or o no_series) (finite.get-insert signature_total t.series g series_then h)
      ∙ unwrap_cond (same_signature h g) series_then (finite.get t.series h) no_series

  same_fences : (h : Signature) (b : Bool) → same_signature h g ≡ b → (cond b series_then (series_at t h)).fences ≡ (series_at t h).fences
  same_fences h true e = ap (λ x. (series_at t x).fences) (sym (signature_exact h g e))
  same_fences h false e = refl

  same_top : (h : Signature) (b : Bool) → same_signature h g ≡ b → (cond b series_then (series_at t h)).top ≡ (series_at t h).top
  same_top h true e = ap (λ x. (series_at t x).top) (sym (signature_exact h g e))
  same_top h false e = refl

  pub fences-counts : (h : Signature) → (series_at (with_counts t g counts) h).fences ≡ (series_at t h).fences
  fences-counts h = ap (λ (s : Series). s.fences) (series-counts h) ∙ same_fences h (same_signature h g) refl

  pub fence-counts : (x : FenceName) → fence_at (with_counts t g counts) x ≡ fence_at t x
  unfolding fence_at
  fence-counts x = ap (λ (m : Instances). unwrap_or (finite.get m x.instance) no_fence) (fences-counts x.signature)

  pub name-counts : (x : FenceName) → has_name (with_counts t g counts) x ≡ has_name t x
  unfolding has_name
  name-counts x = ap (λ (m : Instances). finite.contains_key m x.instance) (fences-counts x.signature)

  pub old-counts : (x : FenceName) → is_old (with_counts t g counts) x ≡ is_old t x
  unfolding is_old
  old-counts x = ap (nat_lt (suc x.instance)) (ap (λ (s : Series). s.top) (series-counts x.signature) ∙ same_top x.signature (same_signature x.signature g) refl)

  pub count-counts : (h : Signature) (p : Proc) → count_of (with_counts t g counts) h p ≡ cond (same_signature h g) (unwrap_or (finite.get counts p) 0) (count_of t h p)
  unfolding count_of
  count-counts h p = ap (λ (s : Series). unwrap_or (finite.get s.counts p) 0) (series-counts h) ∙ by_test (same_signature h g)
    where
      by_test : (b : Bool) → unwrap_or (finite.get (cond b series_then (series_at t h)).counts p) 0 ≡ cond b (unwrap_or (finite.get counts p) 0) (unwrap_or (finite.get (series_at t h).counts p) 0)
      by_test true = refl
      by_test false = refl

  pub ends-counts : (with_counts t g counts).ends ≡ t.ends
  unfolding with_counts
  ends-counts = refl

-- ---- what is forgotten

kept_at : (s : Series) (i : ℕ) → finite.get (series_kept s).fences i ≡ cond (nat_lt (suc i) s.top) None (finite.get s.fences i)
kept_at s i =
    finite.get-retain_keys s.fences (λ k. not (nat_lt (suc k) s.top)) i (λ k e. ap (λ j. not (nat_lt (suc j) s.top)) (sym (nat_cmp-IsAntisymmetric i k e)))
    ∙ by_test (nat_lt (suc i) s.top)
  where
    by_test : (b : Bool) → cond (not b) (finite.get s.fences i) None ≡ cond b None (finite.get s.fences i)
    by_test true = refl
    by_test false = refl

none_either : {A : Type 0} (b : Bool) (o : Option A) → o ≡ None → cond b None o ≡ o
none_either true o e = sym e
none_either false o e = refl

kept_nothing : series_kept no_series ≡ no_series
kept_nothing =
    ap (λ (m : Instances). record { counts = finite.empty; fences = m; top = 0 })
    (finite.same_map nat_cmp_total nat_cmp-IsAntisymmetric (series_kept no_series).fences finite.empty (λ i. kept_at no_series i ∙ none_either (nat_lt (suc i) 0) (finite.get finite.empty i) (finite.get-empty nat_cmp i)))

module _ (t : Fences) (g : Signature) where
  series_by : (h : Signature) (o : Option Series) → finite.get t.series g ≡ o
      → unwrap_or (finite.get (cond (is_some o) (finite.insert t.series g (series_kept (unwrap_or o no_series))) t.series) h) no_series
      ≡ cond (same_signature h g) (series_kept (unwrap_or o no_series)) (unwrap_or (finite.get t.series h) no_series)
  series_by h (Some s) e =
      ap (λ o. unwrap_or o no_series) (finite.get-insert signature_total t.series g (series_kept s) h)
      ∙ unwrap_cond (same_signature h g) (series_kept s) (finite.get t.series h) no_series
  series_by h None e = by_signature (same_signature h g) refl
    where
      by_signature : (b : Bool) → same_signature h g ≡ b → unwrap_or (finite.get t.series h) no_series ≡ cond b (series_kept no_series) (unwrap_or (finite.get t.series h) no_series)
      by_signature true same = ap (λ x. unwrap_or (finite.get t.series x) no_series) (signature_exact h g same) ∙ ap (λ o. unwrap_or o no_series) e ∙ sym kept_nothing
      by_signature false same = refl

  pub series-forgotten : (h : Signature) → series_at (forgotten t g) h ≡ cond (same_signature h g) (series_kept (series_at t g)) (series_at t h)
  unfolding forgotten series_at
  series-forgotten h = series_by h (finite.get t.series g) refl

  same_counts : (h : Signature) (b : Bool) → same_signature h g ≡ b → (cond b (series_kept (series_at t g)) (series_at t h)).counts ≡ (series_at t h).counts
  same_counts h true e = ap (λ x. (series_at t x).counts) (sym (signature_exact h g e))
  same_counts h false e = refl

  top_stays : (h : Signature) (b : Bool) → same_signature h g ≡ b → (cond b (series_kept (series_at t g)) (series_at t h)).top ≡ (series_at t h).top
  top_stays h true e = ap (λ x. (series_at t x).top) (sym (signature_exact h g e))
  top_stays h false e = refl

  -- the greatest instance stays, and so does what is old
  pub top-forgotten : (h : Signature) → (series_at (forgotten t g) h).top ≡ (series_at t h).top
  top-forgotten h = ap (λ (s : Series). s.top) (series-forgotten h) ∙ top_stays h (same_signature h g) refl

  pub old-forgotten : (x : FenceName) → is_old (forgotten t g) x ≡ is_old t x
  unfolding is_old
  old-forgotten x = ap (nat_lt (suc x.instance)) (top-forgotten x.signature)

  pub count-forgotten : (h : Signature) (p : Proc) → count_of (forgotten t g) h p ≡ count_of t h p
  unfolding count_of
  count-forgotten h p = ap (λ (m : Numbers). unwrap_or (finite.get m p) 0) (ap (λ (s : Series). s.counts) (series-forgotten h) ∙ same_counts h (same_signature h g) refl)

  pub ends-forgotten : (forgotten t g).ends ≡ t.ends
  unfolding forgotten
  ends-forgotten = refl

  -- the fence is forgotten
  abbrev pub is_dropped : FenceName → Bool
  is_dropped x = same_signature x.signature g && is_old t x

  known_by : (x : FenceName) (b : Bool) → same_signature x.signature g ≡ b
      → finite.get (cond b (series_kept (series_at t g)) (series_at t x.signature)).fences x.instance
      ≡ cond (b && is_old t x) None (finite.get (series_at t x.signature).fences x.instance)
  unfolding is_old
  known_by x true e =
      ap (λ h. finite.get (series_kept (series_at t h)).fences x.instance) (sym (signature_exact x.signature g e)) ∙ kept_at (series_at t x.signature) x.instance
  known_by x false e = refl

  pub fences-forgotten : (x : FenceName) → finite.get (series_at (forgotten t g) x.signature).fences x.instance ≡ cond (is_dropped x) None (finite.get (series_at t x.signature).fences x.instance)
  fences-forgotten x = ap (λ (s : Series). finite.get s.fences x.instance) (series-forgotten x.signature) ∙ known_by x (same_signature x.signature g) refl

  pub fence_by_dropped : (x : FenceName) → fence_at (forgotten t g) x ≡ cond (is_dropped x) no_fence (fence_at t x)
  unfolding fence_at
  fence_by_dropped x = ap (λ o. unwrap_or o no_fence) (fences-forgotten x) ∙ by_test (is_dropped x) (finite.get (series_at t x.signature).fences x.instance)
    where
      by_test : (b : Bool) (o : Option Fence) → unwrap_or (cond b None o) no_fence ≡ cond b no_fence (unwrap_or o no_fence)
      by_test true o = refl
      by_test false o = refl

  pub name_by_dropped : (x : FenceName) → has_name (forgotten t g) x ≡ cond (is_dropped x) false (has_name t x)
  unfolding has_name
  name_by_dropped x = ap is_some (fences-forgotten x) ∙ by_test (is_dropped x) (finite.get (series_at t x.signature).fences x.instance)
    where
      by_test : (b : Bool) (o : Option Fence) → is_some (cond b None o) ≡ cond b false (is_some o)
      by_test true o = refl
      by_test false o = refl

  not_dropped : (x : FenceName) → is_old t x ≡ false → is_dropped x ≡ false
  not_dropped x e = ap (λ b. same_signature x.signature g && b) e ∙ by_test (same_signature x.signature g)
    where
      by_test : (b : Bool) → (b && false) ≡ false
      by_test true = refl
      by_test false = refl

  -- of a fence that is not old all is known that was
  pub fence-forgotten : (x : FenceName) → is_old t x ≡ false → fence_at (forgotten t g) x ≡ fence_at t x
  fence-forgotten x e = fence_by_dropped x ∙ ap (λ b. cond b no_fence (fence_at t x)) (not_dropped x e)

  pub name-forgotten : (x : FenceName) → is_old t x ≡ false → has_name (forgotten t g) x ≡ has_name t x
  name-forgotten x e = name_by_dropped x ∙ ap (λ b. cond b false (has_name t x)) (not_dropped x e)

  -- an old one of the signature is there no more
  pub name_dropped : (x : FenceName) → x.signature ≡ g → is_old t x ≡ true → has_name (forgotten t g) x ≡ false
  name_dropped x same old =
      name_by_dropped x ∙ (λ i. cond (signature i && old i) false (has_name t x))
    where
      signature : same_signature x.signature g ≡ true
      signature = ap (same_signature x.signature) (sym same) ∙ signature_itself x.signature

  -- no name comes to be there
  pub name_was : (x : FenceName) → has_name (forgotten t g) x ≡ true → has_name t x ≡ true
  name_was x e = by_test (is_dropped x) (sym (name_by_dropped x) ∙ e)
    where
      by_test : (b : Bool) → cond b false (has_name t x) ≡ true → has_name t x ≡ true
      by_test true h = absurd cc
      by_test false h = h

  -- nor any header
  pub header_was : (x : FenceName) (other : ℕ) (ls : List Local) → finite.get (fence_at (forgotten t g) x).headers other ≡ Some ls → finite.get (fence_at t x).headers other ≡ Some ls
  header_was x other ls e = by_test (is_dropped x) (sym (ap (λ (y : Fence). finite.get y.headers other) (fence_by_dropped x)) ∙ e)
    where
      by_test : (b : Bool) → finite.get (cond b no_fence (fence_at t x)).headers other ≡ Some ls → finite.get (fence_at t x).headers other ≡ Some ls
      by_test true h = absurd (nothing ls (sym (finite.get-empty nat_cmp other) ∙ h))
      by_test false h = h

  -- nor the level of an entry
  pub level_was : (x : FenceName) (p : Proc) (n : ℕ) → finite.get (fence_at (forgotten t g) x).levels p ≡ Some n → finite.get (fence_at t x).levels p ≡ Some n
  level_was x p n e = by_test (is_dropped x) (sym (ap (λ (y : Fence). finite.get y.levels p) (fence_by_dropped x)) ∙ e)
    where
      by_test : (b : Bool) → finite.get (cond b no_fence (fence_at t x)).levels p ≡ Some n → finite.get (fence_at t x).levels p ≡ Some n
      by_test true h = absurd (nothing n (sym (finite.get-empty proc_cmp p) ∙ h))
      by_test false h = h

  -- ---- what the node says of a fence that is not old

  module _ (jobs : Jobs) (node : ℕ) (x : FenceName) (young : is_old t x ≡ false) where
    pub header-forgotten : (other : ℕ) → header_at jobs node (forgotten t g) x other ≡ header_at jobs node t x other
    header-forgotten = header_alike jobs node t (forgotten t g) x (fence-forgotten x young) ends-forgotten

    pub gone-forgotten : gone_by jobs node (forgotten t g) x ≡ gone_by jobs node t x
    gone-forgotten = gone_alike jobs node t (forgotten t g) x (fence-forgotten x young) ends-forgotten

    pub present-forgotten : present jobs node (forgotten t g) x ≡ present jobs node t x
    present-forgotten = present_alike jobs node t (forgotten t g) x (fence-forgotten x young) ends-forgotten (name-forgotten x young)

  -- an old fence is not ready, whether it is forgotten or not: so what is forgotten changes nothing of what is ready
  pub ready-forgotten : (jobs : Jobs) (node : ℕ) (x : FenceName) (level : Proc → ℕ) → is_ready jobs node (forgotten t g) x level ≡ is_ready jobs node t x level
  ready-forgotten jobs node x level = by_old (is_old t x) refl
    where
      by_old : (b : Bool) → is_old t x ≡ b → is_ready jobs node (forgotten t g) x level ≡ is_ready jobs node t x level
      by_old true e = never_ready jobs node (forgotten t g) x level (old-forgotten x ∙ e) ∙ sym (never_ready jobs node t x level e)
      by_old false e = ready_alike jobs node t (forgotten t g) x (fence-forgotten x e) ends-forgotten level (old-forgotten x)

-- ---- the news of a fence, where what it made old is forgotten

pub newly_none : (node : ℕ) (f : FenceName) (before now : Option (List Local)) → now ≡ None → newly node f before now ≡ []
newly_none node f None now e = ap (newly node f None) e
newly_none node f (Some ls) now e = refl

-- they are the same where the fence is not old
pub news-forgotten : (jobs : Jobs) (node : ℕ) (old t : Fences) (f : FenceName) (g : Signature) → is_old t f ≡ false → news jobs node old (forgotten t g) f ≡ news jobs node old t f
unfolding news
news-forgotten jobs node old t f g young = ap (newly node f (present jobs node old f)) (present-forgotten t g jobs node f young)

-- and where it is old there are none
pub no_news : (jobs : Jobs) (node : ℕ) (old t : Fences) (f : FenceName) → is_old t f ≡ true → news jobs node old (forgotten t f.signature) f ≡ []
unfolding news present
no_news jobs node old t f e =
    newly_none node f (present jobs node old f) (present jobs node (forgotten t f.signature) f)
    (ap (λ b. cond b (own_header jobs node (forgotten t f.signature) f) None) (name_dropped t f.signature f refl e))

-- ---- what is known of a fence has changed, or an entry is noted

module _ (t : Fences) (f : FenceName) (fence : Fence) where
  abbrev placing : Fences
  placing = fence_placed t f fence (series_at t f.signature).counts

  other_name : (x : FenceName) → is_old t f ≡ true → is_old t x ≡ false → same_name x f ≡ false
  other_name x old young = apart_names t x f young old

  -- what is looked up of a fence that is not old
  look-with : {A : Type 0} (look : Fences → FenceName → A) (now : A) (x : FenceName) → (is_old placing x ≡ false → look (forgotten placing f.signature) x ≡ look placing x)
      → look placing x ≡ cond (same_name x f) now (look t x) → is_old (with_fence t f fence) x ≡ false → look (with_fence t f fence) x ≡ cond (same_name x f) now (look t x)
  look-with look now x stays placed young = by_old (is_old t f) refl young
    where
      by_old : (b : Bool) → is_old t f ≡ b → is_old (cond b t (forgotten placing f.signature)) x ≡ false → look (cond b t (forgotten placing f.signature)) x ≡ cond (same_name x f) now (look t x)
      by_old true old e = ap (λ c. cond c now (look t x)) (sym (other_name x old e))
      by_old false old e = stays (sym (old-forgotten placing f.signature x) ∙ e) ∙ placed

  pub fence-with : (x : FenceName) → is_old (with_fence t f fence) x ≡ false → fence_at (with_fence t f fence) x ≡ cond (same_name x f) fence (fence_at t x)
  fence-with x = look-with fence_at fence x (fence-forgotten placing f.signature x) (fence-placed t f fence (series_at t f.signature).counts x)

  pub name-with : (x : FenceName) → is_old (with_fence t f fence) x ≡ false → has_name (with_fence t f fence) x ≡ cond (same_name x f) true (has_name t x)
  name-with x = look-with has_name true x (name-forgotten placing f.signature x) (name-placed t f fence (series_at t f.signature).counts x)

  -- a name that is there then was there, or is the fence's own
  pub name_with : (x : FenceName) → has_name (with_fence t f fence) x ≡ true → cond (same_name x f) true (has_name t x) ≡ true
  name_with x = by_old (is_old t f)
    where
      or_else : (b c : Bool) → c ≡ true → cond b true c ≡ true
      or_else true c e = refl
      or_else false c e = e

      by_old : (b : Bool) → has_name (cond b t (forgotten placing f.signature)) x ≡ true → cond (same_name x f) true (has_name t x) ≡ true
      by_old true e = or_else (same_name x f) (has_name t x) e
      by_old false e = sym (name-placed t f fence (series_at t f.signature).counts x) ∙ name_was placing f.signature x e

  -- a header that is there then was there, or is one of the fence's
  pub header_with : (x : FenceName) (other : ℕ) (ls : List Local) → finite.get (fence_at (with_fence t f fence) x).headers other ≡ Some ls
      → (finite.get (fence_at t x).headers other ≡ Some ls) ⊎ ((same_name x f ≡ true) × (finite.get fence.headers other ≡ Some ls))
  header_with x other ls = by_old (is_old t f)
    where
      by_name : (b : Bool) → same_name x f ≡ b → finite.get (cond b fence (fence_at t x)).headers other ≡ Some ls
          → (finite.get (fence_at t x).headers other ≡ Some ls) ⊎ ((same_name x f ≡ true) × (finite.get fence.headers other ≡ Some ls))
      by_name true same e = inr (same, e)
      by_name false same e = inl e

      by_old : (b : Bool) → finite.get (fence_at (cond b t (forgotten placing f.signature)) x).headers other ≡ Some ls
          → (finite.get (fence_at t x).headers other ≡ Some ls) ⊎ ((same_name x f ≡ true) × (finite.get fence.headers other ≡ Some ls))
      by_old true e = inl e
      by_old false e = by_name (same_name x f) refl (sym (ap (λ (y : Fence). finite.get y.headers other) (fence-placed t f fence (series_at t f.signature).counts x)) ∙ header_was placing f.signature x other ls e)

  pub ends-with : (with_fence t f fence).ends ≡ t.ends
  ends-with = by_old (is_old t f)
    where
      by_old : (b : Bool) → (cond b t (forgotten placing f.signature)).ends ≡ t.ends
      by_old true = refl
      by_old false = ends-forgotten placing f.signature ∙ ends-placed t f fence (series_at t f.signature).counts

module _ (t : Fences) (g : Signature) (p : Proc) (level : ℕ) where
  abbrev next : FenceName
  next = next_name t g p

  abbrev its : Fence
  its = fence_entered (fence_at t next) p level

  pub old-noted : (x : FenceName) → is_old (noted_entry t g p level) x ≡ false → is_old t x ≡ false
  old-noted x = by_old (is_old t next)
    where
      by_old : (b : Bool) → is_old (cond b (with_counts t g (counts_entered t g p)) (fence_placed t next its (counts_entered t g p))) x ≡ false → is_old t x ≡ false
      by_old true e = sym (old-counts t g (counts_entered t g p) x) ∙ e
      by_old false e = old-placed t next its (counts_entered t g p) x e

  -- what is looked up of a fence that was not old
  look-noted : {A : Type 0} (look : Fences → FenceName → A) (now : A) (x : FenceName) → look (with_counts t g (counts_entered t g p)) x ≡ look t x
      → look (fence_placed t next its (counts_entered t g p)) x ≡ cond (same_name x next) now (look t x) → is_old t x ≡ false → look (noted_entry t g p level) x ≡ cond (same_name x next) now (look t x)
  look-noted look now x counted placed young = by_old (is_old t next) refl
    where
      by_old : (b : Bool) → is_old t next ≡ b → look (cond b (with_counts t g (counts_entered t g p)) (fence_placed t next its (counts_entered t g p))) x ≡ cond (same_name x next) now (look t x)
      by_old true old = counted ∙ ap (λ c. cond c now (look t x)) (sym (apart_names t x next young old))
      by_old false old = placed

  pub fence-noted : (x : FenceName) → is_old t x ≡ false → fence_at (noted_entry t g p level) x ≡ cond (same_name x next) its (fence_at t x)
  fence-noted x = look-noted fence_at its x (fence-counts t g (counts_entered t g p) x) (fence-placed t next its (counts_entered t g p) x)

  pub name-noted : (x : FenceName) → is_old t x ≡ false → has_name (noted_entry t g p level) x ≡ cond (same_name x next) true (has_name t x)
  name-noted x = look-noted has_name true x (name-counts t g (counts_entered t g p) x) (name-placed t next its (counts_entered t g p) x)

  -- the headers are those that were there
  pub headers-noted : (x : FenceName) → (fence_at (noted_entry t g p level) x).headers ≡ (fence_at t x).headers
  headers-noted x = by_old (is_old t next)
    where
      by_name : (b : Bool) → same_name x next ≡ b → (cond b its (fence_at t x)).headers ≡ (fence_at t x).headers
      by_name true e = ap (λ y. (fence_at t y).headers) (sym (name_exact x next e))
      by_name false e = refl

      by_old : (b : Bool) → (fence_at (cond b (with_counts t g (counts_entered t g p)) (fence_placed t next its (counts_entered t g p))) x).headers ≡ (fence_at t x).headers
      by_old true = ap (λ (y : Fence). y.headers) (fence-counts t g (counts_entered t g p) x)
      by_old false = ap (λ (y : Fence). y.headers) (fence-placed t next its (counts_entered t g p) x) ∙ by_name (same_name x next) refl

  pub ends-noted : (noted_entry t g p level).ends ≡ t.ends
  ends-noted = by_old (is_old t next)
    where
      by_old : (b : Bool) → (cond b (with_counts t g (counts_entered t g p)) (fence_placed t next its (counts_entered t g p))).ends ≡ t.ends
      by_old true = ends-counts t g (counts_entered t g p)
      by_old false = ends-placed t next its (counts_entered t g p)

  pub old-entered : (x : FenceName) → is_old (entered_by t g p level) x ≡ false → is_old t x ≡ false
  old-entered x e = old-noted x (sym (old-forgotten (noted_entry t g p level) g x) ∙ e)

  pub fence-entered : (x : FenceName) → is_old (entered_by t g p level) x ≡ false → fence_at (entered_by t g p level) x ≡ cond (same_name x next) its (fence_at t x)
  fence-entered x e = fence-forgotten (noted_entry t g p level) g x (sym (old-forgotten (noted_entry t g p level) g x) ∙ e) ∙ fence-noted x (old-entered x e)

  pub name-entered : (x : FenceName) → is_old (entered_by t g p level) x ≡ false → has_name (entered_by t g p level) x ≡ cond (same_name x next) true (has_name t x)
  name-entered x e = name-forgotten (noted_entry t g p level) g x (sym (old-forgotten (noted_entry t g p level) g x) ∙ e) ∙ name-noted x (old-entered x e)

  -- a name that is there then was there, or is that of the fence that is entered
  pub name_entered : (x : FenceName) → has_name (entered_by t g p level) x ≡ true → cond (same_name x next) true (has_name t x) ≡ true
  name_entered x e = by_old (is_old t next) (name_was (noted_entry t g p level) g x e)
    where
      or_else : (b c : Bool) → c ≡ true → cond b true c ≡ true
      or_else true c h = refl
      or_else false c h = h

      by_old : (b : Bool) → has_name (cond b (with_counts t g (counts_entered t g p)) (fence_placed t next its (counts_entered t g p))) x ≡ true → cond (same_name x next) true (has_name t x) ≡ true
      by_old true h = or_else (same_name x next) (has_name t x) (sym (name-counts t g (counts_entered t g p) x) ∙ h)
      by_old false h = sym (name-placed t next its (counts_entered t g p) x) ∙ h

  pub ends-entered : (entered_by t g p level).ends ≡ t.ends
  ends-entered = ends-forgotten (noted_entry t g p level) g ∙ ends-noted
