-- How a table that fits goes on with the calls.
use Rattle.std.proofs.Common.{◌≡◌, ℕ, suc, Bool, true, false, ◌&&◌, cond, List, [], ◌∷◌, ◌++◌, Option, Some, None, is_some, refl, sym, ap, ◌∙◌, subst}
use Rattle.std.specs.FinMap as finite
use Rattle.std.specs.Option.{unwrap_or}
use Rattle.std.specs.Ordering.{eq_by_cmp, is_eq, nat_cmp}
use Rattle.std.specs.Cmp.{Equal-is, nat_cmp_total}
use Rattle.std.specs.FinMap.{nat_cmp-IsAntisymmetric}
use Rattle.std.proofs.lemmas.Bool.{false≢true}
use Rattle.std.proofs.lemmas.Cmp.{tied_itself}
use Rattle.pmg_value.specs.Signatures.{Signature, FenceName}
use Rattle.pmg_value.specs.declared.process.Proc.{Proc}
use Rattle.pmg_value.proofs.ProcessOrder.{procs_total, exact_procs}
use Rattle.pmg_scope.specs.Scripts.{Call, Script, has_end, commits}
use Rattle.pmg_scope.proofs.ScriptLaws.{open_commits}
use Rattle.pmg_value.specs.Process.{proc_cmp}
use Rattle.pmg_frame.specs.FenceOrder.{signature_cmp}
use Rattle.pmg_frame.specs.Fences.{Header}
use Rattle.pmg_frame.specs.declared.local.Local.{Local}
use Rattle.pmg_jobinfo.specs.Jobs.{Jobs, home_of}
use Rattle.pmg_fence.specs.Codes.{Headers}
use Rattle.pmg_fence.specs.Entering.{same_proc, same_signature, enters, header_of, level_before, level_at_end}
use Rattle.pmg_fence.specs.Tables.{Numbers, Fence, Series, Fences, no_fence, no_fences, no_series, series_at, has_name, is_old, fence_at, count_of}
use Rattle.pmg_fence.specs.Changes.{fence_placed, with_counts, forgotten, next_name, counts_entered, noted_entry, ended_by, fence_entered, fence_told, first_locals}
use Rattle.pmg_fence.specs.Rules.{FitsFences, FitsTable, Scripts, Grows, with_call, NewFits, PutFits, CommitFits, EnterFits, EndFits, OthersFit, LearnFits, HeaderFits}
use Rattle.pmg_fence.proofs.EntryLemmas.{Idle, puts, commits_now, ends_now, proc_itself, has_end_next, enters_enter, enters_idle, level_idle, level_entered, level_other, no_end}
use Rattle.pmg_fence.proofs.HeaderLemmas.{by_proc}
use Rattle.pmg_fence.proofs.LineLemmas.{append_empty}
use Rattle.pmg_fence.proofs.FitLemmas.{header_stays}
use Rattle.pmg_fence.proofs.OldLemmas.{apart_names, fence-counts, old-counts, count-counts, ends-counts, fence-forgotten, old-forgotten, count-forgotten, ends-forgotten, header_was}
use Rattle.pmg_fence.proofs.TableLemmas.{same_name, same_instance, signature_exact, name_exact, fence-placed, count-placed, old-placed}
use Rattle.pmg_fence.proofs.Trees.{get_put}

-- ---- scripts with one more call

grows_by : (b : Bool) (s : Script) (call : Call) → (later : Script) × (cond b (s ++ call ∷ []) s ≡ s ++ later)
grows_by true s call = (call ∷ [], refl)
grows_by false s call = ([], sym (append_empty s))

pub call_grows : (scripts : Scripts) (p : Proc) (call : Call) → Grows scripts (with_call scripts p call)
call_grows scripts p call q = grows_by (same_proc q p) (scripts q) call

said_at : (scripts : Scripts) (p : Proc) (call : Call) (t : Fences) (q : Proc)
    → FitsFences (scripts p ++ call ∷ []) t p → (same_proc q p ≡ false → FitsFences (scripts q) t q) → FitsFences (with_call scripts p call q) t q
said_at scripts p call t q one other = by_proc q p
    (λ e. subst (λ r. FitsFences (with_call scripts p call r) t r) (sym e) (subst (λ b. FitsFences (cond b (scripts p ++ call ∷ []) (scripts p)) t p) (sym (proc_itself p)) one))
    (λ e. subst (λ b. FitsFences (cond b (scripts q ++ call ∷ []) (scripts q)) t q) (sym e) (other e))

-- ---- a change that is nothing to a process

same_level : (b : Bool) (x y : Fence) (q : Proc) → (b ≡ true → finite.get x.levels q ≡ finite.get y.levels q) → finite.get (cond b x y).levels q ≡ finite.get y.levels q
same_level true x y q same = same refl
same_level false x y q same = refl

same_count : (b : Bool) (m n : ℕ) → (b ≡ true → m ≡ n) → cond b m n ≡ n
same_count true m n same = same refl
same_count false m n same = refl

pub levels_placed : (t : Fences) (f : FenceName) (fence : Fence) (counts : Numbers) (q : Proc) (x : FenceName)
    → finite.get fence.levels q ≡ finite.get (fence_at t f).levels q → finite.get (fence_at (fence_placed t f fence counts) x).levels q ≡ finite.get (fence_at t x).levels q
levels_placed t f fence counts q x levels =
    ap (λ (y : Fence). finite.get y.levels q) (fence-placed t f fence counts x)
    ∙ same_level (same_name x f) fence (fence_at t x) q (λ e. levels ∙ ap (λ y. finite.get (fence_at t y).levels q) (sym (name_exact x f e)))

pub count_same : (t : Fences) (f : FenceName) (fence : Fence) (counts : Numbers) (g : Signature) (q : Proc) → unwrap_or (finite.get counts q) 0 ≡ count_of t f.signature q
    → count_of (fence_placed t f fence counts) g q ≡ count_of t g q
count_same t f fence counts g q count =
    count-placed t f fence counts g q
    ∙ same_count (same_signature g f.signature) (unwrap_or (finite.get counts q) 0) (count_of t g q) (λ e. count ∙ ap (λ h. count_of t h q) (sym (signature_exact g f.signature e)))

pub placed_fits : (s : Script) (t : Fences) (f : FenceName) (fence : Fence) (counts : Numbers) (q : Proc)
    → finite.get fence.levels q ≡ finite.get (fence_at t f).levels q → unwrap_or (finite.get counts q) 0 ≡ count_of t f.signature q
    → FitsFences s t q → FitsFences s (fence_placed t f fence counts) q
unfolding fence_placed
placed_fits s t f fence counts q levels count fits = record {
  counts = λ g. count_same t f fence counts g q count ∙ fits.counts g;
  levels = λ x young. levels_placed t f fence counts q x levels ∙ fits.levels x (old-placed t f fence counts x young);
  ends = fits.ends;
}

same_headers : (b : Bool) (x y : Fence) → (b ≡ true → x.headers ≡ y.headers) → (cond b x y).headers ≡ y.headers
same_headers true x y same = same refl
same_headers false x y same = refl

pub headers_placed : (t : Fences) (f : FenceName) (fence : Fence) (counts : Numbers) (x : FenceName) → fence.headers ≡ (fence_at t f).headers → (fence_at (fence_placed t f fence counts) x).headers ≡ (fence_at t x).headers
headers_placed t f fence counts x same =
    ap (λ (y : Fence). y.headers) (fence-placed t f fence counts x)
    ∙ same_headers (same_name x f) fence (fence_at t x) (λ e. same ∙ ap (λ y. (fence_at t y).headers) (sym (name_exact x f e)))

pub count_is : (t : Fences) (g : Signature) (q : Proc) → unwrap_or (finite.get (series_at t g).counts q) 0 ≡ count_of t g q
unfolding count_of
count_is t g q = refl

-- ---- what is forgotten, and other counts

-- a table that fits does so where old instances are forgotten
pub forgotten_fits : (s : Script) (t : Fences) (g : Signature) (q : Proc) → FitsFences s t q → FitsFences s (forgotten t g) q
forgotten_fits s t g q fits = record {
  counts = λ h. count-forgotten t g h q ∙ fits.counts h;
  levels = λ x young.
      let was : is_old t x ≡ false = sym (old-forgotten t g x) ∙ young in
      ap (λ (y : Fence). finite.get y.levels q) (fence-forgotten t g x was) ∙ fits.levels x was;
  ends = ap (λ (m : Numbers). finite.get m q) (ends-forgotten t g) ∙ fits.ends;
}

pub table_forgotten : (jobs : Jobs) (node : ℕ) (scripts : Scripts) (t : Fences) (g : Signature) → FitsTable jobs node scripts t → FitsTable jobs node scripts (forgotten t g)
table_forgotten jobs node scripts t g fits = record {
  own = λ q e. forgotten_fits (scripts q) t g q (fits.own q e);
  headers = λ x other ls h. fits.headers x other ls (header_was t g x other ls h);
}

-- counts that are nothing to the process
counted_fits : (s : Script) (t : Fences) (g : Signature) (counts : Numbers) (q : Proc) → unwrap_or (finite.get counts q) 0 ≡ count_of t g q → FitsFences s t q → FitsFences s (with_counts t g counts) q
counted_fits s t g counts q count fits = record {
  counts = λ h. count-counts t g counts h q
      ∙ same_count (same_signature h g) (unwrap_or (finite.get counts q) 0) (count_of t h q) (λ e. count ∙ ap (λ k. count_of t k q) (sym (signature_exact h g e)))
      ∙ fits.counts h;
  levels = λ x young. ap (λ (y : Fence). finite.get y.levels q) (fence-counts t g counts x) ∙ fits.levels x (sym (old-counts t g counts x) ∙ young);
  ends = ap (λ (m : Numbers). finite.get m q) (ends-counts t g counts) ∙ fits.ends;
}

-- ---- a name

pub learn_fits : LearnFits
learn_fits jobs node scripts t f fits = by_old (is_old t f)
  where
    placing : FitsTable jobs node scripts (fence_placed t f (fence_at t f) (series_at t f.signature).counts)
    placing = record {
      own = λ q e. placed_fits (scripts q) t f (fence_at t f) (series_at t f.signature).counts q refl (count_is t f.signature q) (fits.own q e);
      headers = λ x other ls h. fits.headers x other ls (sym (ap (λ m. finite.get m other) (headers_placed t f (fence_at t f) (series_at t f.signature).counts x refl)) ∙ h);
    }

    by_old : (b : Bool) → FitsTable jobs node scripts (cond b t (forgotten (fence_placed t f (fence_at t f) (series_at t f.signature).counts) f.signature))
    by_old true = fits
    by_old false = table_forgotten jobs node scripts (fence_placed t f (fence_at t f) (series_at t f.signature).counts) f.signature placing

-- ---- an entry

pub not_it : (p q : Proc) (m : Numbers) (n : ℕ) → same_proc q p ≡ false → finite.get (finite.insert m p n) q ≡ finite.get m q
not_it p q m n e = finite.get-insert procs_total m p n q ∙ ap (λ b. cond b (Some n) (finite.get m q)) e

its_count : (s : Script) (t : Fences) (p : Proc) (g h : Signature) (b : Bool) → same_signature h g ≡ b → FitsFences s t p
    → cond b (suc (count_of t g p)) (count_of t h p) ≡ cond b (suc (enters s h)) (enters s h)
its_count s t p g h true e fits = ap (λ x. suc (count_of t x p)) (sym (signature_exact h g e)) ∙ ap suc (fits.counts h)
its_count s t p g h false e fits = fits.counts h

apart_by : (s : Script) (t : Fences) (p : Proc) (g : Signature) (x : FenceName) → FitsFences s t p → same_name x (next_name t g p) ≡ false
    → same_signature x.signature g ≡ true → x.instance ≡ suc (enters s x.signature) → ⊥
apart_by s t p g x fits other same number =
    let count : x.instance ≡ suc (count_of t g p) = number ∙ ap suc (sym (fits.counts x.signature) ∙ ap (λ h. count_of t h p) (signature_exact x.signature g same)) in
    let alike : same_instance x.instance (suc (count_of t g p)) ≡ true = ap (λ n. same_instance n (suc (count_of t g p))) count ∙ ap is_eq (tied_itself nat_cmp_total (suc (count_of t g p))) in
    false≢true (sym other ∙ (λ i. same i && alike i))

its_level : (s : Script) (t : Fences) (p : Proc) (g : Signature) (x : FenceName) (b : Bool) → same_name x (next_name t g p) ≡ b → has_end s ≡ false → FitsFences s t p
    → is_old t x ≡ false → finite.get (cond b (fence_entered (fence_at t (next_name t g p)) p (commits s)) (fence_at t x)).levels p ≡ level_before (s ++ Call.enter g ∷ []) x.signature x.instance
its_level s t p g x true e live fits young =
    get_put procs_total exact_procs (fence_at t (next_name t g p)).levels p (commits s)
    ∙ ap Some (open_commits s live) ∙ sym (level_entered s g live)
    ∙ ap (λ n. level_before (s ++ Call.enter g ∷ []) g (suc n)) (sym (fits.counts g))
    ∙ ap (λ (y : FenceName). level_before (s ++ Call.enter g ∷ []) y.signature y.instance) (sym (name_exact x (next_name t g p) e))
its_level s t p g x false e live fits young = fits.levels x young ∙ sym (level_other s g x.signature x.instance live (apart_by s t p g x fits e))

module _ (s : Script) (t : Fences) (p : Proc) (g : Signature) (live : has_end s ≡ false) (fits : FitsFences s t p) where
  counts_then : (h : Signature) → cond (same_signature h g) (unwrap_or (finite.get (counts_entered t g p) p) 0) (count_of t h p) ≡ enters (s ++ Call.enter g ∷ []) h
  counts_then h =
      ap (λ o. cond (same_signature h g) (unwrap_or o 0) (count_of t h p)) (get_put procs_total exact_procs (series_at t g).counts p (suc (count_of t g p)))
      ∙ its_count s t p g h (same_signature h g) refl fits ∙ sym (enters_enter s g h live)

  ends_then : finite.get t.ends p ≡ level_at_end (s ++ Call.enter g ∷ [])
  ends_then = fits.ends ∙ no_end s live ∙ sym (no_end (s ++ Call.enter g ∷ []) (has_end_next s (Call.enter g ∷ []) live))

  -- the process enters a fence that is not old
  placed_entry : FitsFences (s ++ Call.enter g ∷ []) (fence_placed t (next_name t g p) (fence_entered (fence_at t (next_name t g p)) p (commits s)) (counts_entered t g p)) p
  unfolding fence_placed
  placed_entry =
      let f = next_name t g p in
      let fence = fence_entered (fence_at t f) p (commits s) in
      record {
        counts = λ h. count-placed t f fence (counts_entered t g p) h p ∙ counts_then h;
        levels = λ x young. ap (λ (y : Fence). finite.get y.levels p) (fence-placed t f fence (counts_entered t g p) x)
            ∙ its_level s t p g x (same_name x f) refl live fits (old-placed t f fence (counts_entered t g p) x young);
        ends = ends_then;
      }

  -- the entry into an old fence is counted
  counted_entry : is_old t (next_name t g p) ≡ true → FitsFences (s ++ Call.enter g ∷ []) (with_counts t g (counts_entered t g p)) p
  counted_entry old = record {
    counts = λ h. count-counts t g (counts_entered t g p) h p ∙ counts_then h;
    levels = λ x young.
        let was : is_old t x ≡ false = sym (old-counts t g (counts_entered t g p) x) ∙ young in
        ap (λ (y : Fence). finite.get y.levels p) (fence-counts t g (counts_entered t g p) x)
        ∙ fits.levels x was ∙ sym (level_other s g x.signature x.instance live (apart_by s t p g x fits (apart_names t x (next_name t g p) was old)));
    ends = ap (λ (m : Numbers). finite.get m p) (ends-counts t g (counts_entered t g p)) ∙ ends_then;
  }

module _ (jobs : Jobs) (node : ℕ) (scripts : Scripts) (t : Fences) (p : Proc) (g : Signature) (home : home_of jobs p ≡ node) (live : has_end (scripts p) ≡ false) (fits : FitsTable jobs node scripts t) where
  abbrev grown : Scripts
  grown = with_call scripts p (Call.enter g)

  -- to each other process the counts are what they were
  other_count : (q : Proc) → same_proc q p ≡ false → unwrap_or (finite.get (counts_entered t g p) q) 0 ≡ count_of t g q
  other_count q other = ap (λ o. unwrap_or o 0) (not_it p q (series_at t g).counts (suc (count_of t g p)) other) ∙ count_is t g q

  grown_header : (x : FenceName) (other : ℕ) (ls : List Local) → header_of jobs scripts x other ≡ Some ls → header_of jobs grown x other ≡ Some ls
  grown_header x other ls = header_stays jobs scripts grown x other ls (call_grows scripts p (Call.enter g))

  entry_placed : FitsTable jobs node grown (fence_placed t (next_name t g p) (fence_entered (fence_at t (next_name t g p)) p (commits (scripts p))) (counts_entered t g p))
  entry_placed =
      let f = next_name t g p in
      let level = commits (scripts p) in
      let fence = fence_entered (fence_at t f) p level in
      record {
        own = λ q e. said_at scripts p (Call.enter g) (fence_placed t f fence (counts_entered t g p)) q (placed_entry (scripts p) t p g live (fits.own p home)) (λ other.
            placed_fits (scripts q) t f fence (counts_entered t g p) q (not_it p q (fence_at t f).levels level other) (other_count q other) (fits.own q e));
        headers = λ x other ls h. grown_header x other ls (fits.headers x other ls (sym (ap (λ m. finite.get m other) (headers_placed t f fence (counts_entered t g p) x refl)) ∙ h));
      }

  entry_counted : is_old t (next_name t g p) ≡ true → FitsTable jobs node grown (with_counts t g (counts_entered t g p))
  entry_counted old = record {
    own = λ q e. said_at scripts p (Call.enter g) (with_counts t g (counts_entered t g p)) q (counted_entry (scripts p) t p g live (fits.own p home) old) (λ other.
        counted_fits (scripts q) t g (counts_entered t g p) q (other_count q other) (fits.own q e));
    headers = λ x other ls h. grown_header x other ls (fits.headers x other ls (sym (ap (λ (y : Fence). finite.get y.headers other) (fence-counts t g (counts_entered t g p) x)) ∙ h));
  }

  entry_noted : FitsTable jobs node grown (noted_entry t g p (commits (scripts p)))
  entry_noted = by_old (is_old t (next_name t g p)) refl
    where
      by_old : (b : Bool) → is_old t (next_name t g p) ≡ b
          → FitsTable jobs node grown (cond b (with_counts t g (counts_entered t g p)) (fence_placed t (next_name t g p) (fence_entered (fence_at t (next_name t g p)) p (commits (scripts p))) (counts_entered t g p)))
      by_old true e = entry_counted e
      by_old false e = entry_placed

pub enter_fits : EnterFits
enter_fits jobs node scripts t p g home live fits =
    table_forgotten jobs node (with_call scripts p (Call.enter g)) (noted_entry t g p (commits (scripts p))) g (entry_noted jobs node scripts t p g home live fits)

-- ---- an end

end_level : (s : Script) → has_end s ≡ false → level_at_end (s ++ Call.terminate ∷ []) ≡ Some (commits (s ++ Call.terminate ∷ []))
end_level s live = ap (λ b. cond b (Some (commits (s ++ Call.terminate ∷ []))) None) (has_end_next s (Call.terminate ∷ []) live)

pub end_fits : EndFits
unfolding fence_at count_of series_at is_old
end_fits jobs node scripts t p home live fits =
    let last = commits (scripts p ++ Call.terminate ∷ []) in
    let mine = fits.own p home in
    let left : FitsFences (scripts p ++ Call.terminate ∷ []) (ended_by t p last) p = record {
      counts = λ g. mine.counts g ∙ sym (enters_idle (scripts p) Call.terminate g ends_now);
      levels = λ f young. mine.levels f young ∙ sym (level_idle (scripts p) Call.terminate f.signature f.instance ends_now);
      ends = get_put procs_total exact_procs t.ends p last ∙ sym (end_level (scripts p) live);
    } in
    record {
      own = λ q e. said_at scripts p Call.terminate (ended_by t p last) q left (λ other.
          let its = fits.own q e in
          record { counts = its.counts; levels = its.levels; ends = not_it p q t.ends last other ∙ its.ends });
      headers = λ x other ls h. header_stays jobs scripts (with_call scripts p Call.terminate) x other ls (call_grows scripts p Call.terminate) (fits.headers x other ls h);
    }

-- ---- calls that are nothing to fences, and those of other nodes

idle_fits : (s : Script) (t : Fences) (p : Proc) (call : Call) → Idle call → has_end s ≡ false → has_end (call ∷ []) ≡ false → FitsFences s t p → FitsFences (s ++ call ∷ []) t p
idle_fits s t p call idle live open_still fits = record {
  counts = λ g. fits.counts g ∙ sym (enters_idle s call g idle);
  levels = λ f young. fits.levels f young ∙ sym (level_idle s call f.signature f.instance idle);
  ends = fits.ends ∙ no_end s live ∙ sym (no_end (s ++ call ∷ []) (has_end_next s (call ∷ []) live ∙ open_still));
}

said_fits : (jobs : Jobs) (node : ℕ) (scripts : Scripts) (t : Fences) (p : Proc) (call : Call) → (home_of jobs p ≡ node → FitsFences (scripts p ++ call ∷ []) t p)
    → FitsTable jobs node scripts t → FitsTable jobs node (with_call scripts p call) t
said_fits jobs node scripts t p call one fits = record {
  own = λ q e. by_proc q p
      (λ same. subst (λ r. FitsFences (with_call scripts p call r) t r) (sym same)
      (subst (λ b. FitsFences (cond b (scripts p ++ call ∷ []) (scripts p)) t p) (sym (proc_itself p)) (one (ap (home_of jobs) (sym same) ∙ e))))
      (λ other. subst (λ b. FitsFences (cond b (scripts q ++ call ∷ []) (scripts q)) t q) (sym other) (fits.own q e));
  headers = λ x other ls h. header_stays jobs scripts (with_call scripts p call) x other ls (call_grows scripts p call) (fits.headers x other ls h);
}

pub put_fits : PutFits
put_fits jobs node scripts t p scope key value live fits =
    said_fits jobs node scripts t p (Call.put scope key value) (λ home. idle_fits (scripts p) t p (Call.put scope key value) (puts scope key value) live refl (fits.own p home)) fits

pub commit_fits : CommitFits
commit_fits jobs node scripts t p live fits = said_fits jobs node scripts t p Call.commit (λ home. idle_fits (scripts p) t p Call.commit commits_now live refl (fits.own p home)) fits

pub others_fit : OthersFit
others_fit jobs node scripts t p call away fits = said_fits jobs node scripts t p call (λ home. absurd (away home)) fits

-- ---- a new table

pub no_names : (f : FenceName) → has_name no_fences f ≡ false
unfolding has_name series_at
no_names f =
    ap (λ (o : Option Series). is_some (finite.get (unwrap_or o no_series).fences f.instance)) (finite.get-empty signature_cmp f.signature)
    ∙ ap (λ (o : Option Fence). is_some o) (finite.get-empty nat_cmp f.instance)

pub new_fence : (f : FenceName) → fence_at no_fences f ≡ no_fence
unfolding fence_at series_at
new_fence f =
    ap (λ (o : Option Series). unwrap_or (finite.get (unwrap_or o no_series).fences f.instance) no_fence) (finite.get-empty signature_cmp f.signature)
    ∙ ap (λ (o : Option Fence). unwrap_or o no_fence) (finite.get-empty nat_cmp f.instance)

pub no_counts : (g : Signature) (p : Proc) → count_of no_fences g p ≡ 0
unfolding count_of series_at
no_counts g p =
    ap (λ (o : Option Series). unwrap_or (finite.get (unwrap_or o no_series).counts p) 0) (finite.get-empty signature_cmp g)
    ∙ ap (λ (o : Option ℕ). unwrap_or o 0) (finite.get-empty proc_cmp p)

pub new_fits : NewFits
unfolding level_before
new_fits jobs node = record {
  own = λ p e. record {
    counts = λ g. no_counts g p;
    levels = λ f young. ap (λ (x : Fence). finite.get x.levels p) (new_fence f) ∙ finite.get-empty proc_cmp p;
    ends = finite.get-empty proc_cmp p;
  };
  headers = λ f other ls h. absurd (false≢true (ap is_some (sym (ap (λ (x : Fence). finite.get x.headers other) (new_fence f) ∙ finite.get-empty nat_cmp other) ∙ h)));
}

-- ---- a header

module _ (jobs : Jobs) (scripts : Scripts) (f : FenceName) (node : ℕ) (locals : List Local) (headers : Headers)
    (all : (m : ℕ) (ls : List Local) → finite.get headers m ≡ Some ls → header_of jobs scripts f m ≡ Some ls)
    (its : header_of jobs scripts f node ≡ Some locals) where
  first_is : (o : Option (List Local)) (ls : List Local) → finite.get headers node ≡ o → Some (first_locals o locals) ≡ Some ls → header_of jobs scripts f node ≡ Some ls
  first_is None ls e is = its ∙ is
  first_is (Some first) ls e is = all node first e ∙ is

  told_by_node : (m : ℕ) (ls : List Local) (b : Bool) → eq_by_cmp nat_cmp m node ≡ b → cond b (Some (first_locals (finite.get headers node) locals)) (finite.get headers m) ≡ Some ls → header_of jobs scripts f m ≡ Some ls
  told_by_node m ls true e is = subst (λ k. header_of jobs scripts f k ≡ Some ls) (sym (nat_cmp-IsAntisymmetric m node ((Equal-is _).0 e))) (first_is (finite.get headers node) ls refl is)
  told_by_node m ls false e is = all m ls is

  told_headers : (m : ℕ) (ls : List Local) → finite.get (finite.insert headers node (first_locals (finite.get headers node) locals)) m ≡ Some ls → header_of jobs scripts f m ≡ Some ls
  told_headers m ls found = told_by_node m ls (eq_by_cmp nat_cmp m node) refl (sym (finite.get-insert nat_cmp_total headers node (first_locals (finite.get headers node) locals) m) ∙ found)

told_by_name : (jobs : Jobs) (node : ℕ) (scripts : Scripts) (t : Fences) (h : Header) → header_of jobs scripts h.name h.node ≡ Some h.locals → FitsTable jobs node scripts t
    → (x : FenceName) (other : ℕ) (ls : List Local) (b : Bool) → same_name x h.name ≡ b
    → finite.get (cond b (fence_told (fence_at t h.name) h.node h.locals) (fence_at t x)).headers other ≡ Some ls → header_of jobs scripts x other ≡ Some ls
told_by_name jobs node scripts t h its fits x other ls true e is =
    subst (λ y. header_of jobs scripts y other ≡ Some ls) (sym (name_exact x h.name e))
    (told_headers jobs scripts h.name h.node h.locals (fence_at t h.name).headers (fits.headers h.name) its other ls is)
told_by_name jobs node scripts t h its fits x other ls false e is = fits.headers x other ls is

-- what is known of the header's fence then
abbrev told_then : Fences → Header → Fence
told_then t h = fence_told (fence_at t h.name) h.node h.locals

pub header_fits : HeaderFits
header_fits jobs node scripts t h its fits = by_old (is_old t h.name)
  where
    placing : FitsTable jobs node scripts (fence_placed t h.name (told_then t h) (series_at t h.name.signature).counts)
    placing = record {
      own = λ q e. placed_fits (scripts q) t h.name (told_then t h) (series_at t h.name.signature).counts q refl (count_is t h.name.signature q) (fits.own q e);
      headers = λ x other ls found. told_by_name jobs node scripts t h its fits x other ls (same_name x h.name) refl
          (sym (ap (λ (y : Fence). finite.get y.headers other) (fence-placed t h.name (told_then t h) (series_at t h.name.signature).counts x)) ∙ found);
    }

    by_old : (b : Bool) → FitsTable jobs node scripts (cond b t (forgotten (fence_placed t h.name (told_then t h) (series_at t h.name.signature).counts) h.name.signature))
    by_old true = fits
    by_old false = table_forgotten jobs node scripts (fence_placed t h.name (told_then t h) (series_at t h.name.signature).counts) h.name.signature placing
