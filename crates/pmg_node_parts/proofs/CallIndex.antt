-- The index of calls: it stays one where a call comes, ends or is answered, and lists who waits.
use Rattle.std.proofs.Common.{◌≡◌, ℕ, Bool, true, false, ◌||◌, ◌&&◌, not, cond, List, [], ◌∷◌, ◌++◌, Option, Some, None, is_some, inl, inr, refl, sym, ap, subst, ◌∙◌}
use Rattle.std.specs.Prelude.{◌==◌}
use Rattle.std.specs.FinMap as finite
use Rattle.std.specs.FinSet as set
use Rattle.std.specs.Cmp.{Equal-is}
use Rattle.std.specs.List.{flat_map, list_any}
use Rattle.std.specs.List.Sorted.{IsStrictlySortedBy}
use Rattle.std.specs.Map.{keys_of}
use Rattle.std.specs.Option.{option_map, option_to_list, unwrap_or}
use Rattle.std.specs.Ordering.{eq_by_cmp, is_eq}
use Rattle.std.proofs.lemmas.Bool.{eqb-true, false≢true}
use Rattle.std.proofs.lemmas.Cmp.{tied_itself}
use Rattle.pmg_value.specs.InOrder.{in_order}
use Rattle.pmg_value.specs.Lists.{In}
use Rattle.pmg_value.specs.Process.{proc_cmp}
use Rattle.pmg_value.specs.Signatures.{FenceName}
use Rattle.pmg_value.specs.Rows.{AreRising, changed_at, map_of}
use Rattle.pmg_value.specs.declared.process.Proc.{Proc}
use Rattle.pmg_value.proofs.ListLemmas.{in_from_list_any, list_any_in}
use Rattle.pmg_value.proofs.ProcessOrder.{procs_total, exact_procs}
use Rattle.pmg_value.proofs.RowLemmas.{at_key, get-map_of, entries-map_of}
use Rattle.pmg_value.proofs.SetOrder.{in_order-from_list}
use Rattle.pmg_commit.proofs.HonestLaws.{some_is}
use Rattle.pmg_frame.specs.FenceOrder.{name_cmp, name_total}
use Rattle.pmg_frame.proofs.FenceOrderLemmas.{names_exact}
use Rattle.pmg_dmodex.specs.Parked.{Askers, Parked, askers_of, awaited, parked_on, parking, unparked}
use Rattle.pmg_fence.specs.Entering.{same_proc}
use Rattle.pmg_fence.proofs.EntryLemmas.{proc_itself}
use Rattle.pmg_fence.proofs.IndexLemmas.{each_row, keys_rise}
use Rattle.pmg_node_parts.specs.Calls.{standing_by, key_on, all_parked_on, is_waiting_in, waits_in, all_waiting_in, all_waited}
use Rattle.pmg_node_parts.specs.Codes.{Calls}
use Rattle.pmg_node_parts.specs.Waiters.{Procs, Waiters, waiters_in, waiting_too, left_in, waiting_less}
use Rattle.pmg_node_parts.specs.Waiting.{IsWaitingIndex, with_waiter, without_call, awaits, waits_for}
use Rattle.pmg_node_parts.specs.declared.call.Completion.{Completion}
use Rattle.pmg_node_parts.specs.declared.call.Completion.TheVariants as settlings
use Rattle.pmg_node_parts.specs.declared.waiting.Waiting.{Waiting}
use Rattle.pmg_node_parts.proofs.CallLemmas.{at_entries}
use Rattle.pmg_node_parts.proofs.PickLemmas.{picked, picks, picks_rise, at_picks, any_key}
use Rattle.pmg_node_model.specs.Choosing.{waited}
use Rattle.pmg_node_model.specs.Holdings.{CallState}
use Rattle.pmg_node_model.proofs.KeptBasics.{entry_listed}
use Rattle.pmg_value.proofs.MadeLists.{in_flat, in_flat_from}

-- ---- one more, one less: of gets

abbrev same_name : FenceName → FenceName → Bool
same_name f g = eq_by_cmp name_cmp f g

name_itself : (f : FenceName) → same_name f f ≡ true
name_itself f = ap is_eq (tied_itself name_total f)

-- what an asker waits for, once one more get is parked
awaited-parking : (w : Parked) (t p : Proc) (k : List ℕ) (q r : Proc) → awaited (parking w t p k) q r ≡ cond (same_proc q t && same_proc r p) (Some k) (awaited w q r)
awaited-parking w t p k q r =
    ap (λ o. finite.get (unwrap_or o finite.empty) r) (finite.get-insert procs_total w t (finite.insert (askers_of w t) p k) q) ∙ by_target (same_proc q t) refl
  where
    by_target : (b : Bool) → same_proc q t ≡ b
        → finite.get (unwrap_or (cond b (Some (finite.insert (askers_of w t) p k)) (finite.get w q)) finite.empty) r ≡ cond (b && same_proc r p) (Some k) (awaited w q r)
    by_target true e =
        finite.get-insert procs_total (askers_of w t) p k r
        ∙ ap (λ s. cond (same_proc r p) (Some k) (awaited w s r)) (sym (exact_procs q t ((Equal-is _).0 e)))
    by_target false e = refl

nothing_of : (b c : Bool) (x : Option (List ℕ)) → ((b && c) ≡ true → x ≡ None) → x ≡ cond (b && c) None x
nothing_of true true x none = none refl
nothing_of true false x none = refl
nothing_of false c x none = refl

both_parts : (b c : Bool) → (b && c) ≡ true → b ≡ true
both_parts true c e = refl
both_parts false c e = e

-- and once a get is parked no longer
awaited-unparked : (w : Parked) (t p q r : Proc) → awaited (unparked w t p) q r ≡ cond (same_proc q t && same_proc r p) None (awaited w q r)
awaited-unparked w t p q r = by_there (finite.get w t) refl
  where
    by_target : (b : Bool) → same_proc q t ≡ b
        → finite.get (unwrap_or (cond b (Some (finite.remove (askers_of w t) p)) (finite.get w q)) finite.empty) r ≡ cond (b && same_proc r p) None (awaited w q r)
    by_target true e =
        finite.get-remove procs_total (askers_of w t) p r
        ∙ ap (λ s. cond (same_proc r p) None (awaited w s r)) (sym (exact_procs q t ((Equal-is _).0 e)))
    by_target false e = refl

    by_there : (o : Option Askers) → finite.get w t ≡ o
        → awaited (cond (is_some o) (finite.insert w t (finite.remove (askers_of w t) p)) w) q r ≡ cond (same_proc q t && same_proc r p) None (awaited w q r)
    by_there (Some askers) there =
        ap (λ o. finite.get (unwrap_or o finite.empty) r) (finite.get-insert procs_total w t (finite.remove (askers_of w t) p) q) ∙ by_target (same_proc q t) refl
    by_there None there = nothing_of (same_proc q t) (same_proc r p) (awaited w q r) (λ e.
        ap (λ o. finite.get (unwrap_or o finite.empty) r)
        (ap (finite.get w) (exact_procs q t ((Equal-is _).0 (both_parts (same_proc q t) (same_proc r p) e))) ∙ there)
        ∙ finite.get-empty proc_cmp r)

-- ---- one more, one less: of fences

-- whether a process waits in a fence, once one more does
contains-too : (w : Waiters) (f : FenceName) (p : Proc) (g : FenceName) (r : Proc)
    → set.contains (waiters_in (waiting_too w f p) g) r ≡ ((same_name g f && same_proc r p) || set.contains (waiters_in w g) r)
contains-too w f p g r =
    ap (λ o. set.contains (unwrap_or o set.empty) r) (finite.get-insert name_total w f (set.insert (waiters_in w f) p) g) ∙ by_name (same_name g f) refl
  where
    by_name : (b : Bool) → same_name g f ≡ b
        → set.contains (unwrap_or (cond b (Some (set.insert (waiters_in w f) p)) (finite.get w g)) set.empty) r ≡ ((b && same_proc r p) || set.contains (waiters_in w g) r)
    by_name true e =
        set.contains-insert procs_total (waiters_in w f) p r
        ∙ ap (λ x. same_proc r p || set.contains (waiters_in w x) r) (sym (names_exact g f ((Equal-is _).0 e)))
    by_name false e = refl

not_and : (b c : Bool) → (not b && c) ≡ cond b false c
not_and true c = refl
not_and false c = refl

is_zero : (n : ℕ) → (n == 0) ≡ true → n ≡ 0
is_zero n e = eqb-true n 0 e

-- and once one does no longer
contains-less : (w : Waiters) (f : FenceName) (p : Proc) (g : FenceName) (r : Proc)
    → set.contains (waiters_in (waiting_less w f p) g) r ≡ cond (same_name g f && same_proc r p) false (set.contains (waiters_in w g) r)
contains-less w f p g r = by_left (set.len left == 0) refl
  where
    left : Procs
    left = set.remove (waiters_in w f) p

    left_is : set.contains left r ≡ cond (same_proc r p) false (set.contains (waiters_in w f) r)
    left_is = set.contains-remove procs_total (waiters_in w f) p r ∙ not_and (same_proc r p) (set.contains (waiters_in w f) r)

    at_name : (x : Bool) → x ≡ set.contains left r → same_name g f ≡ true → x ≡ cond (same_proc r p) false (set.contains (waiters_in w g) r)
    at_name x is e = is ∙ left_is ∙ ap (λ h. cond (same_proc r p) false (set.contains (waiters_in w h) r)) (sym (names_exact g f ((Equal-is _).0 e)))

    by_none : (b : Bool) → same_name g f ≡ b → set.len left ≡ 0
        → set.contains (unwrap_or (cond b None (finite.get w g)) set.empty) r ≡ cond (b && same_proc r p) false (set.contains (waiters_in w g) r)
    by_none true e none = at_name _ (ap (λ (s : Procs). set.contains s r) (sym (set.empty_of_len left none))) e
    by_none false e none = refl

    by_some : (b : Bool) → same_name g f ≡ b
        → set.contains (unwrap_or (cond b (Some left) (finite.get w g)) set.empty) r ≡ cond (b && same_proc r p) false (set.contains (waiters_in w g) r)
    by_some true e = at_name _ refl e
    by_some false e = refl

    by_left : (b : Bool) → (set.len left == 0) ≡ b
        → set.contains (waiters_in (cond b (finite.remove w f) (finite.insert w f left)) g) r ≡ cond (same_name g f && same_proc r p) false (set.contains (waiters_in w g) r)
    by_left true e =
        ap (λ o. set.contains (unwrap_or o set.empty) r) (finite.get-remove name_total w f g) ∙ by_none (same_name g f) refl (is_zero (set.len left) e)
    by_left false e = ap (λ o. set.contains (unwrap_or o set.empty) r) (finite.get-insert name_total w f left g) ∙ by_some (same_name g f) refl

-- ---- in no fence that is listed nobody waits

abbrev AreFilled : Waiters → Type 0
AreFilled w = (f : FenceName) (procs : Procs) → finite.get w f ≡ Some procs → (set.len procs == 0) ≡ false

-- a set that has somebody is not empty
has_somebody : (s : Procs) (p : Proc) → set.contains s p ≡ true → (set.len s == 0) ≡ false
has_somebody s p there = by_len (set.len s == 0) refl
  where
    by_len : (b : Bool) → (set.len s == 0) ≡ b → b ≡ false
    by_len true e = absurd (false≢true (sym (set.contains-empty proc_cmp p) ∙ ap (λ (t : Procs). set.contains t p) (sym (set.empty_of_len s (is_zero (set.len s) e))) ∙ there))
    by_len false e = refl

-- and one that is not has somebody
somebody : (s : Procs) → (set.len s == 0) ≡ false → (p : Proc) × (set.contains s p ≡ true)
somebody s some = by_items (set.items s) refl
  where
    by_items : (ps : List Proc) → set.items s ≡ ps → (p : Proc) × (set.contains s p ≡ true)
    by_items [] e =
        let empty : s ≡ set.empty = set.same_set procs_total exact_procs s set.empty (λ q.
        set.contains-items s q ∙ ap (list_any (same_proc q)) e ∙ sym (set.contains-empty proc_cmp q)) in
        absurd (false≢true (sym some ∙ ap (λ (t : Procs). set.len t == 0) empty ∙ ap (λ (n : ℕ). n == 0) (set.len-empty proc_cmp)))
    by_items (p ∷ ps) e = (p, set.contains-items s p ∙ ap (list_any (same_proc p)) e ∙ ap (λ b. b || list_any (same_proc p) ps) (proc_itself p))

put_filled : (w : Waiters) (f : FenceName) (s : Procs) → AreFilled w → (set.len s == 0) ≡ false → AreFilled (finite.insert w f s)
put_filled w f s filled some g procs there = by_name (same_name g f) (sym (finite.get-insert name_total w f s g) ∙ there)
  where
    by_name : (b : Bool) → cond b (Some s) (finite.get w g) ≡ Some procs → (set.len procs == 0) ≡ false
    by_name true e = ap (λ (t : Procs). set.len t == 0) (sym (some_is e)) ∙ some
    by_name false e = filled g procs e

less_filled : (w : Waiters) (f : FenceName) → AreFilled w → AreFilled (finite.remove w f)
less_filled w f filled g procs there = by_name (same_name g f) (sym (finite.get-remove name_total w f g) ∙ there)
  where
    by_name : (b : Bool) → cond b None (finite.get w g) ≡ Some procs → (set.len procs == 0) ≡ false
    by_name true e = absurd cc
    by_name false e = filled g procs e

too_filled : (w : Waiters) (f : FenceName) (p : Proc) → AreFilled w → AreFilled (waiting_too w f p)
too_filled w f p filled =
    put_filled w f (set.insert (waiters_in w f) p) filled (has_somebody (set.insert (waiters_in w f) p) p
    (set.contains-insert procs_total (waiters_in w f) p p ∙ ap (λ b. b || set.contains (waiters_in w f) p) (proc_itself p)))

left_filled : (w : Waiters) (f : FenceName) (s : Procs) → AreFilled w → AreFilled (left_in w f s)
left_filled w f s filled = by_left (set.len s == 0) refl
  where
    by_left : (b : Bool) → (set.len s == 0) ≡ b → AreFilled (cond b (finite.remove w f) (finite.insert w f s))
    by_left true e = less_filled w f filled
    by_left false e = put_filled w f s filled e

-- ---- calls

abbrev or_else : Option (List ℕ) → Option (List ℕ) → Option (List ℕ)
or_else None y = y
or_else (Some x) y = Some x

cond_same : {A : Type 0} (b : Bool) (x : A) → x ≡ cond b x x
cond_same true x = refl
cond_same false x = refl

-- one thing where both tests hold, by one test after the other
cond_both : {A : Type 0} (b c : Bool) (x y : A) → cond (b && c) x y ≡ cond c (cond b x y) y
cond_both true c x y = refl
cond_both false true x y = refl
cond_both false false x y = refl

is_some_where : {A : Type 0} (b : Bool) (x : A) → is_some (cond b (Some x) None) ≡ b
is_some_where true x = refl
is_some_where false x = refl

module _ (w : Waiting) (p : Proc) where
  gets_with : (s : CallState) (q r : Proc)
      → awaited (with_waiter w p s).gets q r ≡ cond (same_proc r p) (or_else (key_on q s) (awaited w.gets q r)) (awaited w.gets q r)
  gets_with (CallState.parked get) q r = awaited-parking w.gets get.target p get.key q r ∙ swapped (same_proc q get.target) (same_proc r p)
    where
      swapped : (b c : Bool) → cond (b && c) (Some get.key) (awaited w.gets q r) ≡ cond c (or_else (cond b (Some get.key) None) (awaited w.gets q r)) (awaited w.gets q r)
      swapped true true = refl
      swapped true false = refl
      swapped false true = refl
      swapped false false = refl
  gets_with _ q r = cond_same (same_proc r p) (awaited w.gets q r)

  fences_with : (s : CallState) (f : FenceName) (r : Proc)
      → set.contains (waiters_in (with_waiter w p s).fences f) r ≡ cond (same_proc r p) (is_waiting_in f s || set.contains (waiters_in w.fences f) r) (set.contains (waiters_in w.fences f) r)
  fences_with (CallState.in_fence g) f r = contains-too w.fences g p f r ∙ swapped (same_name f g) (same_proc r p) (set.contains (waiters_in w.fences f) r)
    where
      swapped : (b c x : Bool) → ((b && c) || x) ≡ cond c (b || x) x
      swapped true true x = refl
      swapped true false x = refl
      swapped false true x = refl
      swapped false false x = refl
  fences_with _ f r = cond_same (same_proc r p) (set.contains (waiters_in w.fences f) r)

  filled_with : (s : CallState) → AreFilled w.fences → AreFilled (with_waiter w p s).fences
  filled_with (CallState.in_fence f) filled = too_filled w.fences f p filled
  filled_with _ filled = filled

  gets_without : (s : CallState) (q r : Proc)
      → awaited (without_call w p s).gets q r ≡ cond (same_proc r p) (cond (is_some (key_on q s)) None (awaited w.gets q r)) (awaited w.gets q r)
  gets_without (CallState.parked get) q r =
      awaited-unparked w.gets get.target p q r ∙ cond_both (same_proc q get.target) (same_proc r p) None (awaited w.gets q r)
      ∙ ap (λ b. cond (same_proc r p) (cond b None (awaited w.gets q r)) (awaited w.gets q r)) (sym (is_some_where (same_proc q get.target) get.key))
  gets_without _ q r = cond_same (same_proc r p) (awaited w.gets q r)

  fences_without : (s : CallState) (f : FenceName) (r : Proc)
      → set.contains (waiters_in (without_call w p s).fences f) r
      ≡ cond (same_proc r p) (cond (is_waiting_in f s) false (set.contains (waiters_in w.fences f) r)) (set.contains (waiters_in w.fences f) r)
  fences_without (CallState.in_fence g) f r = contains-less w.fences g p f r ∙ cond_both (same_name f g) (same_proc r p) false (set.contains (waiters_in w.fences f) r)
  fences_without _ f r = cond_same (same_proc r p) (set.contains (waiters_in w.fences f) r)

  filled_without : (s : CallState) → AreFilled w.fences → AreFilled (without_call w p s).fences
  filled_without (CallState.in_fence f) filled = left_filled w.fences f (set.remove (waiters_in w.fences f) p) filled
  filled_without _ filled = filled

-- ---- the index stays one

nothing_else : (x : Option (List ℕ)) → or_else x None ≡ x
nothing_else None = refl
nothing_else (Some x) = refl

or_false : (b : Bool) → (b || false) ≡ b
or_false true = refl
or_false false = refl

taken_key : (x : Option (List ℕ)) → cond (is_some x) None x ≡ None
taken_key None = refl
taken_key (Some x) = refl

taken_test : (b : Bool) → cond b false b ≡ false
taken_test true = refl
taken_test false = refl

module _ (all : Calls) (w : Waiting) (index : IsWaitingIndex all w) (p : Proc) (s : CallState) where
  -- where a call comes
  pub index_put : finite.get all p ≡ None → IsWaitingIndex (finite.insert all p s) (with_waiter w p s)
  index_put free = record { gets = gets; fences = fences; filled = filled_with w p s index.filled }
    where
      free_at : (r : Proc) → same_proc r p ≡ true → finite.get all r ≡ None
      free_at r e = ap (finite.get all) (exact_procs r p ((Equal-is _).0 e)) ∙ free

      gets : (q r : Proc) → awaited (with_waiter w p s).gets q r ≡ awaits q (finite.get (finite.insert all p s) r)
      gets q r = gets_with w p s q r ∙ by_proc (same_proc r p) refl ∙ ap (awaits q) (sym (finite.get-insert procs_total all p s r))
        where
          by_proc : (b : Bool) → same_proc r p ≡ b
              → cond b (or_else (key_on q s) (awaited w.gets q r)) (awaited w.gets q r) ≡ awaits q (cond b (Some s) (finite.get all r))
          by_proc true e = ap (or_else (key_on q s)) (index.gets q r ∙ ap (awaits q) (free_at r e)) ∙ nothing_else (key_on q s)
          by_proc false e = index.gets q r

      fences : (f : FenceName) (r : Proc) → set.contains (waiters_in (with_waiter w p s).fences f) r ≡ waits_for f (finite.get (finite.insert all p s) r)
      fences f r = fences_with w p s f r ∙ by_proc (same_proc r p) refl ∙ ap (waits_for f) (sym (finite.get-insert procs_total all p s r))
        where
          by_proc : (b : Bool) → same_proc r p ≡ b
              → cond b (is_waiting_in f s || set.contains (waiters_in w.fences f) r) (set.contains (waiters_in w.fences f) r) ≡ waits_for f (cond b (Some s) (finite.get all r))
          by_proc true e = ap (λ b. is_waiting_in f s || b) (index.fences f r ∙ ap (waits_for f) (free_at r e)) ∙ or_false (is_waiting_in f s)
          by_proc false e = index.fences f r

  -- where it goes, or comes to what waits for nothing
  pub index_less : finite.get all p ≡ Some s → (new : Calls) (o : Option CallState) → ((r : Proc) → finite.get new r ≡ cond (same_proc r p) o (finite.get all r))
      → ((q : Proc) → awaits q o ≡ None) → ((f : FenceName) → waits_for f o ≡ false) → IsWaitingIndex new (without_call w p s)
  index_less there new o is no_key no_fence = record { gets = gets; fences = fences; filled = filled_without w p s index.filled }
    where
      there_at : (r : Proc) → same_proc r p ≡ true → finite.get all r ≡ Some s
      there_at r e = ap (finite.get all) (exact_procs r p ((Equal-is _).0 e)) ∙ there

      gets : (q r : Proc) → awaited (without_call w p s).gets q r ≡ awaits q (finite.get new r)
      gets q r = gets_without w p s q r ∙ by_proc (same_proc r p) refl ∙ ap (awaits q) (sym (is r))
        where
          by_proc : (b : Bool) → same_proc r p ≡ b
              → cond b (cond (is_some (key_on q s)) None (awaited w.gets q r)) (awaited w.gets q r) ≡ awaits q (cond b o (finite.get all r))
          by_proc true e = ap (λ x. cond (is_some (key_on q s)) None x) (index.gets q r ∙ ap (awaits q) (there_at r e)) ∙ taken_key (key_on q s) ∙ sym (no_key q)
          by_proc false e = index.gets q r

      fences : (f : FenceName) (r : Proc) → set.contains (waiters_in (without_call w p s).fences f) r ≡ waits_for f (finite.get new r)
      fences f r = fences_without w p s f r ∙ by_proc (same_proc r p) refl ∙ ap (waits_for f) (sym (is r))
        where
          by_proc : (b : Bool) → same_proc r p ≡ b
              → cond b (cond (is_waiting_in f s) false (set.contains (waiters_in w.fences f) r)) (set.contains (waiters_in w.fences f) r) ≡ waits_for f (cond b o (finite.get all r))
          by_proc true e = ap (λ b. cond (is_waiting_in f s) false b) (index.fences f r ∙ ap (waits_for f) (there_at r e)) ∙ taken_test (is_waiting_in f s) ∙ sym (no_fence f)
          by_proc false e = index.fences f r

-- where it was to come and did not
pub index_back : (all : Calls) (w : Waiting) → IsWaitingIndex all w → (p : Proc) (s : CallState) → finite.get all p ≡ None → IsWaitingIndex all (without_call (with_waiter w p s) p s)
index_back all w index p s free =
    index_less (finite.insert all p s) (with_waiter w p s) (index_put all w index p s free) p s
    (finite.get-insert procs_total all p s p ∙ ap (λ b. cond b (Some s) (finite.get all p)) (proc_itself p)) all None
    (λ r. undone r (same_proc r p) refl ∙ ap (cond (same_proc r p) None) (sym (finite.get-insert procs_total all p s r))) (λ q. refl) (λ f. refl)
  where
    undone : (r : Proc) (b : Bool) → same_proc r p ≡ b → finite.get all r ≡ cond b None (cond b (Some s) (finite.get all r))
    undone r true e = ap (finite.get all) (exact_procs r p ((Equal-is _).0 e)) ∙ free
    undone r false e = refl

-- a process whose call is taken out
pub index_removed : (all : Calls) (w : Waiting) → IsWaitingIndex all w → (p : Proc) (s : CallState) → finite.get all p ≡ Some s → IsWaitingIndex (finite.remove all p) (without_call w p s)
index_removed all w index p s there =
    index_less all w index p s there (finite.remove all p) None (λ r. finite.get-remove procs_total all p r) (λ q. refl) (λ f. refl)

-- ---- calls that are settled

no_key_by : (settled : Completion) (q : Proc) → awaits q (Some (standing_by settled)) ≡ None
no_key_by (settlings.Released f gone) q = refl
no_key_by (settlings.Answered target key found) q = refl
no_key_by (settlings.Refreshed target key found) q = refl

no_fence_by : (settled : Completion) (f : FenceName) → waits_for f (Some (standing_by settled)) ≡ false
no_fence_by (settlings.Released f gone) g = refl
no_fence_by (settlings.Answered target key found) g = refl
no_fence_by (settlings.Refreshed target key found) g = refl

none_less : (w : Waiting) (p : Proc) (settled : Completion) → without_call w p (standing_by settled) ≡ w
none_less w p (settlings.Released f gone) = refl
none_less w p (settlings.Answered target key found) = refl
none_less w p (settlings.Refreshed target key found) = refl

-- where what a call came to comes in its place, and what is left stands no longer by what it waited for
pub index_settled : (all : Calls) (w : Waiting) → IsWaitingIndex all w → (p : Proc) (settled : Completion) (left : CallState) → left ≡ unwrap_or (finite.get all p) (standing_by settled)
    → IsWaitingIndex (changed_at all p (standing_by settled)) (without_call w p left)
index_settled all w index p settled left is = by_there (finite.get all p) refl is
  where
    by_there : (o : Option CallState) → finite.get all p ≡ o → left ≡ unwrap_or o (standing_by settled)
        → IsWaitingIndex (cond (is_some o) (finite.insert all p (standing_by settled)) all) (without_call w p left)
    by_there None there is = subst (IsWaitingIndex all) (sym (ap (without_call w p) is ∙ none_less w p settled)) index
    by_there (Some s) there is =
        index_less all w index p left (there ∙ ap Some (sym is)) (finite.insert all p (standing_by settled)) (Some (standing_by settled))
        (λ r. finite.get-insert procs_total all p (standing_by settled) r) (no_key_by settled) (no_fence_by settled)

-- ---- nobody is in a call

no_askers : (q p : Proc) → awaited finite.empty q p ≡ None
no_askers q p =
    ap (λ (o : Option Askers). finite.get (unwrap_or o finite.empty) p) (finite.get-empty proc_cmp q) ∙ finite.get-empty proc_cmp p

no_waiters : (f : FenceName) (p : Proc) → set.contains (waiters_in finite.empty f) p ≡ false
no_waiters f p =
    ap (λ (o : Option Procs). set.contains (unwrap_or o set.empty) p) (finite.get-empty name_cmp f) ∙ set.contains-empty proc_cmp p

none_listed : (f : FenceName) (procs : Procs) → finite.get (finite.empty {R = name_cmp}) f ≡ Some procs → (set.len procs == 0) ≡ false
none_listed f procs there = absurd (none_some procs (sym (finite.get-empty name_cmp f) ∙ there))
  where
    none_some : (s : Procs) → None ≡ Some s → ⊥
    none_some s e = cc

pub index_empty : (all : Calls) (w : Waiting) → all ≡ finite.empty → w.gets ≡ finite.empty → w.fences ≡ finite.empty → IsWaitingIndex all w
index_empty all w none gets fences =
    record {
      gets = λ q p. ap (λ (g : Parked). awaited g q p) gets ∙ no_askers q p
          ∙ ap (awaits q) (sym (ap (λ (m : Calls). finite.get m p) none ∙ finite.get-empty proc_cmp p));
      fences = λ f p. ap (λ (g : Waiters). set.contains (waiters_in g f) p) fences ∙ no_waiters f p
          ∙ ap (waits_for f) (sym (ap (λ (m : Calls). finite.get m p) none ∙ finite.get-empty proc_cmp p));
      filled = λ f procs there. none_listed f procs (ap (λ (g : Waiters). finite.get g f) (sym fences) ∙ there);
    }

-- ---- who waits is listed

-- a mark, or none
abbrev marked_if : Bool → Option (Unit {0})
marked_if b = cond b (Some tt) None

awaits_picked : (q : Proc) (o : Option CallState) → awaits q o ≡ picked (key_on q) o
awaits_picked q None = refl
awaits_picked q (Some s) = refl

module _ (all : Calls) (w : Waiting) (index : IsWaitingIndex all w) where
  abbrev rows : List (Proc × CallState)
  rows = finite.entries all

  rows_rise : AreRising proc_cmp rows
  rows_rise = keys_rise proc_cmp all

  picked_at : {A : Type 0} (h : CallState → Option A) (r : Proc) → at_key proc_cmp r (picks h rows) ≡ picked h (finite.get all r)
  picked_at h r = at_picks proc_cmp h exact_procs rows r rows_rise ∙ ap (picked h) (at_entries all r)

  -- the gets that wait for a key of the process
  pub gets_listed : (q : Proc) → parked_on w.gets q ≡ all_parked_on all q
  gets_listed q =
      ap finite.entries (finite.same_map procs_total exact_procs (askers_of w.gets q) (map_of (picks (key_on q) rows)) (λ r.
      index.gets q r ∙ awaits_picked q (finite.get all r) ∙ sym (picked_at (key_on q) r) ∙ sym (get-map_of procs_total (picks (key_on q) rows) r)))
      ∙ entries-map_of procs_total (picks (key_on q) rows) (picks_rise proc_cmp (key_on q) rows rows_rise)

  -- the processes that wait in the fence
  module _ (f : FenceName) where
    abbrev waits : CallState → Option (Unit {0})
    waits s = marked_if (is_waiting_in f s)

    keys_picked : (es : List (Proc × CallState)) → flat_map (waits_in f) es ≡ keys_of (picks waits es)
    keys_picked [] = refl
    keys_picked (e ∷ es) = by_test (is_waiting_in f e.1) (keys_picked es)
      where
        by_test : (b : Bool) → flat_map (waits_in f) es ≡ keys_of (picks waits es) → (cond b (e.0 ∷ []) [] ++ flat_map (waits_in f) es)
            ≡ keys_of (option_to_list (option_map (λ a. (e.0, a)) (marked_if b)) ++ picks waits es)
        by_test true rest = ap (λ ks. e.0 ∷ ks) rest
        by_test false rest = rest

    waits_picked : (o : Option CallState) → waits_for f o ≡ is_some (picked waits o)
    waits_picked None = refl
    waits_picked (Some s) = by_test (is_waiting_in f s)
      where
        by_test : (b : Bool) → b ≡ is_some (marked_if b)
        by_test true = refl
        by_test false = refl

    pub procs_listed : in_order (waiters_in w.fences f) ≡ all_waiting_in all f
    procs_listed =
        let ks = keys_of (picks waits rows) in
        let rise : IsStrictlySortedBy proc_cmp ks = picks_rise proc_cmp waits rows rows_rise in
        let same : waiters_in w.fences f ≡ set.from_list ks = set.same_set procs_total exact_procs _ _ (λ r.
        index.fences f r ∙ waits_picked (finite.get all r) ∙ ap is_some (sym (picked_at waits r)) ∙ sym (any_key proc_cmp r (picks waits rows))
        ∙ sym (set.contains-from_list procs_total ks r)) in
        ap (λ (s : Procs). in_order s) same ∙ in_order-from_list procs_total exact_procs ks rise ∙ sym (keys_picked rows)

  -- the fences in which processes wait
  abbrev names : List FenceName
  names = flat_map (λ (e : Proc × CallState). waited e.1) rows

  waits_there : (f : FenceName) (s : CallState) → is_waiting_in f s ≡ true → s ≡ CallState.in_fence f
  waits_there f (CallState.in_fence g) e = ap (λ x. CallState.in_fence x) (sym (names_exact f g ((Equal-is _).0 e)))
  waits_there f (CallState.released g gone) e = absurd (false≢true e)
  waits_there f (CallState.parked get) e = absurd (false≢true e)
  waits_there f (CallState.answered get outcome) e = absurd (false≢true e)
  waits_there f (CallState.refreshing get number) e = absurd (false≢true e)
  waits_there f (CallState.refreshed get outcome) e = absurd (false≢true e)

  call_there : (f : FenceName) (o : Option CallState) → waits_for f o ≡ true → o ≡ Some (CallState.in_fence f)
  call_there f None e = absurd (false≢true e)
  call_there f (Some s) e = ap Some (waits_there f s e)

  named_there : (f : FenceName) (s : CallState) → In f (waited s) → s ≡ CallState.in_fence f
  named_there f (CallState.in_fence g) (inl e) = ap (λ x. CallState.in_fence x) (sym e)
  named_there f (CallState.in_fence g) (inr i) = absurd i
  named_there f (CallState.released g gone) i = absurd i
  named_there f (CallState.parked get) i = absurd i
  named_there f (CallState.answered get outcome) i = absurd i
  named_there f (CallState.refreshing get number) i = absurd i
  named_there f (CallState.refreshed get outcome) i = absurd i

  -- a fence that is listed is named by a call
  listed_named : (f : FenceName) → finite.contains_key w.fences f ≡ true → list_any (same_name f) names ≡ true
  listed_named f there = by_there (finite.get w.fences f) refl there
    where
      by_there : (o : Option Procs) → finite.get w.fences f ≡ o → is_some o ≡ true → list_any (same_name f) names ≡ true
      by_there None is e = absurd (false≢true e)
      by_there (Some procs) is e =
          let one = somebody procs (index.filled f procs is) in
          let waiting : waits_for f (finite.get all one.0) ≡ true =
          sym (index.fences f one.0) ∙ ap (λ o. set.contains (unwrap_or o set.empty) one.0) is ∙ one.1 in
          let row = entry_listed exact_procs all one.0 (CallState.in_fence f) (call_there f (finite.get all one.0) waiting) in
          list_any_in (same_name f) names f (in_flat (λ (x : Proc × CallState). waited x.1) rows (one.0, CallState.in_fence f) f row (inl refl)) (name_itself f)

  -- and one that a call names is listed
  named_listed : (f : FenceName) → list_any (same_name f) names ≡ true → finite.contains_key w.fences f ≡ true
  named_listed f named =
      let found = in_from_list_any (same_name f) names named in
      let row = in_flat_from (λ (x : Proc × CallState). waited x.1) rows found.0 found.1 in
      let same : found.0 ≡ f = sym (names_exact f found.0 ((Equal-is _).0 found.2)) in
      let call : finite.get all row.0.0 ≡ Some (CallState.in_fence f) =
      each_row procs_total all row.0 row.1 ∙ ap Some (named_there found.0 row.0.1 row.2 ∙ ap (λ x. CallState.in_fence x) same) in
      by_there row.0.0 (finite.get w.fences f) (index.fences f row.0.0 ∙ ap (waits_for f) call ∙ name_itself f)
    where
      by_there : (p : Proc) (o : Option Procs) → set.contains (unwrap_or o set.empty) p ≡ true → is_some o ≡ true
      by_there p None e = absurd (false≢true (sym (set.contains-empty proc_cmp p) ∙ e))
      by_there p (Some procs) e = refl

  pub names_listed : finite.keys w.fences ≡ all_waited all
  names_listed =
      let ks = finite.keys w.fences in
      sym (in_order-from_list name_total names_exact ks (keys_rise name_cmp w.fences))
      ∙ ap (λ (s : set.FinSet name_cmp). in_order s) (set.same_set name_total names_exact (set.from_list ks) (set.from_list names) (λ f.
      set.contains-from_list name_total ks f ∙ sym (finite.contains_key-keys w.fences f)
      ∙ alike (finite.contains_key w.fences f) (list_any (same_name f) names) (listed_named f) (named_listed f)
      ∙ sym (set.contains-from_list name_total names f)))
    where
      alike : (a b : Bool) → (a ≡ true → b ≡ true) → (b ≡ true → a ≡ true) → a ≡ b
      alike true b there back = sym (there refl)
      alike false true there back = back refl
      alike false false there back = refl
