-- A sealer and a script, call by call.
use Rattle.std.proofs.Common.{◌≡◌, ◌⊎◌, ◌↔◌, inl, inr, ℕ, zero, suc, ◌+◌, ◌<◌, Bool, true, false, cond, ◌||◌, nat_lt, T, List, [], ◌∷◌, ◌++◌, filter, Option, Some, None, Result, Ok, Err, refl, sym, ap, subst, ◌∙◌, arith}
use Rattle.std.specs.Prelude.{if◌then◌else◌}
use Rattle.std.specs.FinMap as finite
use Rattle.std.specs.FinMap.Entries.{find, below_all, is_sorted}
use Rattle.std.specs.declared.cmp.Ordering.{Ordering}
use Rattle.std.specs.Ordering.{nat_cmp, is_lt, is_eq, eq_by_cmp}
use Rattle.std.specs.Cmp.{Equal-is}
use Rattle.std.specs.Cmp.Lexicographic.{slice_cmp, nat_list_cmp_total}
use Rattle.std.proofs.Math.Nat.{eq-or-lt_of_le}
use Rattle.std.proofs.lemmas.Bool.{or_right, and_parts, not-true, ltb-true, lt-ltb}
use Rattle.std.proofs.lemmas.Cmp.{tied_itself}
use Rattle.std.proofs.lemmas.Map.Lookups.{exact_bytes}
use Rattle.std.proofs.lemmas.Map.Text.{is_eq-slice_cmp}
use Rattle.pmg_value.specs.Lists.{In}
use Rattle.pmg_value.specs.declared.refusal.Refusal.{Refusal}
use Rattle.pmg_value.specs.declared.refusal.Refusal.TheVariants as refusals
use Rattle.pmg_value.proofs.ListLemmas.{in_map, in_map_from}
use Rattle.pmg_value.proofs.MadeLists.{in_filter, in_filter_from}
use Rattle.pmg_scope.specs.declared.scope.Reach.{Reach}
use Rattle.pmg_scope.specs.declared.scope.Reach.TheVariants as reach
use Rattle.pmg_scope.specs.Scripts.{Call, Script, has_end, has_commit, ended, count_commits, commits, term_key, term_put, put_of, last_put}
use Rattle.pmg_scope.specs.Sealing.{part, part_of, IsSealed}
use Rattle.pmg_scope.specs.Cached.{Table, Unsealed}
use Rattle.pmg_scope.proofs.SumLemmas.{t_first, t_second, is_less}
use Rattle.pmg_scope.proofs.ScriptLaws.{by_end, has_commit_first, count_kept, open_commits, end_is_last}
use Rattle.pmg_scope.proofs.SealingLaws.{none_earlier, sealed_once, sealed_among_fewer}
use Rattle.pmg_scope.proofs.CacheLaws.{commit_seals_next}
use Rattle.pmg_commit.specs.Entries.{Entry}
use Rattle.pmg_commit.specs.Sealed.{Stamp, Stamps, Sealed, stamp_all, stamped, sealed_with, ended_with, end_of, can_seal, term_table, stamped_entry, newer_than, stamps_for, is_other}
use Rattle.pmg_commit.specs.SealerRules.{FitsBatch, FitsStamps, FitsSealer, BatchFits, NewSealerFits, SealFits, SealerEndFits, PutSealsNothing, EnterSealsNothing, PiecesAreHonest, SealerIsOne}
use Rattle.pmg_commit.proofs.HonestLaws.{not_none, some_is, sealed_still_last, sealed_before_last}

-- ---- rows in the order of their keys have a key once

module _ {X : Type 0} where
  -- a key below all others is not among them
  not_there : (k : List ℕ) (es : List (List ℕ × X)) → T (below_all (slice_cmp nat_cmp) k es) → find (slice_cmp nat_cmp) k es ≡ None
  not_there k [] below = refl
  not_there k (f ∷ fs) below =
      ap (λ (o : Ordering). cond (is_eq o) (Some f.1) (find (slice_cmp nat_cmp) k fs)) (is_less _ (t_first (is_lt (slice_cmp nat_cmp k f.0)) (below_all (slice_cmp nat_cmp) k fs) below))
      ∙ not_there k fs (t_second (is_lt (slice_cmp nat_cmp k f.0)) (below_all (slice_cmp nat_cmp) k fs) below)

  -- so the first row's key is in no other
  pub not_again : (e : List ℕ × X) (es : List (List ℕ × X)) → T (is_sorted (slice_cmp nat_cmp) (e ∷ es)) → (q : List ℕ) → eq_by_cmp (slice_cmp nat_cmp) q e.0 ≡ true
      → find (slice_cmp nat_cmp) q es ≡ None
  not_again e es sorted q same =
      ap (λ (k : List ℕ). find (slice_cmp nat_cmp) k es) (exact_bytes q e.0 ((Equal-is _).0 same))
      ∙ not_there e.0 es (t_first (below_all (slice_cmp nat_cmp) e.0 es) (is_sorted (slice_cmp nat_cmp) es) sorted)

  pub others_sorted : (e : List ℕ × X) (es : List (List ℕ × X)) → T (is_sorted (slice_cmp nat_cmp) (e ∷ es)) → T (is_sorted (slice_cmp nat_cmp) es)
  others_sorted e es = t_second (below_all (slice_cmp nat_cmp) e.0 es) (is_sorted (slice_cmp nat_cmp) es)

  -- under a row's key its value is found, and what is found is a row
  pub find_in_rows : (es : List (List ℕ × X)) (e : List ℕ × X) → T (is_sorted (slice_cmp nat_cmp) es) → In e es → find (slice_cmp nat_cmp) e.0 es ≡ Some e.1
  find_in_rows [] e sorted i = absurd i
  find_in_rows (f ∷ fs) e sorted (inl same) =
      ap (λ (g : List ℕ × X). find (slice_cmp nat_cmp) g.0 (f ∷ fs)) same
      ∙ ap (λ (o : Ordering). cond (is_eq o) (Some f.1) (find (slice_cmp nat_cmp) f.0 fs)) (tied_itself nat_list_cmp_total f.0)
      ∙ ap (λ (g : List ℕ × X). Some g.1) (sym same)
  find_in_rows (f ∷ fs) e sorted (inr i) =
      let there = find_in_rows fs e (others_sorted f fs sorted) i in
      elim (eq_by_cmp (slice_cmp nat_cmp) e.0 f.0) as (λ b. eq_by_cmp (slice_cmp nat_cmp) e.0 f.0 ≡ b → cond b (Some f.1) (find (slice_cmp nat_cmp) e.0 fs) ≡ Some e.1) [
        | true ↦ λ same. absurd (not_none (sym (not_again f fs sorted e.0 same) ∙ there))
        | false ↦ λ differ. there
      ] refl

  row_from_find : (es : List (List ℕ × X)) (q : List ℕ) (x : X) → find (slice_cmp nat_cmp) q es ≡ Some x → In (q, x) es
  row_from_find [] q x is = absurd cc
  row_from_find (e ∷ es) q x is =
      elim (eq_by_cmp (slice_cmp nat_cmp) q e.0) as (λ b. eq_by_cmp (slice_cmp nat_cmp) q e.0 ≡ b → cond b (Some e.1) (find (slice_cmp nat_cmp) q es) ≡ Some x → In (q, x) (e ∷ es)) [
        | true ↦ λ same found. inl (λ i. (exact_bytes q e.0 ((Equal-is _).0 same) i, sym (some_is found) i))
        | false ↦ λ differ found. inr (row_from_find es q x found)
      ] refl is

-- ---- the stamps that a commit leaves

-- what is stamped under a key, once the commit of that number seals what was put there
abbrev pub stamp_over : ℕ → Option (List ℕ) → Option Stamp → Option Stamp
stamp_over n (Some bytes) old = Some (record { number = n; bytes = bytes })
stamp_over n None old = old

-- where no later row has the key, it is the same whether the row is stamped first or found first
over_both : (n : ℕ) (here : Bool) (bytes : List ℕ) (others : Option (List ℕ)) (old : Option Stamp) → (here ≡ true → others ≡ None)
    → stamp_over n others (cond here (Some (record { number = n; bytes = bytes })) old) ≡ stamp_over n (cond here (Some bytes) others) old
over_both n true bytes others old none = ap (λ (x : Option (List ℕ)). stamp_over n x (Some (record { number = n; bytes = bytes }))) (none refl)
over_both n false bytes others old none = refl

get-stamp_all : (n : ℕ) (es : List (List ℕ × List ℕ)) → T (is_sorted (slice_cmp nat_cmp) es) → (m : Stamps) (q : List ℕ)
    → finite.get (stamp_all n m es) q ≡ stamp_over n (find (slice_cmp nat_cmp) q es) (finite.get m q)
get-stamp_all n [] sorted m q = refl
get-stamp_all n (e ∷ es) sorted m q =
    get-stamp_all n es (others_sorted e es sorted) (finite.insert m e.0 (record { number = n; bytes = e.1 })) q
    ∙ ap (stamp_over n (find (slice_cmp nat_cmp) q es)) (finite.get-insert nat_list_cmp_total m e.0 (record { number = n; bytes = e.1 }) q)
    ∙ over_both n (eq_by_cmp (slice_cmp nat_cmp) q e.0) e.1 (find (slice_cmp nat_cmp) q es) (finite.get m q) (not_again e es sorted q)

pub get-stamped : (n : ℕ) (table : Table) (m : Stamps) (q : List ℕ) → finite.get (stamped n table m) q ≡ stamp_over n (finite.get table q) (finite.get m q)
unfolding stamped
get-stamped n table m q =
    get-stamp_all n (finite.entries table) (finite.entries_sorted table) m q
    ∙ ap (λ (x : Option (List ℕ)). stamp_over n x (finite.get m q)) (sym (finite.get-entries table q))

-- ---- what was sealed last, once there is one more commit

module _ (u : Script) (r : Reach) (k : List ℕ) (n : ℕ) where
  -- what it seals
  sealed_now : (bytes : List ℕ) → last_put r k (part_of u (suc n)) ≡ Some bytes → IsSealed u r k (suc n) (suc n) bytes
  sealed_now bytes put = record { some = omega arith; within = omega arith; put = put; last = λ i lt le. absurd (omega (arith, lt, le)) }

  -- what it leaves
  sealed_more : (j : ℕ) (bytes : List ℕ) → last_put r k (part_of u (suc n)) ≡ None → IsSealed u r k n j bytes → IsSealed u r k (suc n) j bytes
  sealed_more j bytes none h = record { some = h.some; within = omega (arith, h.within); put = h.put; last = λ i lt le. none_then i lt (eq-or-lt_of_le le) }
    where
      none_then : (i : ℕ) → j < i → (i ≡ suc n) ⊎ (i < suc n) → last_put r k (part_of u i) ≡ None
      none_then i lt (inl same) = ap (λ (m : ℕ). last_put r k (part_of u m)) same ∙ none
      none_then i lt (inr less) = h.last i lt (omega (arith, less))

  sealed_before : (j : ℕ) (bytes : List ℕ) → last_put r k (part_of u (suc n)) ≡ None → IsSealed u r k (suc n) j bytes → IsSealed u r k n j bytes
  sealed_before j bytes none h = earlier (eq-or-lt_of_le h.within)
    where
      earlier : (j ≡ suc n) ⊎ (j < suc n) → IsSealed u r k n j bytes
      earlier (inl same) = absurd (not_none (sym none ∙ ap (λ (m : ℕ). last_put r k (part_of u m)) (sym same) ∙ h.put))
      earlier (inr less) = sealed_among_fewer r k u n (suc n) j bytes (omega arith) (omega (arith, less)) h

-- the stamp under a key, once calls are made that make one commit
stamp_fits : (s t : Script) (r : Reach) (k : List ℕ) (old : Option Stamp) (put : Option (List ℕ)) → last_put r k (part_of (s ++ t) (suc (commits s))) ≡ put
    → ((stamp : Stamp) → (old ≡ Some stamp) ↔ IsSealed s r k (commits s) stamp.number stamp.bytes)
    → (stamp : Stamp) → (stamp_over (suc (commits s)) put old ≡ Some stamp) ↔ IsSealed (s ++ t) r k (suc (commits s)) stamp.number stamp.bytes
stamp_fits s t r k old (Some bytes) put fits stamp = (
  λ is. subst (λ (z : Stamp). IsSealed (s ++ t) r k (suc (commits s)) z.number z.bytes) (some_is is) (sealed_now (s ++ t) r k (commits s) bytes put),
  λ h.
      let same = sealed_once r k (s ++ t) (suc (commits s)) (suc (commits s)) stamp.number bytes stamp.bytes (sealed_now (s ++ t) r k (commits s) bytes put) h in
      λ i. Some (record { number = same.0 i; bytes = same.1 i }),
)
stamp_fits s t r k old None none fits stamp = (
  λ is. sealed_more (s ++ t) r k (commits s) stamp.number stamp.bytes none
      (sealed_still_last s t r k (commits s) stamp.number stamp.bytes (omega arith) ((fits stamp).0 is)),
  λ h. (fits stamp).1 (sealed_before_last s t r k (commits s) stamp.number stamp.bytes (omega arith)
      (sealed_before (s ++ t) r k (commits s) stamp.number stamp.bytes none h)),
)

-- stamps that fit go on to fit
stamps_fit : (s t : Script) (r : Reach) (n : ℕ) (table : Table) (m : Stamps) → n ≡ commits s → commits (s ++ t) ≡ suc (commits s)
    → ((k : List ℕ) → finite.get table k ≡ last_put r k (part_of (s ++ t) (suc (commits s))))
    → FitsStamps m s r → FitsStamps (stamped (suc n) table m) (s ++ t) r
stamps_fit s t r n table m level one_more batch fits key stamp =
    let is : finite.get (stamped (suc n) table m) key ≡ stamp_over (suc (commits s)) (last_put r key (part_of (s ++ t) (suc (commits s)))) (finite.get m key) =
    get-stamped (suc n) table m key ∙ (λ i. stamp_over (suc (level i)) (batch key i) (finite.get m key)) in
    let told = stamp_fits s t r key (finite.get m key) (last_put r key (part_of (s ++ t) (suc (commits s)))) refl (fits key) stamp in (
      λ e. subst (λ (c : ℕ). IsSealed (s ++ t) r key c stamp.number stamp.bytes) (sym one_more) (told.0 (sym is ∙ e)),
      λ h. is ∙ told.1 (subst (λ (c : ℕ). IsSealed (s ++ t) r key c stamp.number stamp.bytes) one_more h),
    )

-- ---- more calls

-- what the calls before and the calls after make together
has_end_more : (s t : Script) → has_end (s ++ t) ≡ (has_end s || has_end t)
has_end_more [] t = refl
has_end_more (Call.put scope key value ∷ cs) t = has_end_more cs t
has_end_more (Call.commit ∷ cs) t = has_end_more cs t
has_end_more (Call.enter f ∷ cs) t = has_end_more cs t
has_end_more (Call.terminate ∷ cs) t = refl

count_both : (s t : Script) → count_commits (s ++ t) ≡ count_commits s + count_commits t
count_both [] t = omega arith
count_both (Call.put scope key value ∷ cs) t = count_both cs t
count_both (Call.commit ∷ cs) t = omega (arith, count_both cs t)
count_both (Call.enter f ∷ cs) t = count_both cs t
count_both (Call.terminate ∷ cs) t = count_both cs t

-- calls that do not end the process leave it open or ended
end_stays : (s t : Script) → has_end t ≡ false → has_end (s ++ t) ≡ has_end s
end_stays s t e = has_end_more s t ∙ or_else (has_end s)
  where
    or_else : (a : Bool) → (a || has_end t) ≡ a
    or_else true = refl
    or_else false = e

-- and where it is open they make their commits
open_more : (s t : Script) → has_end s ≡ false → has_end t ≡ false → commits (s ++ t) ≡ commits s + count_commits t
open_more s t e f =
    open_commits (s ++ t) (end_stays s t f ∙ e) ∙ count_both s t ∙ ap (λ (n : ℕ). n + count_commits t) (sym (open_commits s e))

-- ---- the calls that an end seals

-- where no commit was made, none comes before the end
no_commit_left : (cs : Script) → has_end cs ≡ false → 0 ≡ count_commits cs → has_commit (cs ++ Call.terminate ∷ []) ≡ false
no_commit_left [] e none = refl
no_commit_left (Call.put scope key value ∷ cs) e none = no_commit_left cs e none
no_commit_left (Call.commit ∷ cs) e none = absurd (omega (arith, none))
no_commit_left (Call.enter f ∷ cs) e none = no_commit_left cs e none
no_commit_left (Call.terminate ∷ cs) e none = absurd cc

-- the end is one more commit
count_end : (s : Script) → has_end s ≡ false → count_commits (ended (s ++ Call.terminate ∷ [])) ≡ suc (count_commits s)
count_end [] e = refl
count_end (Call.put scope key value ∷ cs) e =
    count_kept (has_commit (cs ++ Call.terminate ∷ [])) scope key value (ended (cs ++ Call.terminate ∷ [])) ∙ count_end cs e
count_end (Call.commit ∷ cs) e = ap suc (count_end cs e)
count_end (Call.enter f ∷ cs) e = count_end cs e
count_end (Call.terminate ∷ cs) e = absurd cc

-- and of the calls that it seals the end alone puts anything
end_puts : (r : Reach) (k : List ℕ) (s : Script) (n : ℕ) → has_end s ≡ false → n ≡ count_commits s → last_put r k (part n (ended (s ++ Call.terminate ∷ []))) ≡ put_of r k term_put
unfolding part
end_puts r k [] zero e h = refl
end_puts r k [] (suc n) e h = absurd (omega (arith, h))
end_puts r k (Call.put scope key value ∷ cs) zero e h = rw (no_commit_left cs e h) (end_puts r k cs zero e h)
end_puts r k (Call.put scope key value ∷ cs) (suc n) e h = rw (has_commit_first cs (Call.terminate ∷ []) e (omega (arith, h))) (end_puts r k cs (suc n) e h)
end_puts r k (Call.commit ∷ cs) zero e h = absurd (omega (arith, h))
end_puts r k (Call.commit ∷ cs) (suc n) e h = end_puts r k cs n e (omega (arith, h))
end_puts r k (Call.enter f ∷ cs) zero e h = none_earlier (last_put r k (part zero (ended (cs ++ Call.terminate ∷ [])))) ∙ end_puts r k cs zero e h
end_puts r k (Call.enter f ∷ cs) (suc n) e h = end_puts r k cs (suc n) e h
end_puts r k (Call.terminate ∷ cs) n e h = absurd cc

has_end_now : (s : Script) → has_end (s ++ Call.terminate ∷ []) ≡ true
has_end_now s = has_end_more s (Call.terminate ∷ []) ∙ or_right (has_end s) true refl

end_commits : (s : Script) → has_end s ≡ false → commits (s ++ Call.terminate ∷ []) ≡ suc (commits s)
end_commits s e = rw (has_end_now s, e) (count_end s e)

end_part : (s : Script) (r : Reach) (k : List ℕ) → has_end s ≡ false → last_put r k (part_of (s ++ Call.terminate ∷ []) (suc (commits s))) ≡ put_of r k term_put
unfolding part_of
end_part s r k e = rw (has_end_now s, e) (end_puts r k s (count_commits s) e refl)

get-term_table : (r : Reach) (k : List ℕ) → finite.get term_table k ≡ put_of r k term_put
get-term_table r k =
    finite.get-insert nat_list_cmp_total finite.empty term_key (1 ∷ 1 ∷ []) k
    ∙ (λ i. cond (is_eq-slice_cmp k term_key i) (Some (1 ∷ 1 ∷ [])) (finite.get-empty {X = List ℕ} (slice_cmp nat_cmp) k i))

-- ---- what is newer than a commit

-- the stamp of an entry
abbrev stamp_of : Entry → Stamp
stamp_of e = record { number = e.number; bytes = e.bytes }

-- an entry above the number is a stamp above it, and back
newer_stamp : (from : ℕ) (m : Stamps) (e : Entry) → In e (newer_than from m) → (finite.get m e.key ≡ Some (stamp_of e)) × (from < e.number)
newer_stamp from m e i =
    let row = in_map_from stamped_entry (filter (λ f. nat_lt from f.1.number) (finite.entries m)) e i in
    let parts = in_filter_from (λ f. nat_lt from f.1.number) (finite.entries m) row.0 row.1 in
    let got = finite.get-entries m row.0.0 ∙ find_in_rows (finite.entries m) row.0 (finite.entries_sorted m) parts.0 in (
      subst (λ (f : Entry). finite.get m f.key ≡ Some (stamp_of f)) (sym row.2) got,
      subst (λ (f : Entry). from < f.number) (sym row.2) (ltb-true from row.0.1.number parts.1),
    )

stamp_newer : (from : ℕ) (m : Stamps) (e : Entry) → finite.get m e.key ≡ Some (stamp_of e) → from < e.number → In e (newer_than from m)
stamp_newer from m e got newer =
    in_map stamped_entry (filter (λ f. nat_lt from f.1.number) (finite.entries m)) (e.key, stamp_of e)
    (in_filter (λ f. nat_lt from f.1.number) (finite.entries m) (e.key, stamp_of e)
    (row_from_find (finite.entries m) e.key (stamp_of e) (sym (finite.get-entries m e.key) ∙ got)) (lt-ltb from e.number newer))

-- ---- the rules

pub batch_fits : BatchFits
batch_fits c s fits = record { near = fits reach.Near; far = fits reach.Far }

no_stamps : (r : Reach) → FitsStamps finite.empty [] r
no_stamps r key stamp = (λ is. absurd (not_none (sym (finite.get-empty (slice_cmp nat_cmp) key) ∙ is)), λ h. absurd (omega (arith, h.some, h.within)))

pub new_fits : NewSealerFits
new_fits proc = record { ended = refl; level = refl; near = no_stamps reach.Near; far = no_stamps reach.Far }

pub seal_fits : SealFits
seal_fits z b s e batch fits =
    let one_more : commits (s ++ Call.commit ∷ []) ≡ suc (commits s) = open_more s (Call.commit ∷ []) e refl ∙ omega arith in
    let calls = commit_seals_next s e in
    record {
      ended = fits.ended ∙ sym (end_stays s (Call.commit ∷ []) refl);
      level = ap suc fits.level ∙ sym one_more;
      near = stamps_fit s (Call.commit ∷ []) reach.Near z.level b.near z.near fits.level one_more (λ k. batch.near k ∙ ap (last_put reach.Near k) (sym calls)) fits.near;
      far = stamps_fit s (Call.commit ∷ []) reach.Far z.level b.far z.far fits.level one_more (λ k. batch.far k ∙ ap (last_put reach.Far k) (sym calls)) fits.far;
    }

pub end_fits : SealerEndFits
end_fits z s e fits = record {
  ended = sym (has_end_now s);
  level = ap suc fits.level ∙ sym (end_commits s e);
  near = stamps_fit s (Call.terminate ∷ []) reach.Near z.level term_table z.near fits.level (end_commits s e) (λ k. get-term_table reach.Near k ∙ sym (end_part s reach.Near k e)) fits.near;
  far = stamps_fit s (Call.terminate ∷ []) reach.Far z.level term_table z.far fits.level (end_commits s e) (λ k. get-term_table reach.Far k ∙ sym (end_part s reach.Far k e)) fits.far;
}

-- calls that make no commit
stamps_stay : (m : Stamps) (s t : Script) (r : Reach) → commits (s ++ t) ≡ commits s → FitsStamps m s r → FitsStamps m (s ++ t) r
stamps_stay m s t r same fits key stamp = (
  λ is. subst (λ (c : ℕ). IsSealed (s ++ t) r key c stamp.number stamp.bytes) (sym same)
      (sealed_still_last s t r key (commits s) stamp.number stamp.bytes (omega arith) ((fits key stamp).0 is)),
  λ h. (fits key stamp).1 (sealed_before_last s t r key (commits s) stamp.number stamp.bytes (omega arith)
      (subst (λ (c : ℕ). IsSealed (s ++ t) r key c stamp.number stamp.bytes) same h)),
)

nothing_sealed : (z : Sealed) (s t : Script) → has_end t ≡ false → count_commits t ≡ 0 → FitsSealer z s → FitsSealer z (s ++ t)
nothing_sealed z s t e none fits =
    let same : commits (s ++ t) ≡ commits s = by_end s (end_is_last s t) (λ f. open_more s t f e ∙ omega (arith, none)) in
    record {
      ended = fits.ended ∙ sym (end_stays s t e);
      level = fits.level ∙ sym same;
      near = stamps_stay z.near s t reach.Near same fits.near;
      far = stamps_stay z.far s t reach.Far same fits.far;
    }

pub put_seals_nothing : PutSealsNothing
put_seals_nothing z s scope key value = nothing_sealed z s (Call.put scope key value ∷ []) refl refl

pub enter_seals_nothing : EnterSealsNothing
enter_seals_nothing z s f = nothing_sealed z s (Call.enter f ∷ []) refl refl

-- a commit that is made can be sealed
pub made_can : (b : Bool) (x w : Sealed) → ◌≡◌ {A = Result Sealed Refusal} (if b then Ok x else Err refusals.TooMany) (Ok w) → b ≡ true
made_can true x w h = refl
made_can false x w h = absurd cc

-- a commit that is made goes on with the script
pub commit_goes_on : (z w : Sealed) (b : Unsealed) (s : Script) → can_seal z b ≡ true → w ≡ sealed_with z b → FitsBatch b s → FitsSealer z s → FitsSealer w (s ++ Call.commit ∷ [])
commit_goes_on z w b s can made batch fits =
    let going : z.ended ≡ false = not-true z.ended (and_parts _ _ (and_parts _ _ (and_parts _ _ can).0).0).0 in
    subst (λ (x : Sealed). FitsSealer x (s ++ Call.commit ∷ [])) (sym made) (seal_fits z b s (sym fits.ended ∙ going) batch fits)

-- and so does an end, also where the process had ended
pub end_goes_on : (z : Sealed) (s : Script) → FitsSealer z s → FitsSealer (end_of z) (s ++ Call.terminate ∷ [])
end_goes_on z s fits = by_ended z.ended refl
  where
    by_ended : (b : Bool) → z.ended ≡ b → FitsSealer (cond b z (ended_with z)) (s ++ Call.terminate ∷ [])
    by_ended true e =
        let same : commits (s ++ Call.terminate ∷ []) ≡ commits s = end_is_last s (Call.terminate ∷ []) (sym fits.ended ∙ e) in
        record {
          ended = e ∙ sym (has_end_now s);
          level = fits.level ∙ sym same;
          near = stamps_stay z.near s (Call.terminate ∷ []) reach.Near same fits.near;
          far = stamps_stay z.far s (Call.terminate ∷ []) reach.Far same fits.far;
        }
    by_ended false e = end_fits z s (sym fits.ended ∙ e) fits

fits_for : (z : Sealed) (s : Script) (r : Reach) → FitsSealer z s → is_other r ≡ true → FitsStamps (stamps_for z r) s r
fits_for z s reach.Own fits other = absurd cc
fits_for z s reach.Near fits other = fits.near
fits_for z s reach.Far fits other = fits.far

pub pieces_are_honest : PiecesAreHonest
pieces_are_honest z s from r fits other = record {
  made = omega (arith, fits.level);
  entries = λ e. (
    λ i.
        let newer = newer_stamp from (stamps_for z r) e i in
        (subst (λ (n : ℕ). IsSealed s r e.key n e.number e.bytes) (sym fits.level) ((fits_for z s r fits other e.key (stamp_of e)).0 newer.0), newer.1),
    λ told.
        stamp_newer from (stamps_for z r) e
        ((fits_for z s r fits other e.key (stamp_of e)).1 (subst (λ (n : ℕ). IsSealed s r e.key n e.number e.bytes) fits.level told.0)) told.1,
  );
}

same_stamp : (a b : Option Stamp) → ((x : Stamp) → a ≡ Some x → b ≡ Some x) → ((x : Stamp) → b ≡ Some x → a ≡ Some x) → a ≡ b
same_stamp (Some x) b there back = sym (there x refl)
same_stamp None (Some y) there back = back y refl
same_stamp None None there back = refl

stamps_are_one : (m n : Stamps) (s : Script) (r : Reach) → FitsStamps m s r → FitsStamps n s r → m ≡ n
stamps_are_one m n s r a b = finite.same_map nat_list_cmp_total exact_bytes m n (λ q. same_stamp (finite.get m q) (finite.get n q) (λ x is. (b q x).1 ((a q x).0 is)) (λ x is. (a q x).1 ((b q x).0 is)))

pub sealer_is_one : SealerIsOne
sealer_is_one z w s a b proc =
    let level = a.level ∙ sym b.level in
    let ended = a.ended ∙ sym b.ended in
    let near = stamps_are_one z.near w.near s reach.Near a.near b.near in
    let far = stamps_are_one z.far w.far s reach.Far a.far b.far in
    λ i. record { proc = proc i; level = level i; ended = ended i; near = near i; far = far i }
