-- Streams that are merged, in whatever order, print what they print as one stream.
use Rattle.std.proofs.Common.{◌≡◌, ℕ, suc, nat_lt, nat_le, ◌≤◌, ◌==◌, Bool, true, false, arith, List, [], ◌∷◌, ◌++◌, length, map, Option, Some, None, Result, Ok, Err, inl, inr, refl, sym, ap, subst, ◌∙◌, append-nil}
use Rattle.std.specs.List.{flat_map}
use Rattle.std.specs.Prelude.{if◌then◌else◌, OnOk}
use Rattle.std.proofs.lemmas.Bool.{ltb-false, eqb-true}
use Rattle.std.proofs.lemmas.Grind.{flat_map-append}
use Rattle.std.proofs.lemmas.List.{map-append}
use Rattle.pmg_value.specs.declared.refusal.Cause.TheVariants as causes
use Rattle.pmg_value.specs.declared.refusal.Fault.{Fault}
use Rattle.pmg_value.specs.Lists.{In, Each, SameItems}
use Rattle.pmg_value.proofs.ListLemmas.{in_append_left, in_append_right, in_parts}
use Rattle.pmg_wire.specs.Reading.{Place, fault, IsBytes, Takes, ◌>>=◌}
use Rattle.pmg_commit.specs.Knowledge.{Contribution}
use Rattle.pmg_frame.specs.declared.frame.Frame.{Frame}
use Rattle.pmg_frame.specs.declared.frame.Frame.TheVariants as frames
use Rattle.pmg_frame.specs.Grammar.{IsSpelt}
use Rattle.pmg_frame.specs.Reading.{read_frame}
use Rattle.pmg_frame.specs.Versions.{Spelt, spelt_text}
use Rattle.pmg_frame.specs.Streams.{stream_said}
use Rattle.pmg_frame.proofs.Cuts.{is_said, is_found}
use Rattle.pmg_store.specs.Convergence.{MergesAlike, MergesAsOne}
use Rattle.pmg_store.specs.declared.failure.Failure.{Failure}
use Rattle.pmg_store.specs.Dump.{dump}
use Rattle.pmg_store.specs.Input.{too_much_input}
use Rattle.pmg_store.specs.declared.input.TheConstants.{INPUT_LIMIT}
use Rattle.pmg_store.specs.Merged.{told_by_input, told_first, told_from, made_of, merge_of, too_many, one_after_the_other}
use Rattle.pmg_store.specs.Outcomes.{Dumps, WritesDue}
use Rattle.pmg_store.specs.Pieces.{data_of}
use Rattle.pmg_store.specs.Told.{contributions, with_told, told_by_said, told_in, data_told}
use Rattle.pmg_frame.specs.Refreshing.{told_by}
use Rattle.pmg_store.proofs.Converging.{same_in_any_order}
use Rattle.pmg_store.proofs.MergeLemmas.{few_due}
use Rattle.pmg_store.proofs.ToldLemmas.{start, told_of_feed}

-- ---- what one stream tells among the streams

-- the first stream told these, and the others those
told_apart : (number : ℕ) (bytes : List ℕ) (others : List (List ℕ)) (cs : List Contribution) → told_from number (bytes ∷ others) ≡ Ok cs →
    (one : List Contribution) × (rest : List Contribution) × (told_by_input bytes ≡ Ok one) × (told_from (suc number) others ≡ Ok rest) × (one ++ rest ≡ cs)
told_apart number bytes others cs is = parts (told_by_input bytes) (told_from (suc number) others) is
  where
    parts : (first : Result (List Contribution) Fault) (behind : Result (List Contribution) Failure) → told_first number first behind ≡ Ok cs →
        (one : List Contribution) × (rest : List Contribution) × (first ≡ Ok one) × (behind ≡ Ok rest) × (one ++ rest ≡ cs)
    parts (Ok one) (Ok rest) is = (one, rest, refl, refl, cc)
    parts (Ok one) (Err e) is = cc
    parts (Err f) behind is = cc

-- each of the streams told some of it
told_one : (number : ℕ) (streams : List (List ℕ)) (cs : List Contribution) → told_from number streams ≡ Ok cs → (bytes : List ℕ) → In bytes streams →
    (one : List Contribution) × (told_by_input bytes ≡ Ok one) × ((c : Contribution) → In c one → In c cs)
told_one number [] cs is bytes i = absurd i
told_one number (first ∷ others) cs is bytes (inl e) =
    let apart = told_apart number first others cs is in
    (apart.0, ap told_by_input e ∙ apart.2, λ c i. subst (In c) apart.4 (in_append_left apart.0 apart.1 c i))
told_one number (first ∷ others) cs is bytes (inr i) =
    let apart = told_apart number first others cs is in
    let one = told_one (suc number) others apart.1 apart.3 bytes i in
    (one.0, one.1, λ c j. subst (In c) apart.4 (in_append_right apart.0 apart.1 c (one.2 c j)))

-- all of it was told by some stream
told_some : (number : ℕ) (streams : List (List ℕ)) (cs : List Contribution) → told_from number streams ≡ Ok cs → (c : Contribution) → In c cs →
    (bytes : List ℕ) × (one : List Contribution) × In bytes streams × (told_by_input bytes ≡ Ok one) × In c one
told_some number [] cs is c i = let none : [] ≡ cs = cc in absurd (subst (In c) (sym none) i)
told_some number (first ∷ others) cs is c i =
    let apart = told_apart number first others cs is in
    elim (in_parts apart.0 apart.1 c (subst (In c) (sym apart.4) i)) [
      | inl a ↦ (first, apart.0, inl refl, apart.2, a)
      | inr b ↦ let some = told_some (suc number) others apart.1 apart.3 c b in (some.0, some.1, inr some.2, some.3, some.4)
    ]

-- where each stream is without a fault, so are all
all_told : (number : ℕ) (streams : List (List ℕ)) → ((bytes : List ℕ) → In bytes streams → (one : List Contribution) × (told_by_input bytes ≡ Ok one)) →
    (cs : List Contribution) × (told_from number streams ≡ Ok cs)
all_told number [] each = ([], refl)
all_told number (first ∷ others) each =
    let one = each first (inl refl) in
    let rest = all_told (suc number) others (λ bytes i. each bytes (inr i)) in
    (one.0 ++ rest.0, rw (one.1, rest.1) refl)

some_in : (xs ys : List (List ℕ)) (cs ds : List Contribution) → ((bytes : List ℕ) → In bytes xs → In bytes ys) → told_from 1 xs ≡ Ok cs → told_from 1 ys ≡ Ok ds → (c : Contribution) → In c cs → In c ds
some_in xs ys cs ds within first second c i =
    let some = told_some 1 xs cs first c i in
    let one = told_one 1 ys ds second some.0 (within some.0 some.2) in
    let same : some.1 ≡ one.0 = let both = sym some.3 ∙ one.1 in cc in
    one.2 c (subst (In c) same some.4)

-- ---- in any order

contributions_of : (streams : List (List ℕ)) (text : List ℕ) → merge_of streams ≡ Ok text → (cs : List Contribution) × (length streams ≤ 64) × (told_from 1 streams ≡ Ok cs) × (dump (data_of cs) ≡ text)
unfolding merge_of
contributions_of streams text is = parts (nat_lt 64 (length streams)) (told_from 1 streams) refl refl is
  where
    parts : (many : Bool) (told : Result (List Contribution) Failure) → nat_lt 64 (length streams) ≡ many → told_from 1 streams ≡ told →
        (if many then Err too_many else made_of (λ cs. dump (data_of cs)) told) ≡ Ok text →
        (cs : List Contribution) × (length streams ≤ 64) × (told_from 1 streams ≡ Ok cs) × (dump (data_of cs) ≡ text)
    parts true told few at is = cc
    parts false (Ok cs) few at is = (cs, ltb-false 64 (length streams) few, at, cc)
    parts false (Err e) few at is = cc

pub merges_alike : MergesAlike
merges_alike xs ys text same few is =
    let first = contributions_of xs text is in
    let second = all_told 1 ys (λ bytes i. let one = told_one 1 xs first.0 first.2 bytes ((same bytes).1 i) in (one.0, one.1)) in
    let equal = same_in_any_order first.0 second.0 (λ c. (some_in xs ys first.0 second.0 (λ bytes. (same bytes).0) first.2 second.1 c, some_in ys xs second.0 first.0 (λ bytes. (same bytes).1) second.1 first.2 c)) in
    few_due ys few ∙ ap (made_of (λ cs. dump (data_of cs))) second.1 ∙ ap Ok (ap dump (sym equal) ∙ first.3)

-- so a merge that wrote what is due for some streams wrote what is due for the same streams in another order
pub written_alike : {T : Type 0} (old new : Option (List ℕ)) (result : Result T Failure) (xs ys : List (List ℕ)) → SameItems xs ys → length ys ≤ 64 →
    Dumps old new result (merge_of xs) → OnOk result (WritesDue old new (merge_of ys))
written_alike old new (Err e) xs ys same few dumps = tt
written_alike old new (Ok done) xs ys same few dumps = by_due (merge_of xs) refl dumps where
  by_due : (due : Result (List ℕ) Failure) → merge_of xs ≡ due → WritesDue old new due → WritesDue old new (merge_of ys)
  by_due (Ok text) is wrote = rw (merges_alike xs ys text same few is) wrote
  by_due (Err e) is wrote = absurd wrote

-- ---- as one

-- a stream of whole frames, each in its version, which tell these contributions
record IsWhole (bytes : List ℕ) (cs : List Contribution) : Type 0 where
  spelt : List Spelt
  spelled : bytes ≡ flat_map spelt_text spelt
  are : Each IsSpelt spelt
  told : contributions (map (λ s. s.frame) spelt) ≡ cs

no_item : {X : Type 0} (xs : List X) → length xs ≡ 0 → xs ≡ []
no_item [] none = refl
no_item (x ∷ xs) none = absurd (omega arith)

ended : {cs : List Contribution} (fs : List Frame) (f : Fault) (left : ℕ) (none : Bool) → (left == 0) ≡ none → (if none then Ok (contributions fs) else Err f) ≡ Ok cs → (contributions fs ≡ cs) × (left ≡ 0)
ended fs f left true none is = (cc, eqb-true left 0 none)
ended fs f left false none is = absurd cc

whole : (bytes : List ℕ) (cs : List Contribution) → IsBytes bytes → told_in bytes ≡ Ok cs → IsWhole bytes cs
unfolding told_in
whole bytes cs fits is =
    let said = stream_said bytes in
    let says = is_said bytes fits in
    let all = parts said.frames said.fault said.end.offset (length said.end.rest) is in
    let text = flat_map spelt_text says.spelt in
    record {
      spelt = says.spelt;
      spelled = says.takes.parts ∙ ap (λ rest. text ++ rest) (no_item said.end.rest all.1) ∙ append-nil text;
      are = says.are;
      told = ap contributions says.are_those ∙ all.0;
    }
  where
    parts : (fs : List Frame) (f : Option Fault) (offset left : ℕ) → told_by_said fs f offset left ≡ Ok cs → (contributions fs ≡ cs) × (left ≡ 0)
    parts fs (Some f) offset left is = cc
    parts fs None offset left is = ended fs (fault offset causes.Cut) left (left == 0) refl is

-- after the last whole frame no other follows
nothing_follows : (offset : ℕ) → read_frame (record { offset = offset; rest = [] }) ≡ Ok None
unfolding read_frame
nothing_follows offset = refl

told_whole : (bytes : List ℕ) (cs : List Contribution) → IsWhole bytes cs → told_in bytes ≡ Ok cs
told_whole bytes cs w =
    let text = flat_map spelt_text w.spelt in
    let fs = map (λ (s : Spelt). s.frame) w.spelt in
    let end : Place = record { offset = length text; rest = [] } in
    let takes : Takes (record { offset = 0; rest = bytes }) text end = record { parts = w.spelled ∙ sym (append-nil text); place = omega arith } in
    let fed = is_found start end bytes fs None (record { spelt = w.spelt; are_those = refl; takes = takes; are = w.are; stops = nothing_follows end.offset }) in
    let last : end ≡ fed.end = let same = fed.left in cc in
    told_of_feed bytes fs None (Some end) fed ∙ (λ i. told_by_said fs None (sym last i).offset (length (sym last i).rest)) ∙ ap Ok w.told

are_both : (ss ts : List Spelt) → Each IsSpelt ss → Each IsSpelt ts → Each IsSpelt (ss ++ ts)
are_both [] ts first second = second
are_both (s ∷ ss) ts first second = (first.0, are_both ss ts first.1 second)

with_both : (o : Option Contribution) (cs ds es : List Contribution) → cs ≡ ds ++ es → with_told o cs ≡ with_told o ds ++ es
with_both None cs ds es e = e
with_both (Some c) cs ds es e = ap (λ xs. c ∷ xs) e

told_both : (fs gs : List Frame) → contributions (fs ++ gs) ≡ contributions fs ++ contributions gs
told_both [] gs = refl
told_both (frames.Piece c ∷ fs) gs = ap (λ cs. c ∷ cs) (told_both fs gs)
told_both (frames.Header h ∷ fs) gs = told_both fs gs
told_both (frames.FenceAsk a ∷ fs) gs = told_both fs gs
told_both (frames.RangeAsk a ∷ fs) gs = told_both fs gs
told_both (frames.DirectAsk a ∷ fs) gs = told_both fs gs
told_both (frames.RefreshAsk a ∷ fs) gs = told_both fs gs
told_both (frames.RefreshReply r ∷ fs) gs = with_both (told_by r) (contributions (fs ++ gs)) (contributions fs) (contributions gs) (told_both fs gs)

both_whole : (a b : List ℕ) (xs ys : List Contribution) → IsWhole a xs → IsWhole b ys → IsWhole (a ++ b) (xs ++ ys)
both_whole a b xs ys v w = record {
  spelt = v.spelt ++ w.spelt;
  spelled = (λ i. v.spelled i ++ w.spelled i) ∙ sym (flat_map-append spelt_text v.spelt w.spelt);
  are = are_both v.spelt w.spelt v.are w.are;
  told =
      ap contributions (map-append (λ (s : Spelt). s.frame) v.spelt w.spelt)
      ∙ told_both (map (λ (s : Spelt). s.frame) v.spelt) (map (λ (s : Spelt). s.frame) w.spelt)
      ∙ (λ i. v.told i ++ w.told i);
}

told_alone : (bytes : List ℕ) (cs : List Contribution) → told_by_input bytes ≡ Ok cs → told_in bytes ≡ Ok cs
told_alone bytes cs is = parts (nat_le (length bytes) INPUT_LIMIT) is
  where
    parts : (few : Bool) → ((if few then Ok bytes else Err too_much_input) >>= told_in) ≡ Ok cs → told_in bytes ≡ Ok cs
    parts true is = is
    parts false is = absurd cc

all_whole : (number : ℕ) (streams : List (List ℕ)) (cs : List Contribution) → Each IsBytes streams → told_from number streams ≡ Ok cs → IsWhole (one_after_the_other streams) cs
all_whole number [] cs fits is = record { spelt = []; spelled = refl; are = tt; told = cc }
all_whole number (bytes ∷ others) cs fits is =
    let apart = told_apart number bytes others cs is in
    let first = whole bytes apart.0 fits.0 (told_alone bytes apart.0 apart.2) in
    let behind = all_whole (suc number) others apart.1 fits.1 apart.3 in
    subst (IsWhole (bytes ++ one_after_the_other others)) apart.4 (both_whole bytes (one_after_the_other others) apart.0 apart.1 first behind)

pub merges_as_one : MergesAsOne
unfolding data_told
merges_as_one streams text fits is =
    let of = contributions_of streams text is in
    let told = told_whole (one_after_the_other streams) of.0 (all_whole 1 streams of.0 fits of.2) in
    rw told (ap Ok of.3)
