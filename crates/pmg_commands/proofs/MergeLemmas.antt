-- The texts of streams, and what they spell.
use Rattle.std.proofs.Common.{◌≡◌, ℕ, suc, zero, ◌+◌, ◌≤◌, ◌<◌, arith, ◌%◌, ◌==◌, Bool, true, false, cond, nat_lt, List, [], ◌∷◌, ◌++◌, length, drop, Option, Some, None, Result, Ok, Err, inl, inr, refl, ap, ◌∙◌, length-take, length-drop, count_by}
use Rattle.std.specs.List.{position, position_or_len, filter}
use Rattle.std.proofs.lemmas.Bool.{ltb-true, lt-ltb, le-ltb}
use Rattle.std.proofs.lemmas.List.Sums.{length-filter}
use Rattle.bstr.specs.Text.{lines_of, lines_from, line_len}
use Rattle.std.specs.Prelude.{IfSome, if◌then◌else◌}
use Rattle.pmg_value.specs.declared.refusal.Cause.TheVariants as causes
use Rattle.pmg_value.specs.declared.refusal.Fault.{Fault}
use Rattle.pmg_wire.specs.Reading.{fault, FailsReading, ◌>>=◌}
use Rattle.pmg_value.specs.declared.refusal.Refusal.{Refusal}
use Rattle.pmg_value.specs.declared.refusal.Refusal.TheVariants as refusals
use Rattle.pmg_store.specs.declared.failure.Failure.{Failure}
use Rattle.pmg_store.specs.declared.failure.Failure.TheVariants as failures
use Rattle.pmg_store.specs.Input.{input_of}
use Rattle.pmg_store.specs.Merged.{merge_of, too_many}
use Rattle.pmg_store.specs.Outcomes.{Dumps, FailsInput, Stops, or_failure}
use Rattle.pmg_store.proofs.OutcomeLemmas.{keeps_same, ok_is, refused_reading}
use Rattle.pmg_commands.specs.Merge.{is_separator, span, spans_from, spans_of, decoded_all, unless_fault, spans_merge, merge_text}
use Rattle.pmg_commands.specs.Text.{decoded, is_stray, digits_of, unless_stray}

-- how long lines are together
abbrev pub total : List (List ℕ) → ℕ
total [] = 0
total (line ∷ lines) = length line + total lines

-- the lines are no longer than the text
lines_fit : (n : ℕ) (text : List ℕ) → total (lines_from n text) ≤ length text
unfolding lines_from
lines_fit zero text = omega arith
lines_fit (suc n) [] = omega arith
lines_fit (suc n) (b ∷ rest) =
    let k = line_len (b ∷ rest) in
    let behind = lines_fit n (drop k (b ∷ rest)) in
    let front = length-take k (b ∷ rest) in
    let back = length-drop k (b ∷ rest) in
    omega (arith, behind, front, back)

pub all_lines_fit : (text : List ℕ) → 0 + total (lines_of text) ≤ length text
all_lines_fit text = let fit = lines_fit (length text) text in omega (arith, fit)

one_line : (separates : Bool) (start end next : ℕ) (line : List ℕ) (lines kept : List (List ℕ)) → length (spans_from next next lines) ≡ suc (length kept) → length (spans_from start next lines) ≡ suc (length kept) →
    length (if separates then span start end ∷ spans_from next next lines else spans_from start next lines) ≡ suc (length (cond separates (line ∷ kept) kept))
one_line true start end next line lines kept behind within = ap suc behind
one_line false start end next line lines kept behind within = within

-- each separator ends a text, and the last text has none
separated : (start end : ℕ) (lines : List (List ℕ)) → length (spans_from start end lines) ≡ suc (length (filter is_separator lines))
separated start end [] = refl
separated start end (line ∷ lines) =
    let next = end + length line in
    one_line (is_separator line) start end next line lines (filter is_separator lines) (separated next next lines) (separated start next lines)

pub count_spans : (text : List ℕ) → length (spans_of text) ≡ suc (count_by is_separator (lines_of text))
count_spans text = separated 0 0 (lines_of text) ∙ ap suc (length-filter is_separator (lines_of text))

-- streams after others
abbrev pub decoded_behind : List (List ℕ) → Result (List (List ℕ)) Fault → Result (List (List ℕ)) Fault
decoded_behind streams others = others >>= λ ss. Ok (streams ++ ss)

place_within : (here : Bool) (place len offset : ℕ) → nat_lt place len ≡ here → cond here (Some place) None ≡ Some offset → offset ≤ len
place_within true place len offset before is = let within = ltb-true place len before in let same : place ≡ offset = cc in omega (arith, within, same)
place_within false place len offset before is = absurd cc

pub decoded_at_start : (others : Result (List (List ℕ)) Fault) → decoded_behind [] others ≡ others
decoded_at_start (Ok ss) = refl
decoded_at_start (Err f) = refl

-- a fault stands in the text, or at its end
pub fault_within : (text : List ℕ) (f : Fault) → decoded text ≡ Err f → f.offset ≤ length text
unfolding decoded
fault_within text f is = parts (length (digits_of text) % 2 == 1) (position is_stray text) refl is
  where
    parts : (odd : Bool) (stray : Option ℕ) → position is_stray text ≡ stray → (if odd then Err (fault (length text) causes.Hex) else unless_stray stray (digits_of text)) ≡ Err f → f.offset ≤ length text
    parts true stray at is = let same : length text ≡ f.offset = cc in omega (arith, same)
    parts false (Some offset) at is = let same : offset ≡ f.offset = cc in let within = place_within (nat_lt (position_or_len is_stray text) (length text)) (position_or_len is_stray text) (length text) offset refl at in omega (arith, same, within)
    parts false None at is = absurd cc

-- ---- what a merge of texts answers

text_is : (text kept : List ℕ) → or_failure (input_of text) ≡ Ok kept → merge_text text ≡ spans_merge kept (spans_of kept)
unfolding merge_text
text_is text kept is = rw (ok_is (input_of text) kept is) refl

unread : (text : List ℕ) (failure : Failure) → or_failure (input_of text) ≡ Err failure → merge_text text ≡ Err failure
unfolding merge_text
unread text failure is = first (input_of text) is
  where
    first : (input : Result (List ℕ) Fault) → or_failure input ≡ Err failure → unless_fault input (λ kept. spans_merge kept (spans_of kept)) ≡ Err failure
    first (Ok kept) is = cc
    first (Err f) is = is

pub read_failed : (given known : Option (List ℕ)) (failure : Failure) → IfSome given (λ text. FailsInput failure (or_failure (input_of text))) →
    IfSome given (λ text. Stops known known failure (merge_text text))
read_failed None known failure fails = tt
read_failed (Some text) known failure (inl always) = inl (inl always, keeps_same known)
read_failed (Some text) known failure (inr due) = inl (inr (unread text failure due), keeps_same known)

many_spans : (kept : List ℕ) → 64 ≤ count_by is_separator (lines_of kept) → spans_merge kept (spans_of kept) ≡ Err too_many
unfolding spans_merge
many_spans kept many = let more = count_spans kept in rw (lt-ltb 64 (length (spans_of kept)) (omega (arith, more, many))) refl

pub many_texts : (given known : Option (List ℕ)) (kept : List ℕ) → IfSome given (λ text. or_failure (input_of text) ≡ Ok kept) →
    64 ≤ count_by is_separator (lines_of kept) → IfSome given (λ text. Stops known known too_many (merge_text text))
many_texts None known kept read many = tt
many_texts (Some text) known kept read many = inl (inr (text_is text kept read ∙ many_spans kept many), keeps_same known)

few_spans : (kept : List ℕ) → count_by is_separator (lines_of kept) < 64 →
    spans_merge kept (spans_of kept) ≡ unless_fault (decoded_all kept (spans_of kept)) merge_of
unfolding spans_merge
few_spans kept few = let more = count_spans kept in rw (le-ltb 64 (length (spans_of kept)) (omega (arith, more, few))) refl

fault_first : {X : Type 0} (first : Result X Fault) (next : X → Result (List ℕ) Failure) (failure : Failure) → FailsInput failure (or_failure first) →
    FailsInput failure (unless_fault first next)
fault_first first next failure (inl always) = inl always
fault_first (Ok x) next failure (inr due) = cc
fault_first (Err f) next failure (inr due) = let same : failures.Refused (refusals.BadFrame f) ≡ failure = cc in inr (ap Err same)

pub undecoded : (given known : Option (List ℕ)) (kept : List ℕ) (refusal : Refusal) → IfSome given (λ text. or_failure (input_of text) ≡ Ok kept) →
    count_by is_separator (lines_of kept) < 64 → FailsReading refusal (decoded_all kept (spans_of kept)) →
    IfSome given (λ text. Stops known known (failures.Refused refusal) (merge_text text))
undecoded None known kept refusal read few fails = tt
undecoded (Some text) known kept refusal read few fails =
    let due = text_is text kept read ∙ few_spans kept few in
    rw due (inl (fault_first (decoded_all kept (spans_of kept)) merge_of (failures.Refused refusal) (refused_reading refusal (decoded_all kept (spans_of kept)) fails), keeps_same known))

pub merged_texts : (given old new : Option (List ℕ)) (result : Result (Unit {0}) Failure) (kept : List ℕ) (streams : List (List ℕ)) →
    IfSome given (λ text. or_failure (input_of text) ≡ Ok kept) → count_by is_separator (lines_of kept) < 64 → decoded_all kept (spans_of kept) ≡ Ok streams →
    Dumps old new result (merge_of streams) → IfSome given (λ text. Dumps old new result (merge_text text))
merged_texts None old new result kept streams read few is merges = tt
merged_texts (Some text) old new result kept streams read few is merges =
    let due = text_is text kept read ∙ few_spans kept few ∙ ap (λ first. unless_fault first merge_of) is in
    rw due merges
