-- Building the elements of an array, one after another.
use Rattle.std.proofs.Common.{◌≡◌, ℕ, ◌+◌, ◌-◌, ◌<◌, ◌≤◌, true, ◌&&◌, List, [], ◌∷◌, ◌++◌, length, map, None, Ok, Err, IsTrue, refl, sym, ap, subst, ◌∙◌, arith}
use Rattle.std.proofs.lemmas.List.{map_push, length-append}
use Rattle.std.proofs.lemmas.List.Folds.{list_all-append}
use Rattle.std.proofs.lemmas.Bool.{and_from}
use Rattle.pmg_value.specs.declared.refusal.Refusal.{Refusal}
use Rattle.pmg_value.specs.declared.value.Value.{Value}
use Rattle.pmg_value.specs.Items.{number_value, number_width}
use Rattle.pmg_value.specs.Plain.{Plain, plain_body, is_plain_tag}
use Rattle.pmg_value.specs.Spelling.{Form, form, form_tag, tag_of, is_plain_form, plain_of, are_plain, plains_of}
use Rattle.pmg_value.proofs.NumberLemmas.{number_tag}
use Rattle.pmg_wire.specs.Fields.{made, read_plain}
use Rattle.pmg_wire.specs.Many.{many}
use Rattle.pmg_wire.specs.Reading.{Place, Read, IsBytes, FailsReading}
use Rattle.pmg_wire.proofs.Counted.{with_front, last_of, goes_on, ends, is_done}
use Rattle.pmg_wire.proofs.Passing.{was_made, fails_made}
use Rattle.pmg_wire.proofs.PlainLaws.{plain_if}
use Rattle.pmg_wire.proofs.Steps.{IsBytes-after}

-- the elements so far, none of them an array, and those that are still read, are all of them; what is left are
-- bytes, no more than a value's body
pub record HasRead (tag count i : ℕ) (items : List Value) (at : Place) (total : Read (List Plain)) : Type 0 where
  pub read : with_front (plains_of items) (many (λ _. read_plain tag) (count - i) (last_of (plains_of items)) at) ≡ total
  pub plain : IsTrue (are_plain items)
  pub bytes : IsBytes at.rest
  pub short : length at.rest ≤ 1048575

no_front : (read : Read (List Plain)) → with_front [] read ≡ read
no_front (Ok x) = refl
no_front (Err f) = refl

pub starts : (tag count : ℕ) (items : List Value) (at : Place) → items ≡ [] → IsBytes at.rest → length at.rest ≤ 1048575 → HasRead tag count 0 items at (many (λ _. read_plain tag) count None at)
starts tag count items at none bytes short =
    let all : count - 0 ≡ count = omega arith in
    rw none (record { read = rw all (no_front (many (λ _. read_plain tag) count None at)); plain = refl; bytes = bytes; short = short })

pub one_more : (tag count i : ℕ) (items grown : List Value) (v : Value) (at after : Place) (total : Read (List Plain)) → i < count
    → grown ≡ items ++ v ∷ [] → made Form.plain (read_plain tag at) ≡ Ok (form v, after) → HasRead tag count i items at total → HasRead tag count (i + 1) grown after total
one_more tag count i items grown v at after total lt e read h =
    let m = was_made Form.plain (read_plain tag at) (form v) after read in
    let t = (plain_if tag at h.bytes).holds m.0 after m.1 in
    let own : plain_of (form v) ≡ m.0 = ap plain_of (sym m.2) in
    let is_plain : IsTrue (is_plain_form (form v)) = ap is_plain_form (sym m.2) in
    let front = plains_of items in
    let plains : plains_of grown ≡ front ++ m.0 ∷ [] = ap plains_of e ∙ map_push (λ (w : Value). plain_of (form w)) items v ∙ ap (λ (p : Plain). front ++ p ∷ []) own in
    record {
      read = rw plains (goes_on (λ _. read_plain tag) front count i at m.0 after total lt m.1 h.read);
      plain = rw e (list_all-append (λ (w : Value). is_plain_form (form w)) items (v ∷ []) ∙ and_from (are_plain items) (is_plain_form (form v) && true) h.plain (and_from (is_plain_form (form v)) true is_plain refl));
      bytes = IsBytes-after (plain_body m.0) h.bytes t.takes;
      short = omega (arith, h.short, ap length t.takes.parts, length-append (plain_body m.0) after.rest);
    }

pub stops : (tag count i : ℕ) (items : List Value) (e : Refusal) (at : Place) (total : Read (List Plain)) → i < count
    → FailsReading e (made Form.plain (read_plain tag at)) → HasRead tag count i items at total → FailsReading e total
stops tag count i items e at total lt failed h = ends (λ _. read_plain tag) e (plains_of items) count i at total lt (fails_made Form.plain e (read_plain tag at) failed) h.read

pub all_read : (tag count i : ℕ) (items : List Value) (at : Place) (total : Read (List Plain)) → count ≤ i → HasRead tag count i items at total → total ≡ Ok (plains_of items, at)
all_read tag count i items at total le h = is_done (λ _. read_plain tag) (plains_of items) count i at total le h.read

-- what is read of a kind is of it
kind_read : (tag : ℕ) (v : Value) (at after : Place) → IsBytes at.rest → IsTrue (is_plain_tag tag) → made Form.plain (read_plain tag at) ≡ Ok (form v, after) → tag_of v ≡ tag
kind_read tag v at after bytes is read =
    let m = was_made Form.plain (read_plain tag at) (form v) after read in
    let t = (plain_if tag at bytes).holds m.0 after m.1 in
    ap form_tag (sym m.2) ∙ sym (t.tag_is is)

-- a number more is the value more that was read
pub number_more : (tag n : ℕ) (ns grown : List ℕ) (v : Value) (at after : Place) → 0 < number_width tag → IsBytes at.rest → grown ≡ ns ++ n ∷ []
    → (0 < number_width (tag_of v) → number_value (tag_of v) n ≡ v) → made Form.plain (read_plain tag at) ≡ Ok (form v, after)
    → map (number_value tag) grown ≡ map (number_value tag) ns ++ v ∷ []
number_more tag n ns grown v at after some bytes e kept read =
    let same = kind_read tag v at after bytes (number_tag tag some) read in
    let is : number_value tag n ≡ v = subst (λ t. 0 < number_width t → number_value t n ≡ v) same kept some in
    ap (map (number_value tag)) e ∙ map_push (number_value tag) ns n ∙ ap (λ (w : Value). map (number_value tag) ns ++ w ∷ []) is
