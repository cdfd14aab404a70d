-- An array or another value's body that is read was spelled so, and what is spelled so is read.
use Rattle.std.proofs.Common.{◌≡◌, ℕ, ◌+◌, ◌^◌, ◌<◌, ◌≤◌, true, false, ◌&&◌, nat_lt, nat_le, ◌==◌, List, [], ◌∷◌, ◌++◌, length, Option, Some, None, Ok, IsTrue, refl, sym, ap, ◌∙◌, append_assoc, arith}
use Rattle.std.specs.Int.{w32, to_be_bytes}
use Rattle.std.proofs.lemmas.List.{length-append}
use Rattle.std.proofs.lemmas.Bool.{and_parts, and_from, eqb-true, eqb-false, eq-eqb, ne_eqb, ltb-true, lt-ltb, leb-true, le-leb}
use Rattle.pmg_value.specs.declared.refusal.Cause.TheVariants as causes
use Rattle.pmg_value.specs.Lists.{Each}
use Rattle.pmg_value.specs.Plain.{Plain, plain_tag, plain_body, is_plain_tag, IsPlain}
use Rattle.pmg_value.specs.Elements.{Elements, IsArray, bodies, array_body, are_of_kind, is_array}
use Rattle.pmg_value.specs.declared.value.Value.{Value}
use Rattle.pmg_value.specs.Spelling.{Form, IsForm, form_tag, form_body, are_plain, elements, makes_array}
use Rattle.pmg_value.proofs.FormLemmas.{plain_tag_is}
use Rattle.pmg_wire.specs.Fields.{made, read_plain, read_array, read_value_body}
use Rattle.pmg_wire.specs.Many.{many, Chain}
use Rattle.pmg_wire.specs.Reading.{Place, Read, fault, ◌>>=◌, byte_at, number_at, IsBytes, Takes}
use Rattle.pmg_wire.proofs.BlobLaws.{number_len, taken_short}
use Rattle.pmg_wire.proofs.Counted.{TakesOne, many_if, many_again}
use Rattle.pmg_wire.proofs.PlainLaws.{plain_if, plain_again, plain_short}
use Rattle.pmg_value.proofs.ArrayLemmas.{some_bytes}
use Rattle.pmg_wire.proofs.Steps.{place, IfRead, bind_if, check_if, done_if, choice_if, Takes-then, IsBytes-after, wide32, number_if, number_again, byte_if, byte_again}

-- an element that was read after that tag: it keeps the rules of its kind where its length does
pub record IsElement (tag : ℕ) (p : Plain) : Type 0 where
  pub tag_is : plain_tag p ≡ tag
  pub is : length (plain_body p) ≤ 1048575 → IsPlain p

-- an element, whatever stands before it
element_if : (tag : ℕ) → IsTrue (is_plain_tag tag) → (before : Option Plain) (at : Place) → IsBytes at.rest
    → IfRead (read_plain tag at) (TakesOne plain_body (λ _ p. IsElement tag p) before at)
element_if tag is before at fits = record {
  holds = λ p after e.
      let t = (plain_if tag at fits).holds p after e in
      record { takes = t.takes; follows = record { tag_is = sym (t.tag_is is); is = t.is } };
}

-- elements that were read are of that kind, and keep its rules where their length does
elements_are : (tag : ℕ) (before : Option Plain) (ps : List Plain) → Chain (λ _ p. IsElement tag p) before ps → length (bodies ps) ≤ 1048575
    → IsTrue (are_of_kind tag ps) × Each IsPlain ps
elements_are tag before [] chain small = (refl, tt)
elements_are tag before (p ∷ ps) chain small =
    let sum = length-append (plain_body p) (bodies ps) in
    let own : length (plain_body p) ≤ 1048575 = omega (arith, small, sum) in
    let others = elements_are tag (Some p) ps chain.1 (omega (arith, small, sum)) in
    (and_from (plain_tag p == tag) (are_of_kind tag ps) (eq-eqb _ _ chain.0.tag_is) others.0, (chain.0.is own, others.1))

-- what an array took
pub record TakesArray (at : Place) (a : Elements) (after : Place) : Type 0 where
  pub takes : Takes at (array_body a) after
  pub is : length (array_body a) ≤ 1048575 → IsArray a

is_array_of : (tag : ℕ) (ps : List Plain) → IsTrue (is_plain_tag tag) → Chain (λ _ p. IsElement tag p) None ps
    → length (array_body (record { tag = tag; plains = ps })) ≤ 1048575 → IsArray (record { tag = tag; plains = ps })
is_array_of tag ps is chain small =
    let count = to_be_bytes w32 (length ps) in
    let are = elements_are tag None ps chain (omega (arith, small, length-append count (bodies ps))) in
    let long = le-leb (1 + length (tag ∷ (count ++ bodies ps))) 1048576 (omega (arith, small)) in
    record {
      is = and_from (is_plain_tag tag && are_of_kind tag ps) (nat_le (1 + length (tag ∷ (count ++ bodies ps))) 1048576) (and_from (is_plain_tag tag) (are_of_kind tag ps) is are.0) long;
      each = are.1;
    }

pub array_if : (at : Place) → IsBytes at.rest → IfRead (read_array at) (TakesArray at)
unfolding read_array
array_if at fits = bind_if _ (byte_if at) (λ tag after t.
    let bad = fault at.offset causes.Tag in
    let last : List Plain × Place → Read Elements = λ plains. Ok (record { tag = tag; plains = plains.0 }, plains.1) in
    let listed : ℕ × Place → Read Elements = λ count. many (λ _. read_plain tag) count.0 None count.1 >>= last in
    check_if (is_plain_tag tag) bad (λ _. number_at w32 after >>= listed) (λ is.
    let after_fits : IsBytes after.rest = IsBytes-after (tag ∷ []) fits t.takes in
    bind_if listed (number_if w32 (2 ^ 32) wide32 after after_fits) (λ count middle n.
    let middle_fits : IsBytes middle.rest = IsBytes-after (to_be_bytes w32 count) after_fits n.takes in
    bind_if last (many_if (λ _. read_plain tag) plain_body (λ _ p. IsElement tag p) (element_if tag is) count None middle middle_fits) (λ plains end m.
    done_if (record {
      takes = Takes-then (tag ∷ []) (to_be_bytes w32 (length plains) ++ bodies plains) t.takes (Takes-then (to_be_bytes w32 (length plains)) (bodies plains) (rw m.len n.takes) m.takes);
      is = is_array_of tag plains is m.chain;
    })))))

-- after the tag and the count of an array there are no more bytes than before them
pub fewer_left : (at after middle : Place) (tag count : ℕ) → byte_at at ≡ Ok (tag, after) → number_at w32 after ≡ Ok (count, middle) → length at.rest ≤ 1048575 → length middle.rest ≤ 1048575
fewer_left at after middle tag count first second short =
    let t = ((byte_if at).holds tag after first).takes in
    omega (arith, short, ap length t.parts, (number_len w32 after).holds count middle second)

-- items that were read from bytes that are no more than a value's body make an array
pub makes_one : (at end : Place) (tag : ℕ) (items : List Value) → IsBytes at.rest → length at.rest ≤ 1048575 → read_array at ≡ Ok (elements tag items, end) → IsTrue (are_plain items) → makes_array tag items ≡ true
makes_one at end tag items fits short read plain =
    let t = (array_if at fits).holds (elements tag items) end read in
    and_from (are_plain items) (is_array (elements tag items)) plain (t.is (taken_short (array_body (elements tag items)) t.takes short)).is

-- ---- and again

-- an element that is read again after that tag
record IsElementAgain (tag : ℕ) (p : Plain) : Type 0 where
  tag_is : plain_tag p ≡ tag
  is : IsPlain p

element_again : (tag : ℕ) (before : Option Plain) (o : ℕ) (p : Plain) (rest : List ℕ) → IsElementAgain tag p
    → read_plain tag (place o (plain_body p ++ rest)) ≡ Ok (p, place (o + length (plain_body p)) rest)
element_again tag before o p rest h = ap (λ (t : ℕ). read_plain t (place o (plain_body p ++ rest))) (sym h.tag_is) ∙ plain_again o p rest h.is

chain_again : (tag : ℕ) (before : Option Plain) (ps : List Plain) → IsTrue (are_of_kind tag ps) → Each IsPlain ps → Chain (λ _ p. IsElementAgain tag p) before ps
chain_again tag before [] kind each = tt
chain_again tag before (p ∷ ps) kind each =
    let parts = and_parts (plain_tag p == tag) (are_of_kind tag ps) kind in
    (record { tag_is = eqb-true _ _ parts.0; is = each.0 }, chain_again tag (Some p) ps parts.1 each.1)

-- what an array that a value may be keeps
pub record HasParts (a : Elements) : Type 0 where
  pub tag_is : IsTrue (is_plain_tag a.tag)
  pub kind : IsTrue (are_of_kind a.tag a.plains)
  pub short : length (array_body a) ≤ 1048575

pub array_parts : (a : Elements) → IsArray a → HasParts a
array_parts a is =
    let whole = and_parts (is_plain_tag a.tag && are_of_kind a.tag a.plains) (nat_le (1 + length (array_body a)) 1048576) is.is in
    let two = and_parts (is_plain_tag a.tag) (are_of_kind a.tag a.plains) whole.0 in
    let le = leb-true (1 + length (array_body a)) 1048576 whole.1 in
    record { tag_is = two.0; kind = two.1; short = omega (arith, le) }

pub array_again : (o : ℕ) (a : Elements) (rest : List ℕ) → IsArray a → read_array (place o (array_body a ++ rest)) ≡ Ok (a, place (o + length (array_body a)) rest)
unfolding read_array
array_again o a rest is =
    let parts = array_parts a is in
    let tag_is = parts.tag_is in
    let count = to_be_bytes w32 (length a.plains) in
    let behind = bodies a.plains ++ rest in
    let sum = length-append count (bodies a.plains) in
    let small : length a.plains < 2 ^ 32 = omega (arith, some_bytes a.plains, parts.short, sum) in
    let regrouped : place o (array_body a ++ rest) ≡ place o (a.tag ∷ (count ++ behind)) = ap (λ (t : List ℕ). place o (a.tag ∷ t)) (append_assoc count (bodies a.plains) rest) in
    let first = byte_again o a.tag (count ++ behind) in
    let second = number_again w32 (2 ^ 32) wide32 (o + 1) (length a.plains) behind small in
    let chain = chain_again a.tag None a.plains parts.kind is.each in
    let third = many_again (λ _. read_plain a.tag) plain_body (λ _ p. IsElementAgain a.tag p) (element_again a.tag) None (o + 1 + 4) a.plains rest chain in
    let end : o + 1 + 4 + length (bodies a.plains) ≡ o + length (array_body a) = omega (arith, sum) in
    ap read_array regrouped ∙ rw (first, tag_is, second, third) (ap (λ (n : ℕ). Ok (a, place n rest)) end)

-- ---- bodies

-- what the body after a tag took
pub record TakesBody (tag : ℕ) (at : Place) (f : Form) (after : Place) : Type 0 where
  pub takes : Takes at (form_body f) after
  pub tag_is : IsTrue (nat_lt 0 tag && nat_lt tag 20) → tag ≡ form_tag f
  pub is : length (form_body f) ≤ 1048575 → IsForm f

-- a tag of a value that is no array's
other_tag : (tag : ℕ) → (tag == 19) ≡ false → IsTrue (nat_lt 0 tag && nat_lt tag 20) → IsTrue (is_plain_tag tag)
other_tag tag ne is =
    let parts = and_parts (nat_lt 0 tag) (nat_lt tag 20) is in
    let below = ltb-true tag 20 parts.1 in
    let other = eqb-false tag 19 ne in
    and_from (nat_lt 0 tag) (nat_lt tag 19) parts.0 (lt-ltb tag 19 (omega (arith, below, other)))

pub body_if : (tag : ℕ) (at : Place) → IsBytes at.rest → IfRead (read_value_body tag at) (TakesBody tag at)
unfolding read_value_body
body_if tag at fits =
    choice_if (tag == 19) (λ is. bind_if _ (array_if at fits) (λ a after t. done_if (record { takes = t.takes; tag_is = λ _. eqb-true tag 19 is; is = t.is }))) (λ ne.
    bind_if _ (plain_if tag at fits) (λ p after t. done_if (record { takes = t.takes; tag_is = λ is. t.tag_is (other_tag tag ne is); is = t.is })))

-- the tag of a value that is no array is not that of arrays
pub not_array_tag : (p : Plain) → (plain_tag p == 19) ≡ false
not_array_tag p =
    let below = ltb-true (plain_tag p) 19 (and_parts (nat_lt 0 (plain_tag p)) (nat_lt (plain_tag p) 19) (plain_tag_is p)).1 in
    ne_eqb (plain_tag p) 19 (λ e. omega (arith, below, e))

pub form_tag_is : (f : Form) → IsTrue (nat_lt 0 (form_tag f) && nat_lt (form_tag f) 20)
form_tag_is (Form.array a) = refl
form_tag_is (Form.plain p) =
    let parts = and_parts (nat_lt 0 (plain_tag p)) (nat_lt (plain_tag p) 19) (plain_tag_is p) in
    let below = ltb-true (plain_tag p) 19 parts.1 in
    and_from (nat_lt 0 (plain_tag p)) (nat_lt (plain_tag p) 20) parts.0 (lt-ltb (plain_tag p) 20 (omega (arith, below)))

pub form_short : (f : Form) → IsForm f → length (form_body f) ≤ 1048575
form_short (Form.array a) is = (array_parts a is).short
form_short (Form.plain p) is = plain_short p is

pub body_again : (o : ℕ) (f : Form) (rest : List ℕ) → IsForm f → read_value_body (form_tag f) (place o (form_body f ++ rest)) ≡ Ok (f, place (o + length (form_body f)) rest)
unfolding read_value_body
body_again o (Form.array a) rest is = ap (made Form.array) (array_again o a rest is)
body_again o (Form.plain p) rest is = rw (not_array_tag p) (ap (made Form.plain) (plain_again o p rest is))
