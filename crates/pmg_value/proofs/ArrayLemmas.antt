-- Arrays, item by item.
use Rattle.std.proofs.Common.{◌≡◌, ℕ, zero, suc, ◌+◌, ◌-◌, ◌≤◌, ◌<◌, Bool, true, false, ◌&&◌, ◌==◌, nat_lt, List, [], ◌∷◌, ◌++◌, length, get_or, take, drop, IsTrue, refl, sym, ap, subst, ◌∙◌, arith}
use Rattle.std.specs.Int.{w32, to_be_bytes, from_be_bytes}
use Rattle.std.proofs.lemmas.Nat.{from_be_bytes-to_be_bytes_4}
use Rattle.std.specs.List.{list_all}
use Rattle.std.proofs.lemmas.List.{take_more, take_all, take-append-drop, map-append, length-map, length-append}
use Rattle.std.proofs.lemmas.Grind.{flat_map-append}
use Rattle.std.proofs.lemmas.Bool.{and_parts, and_from, ltb-true, le-leb, leb-true, lt-leb, lt-ltb, eq-eqb, ne_eqb}
use Rattle.pmg_value.specs.declared.value.Value.{Value}
use Rattle.pmg_value.specs.Lists.{Each}
use Rattle.pmg_value.specs.Plain.{Plain, IsPlain, plain_tag, plain_body, is_plain_tag}
use Rattle.pmg_value.specs.Elements.{Elements, IsArray, bodies, are_of_kind}
use Rattle.pmg_value.specs.Parts.{have_tag, AreItems}
use Rattle.pmg_value.specs.Spelling.{Form, form, form_tag, form_body, IsForm, tag_of, body_of, is_plain_form, plain_of, are_plain, plains_of, elements, makes_array, HoldsArray}

-- an item of an array's kind is none
pub record IsItem (tag : ℕ) (f : Form) : Type 0 where
  pub plain : IsTrue (is_plain_form f)
  pub kind : IsTrue (plain_tag (plain_of f) == tag)
  pub is : IsPlain (plain_of f)
  pub body : form_body f ≡ plain_body (plain_of f)

pub item_is : (tag : ℕ) (f : Form) → IsTrue (is_plain_tag tag) → form_tag f ≡ tag → IsForm f → IsItem tag f
item_is tag (Form.plain p) t e is = record { plain = refl; kind = eq-eqb (plain_tag p) tag e; is = is; body = refl }
item_is tag (Form.array a) t e is = absurd (let small = ltb-true tag 19 (and_parts (nat_lt 0 tag) (nat_lt tag 19) t).1 in omega (arith, e))

-- and of another kind, with an array, none is one
pub item_of_another_kind : (tag : ℕ) (f : Form) → (form_tag f == tag) ≡ false → (is_plain_form f && (plain_tag (plain_of f) == tag)) ≡ false
item_of_another_kind tag (Form.plain p) e = e
item_of_another_kind tag (Form.array a) e = refl

Each-push : {A : Type 0} (P : A → Type 0) (xs : List A) (y : A) → Each P xs → P y → Each P (xs ++ y ∷ [])
Each-push P [] y all p = (p, tt)
Each-push P (x ∷ xs) y all p = (all.0, Each-push P xs y all.1 p)

-- the first items, of one kind, and the size of an array of them
pub record SoFar (tag size : ℕ) (items : List Value) : Type 0 where
  pub plain : IsTrue (are_plain items)
  pub kind : IsTrue (are_of_kind tag (plains_of items))
  pub each : Each IsPlain (plains_of items)
  pub sized : size ≡ 6 + length (bodies (plains_of items))
  pub bound : size ≤ 1048576

pub none_so_far : (tag : ℕ) → SoFar tag 6 []
none_so_far tag = record { plain = refl; kind = refl; each = tt; sized = refl; bound = omega arith }

push_all : {A : Type 0} (p : A → Bool) (xs : List A) (y : A) → IsTrue (list_all p xs) → IsTrue (p y) → IsTrue (list_all p (xs ++ y ∷ []))
push_all p [] y all t = and_from (p y) true t refl
push_all p (x ∷ xs) y all t = let parts = and_parts (p x) (list_all p xs) all in and_from (p x) (list_all p (xs ++ y ∷ [])) parts.0 (push_all p xs y parts.1 t)

plains_of-push : (items : List Value) (v : Value) → plains_of (items ++ v ∷ []) ≡ plains_of items ++ plain_of (form v) ∷ []
plains_of-push items v = map-append (λ v. plain_of (form v)) items (v ∷ [])

bodies-push : (plains : List Plain) (p : Plain) → length (bodies (plains ++ p ∷ [])) ≡ length (bodies plains) + length (plain_body p)
bodies-push plains p =
    omega (arith, ap length (flat_map-append plain_body plains (p ∷ [])), length-append (bodies plains) (plain_body p ++ []), length-append (plain_body p) [])

so_far_push : (tag size more : ℕ) (items : List Value) (v : Value) → SoFar tag size items → IsItem tag (form v) → more ≡ length (body_of v) → more ≤ 1048576 - size → SoFar tag (size + more) (items ++ v ∷ [])
so_far_push tag size more items v so item is fits = record {
  plain = push_all (λ v. is_plain_form (form v)) items v so.plain item.plain;
  kind = rw (plains_of-push items v) (push_all (λ p. plain_tag p == tag) (plains_of items) (plain_of (form v)) so.kind item.kind);
  each = rw (plains_of-push items v) (Each-push IsPlain (plains_of items) (plain_of (form v)) so.each item.is);
  sized = rw (plains_of-push items v) (omega (arith, so.sized, is, ap length item.body, bodies-push (plains_of items) (plain_of (form v))));
  bound = omega (arith, so.bound, fits);
}

-- one more item
pub so_far_more : (tag size more i : ℕ) (items : List Value) (v : Value) → i < length items → v ≡ get_or items i v → SoFar tag size (take i items) → IsItem tag (form v)
    → more ≡ length (body_of v) → more ≤ 1048576 - size → SoFar tag (size + more) (take (i + 1) items)
so_far_more tag size more i items v lt at so item sized fits =
    let next : take (i + 1) items ≡ take i items ++ v ∷ [] = take_more items i v lt ∙ ap (λ (w : Value). take i items ++ w ∷ []) (sym at) in
    subst (SoFar tag (size + more)) (sym next) (so_far_push tag size more (take i items) v so item sized fits)

-- and all of them
pub holds_all : (tag size i : ℕ) (items : List Value) → length items ≤ i → SoFar tag size (take i items) → IsTrue (is_plain_tag tag) → HoldsArray tag size items
holds_all tag size i items le so t =
    let all : SoFar tag size items = subst (SoFar tag size) (take_all i items le) so in
    record {
      plain = all.plain;
      is = record {
        is = and_from (is_plain_tag tag && are_of_kind tag (plains_of items)) _ (and_from (is_plain_tag tag) (are_of_kind tag (plains_of items)) t all.kind) (le-leb _ _ (omega (arith, all.sized, all.bound)));
        each = all.each;
      };
      sized = omega (arith, all.sized);
    }

first_fails : (a b c d : Bool) → (a && b) ≡ false → ((a && c) && (b && d)) ≡ false
first_fails false b c d e = refl
first_fails true false true d e = refl
first_fails true false false d e = refl
first_fails true true c d e = absurd cc

others_fail : (a b c d : Bool) → (c && d) ≡ false → ((a && c) && (b && d)) ≡ false
others_fail false b c d e = refl
others_fail true b false d e = refl
others_fail true false true d e = refl
others_fail true true true d e = e

item_fails : (tag i : ℕ) (items : List Value) (d : Value) → i < length items
    → (is_plain_form (form (get_or items i d)) && (plain_tag (plain_of (form (get_or items i d))) == tag)) ≡ false
    → (are_plain items && are_of_kind tag (plains_of items)) ≡ false
item_fails tag i [] d lt e = absurd (omega arith)
item_fails tag zero (v ∷ vs) d lt e = first_fails (is_plain_form (form v)) (plain_tag (plain_of (form v)) == tag) (are_plain vs) (are_of_kind tag (plains_of vs)) e
item_fails tag (suc i) (v ∷ vs) d lt e =
    others_fail (is_plain_form (form v)) (plain_tag (plain_of (form v)) == tag) (are_plain vs) (are_of_kind tag (plains_of vs)) (item_fails tag i vs d (omega arith) e)

no_array : (t p k l : Bool) → (p && k) ≡ false → (p && ((t && k) && l)) ≡ false
no_array t false k l e = refl
no_array t true true l e = absurd cc
no_array true true false l e = refl
no_array false true false l e = refl

-- an item of another kind makes it none
pub another_kind : (tag own i : ℕ) (items : List Value) (v : Value) → i < length items → v ≡ get_or items i v → own ≡ tag_of v → (own ≡ tag → ⊥) → makes_array tag items ≡ false
another_kind tag own i items v lt at is other =
    let e : (tag_of v == tag) ≡ false = ne_eqb (tag_of v) tag (λ same. other (is ∙ same)) in
    let fails = item_of_another_kind tag (form v) e in
    let Fails : Value → Type 0 = λ v. (is_plain_form (form v) && (plain_tag (plain_of (form v)) == tag)) ≡ false in
    no_array (is_plain_tag tag) (are_plain items) (are_of_kind tag (plains_of items)) _ (item_fails tag i items v lt (subst Fails at fails))

-- what is too long is none
pub no_room : (p k l : Bool) → l ≡ false → (p && (k && l)) ≡ false
no_room false k l e = refl
no_room true false l e = refl
no_room true true l e = e

front_is_shorter : (n : ℕ) (items : List Value) → length (bodies (plains_of (take n items))) ≤ length (bodies (plains_of items))
front_is_shorter n items =
    let parts : plains_of items ≡ plains_of (take n items) ++ plains_of (drop n items) = ap plains_of (sym (take-append-drop n items)) ∙ map-append (λ v. plain_of (form v)) (take n items) (drop n items) in
    omega (
      arith,
      ap (λ (ps : List Plain). length (bodies ps)) parts,
      ap length (flat_map-append plain_body (plains_of (take n items)) (plains_of (drop n items))),
      length-append (bodies (plains_of (take n items))) (bodies (plains_of (drop n items))),
    )

-- and so does an item by which it is too long
pub too_long : (tag size more i : ℕ) (items : List Value) (v : Value) → i < length items → v ≡ get_or items i v → SoFar tag size (take i items) → IsItem tag (form v)
    → more ≡ length (body_of v) → 1048576 - size < more → makes_array tag items ≡ false
too_long tag size more i items v lt at so item sized over =
    let plains = plains_of (take i items) in
    let next : take (i + 1) items ≡ take i items ++ v ∷ [] = take_more items i v lt ∙ ap (λ (w : Value). take i items ++ w ∷ []) (sym at) in
    let first : plains_of (take (i + 1) items) ≡ plains ++ plain_of (form v) ∷ [] = ap plains_of next ∙ plains_of-push (take i items) v in
    let grown = bodies-push plains (plain_of (form v)) in
    let long : 1048570 < length (bodies (plains_of (take (i + 1) items))) = omega (arith, so.sized, so.bound, sized, over, ap length item.body, ap (λ (ps : List Plain). length (bodies ps)) first, grown) in
    no_room (are_plain items) (is_plain_tag tag && are_of_kind tag (plains_of items)) _ (lt-leb _ _ (omega (arith, long, front_is_shorter (i + 1) items)))

-- ---- an array in memory

a_byte : (p : Plain) → 1 ≤ length (plain_body p)
a_byte (Plain.bool false) = omega arith
a_byte (Plain.bool true) = omega arith
a_byte (Plain.byte n) = omega arith
a_byte (Plain.string t) = omega arith
a_byte (Plain.size n) = omega arith
a_byte (Plain.int8 z) = omega arith
a_byte (Plain.int16 z) = omega arith
a_byte (Plain.int32 z) = omega arith
a_byte (Plain.int64 z) = omega arith
a_byte (Plain.uint8 n) = omega arith
a_byte (Plain.uint16 n) = omega arith
a_byte (Plain.uint32 n) = omega arith
a_byte (Plain.uint64 n) = omega arith
a_byte (Plain.int z) = omega arith
a_byte (Plain.uint n) = omega arith
a_byte (Plain.rank n) = omega arith
a_byte (Plain.proc p) = omega arith
a_byte (Plain.status z) = omega arith
a_byte (Plain.bytes b) = omega arith

-- there are no more elements than bytes of their bodies
pub some_bytes : (plains : List Plain) → length plains ≤ length (bodies plains)
some_bytes [] = omega arith
some_bytes (p ∷ ps) = omega (arith, a_byte p, some_bytes ps, length-append (plain_body p) (bodies ps))

-- the tag of elements is one of those that are no arrays, and few elements make it too long
pub few_items : (tag : ℕ) (items : List Value) → IsArray (elements tag items) → length items ≤ 1048570
few_items tag items is =
    let parts = and_parts (is_plain_tag tag && are_of_kind tag (plains_of items)) _ is.is in
    let small = leb-true _ _ parts.1 in
    omega (arith, small, some_bytes (plains_of items), length-map items (λ v. plain_of (form v)))

-- and each of them is of its kind
pub items_of_kind : (tag : ℕ) (items : List Value) → IsTrue (are_plain items) → IsArray (elements tag items) → IsTrue (have_tag tag items)
items_of_kind tag items plain is =
    of_kind items plain (and_parts (is_plain_tag tag) (are_of_kind tag (plains_of items)) (and_parts (is_plain_tag tag && are_of_kind tag (plains_of items)) _ is.is).0).1
  where
    of_form : (f : Form) → IsTrue (is_plain_form f) → IsTrue (plain_tag (plain_of f) == tag) → IsTrue (form_tag f == tag)
    of_form (Form.plain p) h e = e
    of_form (Form.array a) h e = absurd cc

    of_kind : (vs : List Value) → IsTrue (are_plain vs) → IsTrue (are_of_kind tag (plains_of vs)) → IsTrue (have_tag tag vs)
    of_kind [] h e = refl
    of_kind (v ∷ vs) h e =
        let plains = and_parts (is_plain_form (form v)) (are_plain vs) h in
        let kinds = and_parts (plain_tag (plain_of (form v)) == tag) (are_of_kind tag (plains_of vs)) e in
        and_from (tag_of v == tag) (have_tag tag vs) (of_form (form v) plains.0 kinds.0) (of_kind vs plains.1 kinds.1)

-- what the parts of an array's body say of its items
pub items_behind : (tag : ℕ) (head : List ℕ) (items : List Value) (a : Elements) → elements tag items ≡ a → IsTrue (are_plain items) → IsArray a → head ≡ tag ∷ to_be_bytes w32 (length items) → AreItems 19 head items
items_behind tag head items a same plain is e =
    let own : IsArray (elements tag items) = subst IsArray (sym same) is in
    let few = few_items tag items own in
    record {
      plain = plain;
      kind = subst (λ (t : List ℕ). IsTrue (have_tag (get_or t 0 0) items)) (sym e) (items_of_kind tag items plain own);
      count = sym (ap (λ (t : List ℕ). from_be_bytes w32 (drop 1 t)) e ∙ from_be_bytes-to_be_bytes_4 (length items) (omega (arith, few)));
    }

-- a tag that a loop over items has passed
pub tag_between : (tag : ℕ) → 0 < tag → tag ≤ 18 → IsTrue (is_plain_tag tag)
tag_between tag some small = and_from (nat_lt 0 tag) (nat_lt tag 19) (lt-ltb 0 tag some) (lt-ltb tag 19 (omega (arith, small)))
