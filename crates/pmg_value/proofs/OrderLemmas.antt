-- The order of texts in parts: the first parts decide, where they are equally long.
use Rattle.std.proofs.Common.{◌≡◌, ℕ, ◌+◌, ◌≤◌, ◌<◌, Bool, true, false, ◌==◌, nat_lt, List, [], ◌∷◌, ◌++◌, length, get_or, drop, IsTrue, refl, sym, ap, subst, ◌∙◌, append_assoc, arith}
use Rattle.std.specs.Ordering.{nat_cmp, ordering_then, is_eq, is_ne, MatchOrdering}
use Rattle.std.specs.Cmp.{ranked}
use Rattle.std.specs.Int.{w32, to_be_bytes, from_be_bytes}
use Rattle.std.proofs.lemmas.Nat.{from_be_bytes-to_be_bytes_4}
use Rattle.std.specs.Cmp.Lexicographic.{slice_cmp}
use Rattle.std.specs.declared.cmp.Ordering.{Ordering}
use Rattle.std.specs.declared.cmp.Ordering.TheVariants.{Less, Equal, Greater}
use Rattle.std.proofs.lemmas.Map.Text.{is_eq-slice_cmp}
use Rattle.std.proofs.lemmas.Slice.Eq.{bytes_eq-Decides}
use Rattle.std.specs.List.{list_all}
use Rattle.std.proofs.lemmas.Bool.{and_parts, ltb-true, eqb-true, ne_eqb}
use Rattle.std.proofs.lemmas.List.{drop_more}
use Rattle.std.proofs.lemmas.List.Sums.{AllPass-from_list_all}
use Rattle.pmg_value.proofs.FormLemmas.{plain_tag_is}
use Rattle.pmg_value.specs.declared.value.Value.{Value}
use Rattle.pmg_value.specs.Elements.{bodies}
use Rattle.pmg_value.specs.Plain.{plain_tag, plain_body}
use Rattle.pmg_value.specs.Spelling.{Form, form, form_tag, form_body, is_plain_form, plain_of, tag_of, body_of, spelling, plains_of}
use Rattle.pmg_value.specs.Parts.{in_parts, head_len, middle_len, end_len, items_len, have_tag, AreItems, AreAlike}

then_assoc : (a b c : Ordering) → ordering_then a (ordering_then b c) ≡ ordering_then (ordering_then a b) c
then_assoc Less b c = refl
then_assoc Equal b c = refl
then_assoc Greater b c = refl

-- two texts that begin with equally long ones
pub cmp_parts : (a b x y : List ℕ) → length a ≡ length b → slice_cmp nat_cmp (a ++ x) (b ++ y) ≡ ordering_then (slice_cmp nat_cmp a b) (slice_cmp nat_cmp x y)
cmp_parts [] [] x y e = refl
cmp_parts [] (c ∷ b) x y e = absurd cc
cmp_parts (c ∷ a) [] x y e = absurd cc
cmp_parts (c ∷ a) (d ∷ b) x y e =
    ap (ordering_then (nat_cmp c d)) (cmp_parts a b x y (omega (arith, e))) ∙ then_assoc (nat_cmp c d) (slice_cmp nat_cmp a b) (slice_cmp nat_cmp x y)

-- texts in the same place are the same
same_text : (a b : List ℕ) → slice_cmp nat_cmp a b ≡ Equal → a ≡ b
same_text a b e = (bytes_eq-Decides a b).0 (sym (is_eq-slice_cmp a b) ∙ ap is_eq e)

then_same : (o p q : Ordering) → (o ≡ Equal → p ≡ q) → ordering_then o p ≡ ordering_then o q
then_same Less p q f = refl
then_same Equal p q f = f refl
then_same Greater p q f = refl

-- two bodies of one kind, with more after them, are in order as their heads, then their middles, then their ends,
-- then what stands after them
cmp_bodies : (tag : ℕ) (h i m n x y p q : List ℕ) → length h ≡ head_len tag → length i ≡ head_len tag → length m ≡ middle_len tag h → length n ≡ middle_len tag i → length x ≡ length y
    → slice_cmp nat_cmp (h ++ (m ++ (x ++ p))) (i ++ (n ++ (y ++ q)))
    ≡ ordering_then (ordering_then (slice_cmp nat_cmp h i) (ordering_then (slice_cmp nat_cmp m n) (slice_cmp nat_cmp x y))) (slice_cmp nat_cmp p q)
cmp_bodies tag h i m n x y p q lh li lm ln lx =
    let a = slice_cmp nat_cmp h i in
    let b = slice_cmp nat_cmp m n in
    let c = slice_cmp nat_cmp x y in
    let d = slice_cmp nat_cmp p q in
    let behind : (a ≡ Equal) → slice_cmp nat_cmp (m ++ (x ++ p)) (n ++ (y ++ q)) ≡ ordering_then (ordering_then b c) d =
    λ e. cmp_parts m n (x ++ p) (y ++ q) (lm ∙ ap (middle_len tag) (same_text h i e) ∙ sym ln) ∙ ap (ordering_then b) (cmp_parts x y p q lx) ∙ then_assoc b c d in
    cmp_parts h i (m ++ (x ++ p)) (n ++ (y ++ q)) (lh ∙ sym li) ∙ then_same a _ _ behind ∙ then_assoc a (ordering_then b c) d

-- a length that takes four bytes is read from them
pub length_again : (bytes : List ℕ) → length bytes ≤ 1048571 → length bytes ≡ from_be_bytes w32 (to_be_bytes w32 (length bytes))
length_again bytes small = sym (from_be_bytes-to_be_bytes_4 (length bytes) (omega arith))

same_number : (s t : ℕ) (o : Ordering) → MatchOrdering o (s < t) (s ≡ t) (t < s) → is_ne o ≡ false → s ≡ t
same_number s t Less m e = absurd cc
same_number s t Equal m e = m
same_number s t Greater m e = absurd cc

is_equal : (o : Ordering) → is_ne o ≡ false → o ≡ Equal
is_equal Less e = absurd cc
is_equal Equal e = refl
is_equal Greater e = absurd cc

-- two tags that do not differ, each known by another name
pub tags_agree : (a b s t : ℕ) (o : Ordering) → a ≡ s → b ≡ t → o ≡ nat_cmp a b → is_ne o ≡ false → is_ne (nat_cmp s t) ≡ false
tags_agree a b s t o is_s is_t is ne = rw (← is_s, ← is_t, ← is) ne

-- the parts of a value's body
pub record InParts (v : Value) (h m x : List ℕ) (p : List Value) : Type 0 where
  pub body : in_parts h m x p ≡ body_of v
  pub head : length h ≡ head_len (tag_of v)
  pub middle : length m ≡ middle_len (tag_of v) h
  pub end : length x ≡ end_len (tag_of v)
  pub items : AreItems (tag_of v) h p

-- the order of what stands before the items of two bodies
abbrev order_of : (h i m n x y : List ℕ) → Ordering
order_of h i m n x y = ordering_then (slice_cmp nat_cmp h i) (ordering_then (slice_cmp nat_cmp m n) (slice_cmp nat_cmp x y))

-- two values of one tag are in order as what stands before their items, then as the items
pub cmp_values : (v w : Value) (h i m n x y : List ℕ) (p q : List Value) → InParts v h m x p → InParts w i n y q → is_ne (nat_cmp (tag_of v) (tag_of w)) ≡ false
    → slice_cmp nat_cmp (spelling v) (spelling w) ≡ ordering_then (order_of h i m n x y) (slice_cmp nat_cmp (bodies (plains_of p)) (bodies (plains_of q)))
cmp_values v w h i m n x y p q a b ne =
    let same : tag_of v ≡ tag_of w = same_number (tag_of v) (tag_of w) (nat_cmp (tag_of v) (tag_of w)) (ranked (tag_of v) (tag_of w) _ refl) ne in
    let tags : nat_cmp (tag_of v) (tag_of w) ≡ Equal = is_equal (nat_cmp (tag_of v) (tag_of w)) ne in
    let heads : length i ≡ head_len (tag_of v) = b.head ∙ ap head_len (sym same) in
    let middles : length n ≡ middle_len (tag_of v) i = b.middle ∙ ap (λ (k : ℕ). middle_len k i) (sym same) in
    let ends : length x ≡ length y = a.end ∙ ap end_len same ∙ sym b.end in
    ap (λ (o : Ordering). ordering_then o (slice_cmp nat_cmp (body_of v) (body_of w))) tags
    ∙ ap (λ (t : List ℕ). slice_cmp nat_cmp t (body_of w)) (sym a.body)
    ∙ ap (slice_cmp nat_cmp (in_parts h m x p)) (sym b.body)
    ∙ cmp_bodies (tag_of v) h i m n x y (bodies (plains_of p)) (bodies (plains_of q)) a.head heads a.middle middles ends

then_ne : (o p : Ordering) → is_ne o ≡ true → o ≡ ordering_then o p
then_ne Less p e = refl
then_ne Equal p e = absurd cc
then_ne Greater p e = refl

-- what decides
pub decided : (v w : Value) (h i m n x y : List ℕ) (p q : List Value) (r : Ordering) → InParts v h m x p → InParts w i n y q → is_ne (nat_cmp (tag_of v) (tag_of w)) ≡ false
    → r ≡ order_of h i m n x y → is_ne r ≡ true → r ≡ slice_cmp nat_cmp (spelling v) (spelling w)
decided v w h i m n x y p q r a b ne is differ =
    then_ne r (slice_cmp nat_cmp (bodies (plains_of p)) (bodies (plains_of q))) differ
    ∙ ap (λ (o : Ordering). ordering_then o (slice_cmp nat_cmp (bodies (plains_of p)) (bodies (plains_of q)))) is
    ∙ sym (cmp_values v w h i m n x y p q a b ne)

-- and what does not
pub left_to_items : (v w : Value) (h i m n x y : List ℕ) (p q : List Value) (r s : Ordering) → InParts v h m x p → InParts w i n y q → is_ne (nat_cmp (tag_of v) (tag_of w)) ≡ false
    → r ≡ order_of h i m n x y → is_ne r ≡ false → s ≡ slice_cmp nat_cmp (bodies (plains_of p)) (bodies (plains_of q)) → s ≡ slice_cmp nat_cmp (spelling v) (spelling w)
left_to_items v w h i m n x y p q r s a b ne is alike items =
    items
    ∙ ap (λ (o : Ordering). ordering_then o (slice_cmp nat_cmp (bodies (plains_of p)) (bodies (plains_of q)))) (sym (sym is ∙ is_equal r alike))
    ∙ sym (cmp_values v w h i m n x y p q a b ne)

first_equal : (o p : Ordering) → ordering_then o p ≡ Equal → o ≡ Equal
first_equal Less p e = absurd cc
first_equal Equal p e = refl
first_equal Greater p e = absurd cc

-- after equal heads stand items that are alike
pub items_alike : (v w : Value) (h i m n x y : List ℕ) (p q : List Value) (r : Ordering) → InParts v h m x p → InParts w i n y q → is_ne (nat_cmp (tag_of v) (tag_of w)) ≡ false
    → r ≡ order_of h i m n x y → is_ne r ≡ false → AreAlike p q
items_alike v w h i m n x y p q r a b ne is alike =
    let same : tag_of v ≡ tag_of w = same_number (tag_of v) (tag_of w) (nat_cmp (tag_of v) (tag_of w)) (ranked (tag_of v) (tag_of w) _ refl) ne in
    let heads : h ≡ i = same_text h i (first_equal _ _ (sym is ∙ is_equal r alike)) in
    record {
      tag = get_or h 0 0;
      plain_a = a.items.plain;
      plain_b = b.items.plain;
      kind_a = a.items.kind;
      kind_b = subst (λ (t : List ℕ). IsTrue (have_tag (get_or t 0 0) q)) (sym heads) b.items.kind;
      count = a.items.count ∙ ap (λ (t : List ℕ). items_len (tag_of v) t) heads ∙ ap (λ (k : ℕ). items_len k i) same ∙ sym b.items.count;
    }

-- ---- items of an array

-- no items stand after a value that is no array
pub none_behind : (f : Form) (h : List ℕ) (p : List Value) → IsTrue (is_plain_form f) → length p ≡ items_len (form_tag f) h → p ≡ []
none_behind (Form.array a) h p plain e = absurd cc
none_behind (Form.plain v) h [] plain e = refl
none_behind (Form.plain v) h (w ∷ ws) plain e =
    absurd (
    let small = ltb-true (plain_tag v) 19 (and_parts (nat_lt 0 (plain_tag v)) (nat_lt (plain_tag v) 19) (plain_tag_is v)).1 in
    let other : (plain_tag v == 19) ≡ false = ne_eqb (plain_tag v) 19 (λ same. omega (arith, small, same)) in
    let none : items_len (plain_tag v) h ≡ 0 = rw other refl in
    omega (arith, e, none)
    )

-- a value that is no array has the body that an array holds
pub body_is : (f : Form) → IsTrue (is_plain_form f) → form_body f ≡ plain_body (plain_of f)
body_is (Form.plain p) h = refl
body_is (Form.array a) h = absurd cc

-- an item and what stands after it
item_first : (v : Value) (h m x : List ℕ) (p vs : List Value) → IsTrue (is_plain_form (form v)) → InParts v h m x p → bodies (plains_of (v ∷ vs)) ≡ h ++ (m ++ (x ++ bodies (plains_of vs)))
item_first v h m x p vs plain a =
    let none : p ≡ [] = none_behind (form v) h p plain a.items.count in
    let own : h ++ (m ++ (x ++ [])) ≡ plain_body (plain_of (form v)) = ap (λ (q : List Value). in_parts h m x q) (sym none) ∙ a.body ∙ body_is (form v) plain in
    ap (λ (t : List ℕ). t ++ bodies (plains_of vs)) (sym own) ∙ simp append_assoc

-- an item of each list, and what stands after them
pub next_items : (a b : List Value) (i : ℕ) (v w : Value) (h k m n x y : List ℕ) (p q : List Value) (r : Ordering) → i < length a → AreAlike a b → v ≡ get_or a i v → w ≡ get_or b i w
    → InParts v h m x p → InParts w k n y q → r ≡ order_of h k m n x y
    → slice_cmp nat_cmp (bodies (plains_of (drop i a))) (bodies (plains_of (drop i b))) ≡ ordering_then r (slice_cmp nat_cmp (bodies (plains_of (drop (i + 1) a))) (bodies (plains_of (drop (i + 1) b))))
next_items a b i v w h k m n x y p q r lt alike at_a at_b own others is =
    let lt_b : i < length b = omega (arith, lt, alike.count) in
    let plain_v = at_place (λ u. is_plain_form (form u)) a i v lt at_a alike.plain_a in
    let plain_w = at_place (λ u. is_plain_form (form u)) b i w lt_b at_b alike.plain_b in
    let kind_v = eqb-true (tag_of v) alike.tag (at_place (λ u. tag_of u == alike.tag) a i v lt at_a alike.kind_a) in
    let kind_w = eqb-true (tag_of w) alike.tag (at_place (λ u. tag_of u == alike.tag) b i w lt_b at_b alike.kind_b) in
    let same : tag_of v ≡ tag_of w = kind_v ∙ sym kind_w in
    let rest_a = bodies (plains_of (drop (i + 1) a)) in
    let rest_b = bodies (plains_of (drop (i + 1) b)) in
    let first_a : bodies (plains_of (drop i a)) ≡ h ++ (m ++ (x ++ rest_a)) = ap (λ (vs : List Value). bodies (plains_of vs)) (one_more a i v lt at_a) ∙ item_first v h m x p (drop (i + 1) a) plain_v own in
    let first_b : bodies (plains_of (drop i b)) ≡ k ++ (n ++ (y ++ rest_b)) = ap (λ (vs : List Value). bodies (plains_of vs)) (one_more b i w lt_b at_b) ∙ item_first w k n y q (drop (i + 1) b) plain_w others in
    let heads : length k ≡ head_len (tag_of v) = others.head ∙ ap head_len (sym same) in
    let middles : length n ≡ middle_len (tag_of v) k = others.middle ∙ ap (λ (t : ℕ). middle_len t k) (sym same) in
    let ends : length x ≡ length y = own.end ∙ ap end_len same ∙ sym others.end in
    ap (λ (t : List ℕ). slice_cmp nat_cmp t (bodies (plains_of (drop i b)))) first_a
    ∙ ap (slice_cmp nat_cmp (h ++ (m ++ (x ++ rest_a)))) first_b
    ∙ cmp_bodies (tag_of v) h k m n x y rest_a rest_b own.head heads own.middle middles ends
    ∙ ap (λ (o : Ordering). ordering_then o (slice_cmp nat_cmp rest_a rest_b)) (sym is)
  where
    at_place : (t : Value → Bool) (vs : List Value) (j : ℕ) (u : Value) → j < length vs → u ≡ get_or vs j u → IsTrue (list_all t vs) → IsTrue (t u)
    at_place t vs j u less at all = subst (λ z. IsTrue (t z)) (sym at) (AllPass-from_list_all t vs all j u less)

    one_more : (vs : List Value) (j : ℕ) (u : Value) → j < length vs → u ≡ get_or vs j u → drop j vs ≡ u ∷ drop (j + 1) vs
    one_more vs j u less at = drop_more vs j u less ∙ ap (λ (z : Value). z ∷ drop (j + 1) vs) (sym at)

-- which of them decide
pub decided_by_item : (o r s : Ordering) → o ≡ ordering_then r s → is_ne r ≡ true → r ≡ o
decided_by_item o r s e differ = then_ne r s differ ∙ sym e

pub left_to_others : (o r s : Ordering) → o ≡ ordering_then r s → is_ne r ≡ false → s ≡ o
left_to_others o r s e alike = sym (e ∙ ap (λ (t : Ordering). ordering_then t s) (is_equal r alike))
