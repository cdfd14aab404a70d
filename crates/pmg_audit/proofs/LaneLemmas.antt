-- Moves of nodes in code, and lists one item further.
use Rattle.std.proofs.Common.{◌≡◌, ℕ, zero, suc, ◌+◌, ◌<◌, ◌≤◌, List, [], ◌∷◌, ◌++◌, length, map, get_or, set, drop, option_to_list, ◌-◌, IfSome, IsNone, Bool, true, false, nat_lt, ltb-true, ltb-false, Option, Some, None, slice_get, inl, inr, refl, sym, ap, subst, ◌∙◌, arith}
use Rattle.std.proofs.lemmas.List.{length-drop, length-map, map-set, nil_from_length}
use Rattle.std.proofs.lemmas.Option.{slice_get-get_or, slice_get_past, slice_get-map}
use Rattle.pmg_value.specs.Lists.{In}
use Rattle.pmg_value.proofs.ListLemmas.{in_append_left, in_append_right}
use Rattle.pmg_group_model.specs.Worlds.{nth, numbered}
use Rattle.pmg_audit.specs.Codes.{all_of, lane_of, move_in}
use Rattle.pmg_audit.specs.Moves.{Move}
use Rattle.pmg_audit.specs.Going.{IsTaken}
use Rattle.pmg_audit.specs.Orders.{list_or_none, moves_at}
use Rattle.pmg_audit.specs.declared.moves.Lane.{Lane}
use Rattle.pmg_audit.specs.declared.moves.Move.{Move as KeptMove}

-- the moves of a node in code
pub lane_at : (lanes : List Lane) (n : ℕ) (d : Lane) → n < length lanes → moves_at (all_of lanes) n ≡ lane_of (get_or lanes n d)
lane_at lanes n d inside =
    ap list_or_none (slice_get-map lane_of lanes n) ∙ (λ i. list_or_none (mapped (slice_get-get_or lanes n d inside i)))
  where
    mapped : Option Lane → Option (List Move)
    mapped None = None
    mapped (Some l) = Some (lane_of l)

-- the next one of them, taken out
no_items : (xs ys : List KeptMove) → xs ≡ ys → ys ≡ drop 1 xs → xs ≡ []
no_items xs ys same rest =
    let count : length xs ≡ length xs - 1 = ap length (same ∙ rest) ∙ length-drop 1 xs in
    nil_from_length xs (omega (arith, count))

pub next_taken : (lanes : List Lane) (n : ℕ) (lane lane2 : Lane) (o : Option KeptMove) → n < length lanes → (get_or lanes n lane).moves.items ≡ option_to_list o ++ lane2.moves.items
    → IfSome o (λ x. IsTaken (all_of lanes) n (move_in x) (all_of (set lanes n lane2)))
next_taken lanes n lane lane2 None inside items = tt
next_taken lanes n lane lane2 (Some x) inside items = record {
  later = lane_of lane2;
  there = lane_at lanes n lane inside ∙ ap (map move_in) items;
  left = map-set lane_of lanes n lane2;
}

pub none_taken : (lanes : List Lane) (n : ℕ) (lane lane2 : Lane) (o : Option KeptMove) → n < length lanes → (get_or lanes n lane).moves.items ≡ option_to_list o ++ lane2.moves.items
    → lane2.moves.items ≡ drop 1 (get_or lanes n lane).moves.items → IsNone o → moves_at (all_of lanes) n ≡ []
none_taken lanes n lane lane2 None inside items rest none =
    lane_at lanes n lane inside ∙ ap (map move_in) (no_items (get_or lanes n lane).moves.items lane2.moves.items items rest)
none_taken lanes n lane lane2 (Some x) inside items rest none = absurd cc

pub lane_past : (lanes : List Lane) (n : ℕ) → length lanes ≤ n → moves_at (all_of lanes) n ≡ []
lane_past lanes n past = ap list_or_none (slice_get_past (all_of lanes) n (subst (λ l. l ≤ n) (sym (length-map lanes lane_of)) past))

-- ---- frames by their numbers

nth_stays : {A : Type 0} (xs ys : List A) (i : ℕ) (x : A) → nth xs i ≡ Some x → nth (xs ++ ys) i ≡ Some x
nth_stays [] ys i x is = absurd cc
nth_stays (z ∷ xs) ys zero x is = is
nth_stays (z ∷ xs) ys (suc i) x is = nth_stays xs ys i x is

pub numbered_stays : {A : Type 0} (xs ys : List A) (i : ℕ) (x : A) → numbered xs i ≡ Some x → numbered (xs ++ ys) i ≡ Some x
numbered_stays xs ys zero x is = absurd cc
numbered_stays xs ys (suc i) x is = nth_stays xs ys i x is

pub in_get : {A : Type 0} (xs : List A) (k : ℕ) (x : A) → k < length xs → x ≡ get_or xs k x → In x xs
in_get [] k x inside is = absurd (omega (arith, inside))
in_get (y ∷ xs) zero x inside is = inl is
in_get (y ∷ xs) (suc k) x inside is = inr (in_get xs k x (omega (arith, inside)) is)

pub first_in : {A : Type 0} (xs : List A) (x : A) → slice_get xs 0 ≡ Some x → In x xs
first_in [] x is = absurd cc
first_in (y ∷ xs) x is = let same : y ≡ x = cc in inl (sym same)

-- all below a number, and that number
pub in_next : (xs : List ℕ) (k : ℕ) → ((n : ℕ) → n < k → In n xs) → (n : ℕ) → n < k + 1 → In n (xs ++ k ∷ [])
in_next xs k below n less = by (nat_lt n k) refl
  where
    by : (b : Bool) → nat_lt n k ≡ b → In n (xs ++ k ∷ [])
    by true e = in_append_left xs (k ∷ []) n (below n (ltb-true n k e))
    by false e =
        let past : k ≤ n = ltb-false n k e in
        let same : n ≡ k = omega (arith, past, less) in
        in_append_right xs (k ∷ []) n (inl same)

-- ---- what is left

-- nothing is left of a lane without moves
pub none_at : (lanes : List Lane) (n : ℕ) (lane : Lane) → n < length lanes → lane ≡ get_or lanes n lane → length lane.moves.items ≡ 0 → moves_at (all_of lanes) n ≡ []
none_at lanes n lane inside is none = lane_at lanes n lane inside ∙ ap lane_of (sym is) ∙ ap (map move_in) (nil_from_length lane.moves.items none)

pub closed_more : (lanes : List Lane) (k : ℕ) (lane : Lane) → k < length lanes → lane ≡ get_or lanes k lane → length lane.moves.items ≡ 0 → ((n : ℕ) → n < k → moves_at (all_of lanes) n ≡ [])
    → (n : ℕ) → n < k + 1 → moves_at (all_of lanes) n ≡ []
closed_more lanes k lane inside is none each n less = by (nat_lt n k) refl
  where
    by : (b : Bool) → nat_lt n k ≡ b → moves_at (all_of lanes) n ≡ []
    by true e = each n (ltb-true n k e)
    by false e =
        let past : k ≤ n = ltb-false n k e in
        let same : k ≡ n = omega (arith, past, less) in
        subst (λ i. moves_at (all_of lanes) i ≡ []) same (none_at lanes k lane inside is none)

pub closed_all : (lanes : List Lane) (k : ℕ) → length lanes ≤ k → ((n : ℕ) → n < k → moves_at (all_of lanes) n ≡ []) → (n : ℕ) → moves_at (all_of lanes) n ≡ []
closed_all lanes k past each n = by (nat_lt n k) refl
  where
    by : (b : Bool) → nat_lt n k ≡ b → moves_at (all_of lanes) n ≡ []
    by true e = each n (ltb-true n k e)
    by false e =
        let out : k ≤ n = ltb-false n k e in
        lane_past lanes n (omega (arith, past, out))

-- the first one of them
first_of : (xs : List KeptMove) (x : KeptMove) → 0 < length xs → x ≡ get_or xs 0 x → xs ≡ x ∷ drop 1 xs
first_of [] x some is = absurd (omega (arith, some))
first_of (y ∷ xs) x some is = ap (λ (z : KeptMove). z ∷ xs) (sym is)

pub next_front : (lanes : List Lane) (n : ℕ) (lane : Lane) (x : KeptMove) → n < length lanes → lane ≡ get_or lanes n lane → 0 < length lane.moves.items → x ≡ get_or lane.moves.items 0 x
    → moves_at (all_of lanes) n ≡ move_in x ∷ map move_in (drop 1 lane.moves.items)
next_front lanes n lane x inside is some first = lane_at lanes n lane inside ∙ ap lane_of (sym is) ∙ ap (map move_in) (first_of lane.moves.items x some first)
