-- Which frames were delivered, and which never were.
use Rattle.std.proofs.Common.{◌≡◌, ◌∙◌, refl, sym, ap, ℕ, zero, suc, ◌+◌, ◌-◌, ◌<◌, ◌≤◌, ◌==◌, Bool, nat_eq, true, false, cond, not, ◌||◌, List, [], ◌∷◌, ◌++◌, map, Option, Some, None, arith, append-nil}
use Rattle.std.specs.FinSet as set
use Rattle.std.specs.List.{filter, range_with_len}
use Rattle.std.specs.Cmp.{unsigned_tied}
use Rattle.std.specs.Option.{option_eq}
use Rattle.std.specs.Ordering.{eq_by_cmp, nat_cmp}
use Rattle.std.proofs.lemmas.Bool.Decides.{nat_tests}
use Rattle.std.proofs.lemmas.Cmp.{nat_cmp_total}
use Rattle.std.proofs.lemmas.List.{map-id, map_push}
use Rattle.std.proofs.lemmas.List.FromFn.{filter_of_map_range_with_len_more}
use Rattle.pmg_join.specs.Ranges.{is_between}
use Rattle.pmg_node_model.specs.Acts.{Reply, Request}
use Rattle.pmg_world.specs.Delivering.{AddsDelivered, delivered_by, is_number, undelivered, with_number}
use Rattle.pmg_group_model.specs.Worlds.{Event, Happened}

-- ---- a set with a number more

or_none : (b : Bool) → (b || false) ≡ b
or_none true = refl
or_none false = refl

or_swap : (a b : Bool) → (a || b) ≡ (b || a)
or_swap true true = refl
or_swap true false = refl
or_swap false true = refl
or_swap false false = refl

pub contains_number : (frames : set.FinSet nat_cmp) (last : Option ℕ) (n : ℕ) → set.contains (with_number frames last) n ≡ (set.contains frames n || is_number n last)
contains_number frames None n = sym (or_none (set.contains frames n))
contains_number frames (Some m) n =
    set.contains-insert nat_cmp_total frames m n ∙ or_swap (eq_by_cmp nat_cmp n m) (set.contains frames n) ∙ ap (λ b. set.contains frames n || b) (unsigned_tied n m)

-- the last one is that number
pub is_last : (last : Option ℕ) (n : ℕ) → option_eq nat_eq last (Some n) ≡ is_number n last
is_last None n = refl
is_last (Some m) n = grind (arith, nat_tests)

-- the last one is put to the others
pub last_kept : (old new : set.FinSet nat_cmp) (last m : ℕ) → m ≡ last - 1 → ((n : ℕ) → set.contains new n ≡ (set.contains old n || is_between m last n))
    → AddsDelivered (with_number old (Some last)) [] (with_number new None)
last_kept old new last m is put n =
    put (suc n) ∙ ap (λ b. set.contains old (suc n) || b) same ∙ sym (contains_number old (Some last) (suc n)) ∙ sym (or_none (set.contains (with_number old (Some last)) (suc n)))
  where
    same : is_between m last (suc n) ≡ (suc n == last)
    same = grind (arith, nat_tests)

-- where there is room for a last one, it is one more
pub last_noted : (frames : set.FinSet nat_cmp) (last : Option ℕ) (h : Happened) → ((frame : ℕ) → delivered_by frame h ≡ is_number frame last)
    → AddsDelivered (with_number frames None) (h ∷ []) (with_number frames last)
last_noted frames last h is n =
    contains_number frames last (suc n) ∙ ap (λ b. set.contains frames (suc n) || b) (sym (is (suc n)) ∙ sym (or_none (delivered_by (suc n) h)))

-- a request delivers none
pub request_delivers : (frames : set.FinSet nat_cmp) (node : ℕ) (r : Request) (reply : Reply) → AddsDelivered frames (record { event = Event.request node r; reply = reply } ∷ []) frames
request_delivers frames node r reply n = sym (or_none (set.contains frames (suc n)))

-- ---- what was never delivered

none_from : (p : ℕ → Bool) (top : ℕ) → ((k : ℕ) → 0 < k → k ≤ top → p k ≡ false) → (a n : ℕ) → 0 < a → a + n ≤ top + 1 → filter p (range_with_len a n) ≡ []
none_from p top none a zero some most = refl
none_from p top none a (suc n) some most =
    ap (λ b. cond b (a ∷ filter p (range_with_len (a + 1) n)) (filter p (range_with_len (a + 1) n))) (none a some (omega (arith, most)))
    ∙ none_from p top none (a + 1) n (omega arith) (omega (arith, most))

-- nothing is, up to where all were delivered
pub undelivered_none : (frames : set.FinSet nat_cmp) (level n : ℕ) → ((k : ℕ) → 0 < k → k ≤ level → set.contains frames k ≡ true) → n ≤ level → undelivered frames n ≡ []
unfolding undelivered
undelivered_none frames level n all le = none_from (λ frame. not (set.contains frames frame)) level (λ k some most. ap not (all k some most)) 1 n (omega arith) (omega (arith, le))

filter_more : (p : ℕ → Bool) (n : ℕ) → filter p (range_with_len 1 (n + 1)) ≡ filter p (range_with_len 1 n) ++ cond (p (n + 1)) ((n + 1) ∷ []) []
filter_more p n =
    let next : 1 + n ≡ n + 1 = omega arith in
    ap (filter p) (sym (map-id (range_with_len 1 (n + 1)))) ∙ filter_of_map_range_with_len_more p (λ (x : ℕ). x) 1 n (n + 1) next
    ∙ ap (λ xs. filter p xs ++ cond (p (n + 1)) ((n + 1) ∷ []) []) (map-id (range_with_len 1 n))

undelivered_next : (frames : set.FinSet nat_cmp) (n : ℕ) (b : Bool) → set.contains frames (n + 1) ≡ b → undelivered frames (n + 1) ≡ undelivered frames n ++ cond (not b) ((n + 1) ∷ []) []
unfolding undelivered
undelivered_next frames n b is =
    filter_more (λ frame. not (set.contains frames frame)) n ∙ ap (λ c. undelivered frames n ++ cond (not c) ((n + 1) ∷ []) []) is

-- what happened is the deliveries of what was not delivered among so many frames
abbrev pub AreRest : set.FinSet nat_cmp → List Happened → ℕ → Type 0
AreRest frames more n = map (λ h. h.event) more ≡ map Event.deliver (undelivered frames n)

-- the next frame was not either
pub rest_more : (frames : set.FinSet nat_cmp) (more : List Happened) (n : ℕ) (h : Happened) → h.event ≡ Event.deliver (n + 1) → set.contains frames (n + 1) ≡ false → AreRest frames more n
    → AreRest frames (more ++ h ∷ []) (n + 1)
rest_more frames more n h this is are =
    map_push (λ (x : Happened). x.event) more h ∙ (λ i. are i ++ this i ∷ []) ∙ sym (map_push Event.deliver (undelivered frames n) (n + 1))
    ∙ ap (map Event.deliver) (sym (undelivered_next frames n false is))

-- it was
pub rest_same : (frames : set.FinSet nat_cmp) (more : List Happened) (n : ℕ) → set.contains frames (n + 1) ≡ true → AreRest frames more n → AreRest frames more (n + 1)
rest_same frames more n is are = are ∙ ap (map Event.deliver) (sym (append-nil (undelivered frames n)) ∙ sym (undelivered_next frames n true is))

-- all were, up to there
pub rest_first : (frames : set.FinSet nat_cmp) (level n : ℕ) → ((k : ℕ) → 0 < k → k ≤ level → set.contains frames k ≡ true) → n ≤ level → AreRest frames [] n
rest_first frames level n all le = ap (map Event.deliver) (sym (undelivered_none frames level n all le))
