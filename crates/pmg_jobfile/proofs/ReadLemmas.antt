-- Parts that are read one after another.
use Rattle.std.proofs.Common.{◌≡◌, ℕ, ◌+◌, ◌<◌, ◌≤◌, Option, Some, None, Result, Ok, Err, Bool, true, false, cond, ◌&&◌, not, List, [], ◌∷◌, ◌++◌, get_or, drop, length, refl, sym, ap, ◌∙◌}
use Rattle.std.specs.Option.{option_map}
use Rattle.std.specs.Prelude.{option_and_then, codes, if◌then◌else◌}
use Rattle.std.proofs.lemmas.List.{append_assoc, append-nil, at_drop_more, at_drop_all}
use Rattle.serde_json.specs.Data.{Data}
use Rattle.serde_json.specs.View.{view, items_view}
use Rattle.serde_json.specs.declared.value.Value.{Value}
use Rattle.pmg_value.specs.declared.refusal.Refusal.{Refusal}
use Rattle.pmg_value.specs.declared.refusal.Refusal.TheVariants as refusals
use Rattle.serde_json.specs.Find.{get, as_str}
use Rattle.pmg_value.specs.Answers.{Gives, Fails}
use Rattle.pmg_value.specs.Names.{is_nspace, is_reserved}
use Rattle.pmg_jobfile.specs.Described.{Space}
use Rattle.pmg_jobfile.specs.Reading.{all_in, or_bad, homes_in, name_in, json_space, ReadsJson, UnlessMemory}

-- what follows where the refusal is another one than of memory
pub weaker : (e : Refusal) {P Q : Type 0} → (P → Q) → UnlessMemory e P → UnlessMemory e Q
weaker refusals.NoMemory f h = tt
weaker e f h = f h

-- what is there is read as that
pub is_there : {A : Type 0} (o : Option A) (x : A) → or_bad o ≡ Ok x → o ≡ Some x
is_there None x h = absurd cc
is_there (Some y) x h = cc

-- what is missing is a bad parameter, whatever was to be read
bad_is : {A : Type 0} (e : Refusal) → or_bad {Y = A} None ≡ Err e → refusals.BadParam ≡ e
bad_is e h = cc

-- a part that is not read: nor is the whole
pub first_bad : {A B C : Type 0} (f : A → Option B) (g : B → Option C) (o : Option A) (a : A) (e : Refusal) → Some a ≡ o → or_bad (f a) ≡ Err e →
    or_bad (option_and_then g (option_and_then f o)) ≡ Err e
first_bad {A = A} {B = B} {C = C} f g o a e is h = ap (λ (x : Option A). or_bad (option_and_then g (option_and_then f x))) (sym is) ∙ by_case (f a) h
  where
    by_case : (r : Option B) → or_bad r ≡ Err e → or_bad (option_and_then g r) ≡ Err e
    by_case None bad = ap Err (bad_is e bad)
    by_case (Some b) bad = absurd cc

-- homes that are not read: nor is the namespace
pub homes_bad : (nodes : ℕ) (d dn dh : Data) (name : List ℕ) (e : Refusal) → Some dn ≡ get (codes "name") d → Some dh ≡ get (codes "homes") d →
    or_bad (name_in dn) ≡ Ok name → or_bad (homes_in nodes dh) ≡ Err e → or_bad (json_space nodes d) ≡ Err e
homes_bad nodes d dn dh name e ns hs named h =
    ap (λ o. or_bad (option_and_then (λ n. option_map (made n) (option_and_then (homes_in nodes) (get (codes "homes") d))) o))
    (ap (option_and_then name_in) (sym ns) ∙ is_there (name_in dn) name named)
    ∙ ap (λ o. or_bad (option_map (made name) (option_and_then (homes_in nodes) o))) (sym hs)
    ∙ by_case (homes_in nodes dh) h
  where
    made : List ℕ → List ℕ → Space
    made n hs = record { name = n; homes = hs }

    by_case : (r : Option (List ℕ)) → or_bad r ≡ Err e → or_bad (option_map (made name) r) ≡ Err e
    by_case None bad = ap Err (bad_is e bad)
    by_case (Some b) bad = absurd cc

-- a refusal of a call that tells want of memory only where an answer is due
pub unless : {Y : Type 0} (e : Refusal) (due : Result Y Refusal) → Fails e due → UnlessMemory e (due ≡ Err e)
unless refusals.NoMemory due h = tt
unless e due h = h

-- what a call answers that tells want of memory only where an answer is due
pub told : {X Y : Type 0} (see : X → Y) (r : Result X Refusal) (due : Result Y Refusal) → Gives see r due → ReadsJson see r due
told see (Ok x) due h = h
told see (Err e) due h = unless e due h

-- a name, read from a string
pub name_read : (r : Result (List ℕ) Refusal) (d : Data) (name : List ℕ) → as_str d ≡ Some name →
    Gives (λ n. n) r (if is_nspace name && not (is_reserved name) then Ok name else Err refusals.BadParam) → ReadsJson (λ n. n) r (or_bad (name_in d))
name_read r d name is h =
    rw (ap or_bad (ap (option_and_then (λ n. if is_nspace n && not (is_reserved n) then Some n else None)) is))
    (by_test (is_nspace name && not (is_reserved name)) h)
  where
    by_test : (b : Bool) → Gives (λ n. n) r (cond b (Ok name) (Err refusals.BadParam)) → ReadsJson (λ n. n) r (or_bad (cond b (Some name) None))
    by_test true g = told (λ n. n) r (Ok name) g
    by_test false g = told (λ n. n) r (Err refusals.BadParam) g

pub onto_more : {A : Type 0} (xs : List A) (x : A) (o : Option (List A)) →
    option_map (λ ys. xs ++ ys) (option_map (λ ys. x ∷ ys) o) ≡ option_map (λ ys. (xs ++ x ∷ []) ++ ys) o
onto_more xs x None = refl
onto_more xs x (Some ys) = ap Some (sym (append_assoc xs (x ∷ []) ys))

module _ {A : Type 0} (one : Data → Option A) (vs : List Value) (xs : List A) (i : ℕ) where
  -- what is left, after one item
  step : (v : Value) → i < length vs → v ≡ get_or vs i v →
      all_in one (items_view (drop i vs)) ≡ option_and_then (λ x. option_map (λ ys. x ∷ ys) (all_in one (items_view (drop (i + 1) vs)))) (one (view v))
  unfolding all_in
  step v lt is =
      at_drop_more (λ zs. all_in one (items_view zs)) vs i v lt
      ∙ ap (λ (z : Value). option_and_then (λ x. option_map (λ ys. x ∷ ys) (all_in one (items_view (drop (i + 1) vs)))) (one (view z))) (sym is)

  -- an item that is not read: nor is the whole
  pub item_bad : (v : Value) (e : Refusal) → i < length vs → v ≡ get_or vs i v →
      option_map (λ ys. xs ++ ys) (all_in one (items_view (drop i vs))) ≡ all_in one (items_view vs) →
      or_bad (one (view v)) ≡ Err e → or_bad (all_in one (items_view vs)) ≡ Err e
  item_bad v e lt is inv h = by_case (one (view v)) refl h
    where
      by_case : (o : Option A) → one (view v) ≡ o → or_bad o ≡ Err e → or_bad (all_in one (items_view vs)) ≡ Err e
      by_case None none bad =
          ap or_bad (sym inv ∙ ap (option_map (λ ys. xs ++ ys)) (step v lt is ∙ ap (option_and_then (λ x. option_map (λ ys. x ∷ ys) (all_in one (items_view (drop (i + 1) vs))))) none)) ∙ ap Err (bad_is e bad)
      by_case (Some x) some bad = absurd cc

  -- an item that is read is put after those before it
  pub item_more : (v : Value) (x : A) → i < length vs → v ≡ get_or vs i v →
      option_map (λ ys. xs ++ ys) (all_in one (items_view (drop i vs))) ≡ all_in one (items_view vs) →
      or_bad (one (view v)) ≡ Ok x → option_map (λ ys. (xs ++ x ∷ []) ++ ys) (all_in one (items_view (drop (i + 1) vs))) ≡ all_in one (items_view vs)
  item_more v x lt is inv h =
      sym (onto_more xs x (all_in one (items_view (drop (i + 1) vs))))
      ∙ sym (ap (option_map (λ ys. xs ++ ys)) (step v lt is ∙ ap (option_and_then (λ x. option_map (λ ys. x ∷ ys) (all_in one (items_view (drop (i + 1) vs))))) (is_there (one (view v)) x h)))
      ∙ inv

  -- at the end all of them are read
  pub all_read : length vs ≤ i → option_map (λ ys. xs ++ ys) (all_in one (items_view (drop i vs))) ≡ all_in one (items_view vs) →
      or_bad (all_in one (items_view vs)) ≡ Ok xs
  unfolding all_in
  all_read le inv =
      ap or_bad (sym inv ∙ ap (option_map (λ ys. xs ++ ys)) (at_drop_all (λ zs. all_in one (items_view zs)) vs i le) ∙ ap Some (append-nil xs))
