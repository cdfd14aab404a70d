-- Writing the items of an array, one after another.
use Rattle.std.proofs.Common.{◌≡◌, ℕ, ◌+◌, ◌<◌, ◌≤◌, List, [], ◌∷◌, ◌++◌, length, get_or, take, drop, IsTrue, sym, ap, subst, ◌∙◌, append_assoc, arith}
use Rattle.std.proofs.lemmas.Grind.{flat_map-append}
use Rattle.std.proofs.lemmas.List.{append-nil, drop_more, length-append, map_push, take_more}
use Rattle.std.proofs.lemmas.List.Sums.{AllPass-from_list_all}
use Rattle.pmg_value.specs.declared.value.Value.{Value}
use Rattle.pmg_value.specs.Elements.{bodies}
use Rattle.pmg_value.specs.Parts.{in_parts, items_len}
use Rattle.pmg_value.specs.Plain.{plain_body}
use Rattle.pmg_value.specs.Spelling.{form, is_plain_form, plain_of, tag_of, body_of, are_plain, plains_of}
use Rattle.pmg_value.proofs.OrderLemmas.{none_behind, body_is}

-- the bytes of an item stand after those of the items before it, and before those of the others
pub record IsBetween (items : List Value) (i : ℕ) (text : List ℕ) : Type 0 where
  pub more : bodies (plains_of (take (i + 1) items)) ≡ bodies (plains_of (take i items)) ++ text
  pub left : bodies (plains_of (drop i items)) ≡ text ++ bodies (plains_of (drop (i + 1) items))

between : (items : List Value) (i : ℕ) (v : Value) → i < length items → v ≡ get_or items i v → IsBetween items i (plain_body (plain_of (form v)))
between items i v lt at =
    let own = plain_body (plain_of (form v)) in
    let up_to : take (i + 1) items ≡ take i items ++ v ∷ [] = take_more items i v lt ∙ ap (λ (u : Value). take i items ++ u ∷ []) (sym at) in
    let from : drop i items ≡ v ∷ drop (i + 1) items = drop_more items i v lt ∙ ap (λ (u : Value). u ∷ drop (i + 1) items) (sym at) in
    let plains : plains_of (take (i + 1) items) ≡ plains_of (take i items) ++ plain_of (form v) ∷ [] = ap plains_of up_to ∙ map_push (λ (u : Value). plain_of (form u)) (take i items) v in
    record {
      more = ap bodies plains ∙ flat_map-append plain_body (plains_of (take i items)) (plain_of (form v) ∷ []) ∙ ap (λ (t : List ℕ). bodies (plains_of (take i items)) ++ t) (append-nil own);
      left = ap (λ (vs : List Value). bodies (plains_of vs)) from;
    }

pub item_bytes : (items : List Value) (i : ℕ) (v : Value) (head middle end : List ℕ) (behind : List Value) → IsTrue (are_plain items) → i < length items → v ≡ get_or items i v
    → in_parts head middle end behind ≡ body_of v → length behind ≡ items_len (tag_of v) head → IsBetween items i (head ++ (middle ++ end))
item_bytes items i v head middle end behind plain lt at body count =
    let is_plain : IsTrue (is_plain_form (form v)) = subst (λ (u : Value). IsTrue (is_plain_form (form u))) (sym at) (AllPass-from_list_all (λ (u : Value). is_plain_form (form u)) items plain i v lt) in
    let none = none_behind (form v) head behind is_plain count in
    let text : head ++ (middle ++ end) ≡ plain_body (plain_of (form v)) =
    ap (λ (t : List ℕ). head ++ (middle ++ t)) (sym (append-nil end)) ∙ ap (λ (vs : List Value). in_parts head middle end vs) (sym none) ∙ body ∙ body_is (form v) is_plain in
    rw text (between items i v lt at)

-- there is room for an item
pub item_fits : (items : List Value) (i room : ℕ) (text : List ℕ) → IsBetween items i text → length (bodies (plains_of (drop i items))) ≤ room
    → length text + length (bodies (plains_of (drop (i + 1) items))) ≤ room
item_fits items i room text t le = omega (arith, le, ap length t.left, length-append text (bodies (plains_of (drop (i + 1) items))))

-- the items so far are written, and there is room for the others
pub record HasWritten (items : List Value) (i : ℕ) (old new : List ℕ) (room : ℕ) : Type 0 where
  pub written : new ≡ old ++ bodies (plains_of (take i items))
  pub fits : length (bodies (plains_of (drop i items))) ≤ room

pub one_written : (items : List Value) (i : ℕ) (text old out new : List ℕ) (room less : ℕ) → IsBetween items i text → new ≡ out ++ text → less + length text ≡ room
    → HasWritten items i old out room → HasWritten items (i + 1) old new less
one_written items i text old out new room less t is took h =
    let before = bodies (plains_of (take i items)) in
    record {
      written = is ∙ ap (λ (s : List ℕ). s ++ text) h.written ∙ append_assoc old before text ∙ ap (λ (s : List ℕ). old ++ s) (sym t.more);
      fits = omega (arith, took, item_fits items i room text t h.fits);
    }
