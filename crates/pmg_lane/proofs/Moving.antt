-- Entries that move from one tree to another.
use Rattle.std.proofs.Common.{ℕ, List, ◌≡◌, ◌⊎◌, inl, inr, true, false, cond, refl, sym, ap, ◌∙◌}
use Rattle.std.specs.Prelude.{◌↔◌, Option, Some, None}
use Rattle.std.specs.Option.{option_map}
use Rattle.std.specs.Cmp.{Equal-is}
use Rattle.std.specs.Cmp.Lexicographic.{slice_cmp}
use Rattle.std.specs.Ordering.{nat_cmp}
use Rattle.std.specs.declared.cmp.Ordering.{Ordering}
use Rattle.std.specs.BTreeMap.{BTreeMap, get, is_at}
use Rattle.std.specs.Map.{lookup}
use Rattle.std.proofs.lemmas.Map.Lookups.{CmpEqualImpliesEq, exact_bytes}
use Rattle.pmg_value.specs.declared.value.Value.{Value}
use Rattle.pmg_commit.specs.Entries.{Entry}
use Rattle.pmg_join.specs.Places.{placed, there_at}
use Rattle.pmg_lane.specs.Entries.{late_cmp, entry_under, late_entry, HasEntry, HasPlaces, PlacesStay, ReadsWithin, LateFrom, Settles, NoneLeft}
use Rattle.pmg_lane.specs.declared.entries.Entries.{Entries}
use Rattle.pmg_lane.specs.declared.entries.Stamp.{Stamp}
use Rattle.pmg_lane.proofs.Settling.{exact_late, settles_next, late_trans, some_is, not_some}

-- ---- a place that was taken out of a tree
module _ {K V : Type 0} {R : K → K → Ordering} (exact : CmpEqualImpliesEq R) (make : K → V → Entry) (key_of : Entry → K) (made : (k : K) (v : V) → key_of (make k v) ≡ k)
    (m n : BTreeMap K (Option V)) (key : K) (place : Option V)
    (there : get R m key ≡ Some place) (taken : (q : K) → get R n q ≡ cond (is_at (R key) q) None (get R m q)) where
  -- what is left was there
  left_was : (q : K) (e : Entry) → option_map (make q) (there_at R n q) ≡ Some e → option_map (make q) (there_at R m q) ≡ Some e
  left_was q e h =
      elim (is_at (R key) q) as (λ t. is_at (R key) q ≡ t → option_map (make q) (there_at R m q) ≡ Some e) [
        | true ↦ λ t. absurd (not_some (sym (ap (λ o. option_map (make q) (placed o)) (taken q ∙ ap (λ b. cond b None (get R m q)) t)) ∙ h))
        | false ↦ λ t. sym (ap (λ o. option_map (make q) (placed o)) (taken q ∙ ap (λ b. cond b None (get R m q)) t)) ∙ h
      ] refl

  -- what was there was in the place, or is left
  was_left : (q : K) (e : Entry) → option_map (make q) (there_at R m q) ≡ Some e → (option_map (make key) place ≡ Some e) ⊎ (option_map (make q) (there_at R n q) ≡ Some e)
  was_left q e h =
      elim (is_at (R key) q) as (λ t. is_at (R key) q ≡ t → (option_map (make key) place ≡ Some e) ⊎ (option_map (make q) (there_at R n q) ≡ Some e)) [
        | true ↦ λ t.
            let same : key ≡ q = exact key q ((Equal-is _).0 t) in
            inl (sym (ap (λ o. option_map (make key) (placed o)) there) ∙ ap (λ k. option_map (make k) (there_at R m k)) same ∙ h)
        | false ↦ λ t. inr (ap (λ o. option_map (make q) (placed o)) (taken q ∙ ap (λ b. cond b None (get R m q)) t) ∙ h)
      ] refl

  -- what was in the place was there
  here_was : (o : Option V) → place ≡ o → (e : Entry) → option_map (make key) o ≡ Some e → option_map (make (key_of e)) (there_at R m (key_of e)) ≡ Some e
  here_was None is e h = absurd (not_some h)
  here_was (Some v) is e h =
      let same : key_of e ≡ key = ap key_of (sym (some_is h)) ∙ made key v in
      ap (λ k. option_map (make k) (there_at R m k)) same ∙ ap (λ o. option_map (make key) (placed o)) there ∙ ap (option_map (make key)) is ∙ h

  -- what was there is what was in the place, and what is left
  pub taken_parts :
      (e : Entry) → (option_map (make (key_of e)) (there_at R m (key_of e)) ≡ Some e)
      ↔ ((option_map (make key) place ≡ Some e) ⊎ (option_map (make (key_of e)) (there_at R n (key_of e)) ≡ Some e))
  taken_parts e = (was_left (key_of e) e, λ h. elim h [ inl here ↦ here_was place refl e here | inr left ↦ left_was (key_of e) e left ])

-- a place was taken out of what is read
pub read_taken :
    (reads : BTreeMap (List ℕ) (Option Stamp)) (a : Entries) (key : List ℕ) (place : Option Stamp) → get (slice_cmp nat_cmp) a.reads key ≡ Some place
    → ((q : List ℕ) → get (slice_cmp nat_cmp) reads q ≡ cond (is_at (slice_cmp nat_cmp key) q) None (get (slice_cmp nat_cmp) a.reads q)) → (e : Entry)
    → HasEntry a e ↔ ((option_map (entry_under key) place ≡ Some e) ⊎ HasEntry (record { reads = reads; late = a.late }) e)
read_taken reads a key place there taken e =
    let parts = taken_parts exact_bytes entry_under (λ e. e.key) (λ _ _. refl) a.reads reads key place there taken e in (
      λ h. elim h [ inl read ↦ elim (parts.0 read) [ inl here ↦ inl here | inr left ↦ inr (inl left) ] | inr late ↦ inr (inr late) ],
      λ h. elim h [ inl here ↦ inl (parts.1 (inl here)) | inr (inl left) ↦ inl (parts.1 (inr left)) | inr (inr late) ↦ inr late ],
    )

-- a late place was taken out, and its value has a stamp
pub late_taken :
    (a b : Entries) (place : ℕ × List ℕ) (value : Option Value) (stamp : Option Stamp) → option_map (entry_under place.1) stamp ≡ option_map (late_entry place) value
    → get late_cmp a.late place ≡ Some value → ((q : ℕ × List ℕ) → get late_cmp b.late q ≡ cond (is_at (late_cmp place) q) None (get late_cmp a.late q))
    → b.reads.entries ≡ a.reads.entries → (e : Entry) → HasEntry a e ↔ ((option_map (entry_under place.1) stamp ≡ Some e) ⊎ HasEntry b e)
late_taken a b place value stamp stamped there taken same e =
    let parts = taken_parts exact_late late_entry (λ e. (e.number, e.key)) (λ _ _. refl) a.late b.late place value there taken e in
    let reads = ap (λ es. option_map (entry_under e.key) (placed (lookup (is_at (slice_cmp nat_cmp e.key)) es))) same in (
      λ h. elim h [ inl read ↦ inr (inl (reads ∙ read)) | inr late ↦ elim (parts.0 late) [ inl here ↦ inl (stamped ∙ here) | inr left ↦ inr (inr left) ] ],
      λ h. elim h [ inl here ↦ inr (parts.1 (inl (sym stamped ∙ here))) | inr (inl read) ↦ inl (sym reads ∙ read) | inr (inr left) ↦ inr (parts.1 (inr left)) ],
    )

-- nothing is left in a tree without places
pub none_made : {K V : Type 0} (R : K → K → Ordering) (make : K → V → Entry) (m : BTreeMap K (Option V)) → ((q : K) → get R m q ≡ None) → (q : K) (e : Entry)
    → option_map (make q) (there_at R m q) ≡ Some e → ⊥
none_made R make m none q e h = not_some (sym (ap (λ o. option_map (make q) (placed o)) (none q)) ∙ h)

-- ---- places stay
-- there are places where there were
pub has_stays : (a b : Entries) (reach number : ℕ) (key : List ℕ) → PlacesStay a b → HasPlaces a reach number key → HasPlaces b reach number key
has_stays a b reach number key stay has = (λ up. stay.0 key (has.0 up), λ past. stay.1 (number, key) (has.1 past))

pub stay_trans : (a b c : Entries) → PlacesStay a b → PlacesStay b c → PlacesStay a c
stay_trans a b c s t = (λ key h. t.0 key (s.0 key h), λ place h. t.1 place (s.1 place h))

-- places stay where nothing changes
pub places_itself : (a : Entries) → PlacesStay a a
places_itself a = (λ key h. h, λ place h. h)

-- ---- one after the other
-- b is a with the other entries put, but those that are left, for which there are places
pub record Moves (level : ℕ) (a other b left : Entries) : Type 0 where
  pub settles : Settles level a (HasEntry other) b (HasEntry left)
  pub within : ReadsWithin level b
  pub late : LateFrom level a b
  pub stay : PlacesStay a b
  pub places : (e : Entry) → HasEntry left e → HasPlaces b level e.number e.key
  pub was : (e : Entry) → HasEntry left e → HasEntry other e

module _ {level : ℕ} {a other b left : Entries} (moves : Moves level a other b left) (rest : Entries) (key : List ℕ) (place : Option Stamp)
    (taken : (e : Entry) → HasEntry left e ↔ ((option_map (entry_under key) place ≡ Some e) ⊎ HasEntry rest e)) where
  -- what is left now was left before
  rest_was : (e : Entry) → HasEntry rest e → HasEntry left e
  rest_was e h = (taken e).1 (inr h)

  -- the place that was taken out is empty
  pub moves_none : place ≡ None → Moves level a other b rest
  moves_none none = record {
    settles = record {
      fewer = moves.settles.fewer;
      enough = λ e h. elim (moves.settles.enough e h) [
        | inl i ↦ inl i
        | inr l ↦ elim ((taken e).0 l) [ inl here ↦ absurd (not_some (sym (ap (option_map (entry_under key)) none) ∙ here)) | inr r ↦ inr r ]
      ];
    };
    within = moves.within;
    late = moves.late;
    stay = moves.stay;
    places = λ e h. moves.places e (rest_was e h);
    was = λ e h. moves.was e (rest_was e h);
  }

  -- the entry in the place was one of those that were left
  pub stamp_was : (s : Stamp) → place ≡ Some s → HasEntry left (entry_under key s)
  stamp_was s is = (taken (entry_under key s)).1 (inl (ap (option_map (entry_under key)) is))

  -- the entry in the place is put
  pub moves_some :
      (s : Stamp) (c : Entries) → place ≡ Some s → Settles level b (λ e. e ≡ entry_under key s) c NoneLeft → ReadsWithin level c → LateFrom level b c → PlacesStay b c
      → Moves level a other c rest
  moves_some s c is settles within late stay = record {
    settles = settles_next level a b c (entry_under key s) (HasEntry other) (HasEntry left) (HasEntry rest) moves.settles settles (moves.was (entry_under key s) (stamp_was s is))
        (λ e h. elim ((taken e).0 h) [ inl here ↦ inl (some_is (sym here ∙ ap (option_map (entry_under key)) is)) | inr r ↦ inr r ]);
    within = within;
    late = late_trans level a b c moves.late late;
    stay = stay_trans a b c moves.stay stay;
    places = λ e h. has_stays b c level e.number e.key stay (moves.places e (rest_was e h));
    was = λ e h. moves.was e (rest_was e h);
  }
