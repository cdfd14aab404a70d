-- Frames that were sent, found by their labels.
use Rattle.std.proofs.Common.{◌≡◌, ℕ, zero, suc, Bool, true, false, cond, List, [], ◌∷◌, ◌++◌, length, Option, Some, None, IfSome, slice_get, inl, inr, refl, sym, ap, subst, ◌∙◌}
use Rattle.std.proofs.lemmas.Bool.{false≢true}
use Rattle.std.proofs.lemmas.Cmp.{nat_cmp_total, tied_itself}
use Rattle.std.proofs.lemmas.Map.Lookups.{CmpEqualImpliesEq, exact_unsigned}
use Rattle.std.specs.BTreeMap.{is_at}
use Rattle.std.specs.Cmp.{Equal-is}
use Rattle.std.specs.Global.{Vec}
use Rattle.std.specs.Map.{lookup}
use Rattle.std.specs.Option.{is_some}
use Rattle.std.specs.Ordering.{is_eq, nat_cmp, ordering_then}
use Rattle.std.specs.declared.cmp.Ordering.{Ordering}
use Rattle.std.specs.declared.cmp.Ordering.TheVariants.{Less, Equal, Greater}
use Rattle.pmg_value.specs.Lists.{In}
use Rattle.pmg_value.proofs.ListLemmas.{in_append_left, in_append_right, in_parts}
use Rattle.pmg_node_model.specs.declared.sent.Sent.{Sent}
use Rattle.pmg_audit.specs.Labels.{label_cmp, label_of}
use Rattle.pmg_audit.specs.Sends.{ArePlaced, IsPlaced, NoneAt, places_in, places_under}
use Rattle.pmg_audit.specs.declared.labels.Label.{Label}
use Rattle.pmg_audit.proofs.SayingLemmas.{each_in}

-- ---- labels

both_equal : (a b : Ordering) → ordering_then a b ≡ Equal → (a ≡ Equal) × (b ≡ Equal)
both_equal Less b e = absurd cc
both_equal Equal b e = (refl, e)
both_equal Greater b e = absurd cc

-- labels that compare alike are one
exact_labels : CmpEqualImpliesEq label_cmp
exact_labels a b e =
    let last = ordering_then (nat_cmp a.to b.to) (nat_cmp a.kind b.kind) in
    let later = ordering_then (nat_cmp a.other b.other) last in
    let numbers = both_equal (nat_cmp a.number b.number) (ordering_then (nat_cmp a.of b.of) later) e in
    let ofs = both_equal (nat_cmp a.of b.of) later numbers.1 in
    let others = both_equal (nat_cmp a.other b.other) last ofs.1 in
    let tos = both_equal (nat_cmp a.to b.to) (nat_cmp a.kind b.kind) others.1 in
    λ i. record {
      number = exact_unsigned a.number b.number numbers.0 i;
      of = exact_unsigned a.of b.of ofs.0 i;
      other = exact_unsigned a.other b.other others.0 i;
      to = exact_unsigned a.to b.to tos.0 i;
      kind = exact_unsigned a.kind b.kind tos.1 i;
    }

tied_label : (a b : Label) → is_at (label_cmp a) b ≡ true → a ≡ b
tied_label a b e = exact_labels a b ((Equal-is _).0 e)

-- a label compares alike to itself
itself : (a : Label) → is_at (label_cmp a) a ≡ true
itself a =
    let same : (n : ℕ) → nat_cmp n n ≡ Equal = λ n. tied_itself nat_cmp_total n in
    λ i. is_eq (ordering_then (same a.number i) (ordering_then (same a.of i) (ordering_then (same a.other i) (ordering_then (same a.to i) (same a.kind i)))))

-- ---- places of frames

get_stays : {A : Type 0} (xs ys : List A) (i : ℕ) (x : A) → slice_get xs i ≡ Some x → slice_get (xs ++ ys) i ≡ Some x
get_stays [] ys i x is = absurd cc
get_stays (z ∷ xs) ys zero x is = is
get_stays (z ∷ xs) ys (suc i) x is = get_stays xs ys i x is

get_last : {A : Type 0} (xs : List A) (x : A) → slice_get (xs ++ x ∷ []) (length xs) ≡ Some x
get_last [] x = refl
get_last (y ∷ xs) x = get_last xs x

in_got : {A : Type 0} (xs : List A) (i : ℕ) (x : A) → slice_get xs i ≡ Some x → In x xs
in_got [] i x is = absurd cc
in_got (y ∷ xs) zero x is = let same : y ≡ x = cc in inl (sym same)
in_got (y ∷ xs) (suc i) x is = inr (in_got xs i x is)

-- ---- what is found

-- a frame that is at none of the places under its label was not sent
pub not_sent : (frames : List Sent) (rows : List (Label × Vec ℕ)) (s : Sent) (o : Option (Vec ℕ)) → ArePlaced frames rows → o ≡ lookup (is_at (label_cmp (label_of s.to s.frame))) rows → NoneAt frames s (places_in o)
    → In s frames → ⊥
not_sent frames rows s o are is none i =
    let place = are.each s i in
    each_in (λ k. slice_get frames k ≡ Some s → ⊥) (places_in o) place.0 none (subst (λ p. In place.0 (places_in p)) (sym is) place.1) place.2

-- ---- one frame more

-- the list is put under the label, and all else stays
abbrev pub UpdatesAt : List (Label × Vec ℕ) → Label → Vec ℕ → List (Label × Vec ℕ) → Type 0
UpdatesAt rows label list rows2 = (q : Label) → lookup (is_at (label_cmp q)) rows2 ≡ cond (is_at (label_cmp label) q) (Some list) (lookup (is_at (label_cmp q)) rows)

module _ (frames : List Sent) (rows rows2 : List (Label × Vec ℕ)) (s : Sent) (list : Vec ℕ) (are : ArePlaced frames rows) (more : UpdatesAt rows (label_of s.to s.frame) list rows2) where
  -- the list under the frame's label has all places that were there, and one of the frame
  module _ (stay : (i : ℕ) → In i (places_under rows (label_of s.to s.frame)) → In i list.items) (here : (i : ℕ) × In i list.items × (slice_get (frames ++ s ∷ []) i ≡ Some s)) where
    stays_by : (q : Label) (b : Bool) → is_at (label_cmp (label_of s.to s.frame)) q ≡ b → (i : ℕ) → In i (places_under rows q) → In i (places_in (cond b (Some list) (lookup (is_at (label_cmp q)) rows)))
    stays_by q true tie i there = stay i (subst (λ l. In i (places_under rows l)) (sym (tied_label (label_of s.to s.frame) q tie)) there)
    stays_by q false tie i there = there

    stays : (q : Label) (i : ℕ) → In i (places_under rows q) → In i (places_under rows2 q)
    stays q i there = subst (λ o. In i (places_in o)) (sym (more q)) (stays_by q (is_at (label_cmp (label_of s.to s.frame)) q) refl i there)

    is_there : IsPlaced (frames ++ s ∷ []) rows2 s
    is_there =
        let label = label_of s.to s.frame in
        let list_is : lookup (is_at (label_cmp label)) rows2 ≡ Some list = more label ∙ ap (λ b. cond b (Some list) (lookup (is_at (label_cmp label)) rows)) (itself label) in
        (here.0, subst (λ o. In here.0 (places_in o)) (sym list_is) here.1, here.2)

    placed_more : ArePlaced (frames ++ s ∷ []) rows2
    placed_more = record {
      each = λ t i. elim (in_parts frames (s ∷ []) t i) [
        | inl before ↦
            let place = are.each t before in
            (place.0, stays (label_of t.to t.frame) place.0 place.1, get_stays frames (s ∷ []) place.0 t place.2)
        | inr last ↦ elim last [
          | inl same ↦ subst (IsPlaced (frames ++ s ∷ []) rows2) (sym same) is_there
          | inr none ↦ absurd none
        ]
      ];
    }

  -- its place is put after those that were there
  pub placed_last : (old : Option (Vec ℕ)) (next : ℕ) → old ≡ lookup (is_at (label_cmp (label_of s.to s.frame))) rows → list.items ≡ places_in old ++ next ∷ [] → next ≡ length frames → ArePlaced (frames ++ s ∷ []) rows2
  placed_last old next is items place =
      placed_more (λ i there. subst (In i) (sym items) (in_append_left (places_in old) (next ∷ []) i (subst (λ o. In i (places_in o)) (sym is) there)))
      (next, subst (In next) (sym items) (in_append_right (places_in old) (next ∷ []) next (inl refl)), ap (slice_get (frames ++ s ∷ [])) place ∙ get_last frames s)

  -- an earlier one says the same
  pub placed_again : (o : Option ℕ) → is_some o ≡ true → IfSome o (λ k. slice_get frames k ≡ Some s) → Some list ≡ lookup (is_at (label_cmp (label_of s.to s.frame))) rows → ArePlaced (frames ++ s ∷ []) rows2
  placed_again None some at is = absurd (false≢true some)
  placed_again (Some k) some at is =
      let stay : (i : ℕ) → In i (places_under rows (label_of s.to s.frame)) → In i list.items = λ i there. subst (λ o. In i (places_in o)) (sym is) there in
      let place = are.each s (in_got frames k s at) in
      placed_more stay (place.0, stay place.0 place.1, get_stays frames (s ∷ []) place.0 s place.2)
