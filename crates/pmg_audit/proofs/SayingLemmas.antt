-- What clients say of their events: where it stands, and with some of it told.
use Rattle.std.proofs.Common.{◌≡◌, ℕ, zero, suc, ◌+◌, ◌-◌, ◌<◌, ◌≤◌, Bool, true, false, cond, List, [], ◌∷◌, ◌++◌, length, map, get_or, set, take, drop, Option, Some, None, is_some, IfSome, IsNone, option_to_list, inl, inr, refl, sym, ap, subst, ◌∙◌, arith}
use Rattle.std.proofs.lemmas.Bool.{false≢true}
use Rattle.std.proofs.lemmas.List.{drop_more, length-drop, nil_from_length, take-append-drop, take_all, take_more}
use Rattle.std.proofs.lemmas.Simd.{map-map}
use Rattle.std.proofs.Math.Seq.{map-set_same}
use Rattle.pmg_value.specs.Lists.{In, Each}
use Rattle.std.specs.BTreeMap.{is_at}
use Rattle.std.specs.Cmp.{Equal-is, eq_by_cmp_equiv}
use Rattle.pmg_value.specs.Process.{proc_cmp}
use Rattle.pmg_value.proofs.ProcessOrder.{exact_procs, procs_total}
use Rattle.pmg_value.specs.declared.process.Proc.{Proc}
use Rattle.pmg_fence.specs.Entering.{same_proc}
use Rattle.pmg_fence.proofs.EntryLemmas.{proc_itself}
use Rattle.pmg_journal.specs.declared.transcript.Transcript.{Transcript}
use Rattle.pmg_audit.specs.Agreeing.{AreOfOtherProcs, said_for}
use Rattle.pmg_audit.specs.Codes.{rest_of, audited_due}
use Rattle.pmg_audit.specs.Moves.{Put}
use Rattle.pmg_audit.specs.Taking.{ArePlaces, AreSayings, IsAbsent, IsPlace, NoneOf, IsSayingOf, StandsAt, TakesSaying, last_of, lasts_of, place_at, sayers}
use Rattle.pmg_audit.specs.declared.moves.Due.{Due as KeptDue}
use Rattle.pmg_audit.specs.declared.moves.Saying.{Saying}

same_proc_is : (p q : Proc) → same_proc p q ≡ true → p ≡ q
same_proc_is p q e = exact_procs p q ((Equal-is _).0 e)

-- ---- lists

pub each_push : {A : Type 0} (P : A → Type 0) (xs : List A) (x : A) → Each P xs → P x → Each P (xs ++ x ∷ [])
each_push P [] x each last = (last, tt)
each_push P (y ∷ xs) x each last = (each.0, each_push P xs x each.1 last)

pub each_in : {A : Type 0} (P : A → Type 0) (xs : List A) (x : A) → Each P xs → In x xs → P x
each_in P [] x each i = absurd i
each_in P (y ∷ xs) x each i = elim i [ inl same ↦ subst P (sym same) each.0 | inr later ↦ each_in P xs x each.1 later ]

pub each_head : {A : Type 0} (P : A → Type 0) (xs : List A) (x : A) (ys : List A) → Each P (xs ++ x ∷ ys) → P x
each_head P [] x ys each = each.0
each_head P (y ∷ xs) x ys each = each_head P xs x ys each.1

-- a loop one item further, and at its end
pub each_more : {A : Type 0} (P : A → Type 0) (xs : List A) (k : ℕ) (d : A) → k < length xs → Each P (take k xs) → P (get_or xs k d) → Each P (take (k + 1) xs)
each_more P xs k d inside each one = subst (Each P) (sym (take_more xs k d inside)) (each_push P (take k xs) (get_or xs k d) each one)

pub each_all : {A : Type 0} (P : A → Type 0) (xs : List A) (k : ℕ) → length xs ≤ k → Each P (take k xs) → Each P xs
each_all P xs k past each = subst (Each P) (take_all k xs past) each

-- ---- places

pub place_inside : (ss : List Saying) (p : Proc) (k : ℕ) → IsPlace ss p k → k < length ss
place_inside [] p k place = absurd place
place_inside (s ∷ ss) p zero place = omega arith
place_inside (s ∷ ss) p (suc k) place = let rest = place_inside ss p k place.1 in omega (arith, rest)

pub no_places : ArePlaces [] []
no_places = record { found = λ p k is. absurd cc; none = λ p is. tt }

stands_last : (ps : List Proc) (p : Proc) → IsAbsent ps p → StandsAt (ps ++ p ∷ []) p (length ps)
stands_last [] p none = proc_itself p
stands_last (q ∷ ps) p none = (none.0, stands_last ps p none.1)

stands_on : (ps : List Proc) (p q : Proc) (k : ℕ) → StandsAt ps q k → StandsAt (ps ++ p ∷ []) q k
stands_on [] p q k at = absurd at
stands_on (r ∷ ps) p q zero at = at
stands_on (r ∷ ps) p q (suc k) at = (at.0, stands_on ps p q k at.1)

-- one process more
pub places_more : (ps : List Proc) (p : Proc) (rows rows2 : List (Proc × ℕ)) → ArePlaces ps rows → IsAbsent ps p
    → ((q : Proc) → place_at rows2 q ≡ cond (is_at (proc_cmp p) q) (Some (length ps)) (place_at rows q)) → ArePlaces (ps ++ p ∷ []) rows2
places_more ps p rows rows2 are absent more = record {
  found = λ q k is. found_by q k (is_at (proc_cmp p) q) refl (sym (more q) ∙ is);
  none = λ q is. none_by q (is_at (proc_cmp p) q) refl (sym (more q) ∙ is);
}
  where
    found_by : (q : Proc) (k : ℕ) (b : Bool) → is_at (proc_cmp p) q ≡ b → cond b (Some (length ps)) (place_at rows q) ≡ Some k → StandsAt (ps ++ p ∷ []) q k
    found_by q k true tie is =
        let place : length ps ≡ k = cc in
        subst (StandsAt (ps ++ p ∷ []) q) place (subst (λ r. StandsAt (ps ++ p ∷ []) r (length ps)) (same_proc_is p q tie) (stands_last ps p absent))
    found_by q k false tie is = stands_on ps p q k (are.found q k is)

    none_by : (q : Proc) (b : Bool) → is_at (proc_cmp p) q ≡ b → cond b (Some (length ps)) (place_at rows q) ≡ None → IsAbsent (ps ++ p ∷ []) q
    none_by q true tie is = absurd cc
    none_by q false tie is = each_push (λ r. same_proc q r ≡ false) ps p (are.none q is) ((eq_by_cmp_equiv procs_total).symm q p ∙ tie)

-- whether a process has a place
pub kept_place : (ss : List Saying) (p : Proc) (rows : List (Proc × ℕ)) → ArePlaces (sayers ss) rows → is_some (place_at rows p) ≡ true → (k : ℕ) × IsPlace ss p k
kept_place ss p rows are there = by (place_at rows p) refl there
  where
    by : (o : Option ℕ) → place_at rows p ≡ o → is_some o ≡ true → (k : ℕ) × IsPlace ss p k
    by None is some = absurd (false≢true some)
    by (Some k) is some = (k, are.found p k is)

pub no_place : (ss : List Saying) (p : Proc) (rows : List (Proc × ℕ)) → ArePlaces (sayers ss) rows → is_some (place_at rows p) ≡ false → NoneOf ss p
no_place ss p rows are there = by (place_at rows p) refl there
  where
    by : (o : Option ℕ) → place_at rows p ≡ o → is_some o ≡ false → NoneOf ss p
    by None is some = are.none p is
    by (Some k) is some = absurd (false≢true (sym some))

pub none_rest : (ss : List Saying) (p : Proc) → NoneOf ss p → rest_of ss p ≡ []
none_rest [] p none = refl
none_rest (s ∷ ss) p none = ap (λ b. cond b (map audited_due s.dues.items) (rest_of ss p)) none.0 ∙ none_rest ss p none.1

pub empty_at : (ss : List Saying) (p : Proc) (k : ℕ) (d : Saying) → IsPlace ss p k → (get_or ss k d).dues.items ≡ [] → rest_of ss p ≡ []
empty_at [] p k d place empty = absurd place
empty_at (s ∷ ss) p zero d place empty = ap (λ b. cond b (map audited_due s.dues.items) (rest_of ss p)) place ∙ ap (map audited_due) empty
empty_at (s ∷ ss) p (suc k) d place empty = ap (λ b. cond b (map audited_due s.dues.items) (rest_of ss p)) place.0 ∙ empty_at ss p k d place.1 empty

-- what a process says takes no place
pub places_stay : (x : Saying) (ss : List Saying) (k : ℕ) (e : Saying) (rows : List (Proc × ℕ)) → x.proc ≡ (get_or ss k e).proc → ArePlaces (sayers ss) rows → ArePlaces (sayers (set ss k x)) rows
places_stay x ss k e rows same are = subst (λ (ps : List Proc). ArePlaces ps rows) (sym (map-set_same (λ (s : Saying). s.proc) ss k x e same)) are

-- where what each put last is the same, the processes are
pub procs_by : (ss rs : List Saying) → lasts_of ss ≡ lasts_of rs → sayers ss ≡ sayers rs
procs_by ss rs same = sym (map-map first last_of ss) ∙ ap (map first) same ∙ map-map first last_of rs
  where
    first : Proc × List Put → Proc
    first x = x.0

-- the first event that is said there is taken
module _ (p : Proc) (d : KeptDue) (ds : List KeptDue) (x : Saying) where
  here_taken : (ss : List Saying) (k : ℕ) (e : Saying) → IsPlace ss p k → x.proc ≡ (get_or ss k e).proc → (get_or ss k e).dues.items ≡ d ∷ ds → x.dues.items ≡ ds
      → rest_of ss p ≡ audited_due d ∷ rest_of (set ss k x) p
  here_taken [] k e place same was now = absurd place
  here_taken (s ∷ ss) zero e place same was now =
      ap (λ b. cond b (map audited_due s.dues.items) (rest_of ss p)) place ∙ ap (map audited_due) (was ∙ ap (λ l. d ∷ l) (sym now))
      ∙ ap (λ l. audited_due d ∷ l) (sym (ap (λ b. cond b (map audited_due x.dues.items) (rest_of ss p)) (ap (same_proc p) same ∙ place)))
  here_taken (s ∷ ss) (suc k) e place same was now =
      ap (λ b. cond b (map audited_due s.dues.items) (rest_of ss p)) place.0 ∙ here_taken ss k e place.1 same was now
      ∙ ap (λ l. audited_due d ∷ l) (sym (ap (λ b. cond b (map audited_due s.dues.items) (rest_of (set ss k x) p)) place.0))

  others_stay : (q : Proc) → same_proc q p ≡ false → (ss : List Saying) (k : ℕ) (e : Saying) → IsPlace ss p k → x.proc ≡ (get_or ss k e).proc → rest_of (set ss k x) q ≡ rest_of ss q
  others_stay q apart [] k e place same = absurd place
  others_stay q apart (s ∷ ss) zero e place same =
      let not : same_proc q s.proc ≡ false = ap (same_proc q) (sym (same_proc_is p s.proc place)) ∙ apart in
      ap (λ b. cond b (map audited_due x.dues.items) (rest_of ss q)) (ap (same_proc q) same ∙ not) ∙ sym (ap (λ b. cond b (map audited_due s.dues.items) (rest_of ss q)) not)
  others_stay q apart (s ∷ ss) (suc k) e place same = ap (cond (same_proc q s.proc) (map audited_due s.dues.items)) (others_stay q apart ss k e place.1 same)

  pub taken_at : (ss : List Saying) (k : ℕ) (e : Saying) → IsPlace ss p k → last_of x ≡ last_of (get_or ss k e) → (get_or ss k e).dues.items ≡ d ∷ ds → x.dues.items ≡ ds
      → TakesSaying ss p (audited_due d) (set ss k x)
  taken_at ss k e place same was now = record {
    here = here_taken ss k e place (λ i. (same i).0) was now;
    others = λ q apart. others_stay q apart ss k e place (λ i. (same i).0);
    lasts = map-set_same last_of ss k x e same;
  }

-- ---- sayings and transcripts

pub sayings_more : (ss : List Saying) (ts : List Transcript) (s : Saying) (t : Transcript) → AreSayings ss ts → IsSayingOf s t → AreSayings (ss ++ s ∷ []) (ts ++ t ∷ [])
unfolding AreSayings
sayings_more [] [] s t are says = (says, tt)
sayings_more [] (u ∷ ts) s t are says = absurd are
sayings_more (r ∷ ss) [] s t are says = absurd are
sayings_more (r ∷ ss) (u ∷ ts) s t are says = (are.0, sayings_more ss ts s t are.1 says)

pub rest_is : (ss : List Saying) (ts : List Transcript) → AreSayings ss ts → (p : Proc) → rest_of ss p ≡ said_for ts p
unfolding AreSayings
rest_is [] [] are p = refl
rest_is [] (u ∷ ts) are p = absurd are
rest_is (r ∷ ss) [] are p = absurd are
rest_is (r ∷ ss) (u ∷ ts) are p = (λ i. cond (same_proc p (are.0.proc i)) (are.0.dues i) (rest_is ss ts are.1 p i))

-- none of the transcripts is of the process, where none of the sayings is
none_apart : (ss : List Saying) (ts : List Transcript) (p : Proc) → AreSayings ss ts → NoneOf ss p → Each (λ (u : Transcript). u.proc ≡ p → ⊥) ts
unfolding AreSayings
none_apart [] [] p are none = tt
none_apart [] (u ∷ ts) p are none = absurd are
none_apart (r ∷ ss) [] p are none = absurd are
none_apart (r ∷ ss) (u ∷ ts) p are none =
    (λ same. absurd (false≢true (sym none.0 ∙ ap (same_proc p) (are.0.proc ∙ same) ∙ proc_itself p)), none_apart ss ts p are.1 none.1)

apart_push : (ts : List Transcript) (t : Transcript) → AreOfOtherProcs ts → Each (λ (u : Transcript). u.proc ≡ t.proc → ⊥) ts → AreOfOtherProcs (ts ++ t ∷ [])
apart_push [] t apart each = (tt, tt)
apart_push (u ∷ ts) t apart each = (each_push (λ (v : Transcript). u.proc ≡ v.proc → ⊥) ts t apart.0 each.0, apart_push ts t apart.1 each.1)

pub apart_more : (ss : List Saying) (ts : List Transcript) (t : Transcript) → AreOfOtherProcs ts → AreSayings ss ts → NoneOf ss t.proc → AreOfOtherProcs (ts ++ t ∷ [])
apart_more ss ts t apart are none = apart_push ts t apart (none_apart ss ts t.proc are none)

-- a transcript of the process stands before, where a saying of it does
pub not_apart : (ss : List Saying) (ts : List Transcript) (t : Transcript) (us : List Transcript) (k : ℕ) → AreSayings ss ts → IsPlace ss t.proc k → AreOfOtherProcs (ts ++ t ∷ us) → ⊥
unfolding AreSayings
not_apart [] ts t us k are place apart = absurd place
not_apart (r ∷ ss) [] t us k are place apart = absurd are
not_apart (r ∷ ss) (u ∷ ts) t us zero are place apart =
    each_head (λ (v : Transcript). u.proc ≡ v.proc → ⊥) ts t us apart.0 (sym are.0.proc ∙ sym (same_proc_is t.proc r.proc place))
not_apart (r ∷ ss) (u ∷ ts) t us (suc k) are place apart = not_apart ss ts t us k are.1 place.1 apart.1

pub sayings_none : AreSayings [] []
unfolding AreSayings
sayings_none = tt

-- a list at one of its items
pub cut_at : {A : Type 0} (xs : List A) (k : ℕ) (x : A) → k < length xs → x ≡ get_or xs k x → xs ≡ take k xs ++ x ∷ drop (k + 1) xs
cut_at xs k x inside is = sym (take-append-drop k xs) ∙ ap (λ l. take k xs ++ l) (drop_more xs k x inside ∙ ap (λ y. y ∷ drop (k + 1) xs) (sym is))

pub take_is : {A : Type 0} (xs : List A) (k : ℕ) (x : A) → k < length xs → x ≡ get_or xs k x → take (k + 1) xs ≡ take k xs ++ x ∷ []
take_is xs k x inside is = take_more xs k x inside ∙ ap (λ y. take k xs ++ y ∷ []) (sym is)

-- the first event that is said there is taken, if there is one
pub popped_some : (p : Proc) (ss : List Saying) (k : ℕ) (e x : Saying) (o : Option KeptDue) → IsPlace ss p k → last_of x ≡ last_of (get_or ss k e)
    → (get_or ss k e).dues.items ≡ option_to_list o ++ x.dues.items → IfSome o (λ d. TakesSaying ss p (audited_due d) (set ss k x))
popped_some p ss k e x None place same is = tt
popped_some p ss k e x (Some d) place same is = taken_at p d x.dues.items x ss k e place same is refl

no_items : (xs ys : List KeptDue) → xs ≡ ys → ys ≡ drop 1 xs → xs ≡ []
no_items xs ys same rest =
    let count : length xs ≡ length xs - 1 = ap length (same ∙ rest) ∙ length-drop 1 xs in
    nil_from_length xs (omega (arith, count))

pub popped_none : (p : Proc) (ss : List Saying) (k : ℕ) (e : Saying) (xs : List KeptDue) (o : Option KeptDue) → IsPlace ss p k → (get_or ss k e).dues.items ≡ option_to_list o ++ xs
    → xs ≡ drop 1 (get_or ss k e).dues.items → IsNone o → rest_of ss p ≡ []
popped_none p ss k e xs None place is rest none = empty_at ss p k e place (no_items (get_or ss k e).dues.items xs is rest)
popped_none p ss k e xs (Some d) place is rest none = absurd cc
