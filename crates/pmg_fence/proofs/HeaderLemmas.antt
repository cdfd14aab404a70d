-- Headers: the lines of their node's participants.
use Rattle.std.proofs.Common.{◌≡◌, Bool, true, false, cond, List, [], ◌∷◌, Option, Some, None, inl, inr, refl, sym, ap, ◌∙◌}
use Rattle.std.specs.List.{filter, find}
use Rattle.std.specs.Option.{option_map}
use Rattle.std.specs.Cmp.{Equal-is}
use Rattle.std.proofs.lemmas.Bool.{false≢true}
use Rattle.pmg_value.specs.Lists.{In}
use Rattle.pmg_value.specs.declared.process.Proc.{Proc}
use Rattle.pmg_value.proofs.ProcessOrder.{exact_procs}
use Rattle.pmg_frame.specs.declared.local.Local.{Local}
use Rattle.pmg_fence.specs.declared.entry.Entry.{Entry}
use Rattle.pmg_fence.specs.Entering.{same_proc, local_of, with_line, collected_locals, told_locals}
use Rattle.pmg_fence.specs.Tables.{entry_in}
use Rattle.pmg_fence.proofs.EntryLemmas.{proc_itself}

-- two processes are one or are told apart
pub by_proc : (p q : Proc) {P : Type 0} → (p ≡ q → P) → (same_proc p q ≡ false → P) → P
by_proc p q {P} one other = choose (same_proc p q) refl
  where
    choose : (b : Bool) → same_proc p q ≡ b → P
    choose true e = one (exact_procs p q ((Equal-is _).0 e))
    choose false e = other e

-- ---- lines

-- the lines are those of each process
pub lines_alike : (s t : Proc → Option Entry) (ps : List Proc) → ((q : Proc) → In q ps → s q ≡ t q) → collected_locals s ps ≡ collected_locals t ps
lines_alike s t [] same = refl
lines_alike s t (p ∷ ps) same = (λ i. with_line p (same p (inl refl) i) (lines_alike s t ps (λ q i. same q (inr i)) i))

pub told_alike : (s t : Proc → Option Entry) (ps : List Proc) → ((q : Proc) → In q ps → s q ≡ t q) → told_locals s ps ≡ told_locals t ps
told_alike s t [] same = refl
told_alike s t (p ∷ ps) same = lines_alike s t (p ∷ ps) same

-- lines stay where entries stay
lines_stay_by : (s t : Proc → Option Entry) (p : Proc) (o : Option Entry) (x y : Option (List Local)) → s p ≡ o
    → ((e : Entry) → s p ≡ Some e → t p ≡ Some e) → ((ls : List Local) → x ≡ Some ls → y ≡ Some ls)
    → (ls : List Local) → with_line p o x ≡ Some ls → with_line p (t p) y ≡ Some ls
lines_stay_by s t p None x y is same rest ls h = absurd cc
lines_stay_by s t p (Some e) None y is same rest ls h = absurd cc
lines_stay_by s t p (Some e) (Some xs) y is same rest ls h = (λ i. with_line p (same e is i) (rest xs refl i)) ∙ h

pub lines_stay : (s t : Proc → Option Entry) (ps : List Proc) → ((q : Proc) (e : Entry) → s q ≡ Some e → t q ≡ Some e)
    → (ls : List Local) → collected_locals s ps ≡ Some ls → collected_locals t ps ≡ Some ls
lines_stay s t [] same ls h = h
lines_stay s t (p ∷ ps) same ls h = lines_stay_by s t p (s p) (collected_locals s ps) (collected_locals t ps) refl (same p) (lines_stay s t ps same) ls h

pub told_stays : (s t : Proc → Option Entry) (ps : List Proc) → ((q : Proc) (e : Entry) → s q ≡ Some e → t q ≡ Some e)
    → (ls : List Local) → told_locals s ps ≡ Some ls → told_locals t ps ≡ Some ls
told_stays s t [] same ls h = absurd cc
told_stays s t (p ∷ ps) same ls h = lines_stay s t (p ∷ ps) same ls h

-- ---- what a line says

entry_of_local : (p : Proc) (e : Entry) → e ≡ record { state = (local_of p e).state; level = (local_of p e).level }
entry_of_local p e = refl

found_by : (s : Proc → Option Entry) (q p : Proc) (o : Option Entry) (x : Option (List Local)) → s p ≡ o
    → ((ls : List Local) → x ≡ Some ls → (same_proc q p ≡ true → ⊥) → entry_in q (Some ls) ≡ s q)
    → (ls : List Local) → with_line p o x ≡ Some ls → entry_in q (Some ls) ≡ s q
found_by s q p None x is rest ls h = absurd cc
found_by s q p (Some e) None is rest ls h = absurd cc
found_by s q p (Some e) (Some xs) is rest ls h =
    ap (entry_in q) (sym h)
    ∙ elim (same_proc q p) as (λ b. same_proc q p ≡ b → option_map (λ (l : Local). record { state = l.state; level = l.level }) (cond b (Some (local_of p e)) (find (λ l. same_proc q l.proc) xs)) ≡ s q) [
      | true ↦ λ t. sym is ∙ ap s (sym (exact_procs q p ((Equal-is _).0 t)))
      | false ↦ λ t. rest xs refl (λ z. false≢true (sym t ∙ z))
    ] refl

-- of each of the processes the lines say how it stands
pub lines_say : (s : Proc → Option Entry) (ps : List Proc) (q : Proc) → In q ps → (ls : List Local) → collected_locals s ps ≡ Some ls → entry_in q (Some ls) ≡ s q
lines_say s [] q i ls h = absurd i
lines_say s (p ∷ ps) q (inl e) ls h = found_by s q p (s p) (collected_locals s ps) refl (λ xs z apart. absurd (apart (ap (λ r. same_proc q r) (sym e) ∙ proc_itself q))) ls h
lines_say s (p ∷ ps) q (inr i) ls h = found_by s q p (s p) (collected_locals s ps) refl (λ xs z apart. lines_say s ps q i xs z) ls h

pub told_says : (s : Proc → Option Entry) (ps : List Proc) (q : Proc) → In q ps → (ls : List Local) → told_locals s ps ≡ Some ls → entry_in q (Some ls) ≡ s q
told_says s [] q i ls h = absurd i
told_says s (p ∷ ps) q i ls h = lines_say s (p ∷ ps) q i ls h

-- ---- the processes at home at a node

pub in_filter : {A : Type 0} (p : A → Bool) (xs : List A) (x : A) → In x xs → p x ≡ true → In x (filter p xs)
in_filter p [] x i h = absurd i
in_filter p (y ∷ ys) x (inl e) h = rw (ap p (sym e) ∙ h) (inl e)
in_filter p (y ∷ ys) x (inr i) h = elim (p y) as (λ b. In x (cond b (y ∷ filter p ys) (filter p ys))) [ true ↦ inr (in_filter p ys x i h) | false ↦ in_filter p ys x i h ]

kept_in : {A : Type 0} (p : A → Bool) (y : A) (ys zs : List A) (x : A) (b : Bool) → p y ≡ b → (In x zs → In x ys × (p x ≡ true)) → In x (cond b (y ∷ zs) zs) → In x (y ∷ ys) × (p x ≡ true)
kept_in p y ys zs x true e rest (inl j) = (inl j, ap p j ∙ e)
kept_in p y ys zs x true e rest (inr j) = let found = rest j in (inr found.0, found.1)
kept_in p y ys zs x false e rest j = let found = rest j in (inr found.0, found.1)

pub filter_in : {A : Type 0} (p : A → Bool) (xs : List A) (x : A) → In x (filter p xs) → In x xs × (p x ≡ true)
filter_in p [] x i = absurd i
filter_in p (y ∷ ys) x i = kept_in p y ys (filter p ys) x (p y) refl (filter_in p ys x) i
