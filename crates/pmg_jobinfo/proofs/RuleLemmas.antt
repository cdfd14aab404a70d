-- Whom an expansion has.
use Rattle.std.proofs.Common.{◌≡◌, ℕ, ◌<◌, List, [], ◌∷◌, Bool, true, false, not, ◌||◌, inl, inr, map, refl, sym, ap, subst, ◌∙◌, arith}
use Rattle.std.specs.Prelude.{◌&&◌, if◌then◌else◌}
use Rattle.std.specs.Cmp.{Equal-is}
use Rattle.std.specs.List.{list_any, flat_map}
use Rattle.std.specs.Ordering.{eq_by_cmp, is_eq}
use Rattle.std.specs.FinSet as set
use Rattle.std.proofs.lemmas.Bool.{false≢true, ltb-true, lt-ltb}
use Rattle.std.proofs.lemmas.Cmp.{tied_itself}
use Rattle.pmg_value.specs.declared.process.Proc.{Proc}
use Rattle.pmg_value.specs.declared.refusal.Refusal.TheVariants as refusals
use Rattle.pmg_value.specs.Lists.{In, SameItems}
use Rattle.pmg_value.specs.Process.{proc_cmp}
use Rattle.pmg_value.proofs.ListLemmas.{in_from_list_any, list_any_in, not_in_list_any, in_map, in_map_from}
use Rattle.pmg_value.proofs.MadeLists.{in_range, range_in}
use Rattle.pmg_value.proofs.ProcessOrder.{procs_total, exact_procs}
use Rattle.pmg_value.proofs.SetLemmas.{same_bool}
use Rattle.pmg_jobinfo.specs.Expansion.{ranks, is_all, is_undefined, members, meant, expansion}
use Rattle.pmg_jobinfo.specs.Jobs.{Jobs, is_member, is_registered, size_of}
use Rattle.pmg_jobinfo.specs.Refusing.{is_bad}
use Rattle.pmg_jobinfo.specs.Rules.{StandsFor, EachIsMeant, OrderIsFree, EachIsMember}
use Rattle.pmg_jobinfo.proofs.MemberLemmas.{any_flat}

-- ---- membership

abbrev pub is_same : Proc → Proc → Bool
is_same q p = eq_by_cmp proc_cmp q p

pub same_itself : (q : Proc) → is_same q q ≡ true
same_itself q = ap is_eq (tied_itself procs_total q)

pub same_is : (q p : Proc) → is_same q p ≡ true → q ≡ p
same_is q p h = exact_procs q p ((Equal-is _).0 h)

pub has : (jobs : Jobs) (list : List Proc) (q : Proc) → set.contains (expansion jobs list) q ≡ list_any (λ p. list_any (is_same q) (meant jobs p)) list
unfolding expansion
has jobs list q = set.contains-from_list procs_total (flat_map (meant jobs) list) q ∙ any_flat (is_same q) (meant jobs) list

member_in : (name : List ℕ) (count : ℕ) (q : Proc) → In q (members name count) → (q.nspace ≡ name) × (q.rank < count)
unfolding members
member_in name count q i =
    let found = in_map_from (λ rank. record { nspace = name; rank = rank }) (ranks count) q i in
    let below = in_range 0 count found.0 found.1 in
    (ap (λ (p : Proc). p.nspace) found.2, subst (λ (k : ℕ). k < count) (sym (ap (λ (p : Proc). p.rank) found.2)) (omega (arith, below.1)))

in_members : (name : List ℕ) (count : ℕ) (q : Proc) → q.nspace ≡ name → q.rank < count → In q (members name count)
unfolding members
in_members name count q same less =
    subst (λ (n : List ℕ). In q (map (λ rank. record { nspace = n; rank = rank }) (ranks count))) same
    (in_map (λ rank. record { nspace = q.nspace; rank = rank }) (ranks count) q.rank (range_in 0 count q.rank (omega arith) (omega (arith, less))))

abbrev chosen : Jobs → Proc → Bool → List Proc
chosen jobs p b = if b then members p.nspace (size_of jobs p.nspace) else p ∷ []

pub meant_stands : (jobs : Jobs) (p q : Proc) → In q (meant jobs p) → StandsFor jobs p q
meant_stands jobs p q i =
    elim (is_all p) as (λ b. is_all p ≡ b → In q (chosen jobs p b) → StandsFor jobs p q) [
      | true ↦ λ t j.
          let one = member_in p.nspace (size_of jobs p.nspace) q j in
          inl (t, one.0, lt-ltb q.rank (size_of jobs q.nspace) (subst (λ (n : List ℕ). q.rank < size_of jobs n) (sym one.0) one.1))
      | false ↦ λ t j. elim j [ inl e ↦ inr (t, e) | inr none ↦ absurd none ]
    ] refl i

pub stands_meant : (jobs : Jobs) (p q : Proc) → StandsFor jobs p q → In q (meant jobs p)
stands_meant jobs p q (inl s) =
    let less = ltb-true q.rank (size_of jobs q.nspace) s.2 in
    subst (λ (b : Bool). In q (chosen jobs p b)) (sym s.0) (in_members p.nspace (size_of jobs p.nspace) q s.1 (subst (λ (n : List ℕ). q.rank < size_of jobs n) s.1 less))
stands_meant jobs p q (inr s) = subst (λ (b : Bool). In q (chosen jobs p b)) (sym s.0) (inl s.1)

meant_by : (jobs : Jobs) (list : List Proc) (q : Proc) → set.contains (expansion jobs list) q ≡ true → (p : Proc) × In p list × StandsFor jobs p q
meant_by jobs list q h =
    let one = in_from_list_any (λ p. list_any (is_same q) (meant jobs p)) list (sym (has jobs list q) ∙ h) in
    let found = in_from_list_any (is_same q) (meant jobs one.0) one.2 in
    (one.0, one.1, meant_stands jobs one.0 q (subst (λ r. In r (meant jobs one.0)) (sym (same_is q found.0 found.2)) found.1))

pub each_is_meant : EachIsMeant
each_is_meant jobs list q = (
  meant_by jobs list q,
  λ one. has jobs list q ∙ list_any_in (λ p. list_any (is_same q) (meant jobs p)) list one.0 one.1 (list_any_in (is_same q) (meant jobs one.0) q (stands_meant jobs one.0 q one.2) (same_itself q)),
)

moved : (jobs : Jobs) (xs ys : List Proc) → SameItems xs ys → (q : Proc) → set.contains (expansion jobs xs) q ≡ true → set.contains (expansion jobs ys) q ≡ true
moved jobs xs ys same q h = let one = meant_by jobs xs q h in (each_is_meant jobs ys q).1 (one.0, (same one.0).0 one.1, one.2)

pub order_is_free : OrderIsFree
order_is_free jobs xs ys same =
    set.same_set procs_total exact_procs _ _ (λ q. same_bool _ _ (moved jobs xs ys same q) (moved jobs ys xs (λ p. ((same p).1, (same p).0)) q))

-- one in a list that gives no cause to be refused, which does not stand for all, is registered
named_is_member : (undefined registered all member : Bool) → (undefined || (registered && (not all && not member))) ≡ false → not registered ≡ false → all ≡ false → member ≡ true
named_is_member undefined registered all true bad unknown one = refl
named_is_member true registered all false bad unknown one = absurd (false≢true (sym bad))
named_is_member false true true false bad unknown one = absurd (false≢true (sym one))
named_is_member false true false false bad unknown one = absurd (false≢true (sym bad))
named_is_member false false all false bad unknown one = absurd (false≢true (sym unknown))

pub each_is_member : EachIsMember
each_is_member jobs list causes q h =
    let one = meant_by jobs list q h in
    elim one.2 [
      | inl s ↦ s.2
      | inr s ↦
          let bad = not_in_list_any (is_bad jobs) list (causes refusals.BadParam) one.0 one.1 in
          let unknown = not_in_list_any (λ p. not (is_registered jobs p.nspace)) list (causes refusals.UnknownNamespace) one.0 one.1 in
          ap (is_member jobs) s.1 ∙ named_is_member (is_undefined one.0) (is_registered jobs one.0.nspace) (is_all one.0) (is_member jobs one.0) bad unknown s.0
    ]
