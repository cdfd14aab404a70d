-- What a table that fits the scripts says, and how it goes on.
use Rattle.std.proofs.Common.{◌≡◌, ◌≤◌, ℕ, Bool, true, false, ◌==◌, ◌&&◌, ◌||◌, not, nat_le, cond, List, [], ◌∷◌, Option, Some, None, inl, inr, refl, sym, ap, ◌∙◌, arith}
use Rattle.std.specs.FinMap as finite
use Rattle.std.specs.List.{list_all}
use Rattle.std.proofs.lemmas.Bool.{and_parts}
use Rattle.std.proofs.lemmas.Bool.Decides.{nat_tests}
use Rattle.pmg_value.specs.Lists.{In}
use Rattle.pmg_value.specs.Signatures.{FenceName}
use Rattle.pmg_value.specs.declared.process.Proc.{Proc}
use Rattle.pmg_scope.specs.Scripts.{Script}
use Rattle.pmg_frame.specs.Fences.{participants_of}
use Rattle.pmg_frame.specs.declared.local.Local.{Local}
use Rattle.pmg_jobinfo.specs.Jobs.{Jobs, home_of}
use Rattle.pmg_fence.specs.declared.entry.Entry.{Entry}
use Rattle.pmg_fence.specs.Entering.{entry, entry_by, locals_of, header_of}
use Rattle.pmg_fence.specs.Tables.{Fences, is_old, fence_at, entry_at, entry_in, own_header, header_at, told_of, is_covered, is_ready, says_gone, gone_by}
use Rattle.pmg_fence.specs.Rules.{FitsFences, Scripts, Keeps, HeaderStays, OwnHeaderIsTrue, HeadersAreTrue, ToldIsTrue, ReadyIsWhole, GoneAreTrue}
use Rattle.pmg_fence.proofs.EntryLemmas.{entry_stays}
use Rattle.pmg_fence.proofs.HeaderLemmas.{told_alike, told_stays, told_says, in_filter, filter_in}
use Rattle.pmg_fence.proofs.OldLemmas.{ready_young}
use Rattle.pmg_fence.proofs.ReadLemmas.{filter_alike}

pub header_stays : HeaderStays
unfolding header_of
header_stays jobs scripts grown f node ls grows h =
    told_stays (λ p. entry (scripts p) f) (λ p. entry (grown p) f) (locals_of jobs f node)
    (λ q e is. ap (λ s. entry s f) (grows q).1 ∙ entry_stays (scripts q) (grows q).0 f e is) ls h

-- how an own process stands is what its script says
pub entry_fits : (s : Script) (t : Fences) (p : Proc) (f : FenceName) → FitsFences s t p → is_old t f ≡ false → entry_at t f p ≡ entry s f
unfolding entry_at entry
entry_fits s t p f fits young = (λ i. entry_by (fits.levels f young i) (fits.ends i))

nothing_is : (e : Entry) → None ≡ Some e → ⊥
nothing_is e z = cc

same_number : (m n : ℕ) → (m == n) ≡ true → m ≡ n
same_number m n e = grind (arith, nat_tests)

number_itself : (n : ℕ) → (n == n) ≡ true
number_itself n = grind (arith, nat_tests)

pub own_header_is_true : OwnHeaderIsTrue
unfolding own_header header_of locals_of
own_header_is_true jobs node scripts t f fits young =
    told_alike (entry_at t f) (λ p. entry (scripts p) f) (locals_of jobs f node)
    (λ q i. entry_fits (scripts q) t q f (fits.own q (same_number (home_of jobs q) node (filter_in (λ p. home_of jobs p == node) (participants_of f) q i).1)) young)

pub headers_are_true : HeadersAreTrue
unfolding header_at
headers_are_true jobs node scripts t f other ls fits young h = by_node (other == node) refl h
  where
    by_node : (b : Bool) → (other == node) ≡ b → cond b (own_header jobs node t f) (finite.get (fence_at t f).headers other) ≡ Some ls → header_of jobs scripts f other ≡ Some ls
    by_node true e is = ap (header_of jobs scripts f) (same_number other node e) ∙ sym (own_header_is_true jobs node scripts t f fits young) ∙ is
    by_node false e is = fits.headers f other ls is

said_by : (jobs : Jobs) (scripts : Scripts) (f : FenceName) (q : Proc) → In q (participants_of f) → (ls : List Local) → header_of jobs scripts f (home_of jobs q) ≡ Some ls → entry_in q (Some ls) ≡ entry (scripts q) f
unfolding header_of locals_of
said_by jobs scripts f q i ls is =
    told_says (λ p. entry (scripts p) f) (locals_of jobs f (home_of jobs q)) q (in_filter (λ p. home_of jobs p == home_of jobs q) (participants_of f) q i (number_itself (home_of jobs q))) ls is

pub told_is_true : ToldIsTrue
unfolding told_of
told_is_true jobs node scripts t f q e fits young i h = by_header (header_at jobs node t f (home_of jobs q)) refl h
  where
    by_header : (o : Option (List Local)) → header_at jobs node t f (home_of jobs q) ≡ o → entry_in q o ≡ Some e → entry (scripts q) f ≡ Some e
    by_header None is said = absurd (nothing_is e said)
    by_header (Some ls) is said = sym (said_by jobs scripts f q i ls (headers_are_true jobs node scripts t f (home_of jobs q) ls fits young is)) ∙ said

-- ---- ready

all_in : {A : Type 0} (p : A → Bool) (xs : List A) → list_all p xs ≡ true → (x : A) → In x xs → p x ≡ true
all_in p [] h x i = absurd i
all_in p (y ∷ ys) h x (inl e) = ap p e ∙ (and_parts (p y) (list_all p ys) h).0
all_in p (y ∷ ys) h x (inr i) = all_in p ys (and_parts (p y) (list_all p ys) h).1 x i

in_all : {A : Type 0} (p : A → Bool) (xs : List A) → ((x : A) → In x xs → p x ≡ true) → list_all p xs ≡ true
in_all p [] each = refl
in_all p (y ∷ ys) each = (λ i. each y (inl refl) i && in_all p ys (λ x j. each x (inr j)) i)

covered_is : (collect : Bool) (level : ℕ) (o : Option Entry) → is_covered collect level o ≡ true → (e : Entry) × (o ≡ Some e) × (collect ≡ true → e.level ≤ level)
covered_is collect level None h = absurd cc
covered_is collect level (Some e) h = (e, refl, within collect h)
  where
    within : (c : Bool) → (not c || nat_le e.level level) ≡ true → c ≡ true → e.level ≤ level
    within true z y = grind (arith, nat_tests)
    within false z y = absurd cc

covered_still : (collect : Bool) (level later : ℕ) (e : Entry) → level ≤ later → is_covered collect level (Some e) ≡ true → is_covered collect later (Some e) ≡ true
covered_still false level later e more h = refl
covered_still true level later e more h = grind (arith, nat_tests)

-- of each participant of a fence that is ready it is told how it stands
covered_at : (jobs : Jobs) (node : ℕ) (t : Fences) (f : FenceName) (level : Proc → ℕ) → is_ready jobs node t f level ≡ true → (q : Proc) → In q (participants_of f)
    → is_covered f.signature.collect (level q) (told_of jobs node t f q) ≡ true
unfolding is_ready
covered_at jobs node t f level ready q i =
    all_in (λ p. is_covered f.signature.collect (level p) (told_of jobs node t f p)) (participants_of f)
    (and_parts (not (is_old t f)) (list_all (λ p. is_covered f.signature.collect (level p) (told_of jobs node t f p)) (participants_of f)) ready).1 q i

pub ready_is_whole : ReadyIsWhole
ready_is_whole jobs node scripts t f level fits ready q i =
    let is = covered_is f.signature.collect (level q) (told_of jobs node t f q) (covered_at jobs node t f level ready q i) in
    (is.0, told_is_true jobs node scripts t f q is.0 fits (ready_young jobs node t f level ready) i is.1, is.2)

told_kept : (jobs : Jobs) (node : ℕ) (old new : Fences) (f : FenceName) → Keeps jobs node old new f → is_old new f ≡ false → (q : Proc) (e : Entry) → told_of jobs node old f q ≡ Some e → told_of jobs node new f q ≡ Some e
unfolding told_of
told_kept jobs node old new f keeps young q e h = by_header (header_at jobs node old f (home_of jobs q)) refl h
  where
    by_header : (o : Option (List Local)) → header_at jobs node old f (home_of jobs q) ≡ o → entry_in q o ≡ Some e → entry_in q (header_at jobs node new f (home_of jobs q)) ≡ Some e
    by_header None is said = absurd (nothing_is e said)
    by_header (Some ls) is said = ap (entry_in q) (keeps young (home_of jobs q) ls is) ∙ said

-- a fence that is ready stays ready while it is not old, whatever comes to be known
pub ready_stays : (jobs : Jobs) (node : ℕ) (old new : Fences) (f : FenceName) (level later : Proc → ℕ) → Keeps jobs node old new f → is_old new f ≡ false
    → ((q : Proc) → level q ≤ later q) → is_ready jobs node old f level ≡ true → is_ready jobs node new f later ≡ true
unfolding is_ready
ready_stays jobs node old new f level later keeps young more ready =
    ap (λ b. not b && list_all (λ q. is_covered f.signature.collect (later q) (told_of jobs node new f q)) (participants_of f)) young
    ∙ in_all (λ q. is_covered f.signature.collect (later q) (told_of jobs node new f q)) (participants_of f) (λ q i.
    let was = covered_at jobs node old f level ready q i in
    let is = covered_is f.signature.collect (level q) (told_of jobs node old f q) was in
    ap (is_covered f.signature.collect (later q)) (told_kept jobs node old new f keeps young q is.0 is.1)
    ∙ covered_still f.signature.collect (level q) (later q) is.0 (more q) (sym (ap (is_covered f.signature.collect (level q)) is.1) ∙ was))

covered_told : (jobs : Jobs) (node : ℕ) (t : Fences) (f : FenceName) (level : Proc → ℕ) → is_ready jobs node t f level ≡ true → (q : Proc) → In q (participants_of f)
    → (e : Entry) × (told_of jobs node t f q ≡ Some e)
covered_told jobs node t f level ready q i =
    let is = covered_is f.signature.collect (level q) (told_of jobs node t f q) (covered_at jobs node t f level ready q i) in
    (is.0, is.1)

pub gone_are_true : GoneAreTrue
unfolding gone_by
gone_are_true jobs node scripts t f level fits ready =
    filter_alike (λ q. says_gone (told_of jobs node t f q)) (λ q. says_gone (entry (scripts q) f)) (participants_of f) (λ q i.
    let is = covered_told jobs node t f level ready q i in
    ap says_gone (is.1 ∙ sym (told_is_true jobs node scripts t f q is.0 fits (ready_young jobs node t f level ready) i is.1)))

-- the gone of a fence that is ready stay the same while it is not old, whatever comes to be known
pub gone_stay : (jobs : Jobs) (node : ℕ) (old new : Fences) (f : FenceName) (level : Proc → ℕ) → Keeps jobs node old new f → is_old new f ≡ false → is_ready jobs node old f level ≡ true
    → gone_by jobs node old f ≡ gone_by jobs node new f
unfolding gone_by
gone_stay jobs node old new f level keeps young ready =
    filter_alike (λ q. says_gone (told_of jobs node old f q)) (λ q. says_gone (told_of jobs node new f q)) (participants_of f) (λ q i.
    let is = covered_told jobs node old f level ready q i in
    ap says_gone (is.1 ∙ sym (told_kept jobs node old new f keeps young q is.0 is.1)))
