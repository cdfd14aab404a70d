-- For whom a list stands, process by process.
use Rattle.std.proofs.Common.{◌≡◌, ℕ, zero, suc, ◌+◌, ◌*◌, Bool, true, false, cond, not, ◌||◌, nat_lt, List, [], ◌∷◌, ◌++◌, inl, inr, map, length, refl, sym, ap, subst, ◌∙◌, arith}
use Rattle.std.specs.Prelude.{if◌then◌else◌}
use Rattle.std.specs.FinSet as set
use Rattle.std.specs.List.{list_any, flat_map, count_by, sum_by, range_with_len}
use Rattle.std.specs.Ordering.{eq_by_cmp}
use Rattle.std.proofs.lemmas.Bool.{false≢true, false_from_ne_true}
use Rattle.std.proofs.lemmas.List.Sums.{sum_by-cons}
use Rattle.pmg_value.specs.Lists.{In, Each}
use Rattle.pmg_value.specs.declared.process.Proc.{Proc}
use Rattle.pmg_value.specs.InOrder.{in_order}
use Rattle.pmg_value.specs.Process.{proc_cmp}
use Rattle.pmg_value.proofs.ListLemmas.{in_from_list_any, list_any_in, list_any_none, in_map_from}
use Rattle.pmg_value.proofs.MadeLists.{in_range}
use Rattle.pmg_value.proofs.ProcessOrder.{procs_total, exact_procs}
use Rattle.pmg_value.proofs.SetLemmas.{same_bool}
use Rattle.pmg_jobinfo.specs.Expansion.{ranks, is_all, members, meant, expansion, expansion_size}
use Rattle.pmg_jobinfo.specs.Jobs.{Jobs, size_of}
use Rattle.pmg_jobinfo.specs.Rules.{StandsFor}
use Rattle.pmg_jobinfo.proofs.HomeLemmas.{count_more}
use Rattle.pmg_jobinfo.proofs.MemberLemmas.{any_append}
use Rattle.pmg_jobinfo.proofs.RuleLemmas.{is_same, same_itself, same_is, meant_stands, stands_meant}
use Rattle.pmg_jobinfo.proofs.SetSums.{sum-insert, sum-empty}

-- p in a list stands for q
abbrev pub means : Jobs → Proc → Proc → Bool
means jobs p q = list_any (eq_by_cmp proc_cmp q) (meant jobs p)

means_stands : (jobs : Jobs) (p q : Proc) → means jobs p q ≡ true → StandsFor jobs p q
means_stands jobs p q h =
    let found = in_from_list_any (is_same q) (meant jobs p) h in
    meant_stands jobs p q (subst (λ r. In r (meant jobs p)) (sym (same_is q found.0 found.2)) found.1)

stands_means : (jobs : Jobs) (p q : Proc) → StandsFor jobs p q → means jobs p q ≡ true
stands_means jobs p q h = list_any_in (is_same q) (meant jobs p) q (stands_meant jobs p q h) (same_itself q)

-- nobody stands for one of another namespace
pub other_name : (jobs : Jobs) (p q : Proc) → (p.nspace ≡ q.nspace → ⊥) → false ≡ means jobs p q
other_name jobs p q differ =
    sym (false_from_ne_true _ (λ h. elim (means_stands jobs p q h) [ inl s ↦ differ (sym s.1) | inr s ↦ differ (ap (λ (r : Proc). r.nspace) (sym s.1)) ]))

-- all of a namespace are meant, or one
pub all_stand : (jobs : Jobs) (p q : Proc) → is_all p ≡ true → p.nspace ≡ q.nspace → nat_lt q.rank (size_of jobs q.nspace) ≡ means jobs p q
all_stand jobs p q all same =
    same_bool _ _ (λ h. stands_means jobs p q (inl (all, sym same, h)))
    (λ h. elim (means_stands jobs p q h) [ inl s ↦ s.2 | inr s ↦ absurd (false≢true (sym s.0 ∙ all)) ])

pub one_stands : (jobs : Jobs) (p q : Proc) → is_all p ≡ false → p.nspace ≡ q.nspace → (b : Bool) → (b ≡ true → p.rank ≡ q.rank) → (p.rank ≡ q.rank → b ≡ true) → b ≡ means jobs p q
one_stands jobs p q one same b there back =
    same_bool _ _ (λ h. stands_means jobs p q (inr (one, λ i. record { nspace = sym same i; rank = sym (there h) i })))
    (λ h. elim (means_stands jobs p q h) [ inl s ↦ absurd (false≢true (sym one ∙ s.0)) | inr s ↦ back (ap (λ (r : Proc). r.rank) (sym s.1)) ])

-- ---- how many more a process stands for

abbrev process : List ℕ → ℕ → Proc
process name rank = record { nspace = name; rank = rank }

-- no two are one
abbrev pub AreApart : List Proc → Type 0
AreApart [] = Unit {0}
AreApart (p ∷ ps) = (list_any (eq_by_cmp proc_cmp p) ps ≡ false) × AreApart ps

abbrev pub AreNamed : List ℕ → List Proc → Type 0
AreNamed name ps = Each (λ (p : Proc). p.nspace ≡ name) ps

rank_apart : (name : List ℕ) (a n : ℕ) (q : Proc) → In q (map (process name) (range_with_len (a + 1) n)) → is_same (process name a) q ≡ false
rank_apart name a n q i =
    let found = in_map_from (process name) (range_with_len (a + 1) n) q i in
    let above = (in_range (a + 1) n found.0 found.1).0 in
    false_from_ne_true _ (λ h. let same : a ≡ found.0 = ap (λ (p : Proc). p.rank) (same_is (process name a) q h ∙ found.2) in absurd (omega (arith, same, above)))

range_apart : (name : List ℕ) (a n : ℕ) → AreApart (map (process name) (range_with_len a n))
range_apart name a zero = tt
range_apart name a (suc n) = (list_any_none (is_same (process name a)) (map (process name) (range_with_len (a + 1) n)) (rank_apart name a n), range_apart name (a + 1) n)

range_named : (name : List ℕ) (ranks : List ℕ) → AreNamed name (map (process name) ranks)
range_named name [] = tt
range_named name (k ∷ ks) = (refl, range_named name ks)

abbrev chosen : Jobs → Proc → Bool → List Proc
chosen jobs p b = if b then members p.nspace (size_of jobs p.nspace) else p ∷ []

meant_apart : (jobs : Jobs) (p : Proc) → AreApart (meant jobs p)
unfolding members
meant_apart jobs p = elim (is_all p) as (λ b. AreApart (chosen jobs p b)) [ true ↦ range_apart p.nspace 0 (size_of jobs p.nspace) | false ↦ (refl, tt) ]

meant_named : (jobs : Jobs) (p : Proc) → AreNamed p.nspace (meant jobs p)
unfolding members
meant_named jobs p = elim (is_all p) as (λ b. AreNamed p.nspace (chosen jobs p b)) [ true ↦ range_named p.nspace (ranks (size_of jobs p.nspace)) | false ↦ (refl, tt) ]

or_none : (a b : Bool) → a ≡ false → (a || b) ≡ b
or_none true b h = absurd (false≢true (sym h))
or_none false b h = refl

-- the processes of the list that are not among the others
abbrev pub fresh : List Proc → List Proc → ℕ
fresh xs ys = count_by (λ q. not (set.contains (set.from_list {R = proc_cmp} ys) q)) xs

one_more : (b : Bool) (n c new so_far rest : ℕ) → so_far ≡ n * c + rest → new ≡ cond b so_far (so_far + c) → new ≡ (cond (not b) 1 0 + n) * c + rest
one_more true n c new so_far rest is put = omega (arith, is, put)
one_more false n c new so_far rest is put = omega (arith, is, put)

-- a number of a set, to which each process of a namespace that is put to the set adds as many
module _ (m : set.FinSet proc_cmp → ℕ) (g : List ℕ → ℕ)
    (law : (s : set.FinSet proc_cmp) (p : Proc) → m (set.insert s p) ≡ cond (set.contains s p) (m s) (m s + g p.nspace)) where
  put_before : (name : List ℕ) (xs ys : List Proc) → AreApart xs → AreNamed name xs
      → m (set.from_list (xs ++ ys)) ≡ fresh xs ys * g name + m (set.from_list ys)
  put_before name [] ys apart named = omega arith
  put_before name (x ∷ xs) ys apart named =
      let there : set.contains (set.from_list {R = proc_cmp} (xs ++ ys)) x ≡ set.contains (set.from_list {R = proc_cmp} ys) x =
      set.contains-from_list procs_total (xs ++ ys) x ∙ any_append (is_same x) xs ys ∙ or_none _ _ apart.0 ∙ sym (set.contains-from_list procs_total ys x) in
      one_more (set.contains (set.from_list {R = proc_cmp} ys) x) (fresh xs ys) (g name) _ _ _ (put_before name xs ys apart.1 named.1)
      (law (set.from_list (xs ++ ys)) x ∙ (λ i. cond (there i) (m (set.from_list (xs ++ ys))) (m (set.from_list (xs ++ ys)) + g (named.0 i))))
      ∙ ap (λ (n : ℕ). n * g name + m (set.from_list ys)) (sym (sum_by-cons (λ q. cond (not (set.contains (set.from_list {R = proc_cmp} ys) q)) 1 0) x xs))

  -- what one more process in a list adds
  pub more_meant : (jobs : Jobs) (p : Proc) (ps : List Proc)
      → m (expansion jobs (p ∷ ps)) ≡ count_by (λ q. not (set.contains (expansion jobs ps) q)) (meant jobs p) * g p.nspace + m (expansion jobs ps)
  unfolding expansion
  more_meant jobs p ps = put_before p.nspace (meant jobs p) (flat_map (meant jobs) ps) (meant_apart jobs p) (meant_named jobs p)

-- ---- counts

-- one rank more of a namespace
abbrev pub new_ranks : Jobs → List ℕ → List Proc → ℕ → ℕ
new_ranks jobs name list n = count_by (λ rank. not (set.contains (expansion jobs list) (record { nspace = name; rank = rank }))) (ranks n)

pub rank_counted : (jobs : Jobs) (name : List ℕ) (list : List Proc) (n : ℕ) → set.contains (expansion jobs list) (record { nspace = name; rank = n }) ≡ false
    → new_ranks jobs name list (n + 1) ≡ new_ranks jobs name list n + 1
rank_counted jobs name list n new =
    count_more (λ rank. not (set.contains (expansion jobs list) (record { nspace = name; rank = rank }))) n
    ∙ ap (λ b. new_ranks jobs name list n + cond (not b) 1 0) new

pub rank_passed : (jobs : Jobs) (name : List ℕ) (list : List Proc) (n : ℕ) → set.contains (expansion jobs list) (record { nspace = name; rank = n }) ≡ true
    → new_ranks jobs name list (n + 1) ≡ new_ranks jobs name list n
rank_passed jobs name list n old =
    count_more (λ rank. not (set.contains (expansion jobs list) (record { nspace = name; rank = rank }))) n
    ∙ ap (λ b. new_ranks jobs name list n + cond (not b) 1 0) old ∙ (let e : new_ranks jobs name list n + 0 ≡ new_ranks jobs name list n = omega arith in e)

count_of_map : (t : Proc → Bool) (f : ℕ → Proc) (ks : List ℕ) → count_by t (map f ks) ≡ count_by (λ k. t (f k)) ks
count_of_map t f [] = refl
count_of_map t f (k ∷ ks) =
    sum_by-cons (λ q. cond (t q) 1 0) (f k) (map f ks) ∙ ap (λ (n : ℕ). cond (t (f k)) 1 0 + n) (count_of_map t f ks) ∙ sym (sum_by-cons (λ j. cond (t (f j)) 1 0) k ks)

-- the processes that one in a list stands for, by its rank
abbrev pub new_meant : Jobs → Proc → List Proc → ℕ
new_meant jobs p list = count_by (λ q. not (set.contains (expansion jobs list) q)) (meant jobs p)

abbrev new_of : Jobs → Proc → List Proc → Bool → ℕ
new_of jobs p list b = count_by (λ q. not (set.contains (expansion jobs list) q)) (chosen jobs p b)

pub all_counted : (jobs : Jobs) (p : Proc) (list : List Proc) → is_all p ≡ true → new_ranks jobs p.nspace list (size_of jobs p.nspace) ≡ new_meant jobs p list
unfolding members
all_counted jobs p list all =
    sym (ap (new_of jobs p list) all ∙ count_of_map (λ q. not (set.contains (expansion jobs list) q)) (process p.nspace) (ranks (size_of jobs p.nspace)))

-- ---- the numbers of a list

-- as many as the set has
pub more_counted : (jobs : Jobs) (p : Proc) (ps : List Proc) → set.len (expansion jobs (p ∷ ps)) ≡ new_meant jobs p ps + set.len (expansion jobs ps)
more_counted jobs p ps =
    more_meant set.len (λ _. 1) (set.len-insert procs_total) jobs p ps ∙ (let e : new_meant jobs p ps * 1 + set.len (expansion jobs ps) ≡ new_meant jobs p ps + set.len (expansion jobs ps) = omega arith in e)

pub none_counted : (jobs : Jobs) → set.len (expansion jobs []) ≡ 0
unfolding expansion
none_counted jobs = set.len-empty proc_cmp

-- and as many bytes as its processes have
pub more_sized : (jobs : Jobs) (p : Proc) (ps : List Proc) → expansion_size jobs (p ∷ ps) ≡ new_meant jobs p ps * (length p.nspace + 5) + expansion_size jobs ps
more_sized jobs p ps = more_meant (λ s. sum_by (λ q. length q.nspace + 5) (in_order s)) (λ name. length name + 5) (sum-insert procs_total exact_procs (λ q. length q.nspace + 5)) jobs p ps

pub none_sized : (jobs : Jobs) → expansion_size jobs [] ≡ 0
unfolding expansion
none_sized jobs = sum-empty procs_total exact_procs (λ q. length q.nspace + 5)
