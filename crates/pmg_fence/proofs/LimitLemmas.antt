-- A header that a table makes is one that a frame can hold.
use Rattle.std.proofs.Common.{◌≡◌, ◌≤◌, ◌<◌, ℕ, Bool, true, false, ◌==◌, cond, List, [], ◌∷◌, length, map, Option, Some, None, inl, inr, refl, sym, ap, ◌∙◌, subst, arith, IsTrue}
use Rattle.std.specs.FinMap as finite
use Rattle.std.specs.FinSet as set
use Rattle.std.specs.List.{list_all, AllByRecursion}
use Rattle.std.specs.List.Sorted.{IsStrictlySortedBy}
use Rattle.std.specs.Ordering.{is_lt}
use Rattle.std.specs.declared.cmp.Ordering.TheVariants.{Less}
use Rattle.std.proofs.lemmas.Bool.{and_from, lt-ltb, le-leb}
use Rattle.std.proofs.lemmas.List.{length-map}
use Rattle.std.proofs.lemmas.List.Sums.{length-filter, count_by-le-length}
use Rattle.pmg_value.specs.Lists.{In, leads, is_chain}
use Rattle.pmg_value.specs.Process.{proc_cmp}
use Rattle.pmg_value.specs.Signatures.{FenceName}
use Rattle.pmg_value.specs.declared.process.Proc.{Proc}
use Rattle.pmg_value.proofs.ChainLemmas.{is_chain-map}
use Rattle.pmg_value.proofs.ListLemmas.{list_any_in}
use Rattle.pmg_value.proofs.ProcessOrder.{procs_total}
use Rattle.pmg_value.specs.InOrder.{in_order}
use Rattle.pmg_frame.specs.Fences.{participants_of, is_level, is_local_rising, is_listed, is_header, header}
use Rattle.pmg_value.proofs.SetOrder.{any_in_order}
use Rattle.pmg_frame.specs.declared.local.Local.{Local}
use Rattle.pmg_jobinfo.specs.Jobs.{home_of}
use Rattle.pmg_fence.specs.declared.entry.Entry.{Entry}
use Rattle.pmg_fence.specs.Entering.{same_proc, entry_by, local_of, with_line, collected_locals, told_locals}
use Rattle.pmg_fence.specs.Tables.{fence_at, entry_at}
use Rattle.pmg_fence.specs.Codes.{Known, Owns}
use Rattle.pmg_fence.specs.Kept.{instead, own_of, IsKept, IsLine}
use Rattle.pmg_fence.proofs.EntryLemmas.{proc_itself}
use Rattle.pmg_fence.proofs.HeaderLemmas.{filter_in}
use Rattle.pmg_fence.proofs.CountLemmas.{own_rises}

-- ---- lines tell of the processes, one after another

procs_by : (s : Proc → Option Entry) (p : Proc) (ps : List Proc) (o : Option Entry) (x : Option (List Local)) → ((xs : List Local) → x ≡ Some xs → map (λ (l : Local). l.proc) xs ≡ ps)
    → (ls : List Local) → with_line p o x ≡ Some ls → map (λ (l : Local). l.proc) ls ≡ p ∷ ps
procs_by s p ps None x rest ls h = absurd cc
procs_by s p ps (Some e) None rest ls h = absurd cc
procs_by s p ps (Some e) (Some xs) rest [] h = absurd cc
procs_by s p ps (Some e) (Some xs) rest (l ∷ ls) h =
    let head : local_of p e ≡ l = cc in
    let tail : xs ≡ ls = cc in
    (λ i. (sym head i).proc ∷ map (λ (m : Local). m.proc) (sym tail i)) ∙ ap (λ qs. p ∷ qs) (rest xs refl)

pub lines_procs : (s : Proc → Option Entry) (ps : List Proc) (ls : List Local) → collected_locals s ps ≡ Some ls → map (λ (l : Local). l.proc) ls ≡ ps
lines_procs s [] [] h = refl
lines_procs s [] (l ∷ ls) h = absurd cc
lines_procs s (p ∷ ps) ls h = procs_by s p ps (s p) (collected_locals s ps) (lines_procs s ps) ls h

-- ---- each within the limits

listed_by : (f : FenceName) (s : Proc → Option Entry) (p : Proc) (o : Option Entry) (x : Option (List Local)) → s p ≡ o → set.contains f.signature.participants p ≡ true
    → ((q : Proc) (e : Entry) → s q ≡ Some e → is_level e.level ≡ true) → ((xs : List Local) → x ≡ Some xs → list_all (is_listed f) xs ≡ true)
    → (ls : List Local) → with_line p o x ≡ Some ls → list_all (is_listed f) ls ≡ true
listed_by f s p None x is inside small rest ls h = absurd cc
listed_by f s p (Some e) None is inside small rest ls h = absurd cc
listed_by f s p (Some e) (Some xs) is inside small rest ls h =
    let made : local_of p e ∷ xs ≡ ls = cc in
    ap (list_all (is_listed f)) (sym made) ∙ and_from _ _ (and_from _ _ inside (small p e is)) (rest xs refl)

lines_listed : (f : FenceName) (s : Proc → Option Entry) (ps : List Proc) → ((q : Proc) → In q ps → set.contains f.signature.participants q ≡ true)
    → ((q : Proc) (e : Entry) → s q ≡ Some e → is_level e.level ≡ true) → (ls : List Local) → collected_locals s ps ≡ Some ls → list_all (is_listed f) ls ≡ true
lines_listed f s [] inside small [] h = refl
lines_listed f s [] inside small (l ∷ ls) h = absurd cc
lines_listed f s (p ∷ ps) inside small ls h =
    listed_by f s p (s p) (collected_locals s ps) refl (inside p (inl refl)) small (lines_listed f s ps (λ q i. inside q (inr i)) small) ls h

pub own_inside : (k : Known) (f : FenceName) (q : Proc) → In q (own_of k f.signature) → set.contains f.signature.participants q ≡ true
own_inside k f q i =
    let listed = (filter_in (λ p. home_of k.jobs p == k.node) (in_order f.signature.participants) q i).0 in
    sym (any_in_order procs_total f.signature.participants q) ∙ list_any_in (same_proc q) (in_order f.signature.participants) q listed (proc_itself q)

-- ---- in their order

leads_by : (p : Proc) (ps : List Proc) → AllByRecursion (λ q. proc_cmp p q ≡ Less) ps → IsStrictlySortedBy proc_cmp ps → leads (λ a b. is_lt (proc_cmp a b)) p ps ≡ true
unfolding IsStrictlySortedBy
leads_by p [] all rises = refl
leads_by p (q ∷ qs) all rises = and_from _ _ (ap is_lt all.0) (leads_by q qs rises.0 rises.1)

chain_by : (ps : List Proc) → IsStrictlySortedBy proc_cmp ps → is_chain (λ a b. is_lt (proc_cmp a b)) ps ≡ true
unfolding IsStrictlySortedBy
chain_by [] rises = refl
chain_by (p ∷ ps) rises = leads_by p ps rises.0 rises.1

lines_rise : (s : Proc → Option Entry) (ps : List Proc) (ls : List Local) → IsStrictlySortedBy proc_cmp ps → collected_locals s ps ≡ Some ls → is_chain is_local_rising ls ≡ true
lines_rise s ps ls rises h =
    sym (is_chain-map (λ (a b : Proc). is_lt (proc_cmp a b)) (λ (l : Local). l.proc) ls) ∙ ap (is_chain (λ (a b : Proc). is_lt (proc_cmp a b))) (lines_procs s ps ls h) ∙ chain_by ps rises

-- ---- the header

fits_by : (k : Known) (f : FenceName) (s : Proc → Option Entry) (ps : List Proc) (ls : List Local) → ps ≡ own_of k f.signature → 0 < length ps → collected_locals s ps ≡ Some ls
    → ((q : Proc) (e : Entry) → s q ≡ Some e → is_level e.level ≡ true) → is_header (header k.node f ls) ≡ true
unfolding is_header
fits_by k f s ps ls own some h small =
    let as_many : length ls ≡ length ps = sym (length-map ls (λ (l : Local). l.proc)) ∙ ap length (lines_procs s ps ls h) in
    let few : length ps ≤ length (participants_of f) = rw own (omega (arith, length-filter (λ p. home_of k.jobs p == k.node) (participants_of f), count_by-le-length (λ p. home_of k.jobs p == k.node) (participants_of f))) in
    and_from _ _ (and_from _ _ (and_from _ _ (lt-ltb 0 (length ls) (omega (arith, as_many, some))) (le-leb (length ls) (length (participants_of f)) (omega (arith, as_many, few))))
    (lines_rise s ps ls (subst (IsStrictlySortedBy proc_cmp) (sym own) (own_rises k f.signature)) h))
    (lines_listed f s ps (λ q i. own_inside k f q (subst (In q) own i)) small ls h)

pub header_fits : (k : Known) (f : FenceName) (s : Proc → Option Entry) (ps : List Proc) (ls : List Local) → ps ≡ own_of k f.signature → told_locals s ps ≡ Some ls
    → ((q : Proc) (e : Entry) → s q ≡ Some e → is_level e.level ≡ true) → IsTrue (is_header (header k.node f ls))
header_fits k f s [] ls own h small = absurd cc
header_fits k f s (p ∷ ps) ls own h small = fits_by k f s (p ∷ ps) ls own (omega arith) h small

-- ---- levels

level_by : (o end : Option ℕ) (e : Entry) → ((n : ℕ) → o ≡ Some n → is_level n ≡ true) → ((n : ℕ) → end ≡ Some n → is_level n ≡ true) → entry_by o end ≡ Some e → is_level e.level ≡ true
level_by (Some n) end e one other h = let same : n ≡ e.level = ap level_of h in ap is_level (sym same) ∙ one n refl
  where
    level_of : Option Entry → ℕ
    level_of None = n
    level_of (Some x) = x.level
level_by None (Some n) e one other h = let same : n ≡ e.level = ap level_of h in ap is_level (sym same) ∙ other n refl
  where
    level_of : Option Entry → ℕ
    level_of None = n
    level_of (Some x) = x.level
level_by None None e one other h = absurd cc

pub entry_level : (k : Known) (owns : Owns) (f : FenceName) → IsKept k owns → (q : Proc) (e : Entry) → entry_at k.fences f q ≡ Some e → is_level e.level ≡ true
unfolding entry_at
entry_level k owns f kept q e h = level_by (finite.get (fence_at k.fences f).levels q) (finite.get k.fences.ends q) e (kept.levels f q) (kept.ends q) h

level_instead : (b : Bool) (x e : Entry) (o : Option Entry) → is_level x.level ≡ true → (o ≡ Some e → is_level e.level ≡ true) → cond b (Some x) o ≡ Some e → is_level e.level ≡ true
level_instead true x e o small other h = let same : x ≡ e = cc in ap (λ (y : Entry). is_level y.level) (sym same) ∙ small
level_instead false x e o small other h = other h

pub told_level : (k : Known) (owns : Owns) (f : FenceName) (l : Option Local) → IsKept k owns → IsLine l → (q : Proc) (e : Entry) → instead l (entry_at k.fences f) q ≡ Some e → is_level e.level ≡ true
told_level k owns f None kept small q e h = entry_level k owns f kept q e h
told_level k owns f (Some l) kept small q e h = level_instead (same_proc q l.proc) (record { state = l.state; level = l.level }) e (entry_at k.fences f q) small (entry_level k owns f kept q e) h
