-- Of how many processes a header can tell at most.
use Rattle.std.proofs.Common.{◌≡◌, ◌≤◌, ◌+◌, ℕ, Bool, true, false, ◌||◌, ◌==◌, nat_le, cond, List, [], ◌∷◌, ◌++◌, length, Option, Some, None, is_some, inl, inr, refl, sym, ap, ◌∙◌, subst, arith, length-append}
use Rattle.std.specs.FinMap as finite
use Rattle.std.specs.FinMap.Entries.{find}
use Rattle.std.specs.Cmp.{Equal-is, eq_by_cmp_equiv}
use Rattle.std.specs.List.{list_any}
use Rattle.std.specs.List.Sorted.{IsStrictlySortedBy}
use Rattle.std.specs.Map.{lookup}
use Rattle.std.proofs.lemmas.Bool.{le-leb, false≢true}
use Rattle.std.proofs.lemmas.List.Kept.{IsStrictlySortedBy-filter}
use Rattle.std.proofs.lemmas.Map.Keys.{IsDistinct-from_sorted}
use Rattle.std.proofs.lemmas.Map.Steps.{length-le_from_keys}
use Rattle.pmg_value.specs.Lists.{In}
use Rattle.pmg_value.specs.Process.{proc_cmp}
use Rattle.pmg_value.specs.Signatures.{Signature, FenceName}
use Rattle.pmg_value.specs.declared.process.Proc.{Proc}
use Rattle.pmg_value.proofs.ListLemmas.{in_from_list_any}
use Rattle.pmg_value.proofs.ProcessOrder.{procs_total, exact_procs}
use Rattle.pmg_value.specs.InOrder.{in_order}
use Rattle.pmg_value.proofs.SetOrder.{in_order_rises}
use Rattle.pmg_frame.specs.declared.local.Local.{Local}
use Rattle.pmg_jobinfo.specs.Jobs.{home_of}
use Rattle.pmg_fence.specs.declared.entry.Entry.{Entry}
use Rattle.pmg_fence.specs.Entering.{same_proc, entry_by, collected_locals, told_locals, with_line, locals_of}
use Rattle.pmg_fence.specs.Tables.{Numbers, Fence, fence_at, entry_at}
use Rattle.pmg_fence.specs.Codes.{Known}
use Rattle.pmg_fence.specs.Changes.{present, newly}
use Rattle.pmg_fence.specs.Kept.{instead, entry_with, own_of, told_with, most_told}

-- ---- keys of two maps

lookup_append : {K X : Type 0} (t : K → Bool) (xs ys : List (K × X)) → is_some (lookup t (xs ++ ys)) ≡ (is_some (lookup t xs) || is_some (lookup t ys))
lookup_append t [] ys = refl
lookup_append t (e ∷ xs) ys =
    elim (t e.0) as (λ b. is_some (cond b (Some e.1) (lookup t (xs ++ ys))) ≡ (is_some (cond b (Some e.1) (lookup t xs)) || is_some (lookup t ys))) [ true ↦ refl | false ↦ lookup_append t xs ys ]

found_alike : (q : Proc) (es : List (Proc × ℕ)) → find proc_cmp q es ≡ lookup (same_proc q) es
found_alike q [] = refl
found_alike q (e ∷ es) = ap (cond (same_proc q e.0) (Some e.1)) (found_alike q es)

get_lookup : (m : Numbers) (q : Proc) → is_some (lookup (same_proc q) (finite.entries m)) ≡ is_some (finite.get m q)
get_lookup m q = ap is_some (sym (finite.get-entries m q ∙ found_alike q (finite.entries m)))

member : (q : Proc) (ps : List Proc) → list_any (same_proc q) ps ≡ true → In q ps
member q ps h = let found = in_from_list_any (same_proc q) ps h in subst (λ r. In r ps) (sym (exact_procs q found.0 ((Equal-is _).0 found.2))) found.1

-- processes with no two equal, each of them with a number in one of two tables, are at most as many as both have
at_most : (m ends : Numbers) (ps : List Proc) → IsStrictlySortedBy proc_cmp ps → ((q : Proc) → In q ps → (is_some (finite.get m q) || is_some (finite.get ends q)) ≡ true) → length ps ≤ finite.len m + finite.len ends
at_most m ends ps rising each =
    let es = finite.entries m ++ finite.entries ends in
    let few : length ps ≤ length es = length-le_from_keys (eq_by_cmp_equiv procs_total) ps es (IsDistinct-from_sorted proc_cmp ps rising) (λ q h.
    lookup_append (same_proc q) (finite.entries m) (finite.entries ends) ∙ (λ i. get_lookup m q i || get_lookup ends q i) ∙ each q (member q ps h)) in
    omega (arith, few, length-append (finite.entries m) (finite.entries ends), finite.len-entries m, finite.len-entries ends)

-- ---- whom lines tell of

some_first : (s : Proc → Option Entry) (p : Proc) (ps : List Proc) (o : Option Entry) (x : Option (List Local)) → s p ≡ o
    → ((xs : List Local) → x ≡ Some xs → (q : Proc) → In q ps → is_some (s q) ≡ true) → (ls : List Local) → with_line p o x ≡ Some ls → (q : Proc) → In q (p ∷ ps) → is_some (s q) ≡ true
some_first s p ps None x is rest ls h q i = absurd cc
some_first s p ps (Some e) None is rest ls h q i = absurd cc
some_first s p ps (Some e) (Some xs) is rest ls h q (inl same) = ap is_some (ap s same ∙ is)
some_first s p ps (Some e) (Some xs) is rest ls h q (inr i) = rest xs refl q i

each_some : (s : Proc → Option Entry) (ps : List Proc) (ls : List Local) → collected_locals s ps ≡ Some ls → (q : Proc) → In q ps → is_some (s q) ≡ true
each_some s [] ls h q i = absurd i
each_some s (p ∷ ps) ls h q i = some_first s p ps (s p) (collected_locals s ps) refl (each_some s ps) ls h q i

entered_or_gone : (o end : Option ℕ) → is_some (entry_by o end) ≡ (is_some o || is_some end)
entered_or_gone (Some level) end = refl
entered_or_gone None (Some last) = refl
entered_or_gone None None = refl

some_by : (b : Bool) (level : ℕ) (o end : Option ℕ) (e : Entry) → is_some (cond b (Some e) (entry_by o end)) ≡ true → (is_some (cond b (Some level) o) || is_some end) ≡ true
some_by true level o end e h = refl
some_by false level o end e h = sym (entered_or_gone o end) ∙ h

some_instead : (fence : Fence) (ends : Numbers) (l : Local) (q : Proc) → is_some (instead (Some l) (entry_with fence ends) q) ≡ true
    → (is_some (finite.get (finite.insert fence.levels l.proc l.level) q) || is_some (finite.get ends q)) ≡ true
some_instead fence ends l q h =
    ap (λ (o : Option ℕ). is_some o || is_some (finite.get ends q)) (finite.get-insert procs_total fence.levels l.proc l.level q)
    ∙ some_by (same_proc q l.proc) l.level (finite.get fence.levels q) (finite.get ends q) _ h

one_more : (b : Bool) (n : ℕ) → cond b n (n + 1) ≤ n + 1
one_more true n = omega arith
one_more false n = omega arith

len_more : (m : Numbers) (p : Proc) (n : ℕ) → finite.len (finite.insert m p n) ≤ finite.len m + 1
len_more m p n = subst (λ k. k ≤ finite.len m + 1) (sym (finite.len-insert procs_total m p n)) (one_more (finite.contains_key m p) (finite.len m))

lines_at_most : (fence : Fence) (ends : Numbers) (l : Option Local) (ps : List Proc) (ls : List Local) → IsStrictlySortedBy proc_cmp ps → collected_locals (instead l (entry_with fence ends)) ps ≡ Some ls → length ps ≤ most_told fence ends
lines_at_most fence ends None ps ls rising h =
    let few = at_most fence.levels ends ps rising (λ q i. sym (entered_or_gone (finite.get fence.levels q) (finite.get ends q)) ∙ each_some (instead None (entry_with fence ends)) ps ls h q i) in
    omega (arith, few)
lines_at_most fence ends (Some l) ps ls rising h =
    let few = at_most (finite.insert fence.levels l.proc l.level) ends ps rising (λ q i. some_instead fence ends l q (each_some (instead (Some l) (entry_with fence ends)) ps ls h q i)) in
    omega (arith, few, len_more fence.levels l.proc l.level)

told_at_most : (fence : Fence) (ends : Numbers) (l : Option Local) (ps : List Proc) (ls : List Local) → IsStrictlySortedBy proc_cmp ps → told_locals (instead l (entry_with fence ends)) ps ≡ Some ls → length ps ≤ most_told fence ends
told_at_most fence ends l [] ls rising h = omega arith
told_at_most fence ends l (p ∷ ps) ls rising h = lines_at_most fence ends l (p ∷ ps) ls rising h

-- ---- own participants

pub own_rises : (k : Known) (g : Signature) → IsStrictlySortedBy proc_cmp (own_of k g)
own_rises k g = IsStrictlySortedBy-filter proc_cmp (λ p. home_of k.jobs p == k.node) (in_order g.participants) (in_order_rises g.participants)

newly_nothing : (node : ℕ) (f : FenceName) (before : Option (List Local)) → newly node f before None ≡ []
newly_nothing node f None = refl
newly_nothing node f (Some ls) = refl

-- where too few entered or ended, there is no header
pub nothing_yet : (k : Known) (f : FenceName) (fence : Fence) (l : Option Local) (own : List Proc) → fence ≡ fence_at k.fences f → own ≡ own_of k f.signature
    → nat_le (length own) (most_told fence k.fences.ends) ≡ false → [] ≡ told_with k f l
unfolding locals_of entry_at
nothing_yet k f fence l own same is short = sym (by_now (told_locals (instead l (entry_at k.fences f)) (own_of k f.signature)) refl)
  where
    by_now : (o : Option (List Local)) → told_locals (instead l (entry_at k.fences f)) (own_of k f.signature) ≡ o → newly k.node f (present k.jobs k.node k.fences f) o ≡ []
    by_now None e = newly_nothing k.node f (present k.jobs k.node k.fences f)
    by_now (Some ls) e =
        let few = told_at_most (fence_at k.fences f) k.fences.ends l (own_of k f.signature) ls (own_rises k f.signature) e in
        let all : nat_le (length own) (most_told fence k.fences.ends) ≡ true = rw (is, same) (le-leb _ _ few) in
        absurd (false≢true (sym short ∙ all))
