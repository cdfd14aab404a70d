-- What a table reads of the headers.
use Rattle.std.proofs.Common.{◌≡◌, ◌≤◌, ◌<◌, ◌+◌, ℕ, Bool, true, false, ◌==◌, ◌&&◌, ◌||◌, not, nat_le, cond, List, [], ◌∷◌, ◌++◌, length, get_or, drop, take, Option, Some, None, is_some, inl, inr, refl, sym, ap, ◌∙◌, arith}
use Rattle.std.specs.FinMap as finite
use Rattle.std.specs.List.{filter, list_all}
use Rattle.std.proofs.Math.Bool.{and-true, and-false}
use Rattle.std.proofs.lemmas.Bool.Decides.{nat_tests}
use Rattle.std.proofs.lemmas.List.Folds.{list_all_at, list_all_more}
use Rattle.pmg_value.specs.Lists.{In}
use Rattle.pmg_value.specs.Signatures.{Signature, FenceName}
use Rattle.pmg_value.specs.declared.process.Proc.{Proc}
use Rattle.pmg_frame.specs.Fences.{participants_of}
use Rattle.pmg_value.specs.InOrder.{in_order}
use Rattle.pmg_frame.specs.declared.local.Local.{Local}
use Rattle.pmg_jobinfo.specs.Jobs.{home_of}
use Rattle.pmg_fence.specs.declared.entry.Entry.{Entry}
use Rattle.pmg_fence.specs.Entering.{locals_of, collected_locals, told_locals, with_line}
use Rattle.pmg_fence.specs.Tables.{Fence, fence_of, series_at, is_old, fence_at, entry_at, entry_in, own_header, header_at, told_of, is_covered, is_ready, says_gone, gone_by}
use Rattle.pmg_fence.specs.Codes.{Known}
use Rattle.pmg_fence.specs.Kept.{entry_with, known_fence, own_of, standing_in}
use Rattle.pmg_fence.proofs.HeaderLemmas.{told_says, in_filter}
use Rattle.pmg_fence.proofs.LineLemmas.{drop-all, append_empty}
use Rattle.pmg_fence.proofs.TellLemmas.{fence_known}

-- where there is somebody, what is told are the lines
told_is_lines : (s : Proc → Option Entry) (ps : List Proc) (q : Proc) → In q ps → told_locals s ps ≡ collected_locals s ps
told_is_lines s [] q i = absurd i
told_is_lines s (p ∷ ps) q i = refl

read_own : (s : Proc → Option Entry) (ps : List Proc) (q : Proc) (whole : Bool) (o : Option (List Local)) → In q ps → told_locals s ps ≡ o → whole ≡ is_some (collected_locals s ps)
    → cond whole (s q) None ≡ entry_in q o
read_own s ps q whole None i is all = ap (λ b. cond b (s q) None) (all ∙ ap is_some (sym (told_is_lines s ps q i) ∙ is))
read_own s ps q whole (Some ls) i is all = ap (λ b. cond b (s q) None) (all ∙ ap is_some (sym (told_is_lines s ps q i) ∙ is)) ∙ sym (told_says s ps q i ls is)

module _ (k : Known) (f : FenceName) (known : Fence) (whole : Bool) (same : known ≡ fence_at k.fences f)
    (all : whole ≡ is_some (collected_locals (entry_with known k.fences.ends) (own_of k f.signature))) where
  read_by : (q : Proc) → In q (participants_of f) → (b : Bool) → (home_of k.jobs q == k.node) ≡ b
      → cond b (cond whole (entry_with known k.fences.ends q) None) (entry_in q (finite.get known.headers (home_of k.jobs q)))
      ≡ entry_in q (cond b (own_header k.jobs k.node k.fences f) (finite.get (fence_at k.fences f).headers (home_of k.jobs q)))
  unfolding own_header locals_of entry_at
  read_by q i true e =
      read_own (entry_with known k.fences.ends) (own_of k f.signature) q whole (told_locals (entry_with known k.fences.ends) (own_of k f.signature))
      (in_filter (λ p. home_of k.jobs p == k.node) (participants_of f) q i e) refl all
      ∙ ap (λ (x : Fence). entry_in q (told_locals (entry_with x k.fences.ends) (own_of k f.signature))) same
  read_by q i false e = ap (λ (x : Fence). entry_in q (finite.get x.headers (home_of k.jobs q))) same

  pub told_is : (q : Proc) → In q (participants_of f) → standing_in k known whole q ≡ told_of k.jobs k.node k.fences f q
  unfolding told_of header_at
  told_is q i = read_by q i (home_of k.jobs q == k.node) refl

pub filter_alike : {A : Type 0} (p r : A → Bool) (xs : List A) → ((x : A) → In x xs → p x ≡ r x) → filter p xs ≡ filter r xs
filter_alike p r [] same = refl
filter_alike p r (x ∷ xs) same = (λ i. cond (same x (inl refl) i) (x ∷ filter_alike p r xs (λ y j. same y (inr j)) i) (filter_alike p r xs (λ y j. same y (inr j)) i))

pub all_alike : {A : Type 0} (p r : A → Bool) (xs : List A) → ((x : A) → In x xs → p x ≡ r x) → list_all p xs ≡ list_all r xs
all_alike p r [] same = refl
all_alike p r (x ∷ xs) same = (λ i. same x (inl refl) i && all_alike p r xs (λ y j. same y (inr j)) i)

-- Of an own one for which there is something to tell, nothing else has to be known: where something is lacking of another own one,
-- that one is not covered.
module _ (k : Known) (known : Fence) (collect : Bool) (level : Proc → ℕ) where
  abbrev own : Proc → Bool
  own q = home_of k.jobs q == k.node

  abbrev stands : Proc → Option Entry
  stands = entry_with known k.fences.ends

  -- what the levels that are known cover
  abbrev pub covers : Bool → Proc → Bool
  covers whole q = is_covered collect (level q) (standing_in k known whole q)

  uncovered : (whole : Bool) (q : Proc) → own q ≡ true → stands q ≡ None → covers whole q ≡ false
  uncovered whole q mine none = (λ i. is_covered collect (level q) (cond (mine i) (cond whole (none i) None) (entry_in q (finite.get known.headers (home_of k.jobs q))))) ∙ by_whole whole
    where
      by_whole : (w : Bool) → is_covered collect (level q) (cond w None None) ≡ false
      by_whole true = refl
      by_whole false = refl

  first_uncovered : (whole : Bool) (p : Proc) (ps : List Proc) → (is_some (collected_locals stands (filter own ps)) ≡ false → list_all (covers whole) ps ≡ false)
      → (b : Bool) → own p ≡ b → is_some (collected_locals stands (cond b (p ∷ filter own ps) (filter own ps))) ≡ false → list_all (covers whole) (p ∷ ps) ≡ false
  first_uncovered whole p ps others b is lacks = by_own b is lacks
    where
      later : is_some (collected_locals stands (filter own ps)) ≡ false → list_all (covers whole) (p ∷ ps) ≡ false
      later e = ap (λ b. covers whole p && b) (others e) ∙ and-false (covers whole p)

      by_entry : own p ≡ true → (e : Option Entry) → stands p ≡ e → (o : Option (List Local)) → collected_locals stands (filter own ps) ≡ o → is_some (with_line p e o) ≡ false → list_all (covers whole) (p ∷ ps) ≡ false
      by_entry mine None none o rest lacks = ap (λ b. b && list_all (covers whole) ps) (uncovered whole p mine none)
      by_entry mine (Some e) is None rest lacks = later (ap is_some rest)
      by_entry mine (Some e) is (Some ls) rest lacks = absurd cc

      by_own : (b : Bool) → own p ≡ b → is_some (collected_locals stands (cond b (p ∷ filter own ps) (filter own ps))) ≡ false → list_all (covers whole) (p ∷ ps) ≡ false
      by_own true mine lacks = by_entry mine (stands p) refl (collected_locals stands (filter own ps)) refl lacks
      by_own false other lacks = later lacks

  all_uncovered : (whole : Bool) (ps : List Proc) → is_some (collected_locals stands (filter own ps)) ≡ false → list_all (covers whole) ps ≡ false
  all_uncovered whole [] h = absurd cc
  all_uncovered whole (p ∷ ps) h = first_uncovered whole p ps (all_uncovered whole ps) (own p) refl h

  whole_apart : (whole : Bool) (ps : List Proc) → whole ≡ is_some (collected_locals stands (filter own ps)) → list_all (covers true) ps ≡ list_all (covers whole) ps
  whole_apart true ps h = refl
  whole_apart false ps h = all_uncovered true ps (sym h) ∙ sym (all_uncovered false ps (sym h))

module _ (k : Known) (f : FenceName) (one two three : Signature) (n : ℕ) (o : Option Fence) (whole : Bool) (items : List Proc) (first : one ≡ f.signature) (number : n ≡ f.instance)
    (second : two ≡ f.signature) (third : three ≡ f.signature) (found : o ≡ finite.get (series_at k.fences one).fences n)
    (all : whole ≡ is_some (collected_locals (entry_with (known_fence o) k.fences.ends) (own_of k two))) (rows : items ≡ in_order three.participants) where
  looked : known_fence o ≡ fence_at k.fences f
  looked = fence_known k.fences one n o found ∙ (λ i. fence_at k.fences (fence_of (first i) (number i)))

  every : whole ≡ is_some (collected_locals (entry_with (known_fence o) k.fences.ends) (own_of k f.signature))
  every = all ∙ ap (λ g. is_some (collected_locals (entry_with (known_fence o) k.fences.ends) (own_of k g))) second

  listed_all : items ≡ participants_of f
  listed_all = rows ∙ ap (λ (g : Signature). in_order g.participants) third

  pub gone_done : (gone : List Proc) (i : ℕ)
      → filter (λ q. says_gone (standing_in k (known_fence o) whole q)) items ≡ gone ++ filter (λ q. says_gone (standing_in k (known_fence o) whole q)) (drop i items) → length items ≤ i
      → gone ≡ gone_by k.jobs k.node k.fences f
  unfolding gone_by
  gone_done gone i so_far h =
      sym (so_far ∙ ap (λ xs. gone ++ filter (λ q. says_gone (standing_in k (known_fence o) whole q)) xs) (drop-all i items h) ∙ append_empty gone)
      ∙ ap (filter (λ q. says_gone (standing_in k (known_fence o) whole q))) listed_all
      ∙ filter_alike _ _ (participants_of f) (λ q j. ap says_gone (told_is k f (known_fence o) whole looked every q j))

  ready_with : (level : Proc → ℕ) → is_old k.fences f ≡ false → list_all (covers k (known_fence o) f.signature.collect level true) items ≡ is_ready k.jobs k.node k.fences f level
  unfolding is_ready
  ready_with level young =
      ap (list_all (covers k (known_fence o) f.signature.collect level true)) listed_all
      ∙ whole_apart k (known_fence o) f.signature.collect level whole (participants_of f) every
      ∙ all_alike _ _ (participants_of f) (λ q j. ap (is_covered f.signature.collect (level q)) (told_is k f (known_fence o) whole looked every q j))
      ∙ ap (λ b. not b && list_all (λ q. is_covered f.signature.collect (level q) (told_of k.jobs k.node k.fences f q)) (participants_of f)) (sym young)

pub ready_done : (k : Known) (f : FenceName) (one other : Signature) (n : ℕ) (o : Option Fence) (items : List Proc) → one ≡ f.signature → n ≡ f.instance → other ≡ f.signature
    → o ≡ finite.get (series_at k.fences one).fences n → items ≡ in_order other.participants → (level : Proc → ℕ) → is_old k.fences f ≡ false
    → list_all (covers k (known_fence o) f.signature.collect level true) items ≡ is_ready k.jobs k.node k.fences f level
ready_done k f one other n o items first number second found rows =
    ready_with k f one other other n o (is_some (collected_locals (entry_with (known_fence o) k.fences.ends) (own_of k other))) items first number second second found refl rows

-- ---- all of a list, one by one from its end

pub all_more : {A : Type 0} (p : A → Bool) (xs : List A) (n i : ℕ) (x : A) (b : Bool) → b ≡ list_all p (take n xs) → n ≡ i + 1 → i < length xs → x ≡ get_or xs i x → p x ≡ true → b ≡ list_all p (take i xs)
all_more p xs n i x b so_far next h is e =
    so_far ∙ ap (λ k. list_all p (take k xs)) next ∙ list_all_more p xs i x h ∙ ap (λ y. list_all p (take i xs) && p y) (sym is)
    ∙ ap (λ c. list_all p (take i xs) && c) e ∙ and-true (list_all p (take i xs))

pub all_broken : {A : Type 0} (p : A → Bool) (xs : List A) (i : ℕ) (x : A) → i < length xs → x ≡ get_or xs i x → p x ≡ false → false ≡ list_all p xs
all_broken p xs i x h is e = sym (list_all_at p xs i x h (ap p (sym is) ∙ e))

pub all_passed : {A : Type 0} (p : A → Bool) (xs : List A) (i : ℕ) (b : Bool) → b ≡ list_all p (take i xs) → i ≤ 0 → true ≡ b
all_passed p xs i b so_far h =
    let none : i ≡ 0 = omega (arith, h) in
    sym (so_far ∙ ap (λ k. list_all p (take k xs)) none)

-- ---- one participant

pub nothing_covered : (collect : Bool) (level : ℕ) (o : Option Entry) → o ≡ None → is_covered collect level o ≡ false
nothing_covered collect level o e = ap (is_covered collect level) e

pub covered_freely : (collect : Bool) (level : ℕ) (o : Option Entry) (e : Entry) → o ≡ Some e → collect ≡ false → is_covered collect level o ≡ true
covered_freely collect level o e is free = (λ i. is_covered (free i) level (is i))

pub covered_there : (collect : Bool) (level n : ℕ) (o : Option Entry) (e : Entry) → o ≡ Some e → n ≡ level → e.level ≤ n → is_covered collect level o ≡ true
covered_there collect level n o e is same h = ap (is_covered collect level) is ∙ by_collect collect
  where
    reached : nat_le e.level level ≡ true
    reached = grind (arith, nat_tests)

    by_collect : (c : Bool) → (not c || nat_le e.level level) ≡ true
    by_collect true = reached
    by_collect false = refl

pub covered_short : (collect : Bool) (level n : ℕ) (o : Option Entry) (e : Entry) → o ≡ Some e → collect ≡ true → n ≡ level → n < e.level → is_covered collect level o ≡ false
covered_short collect level n o e is taken same h = (λ i. is_covered (taken i) level (is i)) ∙ short
  where
    short : nat_le e.level level ≡ false
    short = grind (arith, nat_tests)
