-- Lines that are made one by one.
use Rattle.std.proofs.Common.{◌≡◌, ℕ, zero, suc, ◌+◌, ◌<◌, ◌≤◌, ◌==◌, Bor, arith, Bool, true, false, cond, List, [], ◌∷◌, ◌++◌, length, get_or, drop, Option, Some, None, is_some, refl, sym, ap, ◌∙◌, add-one, drop-cons, append_assoc}
use Rattle.std.specs.List.{filter}
use Rattle.std.specs.Option.{option_map}
use Rattle.pmg_jobinfo.specs.Jobs.{home_of}
use Rattle.pmg_fence.specs.Codes.{Known}
use Rattle.pmg_fence.specs.Tables.{Fence}
use Rattle.pmg_fence.specs.Kept.{instead, entry_with, known_fence}
use Rattle.pmg_value.specs.declared.process.Proc.{Proc}
use Rattle.pmg_frame.specs.declared.local.Local.{Local}
use Rattle.pmg_fence.specs.declared.entry.Entry.{Entry}
use Rattle.pmg_fence.specs.Entering.{local_of, with_line, collected_locals, told_locals}

pub drop-all : {A : Type 0} (i : ℕ) (xs : List A) → length xs ≤ i → drop i xs ≡ []
drop-all zero [] h = refl
drop-all zero (x ∷ xs) h = absurd (omega (arith, h))
drop-all (suc i) [] h = refl
drop-all (suc i) (x ∷ xs) h = drop-all i xs (omega (arith, h))

pub append_empty : {A : Type 0} (xs : List A) → xs ++ [] ≡ xs
append_empty [] = refl
append_empty (x ∷ xs) = ap (λ ys. x ∷ ys) (append_empty xs)

-- these lines, and then the others
abbrev pub before : List Local → Option (List Local) → Option (List Local)
before ls None = None
before ls (Some others) = Some (ls ++ others)

pub before_none : (o : Option (List Local)) → o ≡ before [] o
before_none None = refl
before_none (Some ls) = refl

-- one more line
before_more : (ls : List Local) (p : Proc) (e : Entry) (o : Option (List Local)) → before ls (with_line p (Some e) o) ≡ before (ls ++ local_of p e ∷ []) o
before_more ls p e None = refl
before_more ls p e (Some others) = ap Some (sym (append_assoc ls (local_of p e ∷ []) others))

module _ (s : Proc → Option Entry) (own : Proc → Bool) where
  -- the collected_locals that are left to make
  abbrev pub rest : List Proc → Option (List Local)
  rest ps = collected_locals s (filter own ps)

  pub rest_at : (ps : List Proc) (i : ℕ) (p : Proc) → i < length ps → p ≡ get_or ps i p → (b : Bool) → own p ≡ b
      → rest (drop i ps) ≡ cond b (with_line p (s p) (rest (drop (i + 1) ps))) (rest (drop (i + 1) ps))
  rest_at ps i p h is b e =
      ap rest (drop-cons ps i p h ∙ ap (λ x. x ∷ drop (suc i) ps) (sym is) ∙ ap (λ k. p ∷ drop k ps) (sym (add-one i)))
      ∙ by_own b e
    where
      by_own : (b : Bool) → own p ≡ b → collected_locals s (cond (own p) (p ∷ filter own (drop (i + 1) ps)) (filter own (drop (i + 1) ps))) ≡ cond b (with_line p (s p) (rest (drop (i + 1) ps))) (rest (drop (i + 1) ps))
      by_own true t = ap (λ c. collected_locals s (cond c (p ∷ filter own (drop (i + 1) ps)) (filter own (drop (i + 1) ps)))) t
      by_own false t = ap (λ c. collected_locals s (cond c (p ∷ filter own (drop (i + 1) ps)) (filter own (drop (i + 1) ps)))) t

told_none : (s : Proc → Option Entry) (ps : List Proc) → collected_locals s ps ≡ None → told_locals s ps ≡ None
told_none s [] h = refl
told_none s (p ∷ ps) h = h

-- how each process stands, as a table tells that looks at the fence, and the own processes
abbrev pub stands_with : Known → Option (Bor Fence) → Option (Bor Local) → Proc → Option Entry
stands_with k fence line = instead (option_map (λ l. l.now) line) (entry_with (known_fence (option_map (λ f. f.now) fence)) k.fences.ends)

abbrev pub own_at : Known → Proc → Bool
own_at k p = home_of k.jobs p == k.node

-- ---- whether there are all lines

module _ (s : Proc → Option Entry) (own : Proc → Bool) (ps : List Proc) (i : ℕ) (p : Proc) where
  pub whole_stopped : is_some (rest s own ps) ≡ is_some (rest s own (drop i ps)) → i < length ps → p ≡ get_or ps i p → own p ≡ true → s p ≡ None
      → false ≡ is_some (rest s own ps)
  whole_stopped so_far h is mine none =
      sym (so_far ∙ ap is_some (rest_at s own ps i p h is true mine ∙ ap (λ o. with_line p o (rest s own (drop (i + 1) ps))) none))

-- ---- lines of a whole list

module _ (s : Proc → Option Entry) where
  line_at : (ps : List Proc) (i : ℕ) (p : Proc) → i < length ps → p ≡ get_or ps i p → collected_locals s (drop i ps) ≡ with_line p (s p) (collected_locals s (drop (i + 1) ps))
  line_at ps i p h is = ap (collected_locals s) (drop-cons ps i p h ∙ ap (λ x. x ∷ drop (suc i) ps) (sym is) ∙ ap (λ k. p ∷ drop k ps) (sym (add-one i)))

  module _ (ps : List Proc) (ls : List Local) (i : ℕ) (p : Proc) where
    pub line_added : (new : List Local) (e : Entry) → collected_locals s ps ≡ before ls (collected_locals s (drop i ps)) → i < length ps → p ≡ get_or ps i p → s p ≡ Some e
        → new ≡ ls ++ local_of p e ∷ [] → collected_locals s ps ≡ before new (collected_locals s (drop (i + 1) ps))
    line_added new e so_far h is there pushed =
        so_far ∙ ap (before ls) (line_at ps i p h is ∙ ap (λ o. with_line p o (collected_locals s (drop (i + 1) ps))) there)
        ∙ before_more ls p e (collected_locals s (drop (i + 1) ps))
        ∙ ap (λ xs. before xs (collected_locals s (drop (i + 1) ps))) (sym pushed)

    pub line_missing : collected_locals s ps ≡ before ls (collected_locals s (drop i ps)) → i < length ps → p ≡ get_or ps i p → s p ≡ None → None ≡ told_locals s ps
    line_missing so_far h is none =
        sym (told_none s ps (so_far ∙ ap (before ls) (line_at ps i p h is ∙ ap (λ o. with_line p o (collected_locals s (drop (i + 1) ps))) none)))

  module _ (ps : List Proc) (i : ℕ) (p : Proc) where
    pub told_missing : is_some (collected_locals s ps) ≡ is_some (collected_locals s (drop i ps)) → i < length ps → p ≡ get_or ps i p → s p ≡ None → false ≡ is_some (collected_locals s ps)
    told_missing so_far h is none =
        sym (so_far ∙ ap is_some (line_at ps i p h is ∙ ap (λ o. with_line p o (collected_locals s (drop (i + 1) ps))) none))
