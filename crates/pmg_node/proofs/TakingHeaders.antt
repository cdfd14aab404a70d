-- Whether a header lists just its node's participants.
use Rattle.std.proofs.Common.{◌≡◌, ◌+◌, ◌<◌, ◌≤◌, ◌==◌, arith, Ordering, Less, Equal, Greater, ℕ, zero, suc, Bool, true, false, cond, List, [], ◌∷◌, map, length, get_or, drop, drop-cons, add-one, refl, sym, ap, ◌∙◌}
use Rattle.std.specs.Cmp.Lexicographic.{slice_cmp}
use Rattle.std.specs.List.{filter}
use Rattle.std.specs.Ordering.{eq_by_cmp, is_eq, ordering_then}
use Rattle.std.proofs.lemmas.Bool.Decides.{nat_tests}
use Rattle.pmg_value.specs.Process.{proc_cmp}
use Rattle.pmg_value.specs.declared.process.Proc.{Proc}
use Rattle.pmg_frame.specs.Fences.{Header, participants_of}
use Rattle.pmg_frame.specs.declared.local.Local.{Local}
use Rattle.pmg_jobinfo.specs.Jobs.{Jobs, home_of}
use Rattle.pmg_fence.specs.Entering.{same_proc, locals_of}
use Rattle.pmg_fence.proofs.LineLemmas.{drop-all}
use Rattle.pmg_node_model.specs.Acts.{is_complete}

module _ (jobs : Jobs) (node : ℕ) where
  -- these locals are of just those of the processes that are at home at the node, in their order
  abbrev pub lists : List Local → List Proc → Bool
  lists locals procs = eq_by_cmp (slice_cmp proc_cmp) (map (λ (l : Local). l.proc) locals) (filter (λ p. home_of jobs p == node) procs)

  -- the next process is at home at the node
  own_at : (ps : List Proc) (j : ℕ) (p : Proc) → j < length ps → p ≡ get_or ps j p → (home_of jobs p == node) ≡ true
      → filter (λ p. home_of jobs p == node) (drop j ps) ≡ p ∷ filter (λ p. home_of jobs p == node) (drop (j + 1) ps)
  own_at ps j p h is here =
      ap (filter (λ q. home_of jobs q == node)) (drop-cons ps j p h ∙ ap (λ q. q ∷ drop (suc j) ps) (sym is) ∙ ap (λ k. p ∷ drop k ps) (sym (add-one j)))
      ∙ ap (λ b. cond b (p ∷ filter (λ q. home_of jobs q == node) (drop (j + 1) ps)) (filter (λ q. home_of jobs q == node) (drop (j + 1) ps))) here

  local_at : (ls : List Local) (i : ℕ) (l : Local) → i < length ls → l ≡ get_or ls i l → drop i ls ≡ l ∷ drop (i + 1) ls
  local_at ls i l h is = drop-cons ls i l h ∙ ap (λ x. x ∷ drop (suc i) ls) (sym is) ∙ ap (λ k. l ∷ drop k ls) (sym (add-one i))

  one_first : (r others : Ordering) → is_eq (ordering_then r others) ≡ cond (is_eq r) (is_eq others) false
  one_first Less others = refl
  one_first Equal others = refl
  one_first Greater others = refl

  none_left : (i : ℕ) (ls : List Local) → i ≤ length ls → lists (drop i ls) [] ≡ (i == length ls)
  none_left zero [] h = refl
  none_left zero (l ∷ ls) h = sym (apart (length ls))
    where
      apart : (n : ℕ) → (zero == suc n) ≡ false
      apart n = grind (arith, nat_tests)
  none_left (suc i) [] h = absurd (omega (arith, h))
  none_left (suc i) (l ∷ ls) h = none_left i ls (omega (arith, h)) ∙ both i (length ls)
    where
      both : (m n : ℕ) → (m == n) ≡ (suc m == suc n)
      both m n = grind (arith, nat_tests)

  module _ (ls : List Local) (ps : List Proc) (i j : ℕ) (so_far : lists ls ps ≡ lists (drop i ls) (drop j ps)) where
    -- no local is left
    pub local_missing : (p : Proc) → j < length ps → p ≡ get_or ps j p → (home_of jobs p == node) ≡ true → length ls ≤ i → false ≡ lists ls ps
    local_missing p h is here none =
        sym (so_far
        ∙ (λ k. eq_by_cmp (slice_cmp proc_cmp) (map (λ (l : Local). l.proc) (drop-all i ls none k)) (own_at ps j p h is here k)))

    both_next : (p : Proc) (l : Local) → j < length ps → p ≡ get_or ps j p → (home_of jobs p == node) ≡ true → i < length ls → l ≡ get_or ls i l
        → lists ls ps ≡ cond (same_proc l.proc p) (lists (drop (i + 1) ls) (drop (j + 1) ps)) false
    both_next p l h is here more its =
        so_far
        ∙ (λ k. eq_by_cmp (slice_cmp proc_cmp) (map (λ (l : Local). l.proc) (local_at ls i l more its k)) (own_at ps j p h is here k))
        ∙ one_first (proc_cmp l.proc p) _

    -- the next local is of another process
    pub local_other : (p : Proc) (l : Local) → j < length ps → p ≡ get_or ps j p → (home_of jobs p == node) ≡ true → i < length ls → l ≡ get_or ls i l
        → same_proc l.proc p ≡ false → false ≡ lists ls ps
    local_other p l h is here more its other = sym (both_next p l h is here more its ∙ ap (λ b. cond b (lists (drop (i + 1) ls) (drop (j + 1) ps)) false) other)

    -- no process is left
    pub all_listed : length ps ≤ j → i ≤ length ls → (i == length ls) ≡ lists ls ps
    all_listed none few = sym (so_far ∙ ap (lists (drop i ls)) (drop-all j ps none) ∙ none_left i ls few)

-- so the header is complete or not
pub complete_is : (jobs : Jobs) (hd : Header) (ls : List Local) (ps : List Proc) → ls ≡ hd.locals → ps ≡ participants_of hd.name → lists jobs hd.node ls ps ≡ is_complete jobs hd
unfolding locals_of
complete_is jobs hd ls ps same listed = λ i. lists jobs hd.node (same i) (listed i)
