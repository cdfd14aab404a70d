-- Levels of nodes: those that are below a level.
use Rattle.std.proofs.Common.{◌≡◌, ℕ, List, [], nat_le, nat_lt, sym, ap, ◌∙◌}
use Rattle.std.specs.Prelude.{filter}
use Rattle.std.specs.FinMap as finite
use Rattle.std.specs.Ordering.{nat_cmp}
use Rattle.std.specs.Cmp.{nat_cmp_total}
use Rattle.pmg_value.specs.Rows.{AreRising, map_of}
use Rattle.pmg_value.proofs.RowLemmas.{entries-map_of, entries_of_nothing}
use Rattle.pmg_dmodex.specs.Levels.{NodeLevels, below, not_below}

module _ (entries : List (ℕ × ℕ)) (m : NodeLevels) (level : ℕ) (same : map_of entries ≡ m) (rising : AreRising nat_cmp entries) where
  entries_are : entries ≡ finite.entries m
  entries_are = sym (entries-map_of nat_cmp_total entries rising) ∙ ap finite.entries same

  pub below_are : filter (λ e. nat_lt e.1 level) entries ≡ below level m
  below_are = ap (filter (λ (e : ℕ × ℕ). nat_lt e.1 level)) entries_are

  pub not_below_are : (kept : List (ℕ × ℕ)) → kept ≡ filter (λ e. nat_le level e.1) entries → map_of kept ≡ not_below level m
  not_below_are kept is = ap map_of (is ∙ ap (filter (λ (e : ℕ × ℕ). nat_le level e.1)) entries_are)

pub nothing_below : (level : ℕ) → [] ≡ below level finite.empty
nothing_below level = ap (filter (λ (e : ℕ × ℕ). nat_lt e.1 level)) (sym (entries_of_nothing nat_cmp))
