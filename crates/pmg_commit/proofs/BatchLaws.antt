-- Batches, and puts that make them.
use Rattle.std.proofs.Common.{◌≡◌, ℕ, zero, suc, Bool, true, false, cond, ◌&&◌, T, List, [], ◌∷◌, ◌++◌, map, append_assoc, Option, Some, None, refl, sym, ap, ◌∙◌, arith}
use Rattle.std.specs.FinMap as finite
use Rattle.std.specs.FinMap.Entries.{find, is_sorted}
use Rattle.std.specs.Str.{bytes_eq}
use Rattle.std.specs.Ordering.{nat_cmp, eq_by_cmp}
use Rattle.std.specs.Cmp.Lexicographic.{slice_cmp}
use Rattle.std.proofs.lemmas.Map.Text.{is_eq-slice_cmp}
use Rattle.pmg_scope.specs.Scopes.{reaches}
use Rattle.pmg_scope.specs.declared.scope.Scope.{Scope}
use Rattle.pmg_scope.specs.declared.scope.Scope.TheVariants as scopes
use Rattle.pmg_scope.specs.declared.scope.Reach.{Reach}
use Rattle.pmg_scope.specs.declared.scope.Reach.TheVariants as reach
use Rattle.pmg_scope.specs.Cached.{Table, Unsealed}
use Rattle.pmg_scope.specs.Scripts.{Call, Script, count_commits, later_of, put_of, last_put}
use Rattle.pmg_scope.specs.Sealing.{part, next_part}
use Rattle.pmg_scope.proofs.CacheLaws.{next_appended}
use Rattle.pmg_scope.proofs.SealingLaws.{none_earlier, later_assoc}
use Rattle.pmg_commit.specs.SealerRules.{AnyBatchFits, batch_puts}
use Rattle.pmg_commit.proofs.SealerLaws.{not_again, others_sorted}

abbrev Rows : Type 0
Rows = List (List ℕ × List ℕ)

-- puts of these rows with one scope
abbrev put_all : Scope → Rows → Script
put_all scope rows = map (λ e. Call.put scope e.0 e.1) rows

-- ---- puts after a script

no_commits_put : (scope : Scope) (rows : Rows) → count_commits (put_all scope rows) ≡ 0
no_commits_put scope [] = refl
no_commits_put scope (e ∷ rows) = no_commits_put scope rows

part_of_puts : (scope : Scope) (rows : Rows) → part zero (put_all scope rows) ≡ put_all scope rows
unfolding part
part_of_puts scope [] = refl
part_of_puts scope (e ∷ rows) = ap (λ (ds : Script). Call.put scope e.0 e.1 ∷ ds) (part_of_puts scope rows)

next_puts : (s : Script) (scope : Scope) (rows : Rows) → next_part (s ++ put_all scope rows) ≡ next_part s ++ put_all scope rows
next_puts s scope rows = next_appended s (put_all scope rows) (no_commits_put scope rows) (part_of_puts scope rows)

last_put_both : (r : Reach) (k : List ℕ) (xs ys : Script) → last_put r k (xs ++ ys) ≡ later_of (last_put r k ys) (last_put r k xs)
last_put_both r k [] ys = sym (none_earlier (last_put r k ys))
last_put_both r k (x ∷ xs) ys =
    ap (λ (o : Option (List ℕ)). later_of o (put_of r k x)) (last_put_both r k xs ys) ∙ later_assoc (last_put r k ys) (last_put r k xs) (put_of r k x)

-- ---- what puts of rows with one scope leave

-- where the scope does not reach, nothing
none_put : (r : Reach) (k : List ℕ) (scope : Scope) (rows : Rows) → reaches scope r ≡ false → last_put r k (put_all scope rows) ≡ None
none_put r k scope [] unseen = refl
none_put r k scope (e ∷ rows) unseen =
    (λ i. later_of (none_put r k scope rows unseen i) (cond (unseen i && bytes_eq k e.0) (Some e.1) None))

one_or_other : (here : Bool) (value : List ℕ) (others : Option (List ℕ)) → (here ≡ true → others ≡ None) → later_of others (cond here (Some value) None) ≡ cond here (Some value) others
one_or_other true value others none = ap (λ (o : Option (List ℕ)). later_of o (Some value)) (none refl)
one_or_other false value others none = none_earlier others

-- where it does, what stands in the row of the key
row_put : (r : Reach) (k : List ℕ) (scope : Scope) (rows : Rows) → reaches scope r ≡ true → T (is_sorted (slice_cmp nat_cmp) rows) → last_put r k (put_all scope rows) ≡ find (slice_cmp nat_cmp) k rows
row_put r k scope [] seen sorted = refl
row_put r k scope (e ∷ rows) seen sorted =
    (λ i. later_of (row_put r k scope rows seen (others_sorted e rows sorted) i) (cond (seen i && sym (is_eq-slice_cmp k e.0) i) (Some e.1) None))
    ∙ one_or_other (eq_by_cmp (slice_cmp nat_cmp) k e.0) e.1 (find (slice_cmp nat_cmp) k rows) (not_again e rows sorted k)

-- ---- the rule

table_put : (r : Reach) (k : List ℕ) (scope : Scope) (m : Table) → reaches scope r ≡ true → last_put r k (put_all scope (finite.entries m)) ≡ finite.get m k
table_put r k scope m seen = row_put r k scope (finite.entries m) seen (finite.entries_sorted m) ∙ sym (finite.get-entries m k)

-- what is put last of the two tables, after a script without unsealed puts
last_of_both : (b : Unsealed) (s : Script) (r : Reach) (k : List ℕ) → last_put r k (next_part s) ≡ None
    → last_put r k (next_part (s ++ batch_puts b)) ≡ later_of (last_put r k (put_all scopes.Remote (finite.entries b.far))) (last_put r k (put_all scopes.Local (finite.entries b.near)))
last_of_both b s r k none =
    let near = put_all scopes.Local (finite.entries b.near) in
    let far = put_all scopes.Remote (finite.entries b.far) in
    ap (λ (t : Script). last_put r k (next_part t)) (sym (append_assoc s near far))
    ∙ ap (last_put r k) (next_puts (s ++ near) scopes.Remote (finite.entries b.far) ∙ ap (λ (t : Script). t ++ far) (next_puts s scopes.Local (finite.entries b.near)))
    ∙ last_put_both r k (next_part s ++ near) far
    ∙ ap (later_of (last_put r k far)) (last_put_both r k (next_part s) near ∙ ap (later_of (last_put r k near)) none ∙ none_earlier (last_put r k near))

pub any_batch_fits : AnyBatchFits
any_batch_fits b s sealed = record {
  near = λ k. sym (last_of_both b s reach.Near k (sealed reach.Near k)
      ∙ ap (λ (o : Option (List ℕ)). later_of o (last_put reach.Near k (put_all scopes.Local (finite.entries b.near)))) (none_put reach.Near k scopes.Remote (finite.entries b.far) refl)
      ∙ table_put reach.Near k scopes.Local b.near refl);
  far = λ k. sym (last_of_both b s reach.Far k (sealed reach.Far k)
      ∙ ap (later_of (last_put reach.Far k (put_all scopes.Remote (finite.entries b.far)))) (none_put reach.Far k scopes.Local (finite.entries b.near) refl)
      ∙ none_earlier (last_put reach.Far k (put_all scopes.Remote (finite.entries b.far)))
      ∙ table_put reach.Far k scopes.Remote b.far refl);
}
