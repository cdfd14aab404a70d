-- Signatures, listed for the processes that take part in their fences.
use Rattle.std.proofs.Common.{◌≡◌, Bool, true, false, cond, List, [], ◌∷◌, ◌++◌, Option, Some, None, inl, inr, refl, sym, ap, subst, ◌∙◌, ◌⊎◌, Vec, Global}
use Rattle.std.specs.Cmp.{Equal-is, eq_by_cmp_equiv}
use Rattle.std.specs.FinMap as finite
use Rattle.std.specs.FinMap.Entries.{find}
use Rattle.std.specs.FinSet as set
use Rattle.std.specs.Map.{lookup, update_all}
use Rattle.std.proofs.lemmas.Bool.{or_left, or_right}
use Rattle.std.proofs.lemmas.Map.Keys.{IsDistinct-from_sorted}
use Rattle.std.proofs.lemmas.Map.Made.{update_all_none}
use Rattle.pmg_value.specs.Lists.{In}
use Rattle.pmg_value.specs.Rows.{rows_of, AreRising}
use Rattle.pmg_value.specs.Signatures.{Signature}
use Rattle.pmg_value.specs.declared.process.Proc.{Proc}
use Rattle.pmg_value.proofs.ListLemmas.{in_parts}
use Rattle.pmg_value.proofs.ProcessOrder.{procs_total, exact_procs}
use Rattle.pmg_value.proofs.RowLemmas.{at_key, same_option, shown, entries_rising}
use Rattle.pmg_value.specs.Process.{proc_cmp}
use Rattle.pmg_frame.specs.FenceOrder.{signature_cmp, signature_total}
use Rattle.pmg_frame.proofs.FenceOrderLemmas.{signatures_exact}
use Rattle.pmg_fence.specs.Entering.{same_proc, same_signature}
use Rattle.pmg_fence.specs.Codes.{Owns, Index, Signatures}
use Rattle.pmg_fence.specs.Kept.{found_signatures, ListsEach, ListsMore, IsIndex}
use Rattle.pmg_fence.proofs.EntryLemmas.{signature_itself}
use Rattle.pmg_fence.proofs.IndexLemmas.{keys_rise}
use Rattle.pmg_fence.proofs.TableLemmas.{signature_exact}
use Rattle.pmg_fence.proofs.Trees.{get_at, get_put}

-- ---- one process

abbrev pub index_with : Index → Proc → Signature → Index
index_with index p g = finite.insert index p (set.insert (found_signatures (finite.get index p)) g)

with_more : (b : Bool) (index : Index) (p q : Proc) (g h : Signature) → same_proc q p ≡ b → set.contains (found_signatures (finite.get index q)) h ≡ true
    → set.contains (found_signatures (cond b (Some (set.insert (found_signatures (finite.get index p)) g)) (finite.get index q))) h ≡ true
with_more true index p q g h e there =
    set.contains-insert signature_total (found_signatures (finite.get index p)) g h
    ∙ or_right (same_signature h g) _ (ap (λ r. set.contains (found_signatures (finite.get index r)) h) (sym (exact_procs q p ((Equal-is _).0 e))) ∙ there)
with_more false index p q g h e there = there

pub lists_more : (index new : Index) (p : Proc) (g : Signature) → new ≡ index_with index p g → ListsMore index new
lists_more index new p g is q h there =
    ap (λ (m : Index). set.contains (found_signatures (finite.get m q)) h) is
    ∙ ap (λ o. set.contains (found_signatures o) h) (finite.get-insert procs_total index p (set.insert (found_signatures (finite.get index p)) g) q)
    ∙ with_more (same_proc q p) index p q g h refl there

lists_it : (index new : Index) (p : Proc) (g : Signature) → new ≡ index_with index p g → set.contains (found_signatures (finite.get new p)) g ≡ true
lists_it index new p g is =
    ap (λ (m : Index). set.contains (found_signatures (finite.get m p)) g) is
    ∙ ap (λ o. set.contains (found_signatures o) g) (get_put procs_total exact_procs index p (set.insert (found_signatures (finite.get index p)) g))
    ∙ set.contains-insert signature_total (found_signatures (finite.get index p)) g g ∙ or_left (same_signature g g) _ (signature_itself g)

-- ---- one after another

pub nobody_listed : (index : Index) (g : Signature) → ListsEach index g []
nobody_listed index g p i = absurd i

pub one_listed : (index new : Index) (g : Signature) (p : Proc) (before after : List Proc) → new ≡ index_with index p g → after ≡ before ++ p ∷ [] → ListsEach index g before → ListsEach new g after
one_listed index new g p before after is more each q i = by_place (in_parts before (p ∷ []) q (subst (In q) more i))
  where
    by_place : In q before ⊎ In q (p ∷ []) → set.contains (found_signatures (finite.get new q)) g ≡ true
    by_place (inl there) = lists_more index new p g is q g (each q there)
    by_place (inr (inl same)) = ap (λ r. set.contains (found_signatures (finite.get new r)) g) same ∙ lists_it index new p g is
    by_place (inr (inr none)) = absurd none

-- ---- the signatures of a tree

pub no_row : (rows : List (Proc × Signatures)) (m : Index) (p : Proc) → rows_of (λ s. s) rows ≡ m → None ≡ at_key proc_cmp p rows → finite.get m p ≡ None
no_row rows m p same e = get_at procs_total exact_procs (λ s. s) rows m p same ∙ same_option (at_key proc_cmp p rows) ∙ sym e

-- ---- the index of own participants

pub no_index : (owns : Owns) (index : Index) → owns ≡ finite.empty → IsIndex owns index
no_index owns index none g ps e = absurd (nothing (sym (ap (λ (m : Owns). finite.get m g) none ∙ finite.get-empty signature_cmp g) ∙ e))
  where
    nothing : None ≡ Some ps → ⊥
    nothing x = cc

pub index_more : (owns : Owns) (old new : Index) → IsIndex owns old → ListsMore old new → IsIndex owns new
index_more owns old new kept more g ps e p i = more p g (kept g ps e p i)

index_by : (b : Bool) (index : Index) (h g : Signature) (own ps : List Proc) (o : Option (List Proc)) → same_signature h g ≡ b → ListsEach index g own
    → ((qs : List Proc) → o ≡ Some qs → ListsEach index h qs) → cond b (Some own) o ≡ Some ps → ListsEach index h ps
index_by true index h g own ps o e each others found = λ p i.
    let same : own ≡ ps = cc in
    ap (set.contains (found_signatures (finite.get index p))) (signature_exact h g e) ∙ each p (subst (In p) (sym same) i)
index_by false index h g own ps o e each others found = others ps found

pub index_put : (owns new : Owns) (index : Index) (g : Signature) (own : List Proc) → new ≡ finite.insert owns g own → IsIndex owns index → ListsEach index g own → IsIndex new index
index_put owns new index g own is kept each h ps e =
    index_by (same_signature h g) index h g own ps (finite.get owns h) refl each (kept h)
    (sym (finite.get-insert signature_total owns g own h) ∙ ap (λ (m : Owns). finite.get m h) (sym is) ∙ e)

pub more_itself : (index : Index) → ListsMore index index
more_itself index p g there = there

pub more_then : (old mid new : Index) → ListsMore old mid → ListsMore mid new → ListsMore old new
more_then old mid new one other p g there = other p g (one p g there)

-- ---- own participants that are copied one after another

abbrev pub OwnRow : Type 0
OwnRow = Signature × Vec Proc Global

-- the rows, with the own participants as they are seen
abbrev pub own_rows : List OwnRow → List (Signature × List Proc)
own_rows rows = shown (λ (ps : Vec Proc Global). ps.items) rows

-- what a copy has of the signature, once what is left of the rows is put too
abbrev pub owns_with : Owns → List (Signature × List Proc) → Signature → Option (List Proc)
owns_with copy rest q = update_all same_signature (finite.get copy) rest q

find_there : (es : List (Signature × List Proc)) (q : Signature) → lookup (same_signature q) es ≡ find signature_cmp q es
find_there [] q = refl
find_there (e ∷ es) q = ap (cond (same_signature q e.0) (Some e.1)) (find_there es q)

pub owns_first : (all copy : Owns) (rows : List OwnRow) → rows_of (λ (ps : Vec Proc Global). ps.items) rows ≡ all → AreRising signature_cmp rows → copy ≡ finite.empty
    → (q : Signature) → owns_with copy (own_rows rows) q ≡ finite.get all q
owns_first all copy rows view rises none q =
    let entries : own_rows rows ≡ finite.entries all = sym (entries_rising signature_total (λ (ps : Vec Proc Global). ps.items) rows rises) ∙ ap finite.entries view in
    (λ i. update_all same_signature (λ p. (ap (λ (m : Owns). finite.get m p) none ∙ finite.get-empty signature_cmp p) i) (entries i) q)
    ∙ update_all_none (eq_by_cmp_equiv signature_total) same_signature (λ x y. refl) (finite.entries all) q (IsDistinct-from_sorted signature_cmp (finite.keys all) (keys_rise signature_cmp all))
    ∙ find_there (finite.entries all) q ∙ sym (finite.get-entries all q)

pub owns_next : (all copy new : Owns) (rest left : List OwnRow) (g key : Signature) (own : Vec Proc Global) (ps : List Proc) → left ≡ (g, own) ∷ rest → key ≡ g → ps ≡ own.items → new ≡ finite.insert copy key ps
    → (q : Signature) → owns_with copy (own_rows left) q ≡ finite.get all q → owns_with new (own_rows rest) q ≡ finite.get all q
owns_next all copy new rest left g key own ps next same_key same put q so_far =
    ap (λ (f : Signature → Option (List Proc)). update_all same_signature f (own_rows rest) q)
    (λ i p. (ap (λ (m : Owns). finite.get m p) put ∙ finite.get-insert signature_total copy key ps p ∙ ap (λ b. cond b (Some ps) (finite.get copy p)) ((eq_by_cmp_equiv signature_total).symm p key)) i)
    ∙ (λ i. owns_with copy ((same_key i, same i) ∷ own_rows rest) q)
    ∙ ap (λ (t : List OwnRow). owns_with copy (own_rows t) q) (sym next)
    ∙ so_far

pub owns_copied : (all copy : Owns) (rest : List OwnRow) → rest ≡ [] → ((q : Signature) → owns_with copy (own_rows rest) q ≡ finite.get all q) → copy ≡ all
owns_copied all copy rest none so_far =
    finite.same_map signature_total signatures_exact copy all (λ q. ap (λ (t : List OwnRow). owns_with copy (own_rows t) q) (sym none) ∙ so_far q)
