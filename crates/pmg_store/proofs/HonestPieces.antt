-- Stores of honest pieces read honestly.
use Rattle.std.proofs.Common.{◌≡◌, Bool, true, false, cond, List, [], ◌∷◌, refl, sym, ap, ◌∙◌}
use Rattle.std.specs.List.{filter}
use Rattle.pmg_value.specs.Lists.{Each}
use Rattle.pmg_value.proofs.SetLemmas.{union_empty}
use Rattle.std.proofs.lemmas.Cmp.{nat_cmp_total}
use Rattle.std.specs.FinMap.{nat_cmp-IsAntisymmetric}
use Rattle.pmg_commit.specs.EntryOrder.{entries_total, exact_entries}
use Rattle.pmg_value.specs.declared.process.Proc.{Proc}
use Rattle.pmg_scope.specs.declared.scope.Reach.{Reach}
use Rattle.pmg_scope.specs.Scripts.{Script, value_at}
use Rattle.pmg_commit.specs.Knowledge.{Contribution, Knowledge, nothing, union, knowledge_of, read}
use Rattle.pmg_commit.specs.Levels.{level}
use Rattle.pmg_commit.specs.Honest.{IsHonest, known_from}
use Rattle.pmg_commit.proofs.HonestLaws.{honest_reading}
use Rattle.pmg_store.specs.Pieces.{is_of, pieces_told}
use Rattle.pmg_store.specs.HonestStores.{AreHonest, StoreReadsHonestly, EqualStoresReadAlike}
use Rattle.pmg_store.proofs.Telling.{level-told, read-told}

nothing_more : (k : Knowledge) → union nothing k ≡ k
nothing_more k = λ i. record {
  numbers = union_empty nat_cmp_total nat_cmp-IsAntisymmetric k.numbers i;
  entries = union_empty entries_total exact_entries k.entries i;
}

one_told : (c : Contribution) (cs : List Contribution) (k : Knowledge) (b : Bool) → k ≡ known_from cs → union (cond b (knowledge_of c) nothing) k ≡ known_from (cond b (c ∷ cs) cs)
one_told c cs k true e = ap (union (knowledge_of c)) e
one_told c cs k false e = nothing_more k ∙ e

told_from : (p : Proc) (cs : List Contribution) → pieces_told p cs ≡ known_from (filter (is_of p) cs)
told_from p [] = refl
told_from p (c ∷ cs) = one_told c (filter (is_of p) cs) (pieces_told p cs) (is_of p c) (told_from p cs)

each_first : (P : Contribution → Type 0) (c : Contribution) (cs : List Contribution) (b : Bool) → (b ≡ true → P c) → Each P cs → Each P (cond b (c ∷ cs) cs)
each_first P c cs true own others = (own refl, others)
each_first P c cs false own others = others

honest_own : (s : Script) (r : Reach) (p : Proc) (cs : List Contribution) → AreHonest s r p cs → Each (IsHonest s r) (filter (is_of p) cs)
honest_own s r p [] h = tt
honest_own s r p (c ∷ cs) h = each_first (IsHonest s r) c (filter (is_of p) cs) (is_of p c) h.0 (honest_own s r p cs h.1)

pub store_reads_honestly : StoreReadsHonestly
store_reads_honestly s r p pieces h key =
    let told = told_from p pieces in
    read-told p pieces key
    ∙ ap (λ k. read k key) told
    ∙ honest_reading s r (filter (is_of p) pieces) (honest_own s r p pieces h) key
    ∙ ap (λ n. value_at s n r key) (ap (λ (k : Knowledge). level k.numbers) (sym told) ∙ sym (level-told p pieces))

pub equal_levels_read_alike : EqualStoresReadAlike
equal_levels_read_alike s r p xs ys a b same key =
    store_reads_honestly s r p xs a key ∙ ap (λ n. value_at s n r key) same ∙ sym (store_reads_honestly s r p ys b key)
