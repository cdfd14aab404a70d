-- What journals tell of each node, and how that stays as events are taken out of one.
use Rattle.std.specs.Prelude.{IfSome}
use Rattle.std.proofs.Common.{◌≡◌, ◌<◌, ℕ, zero, suc, Bool, true, false, ◌==◌, ◌+◌, cond, List, [], ◌∷◌, length, get_or, set, drop, Option, Some, slice_get, refl, sym, ap, subst, ◌∙◌, arith}
use Rattle.std.proofs.lemmas.Bool.Decides.{nat_tests}
use Rattle.std.proofs.lemmas.List.{drop_more}
use Rattle.std.proofs.lemmas.Option.{slice_get-get_or}
use Rattle.pmg_jobinfo.specs.Jobs.{Jobs}
use Rattle.pmg_node.specs.Opening.{new_server}
use Rattle.pmg_node.specs.Servers.{Server}
use Rattle.pmg_journal.specs.Journals.{happened_in, start_of}
use Rattle.pmg_journal.specs.Records.{IsEvidence}
use Rattle.pmg_journal.specs.Replays.{Happening}
use Rattle.pmg_journal.specs.declared.journal.Journal.{Journal}
use Rattle.pmg_journal.specs.declared.record.Evidence.{Evidence}
use Rattle.pmg_audit.specs.Replaying.{AreOf, IsJournalOf}
use Rattle.pmg_audit.specs.Runs.{journal_at}

same_number : (m n : ℕ) → (m == n) ≡ true → m ≡ n
same_number m n e = grind (arith, nat_tests)

-- what is told of a node from a journal on is that journal's, where it is the node's, and else what is told after it
pub told_from : (js : List Journal) (i n : ℕ) (j : Journal) (b : Bool) → (j.node == n) ≡ b → i < length js → j ≡ get_or js i j
    → cond b (happened_in j) (journal_at (drop (i + 1) js) n) ≡ journal_at (drop i js) n
told_from js i n j b test inside is =
    sym (ap (λ b. cond b (happened_in j) (journal_at (drop (i + 1) js) n)) test)
    ∙ ap (λ (x : Journal). journal_at (x ∷ drop (i + 1) js) n) is ∙ ap (λ (l : List Journal). journal_at l n) (sym (drop_more js i j inside))

-- a journal of the node, before which none is
pub journal_there : (js : List Journal) (i n : ℕ) (j : Journal) → (j.node == n) ≡ true → i < length js → j ≡ get_or js i j → journal_at (drop i js) n ≡ journal_at js n → IsJournalOf js n i
journal_there js i n j test inside is before = record {
  journal = j;
  there = slice_get-get_or js i j inside ∙ ap Some (sym is);
  node = same_number j.node n test;
  tells = told_from js i n j true test inside is ∙ before;
}

other_node : (a m n : ℕ) → a ≡ n → (m ≡ n → ⊥) → (a == m) ≡ false
other_node a m n is apart = by (a == m) refl
  where
    by : (b : Bool) → (a == m) ≡ b → b ≡ false
    by true e = absurd (apart (sym (same_number a m e) ∙ is))
    by false e = refl

-- of other nodes the journals tell the same, whatever the node's journal tells
pub others_told : (js : List Journal) (k n : ℕ) (j j2 : Journal) → slice_get js k ≡ Some j → j.node ≡ n → j2.node ≡ n → (m : ℕ) → (m ≡ n → ⊥) → journal_at (set js k j2) m ≡ journal_at js m
others_told [] k n j j2 there is is2 m apart = absurd cc
others_told (y ∷ js) zero n j j2 there is is2 m apart =
    let same : y ≡ j = cc in
    ap (λ b. cond b (happened_in j2) (journal_at js m)) (other_node j2.node m n is2 apart)
    ∙ sym (ap (λ b. cond b (happened_in y) (journal_at js m)) (other_node y.node m n (ap (λ (x : Journal). x.node) same ∙ is) apart))
others_told (y ∷ js) (suc k) n j j2 there is is2 m apart = ap (cond (y.node == m) (happened_in y)) (others_told js k n j j2 there is is2 m apart)

-- ---- journals of one group

pub of_at : (jobs : Jobs) (js : List Journal) (k : ℕ) (j : Journal) → slice_get js k ≡ Some j → AreOf jobs js → j.registry ≡ jobs
of_at jobs [] k j there of = absurd cc
of_at jobs (y ∷ js) zero j there of =
    let same : y ≡ j = cc in
    ap (λ (x : Journal). x.registry) (sym same) ∙ of.0
of_at jobs (y ∷ js) (suc k) j there of = of_at jobs js k j there of.1

-- whatever one of them tells
pub of_still : (jobs : Jobs) (js : List Journal) (k : ℕ) (j : Journal) → j.registry ≡ jobs → AreOf jobs js → AreOf jobs (set js k j)
of_still jobs [] k j is of = tt
of_still jobs (y ∷ js) zero j is of = (is, of.1)
of_still jobs (y ∷ js) (suc k) j is of = (of.0, of_still jobs js k j is of.1)

-- evidence of the node's journal is evidence of what is told of the node
pub evidence_there : (jobs : Jobs) (js : List Journal) (n k : ℕ) (of : IsJournalOf js n k) (j : Journal) → j ≡ of.journal → AreOf jobs js → (o : Option Evidence)
    → IfSome o (IsEvidence (start_of j) (happened_in j)) → IfSome o (IsEvidence (new_server jobs n) (journal_at js n))
evidence_there jobs js n k of j same all o evidence =
    let registry : j.registry ≡ jobs = ap (λ (x : Journal). x.registry) same ∙ of_at jobs js k of.journal of.there all in
    let node : j.node ≡ n = ap (λ (x : Journal). x.node) same ∙ of.node in
    subst (λ (es : List Happening). IfSome o (IsEvidence (new_server jobs n) es)) (ap happened_in same ∙ of.tells)
    (subst (λ (s : Server). IfSome o (IsEvidence s (happened_in j))) (λ i. new_server (registry i) (node i)) evidence)
