-- The journals of a job's nodes are those of one group, and each is a replay.
use Rattle.std.proofs.Common.{◌≡◌, ◌⊎◌, ℕ, suc, ◌+◌, ◌<◌, ◌≤◌, ◌==◌, Bool, true, false, List, [], ◌∷◌, length, map, cond, inl, inr, refl, sym, ap, subst, ◌∙◌, arith}
use Rattle.std.proofs.lemmas.Bool.Decides.{nat_tests}
use Rattle.pmg_value.specs.Lists.{Each}
use Rattle.pmg_value.specs.declared.refusal.Refusal.{Refusal}
use Rattle.pmg_value.specs.declared.refusal.Refusal.TheVariants as refusals
use Rattle.pmg_jobinfo.specs.Jobs.{Jobs, AreJobs}
use Rattle.pmg_node.specs.Opening.{new_server}
use Rattle.pmg_journal.specs.Journals.{happened_in}
use Rattle.pmg_journal.specs.Replays.{IsReplay}
use Rattle.pmg_journal.specs.declared.journal.Journal.{Journal}
use Rattle.pmg_audit.specs.Faults.{AreOne, AreStale, IsFault}
use Rattle.pmg_audit.specs.OneRun.{IsOneRun}
use Rattle.pmg_audit.specs.Runs.{AreJournals, HasJournal, journal_at}
use Rattle.pmg_threads.specs.Running.{AreNodeJournals, FitFrom, IsFull, IsNodeJournal, IsRunRefusal, IsUnaudited}
use Rattle.pmg_threads.specs.declared.program.Report.{Report}
use Rattle.pmg_threads.specs.declared.program.Unaudited.{Unaudited}
use Rattle.pmg_launch.specs.Audited.{IsLaunchRefusal, IsOutcome}
use Rattle.pmg_launch.specs.declared.launch.Outcome.{Outcome}

same_number : (m n : ℕ) → (m == n) ≡ true → m ≡ n
same_number m n e = grind (arith, nat_tests)

other_number : (m n : ℕ) → (m == n) ≡ false → m ≡ n → ⊥
other_number m n e same = grind (arith, nat_tests)

-- a number from there on is the first one, or past it
from_there : (k n : ℕ) → k ≤ n → (n ≡ k) ⊎ (k + 1 ≤ n)
from_there k n low = by (n == k) refl
  where
    by : (b : Bool) → (n == k) ≡ b → (n ≡ k) ⊎ (k + 1 ≤ n)
    by true is = inl (same_number n k is)
    by false is = inr (let other : n ≡ k → ⊥ = other_number n k is in omega (arith, low, other))

module _ (jobs : Jobs) where
  -- each is of the group
  fit_group : (k : ℕ) (js : List Journal) → FitFrom (IsNodeJournal jobs) k js → Each (λ (j : Journal). j.registry ≡ jobs) js
  fit_group k [] fit = tt
  fit_group k (j ∷ js) fit = (fit.0.1, fit_group (k + 1) js fit.1)

  -- each node from there on has one
  fit_there : (k : ℕ) (js : List Journal) → FitFrom (IsNodeJournal jobs) k js → (n : ℕ) → k ≤ n → n < k + length js → HasJournal js n
  fit_there k [] fit n low high = absurd (omega (arith, low, high))
  fit_there k (j ∷ js) fit n low high = elim (from_there k n low) [
    | inl same ↦ (j, inl refl, fit.0.0 ∙ sym same)
    | inr more ↦
        let h : n < k + suc (length js) = high in
        let rest = fit_there (k + 1) js fit.1 n more (omega (arith, h)) in
        (rest.0, inr rest.1, rest.2)
  ]

  -- what is told of each node from there on is a replay
  fit_replay : (k : ℕ) (js : List Journal) → FitFrom (IsNodeJournal jobs) k js → (n : ℕ) → k ≤ n → n < k + length js → IsReplay (new_server jobs n) (journal_at js n)
  fit_replay k [] fit n low high = absurd (omega (arith, low, high))
  fit_replay k (j ∷ js) fit n low high = by (j.node == n) refl (λ more. let h : n < k + suc (length js) = high in fit_replay (k + 1) js fit.1 n more (omega (arith, h)))
    where
      later : (j.node == n) ≡ false → (n ≡ k) ⊎ (k + 1 ≤ n) → k + 1 ≤ n
      later is (inl same) = absurd (other_number j.node n is (fit.0.0 ∙ sym same))
      later is (inr more) = more

      by : (b : Bool) → (j.node == n) ≡ b → (k + 1 ≤ n → IsReplay (new_server jobs n) (journal_at js n)) → IsReplay (new_server jobs n) (cond b (happened_in j) (journal_at js n))
      by true is rest = subst (λ (m : ℕ). IsReplay (new_server jobs m) (happened_in j)) (same_number j.node n is) (subst (λ (g : Jobs). IsReplay (new_server g j.node) (happened_in j)) fit.0.1 fit.0.2)
      by false is rest = rest (later is (from_there k n low))

  -- they are the journals of the group
  are_journals : (js : List Journal) → AreNodeJournals jobs js → AreJournals jobs js
  are_journals js are = record {
    count = are.count;
    same = fit_group 0 js are.fit;
    there = λ n less. fit_there 0 js are.fit n (omega arith) (let h = are.count in omega (arith, less, h));
  }

-- journals that are there are of one group alone
one_group : (js : List Journal) (a b : Jobs) → 0 < length js → AreJournals a js → AreJournals b js → a ≡ b
one_group [] a b some first second = absurd (omega (arith, some))
one_group (j ∷ js) a b some first second = sym first.same.0 ∙ second.same.0

are_one : (js : List Journal) (jobs : Jobs) → 0 < length js → AreNodeJournals jobs js → AreOne js
are_one [] jobs some are = absurd (omega (arith, some))
are_one (j ∷ js) jobs some are = subst (λ (g : Jobs). AreJournals g (j ∷ js)) (sym are.fit.0.1) (are_journals jobs (j ∷ js) are)

not_stale : (js : List Journal) (jobs group : Jobs) → 0 < length js → AreNodeJournals jobs js → AreJournals group js → AreStale group js → ⊥
unfolding AreStale
not_stale js jobs group some are journals stale =
    let same : jobs ≡ group = one_group js jobs group some (are_journals jobs js are) journals in
    let less : stale.0 < length jobs.nodes = subst (λ (g : Jobs). stale.0 < length g.nodes) (sym same) stale.1 in
    let count = are.count in
    stale.2 (subst (λ (g : Jobs). IsReplay (new_server g stale.0) (journal_at js stale.0)) same (fit_replay jobs 0 js are.fit stale.0 (omega arith) (omega (arith, less, count))))

some_journals : (jobs : Jobs) (js : List Journal) → AreJobs jobs → AreNodeJournals jobs js → 0 < length js
some_journals jobs js group are = let some = group.some in let count = are.count in omega (arith, some, count)

-- a fault of the audit, of the journals and transcripts of a job that was run
pub launch_fault : (jobs : Jobs) (programs : ℕ) → IsFull jobs programs → (u : Unaudited) → IsUnaudited jobs u → (e : Refusal) → IsFault u.records.items u.transcripts.items e → IsLaunchRefusal jobs programs e
launch_fault jobs programs full u ran refusals.NoMemory fault = tt
launch_fault jobs programs full u ran refusals.Collision fault = full
launch_fault jobs programs full u ran refusals.Unordered fault = full
launch_fault jobs programs full u ran refusals.BadParam fault = absurd (fault (are_one u.records.items jobs (some_journals jobs u.records.items ran.jobs ran.journals) ran.journals))
launch_fault jobs programs full u ran refusals.Stale fault =
    absurd (not_stale u.records.items jobs fault.0 (some_journals jobs u.records.items ran.jobs ran.journals) ran.journals fault.1 fault.3)
launch_fault jobs programs full u ran e fault = absurd fault

-- a job that was not run
pub launch_refusal : (jobs : Jobs) (programs : ℕ) (e : Refusal) → IsRunRefusal jobs programs e → IsLaunchRefusal jobs programs e
launch_refusal jobs programs refusals.NoMemory is = tt
launch_refusal jobs programs refusals.BadParam is = is
launch_refusal jobs programs refusals.Closed is = is
launch_refusal jobs programs e is = absurd is

-- what comes of a job that was run and audited
pub launch_outcome : (jobs : Jobs) (u : Unaudited) → IsUnaudited jobs u → (o : Outcome) → o.reports ≡ u.reports → IsOneRun u.records.items u.transcripts.items o.run → IsOutcome jobs o
launch_outcome jobs u ran o same one = record {
  reports = ap (λ rs. map (λ (r : Report). r.proc) rs.items) same ∙ ran.told.reports;
  group = one_group u.records.items o.run.jobs jobs (some_journals jobs u.records.items ran.jobs ran.journals) one.journals (are_journals jobs u.records.items ran.journals);
  audited = record { journals = u.records.items; transcripts = u.transcripts.items; nodes = ran.journals; procs = ran.told.transcripts; one = one };
}
