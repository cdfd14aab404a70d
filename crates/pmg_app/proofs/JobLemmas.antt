-- What comes of a job that is read from bytes that may be known.
use Rattle.std.proofs.Common.{◌≡◌, ℕ, ◌+◌, ◌-◌, min, arith, Bool, true, false, nat_le, List, length, Option, Some, None, Result, Ok, Err, inl, inr, refl, sym, ap, subst, ◌∙◌}
use Rattle.std.specs.Prelude.{IfErr, IfOk, IfSome, if◌then◌else◌}
use Rattle.std.proofs.lemmas.Grind.{common_steps}
use Rattle.pmg_value.specs.declared.refusal.Refusal.{Refusal}
use Rattle.pmg_value.specs.declared.refusal.Refusal.TheVariants as refusals
use Rattle.pmg_store.specs.declared.failure.Failure.{Failure}
use Rattle.pmg_store.specs.declared.failure.Failure.TheVariants as failures
use Rattle.pmg_store.specs.declared.input.TheConstants.{INPUT_LIMIT}
use Rattle.pmg_store.specs.Input.{input_of, too_much_input}
use Rattle.pmg_store.specs.Outcomes.{FailsInput, or_failure}
use Rattle.pmg_store.proofs.OutcomeLemmas.{ok_is}
use Rattle.pmg_jobinfo.specs.Jobs.{Jobs}
use Rattle.pmg_jobinfo.specs.Procs.{all_procs}
use Rattle.pmg_jobfile.specs.Reading.{GivesJob}
use Rattle.pmg_launch.specs.Audited.{IsLaunchRefusal, IsOutcome}
use Rattle.pmg_launch.specs.declared.launch.Outcome.{Outcome}
use Rattle.pmg_app.specs.Job.{FailsJob, IsOutcomeOf}

taken_whole : (fits : Bool) (bytes text : List ℕ) → (if fits then Ok bytes else Err too_much_input) ≡ Ok text → bytes ≡ text
taken_whole true bytes text is = cc
taken_whole false bytes text is = absurd cc

-- what was read is the whole input
read_whole : (bytes text : List ℕ) → or_failure (input_of bytes) ≡ Ok text → bytes ≡ text
read_whole bytes text is = taken_whole (nat_le (length bytes) INPUT_LIMIT) bytes text (ok_is (input_of bytes) text is)

-- what holds of the text that was read holds of the bytes, where they are known
known_text : (P : List ℕ → Type 0) (known : Option (List ℕ)) (text : List ℕ) → IfSome known (λ bytes. or_failure (input_of bytes) ≡ Ok text) → P text → IfSome known P
known_text P None text read holds = tt
known_text P (Some bytes) text read holds = subst P (sym (read_whole bytes text read)) holds

-- the outcome of the text that was read is the outcome of the bytes
pub known_outcome : (known : Option (List ℕ)) (text : List ℕ) (o : Outcome) → IfSome known (λ bytes. or_failure (input_of bytes) ≡ Ok text) → IsOutcomeOf (Some text) o →
    IsOutcomeOf known o
known_outcome known text o read of = record {
  jobs = of.jobs;
  described = known_text (λ t. GivesJob t (Ok of.jobs)) known text read of.described;
  outcome = of.outcome;
}

-- so is its refusal
pub known_refusal : (known : Option (List ℕ)) (text : List ℕ) (programs : ℕ) (e : Refusal) → IfSome known (λ bytes. or_failure (input_of bytes) ≡ Ok text) →
    FailsJob (Some text) programs (failures.Refused e) → FailsJob known programs (failures.Refused e)
known_refusal known text programs e read (inl fails) = inl (known_text (λ t. FailsInput (failures.Refused e) (or_failure (input_of t))) known text read fails)
known_refusal known text programs e read (inr (inl refused)) = inr (inl (known_text (λ t. GivesJob t (Err e)) known text read refused))
known_refusal known text programs e read (inr (inr run)) = inr (inr (record {
  jobs = run.jobs;
  described = known_text (λ t. GivesJob t (Ok run.jobs)) known text read run.described;
  refusal = run.refusal;
}))

-- an allocation may fail at any time
pub lacks_memory : (known : Option (List ℕ)) (programs : ℕ) → FailsJob known programs (failures.Refused refusals.NoMemory)
lacks_memory None programs = inl tt
lacks_memory (Some text) programs = inl (inl (inl refl))

-- the text was not read
pub unread : (known : Option (List ℕ)) (programs : ℕ) (failure : Failure) → IfSome known (λ text. FailsInput failure (or_failure (input_of text))) → FailsJob known programs failure
unread known programs (failures.Refused e) fails = inl fails
unread known programs (failures.InStream stream fault) fails = fails
unread known programs failures.Read fails = fails
unread known programs failures.Write fails = fails

-- a job that was run has the outcome of the text that describes it
pub outcome_of : (r : Result Outcome Refusal) (text : List ℕ) (jobs : Jobs) → GivesJob text (Ok jobs) → IfOk r (IsOutcome jobs) → IfOk r (IsOutcomeOf (Some text))
outcome_of (Ok o) text jobs described is = record { jobs = jobs; described = described; outcome = is }
outcome_of (Err e) text jobs described is = tt

-- the programs that are left where no more than n are kept
fewer : (left programs n : ℕ) → left + (programs - n) ≡ programs → left ≡ min programs n
fewer left programs n is = grind (arith, common_steps)

-- a job that was refused as it was run or audited
pub refusal_of : (r : Result Outcome Refusal) (text : List ℕ) (jobs : Jobs) (programs left n : ℕ) → n ≡ length (all_procs jobs) → left + (programs - n) ≡ programs →
    GivesJob text (Ok jobs) → IfErr r (IsLaunchRefusal jobs left) → IfErr r (λ e. FailsJob (Some text) programs (failures.Refused e))
refusal_of (Ok o) text jobs programs left n count cut described refused = tt
refusal_of (Err e) text jobs programs left n count cut described refused = inr (inr (record {
  jobs = jobs;
  described = described;
  refusal = subst (λ m. IsLaunchRefusal jobs m e) (fewer left programs n cut ∙ ap (min programs) count) refused;
}))
