-- What a job's description says, and where it is refused.
use Rattle.std.specs.Prelude.{ℕ, Bool, false, ◌||◌, not, nat_lt, List, [], ◌∷◌, length, map, Result, Ok, Err, refl}
use Rattle.std.specs.List.{sum_by}
use Rattle.std.specs.Coded.{Coded, code_by, coded×, coded_list, coded_ℕ}
use Rattle.pmg_value.specs.declared.refusal.Refusal.{Refusal}
use Rattle.pmg_value.specs.declared.refusal.Refusal.TheVariants as refusals
use Rattle.pmg_value.specs.CheckOrder.{first_of}
use Rattle.pmg_jobinfo.specs.Jobs.{Jobs, opened, registered}
use Rattle.pmg_jobinfo.specs.Refusing.{are_distinct, new_cause, register_cause}
use Rattle.pmg_jobfile.specs.declared.job.TheConstants.{MAX_JOB_NODES, MAX_JOB_PROCS}
use Rattle.pmg_jobinfo.specs.declared.registry.TheConstants.{MAX_SPACES}

-- A namespace of a job: its name, and the node of each of its processes, by rank.
pub record Space : Type 0 where
  pub name : List ℕ
  pub homes : List ℕ

-- a namespace as a pair
abbrev pub coded_space : Coded Space
coded_space =
    code_by (List ℕ × List ℕ) (coded× (coded_list coded_ℕ) (coded_list coded_ℕ)) (λ s. (s.name, s.homes))
    (λ p. record { name = p.0; homes = p.1 }) (λ _. refl)

-- What is described: the names of the nodes, and the namespaces in the order of the description.
pub record Described : Type 0 where
  pub nodes : List (List ℕ)
  pub spaces : List Space

-- how many processes the namespaces have
abbrev pub proc_count : List Space → ℕ
proc_count spaces = sum_by (λ s. length s.homes) spaces

-- what the value is answered with, where there is one
abbrev pub next : {X Y : Type 0} → (X → Result Y Refusal) → Result X Refusal → Result Y Refusal
next f (Ok x) = f x
next f (Err e) = Err e

-- the jobs with one more namespace, where it may be registered
abbrev pub with_space : Jobs → Space → Result Jobs Refusal
with_space jobs s = first_of (register_cause jobs s.name s.homes) (registered jobs s.name s.homes)

-- the jobs with these namespaces too, registered one after another
unfoldable pub with_spaces : Jobs → List Space → Result Jobs Refusal
with_spaces jobs [] = Ok jobs
with_spaces jobs (s ∷ ss) = next (λ more. with_spaces more ss) (with_space jobs s)

-- Where a described job has a cause to be refused. What each namespace has to meet by itself was looked at when it was
-- read. A job has at most 8 nodes, 16 namespaces and 32 processes.
abbrev pub job_cause : Described → Refusal → Bool
job_cause job refusals.BadParam = new_cause job.nodes refusals.BadParam
job_cause job refusals.Exists = not (are_distinct (map (λ s. s.name) job.spaces))
job_cause job refusals.TooMany = nat_lt MAX_JOB_NODES (length job.nodes) || (nat_lt MAX_SPACES (length job.spaces) || nat_lt MAX_JOB_PROCS (proc_count job.spaces))
job_cause job _ = false

-- what a described job is answered with
abbrev pub judged : Described → Result Jobs Refusal
judged job = next (λ jobs. with_spaces jobs job.spaces) (first_of (job_cause job) (opened job.nodes))
