-- What expansions keep, and whom the nodes have at home.
use Rattle.std.specs.Prelude.{ℕ, true, false, ◌≡◌, ◌⊎◌, ◌↔◌, List}
use Rattle.std.specs.List.{list_all}
use Rattle.std.specs.FinSet as set
use Rattle.pmg_value.specs.declared.process.Proc.{Proc}
use Rattle.pmg_value.specs.declared.refusal.Refusal.{Refusal}
use Rattle.pmg_value.specs.Lists.{In, SameItems}
use Rattle.pmg_value.specs.Process.{is_client}
use Rattle.pmg_jobinfo.specs.Expansion.{is_all, expansion}
use Rattle.pmg_jobinfo.specs.Jobs.{Jobs, AreJobs, home_of, is_member}
use Rattle.pmg_jobinfo.specs.Procs.{procs_at}
use Rattle.pmg_jobinfo.specs.Refusing.{expand_cause}

-- p in a list stands for q: q is of its namespace where p means all of it, and else is p
abbrev pub StandsFor : Jobs → Proc → Proc → Type 0
StandsFor jobs p q = ((is_all p ≡ true) × (q.nspace ≡ p.nspace) × (is_member jobs q ≡ true)) ⊎ ((is_all p ≡ false) × (q ≡ p))

-- an expansion has just those for whom one of the list stands
abbrev pub EachIsMeant : Type 0
EachIsMeant = (jobs : Jobs) (list : List Proc) (q : Proc) → (set.contains (expansion jobs list) q ≡ true) ↔ ((p : Proc) × In p list × StandsFor jobs p q)

-- the order of a list, and what stands in it twice, do not matter
abbrev pub OrderIsFree : Type 0
OrderIsFree = (jobs : Jobs) (xs ys : List Proc) → SameItems xs ys → expansion jobs xs ≡ expansion jobs ys

-- where a list gives no cause to be refused, each of its expansion is registered
abbrev pub EachIsMember : Type 0
EachIsMember = (jobs : Jobs) (list : List Proc) → ((e : Refusal) → expand_cause jobs list e ≡ false) → (q : Proc) → set.contains (expansion jobs list) q ≡ true → is_member jobs q ≡ true

-- each process of its namespace is listed at its home
abbrev pub OwnAreListed : Type 0
OwnAreListed = (jobs : Jobs) (node : ℕ) (p : Proc) → is_member jobs p ≡ true → home_of jobs p ≡ node → In p (procs_at jobs node)

-- each process that is listed at a node is one of its namespace, and at home there
abbrev pub ListedAreOwn : Type 0
ListedAreOwn = (jobs : Jobs) (node : ℕ) (p : Proc) → In p (procs_at jobs node) → (is_member jobs p ≡ true) × (home_of jobs p ≡ node)

-- each process that is listed at a node is one that a group may register
abbrev pub ListedAreClients : Type 0
ListedAreClients = (jobs : Jobs) (node : ℕ) → AreJobs jobs → list_all is_client (procs_at jobs node) ≡ true
