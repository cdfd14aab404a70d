-- Requests for commits that are asked for anew, under numbers.
use Rattle.std.specs.Prelude.{ℕ, suc, Option, Some, None, is_some, refl, if◌then◌else◌}
use Rattle.std.specs.FinMap as finite
use Rattle.std.specs.Ordering.{nat_cmp, eq_by_cmp}
use Rattle.std.specs.Coded.{Coded, code_by, coded×, coded_ℕ}
use Rattle.pmg_value.specs.declared.process.Proc.{Proc}
use Rattle.pmg_value.specs.Process.{proc_cmp, coded_proc}

-- who asks, and for whose commits, by the number of the request
abbrev pub Numbered : Type 0
Numbered = finite.FinMap nat_cmp (Proc × Proc)

-- the code of requests by number
abbrev pub coded_numbered : Coded Numbered
coded_numbered = finite.code coded_ℕ (coded× coded_proc coded_proc)

-- The number of the last request that was given one; and of each that is not answered who asks, and for whose commits.
pub record Refreshes : Type 0 where
  pub last : ℕ
  pub waiting : Numbered

-- such requests as a pair
abbrev pub coded_refreshes : Coded Refreshes
coded_refreshes =
    code_by (ℕ × Numbered) (coded× coded_ℕ coded_numbered) (λ r. (r.last, r.waiting))
    (λ p. record { last = p.0; waiting = p.1 }) (λ _. refl)

-- none was made
abbrev pub no_refreshes : Refreshes
no_refreshes = record { last = 0; waiting = finite.empty }

-- the asker asks for the target's commits under the next number
abbrev pub requested : Refreshes → Proc → Proc → Refreshes
requested r asker target = record { last = suc r.last; waiting = finite.insert r.waiting (suc r.last) (asker, target) }

-- who asks, where it is for commits of the target
abbrev pub asker_for : Proc → Option (Proc × Proc) → Option Proc
asker_for target None = None
asker_for target (Some asked) = if eq_by_cmp proc_cmp asked.1 target then Some asked.0 else None

-- who asks for the target's commits under the number
abbrev pub asker_at : Refreshes → ℕ → Proc → Option Proc
asker_at r number target = asker_for target (finite.get r.waiting number)

-- that request is answered
abbrev pub answered : Refreshes → ℕ → Proc → Refreshes
answered r number target =
    if is_some (asker_at r number target) then record { last = r.last; waiting = finite.remove r.waiting number } else r
