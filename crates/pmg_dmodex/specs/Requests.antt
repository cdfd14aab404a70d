-- Requests for commits of processes: those that were sent, and those of other nodes that wait.
use Rattle.std.specs.Prelude.{ℕ, Bool, false, List, Option, Some, None, nat_le, nat_lt, refl, if◌then◌else◌}
use Rattle.std.specs.FinMap as finite
use Rattle.std.specs.Coded.{Coded, code_by, coded×, coded_ℕ}
use Rattle.pmg_value.specs.declared.process.Proc.{Proc}
use Rattle.pmg_value.specs.Process.{proc_cmp, coded_proc}
use Rattle.pmg_dmodex.specs.Levels.{Levels, coded_levels, levels_of, node_level, with_level, below, without_below}
use Rattle.pmg_dmodex.specs.Refreshes.{Refreshes, coded_refreshes, no_refreshes}

-- the level at which each of some processes' homes was asked for its commits
abbrev pub Asked : Type 0
Asked = finite.FinMap proc_cmp ℕ

-- the code of levels at which homes were asked
abbrev pub coded_asked : Coded Asked
coded_asked = finite.code coded_proc coded_ℕ

-- The level that was named last when a process's home was asked for its commits; the nodes that wait for a process's
-- commits, each with the level that it knows; and the requests for commits that are asked for anew.
pub record Requests : Type 0 where
  pub asked : Asked
  pub held : Levels
  pub anew : Refreshes

-- requests as pairs
abbrev pub coded_requests : Coded Requests
coded_requests =
    code_by (Asked × (Levels × Refreshes)) (coded× coded_asked (coded× coded_levels coded_refreshes))
    (λ r. (r.asked, (r.held, r.anew))) (λ p. record { asked = p.0; held = p.1.0; anew = p.1.1 }) (λ _. refl)

-- nothing was asked for, and no node waits
abbrev pub no_requests : Requests
no_requests = record { asked = finite.empty; held = finite.empty; anew = no_refreshes }

-- the requests, of gets that ask anew these
abbrev pub with_anew : Requests → Refreshes → Requests
with_anew r anew = record { asked = r.asked; held = r.held; anew = anew }

-- the lesser, where there is one already
abbrev pub least : Option ℕ → ℕ → ℕ
least None n = n
least (Some m) n = if nat_le m n then m else n

-- the greater, where there is one already
abbrev pub greatest : Option ℕ → ℕ → ℕ
greatest None n = n
greatest (Some m) n = if nat_le n m then m else n

-- the process's home was asked at the level: the greatest counts
abbrev pub asking : Requests → Proc → ℕ → Requests
asking r p level = record { asked = finite.insert r.asked p (greatest (finite.get r.asked p) level); held = r.held; anew = r.anew }

-- the node waits for commits of the process past the level: the least counts
abbrev pub holding : Requests → ℕ → Proc → ℕ → Requests
holding r node p level = record { asked = r.asked; held = with_level r.held p node (least (node_level r.held p node) level); anew = r.anew }

-- the nodes that wait for a commit that the level has, with the levels that they know, by node
abbrev pub due : Requests → Proc → ℕ → List (ℕ × ℕ)
due r p level = below level (levels_of r.held p)

-- there is a number, and it is below that one
abbrev pub is_below : Option ℕ → ℕ → Bool
is_below None n = false
is_below (Some m) n = nat_lt m n

-- the process has come to the level: what waited for that no longer does
abbrev pub requests_settled : Requests → Proc → ℕ → Requests
requests_settled r p level = record {
  asked = if is_below (finite.get r.asked p) level then finite.remove r.asked p else r.asked;
  held = without_below r.held p level;
  anew = r.anew;
}
