-- The accepted calls of one process, and the puts that its commits sealed.
use Rattle.std.specs.Prelude.{ℕ, zero, suc, Bool, true, false, ◌&&◌, List, [], ◌∷◌, Option, Some, None, codes, if◌then◌else◌}
use Rattle.std.specs.Str.{bytes_eq}
use Rattle.pmg_value.specs.Signatures.{Signature}
use Rattle.pmg_scope.specs.declared.scope.Scope.{Scope}
use Rattle.pmg_scope.specs.declared.scope.Scope.TheVariants as scopes
use Rattle.pmg_scope.specs.declared.scope.Reach.{Reach}
use Rattle.pmg_scope.specs.Scopes.{reaches}

-- A call: a put of a key and a value's canonical bytes with a scope, a commit, the entry into a fence, the end of the
-- process (PMIx Standard 5.0, PMIx_Put, PMIx_Commit, PMIx_Fence, PMIx_Finalize).
pub data Call : Type 0 where
  put : Scope → List ℕ → List ℕ → Call
  commit : Call
  enter : Signature → Call
  terminate : Call

-- The calls in their order. Calls after an end do not count.
abbrev pub Script : Type 0
Script = List Call

-- the key under which others learn that a process ended
abbrev pub term_key : List ℕ
term_key = codes "pmix.term"

-- the put of the end, by which others learn of it: the key `pmix.term`, true, for all
abbrev pub term_put : Call
term_put = Call.put scopes.Global term_key (1 ∷ 1 ∷ [])

-- an end is among the calls
abbrev pub has_end : Script → Bool
has_end [] = false
has_end (Call.put scope key value ∷ cs) = has_end cs
has_end (Call.commit ∷ cs) = has_end cs
has_end (Call.enter f ∷ cs) = has_end cs
has_end (Call.terminate ∷ cs) = true

-- there is a commit before the end
abbrev pub has_commit : Script → Bool
has_commit [] = false
has_commit (Call.put scope key value ∷ cs) = has_commit cs
has_commit (Call.commit ∷ cs) = true
has_commit (Call.enter f ∷ cs) = has_commit cs
has_commit (Call.terminate ∷ cs) = false

-- the calls of a process that ends: without the puts after its last commit, and with a last commit that seals its end
abbrev pub ended : Script → Script
ended [] = []
ended (Call.put scope key value ∷ cs) = if has_commit cs then Call.put scope key value ∷ ended cs else ended cs
ended (Call.commit ∷ cs) = Call.commit ∷ ended cs
ended (Call.enter f ∷ cs) = Call.enter f ∷ ended cs
ended (Call.terminate ∷ cs) = term_put ∷ Call.commit ∷ []

-- the calls, with the additions and removals of an end
abbrev pub sealed : Script → Script
sealed s = if has_end s then ended s else s

-- the number of commits among the calls
abbrev pub count_commits : Script → ℕ
count_commits [] = 0
count_commits (Call.put scope key value ∷ cs) = count_commits cs
count_commits (Call.commit ∷ cs) = suc (count_commits cs)
count_commits (Call.enter f ∷ cs) = count_commits cs
count_commits (Call.terminate ∷ cs) = count_commits cs

-- the number of commits that the process made, with its end
abbrev pub commits : Script → ℕ
commits s = count_commits (sealed s)

-- the calls before the commit that follows n others
unfoldable pub before : ℕ → Script → Script
before n [] = []
before n (Call.put scope key value ∷ cs) = Call.put scope key value ∷ before n cs
before zero (Call.commit ∷ cs) = []
before (suc n) (Call.commit ∷ cs) = Call.commit ∷ before n cs
before n (Call.enter f ∷ cs) = Call.enter f ∷ before n cs
before n (Call.terminate ∷ cs) = Call.terminate ∷ before n cs

-- the calls before the n-th commit, and no calls for 0
abbrev pub prefix : Script → ℕ → Script
prefix s zero = []
prefix s (suc n) = before n (sealed s)

-- the later value if there is one, else the earlier
abbrev pub later_of : Option (List ℕ) → Option (List ℕ) → Option (List ℕ)
later_of (Some later) earlier = Some later
later_of None earlier = earlier

-- the value that the call puts under the key for that reach
abbrev pub put_of : Reach → List ℕ → Call → Option (List ℕ)
put_of r k (Call.put scope key value) = if reaches scope r && bytes_eq k key then Some value else None
put_of r k Call.commit = None
put_of r k (Call.enter f) = None
put_of r k Call.terminate = None

-- the last put under the key for that reach
abbrev pub last_put : Reach → List ℕ → Script → Option (List ℕ)
last_put r k [] = None
last_put r k (c ∷ cs) = later_of (last_put r k cs) (put_of r k c)

-- The value of the key for that reach that the n-th commit left: the last put before the commit whose scope includes the reach.
unfoldable pub value_at : Script → ℕ → Reach → List ℕ → Option (List ℕ)
value_at s n r k = last_put r k (prefix s n)
