-- The claims of clients about their events, some of them matched.
use Rattle.std.specs.Prelude.{◌≡◌, ℕ, zero, suc, true, false, List, [], ◌∷◌, map, Option, Some, None}
use Rattle.std.specs.BTreeMap.{is_at}
use Rattle.std.specs.Map.{lookup}
use Rattle.pmg_value.specs.Lists.{In, Each}
use Rattle.pmg_value.specs.Process.{proc_cmp}
use Rattle.pmg_value.specs.declared.process.Proc.{Proc}
use Rattle.pmg_fence.specs.Entering.{same_proc}
use Rattle.pmg_journal.specs.declared.transcript.Transcript.{Transcript}
use Rattle.pmg_audit.specs.Codes.{audited_put, rest_of, audited_due}
use Rattle.pmg_audit.specs.Dues.{Due, last_puts, dues_of}
use Rattle.pmg_audit.specs.Moves.{Put}
use Rattle.pmg_audit.specs.declared.moves.Saying.{Saying}

-- the saying holds the claims of the transcript
pub record IsSayingOf (s : Saying) (t : Transcript) : Type 0 where
  pub proc : s.proc ≡ t.proc
  pub dues : map audited_due s.dues.items ≡ dues_of t
  pub last : map audited_put s.last_puts.items ≡ last_puts t

-- each saying holds the claims of one transcript
unfoldable pub AreSayings : List Saying → List Transcript → Type 0
AreSayings [] [] = Unit {0}
AreSayings (s ∷ ss) (t ∷ ts) = IsSayingOf s t × AreSayings ss ts
AreSayings _ _ = ⊥

-- the processes of the sayings
abbrev pub sayers : List Saying → List Proc
sayers ss = map (λ (s : Saying). s.proc) ss

-- the saying's process, and its puts after its last event
abbrev pub last_of : Saying → Proc × List Put
last_of s = (s.proc, map audited_put s.last_puts.items)

-- the last puts of each saying
abbrev pub lasts_of : List Saying → List (Proc × List Put)
lasts_of ss = map last_of ss

-- the process is not in the list
abbrev pub IsAbsent : List Proc → Proc → Type 0
IsAbsent ps p = Each (λ q. same_proc p q ≡ false) ps

-- the process has its first place there
abbrev pub StandsAt : List Proc → Proc → ℕ → Type 0
StandsAt [] p k = ⊥
StandsAt (q ∷ ps) p zero = same_proc p q ≡ true
StandsAt (q ∷ ps) p (suc k) = (same_proc p q ≡ false) × StandsAt ps p k

-- no saying is of the process
abbrev pub NoneOf : List Saying → Proc → Type 0
NoneOf ss p = IsAbsent (sayers ss) p

-- the first saying of the process is at this place
abbrev pub IsPlace : List Saying → Proc → ℕ → Type 0
IsPlace ss p k = StandsAt (sayers ss) p k

-- the place of the process
abbrev pub place_at : List (Proc × ℕ) → Proc → Option ℕ
place_at rows p = lookup (is_at (proc_cmp p)) rows

-- the kept places are the first places of the processes
pub record ArePlaces (ps : List Proc) (rows : List (Proc × ℕ)) : Type 0 where
  pub found : (p : Proc) (k : ℕ) → place_at rows p ≡ Some k → StandsAt ps p k
  pub none : (p : Proc) → place_at rows p ≡ None → IsAbsent ps p

-- the next event that the process claims is this one, and it is matched
pub record TakesSaying (old : List Saying) (p : Proc) (d : Due) (new : List Saying) : Type 0 where
  pub here : rest_of old p ≡ d ∷ rest_of new p
  pub others : (q : Proc) → same_proc q p ≡ false → rest_of new q ≡ rest_of old q
  pub lasts : lasts_of new ≡ lasts_of old

-- some process has a claim that is not matched
abbrev pub SomeLeft : List Saying → Type 0
SomeLeft ss = (s : Saying) × In s ss × (s.dues.items ≡ [] → ⊥)
