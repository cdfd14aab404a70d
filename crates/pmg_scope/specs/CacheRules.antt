-- The common growth of a cache and a script.
use Rattle.std.specs.Prelude.{◌≡◌, ℕ, suc, List, [], ◌∷◌, ◌++◌, false}
use Rattle.pmg_value.specs.Signatures.{Signature}
use Rattle.pmg_scope.specs.declared.scope.Scope.{Scope}
use Rattle.pmg_scope.specs.Scripts.{Call, Script, has_end, commits}
use Rattle.pmg_scope.specs.Sealing.{part_of, next_part}
use Rattle.pmg_scope.specs.Cached.{Cached, FitsCache, no_puts, with_put, after_commit}

-- a new cache fits a script without calls
abbrev pub CacheNewFits : Type 0
CacheNewFits = FitsCache no_puts []

-- a put goes into both
abbrev pub CachePutFits : Type 0
CachePutFits =
    (c : Cached) (s : Script) (scope : Scope) (key value : List ℕ) → FitsCache c s → FitsCache (with_put c scope key value) (s ++ Call.put scope key value ∷ [])

-- a commit takes the unsealed puts out of the cache
abbrev pub CacheCommitFits : Type 0
CacheCommitFits = (c : Cached) (s : Script) → FitsCache c s → FitsCache (after_commit c) (s ++ Call.commit ∷ [])

-- an entry into a fence changes no cache
abbrev pub CacheEnterFits : Type 0
CacheEnterFits = (c : Cached) (s : Script) (f : Signature) → FitsCache c s → FitsCache c (s ++ Call.enter f ∷ [])

-- nor does the end of the process: the process still reads its own puts, and the unsealed puts stay unsealed
abbrev pub CacheEndFits : Type 0
CacheEndFits = (c : Cached) (s : Script) → FitsCache c s → FitsCache c (s ++ Call.terminate ∷ [])

-- a script has one cache
abbrev pub CacheIsOne : Type 0
CacheIsOne = (c d : Cached) (s : Script) → FitsCache c s → FitsCache d s → c ≡ d

-- the cache has for others what the next commit seals
abbrev pub CommitSealsNext : Type 0
CommitSealsNext = (s : Script) → has_end s ≡ false → part_of (s ++ Call.commit ∷ []) (suc (commits s)) ≡ next_part s
