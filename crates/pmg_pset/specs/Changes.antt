-- The changes of the sets, as the host's process makes them.
use Rattle.std.specs.Prelude.{ℕ, List, [], ◌∷◌}
use Rattle.pmg_value.specs.declared.process.Proc.{Proc}
use Rattle.pmg_scope.specs.declared.scope.Scope.TheVariants as scopes
use Rattle.pmg_scope.specs.Scripts.{Call, Script}
use Rattle.pmg_pset.specs.Members.{each_once, proc_bytes, no_members}

-- a definition or a deletion: the set's name, and the canonical bytes of the array of its members, of none where it is deleted
pub record Change : Type 0 where
  pub name : List ℕ
  pub bytes : List ℕ

-- the definition of a set of these processes
abbrev pub definition : List ℕ → List Proc → Change
definition name list = record { name = name; bytes = proc_bytes (each_once list) }

-- the deletion of a set
abbrev pub deletion : List ℕ → Change
deletion name = record { name = name; bytes = no_members }

-- the host's calls, where these changes are made: for each of them one put with PMIX_GLOBAL, and a commit
abbrev pub script_of : List Change → Script
script_of [] = []
script_of (c ∷ cs) = Call.put scopes.Global c.name c.bytes ∷ Call.commit ∷ script_of cs
