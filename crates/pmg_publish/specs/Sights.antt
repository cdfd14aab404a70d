-- The result of a read of a process under a key.
use Rattle.std.specs.Prelude.{◌≡◌, List, ℕ, is_some}
use Rattle.std.specs.Option.{option_map}
use Rattle.pmg_value.specs.declared.process.Proc.{Proc}
use Rattle.pmg_value.specs.Spelling.{spelling}
use Rattle.pmg_scope.specs.Scripts.{term_key}
use Rattle.pmg_commit.specs.Data.{Data, read_at}
use Rattle.pmg_publish.specs.declared.sight.FarSnapshot.{FarSnapshot}
use Rattle.pmg_publish.specs.declared.sight.Snapshot.{Snapshot}

-- the values under the key in the near and in the far store, and whether the process has ended in each
abbrev pub IsSight : Data → Data → Proc → List ℕ → Snapshot → Type 0
IsSight near far p key s =
    (option_map spelling s.near ≡ read_at near p key)
    × (option_map spelling s.far ≡ read_at far p key)
    × (s.near_ended ≡ is_some (read_at near p term_key))
    × (s.far_ended ≡ is_some (read_at far p term_key))

-- the value under the key in the far store, and whether the process has ended there
abbrev pub IsFarSight : Data → Proc → List ℕ → FarSnapshot → Type 0
IsFarSight far p key s = (option_map spelling s.value ≡ read_at far p key) × (s.ended ≡ is_some (read_at far p term_key))
