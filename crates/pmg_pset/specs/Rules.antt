-- How the sets go on with the host's script, and who reads them.
use Rattle.std.specs.Prelude.{◌≡◌, ℕ, List, [], ◌∷◌, ◌++◌, Some, None, if◌then◌else◌}
use Rattle.std.specs.Option.{option_map}
use Rattle.std.specs.FinMap as finite
use Rattle.std.specs.List.Sorted.{IsStrictlySortedBy}
use Rattle.std.specs.Str.{bytes_eq}
use Rattle.pmg_value.specs.Lists.{Each, SameItems}
use Rattle.pmg_value.specs.declared.process.Proc.{Proc}
use Rattle.pmg_value.specs.Process.{proc_cmp}
use Rattle.pmg_scope.specs.declared.scope.Reach.TheVariants as reach
use Rattle.pmg_scope.specs.Scripts.{Script}
use Rattle.pmg_commit.specs.Honest.{IsHonest, known_from}
use Rattle.pmg_commit.specs.Knowledge.{Contribution, read}
use Rattle.pmg_commit.specs.Levels.{level}
use Rattle.pmg_commit.specs.Sealed.{Sealed, fresh, piece_at}
use Rattle.pmg_commit.specs.SealerRules.{FitsSealer}
use Rattle.pmg_pset.specs.Changes.{Change, script_of}
use Rattle.pmg_pset.specs.Members.{each_once, proc_bytes, no_members, live_of}
use Rattle.pmg_pset.specs.Sets.{host, set_changed, live_at}

-- new sets fit the script of no change
abbrev pub NewSetsFit : Type 0
NewSetsFit = FitsSealer (fresh host) (script_of [])

-- a change goes into both
abbrev pub ChangeFits : Type 0
ChangeFits = (z : Sealed) (cs : List Change) (c : Change) → FitsSealer z (script_of cs) → FitsSealer (set_changed z c.name c.bytes) (script_of (cs ++ c ∷ []))

-- a change is seen under its own name, and under no other
abbrev pub ChangeIsSeen : Type 0
ChangeIsSeen = (z : Sealed) (name bytes q : List ℕ) → live_at (set_changed z name bytes) q ≡ (if bytes_eq q name then live_of bytes else live_at z q)

-- so a name is live that was defined
abbrev pub DefinedIsLive : Type 0
DefinedIsLive = (z : Sealed) (name : List ℕ) (p : Proc) (ps : List Proc) → live_at (set_changed z name (proc_bytes (p ∷ ps))) name ≡ Some (proc_bytes (p ∷ ps))

-- and is not that was deleted
abbrev pub DeletedIsNot : Type 0
DeletedIsNot = (z : Sealed) (name : List ℕ) → live_at (set_changed z name no_members) name ≡ None

-- Whoever took contributions of the host's process to the level of the sets reads what was put last under each name.
abbrev pub ReadsAreSets : Type 0
ReadsAreSets =
    (z : Sealed) (s : Script) (cs : List Contribution) → FitsSealer z s → Each (IsHonest s reach.Far) cs → level (known_from cs).numbers ≡ z.level
    → (name : List ℕ) → read (known_from cs) name ≡ option_map (λ stamp. stamp.bytes) (finite.get z.far name)

-- and the one piece of all commits is enough
abbrev pub OnePieceIsEnough : Type 0
OnePieceIsEnough =
    (z : Sealed) (s : Script) → FitsSealer z s → (name : List ℕ)
    → read (known_from (piece_at z 0 reach.Far ∷ [])) name ≡ option_map (λ stamp. stamp.bytes) (finite.get z.far name)

-- the members of a set rise
abbrev pub MembersRise : Type 0
MembersRise = (list : List Proc) → IsStrictlySortedBy proc_cmp (each_once list)

-- and are those of the list
abbrev pub MembersAreListed : Type 0
MembersAreListed = (list : List Proc) → SameItems (each_once list) list

-- so the order of a list, and what stands in it twice, do not matter
abbrev pub MemberOrderIsFree : Type 0
MemberOrderIsFree = (xs ys : List Proc) → SameItems xs ys → each_once xs ≡ each_once ys
