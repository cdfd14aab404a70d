-- The words of the command line, and the request that they make.
use Rattle.std.specs.Prelude.{◌≡◌, ◌⊎◌, ℕ, List, [], codes, true, Option, Some, None, if◌then◌else◌}
use Rattle.std.specs.Option.{option_map}
use Rattle.std.specs.Str.{bytes_eq}
use Rattle.clap.specs.Simple.{App, new_app, new_shape, with_subcommand, on_top, subcommand_of}
use Rattle.clap.specs.Walk.{Text}
use Rattle.clap.specs.Kinds.{IsAmong}
use Rattle.clap.specs.Faults.{fault_of}
use Rattle.clap.specs.declared.error.kind.ErrorKind.{ErrorKind}
use Rattle.clap.specs.declared.error.kind.ErrorKind.TheVariants.{DisplayHelp, DisplayVersion}
use Rattle.pmg_commands.specs.declared.command.Chosen.{Chosen}
use Rattle.pmg_commands.specs.declared.command.Chosen.TheVariants.{Dump, Merge, Replay, Run, Shown}

-- the program before its commands: it has a version, and wants a command
abbrev pub bare_program : App
bare_program = on_top (λ s. record s { has_version = true; subcommand_required = true }) (new_app (codes "pmixgroup"))

-- the program with another command, which takes no words
abbrev pub with_command : App → Text → App
with_command app name = with_subcommand app (new_shape name)

-- The program as `clap` reads it: its commands are `dump`, `merge`, `replay` and `run`.
abbrev pub program : App
program = with_command (with_command (with_command (with_command bare_program (codes "dump")) (codes "merge")) (codes "replay")) (codes "run")

-- the command that `clap` finds in the words, if it accepts them
abbrev pub command_in : List Text → Option Text
command_in words = option_map (λ p. p.0) (subcommand_of program words)

-- the command of a name; a missing or unknown name is a usage fault
abbrev pub chosen_of : Option Text → Chosen
chosen_of None = Shown 2
chosen_of (Some name) =
    if bytes_eq name (codes "dump") then Dump
    else if bytes_eq name (codes "merge") then Merge
    else if bytes_eq name (codes "replay") then Replay
    else if bytes_eq name (codes "run") then Run else Shown 2

-- the status of a line that asks for help or the version, and of a line that is not understood
abbrev pub shown_status : ErrorKind → ℕ
shown_status DisplayHelp = 0
shown_status DisplayVersion = 0
shown_status _ = 2

-- the words name the chosen command, and `clap` finds no fault in them
abbrev pub IsNamed : List Text → Chosen → Type 0
IsNamed words chosen = (fault_of program words ≡ []) × (chosen_of (command_in words) ≡ chosen)

-- The words make this request: the request of their command, if `clap` finds no fault in them; else the request that the fault gives.
abbrev pub IsChosen : List Text → Chosen → Type 0
IsChosen words Dump = IsNamed words Dump
IsChosen words Merge = IsNamed words Merge
IsChosen words Replay = IsNamed words Replay
IsChosen words Run = IsNamed words Run
IsChosen words (Shown status) = ((kind : ErrorKind) × IsAmong kind (fault_of program words) × (status ≡ shown_status kind)) ⊎ IsNamed words (Shown status)

-- a shown text has the status 0 or 2
abbrev pub HasStatus : Chosen → Type 0
HasStatus Dump = Unit {0}
HasStatus Merge = Unit {0}
HasStatus Replay = Unit {0}
HasStatus Run = Unit {0}
HasStatus (Shown status) = (status ≡ 0) ⊎ (status ≡ 2)
