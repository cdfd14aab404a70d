-- What the words of the command line ask for.
use Rattle.std.proofs.Common.{◌≡◌, ◌≢◌, ◌⊎◌, ◌∙◌, inl, inr, refl, sym, ap, subst, true, Option, Some, None, List, [], ◌∷◌, codes, Ok, Err}
use Rattle.std.specs.Prelude.{IfOk, IfErr}
use Rattle.std.specs.declared.result.Result.{Result}
use Rattle.std.specs.Option.{option_map}
use Rattle.clap.specs.Simple.{is_simple}
use Rattle.clap.specs.Walk.{Text}
use Rattle.clap.specs.Kinds.{IsAmong}
use Rattle.clap.specs.Faults.{fault_of, is_simple_and_free}
use Rattle.clap.specs.declared.error.kind.ErrorKind.{ErrorKind}
use Rattle.clap.specs.declared.error.kind.ErrorKind.TheVariants.{OutOfMemory, DisplayHelp, DisplayVersion, MissingSubcommand}
use Rattle.clap.proofs.OnLiterals.{clap_on_literals}
use Rattle.pmg_commands.specs.declared.command.Chosen.{Chosen}
use Rattle.pmg_commands.specs.declared.command.Chosen.TheVariants.{Dump, Merge, Replay, Run, Shown}
use Rattle.pmg_commands.specs.CommandLine.{program, command_in, chosen_of, shown_status, IsChosen, IsNamed}

-- the command line is one of which `clap` says when it takes the words
pub is_simple_program : is_simple_and_free program ≡ true
unfolding clap_on_literals
is_simple_program = refl

pub is_simple_line : is_simple program ≡ true
unfolding clap_on_literals
is_simple_line = refl

-- a name that stands beside something else
pub name_beside : {X Y Z : Type 0} (name : X → Y) (other : X → Z) (found : Option X) → option_map name found ≡ option_map (λ (p : Y × Z). p.0) (option_map (λ x. (name x, other x)) found)
name_beside name other None = refl
name_beside name other (Some x) = refl

-- what was found amiss is shown, but because an allocation failed
pub shown_is_chosen : {E : Type 0} (result : Result Chosen E) (words : List Text) (kind : ErrorKind) → IfOk result (λ chosen. chosen ≡ Shown (shown_status kind))
    → IfOk result (λ _. kind ≢ OutOfMemory) → (kind ≡ OutOfMemory) ⊎ IsAmong kind (fault_of program words) → IfOk result (IsChosen words)
shown_is_chosen (Err e) words kind shown memory found = tt
shown_is_chosen (Ok chosen) words kind shown memory (inl wanting) = absurd (memory wanting)
shown_is_chosen (Ok chosen) words kind shown memory (inr among) = subst (IsChosen words) (sym shown) (inl (kind, among, refl))

-- the command that was found is what is asked for
pub named_is_chosen : (chosen : Chosen) (words : List Text) → fault_of program words ≡ [] → chosen ≡ chosen_of (command_in words) → IsChosen words chosen
named_is_chosen Dump words none is = (none, sym is)
named_is_chosen Merge words none is = (none, sym is)
named_is_chosen Replay words none is = (none, sym is)
named_is_chosen Run words none is = (none, sym is)
named_is_chosen (Shown status) words none is = inr (none, sym is)

-- where nothing is amiss, the command that is named is asked for
pub is_command : {E : Type 0} (result : Result Chosen E) (words : List Text) (command : Chosen) → fault_of program words ≡ []
    → chosen_of (command_in words) ≡ command → IfOk result (IsChosen words) → IfOk result (λ chosen. chosen ≡ command)
is_command (Err e) words command none named chosen = tt
is_command (Ok Dump) words command none named chosen = sym chosen.1 ∙ named
is_command (Ok Merge) words command none named chosen = sym chosen.1 ∙ named
is_command (Ok Replay) words command none named chosen = sym chosen.1 ∙ named
is_command (Ok Run) words command none named chosen = sym chosen.1 ∙ named
is_command (Ok (Shown status)) words command none named (inl found) = absurd (subst (IsAmong found.0) none found.1)
is_command (Ok (Shown status)) words command none named (inr is) = sym is.1 ∙ named

-- where one thing is found, it is shown
pub is_shown : {E : Type 0} (result : Result Chosen E) (words : List Text) (kind : ErrorKind) → fault_of program words ≡ kind ∷ [] → IfOk result (IsChosen words)
    → IfOk result (λ chosen. chosen ≡ Shown (shown_status kind))
is_shown (Err e) words kind one chosen = tt
is_shown (Ok Dump) words kind one chosen = let both : [] ≡ kind ∷ [] = sym chosen.0 ∙ one in cc
is_shown (Ok Merge) words kind one chosen = let both : [] ≡ kind ∷ [] = sym chosen.0 ∙ one in cc
is_shown (Ok Replay) words kind one chosen = let both : [] ≡ kind ∷ [] = sym chosen.0 ∙ one in cc
is_shown (Ok Run) words kind one chosen = let both : [] ≡ kind ∷ [] = sym chosen.0 ∙ one in cc
is_shown (Ok (Shown status)) words kind one (inl found) = elim (subst (IsAmong found.0) one found.1) [
  | inl same ↦ ap Shown (found.2 ∙ ap shown_status same)
  | inr none ↦ absurd none
]
is_shown (Ok (Shown status)) words kind one (inr is) = let both : [] ≡ kind ∷ [] = sym is.0 ∙ one in cc

-- lines of words
pub command_lines :
    (name : Text) → IsNamed (name ∷ codes "dump" ∷ []) Dump × IsNamed (name ∷ codes "merge" ∷ []) Merge × IsNamed (name ∷ codes "replay" ∷ []) Replay
    × IsNamed (name ∷ codes "run" ∷ []) Run
unfolding clap_on_literals
command_lines name = ((refl, refl), (refl, refl), (refl, refl), (refl, refl))

pub of_help : (name : Text) → fault_of program (name ∷ codes "--help" ∷ []) ≡ DisplayHelp ∷ []
unfolding clap_on_literals
of_help name = refl

pub of_version : (name : Text) → fault_of program (name ∷ codes "--version" ∷ []) ≡ DisplayVersion ∷ []
unfolding clap_on_literals
of_version name = refl

pub of_name : (name : Text) → fault_of program (name ∷ []) ≡ MissingSubcommand ∷ []
unfolding clap_on_literals
of_name name = refl

-- what is asked for by lines of a name and a word, and by a name alone
pub record AsksFor {E : Type 0} (result : Result Chosen E) (words : List Text) : Type 0 where
  pub dump : (name : Text) → words ≡ name ∷ codes "dump" ∷ [] → IfOk result (λ chosen. chosen ≡ Dump)
  pub merge : (name : Text) → words ≡ name ∷ codes "merge" ∷ [] → IfOk result (λ chosen. chosen ≡ Merge)
  pub replay : (name : Text) → words ≡ name ∷ codes "replay" ∷ [] → IfOk result (λ chosen. chosen ≡ Replay)
  pub run : (name : Text) → words ≡ name ∷ codes "run" ∷ [] → IfOk result (λ chosen. chosen ≡ Run)
  pub help : (name : Text) → words ≡ name ∷ codes "--help" ∷ [] → IfOk result (λ chosen. chosen ≡ Shown 0)
  pub version : (name : Text) → words ≡ name ∷ codes "--version" ∷ [] → IfOk result (λ chosen. chosen ≡ Shown 0)
  pub nothing : (name : Text) → words ≡ name ∷ [] → IfOk result (λ chosen. chosen ≡ Shown 2)

named_line : {E : Type 0} (result : Result Chosen E) (words line : List Text) (command : Chosen) → IfOk result (IsChosen words) → words ≡ line → IsNamed line command
    → IfOk result (λ chosen. chosen ≡ command)
named_line result words line command chosen same named =
    is_command result words command (ap (fault_of program) same ∙ named.0) (ap (λ ws. chosen_of (command_in ws)) same ∙ named.1) chosen

pub asks_for : {E : Type 0} (result : Result Chosen E) (words : List Text) → IfOk result (IsChosen words) → AsksFor result words
asks_for result words chosen = record {
  dump = λ name line. named_line result words _ Dump chosen line (command_lines name).0;
  merge = λ name line. named_line result words _ Merge chosen line (command_lines name).1;
  replay = λ name line. named_line result words _ Replay chosen line (command_lines name).2;
  run = λ name line. named_line result words _ Run chosen line (command_lines name).3;
  help = λ name line. is_shown result words DisplayHelp (ap (fault_of program) line ∙ of_help name) chosen;
  version = λ name line. is_shown result words DisplayVersion (ap (fault_of program) line ∙ of_version name) chosen;
  nothing = λ name line. is_shown result words MissingSubcommand (ap (fault_of program) line ∙ of_name name) chosen;
}

-- nothing is amiss, and so an allocation failed
pub is_wanting : (words : List Text) (kind : ErrorKind) → fault_of program words ≡ [] → (kind ≡ OutOfMemory) ⊎ IsAmong kind (fault_of program words) → kind ≡ OutOfMemory
is_wanting words kind none (inl is) = is
is_wanting words kind none (inr among) = absurd (subst (IsAmong kind) none among)

pub err_where : {T E : Type 0} (result : Result T E) (A : Type 0) (P : E → Type 0) → (A → IfErr result P) → IfErr result (λ e. A → P e)
err_where (Ok value) A P h = tt
err_where (Err e) A P h = h
