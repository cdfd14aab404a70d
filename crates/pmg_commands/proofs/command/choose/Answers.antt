use Rattle.std.proofs.Common.{ap, sym, subst, map, [], ◌≡◌, ◌∙◌, Ok, rules}
use Rattle.std.specs.Option.{option_map}
use Rattle.clap.specs.Words.{app_of, HasMatchesOf}
use Rattle.clap.specs.Faults.{fault_of, is_simple_and_free}
use Rattle.clap.specs.Values.{kind_of}
use Rattle.clap.specs.Kinds.{HasKind}
use Rattle.pmg_commands.specs.CommandLine.{program, chosen_of}
use Rattle.pmg_commands.proofs.CommandLemmas.{is_simple_program, is_simple_line, name_beside, shown_is_chosen, named_is_chosen, asks_for, is_wanting, err_where}
use Rattle.pmg_commands.proofs.command.choose.Goals as goal

pub returns-in-Ok : goal.returns-in-Ok
returns-in-Ok g c =
    let words = map g.S.AsStr.text c.args.words.now in
    let is : app_of c.in_ok-command.command ≡ program = c.in_ok-command.ensures.ok in
    let none : fault_of program words ≡ [] = ap (λ a. fault_of a words) (sym is) ∙ c.in-Ok.ensures.kinds (ap is_simple_and_free is ∙ is_simple_program) in
    let found = subst (λ a. HasMatchesOf a words c.in-Ok.matches) is c.in-Ok.ensures.matches is_simple_line in
    let chosen = named_is_chosen c.chosen_by.result words none (c.chosen_by.ensures ∙ ap chosen_of (name_beside _ _ _ ∙ ap (option_map (λ p. p.0)) found.1)) in
    let all = asks_for {E = Unit {0}} (Ok c.chosen_by.result) words chosen in
    record { chosen = chosen; dump = all.dump; merge = all.merge; replay = all.replay; run = all.run; help = all.help; version = all.version; nothing = all.nothing; status = search rules; err = search rules }

pub returns-in-Err : goal.returns-in-Err
returns-in-Err g c =
    let words = map g.S.AsStr.text c.args.words.now in
    let is : app_of c.in_ok-command.command ≡ program = c.in_ok-command.ensures.ok in
    let found = subst (λ a. HasKind (fault_of a words) c.in-Err.error) is (c.in-Err.ensures.kinds (ap is_simple_and_free is ∙ is_simple_program)) in
    let chosen = shown_is_chosen c.show.result words (kind_of c.in-Err.error) c.show.ensures.shown c.show.ensures.kind found in
    let all = asks_for c.show.result words chosen in
    let err = err_where c.show.result _ _ (λ none. c.show.ensures.memory (is_wanting words (kind_of c.in-Err.error) none found)) in
    record { chosen = chosen; dump = all.dump; merge = all.merge; replay = all.replay; run = all.run; help = all.help; version = all.version; nothing = all.nothing; status = search rules; err = err }
