use Rattle.std.proofs.Common.{ap, codes, ◌∙◌}
use Rattle.clap.specs.Simple.{App}
use Rattle.pmg_commands.specs.CommandLine.{with_command}
use Rattle.pmg_commands.proofs.command.command_line.Goals as goal

pub returns-clause-ok : goal.returns-clause-ok
returns-clause-ok c =
    let dumps = c.in_ok-command-2.ensures.ok ∙ ap (λ (a : App). with_command a (codes "dump")) c.in_ok-command.ensures.ok in
    let merges = c.in_ok-command-3.ensures.ok ∙ ap (λ (a : App). with_command a (codes "merge")) dumps in
    let replays = c.in_ok-command-4.ensures.ok ∙ ap (λ (a : App). with_command a (codes "replay")) merges in
    c.in_ok-command-5.ensures.ok ∙ ap (λ (a : App). with_command a (codes "run")) replays
