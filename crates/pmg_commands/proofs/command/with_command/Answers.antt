use Rattle.std.proofs.Common.{rules, ap, ◌≡◌, ◌∙◌}
use Rattle.clap.specs.Simple.{App, app_of, shape_of, shape_of_fields, new_shape, with_subcommand}
use Rattle.pmg_commands.proofs.command.with_command.Goals as goal

pub returns-clause-ok : goal.returns-clause-ok
returns-clause-ok c =
    let added_is : shape_of c.after_help-added.result ≡ new_shape c.args.name.now =
    ap shape_of_fields c.after_help-added.ensures ∙ ap shape_of_fields c.about.ensures ∙ ap (λ (a : App). a.top) c.new.ensures.app in
    c.in_ok-subcommand.ensures.shape (search rules) ∙ ap (with_subcommand (app_of c.args.command)) added_is
