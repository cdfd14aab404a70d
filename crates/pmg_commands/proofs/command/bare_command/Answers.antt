use Rattle.std.proofs.Common.{ap, codes, true, ◌≡◌, ◌∙◌}
use Rattle.clap.specs.Simple.{Shape, app_of, app_of_fields, new_app, on_top}
use Rattle.pmg_commands.proofs.command.bare_command.Goals as goal

with_version : Shape → Shape
with_version s = record s { has_version = true }

with_required : Shape → Shape
with_required s = record s { subcommand_required = true }

pub returns-clause-ok : goal.returns-clause-ok
unfolding with_version with_required
returns-clause-ok c =
    let named : app_of c.in_ok-bin_name.field-0 ≡ new_app (codes "pmixgroup") = ap app_of_fields c.in_ok-bin_name.ensures.0 ∙ c.new.ensures.app in
    let versioned : app_of c.version.result ≡ on_top with_version (new_app (codes "pmixgroup")) = ap app_of_fields c.version.ensures ∙ ap (on_top with_version) named in
    let helped : app_of c.after_help.result ≡ app_of c.version.result = ap app_of_fields c.after_help.ensures ∙ ap app_of_fields c.about.ensures in
    ap app_of_fields c.subcommand_required-command.ensures ∙ ap (on_top with_required) (helped ∙ versioned)
