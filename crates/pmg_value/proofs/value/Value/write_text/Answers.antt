use Rattle.std.proofs.Common.{codes, ◌++◌, ap, append_assoc, ◌∙◌}
use Rattle.pmg_value.specs.Plain.{kind_name}
use Rattle.pmg_value.specs.Spelling.{form, tag_of}
use Rattle.pmg_value.specs.Text.{form_text}
use Rattle.pmg_value.proofs.value.Value.write_text.Goals as goal

pub returns-clause-text : goal.returns-clause-text
returns-clause-text g c =
    let v = c.args.self.now in
    let prefix = c.kind_prefix.ensures ∙ ap (λ tag. kind_name tag ++ codes ":") c.tag.ensures in
    rw (← append_assoc (kind_name (tag_of v)) (codes ":") (form_text (form v)), ← prefix) c.put_held.ensures.text
