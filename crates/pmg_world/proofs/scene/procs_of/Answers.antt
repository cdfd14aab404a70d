use Rattle.std.proofs.Common.{◌≡◌, ◌∙◌, refl, ap, sym}
use Rattle.std.proofs.lemmas.Result.{IfOk-weaker}
use Rattle.pmg_value.specs.Elements.{Elements}
use Rattle.pmg_value.specs.Items.{items_in}
use Rattle.pmg_value.specs.Spelling.{plains_of, spelling}
use Rattle.pmg_value.specs.declared.value.Value.TheVariants as values
use Rattle.pmg_wire.specs.Fields.{whole_value}
use Rattle.pmg_wire.proofs.WholeLaws.{whole_only}
use Rattle.pmg_world.specs.Stages.{proc_elements, procs_in_value}
use Rattle.pmg_world.proofs.scene.procs_of.Goals as goal

pub returns : goal.returns
returns c =
    let array = values.Array c.args.members.now in
    IfOk-weaker c.procs_in.result (λ procs. procs.items ≡ proc_elements (plains_of (items_in c.items.result))) (λ procs. procs.items ≡ procs_in_value (whole_value (spelling array)))
    (λ procs is.
    is ∙ ap (λ (e : Elements). proc_elements e.plains) c.items.ensures.items
    ∙ sym (ap procs_in_value (whole_only (spelling array) array (record { text = refl; is = c.items.ensures.is }))))
    c.procs_in.ensures
