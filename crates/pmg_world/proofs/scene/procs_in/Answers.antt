use Rattle.std.proofs.Common.{◌≡◌, ◌<◌, ◌∙◌, length, get_or, ap, sym, subst, arith, Some, None, append-nil}
use Rattle.pmg_value.specs.declared.value.Value.{Value}
use Rattle.pmg_value.specs.Items.{items_in}
use Rattle.pmg_world.proofs.Scenes.{procs_more}
use Rattle.pmg_world.proofs.scene.procs_in.Goals as goal
use Rattle.pmg_world.proofs.scene.procs_in.Goals.{in-Some+in_ok-copy+in_ok-push, in_default}

pub loop-i-preserved : goal.loop-i-preserved
loop-i-preserved c =
    let items = items_in c.args.items in
    let lt : c.loop-i.i < length items = omega (arith, c.loop-i-test.true, c.len-i-end.ensures) in
    let at = subst (λ (v : Value). v ≡ get_or items c.loop-i.i v) (sym c.value.ensures) c.get-item.ensures in
    elim c.match-proc_in.branch [
      | in-Some+in_ok-copy+in_ok-push w ↦
          ap (λ v. v.items) w.procs-is ∙ w.in_ok-push.ensures.items
          ∙ procs_more (items_in c.args.items) c.loop-i.i c.value.result.now c.loop-i.procs.items lt at c.loop-i.invariant (Some w.in_ok-copy.field-0) (ap Some w.in_ok-copy.ensures ∙ w.in-Some.ensures)
      | in_default w ↦
          ap (λ v. v.items) w.procs-is ∙ sym (append-nil c.loop-i.procs.items)
          ∙ procs_more (items_in c.args.items) c.loop-i.i c.value.result.now c.loop-i.procs.items lt at c.loop-i.invariant None w.in_default.ensures
    ]
