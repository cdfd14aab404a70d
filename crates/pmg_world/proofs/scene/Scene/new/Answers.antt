use Rattle.pmg_world.specs.Delivering.{all_delivered}
use Rattle.pmg_world.proofs.StateLemmas.{played_start, start_new}
use Rattle.pmg_world.proofs.scene.Scene.new.Goals as goal

pub invariant_of-result : goal.invariant_of-result
invariant_of-result c = played_start c.in_ok-new.field-0 (all_delivered c.new-2.result) c.args.registry.now c.in_ok-new.ensures.jobs c.in_ok-new.ensures.stands c.new-2.ensures

pub returns : goal.returns
returns c = start_new c.in_ok-new.field-0 (all_delivered c.new-2.result) c.args.registry.now c.in_ok-new.ensures.jobs c.in_ok-new.ensures.stands c.new-2.ensures
