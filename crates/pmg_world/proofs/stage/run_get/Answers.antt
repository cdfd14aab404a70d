use Rattle.std.proofs.Common.{◌≡◌, ◌∙◌, Bool, false, ap, sym}
use Rattle.std.proofs.lemmas.Result.{IfOk-weaker}
use Rattle.pmg_value.specs.declared.refusal.Refusal.TheVariants as refusals
use Rattle.pmg_jobinfo.specs.Jobs.{Jobs, home_of}
use Rattle.pmg_node_model.specs.Acts.{Reply, Request}
use Rattle.pmg_node_parts.specs.Calls.{get_of}
use Rattle.pmg_group_model.specs.Worlds.{Event}
use Rattle.pmg_script.specs.Scripts.{Line}
use Rattle.pmg_world.specs.ReplyLines.{reply_line}
use Rattle.pmg_world.specs.Stages.{AnswersLine, Runs}
use Rattle.pmg_world.proofs.StageSteps.{get_named, get_unnamed}
use Rattle.pmg_world.proofs.stage.run_get.Goals as goal

pub returns-then-not-is_named_get : goal.returns-then-not-is_named_get
returns-then-not-is_named_get c =
    let w = c.args.scene.now in
    IfOk-weaker c.refusal_line.result (λ text. (deletes : Bool) → text.items ≡ reply_line deletes (Reply.refused refusals.BadParam))
    (λ text. Runs w (Line.get c.args.proc.now c.args.mode c.args.target.now c.args.key.now) text.items w)
    (λ text line. get_unnamed w c.args.proc.now c.args.target.now c.args.mode c.args.key.now text.items (sym c.is_named_get.ensures ∙ c.if-not-is_named_get.true) (line false)) c.refusal_line.ensures

pub returns : goal.returns
returns c =
    let w = c.args.scene.now in
    let q = c.in_ok-proc.proc in
    let r = c.in_ok-target.target in
    let k = c.in_ok-key.key in
    let home = c.home_of-home.result in
    let at = c.home_of-home.ensures ∙ ap (λ (j : Jobs). home_of j q) c.registry.ensures in
    IfOk-weaker c.get.result (λ text. AnswersLine w (Event.request home (Request.ask q (get_of r k) c.args.mode)) text.items c.get.new.self)
    (λ text. Runs w (Line.get c.args.proc.now c.args.mode c.args.target.now c.args.key.now) text.items c.get.new.self)
    (λ text answers. get_named w c.get.new.self c.args.proc.now c.args.target.now c.args.mode c.args.key.now text.items (sym c.is_named_get.ensures ∙ c.if-not-is_named_get.false)
    home q r k at c.in_ok-proc.ensures c.in_ok-target.ensures c.in_ok-key.ensures answers) c.get.ensures
