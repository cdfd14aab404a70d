use Rattle.std.proofs.Common.{◌≡◌, ◌<◌, List, sym, ap, subst, ◌∙◌}
use Rattle.std.specs.Prelude.{IfOk}
use Rattle.pmg_commit.specs.Sealed.{Sealed}
use Rattle.pmg_node_model.specs.declared.due.ToSend.{ToSend}
use Rattle.pmg_node_parts.specs.Owns.{sealed_of}
use Rattle.pmg_node_parts.specs.Telling.{spread_by}
use Rattle.pmg_node.specs.Sealing.{last_sealed, told_besides}
use Rattle.pmg_node.specs.declared.sealing.SealingAct.{SealingAct}
use Rattle.pmg_node.proofs.SettingLemmas.{sets_sealed}
use Rattle.pmg_node.proofs.sealing.dues_besides.Goals as goal

pub returns-in-Commit : goal.returns-in-Commit
returns-in-Commit c = c.new.ensures.items ∙ ap (λ (a : SealingAct). told_besides c.args.table.now.jobs c.args.id a (sealed_of c.args.own.now)) (sym c.in-Commit.is)

pub spread-requires : goal.spread-requires
spread-requires c =
    let own = c.args.own.now in
    subst (λ (z : Sealed). 0 < z.level) (ap (last_sealed own) c.in-Define.is ∙ sym (sets_sealed own) ∙ ap (sealed_of own) (sym c.host.ensures)) c.requires

pub spread-requires-in-Delete : goal.spread-requires-in-Delete
spread-requires-in-Delete c =
    let own = c.args.own.now in
    subst (λ (z : Sealed). 0 < z.level) (ap (last_sealed own) c.in-Delete.is ∙ sym (sets_sealed own) ∙ ap (sealed_of own) (sym c.host-in-Delete.ensures)) c.requires

pub returns-in-Define : goal.returns-in-Define
returns-in-Define c =
    let told : SealingAct → List ToSend = λ a. told_besides c.args.table.now.jobs c.args.id a (sealed_of c.args.own.now) in
    subst (λ (ds : List ToSend). IfOk c.spread.result (λ dues. dues.items ≡ ds))
    ((λ i. spread_by (c.registry-registry.ensures i) c.args.id (sealed_of c.args.own.now) (c.host.ensures i)) ∙ ap told (sym c.in-Define.is)) c.spread.ensures

pub returns-in-Delete : goal.returns-in-Delete
returns-in-Delete c =
    let told : SealingAct → List ToSend = λ a. told_besides c.args.table.now.jobs c.args.id a (sealed_of c.args.own.now) in
    subst (λ (ds : List ToSend). IfOk c.spread-in-Delete.result (λ dues. dues.items ≡ ds))
    ((λ i. spread_by (c.registry-registry.ensures i) c.args.id (sealed_of c.args.own.now) (c.host-in-Delete.ensures i)) ∙ ap told (sym c.in-Delete.is)) c.spread-in-Delete.ensures
