use Rattle.std.proofs.Common.{◌≡◌, List, ap, subst, sym, ◌∙◌}
use mathlib.Core.List.{IsPrefix}
use Rattle.pmg_publish.specs.declared.counting.Publication.{Publication}
use Rattle.pmg_publish.specs.Publications.{Publications}
use Rattle.pmg_publish.proofs.Prefixes.{prefix_trans}
use Rattle.pmg_desk.proofs.KnownLemmas.{knows_all}
use Rattle.pmg_desk.proofs.state.State.act_for.Goals as goal

pub returns-clause-all_published : goal.returns-clause-all_published
returns-clause-all_published g c =
    let told : c.tell.result.log ≡ c.happen.new.self.publisher.log = ap (λ (v : Publications). v.log) c.tell.ensures.told in
    let saw : IsPrefix c.args.viewer.now.log c.args.self.now.publisher.log = c.is_apart.ensures.published c.if-is_apart.false in
    let still : IsPrefix c.args.self.now.publisher.log c.happen.new.self.publisher.log = c.in_ok-twice.ensures.published in
    let all = prefix_trans c.args.viewer.now.log c.args.self.now.publisher.log c.happen.new.self.publisher.log saw still in
    let less = subst (λ (ps : List Publication). IsPrefix c.args.viewer.now.log ps) (sym told) all in
    knows_all c.args.viewer.now c.learn-2.new.self c.tell.result less c.learn-2.ensures.told c.learn-2.ensures.one ∙ told
