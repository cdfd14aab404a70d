use Rattle.std.proofs.Common.{ℕ, ◌==◌, not, true, false, refl, sym, ap, ◌∙◌}
use Rattle.pmg_node.specs.Servers.{Server}
use Rattle.pmg_node.specs.declared.server.Server.TheInside.{Inside}
use Rattle.pmg_node.proofs.DefineLemmas.{is_foreign, define_now}
use Rattle.pmg_node.proofs.server.Server.check_definition.Goals as goal

pub returns-then-is_bad_definition : goal.returns-then-is_bad_definition
returns-then-is_bad_definition c =
    sym (define_now c.args.self.now c.registry-registry.result.now c.args.self.now.id c.args.self.now.holding.sets c.args.name.now c.args.list.now
    (c.registry-registry.ensures ∙ ap (λ (i : Inside). i.table.jobs) c.self-inside.view_is ∙ ap (λ (x : Server). x.jobs) c.self.view_is)
    refl refl
    true _ _ _ (sym c.is_bad_definition.ensures ∙ c.if-is_bad_definition.true) refl refl refl)

pub returns-then-has_unknown : goal.returns-then-has_unknown
returns-then-has_unknown c =
    sym (define_now c.args.self.now c.registry-registry.result.now c.args.self.now.id c.args.self.now.holding.sets c.args.name.now c.args.list.now
    (c.registry-registry.ensures ∙ ap (λ (i : Inside). i.table.jobs) c.self-inside.view_is ∙ ap (λ (x : Server). x.jobs) c.self.view_is)
    refl refl
    false true _ _ (sym c.is_bad_definition.ensures ∙ c.if-is_bad_definition.false) (sym c.has_unknown.ensures ∙ c.if-has_unknown.true) refl refl)

pub returns-then-index-ne0 : goal.returns-then-index-ne0
returns-then-index-ne0 c =
    sym (define_now c.args.self.now c.registry-registry.result.now c.index.result c.args.self.now.holding.sets c.args.name.now c.args.list.now
    (c.registry-registry.ensures ∙ ap (λ (i : Inside). i.table.jobs) c.self-inside.view_is ∙ ap (λ (x : Server). x.jobs) c.self.view_is)
    (c.index.ensures.value ∙ ap (λ (i : Inside). i.id) c.self-inside.view_is ∙ ap (λ (x : Server). x.id) c.self.view_is) refl
    false false true _ (sym c.is_bad_definition.ensures ∙ c.if-is_bad_definition.false) (sym c.has_unknown.ensures ∙ c.if-has_unknown.false) (is_foreign c.index.result c.if-index-ne0.true) refl)

pub returns : goal.returns
returns c =
    sym (define_now c.args.self.now c.registry-registry.result.now c.index.result _ c.args.name.now c.args.list.now
    (c.registry-registry.ensures ∙ ap (λ (i : Inside). i.table.jobs) c.self-inside.view_is ∙ ap (λ (x : Server). x.jobs) c.self.view_is)
    (c.index.ensures.value ∙ ap (λ (i : Inside). i.id) c.self-inside.view_is ∙ ap (λ (x : Server). x.id) c.self.view_is) (ap (λ (i : Inside). i.own.sets) c.self-inside.view_is ∙ ap (λ (x : Server). x.holding.sets) c.self.view_is)
    false false false _ (sym c.is_bad_definition.ensures ∙ c.if-is_bad_definition.false) (sym c.has_unknown.ensures ∙ c.if-has_unknown.false)
    (ap (λ (n : ℕ). not (n == 0)) c.if-index-ne0.false) (sym c.check_room.ensures))
