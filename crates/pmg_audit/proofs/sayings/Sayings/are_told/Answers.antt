use Rattle.std.proofs.Common.{◌≡◌, [], List, subst, ◌∙◌, rules}
use Rattle.pmg_value.specs.Lists.{In}
use Rattle.pmg_audit.specs.declared.moves.Saying.{Saying}
use Rattle.pmg_audit.proofs.LaneLemmas.{in_get}
use Rattle.pmg_audit.proofs.sayings.Sayings.are_told.Goals as goal

pub returns-then-not-is_empty-clause-left : goal.returns-then-not-is_empty-clause-left
returns-then-not-is_empty-clause-left c = λ _.
    let s : Saying = c.saying-item.result in
    let some : s.dues.items ≡ [] → ⊥ = search rules in (
      s,
      subst (λ (l : List Saying). In s l) (c.deref-saying-items.ensures.value ∙ c.self.view_is)
          (in_get c.deref-saying-items.result.now c.loop-saying.saying-index s (search rules) c.saying-item.is),
      some,
    )
