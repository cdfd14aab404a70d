use Rattle.std.proofs.Common.{◌≡◌, subst, ◌∙◌}
use Rattle.pmg_node.specs.Acting.{act_of}
use Rattle.pmg_node.specs.declared.act.Reply.{Reply}
use Rattle.pmg_link.specs.Links.{Linked, link_after}
use Rattle.pmg_link.specs.contracts.link.Link.{the_view}
use Rattle.pmg_link.proofs.LinkLemmas.{answered_refusal}
use Rattle.pmg_link.proofs.link.Link.act.Goals as goal

pub returns-in-Err-clause-done : goal.returns-in-Err-clause-done
returns-in-Err-clause-done c told =
    let node = c.self.inside.node in
    let a = act_of c.args.act.now in
    let joined = c.nothing.ensures ∙ answered_refusal Reply node a c.in-Err.refusal c.in-Err.ensures.reply told in
    let new = the_view (record { node = c.act_into.new.self; caches = c.self.inside.caches; waiting = c.act_into.new.out; joined = c.nothing.result }) in
    subst (λ (l : Linked). new ≡ link_after l a) c.self.view_is
    (λ i. record { node = c.in-Err.ensures.done told i; caches = c.self.inside.caches; waiting = c.in-Err.ensures.sent told i; joined = joined i })
