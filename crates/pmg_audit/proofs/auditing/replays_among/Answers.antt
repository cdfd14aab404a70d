use Rattle.std.proofs.Common.{◌≡◌, true, false, inl, inr, refl, subst, rules}
use Rattle.pmg_audit.specs.Replaying.{AllMayPut}
use Rattle.pmg_audit.proofs.AuditLemmas.{ends_by, well_by}
use Rattle.pmg_audit.proofs.auditing.replays_among.Goals as goal

pub may_put_last-requires-clause-nodes : goal.may_put_last-requires-clause-nodes
may_put_last-requires-clause-nodes c = c.in-Ok.ensures.ok.nodes

pub returns-then-not-are_told-clause-refused : goal.returns-then-not-are_told-clause-refused
returns-then-not-are_told-clause-refused c = inr (inl (record { r = c.in-Ok.all; ss = c.replay_all.new.sayings; done = c.in-Ok.ensures.ok; left = c.if-not-are_told.ensures.left refl }))

pub returns-then-not-may_put_last-clause-refused : goal.returns-then-not-may_put_last-clause-refused
returns-then-not-may_put_last-clause-refused c =
    let ss = c.replay_all.new.sayings in
    inr (inr (record { r = c.in-Ok.all; ss = ss; done = c.in-Ok.ensures.ok; barred = subst (λ l. AllMayPut c.args.registry.now c.in-Ok.all.nodes.items l → ⊥) c.as_slice.ensures (c.if-not-may_put_last.ensures.other refl) }))

pub returns-then-all-clause-refused : goal.returns-then-all-clause-refused
returns-then-all-clause-refused c =
    let stale : c.in-Ok.all.is_stale ≡ true = search rules in
    let last = subst (AllMayPut c.args.registry.now c.in-Ok.all.nodes.items) c.as_slice.ensures (c.if-not-may_put_last.ensures.may refl) in (
      record { r = c.in-Ok.all; ss = c.replay_all.new.sayings; done = c.in-Ok.ensures.ok; told = c.if-not-are_told.ensures.told refl; last = last },
      c.in-Ok.ensures.ok.stale stale,
    )

pub returns-else-all-clause-ok : goal.returns-else-all-clause-ok
returns-else-all-clause-ok c =
    let fresh : c.in-Ok.all.is_stale ≡ false = search rules in
    let last = subst (AllMayPut c.args.registry.now c.in-Ok.all.nodes.items) c.as_slice.ensures (c.if-not-may_put_last.ensures.may refl) in
    well_by c.args.registry.now c.args.journals.now c.args.sayings.now c.in-Ok.all c.replay_all.new.sayings
    (record { done = c.in-Ok.ensures.ok; told = c.if-not-are_told.ensures.told refl; last = last; fresh = fresh })

pub returns-in-Err-clause-refused : goal.returns-in-Err-clause-refused
returns-in-Err-clause-refused c = ends_by c.args.registry.now c.args.journals.now c.args.sayings.now c.in-Err.refusal c.in-Err.ensures.refused
