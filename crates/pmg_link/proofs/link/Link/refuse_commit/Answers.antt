use Rattle.std.proofs.Common.{◌≡◌, sym, subst, ◌∙◌}
use Rattle.pmg_value.specs.declared.refusal.Refusal.{Refusal}
use Rattle.pmg_value.specs.declared.refusal.Refusal.TheVariants as refusals
use Rattle.pmg_scope.specs.Cached.{unsealed_of}
use Rattle.pmg_node_model.specs.Acts.{Act, Reply, free_cause}
use Rattle.pmg_node.specs.Servers.{Refuses, reply_to}
use Rattle.pmg_node.proofs.ActLemmas.{refused}
use Rattle.pmg_node.proofs.RefusalLemmas.{refuses_first}
use Rattle.pmg_caches.specs.Caching.{cached_for}
use Rattle.pmg_link.specs.Links.{Linked, RefusesCommit, commit_of, link_after}
use Rattle.pmg_link.specs.contracts.link.Link.{the_view}
use Rattle.pmg_link.proofs.LinkLemmas.{commit_barred_so, commit_goes_on, commit_refused, refused_joins}
use Rattle.pmg_link.proofs.link.Link.refuse_commit.Goals as goal

pub returns-in-Ok-clause-reply : goal.returns-in-Ok-clause-reply
returns-in-Ok-clause-reply c =
    let p = c.args.proc.now in
    subst (λ (l : Linked). RefusesCommit refusals.NoMemory (reply_to l.node (commit_of l p))) c.self.view_is
    (commit_goes_on c.self.inside.node p (unsealed_of (cached_for c.self.inside.caches p)) (sym c.check_free.ensures ∙ c.in-Ok.is))

pub returns-in-Err-clause-reply : goal.returns-in-Err-clause-reply
returns-in-Err-clause-reply c =
    let p = c.args.proc.now in
    subst (λ (l : Linked). RefusesCommit c.in-Err.refusal (reply_to l.node (commit_of l p))) c.self.view_is
    (commit_refused c.self.inside.node p (unsealed_of (cached_for c.self.inside.caches p)) c.in-Err.refusal (sym c.check_free.ensures ∙ c.in-Err.is))

pub returns-in-Err-clause-after : goal.returns-in-Err-clause-after
returns-in-Err-clause-after c told =
    let node = c.self.inside.node in
    let p = c.args.proc.now in
    let b = unsealed_of (cached_for c.self.inside.caches p) in
    let its = refused node (Act.commit p b) c.in-Err.refusal (commit_barred_so node p b c.in-Err.refusal (sym c.check_free.ensures ∙ c.in-Err.is)) c.self.inside.waiting.items in
    let joined = c.nothing.ensures ∙ refused_joins node (Act.commit p b) c.in-Err.refusal its.reply in
    let new = the_view (record { node = node; caches = c.self.inside.caches; waiting = c.self.inside.waiting; joined = c.nothing.result }) in
    subst (λ (l : Linked). new ≡ link_after l (commit_of l p)) c.self.view_is
    (λ i. record { node = its.done i; caches = c.self.inside.caches; waiting = its.sent i; joined = joined i })

pub returns-in-Err-clause-memory : goal.returns-in-Err-clause-memory
returns-in-Err-clause-memory c short =
    let node = c.self.inside.node in
    absurd (subst (λ (e : Refusal). Refuses e (Reply.refused e)) short (refuses_first (free_cause node.jobs node.id node.holding c.args.proc.now) c.in-Err.refusal (sym c.check_free.ensures ∙ c.in-Err.is)))
