use Rattle.std.proofs.Common.{Result, sym, subst, ◌∙◌}
use Rattle.pmg_value.specs.Answers.{Gives}
use Rattle.pmg_value.specs.Spelling.{spelling}
use Rattle.pmg_value.specs.declared.refusal.Refusal.{Refusal}
use Rattle.pmg_value.specs.declared.refusal.Refusal.TheVariants as refusals
use Rattle.pmg_scope.specs.Cached.{put_cause}
use Rattle.pmg_node_model.specs.Acts.{free_cause}
use Rattle.pmg_caches.specs.Caching.{cached_for}
use Rattle.pmg_caches.proofs.CauseLemmas.{cache_is, due_bad, due_free, due_refused, judged_fails}
use Rattle.pmg_caches.proofs.putting.put_at.Goals as goal

pub returns-then-is_bad_put-clause-answer : goal.returns-then-is_bad_put-clause-answer
returns-then-is_bad_put-clause-answer c =
    let s = c.args.node.now in
    let free = free_cause s.jobs s.id s.holding c.args.proc.now in
    let there = put_cause (cached_for c.args.caches.now c.args.proc.now) c.args.scope c.args.key (spelling c.args.value) in
    due_bad (free refusals.BadParam) (free refusals.UnknownNamespace) (free refusals.NotMine) (free refusals.Terminated) (free refusals.Busy) (there refusals.TooMany) (tt {0}) (there refusals.BadParam)
    (sym c.is_bad_put.ensures ∙ c.if-is_bad_put.true)

pub returns-in-Err-clause-answer : goal.returns-in-Err-clause-answer
returns-in-Err-clause-answer c =
    let s = c.args.node.now in
    let free = free_cause s.jobs s.id s.holding c.args.proc.now in
    let there = put_cause (cached_for c.args.caches.now c.args.proc.now) c.args.scope c.args.key (spelling c.args.value) in
    let amiss = sym c.in-Err.ensures in
    judged_fails (free refusals.BadParam) (free refusals.UnknownNamespace) (free refusals.NotMine) (free refusals.Terminated) (free refusals.Busy) c.in-Err.refusal _ amiss
    (due_refused (free refusals.BadParam) (free refusals.UnknownNamespace) (free refusals.NotMine) (free refusals.Terminated) (free refusals.Busy) (there refusals.TooMany) (tt {0}) (there refusals.BadParam)
    (sym c.is_bad_put.ensures ∙ c.if-is_bad_put.false) c.in-Err.refusal amiss)

pub returns-clause-answer : goal.returns-clause-answer
returns-clause-answer c =
    let s = c.args.node.now in
    let free = free_cause s.jobs s.id s.holding c.args.proc.now in
    let there = put_cause (cached_for c.args.caches.now c.args.proc.now) c.args.scope c.args.key (spelling c.args.value) in
    let good = sym c.is_bad_put.ensures ∙ c.if-is_bad_put.false in
    let due = due_free (free refusals.BadParam) (free refusals.UnknownNamespace) (free refusals.NotMine) (free refusals.Terminated) (free refusals.Busy) (there refusals.TooMany) (tt {0}) (there refusals.BadParam) good (sym c.in_default.ensures) in
    subst (λ (d : Result (Unit {0}) Refusal). Gives (λ u. u) c.put.result d) (cache_is (there refusals.BadParam) (there refusals.TooMany) (tt {0}) good ∙ sym due) c.put.ensures.answer
