use Rattle.std.proofs.Common.{◌≡◌, ◌<◌, ◌≤◌, ℕ, true, length, sym, ap, subst, ◌∙◌}
use Rattle.pmg_value.specs.Names.{is_nspace}
use Rattle.pmg_value.specs.declared.process.Proc.{Proc}
use Rattle.pmg_scope.specs.declared.scope.Reach.TheVariants as reach
use Rattle.pmg_commit.specs.Knowledge.{Contribution}
use Rattle.pmg_commit.specs.Pieces.{contribution}
use Rattle.pmg_commit.specs.Sealed.{piece_at}
use Rattle.pmg_commit.specs.Stamped.{IsSealer}
use Rattle.pmg_frame.specs.Fences.{CommitAsk}
use Rattle.pmg_frame.specs.Refreshing.{RefreshReply, refresh_reply, is_refresh_reply}
use Rattle.pmg_node_parts.specs.Owns.{LocalCommits, sealed_of}
use Rattle.pmg_node.proofs.ReplyFits.{short_name, told_fits, nothing_fits, nothing_since}
use Rattle.pmg_node.proofs.replying.reply_of.Goals as goal

-- the process that is read is the one that is asked for, and sealed what is told
its_own : (own : LocalCommits) (p q : Proc) → p ≡ q → (sealed_of own q).proc ≡ q → (sealed_of own p).proc ≡ p
its_own own p q same its = subst (λ (x : Proc). (sealed_of own x).proc ≡ x) (sym same) its

pub from_checked-requires : goal.from_checked-requires
from_checked-requires c =
    let p = c.proc-proc.result.now in
    let z = sealed_of c.args.own.now p in
    let level = c.level-level.result in
    let its = its_own c.args.own.now p c.args.ask.now.ask.proc (c.proc-proc.ensures.value ∙ ap (λ (a : CommitAsk). a.proc) c.ask-2.ensures) c.requires.its in
    let short : length p.nspace ≤ 255 = short_name p.nspace (ap is_nspace (sym c.as_bytes-name.ensures.value) ∙ c.as_bytes-name.ensures.name) in
    let less : level < z.level = subst (λ (n : ℕ). level < n) c.level.ensures.value c.if-level.true in
    subst (λ (x : Contribution). is_refresh_reply (refresh_reply c.node-node.result c.request.result x) ≡ true) (sym (c.into_parts-proc.ensures.value ∙ c.in_ok-piece.ensures))
    (told_fits c.node-node.result c.request.result z level (c.level.ensures.sealer c.proc-proc.ensures.commits)
    (subst (λ (q : Proc). length q.nspace ≤ 255) (sym its) short) c.request.ensures.some less)

pub from_checked-requires-2 : goal.from_checked-requires-2
from_checked-requires-2 c =
    let p = c.proc-proc.result.now in
    let level = c.level-level.result in
    let short : length p.nspace ≤ 255 = short_name p.nspace (ap is_nspace (sym c.as_bytes-name.ensures.value) ∙ c.as_bytes-name.ensures.name) in
    subst (λ (r : RefreshReply). is_refresh_reply r ≡ true)
    (λ i. refresh_reply c.node-node.result c.request-2.result (contribution (sym c.in_ok-copy.ensures i) level level (sym c.new-entries.ensures.items i)))
    (nothing_fits c.node-node.result c.request-2.result p level c.proc-proc.ensures.commits short c.request-2.ensures.some c.level-level.ensures.bound)

pub returns : goal.returns
returns c =
    let own = c.args.own.now in
    let p = c.proc-proc.result.now in
    let z = sealed_of own p in
    let level = c.level-level.result in
    let proc_is : p ≡ c.args.ask.now.ask.proc = c.proc-proc.ensures.value ∙ ap (λ (a : CommitAsk). a.proc) c.ask-2.ensures in
    let its = its_own own p c.args.ask.now.ask.proc proc_is c.requires.its in
    let sealer : IsSealer z = c.level.ensures.sealer c.proc-proc.ensures.commits in
    let level_is : level ≡ c.args.ask.now.ask.level = c.level-level.ensures.value ∙ ap (λ (a : CommitAsk). a.level) c.ask-3.ensures in
    let node_is : c.node-node.result ≡ c.args.ask.now.ask.node = c.node-node.ensures ∙ ap (λ (a : CommitAsk). a.node) c.ask.ensures in
    let low : level ≤ z.level = subst (λ (x : Proc × ℕ). x.1 ≤ (sealed_of own x.0).level) (λ i. (sym proc_is i, sym level_is i)) c.requires.made in
    let high : z.level ≤ level = subst (λ (n : ℕ). n ≤ level) c.level.ensures.value c.if-level.false in
    c.from_checked-2.ensures
    ∙ (λ i. refresh_reply c.node-node.result c.request-2.result (contribution (c.in_ok-copy.ensures i) level level (c.new-entries.ensures.items i)))
    ∙ ap (refresh_reply c.node-node.result c.request-2.result) (nothing_since z p level sealer its low high)
    ∙ (λ i. refresh_reply (node_is i) (c.request-2.ensures.value i) (piece_at (sealed_of own (proc_is i)) (level_is i) reach.Far))
