use Rattle.std.proofs.Common.{◌++◌, ◌∷◌, [], sym, ◌∙◌}
use Rattle.pmg_jobinfo.proofs.MemberLemmas.{nobody, members_more}
use Rattle.pmg_jobinfo.proofs.expansion.members_of.Goals as goal

pub loop-rank-init : goal.loop-rank-init
loop-rank-init c = c.in_ok-procs.ensures.items ∙ sym (nobody c.args.nspace.now)

pub loop-rank-preserved : goal.loop-rank-preserved
loop-rank-preserved c =
    c.in_ok-push.ensures.items
    ∙ (λ i. c.loop-rank.invariant i ++ (record { nspace = (c.new-in-loop-rank.ensures.nspace ∙ c.in_ok-copy.ensures) i; rank = (c.new-in-loop-rank.ensures.rank ∙ c.new.ensures) i }) ∷ [])
    ∙ sym (members_more c.args.nspace.now c.loop-rank.rank)
