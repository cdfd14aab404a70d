use Rattle.std.proofs.Common.{◌||◌, Bool, sym, ap, ◌∙◌}
use Rattle.std.specs.BTreeSet.{contains}
use Rattle.std.specs.Ordering.{eq_by_cmp}
use Rattle.pmg_value.specs.Process.{proc_cmp}
use Rattle.pmg_jobinfo.proofs.MemberLemmas.{member_added, members_none}
use Rattle.pmg_jobinfo.proofs.expansion.add_members.Goals as goal

pub loop-rank-init : goal.loop-rank-init
loop-rank-init c = λ q. ap (λ (b : Bool). b || contains proc_cmp c.args.all.now q) (sym (members_none (eq_by_cmp proc_cmp q) c.args.nspace.now))

pub loop-rank-preserved : goal.loop-rank-preserved
loop-rank-preserved c = λ q.
    member_added (eq_by_cmp proc_cmp q) c.args.nspace.now c.loop-rank.rank (contains proc_cmp c.add.new.all q) (contains proc_cmp c.loop-rank.all q) (contains proc_cmp c.args.all.now q)
    (c.in_ok-add.ensures q ∙ (λ i. eq_by_cmp proc_cmp q (record { nspace = (c.new-in-loop-rank.ensures.nspace ∙ c.in_ok-copy.ensures) i; rank = (c.new-in-loop-rank.ensures.rank ∙ c.new.ensures) i }) || contains proc_cmp c.loop-rank.all q))
    (c.loop-rank.invariant q)
