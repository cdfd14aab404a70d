use Rattle.std.proofs.Common.{sym, subst}
use Rattle.std.proofs.lemmas.Bool.{le-leb}
use Rattle.pmg_fence.specs.Codes.{Known}
use Rattle.pmg_fence.specs.Kept.{IsKept}
use Rattle.pmg_fence.proofs.EndLemmas.{end_done}
use Rattle.pmg_fence.proofs.KeptLemmas.{kept_ended}
use Rattle.pmg_fence.proofs.table.Table.end.Goals as goal

pub invariant_of-self-in-Ok : goal.invariant_of-self-in-Ok
invariant_of-self-in-Ok c =
    subst (λ (k : Known). IsKept k c.self.inside.owns)
    (sym (end_done c.args.self.now c.args.proc.now c.in_ok-copy.field-0 c.in_ok-ended.ended c.args.level c.self.inside.registry c.self.inside.node c.self.inside.series c.self.inside.ends c.put.new.self
    c.self.inside.waiting.items _ c.append.new.self.items c.self.view_is c.in_ok-copy.ensures c.in_ok-ended.ensures c.in-Ok.ensures.ok c.in_ok-news.ensures c.in_ok-append.ensures.items))
    (kept_ended c.args.self.now c.self.inside.owns c.args.proc.now c.args.level (subst (λ (k : Known). IsKept k c.self.inside.owns) c.self.view_is c.self.invariant) (le-leb _ _ c.requires))

pub returns-clause-ok : goal.returns-clause-ok
returns-clause-ok c =
    end_done c.args.self.now c.args.proc.now c.in_ok-copy.field-0 c.in_ok-ended.ended c.args.level c.self.inside.registry c.self.inside.node c.self.inside.series c.self.inside.ends c.put.new.self
    c.self.inside.waiting.items _ c.append.new.self.items c.self.view_is c.in_ok-copy.ensures c.in_ok-ended.ensures c.in-Ok.ensures.ok c.in_ok-news.ensures c.in_ok-append.ensures.items
