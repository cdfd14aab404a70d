use Rattle.std.proofs.Common.{ℕ, ◌+◌, sym, ap, ◌∙◌, arith}
use Rattle.std.specs.FinSet as set
use Rattle.pmg_jobinfo.specs.Expansion.{expansion}
use Rattle.pmg_jobinfo.proofs.MeantLemmas.{rank_counted, rank_passed}
use Rattle.pmg_jobinfo.proofs.registry.Registry.count_new_ranks.Goals as goal
use Rattle.pmg_jobinfo.proofs.registry.Registry.count_new_ranks.Goals.{then-not-is_rank_meant, else-not-is_rank_meant}

pub loop-rank-preserved : goal.loop-rank-preserved
loop-rank-preserved c =
    let jobs = c.args.self.now in
    let name = c.args.nspace.now in
    let list = c.args.list.now in
    let n = c.loop-rank.rank in
    let there = ap (λ (k : ℕ). set.contains (expansion jobs list) (record { nspace = name; rank = k })) (sym c.new.ensures) ∙ sym c.is_rank_meant.ensures in
    elim c.if-not-is_rank_meant.branch [
      | then-not-is_rank_meant w ↦ record {
        so_far = w.count-is ∙ ap (λ (k : ℕ). k + 1) c.loop-rank.invariant.so_far ∙ sym (rank_counted jobs name list n (there ∙ w.if-not-is_rank_meant.true));
        few = let few = c.loop-rank.invariant.few in let is = w.count-is in omega (arith, few, is);
      }
      | else-not-is_rank_meant w ↦ record {
        so_far = w.count-is ∙ c.loop-rank.invariant.so_far ∙ sym (rank_passed jobs name list n (there ∙ w.if-not-is_rank_meant.false));
        few = let few = c.loop-rank.invariant.few in let is = w.count-is in omega (arith, few, is);
      }
    ]
