use Rattle.std.proofs.Common.{refl}
use Rattle.pmg_grouptext.proofs.LineLemmas.{cut_all, cut_at, cut_none}
use Rattle.pmg_grouptext.proofs.group.cut_line.Goals as goal

pub returns-in-Some : goal.returns-in-Some
returns-in-Some c = rw (c.split_at.ensures.front, c.split_at.ensures.back) (cut_at c.args.text.now c.in-Some.at c.in-Some.ensures.value)

pub returns-in-None : goal.returns-in-None
returns-in-None c =
    rw (c.split_at-in-None.ensures.front, c.split_at-in-None.ensures.back) (cut_all c.args.text.now _ refl (cut_none c.args.text.now c.in-None.ensures.value))
