use Rattle.std.proofs.Common.{sym}
use Rattle.pmg_value.specs.Within.{lies_within}
use Rattle.pmg_value.proofs.EightLemmas.{all_eight}
use Rattle.pmg_value.proofs.within.eight_within.Goals as goal

pub returns : goal.returns
returns c =
    rw (c.lies_within.ensures, c.lies_within-2.ensures, c.lies_within-3.ensures, c.lies_within-4.ensures, c.lies_within-5.ensures, c.lies_within-6.ensures, c.lies_within-7.ensures, c.lies_within-8.ensures)
    (sym (all_eight (lies_within c.args.least c.args.most) c.args.eight.now c.requires))
