use Rattle.std.specs.BTreeSet.{contains}
use Rattle.pmg_value.specs.Process.{proc_cmp}
use Rattle.pmg_jobinfo.proofs.MemberLemmas.{put_is}
use Rattle.pmg_jobinfo.proofs.expansion.add.Goals as goal

pub returns : goal.returns
returns c = λ q. put_is c.args.proc q (contains proc_cmp c.insert.new.self q) (contains proc_cmp c.args.all.now q) (c.in_ok-insert.ensures.updates.0 q)
