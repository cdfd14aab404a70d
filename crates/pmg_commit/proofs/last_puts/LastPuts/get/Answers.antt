use Rattle.std.specs.Cmp.Lexicographic.{nat_list_cmp_total}
use Rattle.pmg_value.proofs.RowLemmas.{read_rows}
use Rattle.pmg_commit.specs.Stamped.{stamp_of}
use Rattle.pmg_commit.proofs.last_puts.LastPuts.get.Goals as goal

pub returns : goal.returns
returns c = read_rows nat_list_cmp_total stamp_of c.self.inside.rows.entries c.args.self.now c.args.key.now c.get.result c.self.view_is c.get.ensures.value
