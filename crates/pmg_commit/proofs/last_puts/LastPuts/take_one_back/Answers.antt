use Rattle.std.specs.Cmp.Lexicographic.{nat_list_cmp_total}
use Rattle.std.proofs.lemmas.Map.Lookups.{exact_bytes}
use Rattle.pmg_value.proofs.RowLemmas.{rows_back}
use Rattle.pmg_commit.specs.Stamped.{stamp_of}
use Rattle.pmg_commit.proofs.last_puts.LastPuts.take_one_back.Goals as goal

pub returns : goal.returns
returns c = rows_back nat_list_cmp_total exact_bytes stamp_of c.self.inside.rows.entries c.put_back.new.rows.entries c.args.self.now c.args.key c.args.before c.self.view_is c.put_back.ensures
