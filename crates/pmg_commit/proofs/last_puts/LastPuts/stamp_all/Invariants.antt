use Rattle.std.proofs.Common.{◌≡◌, drop}
use Rattle.pmg_value.specs.Spelling.{spelling}
use Rattle.pmg_scope.specs.Rows.{table_of}
use Rattle.pmg_value.proofs.RowLemmas.{shown}
use Rattle.pmg_commit.specs.Sealed.{stamp_all, stamped}
use Rattle.pmg_commit.specs.TakenBack.{all_back}
use Rattle.pmg_commit.proofs.last_puts.LastPuts.stamp_all.Given as goal

abbrev pub invariant-loop-key : goal.invariant-loop-key
invariant-loop-key l = record {
  so_far : stamp_all l.number l.self (shown spelling (drop l.key-index l.puts)) ≡ stamped l.number (table_of l.puts) l.fn.self;
  back : all_back l.self l.before.items ≡ all_back l.fn.self l.fn.before.items;
}
