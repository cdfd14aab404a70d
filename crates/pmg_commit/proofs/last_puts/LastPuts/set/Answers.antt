use Rattle.std.proofs.Common.{ap, ◌∙◌}
use Rattle.std.specs.FinMap as finite
use Rattle.std.specs.Cmp.Lexicographic.{nat_list_cmp_total}
use Rattle.std.proofs.lemmas.Map.Lookups.{exact_bytes}
use Rattle.pmg_value.proofs.RowLemmas.{rows_with}
use Rattle.pmg_commit.specs.Stamped.{stamp_of}
use Rattle.pmg_commit.proofs.last_puts.LastPuts.set.Goals as goal

pub returns-clause-ok : goal.returns-clause-ok
returns-clause-ok c =
    rows_with nat_list_cmp_total exact_bytes stamp_of c.self.inside.rows.entries c.insert.new.self.entries c.args.key c.args.put (c.in_ok-insert.ensures).updates.0
    ∙ ap (λ m. finite.insert m c.args.key (stamp_of c.args.put)) c.self.view_is
