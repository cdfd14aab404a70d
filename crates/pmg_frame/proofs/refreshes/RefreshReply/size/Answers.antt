use Rattle.std.proofs.Common.{◌≡◌, List, length, map, ap, ◌∙◌, arith}
use Rattle.std.specs.List.{sum_by}
use Rattle.pmg_commit.specs.Entries.{Entry}
use Rattle.pmg_commit.specs.Pieces.{entry_of, entry_size, contribution}
use Rattle.pmg_frame.specs.Refreshing.{refresh_reply}
use Rattle.pmg_frame.proofs.RefreshTests.{reply_small}
use Rattle.pmg_frame.proofs.refreshes.RefreshReply.size.Goals as goal

pub returns-clause-bound : goal.returns-clause-bound
returns-clause-bound c =
    let x = c.self.inside in
    let told = contribution x.proc x.from x.to x.entries.items in
    let entries : map entry_of c.entries.result.now ≡ map entry_of x.entries.items = rw (← c.self.view_is) at c.entries.ensures.value in
    omega (
      arith,
      reply_small (refresh_reply x.node x.request told) c.self.invariant,
      ap length c.as_bytes.ensures.value,
      c.entries_size.ensures.value ∙ ap (λ (es : List Entry). sum_by entry_size es) entries,
    )
