use Rattle.std.proofs.Common.{◌<◌, rules, refl, sym, ◌∙◌, arith}
use Rattle.pmg_value.proofs.WrittenLemmas.{appends_nothing, first_part, front_of_all, two_parts}
use Rattle.pmg_lane.specs.declared.track.Reads.TheVariants as reads
use Rattle.pmg_store.proofs.DumpLemmas.{silent, first_told}
use Rattle.pmg_store.proofs.SingleText.{shown_text}
use Rattle.pmg_store.proofs.dump.put_proc.Goals as goal

pub returns-then-level-eq0-clause-text : goal.returns-then-level-eq0-clause-text
returns-then-level-eq0-clause-text g c =
    let nothing = appends_nothing (g.W.Write.contents c.args.writer.now.writer) in
    rw (silent c.args.proc.now c.args.lane.now (sym c.level-level.ensures.value ∙ c.if-level-eq0.true)) (front_of_all _ _ _ nothing, nothing)

pub returns-in_err-put_proc_line-clause-text : goal.returns-in_err-put_proc_line-clause-text
returns-in_err-put_proc_line-clause-text g c =
    let n = c.level-level.result in
    let some : 0 < n = omega arith in
    rw (first_told c.args.proc.now c.args.lane.now n c.level-level.ensures.value some) (first_part _ _ _ _ _ _ refl c.in_err-put_proc_line.ensures.text.0 (search rules))

pub returns-in-Few-clause-text : goal.returns-in-Few-clause-text
returns-in-Few-clause-text g c =
    let n = c.level-level.result in
    let some : 0 < n = omega arith in
    let told = shown_text c.args.proc.now c.args.lane.now (reads.Few c.in-Few.entries) n c.reads.ensures.kept c.in-Few.ensures.shown c.level-level.ensures.value some tt in
    rw told (two_parts _ _ _ _ _ _ _ _ refl refl c.put_entry_lines.ensures.lines c.in_ok-put_proc_line.ensures.text.1)

pub returns-in-Many-clause-text : goal.returns-in-Many-clause-text
returns-in-Many-clause-text g c =
    let n = c.level-level.result in
    let some : 0 < n = omega arith in
    let told = shown_text c.args.proc.now c.args.lane.now (reads.Many c.in-Many.reads) n c.reads.ensures.kept c.in-Many.ensures.shown c.level-level.ensures.value some c.put_key_lines.ensures.ordered in
    rw told (two_parts _ _ _ _ _ _ _ _ refl refl c.put_key_lines.ensures.lines c.in_ok-put_proc_line.ensures.text.1)
