use Rattle.std.proofs.Common.{◌≡◌, ◌<◌, length, Ok, ap, sym, ◌∙◌, rules}
use Rattle.std.proofs.lemmas.Result.{err_from_is_err_and}
use Rattle.pmg_script.specs.Scripts.{said}
use Rattle.pmg_grouptext.specs.Groups.{group_in, if_opened, after_line}
use Rattle.pmg_grouptext.proofs.GroupLemmas.{all_read, read_more, read_none, reads_none}
use Rattle.pmg_grouptext.proofs.group.read_group.Goals as goal

pub returns-in_err-take_line : goal.returns-in_err-take_line
returns-in_err-take_line c =
    let some : 0 < length c.loop-left.left.now = search rules in
    let err = err_from_is_err_and c.from_residual.result c.from_residual.ensures.1 in
    rw (err.1, err.2) (reads_none (λ r. r) c.in_err-take_line.field-0.0 (group_in c.args.text.now) (λ other.
    read_none c.loop-left.group c.loop-left.left.now c.cut_line.result.0.now c.cut_line.result.1.now c.args.text.now some c.cut_line.ensures c.loop-left.invariant c.in_err-take_line.field-0.0
    (ap (λ l. after_line c.loop-left.group (said l)) (sym c.content.ensures) ∙ c.in_err-take_line.ensures.refused other)))

pub loop-left-preserved : goal.loop-left-preserved
loop-left-preserved c =
    let some : 0 < length c.loop-left.left.now = search rules in
    read_more c.loop-left.group c.loop-left.left.now c.cut_line.result.0.now c.cut_line.result.1.now c.args.text.now some c.cut_line.ensures c.loop-left.invariant c.take_line.new.group
    (ap (λ l. after_line c.loop-left.group (said l)) (sym c.content.ensures) ∙ c.in_ok-take_line.ensures.ok)

pub returns-in-Some : goal.returns-in-Some
returns-in-Some c =
    let none : length c.loop-left.left.now ≡ 0 = search rules in
    all_read c.loop-left.group c.loop-left.left.now c.args.text.now none c.loop-left.invariant ∙ ap (λ begun. if_opened (Ok begun)) c.in-Some.is

pub returns-in-None : goal.returns-in-None
returns-in-None c =
    let none : length c.loop-left.left.now ≡ 0 = search rules in
    all_read c.loop-left.group c.loop-left.left.now c.args.text.now none c.loop-left.invariant ∙ ap (λ begun. if_opened (Ok begun)) c.in-None.is
