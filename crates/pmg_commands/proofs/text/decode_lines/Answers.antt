use Rattle.std.proofs.Common.{subst, ◌≡◌, ◌++◌, drop, length, map, sym, ap, ◌∙◌, Ok}
use Rattle.std.proofs.lemmas.List.{take-append-drop}
use Rattle.bstr.specs.Text.{lines_of, without_terminator}
use Rattle.pmg_commands.proofs.LineLemmas.{Decoding, decoding_start, decoding_next, decoding_end}
use Rattle.pmg_commands.proofs.text.decode_lines.Goals as goal

pub loop-line-init : goal.loop-line-init
loop-line-init c =
    let text = c.args.text.now in
    subst (λ lines. Decoding text lines c.in_ok-bytes.bytes.items) (sym (c.into_iter-line-iterator.ensures.into_iter_gives ∙ c.lines-line-items.ensures.value))
    (subst (Decoding text (map without_terminator (lines_of text))) (sym c.in_ok-bytes.ensures.items) (decoding_start text))

pub loop-line-preserved : goal.loop-line-preserved
loop-line-preserved c =
    let text = c.args.text.now in
    let bytes = c.loop-line.bytes.items in
    let longer = c.push_line.new.bytes.items in
    let block = drop (length bytes) longer in
    let so_far = subst (λ lines. Decoding text lines bytes) c.in-Some.ensures.steps c.loop-line.invariant in
    let whole : bytes ++ block ≡ longer = ap (λ front. front ++ block) (sym c.in_ok-push_line.ensures.others) ∙ take-append-drop (length bytes) longer in
    let done = c.if-not-branch.false in
    subst (Decoding text c.next.new.self) whole
    (decoding_next text c.in-Some.line.now c.next.new.self bytes block so_far (c.in_ok-push_line.ensures.line done) (c.in_ok-push_line.ensures.even done))

pub returns : goal.returns
returns c =
    let all = subst (λ lines. Decoding c.args.text.now lines c.loop-line.bytes.items) c.in-None.ensures.steps.0 c.loop-line.invariant in
    decoding_end c.args.text.now c.loop-line.bytes.items all ∙ ap Ok (sym c.shrink_to_fit.ensures.items)
