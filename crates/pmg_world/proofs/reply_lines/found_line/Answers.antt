use Rattle.std.proofs.Common.{◌≡◌, ◌++◌, ◌∙◌, ap, sym, refl, codes, append_assoc}
use Rattle.pmg_value.specs.Spelling.{spelling, IsValue}
use Rattle.pmg_value.specs.Text.{text_of}
use Rattle.pmg_value.specs.declared.value.Value.{Value}
use Rattle.pmg_wire.specs.Fields.{whole_value}
use Rattle.pmg_wire.proofs.WholeLaws.{whole_only}
use Rattle.pmg_world.specs.ReplyLines.{found_text}
use Rattle.pmg_world.proofs.reply_lines.found_line.Goals as goal

-- the text of a value's canonical bytes is that of the value
found_is : (v : Value) → IsValue v → text_of v ≡ found_text (whole_value (spelling v))
found_is v is = sym (ap found_text (whole_only (spelling v) v (record { text = refl; is = is })))

pub returns : goal.returns
returns c =
    let words = ap (λ bytes. bytes ++ text_of c.args.value.now) c.in_ok-words.ensures in
    let text = ap (λ bytes. codes "found " ++ bytes) (found_is c.args.value.now c.in_ok-line.ensures.is) in
    c.in_ok-end_line.ensures ∙ ap (λ bytes. bytes ++ codes "\n") (c.in_ok-line.ensures.text ∙ words ∙ text)
    ∙ append_assoc (codes "found ") (found_text (whole_value (spelling c.args.value.now))) (codes "\n")
