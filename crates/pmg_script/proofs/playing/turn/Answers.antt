use Rattle.std.proofs.Common.{◌≡◌, ◌∙◌, ◌<◌, ℕ, Bool, List, [], ◌∷◌, length, Ok, arith, rules, refl, ap, sym, subst}
use Rattle.std.specs.Io.KnownBytes.{Appends}
use Rattle.std.proofs.lemmas.Result.{err_from_is_err_and}
use Rattle.pmg_value.specs.Written.{AppendsFront}
use Rattle.pmg_script.specs.Lines.{content}
use Rattle.pmg_script.specs.Reading.{NextLine}
use Rattle.pmg_script.proofs.ReplayLemmas.{going_on, ends_empty, ends_last, ends_over, ends_undone, ends_unread, ends_unwritten}
use Rattle.pmg_script.proofs.playing.turn.Goals as goal

nothing : (line : List ℕ) → length line ≡ 0 → line ≡ []
nothing [] none = refl
nothing (b ∷ bs) none = absurd (omega (arith, none))

pub returns-in_err-is_ended-clause-turned : goal.returns-in_err-is_ended-clause-turned
returns-in_err-is_ended-clause-turned g c start text first going =
    let err = err_from_is_err_and c.from_residual.result c.from_residual.ensures.1 in
    rw (err.1, err.2) (ends_unread g.P.Player.plays g.P.Player.stops g.P.Player.over start text (g.R.Read.remaining c.args.reader.now.reader) (g.R.Read.remaining c.next_line.new.reader.reader) first (g.W.Write.contents c.args.writer.now.writer) c.args.player.now c.args.offset.now c.next_line.new.line.items c.in_err-is_ended.field-0.0 going c.in_err-is_ended.ensures.line)

pub returns-then-is_empty-clause-turned : goal.returns-then-is_empty-clause-turned
returns-then-is_empty-clause-turned g c start text first going =
    let none : length c.next_line.new.line.items ≡ 0 = search rules in
    let empty = nothing c.next_line.new.line.items none in
    ends_empty g.P.Player.plays g.P.Player.stops g.P.Player.over start text (g.R.Read.remaining c.args.reader.now.reader) (g.R.Read.remaining c.next_line.new.reader.reader) first (g.W.Write.contents c.args.writer.now.writer) c.args.player.now c.args.offset.now c.next_line.new.line.items c.in_ok-is_ended.is_ended going c.in_ok-is_ended.ensures.line empty

pub returns-in-Err-clause-turned : goal.returns-in-Err-clause-turned
returns-in-Err-clause-turned g c start text first going =
    let some : 0 < length c.next_line.new.line.items = search rules in
    ends_undone g.P.Player.plays g.P.Player.stops g.P.Player.over start text (g.R.Read.remaining c.args.reader.now.reader) (g.R.Read.remaining c.next_line.new.reader.reader) first (g.W.Write.contents c.args.writer.now.writer) c.args.player.now c.args.offset.now c.next_line.new.line.items c.content.result.now c.in_ok-is_ended.is_ended c.in-Err.fault c.failure_of.result going
    c.in_ok-is_ended.ensures.line some (c.content.ensures ∙ ap content c.deref.ensures.value) c.in-Err.ensures.malformed c.failure_of.ensures.malformed c.failure_of.ensures.memory

pub returns-in_err-put_text-clause-turned : goal.returns-in_err-put_text-clause-turned
returns-in_err-put_text-clause-turned g c start text first going =
    let err = err_from_is_err_and c.from_residual-in_err-put_text.result c.from_residual-in_err-put_text.ensures.1 in
    let some : 0 < length c.next_line.new.line.items = search rules in
    let played = subst (λ held. g.P.Player.plays c.args.player.now held c.in-Ok.text.items c.play.new.self) (c.content.ensures ∙ ap content c.deref.ensures.value) c.in-Ok.ensures.ok in
    let front = subst (λ bytes. AppendsFront (g.W.Write.contents c.args.writer.now.writer) (g.W.Write.contents c.put_text.new.self.writer) bytes) c.deref-2.ensures.value c.in_err-put_text.ensures.text.0 in
    rw (err.1, err.2) (ends_unwritten g.P.Player.plays g.P.Player.stops g.P.Player.over start text (g.R.Read.remaining c.args.reader.now.reader) (g.R.Read.remaining c.next_line.new.reader.reader) first (g.W.Write.contents c.args.writer.now.writer) (g.W.Write.contents c.put_text.new.self.writer) c.args.player.now c.args.offset.now c.next_line.new.line.items c.in-Ok.text.items c.play.new.self c.in_ok-is_ended.is_ended going
    c.in_ok-is_ended.ensures.line some played front)

pub returns-then-is_over-clause-turned : goal.returns-then-is_over-clause-turned
returns-then-is_over-clause-turned g c start text first going =
    let some : 0 < length c.next_line.new.line.items = search rules in
    let played = subst (λ held. g.P.Player.plays c.args.player.now held c.in-Ok.text.items c.play.new.self) (c.content.ensures ∙ ap content c.deref.ensures.value) c.in-Ok.ensures.ok in
    let wrote = subst (λ bytes. Appends (g.W.Write.contents c.args.writer.now.writer) (g.W.Write.contents c.put_text.new.self.writer) bytes) c.deref-2.ensures.value c.in_ok-put_text.ensures.text.1 in
    ends_over g.P.Player.plays g.P.Player.stops g.P.Player.over start text (g.R.Read.remaining c.args.reader.now.reader) (g.R.Read.remaining c.next_line.new.reader.reader) first (g.W.Write.contents c.args.writer.now.writer) (g.W.Write.contents c.put_text.new.self.writer) c.args.player.now c.args.offset.now c.next_line.new.line.items c.in-Ok.text.items c.play.new.self c.in_ok-is_ended.is_ended going
    c.in_ok-is_ended.ensures.line some played wrote (sym c.is_over.ensures ∙ c.if-is_over.true)

pub returns-then-not-is_ended-clause-turned : goal.returns-then-not-is_ended-clause-turned
returns-then-not-is_ended-clause-turned g c start text first going =
    let some : 0 < length c.next_line.new.line.items = search rules in
    let played = subst (λ held. g.P.Player.plays c.args.player.now held c.in-Ok.text.items c.play.new.self) (c.content.ensures ∙ ap content c.deref.ensures.value) c.in-Ok.ensures.ok in
    let wrote = subst (λ bytes. Appends (g.W.Write.contents c.args.writer.now.writer) (g.W.Write.contents c.put_text.new.self.writer) bytes) c.deref-2.ensures.value c.in_ok-put_text.ensures.text.1 in
    let next = subst (λ (b : Bool). NextLine c.args.offset.now (g.R.Read.remaining c.args.reader.now.reader) (g.R.Read.remaining c.next_line.new.reader.reader) c.next_line.new.line.items (Ok b)) c.if-not-is_ended.true c.in_ok-is_ended.ensures.line in
    ends_last g.P.Player.plays g.P.Player.stops g.P.Player.over start text (g.R.Read.remaining c.args.reader.now.reader) (g.R.Read.remaining c.next_line.new.reader.reader) first (g.W.Write.contents c.args.writer.now.writer) (g.W.Write.contents c.put_text.new.self.writer) c.args.player.now c.args.offset.now c.next_line.new.line.items c.in-Ok.text.items c.play.new.self going next some played wrote (sym c.is_over.ensures ∙ c.if-is_over.false)

pub returns-clause-turned : goal.returns-clause-turned
returns-clause-turned g c start text first going =
    let played = subst (λ held. g.P.Player.plays c.args.player.now held c.in-Ok.text.items c.play.new.self) (c.content.ensures ∙ ap content c.deref.ensures.value) c.in-Ok.ensures.ok in
    let wrote = subst (λ bytes. Appends (g.W.Write.contents c.args.writer.now.writer) (g.W.Write.contents c.put_text.new.self.writer) bytes) c.deref-2.ensures.value c.in_ok-put_text.ensures.text.1 in
    let next = subst (λ (b : Bool). NextLine c.args.offset.now (g.R.Read.remaining c.args.reader.now.reader) (g.R.Read.remaining c.next_line.new.reader.reader) c.next_line.new.line.items (Ok b)) c.if-not-is_ended.false c.in_ok-is_ended.ensures.line in
    let size : c.len.result ≡ length c.next_line.new.line.items = search rules in
    rw size (going_on g.P.Player.plays g.P.Player.stops g.P.Player.over start text (g.R.Read.remaining c.args.reader.now.reader) (g.R.Read.remaining c.next_line.new.reader.reader) first (g.W.Write.contents c.args.writer.now.writer) (g.W.Write.contents c.put_text.new.self.writer) c.args.player.now c.args.offset.now c.next_line.new.line.items c.in-Ok.text.items c.play.new.self going next played wrote (sym c.is_over.ensures ∙ c.if-is_over.false))
