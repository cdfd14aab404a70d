use Rattle.std.proofs.Common.{rules, ◌≡◌, sym, ◌∙◌}
use Rattle.std.proofs.lemmas.Option.{none-some, same_Some}
use Rattle.pmg_desk.proofs.WaitLemmas.{frames_there, nothing_there, past_there}
use Rattle.pmg_desk.proofs.lock.WaitFor.is_there.Goals as goal

pub returns-in-Nothing : goal.returns-in-Nothing
returns-in-Nothing c = λ is. nothing_there c.args.self.now c.args.state.now.node c.in-Nothing.is

pub returns-then-has_frames : goal.returns-then-has_frames
returns-then-has_frames c = λ is. frames_there c.args.self.now c.args.state.now.node c.in-Frames.is

pub returns-else-has_frames : goal.returns-else-has_frames
returns-else-has_frames c = λ is. frames_there c.args.self.now c.args.state.now.node c.in-Frames.is

pub returns-in-Some : goal.returns-in-Some
returns-in-Some c = λ is.
    let apart : c.in-Some.found ≡ c.in-Past.status → ⊥ = search rules in
    past_there c.args.self.now c.args.state.now.node c.in-Past.proc c.in-Past.status c.in-Past.is c.status.result c.status.ensures
    (λ x found same. apart (same_Some c.in-Some.found x (sym c.in-Some.is ∙ found) ∙ same))

pub returns-in-None : goal.returns-in-None
returns-in-None c = λ is.
    past_there c.args.self.now c.args.state.now.node c.in-Past.proc c.in-Past.status c.in-Past.is c.status.result c.status.ensures
    (λ x found same. none-some x (sym c.in-None.is ∙ found))
