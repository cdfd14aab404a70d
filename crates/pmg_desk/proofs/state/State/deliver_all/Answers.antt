use Rattle.std.proofs.Common.{List, [], ◌∷◌, ◌++◌, sym, ap, ◌∙◌, append_assoc, rules}
use Rattle.pmg_frame.specs.declared.frame.Frame.{Frame}
use Rattle.pmg_node.specs.Acting.{reply_as}
use Rattle.pmg_node.specs.Servers.{reply_in}
use Rattle.pmg_journal.specs.Journals.{happened_in}
use Rattle.pmg_desk.proofs.PlaceLemmas.{at_on, at_same}
use Rattle.pmg_value.specs.declared.refusal.Refusal.{Refusal}
use Rattle.pmg_desk.proofs.ComeLemmas.{come_more, come_none}
use Rattle.pmg_desk.proofs.KnownLemmas.{err_other, ok_other}
use Rattle.pmg_desk.proofs.state.State.deliver_all.Goals as goal

pub loop-frame-init : goal.loop-frame-init
loop-frame-init g c = record { all = search rules; come = come_none (happened_in c.args.self.now.journal); place = at_same c.args.self.now; stays_open = λ some. some }

pub loop-frame-preserved : goal.loop-frame-preserved
loop-frame-preserved g c =
    let loop = c.loop-frame in
    let frame : Frame = c.in-Some.frame in
    let cut = c.in-Some.ensures.steps.0 in
    record {
      all = append_assoc loop.yielded (frame ∷ []) c.next.new.self.rest.items ∙ ap (λ (l : List Frame). loop.yielded ++ l) (sym cut) ∙ loop.invariant.all;
      come = come_more loop.yielded frame (happened_in c.args.self.now.journal) (happened_in loop.self.journal) (happened_in c.happen.new.self.journal)
          (reply_in reply_as c.in_ok-happen.field-0.told) c.in_ok-happen.ensures.event loop.invariant.come;
      place = at_on c.args.self.now loop.self c.happen.new.self loop.invariant.place c.happen.ensures.place;
      stays_open = λ some. c.happen.ensures.open (loop.invariant.stays_open some) (ok_other c.happen.result c.in_ok-happen.field-0 (search rules));
    }

pub returns-in_err-happen-clause-open : goal.returns-in_err-happen-clause-open
returns-in_err-happen-clause-open g c = λ some other.
    let e : Refusal = c.in_err-happen.field-0.0 in
    c.happen.ensures.open (c.loop-frame.invariant.stays_open some) (err_other c.happen.result c.from_residual.result e (search rules) (search rules) other)

pub returns-clause-open : goal.returns-clause-open
returns-clause-open g c = λ some other. c.loop-frame.invariant.stays_open some
