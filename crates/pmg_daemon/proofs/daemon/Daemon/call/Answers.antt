use Rattle.std.proofs.Common.{sym, subst, ◌∙◌}
use Rattle.std.proofs.lemmas.Result.{on_err_weaker}
use Rattle.pmg_link.specs.Links.{Linked}
use Rattle.pmg_daemon.specs.Daemons.{Made}
use Rattle.pmg_daemon.proofs.CallLemmas.{makes}
use Rattle.pmg_daemon.proofs.daemon.Daemon.call.Goals as goal

pub returns-clause-makes : goal.returns-clause-makes
returns-clause-makes c = λ due reads.
    makes due c.args.self.now c.keep.new.self c.keep.result (c.keep.ensures.inboxes ∙ c.answer-answer.ensures.inboxes) c.answer-answer.result
    (subst (λ (l : Linked). Made due c.args.self.now.link c.answer-answer.result l) (sym c.keep.ensures.link) (c.answer-answer.ensures.made due reads))
    c.keep.ensures.code c.keep.ensures.ok
    (on_err_weaker c.answer-answer.result (λ kept. kept ∙ c.answer-answer.ensures.reply) c.keep.ensures.err)
