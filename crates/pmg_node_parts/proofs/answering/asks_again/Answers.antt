use Rattle.std.proofs.Common.{sym, ap, ◌∙◌}
use Rattle.std.specs.Prelude.{◌==◌}
use Rattle.std.proofs.lemmas.Result.{IfOk-weaker}
use Rattle.pmg_jobinfo.specs.Jobs.{Jobs, home_of}
use Rattle.pmg_node_parts.specs.Answered.{asked_for}
use Rattle.pmg_node_parts.proofs.AskAgain.{asked_again, never_asked}
use Rattle.pmg_node_parts.proofs.answering.asks_again.Goals as goal

pub returns-then-is_home : goal.returns-then-is_home
returns-then-is_home c = λ h table near far calls.
    let q = c.args.proc.now in
    let home = ap (λ (jobs : Jobs). home_of jobs q == c.args.id) (sym c.registry-registry.ensures) ∙ sym c.is_home.ensures ∙ c.if-is_home.true in
    c.new.ensures.items ∙ never_asked c.args.table.now.jobs c.args.id q h home

pub returns : goal.returns
returns c =
    let jobs = c.args.table.now.jobs in
    let id = c.args.id in
    let q = c.args.proc.now in
    let away = ap (λ (jobs : Jobs). home_of jobs q == id) (sym c.registry-registry.ensures) ∙ sym c.is_home.ensures ∙ c.if-is_home.false in
    IfOk-weaker c.ask_for.result _ _
    (λ dues is h table near far calls.
    is
    ∙ (λ i. asked_for (c.registry-registry.ensures i) id (sym near i) (sym far i) q (c.in_ok-parked_on.ensures i))
    ∙ asked_again jobs id q h c.args.calls.now c.requires.plain away calls)
    c.ask_for.ensures
