use Rattle.std.proofs.Common.{◌∙◌, ap, sym, Some, List, ℕ, Bor}
use Rattle.std.proofs.lemmas.Result.{err_from_is_err_and, IfOk-weaker}
use Rattle.pmg_script.specs.Scripts.{Line, line_of, said, texts}
use Rattle.pmg_world.specs.Stages.{OpensAt, PlaysLine, RegistersAt, RunsAt}
use Rattle.pmg_script.specs.declared.script.Line.{Line as SaidLine}
use Rattle.pmg_world.proofs.StageSteps.{not_read, same_fault, plays_nothing, plays_nodes, plays_space, plays_other, stops_unread, stops_nodes, stops_space, stops_other}
use Rattle.pmg_world.proofs.stage.StagePlayer.play.Goals as goal

pub returns-in_err-line-clause-malformed : goal.returns-in_err-line-clause-malformed
returns-in_err-line-clause-malformed c bad =
    let p = err_from_is_err_and c.from_residual.result c.from_residual.ensures.1 in
    stops_unread c.args.self.now c.args.line.now
    (not_read c.in_err-line.field-0.0 (said c.args.line.now) c.in_err-line.ensures (same_fault c.from_residual.result p.0 c.in_err-line.field-0.0 p.1 p.2 bad))

pub returns-in-Nothing-clause-ok : goal.returns-in-Nothing-clause-ok
returns-in-Nothing-clause-ok c =
    plays_nothing c.args.self.now c.args.line.now c.new.result.items (c.in_ok-line.ensures ∙ ap (λ (l : SaidLine). Some (line_of l)) c.in-Nothing.is) c.new.ensures.items

pub returns-in-Nodes-clause-ok : goal.returns-in-Nodes-clause-ok
returns-in-Nodes-clause-ok c =
    let is = c.in_ok-line.ensures ∙ ap (λ (l : SaidLine). Some (line_of l)) c.in-Nodes.is ∙ ap (λ (ns : List (Bor (List ℕ))). Some (Line.nodes (texts ns))) (sym c.deref.ensures.value) in
    IfOk-weaker c.open.result (λ text. OpensAt c.args.self.now (texts c.deref.result.now) text.items c.open.new.self)
    (λ text. PlaysLine c.args.self.now c.args.line.now text.items c.open.new.self)
    (λ text opens. plays_nodes c.args.self.now c.args.line.now (texts c.deref.result.now) text.items c.open.new.self is opens) c.open.ensures.ok

pub returns-in-Nodes-clause-malformed : goal.returns-in-Nodes-clause-malformed
returns-in-Nodes-clause-malformed c bad =
    let is = c.in_ok-line.ensures ∙ ap (λ (l : SaidLine). Some (line_of l)) c.in-Nodes.is ∙ ap (λ (ns : List (Bor (List ℕ))). Some (Line.nodes (texts ns))) (sym c.deref.ensures.value) in
    stops_nodes c.args.self.now c.args.line.now (texts c.deref.result.now) is (c.open.ensures.malformed bad)

pub returns-in-Space-clause-ok : goal.returns-in-Space-clause-ok
returns-in-Space-clause-ok c =
    let is = c.in_ok-line.ensures ∙ ap (λ (l : SaidLine). Some (line_of l)) c.in-Space.is ∙ ap (λ (hs : List ℕ). Some (Line.space c.in-Space.nspace.now hs)) (sym c.deref-in-Space.ensures.value) in
    IfOk-weaker c.register.result (λ text. RegistersAt c.args.self.now c.in-Space.nspace.now c.deref-in-Space.result.now text.items c.register.new.self)
    (λ text. PlaysLine c.args.self.now c.args.line.now text.items c.register.new.self)
    (λ text registers. plays_space c.args.self.now c.args.line.now c.in-Space.nspace.now c.deref-in-Space.result.now text.items c.register.new.self is registers) c.register.ensures.ok

pub returns-in-Space-clause-malformed : goal.returns-in-Space-clause-malformed
returns-in-Space-clause-malformed c bad =
    let is = c.in_ok-line.ensures ∙ ap (λ (l : SaidLine). Some (line_of l)) c.in-Space.is ∙ ap (λ (hs : List ℕ). Some (Line.space c.in-Space.nspace.now hs)) (sym c.deref-in-Space.ensures.value) in
    stops_space c.args.self.now c.args.line.now c.in-Space.nspace.now c.deref-in-Space.result.now is (c.register.ensures.malformed bad)

pub returns-in_default : goal.returns-in_default
returns-in_default c =
    record {
      ok =
          IfOk-weaker c.run.result (λ text. RunsAt c.args.self.now (line_of c.in_ok-line.line) text.items c.run.new.self)
          (λ text. PlaysLine c.args.self.now c.args.line.now text.items c.run.new.self)
          (λ text runs. plays_other c.args.self.now c.args.line.now (line_of c.in_ok-line.line) text.items c.run.new.self c.in_ok-line.ensures runs) c.run.ensures.ok;
      malformed = λ bad.
          stops_other c.args.self.now c.args.line.now c.in_ok-line.line c.in_default.not-Nothing c.in_default.not-Nodes c.in_default.not-Space c.in_ok-line.ensures (c.run.ensures.malformed bad);
    }
