use Rattle.std.proofs.Common.{refl, sym, ap, subst, ◌∙◌}
use Rattle.std.specs.FinMap as finite
use Rattle.std.specs.Prelude.{IfOk}
use Rattle.std.proofs.lemmas.Result.{on_ok_weaker, on_err_weaker}
use Rattle.pmg_value.specs.Answers.{Gives}
use Rattle.pmg_value.specs.Rows.{map_of}
use Rattle.pmg_commit.specs.Sealed.{Sealed, sealed_with, commit_answer}
use Rattle.pmg_commit.specs.TakenBack.{sealer_back, CanRollBack}
use Rattle.pmg_node_parts.specs.Sealers.{sealed_by}
use Rattle.pmg_node_parts.proofs.SealerLemmas.{resealed, not_there, none_committed}
use Rattle.pmg_node_parts.proofs.sealers.Sealers.commit.Goals as goal

pub invariant_of-self : goal.invariant_of-self
invariant_of-self c = λ e.
    let old = c.self.inside.rows.entries in
    let its = resealed old (map_of old) c.args.proc.now refl c.get_mut.result c.in-Some.sealer c.in-Some.is c.get_mut.ensures.value
    (c.get_mut.follows.lender c.commit.new.self).entries c.commit.new.self (λ some. ((c.get_mut.follows.holds c.commit.new.self).3 some).0) in
    none_committed c.commit.result (map_of old) _ c.args.proc.now _ _ c.args.batch.now its c.commit.ensures.ok c.commit.ensures.err (c.self.invariant e)

pub returns-in-Some : goal.returns-in-Some
returns-in-Some c =
    let its = resealed c.self.inside.rows.entries c.args.self.now c.args.proc.now c.self.view_is c.get_mut.result c.in-Some.sealer c.in-Some.is c.get_mut.ensures.value
    (c.get_mut.follows.lender c.commit.new.self).entries c.commit.new.self (λ some. ((c.get_mut.follows.holds c.commit.new.self).3 some).0) in
    record {
      before = subst (λ (z : Sealed). Gives (λ b. sealer_back z b) c.commit.result (commit_answer (sealed_by c.args.self.now c.args.proc.now) c.args.batch.now)) (sym its.now_there)
          (subst (λ (z : Sealed). Gives (λ b. sealer_back c.commit.new.self b) c.commit.result (commit_answer z c.args.batch.now)) (sym its.was_there) c.commit.ensures.before);
      fits = subst (λ (z : Sealed). IfOk c.commit.result (λ b. CanRollBack z b)) (sym its.now_there) c.commit.ensures.fits;
      ok = on_ok_weaker c.commit.result (λ is. its.put ∙ ap (finite.insert c.args.self.now c.args.proc.now) (is ∙ ap (λ (z : Sealed). sealed_with z c.args.batch.now) (sym its.was_there))) c.commit.ensures.ok;
      err = on_err_weaker c.commit.result its.same c.commit.ensures.err;
    }

pub returns-clause-before : goal.returns-clause-before
returns-clause-before c = not_there c.self.inside.rows.entries c.args.self.now c.args.proc.now c.self.view_is c.requires (sym c.in_default.ensures.value)
