use Rattle.std.proofs.Common.{◌≡◌, sym, ap, subst, ◌∙◌}
use Rattle.std.specs.FinMap as finite
use Rattle.std.specs.Prelude.{IfOk, IfSome}
use Rattle.std.proofs.lemmas.Result.{on_ok_weaker, on_err_weaker}
use Rattle.pmg_commit.specs.Sealed.{Sealed, end_of}
use Rattle.pmg_commit.specs.TakenBack.{end_back, CanRollBack}
use Rattle.pmg_node_parts.specs.Sealers.{sealed_by}
use Rattle.pmg_node_parts.proofs.SealerLemmas.{resealed}
use Rattle.pmg_node_parts.proofs.sealers.Sealers.end.Goals as goal

pub returns-in-Some : goal.returns-in-Some
returns-in-Some c =
    let its = resealed c.self.inside.rows.entries c.args.self.now c.args.proc.now c.self.view_is c.get_mut.result c.in-Some.sealer c.in-Some.is c.get_mut.ensures.value
    (c.get_mut.follows.lender c.end.new.self).entries c.end.new.self (λ some. ((c.get_mut.follows.holds c.end.new.self).3 some).0) in
    record {
      before = subst (λ (z : Sealed). IfOk c.end.result (λ b. end_back z b ≡ sealed_by c.args.self.now c.args.proc.now)) (sym its.now_there)
          (subst (λ (z : Sealed). IfOk c.end.result (λ b. end_back c.end.new.self b ≡ z)) (sym its.was_there) c.end.ensures.before);
      fits = subst (λ (z : Sealed). IfOk c.end.result (λ b. IfSome b (CanRollBack z))) (sym its.now_there) c.end.ensures.fits;
      ok = on_ok_weaker c.end.result (λ is. its.put ∙ ap (finite.insert c.args.self.now c.args.proc.now) (is ∙ ap end_of (sym its.was_there))) c.end.ensures.ok;
      err = on_err_weaker c.end.result its.same c.end.ensures.err;
    }
