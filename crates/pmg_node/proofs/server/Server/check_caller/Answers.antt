use Rattle.std.proofs.Common.{rules, ◌≡◌, ◌||◌, ◌&&◌, ℕ, Bool, true, false, not, cond, Result, Ok, Err, refl, sym, ap, subst, ◌∙◌}
use Rattle.std.proofs.lemmas.Bool.{false≢true}
use Rattle.std.proofs.lemmas.Result.{err_from_is_err_and}
use Rattle.pmg_value.specs.CheckOrder.{first_of}
use Rattle.pmg_value.specs.Names.{is_reserved}
use Rattle.pmg_value.specs.Process.{is_host}
use Rattle.pmg_value.specs.declared.process.Proc.{Proc}
use Rattle.pmg_value.specs.declared.refusal.Refusal.{Refusal}
use Rattle.pmg_value.specs.declared.refusal.Refusal.TheVariants as refusals
use Rattle.pmg_jobinfo.specs.Jobs.{Jobs, home_of, is_registered, is_member}
use Rattle.pmg_jobinfo.specs.Refusing.{home_cause}
use Rattle.pmg_node_model.specs.Acts.{caller_cause}
use Rattle.pmg_node_model.specs.Holdings.{NodeState}
use Rattle.pmg_node.proofs.CommitLemmas.{not_host}
use Rattle.pmg_node.proofs.server.Server.check_caller.Goals as goal

no_error : {Y : Type 0} (home : Y) (e : Refusal) → ◌≡◌ {A = Result Y Refusal} (Ok home) (Err e) → ⊥
no_error home e is = cc

-- a caller is refused as its home is
home_refuses : {X Y : Type 0} (reserved registered member host : Bool) (home : Y) (rest : Result X Refusal) (e : Refusal) → reserved ≡ false → host ≡ false
    → ◌≡◌ {A = Result Y Refusal} (cond (registered && not member) (Err refusals.BadParam) (cond (not registered && not host) (Err refusals.UnknownNamespace) (Ok home))) (Err e)
    → cond (reserved || (registered && not member)) (Err refusals.BadParam) (cond (not registered) (Err refusals.UnknownNamespace) rest) ≡ Err e
home_refuses true registered member host home rest e named client is = absurd (false≢true (sym named))
home_refuses {X} {Y} false true true host home rest e named client is = absurd (no_error home e is)
home_refuses false true false host home rest e named client is = let same : refusals.BadParam ≡ e = cc in ap Err same
home_refuses {X} {Y} false false member host home rest e named client is =
    let known = subst (λ b. ◌≡◌ {A = Result Y Refusal} (cond (not b) (Err refusals.UnknownNamespace) (Ok home)) (Err e)) client is in
    let same : refusals.UnknownNamespace ≡ e = cc in ap Err same

caller_refused : (jobs : Jobs) (id : ℕ) (h : NodeState) (p : Proc) (e : Refusal) → is_reserved p.nspace ≡ false → first_of (home_cause jobs p) (home_of jobs p) ≡ Err e
    → first_of (caller_cause jobs id h p) (tt {0}) ≡ Err e
caller_refused jobs id h p e named is =
    home_refuses (is_reserved p.nspace) (is_registered jobs p.nspace) (is_member jobs p) (is_host p) (home_of jobs p) _ e named (not_host p (is_host p) refl named) is

pub returns-in_err-home : goal.returns-in_err-home
returns-in_err-home c =
    let err = err_from_is_err_and c.from_residual.result c.from_residual.ensures.1 in
    err.1 ∙ ap Err err.2 ∙ sym (caller_refused c.args.self.now.jobs c.args.self.now.id c.args.self.now.holding c.args.proc.now c.in_err-home.field-0.0 (sym c.is_reserved.ensures ∙ c.if-is_reserved.false) (search rules))
