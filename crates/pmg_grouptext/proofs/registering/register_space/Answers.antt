use Rattle.std.proofs.Common.{◌≡◌, ◌∙◌, ap, sym, subst, Err, Ok, List, ℕ}
use Rattle.std.specs.Prelude.{◌≢◌, IfErr, OnOk}
use Rattle.std.proofs.lemmas.Result.{err_from_is_err_and}
use Rattle.pmg_value.specs.Names.{is_nspace}
use Rattle.pmg_value.specs.declared.refusal.Refusal.TheVariants as refusals
use Rattle.pmg_grouptext.specs.Groups.{with_named_space}
use Rattle.pmg_grouptext.proofs.SpaceLemmas.{unnamed_space, unknown_home, space_done, space_refused}
use Rattle.pmg_grouptext.proofs.registering.register_space.Goals as goal

pub returns-then-not-is_nspace_name-clause-refused :
    goal.returns-then-not-is_nspace_name-clause-refused
returns-then-not-is_nspace_name-clause-refused c some =
    unnamed_space c.args.registry.now c.args.nspace.now c.args.homes.now (sym c.is_nspace_name.ensures ∙ c.if-not-is_nspace_name.true)

pub returns-in_err-homes-clause-refused : goal.returns-in_err-homes-clause-refused
returns-in_err-homes-clause-refused c =
    let p = err_from_is_err_and c.from_residual.result c.from_residual.ensures.1 in
    rw (p.1, p.2) (λ some.
    let q = c.in_err-homes.ensures.refused some in
    unknown_home c.args.registry.now c.args.nspace.now c.args.homes.now q.1 ∙ ap Err (sym q.0))

pub returns-clause-ok : goal.returns-clause-ok
returns-clause-ok c =
    subst (λ (name : List ℕ). OnOk c.register.result (with_named_space c.args.registry.now name c.args.homes.now ≡ Ok c.register.new.self)) c.in_ok-from_name.ensures
    (space_done c.register.result c.args.registry.now c.register.new.self c.in_ok-from_name.field-0 c.args.homes.now c.deref.result.now
    (ap is_nspace c.in_ok-from_name.ensures ∙ sym c.is_nspace_name.ensures ∙ c.if-not-is_nspace_name.false) (c.deref.ensures.value ∙ c.in_ok-homes.ensures.nodes) c.register.ensures.value c.register.ensures.ok)

pub returns-clause-refused : goal.returns-clause-refused
returns-clause-refused c =
    subst (λ (name : List ℕ). IfErr c.register.result (λ e. e ≢ refusals.NoMemory → with_named_space c.args.registry.now name c.args.homes.now ≡ Err e)) c.in_ok-from_name.ensures
    (space_refused c.register.result c.args.registry.now c.in_ok-from_name.field-0 c.args.homes.now c.deref.result.now
    (ap is_nspace c.in_ok-from_name.ensures ∙ sym c.is_nspace_name.ensures ∙ c.if-not-is_nspace_name.false) (c.deref.ensures.value ∙ c.in_ok-homes.ensures.nodes) c.register.ensures.value)
