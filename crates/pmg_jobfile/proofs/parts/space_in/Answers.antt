use Rattle.std.specs.Prelude.{codes, option_and_then}
use Rattle.std.specs.Option.{option_map}
use Rattle.std.proofs.lemmas.Result.{err_from_is_err_and}
use Rattle.serde_json.specs.Find.{get}
use Rattle.serde_json.specs.View.{view}
use Rattle.pmg_jobfile.specs.Reading.{name_in, homes_in}
use Rattle.pmg_jobfile.proofs.ReadLemmas.{weaker, first_bad, homes_bad}
use Rattle.pmg_jobfile.proofs.parts.space_in.Goals as goal

pub returns-in_err-name : goal.returns-in_err-name
returns-in_err-name c =
    let p = err_from_is_err_and c.from_residual.result c.from_residual.ensures.1 in
    let e = c.in_err-name.field-0.0 in
    let d = view c.args.value.now in
    rw (p.1, p.2) (weaker e (first_bad name_in (λ name. option_map (λ (homes : _). record { name = name; homes = homes }) (option_and_then (homes_in c.args.nodes) (get (codes "homes") d)))
    (get (codes "name") d) (view c.in-Some-Some.name.now) e c.in-Some-Some.ensures) c.in_err-name.ensures)

pub returns-in_err-homes : goal.returns-in_err-homes
returns-in_err-homes c =
    let p = err_from_is_err_and c.from_residual-in_err-homes.result c.from_residual-in_err-homes.ensures.1 in
    let e = c.in_err-homes.field-0.0 in
    rw (p.1, p.2) (weaker e (homes_bad c.args.nodes (view c.args.value.now) (view c.in-Some-Some.name.now) (view c.in-Some-Some.homes.now) _ e c.in-Some-Some.ensures c.in-Some-Some.ensures' c.in_ok-name.ensures)
    c.in_err-homes.ensures)
