use Rattle.serde_json.specs.Find.{as_str}
use Rattle.serde_json.specs.View.{view}
use Rattle.pmg_jobfile.proofs.ReadLemmas.{is_there, name_read}
use Rattle.pmg_jobfile.proofs.parts.name_in.Goals as goal

pub returns : goal.returns
returns c =
    let d = view c.args.value.now in
    let name = c.in_ok-string_in.field-0.now in
    name_read c.read.result d name (is_there (as_str d) name c.in_ok-string_in.ensures) c.read.ensures
