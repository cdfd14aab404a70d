-- Gets that ask anew.
use Rattle.std.specs.Prelude.{◌≡◌, List, Some}
use Rattle.pmg_value.specs.Lists.{Each}
use Rattle.pmg_value.specs.declared.process.Proc.{Proc}
use Rattle.pmg_get.specs.declared.view.Mode.TheVariants as modes
use Rattle.pmg_node_model.specs.Holdings.{Get}
use Rattle.pmg_group_model.specs.Laws.{Wanted, wanted_after}
use Rattle.pmg_group_model.specs.Worlds.{Happened}

-- the get, in the mode that asks anew
abbrev pub wanted_anew : Get → Wanted
wanted_anew get = record { get = get; mode = modes.Refresh }

-- the process stays in its get: it takes no answer, and does not end
abbrev pub StaysIn : Proc → Wanted → List Happened → Type 0
StaysIn p wanted xs = Each (λ x. wanted_after p x.event x.reply (Some wanted) ≡ Some wanted) xs
