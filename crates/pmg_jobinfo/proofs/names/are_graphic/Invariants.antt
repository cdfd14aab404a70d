use Rattle.std.proofs.Common.{◌≡◌, map, drop}
use Rattle.std.specs.List.{list_all}
use Rattle.pmg_value.specs.Names.{is_nspace}
use Rattle.pmg_jobinfo.proofs.names.are_graphic.Given as goal

abbrev pub invariant-loop-name : goal.invariant-loop-name
invariant-loop-name l = list_all is_nspace (map (λ n. n.now) l.names) ≡ list_all is_nspace (map (λ n. n.now) (drop l.name-index l.names))
