-- What is encoded keeps the rules of its kind.
use Rattle.std.proofs.Common.{List, [], ◌∷◌, Result, Ok, Err, IsTrue}
use Rattle.std.specs.Prelude.{OnOk}
use Rattle.std.specs.List.{list_all}
use Rattle.std.proofs.lemmas.Bool.{and_parts}
use Rattle.pmg_value.specs.Lists.{Each}
use Rattle.pmg_value.specs.Names.{is_nspace}
use Rattle.pmg_value.specs.Process.{is_client}
use Rattle.pmg_value.specs.declared.process.Proc.{Proc}
use Rattle.pmg_frame.specs.Grammar.{IsClient}

-- processes with names that a group may register
pub each_client : (ps : List Proc) → IsTrue (list_all (λ p. is_nspace p.nspace) ps) → IsTrue (list_all is_client ps) → Each IsClient ps
each_client [] names clients = tt
each_client (p ∷ ps) names clients =
    let n = and_parts (is_nspace p.nspace) (list_all (λ (q : Proc). is_nspace q.nspace) ps) names in
    let c = and_parts (is_client p) (list_all is_client ps) clients in
    (record { name = n.0; client = c.0 }, each_client ps n.1 c.1)

-- a fact holds where the call succeeds
pub on_ok_always : {T E P : Type 0} (r : Result T E) → P → OnOk r P
on_ok_always (Ok x) p = p
on_ok_always (Err e) p = tt
