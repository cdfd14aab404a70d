use Rattle.std.proofs.Common.{rules}
use Rattle.pmg_desk.proofs.OwnLemmas.{own_found, own_none}
use Rattle.pmg_desk.proofs.client.Client.own.Goals as goal

pub returns-in_ok-copy-in-Some : goal.returns-in_ok-copy-in-Some
returns-in_ok-copy-in-Some c = own_found _ c.in_ok-copy-in-Some.field-0 (search rules)

pub returns-in-None : goal.returns-in-None
returns-in-None c = own_none _ (search rules)
