-- What is alone may be shared where the value may be sent: no part of it can be read.
use denote.RattleType.{RattleType}
use denote.Param.Send.{IsSend, IsSync, part_keyless}
use Rattle.pmg_desk.specs.contracts.exclusive.Exclusive.{the_row}
use Rattle.pmg_desk.proofs.exclusive.Exclusive.TheSendSync.Send.{send}

pub sync : (T : RattleType) → IsSend T → IsSync (the_row T)
sync T s = record { shared = λ d b o ν q. part_keyless (the_row T) (send T s) q d b o }
