-- What is alone may be sent where the value may.
use denote.RattleType.{RattleType}
use denote.Param.Send.{IsSend, owning_send, struct_send}
use denote.Struct.Struct.{exits_of}
use denote.Struct.Owning.{shape, fields, to}
use Rattle.std_alloc.proofs.SendSync.{quiet}
use Rattle.pmg_desk.specs.contracts.exclusive.Exclusive.{the_row, the_type}

pub send : (T : RattleType) → IsSend T → IsSend (the_row T)
send T s = let O = the_type T in owning_send O (s, tt) (λ d. tt) (λ k. quiet (to O) (exits_of k (fields O)) ((struct_send (shape O) (s, tt)).leaving k))
