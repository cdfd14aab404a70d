-- Kinds of replies.
use Rattle.pmg_node_model.specs.Acts.{Reply}

-- a reply to a commit: its number
abbrev pub IsCommitted : Reply → Type 0
IsCommitted (Reply.committed number) = Unit {0}
IsCommitted _ = ⊥

-- a reply to the entry of a fence: the instance
abbrev pub IsEntered : Reply → Type 0
IsEntered (Reply.entered instance) = Unit {0}
IsEntered _ = ⊥

-- a reply to the leave of a fence: the process is not in such a call, still waits, or is released
abbrev pub IsRelease : Reply → Type 0
IsRelease Reply.idle = Unit {0}
IsRelease Reply.waiting = Unit {0}
IsRelease (Reply.released instance gone) = Unit {0}
IsRelease _ = ⊥

-- a reply to the question of a get: the value, or that the get parks
abbrev pub IsAsked : Reply → Type 0
IsAsked (Reply.found value) = Unit {0}
IsAsked Reply.parked = Unit {0}
IsAsked _ = ⊥

-- a reply to the taking of an answer: the process is not in such a call, still waits, or has the value
abbrev pub IsTaking : Reply → Type 0
IsTaking Reply.idle = Unit {0}
IsTaking Reply.waiting = Unit {0}
IsTaking (Reply.found value) = Unit {0}
IsTaking _ = ⊥

-- a reply to the end of a process: the number of its last commit
abbrev pub IsEnded : Reply → Type 0
IsEnded (Reply.ended number) = Unit {0}
IsEnded _ = ⊥

-- a reply to a change of the process sets: its number
abbrev pub IsDefined : Reply → Type 0
IsDefined (Reply.defined number) = Unit {0}
IsDefined _ = ⊥

-- a reply to the delivery of a frame: taken or ignored
abbrev pub IsDelivery : Reply → Type 0
IsDelivery Reply.taken = Unit {0}
IsDelivery Reply.ignored = Unit {0}
IsDelivery _ = ⊥

-- the reply that the act is done, as to a nudge or a put
abbrev pub IsDone : Reply → Type 0
IsDone Reply.done = Unit {0}
IsDone _ = ⊥
