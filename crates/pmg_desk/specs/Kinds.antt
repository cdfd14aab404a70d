-- The replies that an act may get.
use Rattle.pmg_node_model.specs.Acts.{Act, Reply, Request}
use Rattle.pmg_node.specs.Kinds.{IsAsked, IsCommitted, IsDefined, IsDelivery, IsDone, IsEnded, IsEntered, IsRelease}

-- The kind of reply to an act of this kind, if it is not refused. The reply to a taking depends on the question before it.
abbrev pub Tell : Act → Reply → Type 0
Tell (Act.request (Request.enter p list collect)) r = IsEntered r
Tell (Act.request (Request.leave p)) r = IsRelease r
Tell (Act.request (Request.ask p get mode)) r = IsAsked r
Tell (Act.request (Request.take p)) r = Unit {0}
Tell (Act.request (Request.terminate p)) r = IsEnded r
Tell (Act.request (Request.define name list)) r = IsDefined r
Tell (Act.request (Request.delete name)) r = IsDefined r
Tell (Act.request Request.nudge) r = IsDone r
Tell (Act.commit p b) r = IsCommitted r
Tell (Act.deliver frame) r = IsDelivery r

-- a refusal, or such a reply
abbrev pub OrRefused : (Reply → Type 0) → Reply → Type 0
OrRefused P (Reply.refused e) = Unit {0}
OrRefused P r = P r

-- a refusal, or a reply of the kind of this act
abbrev pub IsKind : Act → Reply → Type 0
IsKind a r = OrRefused (Tell a) r

-- a change of the process sets
abbrev pub IsChange : Request → Type 0
IsChange (Request.define name list) = Unit {0}
IsChange (Request.delete name) = Unit {0}
IsChange r = ⊥
