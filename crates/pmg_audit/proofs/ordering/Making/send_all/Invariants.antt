use Rattle.std.proofs.Common.{◌≡◌, ◌++◌, map}
use Rattle.pmg_node_model.specs.declared.sent.Sent.{Sent}
use Rattle.pmg_audit.specs.Sends.{AreNumbered}
use Rattle.pmg_audit.proofs.ordering.Making.send_all.Given as goal

abbrev pub invariant-loop-sent : goal.invariant-loop-sent
invariant-loop-sent l = record {
  lanes : l.self.lanes ≡ l.fn.self.lanes;
  told : l.self.told ≡ l.fn.self.told;
  sent : l.self.sends.frames.items ≡ l.fn.self.sends.frames.items ++ l.yielded;
  numbered : AreNumbered l.self.sends;
  awake : l.self.awake.items ≡ l.fn.self.awake.items ++ map (λ (s : Sent). s.to) l.yielded;
}
