use Rattle.std.proofs.Common.{◌≡◌, ℕ, List, Bool, true, sym, ap, ◌∙◌}
use Rattle.std.specs.BTreeMap.{BTreeMap}
use Rattle.std.specs.Global.{Vec}
use Rattle.pmg_commit.specs.declared.piece.PieceEntry.{PieceEntry}
use Rattle.pmg_lane.specs.Waiting.{can_wait}
use Rattle.pmg_lane.proofs.Waits.{list_stocks, list_numbered, list_past, settles_stocks}
use Rattle.pmg_lane.proofs.waiting.Waiting.put.Goals as goal

-- what was asked of the same entries
asked_same :
    (lists : BTreeMap ℕ (Vec PieceEntry)) (level n : ℕ) (es fs : List PieceEntry) (b : Bool) → fs ≡ es → b ≡ can_wait lists level n fs → b ≡ true
    → can_wait lists level n es ≡ true
asked_same lists level n es fs b same asked is = ap (can_wait lists level n) (sym same) ∙ sym asked ∙ is

pub returns-then-can_wait-clause-stocks : goal.returns-then-can_wait-clause-stocks
returns-then-can_wait-clause-stocks c =
    let can = asked_same c.args.self.now.lists c.args.level c.args.number c.args.list.items _ _ c.deref.ensures.value c.can_wait.ensures c.if-can_wait.true in
    list_stocks c.args.entries.now c.args.self.now.lists c.put_list.new.self.lists c.args.level c.args.number c.args.list.items can c.put_list.ensures.put

pub returns-then-can_wait-clause-numbered : goal.returns-then-can_wait-clause-numbered
returns-then-can_wait-clause-numbered c =
    let can = asked_same c.args.self.now.lists c.args.level c.args.number c.args.list.items _ _ c.deref.ensures.value c.can_wait.ensures c.if-can_wait.true in
    list_numbered c.args.entries.now c.args.self.now.lists c.put_list.new.self.lists c.args.level c.args.number c.args.list.items can c.put_list.ensures.put
    c.requires.numbered c.requires.lowest

pub returns-then-can_wait-clause-past : goal.returns-then-can_wait-clause-past
returns-then-can_wait-clause-past c =
    let can = asked_same c.args.self.now.lists c.args.level c.args.number c.args.list.items _ _ c.deref.ensures.value c.can_wait.ensures c.if-can_wait.true in
    list_past c.args.entries.now c.args.self.now.lists c.put_list.new.self.lists c.args.level c.args.number c.args.list.items can c.put_list.ensures.put

pub returns-else-can_wait-clause-stocks : goal.returns-else-can_wait-clause-stocks
returns-else-can_wait-clause-stocks c = settles_stocks c.args.level c.args.entries.now c.put_all.new.self c.args.self.now.lists _ c.put_all.ensures.settles
