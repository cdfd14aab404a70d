use Rattle.std.proofs.Common.{◌≡◌, ◌==◌, length, false, true, sym, ap, ◌∙◌, arith}
use Rattle.std.specs.List.{list_all}
use Rattle.pmg_value.specs.Process.{is_client}
use Rattle.pmg_frame.proofs.Kept.{kept_from, none_empty, are_participants, made, refused}
use Rattle.pmg_frame.proofs.signature.Signature.new.Goals as goal

pub returns-then-len-gt-MAX_PARTICIPANTS : goal.returns-then-len-gt-MAX_PARTICIPANTS
returns-then-len-gt-MAX_PARTICIPANTS c =
    let list = c.args.list.items in
    let some : (length list == 0) ≡ false = ap (λ n. n == 0) (let ok = c.args.list.ok in omega arith) ∙ sym c.is_empty.ensures ∙ c.if-is_empty.false in
    let clients : list_all is_client list ≡ true = rw c.deref.ensures.value at (sym c.are_clients.ensures ∙ c.if-not-are_clients.false) in
    let kept = kept_from list c.sort_unstable.new.self.items c.dedup.new.self.items c.sort_unstable.ensures.permutation c.sort_unstable.ensures.sorted c.dedup.ensures.filtered clients (none_empty list some) in
    refused list c.dedup.new.self.items c.args.collect some clients kept (let ok = c.dedup.new.self.ok in omega arith)

pub invariant_of-result : goal.invariant_of-result
invariant_of-result c =
    let list = c.args.list.items in
    let some : (length list == 0) ≡ false = ap (λ n. n == 0) (let ok = c.args.list.ok in omega arith) ∙ sym c.is_empty.ensures ∙ c.if-is_empty.false in
    let clients : list_all is_client list ≡ true = rw c.deref.ensures.value at (sym c.are_clients.ensures ∙ c.if-not-are_clients.false) in
    let kept = kept_from list c.sort_unstable.new.self.items c.dedup.new.self.items c.sort_unstable.ensures.permutation c.sort_unstable.ensures.sorted c.dedup.ensures.filtered clients (none_empty list some) in
    are_participants list c.dedup.new.self.items kept (let ok = c.dedup.new.self.ok in omega arith)

pub returns : goal.returns
returns c =
    let list = c.args.list.items in
    let some : (length list == 0) ≡ false = ap (λ n. n == 0) (let ok = c.args.list.ok in omega arith) ∙ sym c.is_empty.ensures ∙ c.if-is_empty.false in
    let clients : list_all is_client list ≡ true = rw c.deref.ensures.value at (sym c.are_clients.ensures ∙ c.if-not-are_clients.false) in
    let kept = kept_from list c.sort_unstable.new.self.items c.dedup.new.self.items c.sort_unstable.ensures.permutation c.sort_unstable.ensures.sorted c.dedup.ensures.filtered clients (none_empty list some) in
    made list c.dedup.new.self.items c.args.collect some clients kept (let ok = c.dedup.new.self.ok in omega arith)
