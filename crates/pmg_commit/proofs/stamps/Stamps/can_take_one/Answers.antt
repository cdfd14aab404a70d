use Rattle.std.proofs.Common.{◌≡◌, ◌+◌, ◌-◌, ◌&&◌, nat_le, cond, length, ap, sym, arith, ◌∙◌}
use Rattle.std.specs.FinMap as finite
use Rattle.pmg_commit.specs.Sealed.{stamps_size}
use Rattle.pmg_commit.proofs.GrowthLemmas.{one_replaced, within_one}
use Rattle.pmg_commit.proofs.stamps.Stamps.can_take_one.Goals as goal
use Rattle.pmg_commit.proofs.stamps.Stamps.can_take_one.Goals.{then-has, else-has}

pub has_room-requires-clause-replaced : goal.has_room-requires-clause-replaced
has_room-requires-clause-replaced c =
    let replaced = one_replaced c.args.self.now c.args.key.now in
    omega (arith, replaced, c.size_with_key.ensures.value, c.counted_at.ensures.value)

pub returns : goal.returns
returns c = λ n bytes same.
    let m = c.args.self.now in
    let k = c.args.key.now in
    let keys : c.if-has.keys ≡ cond (finite.contains_key m k) 0 1 =
    elim c.if-has.branch [
      | then-has w ↦ w.keys-is ∙ sym (ap (λ b. cond b 0 1) (sym c.has.ensures ∙ w.if-has.true))
      | else-has w ↦ w.keys-is ∙ sym (ap (λ b. cond b 0 1) (sym c.has.ensures ∙ w.if-has.false))
    ] in
    let added : c.size_with_key.result ≡ 10 + length k + length bytes = c.size_with_key.ensures.value ∙ ap (λ size. 10 + length k + size) (sym same) in
    c.has_room.ensures
    ∙ (λ i. nat_le (finite.len m + keys i) 65535 && nat_le (stamps_size m + added i - c.counted_at.ensures.value i) 16000000)
    ∙ sym (within_one n m k bytes)
