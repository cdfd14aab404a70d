use Rattle.std.proofs.Common.{◌+◌, ◌-◌, ◌&&◌, nat_le, sym, arith, ◌∙◌}
use Rattle.std.specs.FinMap as finite
use Rattle.pmg_commit.specs.Sealed.{stamps_size}
use Rattle.pmg_commit.proofs.GrowthLemmas.{all_replaced, too_many_puts, within_stamped}
use Rattle.pmg_commit.proofs.stamps.Stamps.can_take.Goals as goal

pub returns-then-puts-gt-MAX_KEYS-clause-value : goal.returns-then-puts-gt-MAX_KEYS-clause-value
returns-then-puts-gt-MAX_KEYS-clause-value c = λ n. sym (too_many_puts n c.args.self.now c.args.puts.now c.requires.rising c.if-puts-gt-MAX_KEYS.true)

pub has_room-requires-clause-replaced : goal.has_room-requires-clause-replaced
has_room-requires-clause-replaced c =
    let replaced = all_replaced c.args.self.now c.args.puts.now c.requires.rising in
    omega (arith, replaced, c.replaced_size.ensures, c.puts_size.ensures.value)

pub returns-clause-value : goal.returns-clause-value
returns-clause-value c = λ n.
    let m = c.args.self.now in
    c.has_room.ensures
    ∙ (λ i. nat_le (finite.len m + c.new_keys.ensures.value i) 65535 && nat_le (stamps_size m + c.puts_size.ensures.value i - c.replaced_size.ensures i) 16000000)
    ∙ sym (within_stamped n m c.args.puts.now c.requires.rising)
