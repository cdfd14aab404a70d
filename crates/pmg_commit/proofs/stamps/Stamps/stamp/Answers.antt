use Rattle.std.proofs.Common.{◌≡◌, ◌+◌, ◌-◌, ap, sym, ◌∙◌, arith}
use Rattle.pmg_commit.specs.Sealed.{Stamps, stamps_size}
use Rattle.pmg_commit.specs.Growth.{puts_size, replaced_size}
use Rattle.pmg_commit.proofs.GrowthLemmas.{all_replaced, size_of_stamped}
use Rattle.pmg_commit.proofs.stamps.Stamps.stamp.Goals as goal

pub overflow_sub-size : goal.overflow_sub-size
overflow_sub-size c =
    let fewer = all_replaced c.args.self.now c.args.puts.now c.requires.rising in
    let size = c.self.invariant ∙ ap stamps_size c.self.view_is in
    omega (arith, fewer, size, c.replaced_size.ensures, c.puts_size.ensures.value)

pub invariant_of-self-2 : goal.invariant_of-self-2
invariant_of-self-2 c =
    let m = c.self.inside.puts in
    let puts = c.args.puts.now in
    let size : c.self.inside.size + c.puts_size.result - c.replaced_size.result ≡ stamps_size m + puts_size puts - replaced_size m puts =
    λ i. c.self.invariant i + c.puts_size.ensures.value i - (c.replaced_size.ensures ∙ ap (λ (n : Stamps). replaced_size n puts) (sym c.self.view_is)) i in
    size ∙ sym (size_of_stamped c.args.number m puts c.requires.rising) ∙ ap stamps_size (sym (c.in_default.ensures.ok))
