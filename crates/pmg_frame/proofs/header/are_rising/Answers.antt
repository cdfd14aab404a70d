use Rattle.std.proofs.Common.{ℕ, List, ◌≡◌, ◌+◌, ◌-◌, ◌<◌, ◌≤◌, length, get_or, true, false, sym, ◌∙◌, arith}
use Rattle.std.proofs.lemmas.List.{get_or_read}
use Rattle.pmg_value.specs.Lists.{is_chain}
use Rattle.pmg_value.proofs.ChainLemmas.{is_chain-adjacent}
use Rattle.pmg_frame.specs.declared.local.Local.{Local}
use Rattle.pmg_frame.specs.Fences.{is_local_rising}
use Rattle.pmg_frame.proofs.header.are_rising.Goals as goal

broken_at : (xs : List Local) (i : ℕ) (x y : Local) → 1 ≤ i → i < length xs → x ≡ get_or xs (i - 1) x → y ≡ get_or xs i y → is_local_rising x y ≡ false → false ≡ is_chain is_local_rising xs
broken_at xs i x y p h at_x at_y breaks =
    let next : i ≡ i - 1 + 1 = omega arith in
    is_chain-adjacent is_local_rising xs false (
      i - 1,
      omega arith,
      λ d. sym breaks
          ∙ (λ j. is_local_rising (get_or_read xs (i - 1) x (omega arith) at_x d j) (get_or_read xs i y h at_y d j))
          ∙ (λ j. is_local_rising (get_or xs (i - 1) d) (get_or xs (next j) d)),
    )

pub returns-then-not-is_before : goal.returns-then-not-is_before
returns-then-not-is_before c =
    broken_at c.args.locals.now c.loop-i.i c.index-locals-i.result c.index-locals-i-in-loop-i.result (omega arith) (omega arith) c.index-locals-i.is c.index-locals-i-in-loop-i.is
    (sym c.is_before.ensures ∙ c.if-not-is_before.true)

pub returns : goal.returns
returns c = is_chain-adjacent is_local_rising c.args.locals.now true (λ k d h. sym (c.loop-i.invariant k d (omega arith)))
