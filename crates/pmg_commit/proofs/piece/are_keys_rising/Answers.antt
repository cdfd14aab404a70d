use Rattle.std.proofs.Common.{ℕ, List, ◌≡◌, ◌+◌, ◌-◌, ◌<◌, ◌≤◌, length, map, get_or, true, false, sym, ◌∙◌, arith}
use Rattle.std.proofs.lemmas.List.{get_or_read}
use Rattle.pmg_value.specs.Lists.{is_chain}
use Rattle.pmg_value.proofs.ChainLemmas.{is_chain-adjacent, is_chain-map}
use Rattle.pmg_commit.specs.declared.piece.PieceEntry.{PieceEntry}
use Rattle.pmg_commit.specs.Pieces.{entry_of, is_key_rising}
use Rattle.pmg_commit.proofs.piece.are_keys_rising.Goals as goal

broken_at : (xs : List PieceEntry) (i : ℕ) (x y : PieceEntry) → 1 ≤ i → i < length xs → x ≡ get_or xs (i - 1) x → y ≡ get_or xs i y → is_key_rising (entry_of x) (entry_of y) ≡ false → false ≡ is_chain is_key_rising (map entry_of xs)
broken_at xs i x y p h at_x at_y breaks =
    let next : i ≡ i - 1 + 1 = omega arith in
    is_chain-adjacent (λ e f. is_key_rising (entry_of e) (entry_of f)) xs false (
      i - 1,
      omega arith,
      λ d. sym breaks
          ∙ (λ j. is_key_rising (entry_of (get_or_read xs (i - 1) x (omega arith) at_x d j)) (entry_of (get_or_read xs i y h at_y d j)))
          ∙ (λ j. is_key_rising (entry_of (get_or xs (i - 1) d)) (entry_of (get_or xs (next j) d))),
    )
    ∙ sym (is_chain-map is_key_rising entry_of xs)

pub returns-then-not-is_before : goal.returns-then-not-is_before
returns-then-not-is_before c =
    broken_at c.args.entries.now c.loop-i.i c.index-entries-i.result c.index-entries-i-in-loop-i.result (omega arith) (omega arith) c.index-entries-i.is c.index-entries-i-in-loop-i.is
    (sym c.is_before.ensures ∙ c.if-not-is_before.true)

pub returns : goal.returns
returns c =
    is_chain-adjacent (λ e f. is_key_rising (entry_of e) (entry_of f)) c.args.entries.now true (λ k d h. sym (c.loop-i.invariant k d (omega arith)))
    ∙ sym (is_chain-map is_key_rising entry_of c.args.entries.now)
