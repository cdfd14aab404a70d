-- What keeps the rules of a piece, in a body that is not too long, passes the test of a piece.
use Rattle.std.proofs.Common.{◌≡◌, ℕ, ◌+◌, ◌≤◌, ◌&&◌, nat_lt, nat_le, List, [], ◌∷◌, ◌++◌, length, Option, Some, None, IsTrue, refl, sym, ap, ◌∙◌, Ok, arith}
use Rattle.std.proofs.lemmas.List.Sums.{sum_by-cons}
use Rattle.std.specs.Int.{w32, w64, to_be_bytes}
use Rattle.std.specs.List.{flat_map, list_all, sum_by}
use Rattle.std.proofs.lemmas.Bool.{and_from, and_parts, ltb-true, leb-true, lt-ltb, le-leb}
use Rattle.std.proofs.lemmas.List.{length-append}
use Rattle.pmg_value.specs.Lists.{leads, is_chain}
use Rattle.pmg_wire.specs.Many.{Chain}
use Rattle.pmg_wire.specs.Reading.{Place, IsBytes}
use Rattle.pmg_wire.specs.Spelling.{key_spelling, proc_spelling}
use Rattle.pmg_commit.specs.Entries.{Entry}
use Rattle.pmg_commit.specs.Knowledge.{Contribution}
use Rattle.pmg_commit.specs.Pieces.{entry_size, body_size, is_small, is_numbered, is_key_rising, is_piece}
use Rattle.pmg_frame.specs.Grammar.{Follows, IsPiece, AreEntries, ArePieces}
use Rattle.pmg_value.specs.Names.{is_nspace}
use Rattle.pmg_frame.specs.PieceReading.{read_piece}
use Rattle.pmg_frame.specs.Spelling.{entry_spelling, piece_body}
use Rattle.pmg_frame.proofs.PieceLaws.{length_5, piece_if}

pub length-entry_spelling : (e : Entry) → length (entry_spelling e) ≡ entry_size e
length-entry_spelling e =
    omega (arith, length-append (key_spelling e.key) (to_be_bytes w64 e.number ++ e.bytes), length-append (to_be_bytes w64 e.number) e.bytes)

pub length-entries : (es : List Entry) → length (flat_map entry_spelling es) ≡ sum_by entry_size es
length-entries [] = refl
length-entries (e ∷ es) = both (entry_spelling e) (flat_map entry_spelling es) (entry_size e) (sum_by entry_size es) (length-entry_spelling e) (length-entries es) ∙ sym (sum_by-cons entry_size e es)
  where
    both : (a b : List ℕ) (m n : ℕ) → length a ≡ m → length b ≡ n → length (a ++ b) ≡ m + n
    both a b m n p q = omega (arith, length-append a b, p, q)

pub length-piece_body : (c : Contribution) → length (piece_body c) ≡ body_size c.proc c.entries
length-piece_body c =
    omega (
      arith,
      length_5 (proc_spelling c.proc) (to_be_bytes w64 c.from) (to_be_bytes w64 c.to) (to_be_bytes w32 (length c.entries)) (flat_map entry_spelling c.entries),
      length-append (length c.proc.nspace ∷ c.proc.nspace) (to_be_bytes w32 c.proc.rank),
      length-entries c.entries,
    )

rising_behind : (from to : ℕ) (e : Entry) (es : List Entry) → Chain (Follows from to) (Some e) es → IsTrue (leads is_key_rising e es)
rising_behind from to e [] chain = refl
rising_behind from to e (f ∷ fs) chain = and_from (is_key_rising e f) (leads is_key_rising f fs) chain.0.order (rising_behind from to f fs chain.1)

rising : (from to : ℕ) (es : List Entry) → Chain (Follows from to) None es → IsTrue (is_chain is_key_rising es)
rising from to [] chain = refl
rising from to (e ∷ es) chain = rising_behind from to e es chain.1

numbered : (from to : ℕ) (before : Option Entry) (es : List Entry) → Chain (Follows from to) before es → IsTrue (list_all (is_numbered from to) es)
numbered from to before [] chain = refl
numbered from to before (e ∷ es) chain =
    and_from (is_numbered from to e) (list_all (is_numbered from to) es)
    (and_from (nat_lt from e.number) (nat_le e.number to) (lt-ltb _ _ chain.0.above) (le-leb _ _ chain.0.within))
    (numbered from to (Some e) es chain.1)

pub piece_passes : (c : Contribution) → IsPiece c → length (piece_body c) ≤ 16777216 → IsTrue (is_piece c)
unfolding is_piece
piece_passes c is small =
    let few : IsTrue (is_small c.proc c.entries) = and_from (nat_le (length c.entries) 65536) (nat_le (body_size c.proc c.entries) 16777216) (le-leb _ _ is.count) (le-leb _ _ (omega (arith, length-piece_body c, small))) in
    let range : IsTrue (nat_lt c.from c.to && nat_le c.to 4294967295) = and_from (nat_lt c.from c.to) (nat_le c.to 4294967295) (lt-ltb _ _ is.range) (le-leb _ _ is.last) in
    and_from _ _ (and_from _ _ (and_from _ _ (and_from _ _ is.admitted range) few) (rising c.from c.to c.entries is.entries)) (numbered c.from c.to None c.entries is.entries)

-- what is read as a piece, in bytes that a body may have, passes
pub read_passes : (at : Place) (c : Contribution) (after : Place) → IsBytes at.rest → length at.rest ≤ 16777216 → read_piece at ≡ Ok (c, after) → IsTrue (is_piece c)
read_passes at c after fits small e =
    let taken = (piece_if at fits).holds c after e in
    piece_passes c taken.is (omega (arith, ap length taken.takes.parts, length-append (piece_body c) after.rest, small))

-- ---- and back

follows_behind : (from to : ℕ) (e : Entry) (es : List Entry) → IsTrue (leads is_key_rising e es) → IsTrue (list_all (is_numbered from to) es) → AreEntries es → Chain (Follows from to) (Some e) es
follows_behind from to e [] rises within are = tt
follows_behind from to e (f ∷ fs) rises within are =
    let order = and_parts (is_key_rising e f) (leads is_key_rising f fs) rises in
    let number = and_parts (is_numbered from to f) (list_all (is_numbered from to) fs) within in
    let range = and_parts (nat_lt from f.number) (nat_le f.number to) number.0 in
    let one : Follows from to (Some e) f = record { key = are.0.key; order = order.0; above = ltb-true _ _ range.0; within = leb-true _ _ range.1; value = are.0.value; is = are.0.is; bytes = are.0.bytes } in
    (one, follows_behind from to f fs order.1 number.1 are.1)

follows : (from to : ℕ) (es : List Entry) → IsTrue (is_chain is_key_rising es) → IsTrue (list_all (is_numbered from to) es) → AreEntries es → Chain (Follows from to) None es
follows from to [] rises within are = tt
follows from to (e ∷ es) rises within are =
    let number = and_parts (is_numbered from to e) (list_all (is_numbered from to) es) within in
    let range = and_parts (nat_lt from e.number) (nat_le e.number to) number.0 in
    let one : Follows from to None e = record { key = are.0.key; order = refl; above = ltb-true _ _ range.0; within = leb-true _ _ range.1; value = are.0.value; is = are.0.is; bytes = are.0.bytes } in
    (one, follows_behind from to e es rises number.1 are.1)

pub piece_says : (c : Contribution) → IsTrue (is_nspace c.proc.nspace) → AreEntries c.entries → IsTrue (is_piece c) → IsPiece c × (length (piece_body c) ≤ 16777216)
unfolding is_piece
piece_says c name are h =
    let numbered = and_parts _ _ h in
    let rises = and_parts _ _ numbered.0 in
    let small = and_parts _ _ rises.0 in
    let ranged = and_parts _ _ small.0 in
    let range = and_parts _ _ ranged.1 in
    let sizes = and_parts _ _ small.1 in (
      record {
        name = name;
        admitted = ranged.0;
        range = ltb-true _ _ range.0;
        last = leb-true _ _ range.1;
        count = leb-true _ _ sizes.0;
        entries = follows c.from c.to c.entries rises.1 numbered.1 are;
      },
      omega (arith, length-piece_body c, leb-true _ _ sizes.1),
    )

pub are_pieces : ArePieces
are_pieces c name are = (piece_says c name are, λ says. piece_passes c says.0 says.1)
