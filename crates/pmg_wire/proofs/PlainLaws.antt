-- A value that is read, and is no array, was spelled so, and what is spelled so is read.
use Rattle.std.proofs.Common.{◌≡◌, ℕ, ◌+◌, ◌^◌, ◌<◌, ◌≤◌, Bool, true, false, ◌&&◌, nat_lt, nat_le, ◌==◌, cond, List, [], ◌∷◌, ◌++◌, length, Ok, IsTrue, is_none, refl, sym, ap, ◌∙◌, arith, ℤ, FitsSigned}
use Rattle.std.specs.Int.{Width, w8, w16, w32, w64, to_be_bytes, byte_len, cast_signed, cast_unsigned}
use Rattle.std.specs.List.{position}
use mir.Val.{bits}
use mir.ValLaws.{to_z-Fits, of_z_fits}
use Rattle.std.proofs.lemmas.Int.{of_z-to_z, to_z-of_z}
use Rattle.std.proofs.lemmas.List.{length-append}
use Rattle.std.proofs.lemmas.Bool.{and_parts, and_from, eqb-true, eqb-false, ltb-true, leb-true}
use Rattle.std.proofs.lemmas.Bool.Decides.{nat_tests}
use Rattle.pmg_value.specs.declared.refusal.Cause.TheVariants as causes
use Rattle.pmg_value.specs.Blobs.{is_zero, is_blob}
use Rattle.pmg_value.specs.Names.{is_nspace}
use Rattle.pmg_value.specs.Plain.{Plain, plain_tag, plain_body, is_plain_tag, IsPlain, counted}
use Rattle.pmg_wire.specs.Fields.{read_flag, made, read_plain}
use Rattle.pmg_wire.specs.Reading.{Place, Read, fault, byte_at, number_at, IsBytes, Takes}
use Rattle.pmg_wire.proofs.BlobLaws.{short_counted, text_if, text_again, blob_if, blob_again, any_proc_if, any_proc_again}
use Rattle.pmg_wire.proofs.Steps.{place, IfRead, bind_if, check_if, done_if, choice_if, IsWide, wide16, wide32, wide64, number_if, number_again, byte_if, byte_again}

pub flag_if : (at : Place) → IfRead (read_flag at) (λ b after. Takes at (cond b 1 0 ∷ []) after)
unfolding read_flag
flag_if at = bind_if _ (byte_if at) (λ n after t.
    check_if (nat_lt n 2) (fault at.offset causes.Bool) (λ _. Ok (n == 1, after)) (λ small.
    done_if (rw (← is_flag n small) t.takes)))
  where
    is_flag : (n : ℕ) → IsTrue (nat_lt n 2) → n ≡ cond (n == 1) 1 0
    is_flag n h = grind (arith, nat_tests, h)

-- the two spellings of a flag are a value's body
bool_body : (b : Bool) → plain_body (Plain.bool b) ≡ cond b 1 0 ∷ []
bool_body true = refl
bool_body false = refl

-- What the body of a value took, which is no array's. A string or a byte object keeps the rules of its kind
-- where its length does.
pub record TakesPlain (tag : ℕ) (at : Place) (p : Plain) (after : Place) : Type 0 where
  pub takes : Takes at (plain_body p) after
  pub tag_is : IsTrue (is_plain_tag tag) → tag ≡ plain_tag p
  pub is : length (plain_body p) ≤ 1048575 → IsPlain p

-- the body of a kind that holds one byte
byte_kind : (tag own : ℕ) (at : Place) → IsBytes at.rest → (kind : ℕ → Plain) → IsTrue (tag == own)
    → ((n : ℕ) → n < 2 ^ 8 → (plain_body (kind n) ≡ n ∷ []) × (plain_tag (kind n) ≡ own) × IsPlain (kind n))
    → IfRead (made kind (byte_at at)) (TakesPlain tag at)
byte_kind tag own at fits kind is rule = bind_if _ (byte_if at) (λ n after t.
    let r = rule n (t.small fits) in
    done_if (record { takes = rw r.0 t.takes; tag_is = λ _. eqb-true tag own is ∙ sym r.1; is = λ _. r.2 }))

-- the body of a kind that holds a number of that width
number_kind : (w : Width) (limit : ℕ) → IsWide w limit → (tag own : ℕ) (at : Place) → IsBytes at.rest → (kind : ℕ → Plain) → IsTrue (tag == own)
    → ((n : ℕ) → n < limit → (plain_body (kind n) ≡ to_be_bytes w n) × (plain_tag (kind n) ≡ own) × IsPlain (kind n))
    → IfRead (made kind (number_at w at)) (TakesPlain tag at)
number_kind w limit wide tag own at fits kind is rule = bind_if _ (number_if w limit wide at fits) (λ n after t.
    let r = rule n t.small in
    done_if (record { takes = rw r.0 t.takes; tag_is = λ _. eqb-true tag own is ∙ sym r.1; is = λ _. r.2 }))

-- a signed number's bytes are those of its two's complement, and it lies in its range
signed_rule : (w : Width) (n : ℕ) → n < 2 ^ bits w → (cast_unsigned w (cast_signed w n) ≡ n) × FitsSigned w (cast_signed w n)
signed_rule w n lt = (of_z-to_z w n lt, to_z-Fits w n (record { fits = lt }))

-- a tag that is none of the tags so far lies above them
above : (k tag : ℕ) → k ≤ tag → (tag == k) ≡ false → k + 1 ≤ tag
above k tag le ne =
    let other = eqb-false tag k ne in
    omega (arith, le, other)

-- the last kind's tag
last_tag : (tag : ℕ) → 18 ≤ tag → IsTrue (is_plain_tag tag) → tag ≡ 18
last_tag tag le is =
    let below : tag < 19 = ltb-true tag 19 (and_parts (nat_lt 0 tag) (nat_lt tag 19) is).1 in
    omega (arith, le, below)

-- a tag of a value is not 0
some_tag : (tag : ℕ) → IsTrue (is_plain_tag tag) → 1 ≤ tag
some_tag tag is =
    let pos : 0 < tag = ltb-true 0 tag (and_parts (nat_lt 0 tag) (nat_lt tag 19) is).0 in
    omega (arith, pos)

pub plain_if : (tag : ℕ) (at : Place) → IsBytes at.rest → IfRead (read_plain tag at) (TakesPlain tag at)
unfolding read_plain
plain_if tag at fits =
    choice_if (tag == 1) (λ is. bind_if _ (flag_if at) (λ b after t. done_if (record { takes = rw (bool_body b) t; tag_is = λ _. eqb-true tag 1 is; is = λ _. tt }))) (λ n1.
    choice_if (tag == 2) (λ is. byte_kind tag 2 at fits Plain.byte is (λ n lt. (refl, refl, lt))) (λ n2.
    choice_if (tag == 3) (λ is. bind_if _ (text_if at fits) (λ t after u. done_if (record { takes = u.takes; tag_is = λ _. eqb-true tag 3 is; is = λ small. and_from (is_none (position is_zero t)) (is_blob t) u.no_zero (short_counted t small) }))) (λ n3.
    choice_if (tag == 4) (λ is. number_kind w64 (2 ^ 64) wide64 tag 4 at fits Plain.size is (λ n lt. (refl, refl, lt))) (λ n4.
    choice_if (tag == 5) (λ is. byte_kind tag 5 at fits (λ n. Plain.int8 (cast_signed w8 n)) is (λ n lt. let s = signed_rule w8 n lt in (ap (λ (m : ℕ). m ∷ []) s.0, refl, s.1))) (λ n5.
    choice_if (tag == 6) (λ is. number_kind w16 (2 ^ 16) wide16 tag 6 at fits (λ n. Plain.int16 (cast_signed w16 n)) is (λ n lt. let s = signed_rule w16 n lt in (ap (to_be_bytes w16) s.0, refl, s.1))) (λ n6.
    choice_if (tag == 7) (λ is. number_kind w32 (2 ^ 32) wide32 tag 7 at fits (λ n. Plain.int32 (cast_signed w32 n)) is (λ n lt. let s = signed_rule w32 n lt in (ap (to_be_bytes w32) s.0, refl, s.1))) (λ n7.
    choice_if (tag == 8) (λ is. number_kind w64 (2 ^ 64) wide64 tag 8 at fits (λ n. Plain.int64 (cast_signed w64 n)) is (λ n lt. let s = signed_rule w64 n lt in (ap (to_be_bytes w64) s.0, refl, s.1))) (λ n8.
    choice_if (tag == 9) (λ is. byte_kind tag 9 at fits Plain.uint8 is (λ n lt. (refl, refl, lt))) (λ n9.
    choice_if (tag == 10) (λ is. number_kind w16 (2 ^ 16) wide16 tag 10 at fits Plain.uint16 is (λ n lt. (refl, refl, lt))) (λ n10.
    choice_if (tag == 11) (λ is. number_kind w32 (2 ^ 32) wide32 tag 11 at fits Plain.uint32 is (λ n lt. (refl, refl, lt))) (λ n11.
    choice_if (tag == 12) (λ is. number_kind w64 (2 ^ 64) wide64 tag 12 at fits Plain.uint64 is (λ n lt. (refl, refl, lt))) (λ n12.
    choice_if (tag == 13) (λ is. number_kind w32 (2 ^ 32) wide32 tag 13 at fits (λ n. Plain.int (cast_signed w32 n)) is (λ n lt. let s = signed_rule w32 n lt in (ap (to_be_bytes w32) s.0, refl, s.1))) (λ n13.
    choice_if (tag == 14) (λ is. number_kind w32 (2 ^ 32) wide32 tag 14 at fits Plain.uint is (λ n lt. (refl, refl, lt))) (λ n14.
    choice_if (tag == 15) (λ is. number_kind w32 (2 ^ 32) wide32 tag 15 at fits Plain.rank is (λ n lt. (refl, refl, lt))) (λ n15.
    choice_if (tag == 16) (λ is. bind_if _ (any_proc_if at fits) (λ p after u. done_if (record { takes = u.takes; tag_is = λ _. eqb-true tag 16 is; is = λ _. (u.name, u.rank) }))) (λ n16.
    choice_if (tag == 17) (λ is. number_kind w32 (2 ^ 32) wide32 tag 17 at fits (λ n. Plain.status (cast_signed w32 n)) is (λ n lt. let s = signed_rule w32 n lt in (ap (to_be_bytes w32) s.0, refl, s.1))) (λ n17.
    bind_if _ (blob_if at fits) (λ b after t. done_if (record {
      takes = t;
      tag_is = λ is.
          let a9 = above 8 tag (above 7 tag (above 6 tag (above 5 tag (above 4 tag (above 3 tag (above 2 tag (above 1 tag (some_tag tag is) n1) n2) n3) n4) n5) n6) n7) n8 in
          let a18 = above 17 tag (above 16 tag (above 15 tag (above 14 tag (above 13 tag (above 12 tag (above 11 tag (above 10 tag (above 9 tag a9 n9) n10) n11) n12) n13) n14) n15) n16) n17 in
          last_tag tag a18 is;
      is = λ small. short_counted b small;
    })))))))))))))))))))

-- ---- and again

pub flag_again : (o : ℕ) (b : Bool) (rest : List ℕ) → read_flag (place o (cond b 1 0 ∷ rest)) ≡ Ok (b, place (o + 1) rest)
unfolding read_flag
flag_again o true rest = rw (byte_again o 1 rest) refl
flag_again o false rest = rw (byte_again o 0 rest) refl

-- what is read again makes the value again, at whatever number the end is
made_again : {X : Type 0} (kind : X → Plain) {read : Read X} {x : X} (end other : ℕ) (rest : List ℕ) → end ≡ other → read ≡ Ok (x, place end rest) → made kind read ≡ Ok (kind x, place other rest)
made_again kind {x = x} end other rest same e = ap (made kind) e ∙ ap (λ (n : ℕ). Ok (kind x, place n rest)) same

-- a kind that holds one byte is read again
byte_kind_again : (kind : ℕ → Plain) (o n : ℕ) (rest : List ℕ) → made kind (byte_at (place o (n ∷ rest))) ≡ Ok (kind n, place (o + 1) rest)
byte_kind_again kind o n rest = rw (byte_again o n rest) refl

-- a kind that holds a number of that width is read again
number_kind_again : (w : Width) (limit : ℕ) → IsWide w limit → (kind : ℕ → Plain) (o n : ℕ) (rest : List ℕ) → n < limit
    → made kind (number_at w (place o (to_be_bytes w n ++ rest))) ≡ Ok (kind n, place (o + byte_len w) rest)
number_kind_again w limit wide kind o n rest lt = rw (number_again w limit wide o n rest lt) refl

-- a kind that holds a signed number of that width is read again
signed_kind_again : (w : Width) → IsWide w (2 ^ bits w) → (kind : ℤ → Plain) (o : ℕ) (z : ℤ) (rest : List ℕ) → FitsSigned w z
    → made (λ n. kind (cast_signed w n)) (number_at w (place o (to_be_bytes w (cast_unsigned w z) ++ rest))) ≡ Ok (kind z, place (o + byte_len w) rest)
signed_kind_again w wide kind o z rest fits =
    number_kind_again w (2 ^ bits w) wide (λ n. kind (cast_signed w n)) o (cast_unsigned w z) rest (of_z_fits w z fits).fits
    ∙ ap (λ (y : ℤ). Ok (kind y, place (o + byte_len w) rest)) (to_z-of_z w z fits)

pub plain_again : (o : ℕ) (p : Plain) (rest : List ℕ) → IsPlain p → read_plain (plain_tag p) (place o (plain_body p ++ rest)) ≡ Ok (p, place (o + length (plain_body p)) rest)
unfolding read_plain
plain_again o (Plain.bool true) rest is = rw (flag_again o true rest) refl
plain_again o (Plain.bool false) rest is = rw (flag_again o false rest) refl
plain_again o (Plain.byte n) rest is = byte_kind_again Plain.byte o n rest
plain_again o (Plain.string t) rest is =
    made_again Plain.string (o + 4 + length t) (o + length (counted t)) rest (omega (arith, length-append (to_be_bytes w32 (length t)) t)) (text_again o t rest is)
plain_again o (Plain.size n) rest is = number_kind_again w64 (2 ^ 64) wide64 Plain.size o n rest is
plain_again o (Plain.int8 z) rest is =
    byte_kind_again (λ n. Plain.int8 (cast_signed w8 n)) o (cast_unsigned w8 z) rest
    ∙ ap (λ (y : ℤ). Ok (Plain.int8 y, place (o + 1) rest)) (to_z-of_z w8 z is)
plain_again o (Plain.int16 z) rest is = signed_kind_again w16 wide16 Plain.int16 o z rest is
plain_again o (Plain.int32 z) rest is = signed_kind_again w32 wide32 Plain.int32 o z rest is
plain_again o (Plain.int64 z) rest is = signed_kind_again w64 wide64 Plain.int64 o z rest is
plain_again o (Plain.uint8 n) rest is = byte_kind_again Plain.uint8 o n rest
plain_again o (Plain.uint16 n) rest is = number_kind_again w16 (2 ^ 16) wide16 Plain.uint16 o n rest is
plain_again o (Plain.uint32 n) rest is = number_kind_again w32 (2 ^ 32) wide32 Plain.uint32 o n rest is
plain_again o (Plain.uint64 n) rest is = number_kind_again w64 (2 ^ 64) wide64 Plain.uint64 o n rest is
plain_again o (Plain.int z) rest is = signed_kind_again w32 wide32 Plain.int o z rest is
plain_again o (Plain.uint n) rest is = number_kind_again w32 (2 ^ 32) wide32 Plain.uint o n rest is
plain_again o (Plain.rank n) rest is = number_kind_again w32 (2 ^ 32) wide32 Plain.rank o n rest is
plain_again o (Plain.proc p) rest is =
    made_again Plain.proc (o + 1 + length p.nspace + 4) (o + length (plain_body (Plain.proc p))) rest (omega (arith, length-append p.nspace (to_be_bytes w32 p.rank))) (any_proc_again o p rest is.0 is.1)
plain_again o (Plain.status z) rest is = signed_kind_again w32 wide32 Plain.status o z rest is
plain_again o (Plain.bytes b) rest is =
    made_again Plain.bytes (o + 4 + length b) (o + length (counted b)) rest (omega (arith, length-append (to_be_bytes w32 (length b)) b)) (blob_again o b rest is)

-- ---- lengths

-- bytes that keep their rule have a spelling that keeps that of a value
counted_short : (bytes : List ℕ) → IsTrue (is_blob bytes) → length (counted bytes) ≤ 1048575
counted_short bytes h = let le = leb-true (length bytes) 1048571 h in omega (arith, le, length-append (to_be_bytes w32 (length bytes)) bytes)

-- a name is short
name_short : (name : List ℕ) → IsTrue (is_nspace name) → length name ≤ 255
name_short name h = leb-true (length name) 255 (and_parts (nat_lt 0 (length name)) (nat_le (length name) 255) (and_parts (nat_lt 0 (length name) && nat_le (length name) 255) _ h).0).1

-- the body of a value is no longer than one may be
pub plain_short : (p : Plain) → IsPlain p → length (plain_body p) ≤ 1048575
plain_short (Plain.bool true) is = omega arith
plain_short (Plain.bool false) is = omega arith
plain_short (Plain.string t) is = counted_short t (and_parts (is_none (position is_zero t)) (is_blob t) is).1
plain_short (Plain.proc p) is = omega (arith, name_short p.nspace is.0, length-append p.nspace (to_be_bytes w32 p.rank))
plain_short (Plain.bytes b) is = counted_short b is
plain_short _ is = omega arith
