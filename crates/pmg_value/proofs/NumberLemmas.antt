-- Numbers as the items of arrays.
use Rattle.std.proofs.Common.{◌≡◌, ℕ, ◌+◌, ◌*◌, ◌^◌, ◌<◌, ◌≤◌, Bool, true, false, ◌==◌, not, List, [], ◌∷◌, length, map, IsTrue, refl, sym, ap, subst, ◌∙◌, arith, FitsSigned}
use Rattle.std.specs.Prelude.{if◌then◌else◌, ◌&&◌, ◌%◌}
use Rattle.std.specs.Int.{Width, w8, w16, w32, w64, cast_signed}
use Rattle.std.proofs.Math.Nat.{suc-mul}
use mir.Val.{bits}
use mir.ValLaws.{to_z-Fits}
use Rattle.std.proofs.lemmas.List.{take_all, length-append}
use Rattle.std.proofs.lemmas.Bool.{and_from, eqb-true, lt-leb}
use Rattle.pmg_value.specs.declared.value.Value.{Value}
use Rattle.pmg_value.specs.declared.value.Value.TheVariants as values
use Rattle.pmg_value.specs.Lists.{Each}
use Rattle.pmg_value.specs.Plain.{Plain, IsPlain, plain_tag, plain_body, is_plain_tag}
use Rattle.pmg_value.specs.Elements.{bodies, are_of_kind}
use Rattle.pmg_value.specs.Spelling.{form, is_plain_form, plain_of, are_plain, plains_of, makes_array, HoldsArray}
use Rattle.pmg_value.specs.Items.{number_value, number_width}
use Rattle.pmg_value.proofs.ArrayLemmas.{SoFar, holds_all, no_room}

-- a value of the kind of that tag, which is one of numbers
pub record IsNumber (tag : ℕ) (v : Value) : Type 0 where
  pub plain : IsTrue (is_plain_form (form v))
  pub kind : IsTrue (plain_tag (plain_of (form v)) == tag)
  pub is : IsPlain (plain_of (form v))
  pub long : length (plain_body (plain_of (form v))) ≡ number_width tag

either : {tag : ℕ} (b : Bool) (x y : Value) → (IsTrue b → IsNumber tag x) → (b ≡ false → IsNumber tag y) → IsNumber tag (if b then x else y)
either {tag} b x y here there = elim b as (λ t. b ≡ t → IsNumber tag (if t then x else y)) [ true ↦ λ t. here t | false ↦ λ t. there t ] refl

of_kind : (k tag : ℕ) (v : Value) → IsTrue (tag == k) → IsNumber k v → IsNumber tag v
of_kind k tag v e is = subst (λ t. IsNumber t v) (sym (eqb-true tag k e)) is

signed_fits : (w : Width) (n : ℕ) → n < 2 ^ bits w → FitsSigned w (cast_signed w n)
signed_fits w n lt = to_z-Fits w n (record { fits = lt })

flag_is : (b : Bool) → IsNumber 1 (values.Bool b)
flag_is true = record { plain = refl; kind = refl; is = tt; long = refl }
flag_is false = record { plain = refl; kind = refl; is = tt; long = refl }

-- the value of a number is one
pub number_is : (tag n : ℕ) → 0 < number_width tag → IsNumber tag (number_value tag n)
number_is tag n some =
    either (tag == 2) _ _ (λ e. of_kind 2 tag _ e (record { plain = refl; kind = refl; is = omega arith; long = refl })) (λ n2.
    either (tag == 4) _ _ (λ e. of_kind 4 tag _ e (record { plain = refl; kind = refl; is = omega arith; long = refl })) (λ n4.
    either (tag == 5) _ _ (λ e. of_kind 5 tag _ e (record { plain = refl; kind = refl; is = signed_fits w8 (n % 256) (omega arith); long = refl })) (λ n5.
    either (tag == 6) _ _ (λ e. of_kind 6 tag _ e (record { plain = refl; kind = refl; is = signed_fits w16 (n % 65536) (omega arith); long = refl })) (λ n6.
    either (tag == 7) _ _ (λ e. of_kind 7 tag _ e (record { plain = refl; kind = refl; is = signed_fits w32 (n % 4294967296) (omega arith); long = refl })) (λ n7.
    either (tag == 8) _ _ (λ e. of_kind 8 tag _ e (record { plain = refl; kind = refl; is = signed_fits w64 (n % 18446744073709551616) (omega arith); long = refl })) (λ n8.
    either (tag == 9) _ _ (λ e. of_kind 9 tag _ e (record { plain = refl; kind = refl; is = omega arith; long = refl })) (λ n9.
    either (tag == 10) _ _ (λ e. of_kind 10 tag _ e (record { plain = refl; kind = refl; is = omega arith; long = refl })) (λ n10.
    either (tag == 11) _ _ (λ e. of_kind 11 tag _ e (record { plain = refl; kind = refl; is = omega arith; long = refl })) (λ n11.
    either (tag == 12) _ _ (λ e. of_kind 12 tag _ e (record { plain = refl; kind = refl; is = omega arith; long = refl })) (λ n12.
    either (tag == 13) _ _ (λ e. of_kind 13 tag _ e (record { plain = refl; kind = refl; is = signed_fits w32 (n % 4294967296) (omega arith); long = refl })) (λ n13.
    either (tag == 14) _ _ (λ e. of_kind 14 tag _ e (record { plain = refl; kind = refl; is = omega arith; long = refl })) (λ n14.
    either (tag == 15) _ _ (λ e. of_kind 15 tag _ e (record { plain = refl; kind = refl; is = omega arith; long = refl })) (λ n15.
    either (tag == 17) _ _ (λ e. of_kind 17 tag _ e (record { plain = refl; kind = refl; is = signed_fits w32 (n % 4294967296) (omega arith); long = refl })) (λ n17.
    last (tag == 1) refl n2 n4 n5 n6 n7 n8 n9 n10 n11 n12 n13 n14 n15 n17))))))))))))))
  where
    last : (b : Bool) → (tag == 1) ≡ b → (tag == 2) ≡ false → (tag == 4) ≡ false → (tag == 5) ≡ false → (tag == 6) ≡ false → (tag == 7) ≡ false → (tag == 8) ≡ false → (tag == 9) ≡ false → (tag == 10) ≡ false → (tag == 11) ≡ false → (tag == 12) ≡ false → (tag == 13) ≡ false → (tag == 14) ≡ false → (tag == 15) ≡ false → (tag == 17) ≡ false → IsNumber tag (values.Bool (not (n == 0)))
    last true e n2 n4 n5 n6 n7 n8 n9 n10 n11 n12 n13 n14 n15 n17 = of_kind 1 tag _ e (flag_is (not (n == 0)))
    last false e n2 n4 n5 n6 n7 n8 n9 n10 n11 n12 n13 n14 n15 n17 = absurd (omega (arith, (rw (e, n2, n4, n5, n6, n7, n8, n9, n10, n11, n12, n13, n14, n15, n17) at some)))

-- the kinds of numbers are kinds of elements
some_kind : (p : Plain) → IsTrue (is_plain_tag (plain_tag p))
some_kind (Plain.bool b) = refl
some_kind (Plain.byte n) = refl
some_kind (Plain.string t) = refl
some_kind (Plain.size n) = refl
some_kind (Plain.int8 z) = refl
some_kind (Plain.int16 z) = refl
some_kind (Plain.int32 z) = refl
some_kind (Plain.int64 z) = refl
some_kind (Plain.uint8 n) = refl
some_kind (Plain.uint16 n) = refl
some_kind (Plain.uint32 n) = refl
some_kind (Plain.uint64 n) = refl
some_kind (Plain.int z) = refl
some_kind (Plain.uint n) = refl
some_kind (Plain.rank n) = refl
some_kind (Plain.proc p) = refl
some_kind (Plain.status z) = refl
some_kind (Plain.bytes b) = refl

pub number_tag : (tag : ℕ) → 0 < number_width tag → IsTrue (is_plain_tag tag)
number_tag tag some =
    let is = number_is tag 0 some in
    subst (λ t. IsTrue (is_plain_tag t)) (eqb-true _ tag is.kind) (some_kind (plain_of (form (number_value tag 0))))

module _ (tag : ℕ) (some : 0 < number_width tag) where
  abbrev pub as_values : List ℕ → List Value
  as_values ns = map (number_value tag) ns

  pub numbers_plain : (ns : List ℕ) → IsTrue (are_plain (as_values ns))
  numbers_plain [] = refl
  numbers_plain (n ∷ ns) = and_from (is_plain_form (form (number_value tag n))) (are_plain (as_values ns)) (number_is tag n some).plain (numbers_plain ns)

  numbers_kind : (ns : List ℕ) → IsTrue (are_of_kind tag (plains_of (as_values ns)))
  numbers_kind [] = refl
  numbers_kind (n ∷ ns) =
      and_from (plain_tag (plain_of (form (number_value tag n))) == tag) (are_of_kind tag (plains_of (as_values ns))) (number_is tag n some).kind (numbers_kind ns)

  numbers_each : (ns : List ℕ) → Each IsPlain (plains_of (as_values ns))
  numbers_each [] = tt
  numbers_each (n ∷ ns) = ((number_is tag n some).is, numbers_each ns)

  numbers_long : (ns : List ℕ) → length (bodies (plains_of (as_values ns))) ≡ length ns * number_width tag
  numbers_long [] = omega arith
  numbers_long (n ∷ ns) =
      length-append (plain_body (plain_of (form (number_value tag n)))) (bodies (plains_of (as_values ns)))
      ∙ (λ i. (number_is tag n some).long i + numbers_long ns i)
      ∙ omega (arith, suc-mul (length ns) (number_width tag))

  -- so many numbers, which are no longer than a value, are an array
  pub numbers_hold : (size : ℕ) (ns : List ℕ) → size ≡ 6 + length ns * number_width tag → size ≤ 1048576 → HoldsArray tag size (as_values ns)
  numbers_hold size ns sized bound =
      let so : SoFar tag size (as_values ns) = record {
        plain = numbers_plain ns;
        kind = numbers_kind ns;
        each = numbers_each ns;
        sized = sized ∙ ap (λ (n : ℕ). 6 + n) (sym (numbers_long ns));
        bound = bound;
      } in
      let count = length (as_values ns) in
      holds_all tag size count (as_values ns) (omega arith) (subst (SoFar tag size) (sym (take_all count (as_values ns) (omega arith))) so) (number_tag tag some)

  pub numbers_make : (size : ℕ) (ns : List ℕ) → HoldsArray tag size (as_values ns) → makes_array tag (as_values ns) ≡ true
  numbers_make size ns holds = and_from (are_plain (as_values ns)) _ holds.plain holds.is.is

  -- and more are none
  pub numbers_fail : (ns : List ℕ) → 1048576 < 6 + length ns * number_width tag → makes_array tag (as_values ns) ≡ false
  numbers_fail ns over =
      no_room (are_plain (as_values ns)) (is_plain_tag tag && are_of_kind tag (plains_of (as_values ns))) _ (lt-leb _ _ (omega (arith, over, numbers_long ns)))
