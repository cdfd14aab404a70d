-- A value whose bytes were passed over is read from these bytes alone.
use Rattle.std.proofs.Common.{◌≡◌, ℕ, suc, ◌+◌, ◌-◌, ◌<◌, ◌≤◌, true, ◌&&◌, nat_lt, nat_le, List, [], ◌∷◌, ◌++◌, length, get_or, take, Ok, Err, IsTrue, refl, sym, ap, subst, ◌∙◌, arith}
use Rattle.std.specs.declared.result.Result.{Result}
use Rattle.std.proofs.lemmas.List.{length-append, length-take, take_at, append-nil}
use Rattle.std.proofs.lemmas.Bool.{and_from, le-leb, lt-ltb}
use Rattle.pmg_value.specs.declared.refusal.Refusal.{Refusal}
use Rattle.pmg_value.specs.declared.refusal.Refusal.TheVariants as refusals
use Rattle.pmg_value.specs.declared.value.Value.{Value}
use Rattle.pmg_value.specs.Spelling.{Form, form, value_of, form_body}
use Rattle.pmg_value.proofs.FormLemmas.{value_of-form}
use Rattle.pmg_wire.specs.Fields.{made, passed, read_plain, read_value_body, read_value}
use Rattle.pmg_wire.specs.Reading.{Place, Read, past, front, byte_at, IsBytes, Takes, FailsReading, Reads}
use Rattle.pmg_wire.proofs.ArrayLaws.{TakesBody, body_if, body_again}
use Rattle.pmg_wire.proofs.Passing.{was_passed}
use Rattle.pmg_wire.proofs.Steps.{place, byte_if, byte_again}

-- a body that was passed over
pub record IsPassed (tag : ℕ) (at behind : Place) : Type 0 where
  pub form : Form
  pub read : read_value_body tag at ≡ Ok (form, behind)
  pub took : TakesBody tag at form behind

pub is_passed : (tag : ℕ) (at : Place) (u : Unit {0}) (behind : Place) → IsBytes at.rest → passed (read_value_body tag at) ≡ Ok (u, behind) → IsPassed tag at behind
is_passed tag at u behind fits e =
    let w = was_passed (read_value_body tag at) u behind e in
    record { form = w.0; read = w.1; took = (body_if tag at fits).holds w.0 behind w.1 }

-- by a second cursor, too
pub passed_body : (tag : ℕ) (at fork : Place) (u : Unit {0}) (behind : Place) → fork ≡ at → IsBytes at.rest → passed (read_value_body tag fork) ≡ Ok (u, behind) → IsPassed tag at behind
passed_body tag at fork u behind same fits e = is_passed tag at u behind fits (ap (λ (x : Place). passed (read_value_body tag x)) (sym same) ∙ e)

-- how far it reaches
pub record Reaches (at behind : Place) : Type 0 where
  pub forward : at.offset ≤ behind.offset
  pub within : behind.offset - at.offset ≤ length at.rest

pub reaches : (tag : ℕ) (at behind : Place) → IsPassed tag at behind → Reaches at behind
reaches tag at behind p =
    let t = p.took.takes in
    let all = ap length t.parts in
    let sum = length-append (form_body p.form) behind.rest in
    record { forward = omega (arith, t.place); within = omega (arith, t.place, all, sum) }

-- its bytes are those between the two places
between : (at behind : Place) (text : List ℕ) → Takes at text behind → front (behind.offset - at.offset) at ≡ place at.offset (text ++ [])
between at behind text t =
    let len : length text ≡ behind.offset - at.offset = omega (arith, t.place) in
    ap (place at.offset) (ap (take (behind.offset - at.offset)) t.parts ∙ take_at text behind.rest (behind.offset - at.offset) len ∙ sym (append-nil text))

-- what was passed over is read from its bytes alone
pub in_window : (tag : ℕ) (at behind : Place) → (p : IsPassed tag at behind) → IsTrue (nat_lt 0 tag && nat_lt tag 20) → behind.offset - at.offset ≤ 1048575
    → read_value_body tag (front (behind.offset - at.offset) at) ≡ Ok (p.form, place (at.offset + length (form_body p.form)) [])
in_window tag at behind p is small =
    let t = p.took.takes in
    let short : length (form_body p.form) ≤ 1048575 = omega (arith, t.place, small) in
    let tag_is = p.took.tag_is is in
    ap (read_value_body tag) (between at behind (form_body p.form) t)
    ∙ ap (λ (n : ℕ). read_value_body n (place at.offset (form_body p.form ++ []))) tag_is
    ∙ body_again at.offset p.form [] (p.took.is short)

form_is : (f g : Form) (x y : Place) (r : Read Form) → r ≡ Ok (f, x) → r ≡ Ok (g, y) → f ≡ g
form_is f g x y r p q =
    let same : (f, x) ≡ (g, y) = cc in
    ap (λ (z : Form × Place). z.0) same

-- a value whose tag was read and whose body was passed over
pub record HasPassed (at : Place) (tag : ℕ) (after behind : Place) : Type 0 where
  pub tag_read : byte_at at ≡ Ok (tag, after)
  pub tag_is : IsTrue (nat_lt 0 tag && nat_lt tag 20)
  pub body : IsPassed tag after behind
  pub small : behind.offset - at.offset ≤ 1048576

-- the tag is one byte
pub tag_len : (at : Place) (tag : ℕ) (after : Place) → byte_at at ≡ Ok (tag, after) → after.offset ≡ at.offset + 1
tag_len at tag after e = ((byte_if at).holds tag after e).takes.place

pub behind_tag : (at : Place) (tag : ℕ) (after behind : Place) → HasPassed at tag after behind → behind.offset - after.offset ≤ 1048575
behind_tag at tag after behind h =
    omega (arith, tag_len at tag after h.tag_read, h.small, (reaches tag after behind h.body).forward)

-- its bytes are no more than a value's body
pub window_short : (at : Place) (tag : ℕ) (after behind : Place) → HasPassed at tag after behind → length (take (behind.offset - after.offset) after.rest) ≤ 1048575
window_short at tag after behind h = omega (arith, length-take (behind.offset - after.offset) after.rest, behind_tag at tag after behind h)

-- the facts in the code's own names
pub has_passed : (at : Place) (tag : ℕ) (after fork : Place) (u : Unit {0}) (behind : Place) (start stop : ℕ) → byte_at at ≡ Ok (tag, after) → 0 < tag → tag < 20
    → fork ≡ after → IsBytes after.rest → passed (read_value_body tag fork) ≡ Ok (u, behind) → start ≡ at.offset → stop ≡ behind.offset → stop - start ≤ 1048576 → HasPassed at tag after behind
has_passed at tag after fork u behind start stop read above below same fits over from to small = record {
  tag_read = read;
  tag_is = and_from (nat_lt 0 tag) (nat_lt tag 20) (lt-ltb 0 tag above) (lt-ltb tag 20 below);
  body = passed_body tag after fork u behind same fits over;
  small = omega (arith, from, to, small);
}

pub window_is : (after behind window : Place) (start stop : ℕ) → start ≡ after.offset → stop ≡ behind.offset → window ≡ front (stop - start) after → window ≡ front (behind.offset - after.offset) after
window_is after behind window start stop from to is =
    let len : stop - start ≡ behind.offset - after.offset = omega (arith, from, to) in
    is ∙ ap (λ (n : ℕ). front n after) len

-- the value that its bytes give is the one that stands there
pub reads_whole : (at : Place) (tag : ℕ) (after behind : Place) (v : Value) (end : Place) → HasPassed at tag after behind
    → read_value_body tag (front (behind.offset - after.offset) after) ≡ Ok (form v, end) → read_value at ≡ Ok (v, behind)
unfolding read_value
reads_whole at tag after behind v end h read =
    let first = h.tag_read in
    let tag_is = h.tag_is in
    let body = h.body.read in
    let size : nat_le (behind.offset - at.offset) 1048576 ≡ true = le-leb _ _ h.small in
    let window = in_window tag after behind h.body h.tag_is (behind_tag at tag after behind h) in
    let same : h.body.form ≡ form v = form_is _ _ _ _ _ window read in
    rw (first, tag_is, body, size) (ap (λ (w : Value). Ok (w, behind)) (ap value_of same ∙ value_of-form v))

-- and reading there fails because an allocation failed alone
pub fails_whole : (at : Place) (tag : ℕ) (after behind : Place) (e : Refusal) (due : Read Value) → HasPassed at tag after behind
    → FailsReading e (read_value_body tag (front (behind.offset - after.offset) after)) → FailsReading e due
fails_whole at tag after behind e due h failed =
    let window = in_window tag after behind h.body h.tag_is (behind_tag at tag after behind h) in
    no_fault e _ (subst (FailsReading e) window failed)
  where
    no_fault : (e : Refusal) (x : Form × Place) → FailsReading e (Ok x) → FailsReading e due
    no_fault refusals.NoMemory x f = tt
    no_fault (refusals.BadFrame d) x f = absurd cc
    no_fault e x f = absurd f

-- ---- a value that cannot be too long

rest_fits : (at : Place) (tag : ℕ) (after : Place) → byte_at at ≡ Ok (tag, after) → IsBytes at.rest → IsBytes after.rest
rest_fits at tag after e fits = λ i. subst (λ bytes. get_or bytes (suc i) 0 < 256) ((byte_if at).holds tag after e).takes.parts (fits (suc i))

short_value : (at : Place) (tag : ℕ) (after : Place) (result : Result Value Refusal) (behind : Place) → byte_at at ≡ Ok (tag, after) → 0 < tag → tag < 20
    → IsBytes at.rest → length after.rest ≤ 1048575 → Reads form result behind (read_value_body tag after) → Reads (λ v. v) result behind (read_value at)
unfolding read_value
short_value at tag after (Ok v) behind first above below fits short read =
    let tag_is = and_from (nat_lt 0 tag) (nat_lt tag 20) (lt-ltb 0 tag above) (lt-ltb tag 20 below) in
    let passed : IsPassed tag after behind = record { form = form v; read = read; took = (body_if tag after (rest_fits at tag after first fits)).holds (form v) behind read } in
    let size : nat_le (behind.offset - at.offset) 1048576 ≡ true = le-leb _ _ (omega (arith, tag_len at tag after first, (reaches tag after behind passed).within, short)) in
    rw (first, tag_is, read, size) (ap (λ (w : Value). Ok (w, behind)) (value_of-form v))
short_value at tag after (Err refusals.NoMemory) behind first above below fits short failed = tt
short_value at tag after (Err (refusals.BadFrame f)) behind first above below fits short failed =
    let tag_is = and_from (nat_lt 0 tag) (nat_lt tag 20) (lt-ltb 0 tag above) (lt-ltb tag 20 below) in
    rw (first, tag_is, failed) refl
short_value at tag after (Err e) behind first above below fits short failed = absurd failed

first_tag : (o : ℕ) (rest : List ℕ) (tag : ℕ) (after : Place) → 0 < length rest → tag ≡ get_or rest 0 0 → after ≡ past (place o rest) 1 → byte_at (place o rest) ≡ Ok (tag, after)
first_tag o [] tag after some is on = absurd (omega arith)
first_tag o (n ∷ ns) tag after some is on = rw (is, on) (byte_again o n ns)

plain_body_is : (tag : ℕ) (after : Place) → tag < 19 → read_value_body tag after ≡ made Form.plain (read_plain tag after)
unfolding read_value_body
plain_body_is tag after below = grind arith

-- where the first byte is the tag of no array, and no more bytes are left than a value may have, the value is what its tag and its body are
pub quick_value : (at after : Place) (tag : ℕ) (result : Result Value Refusal) (behind : Place) → 0 < length at.rest → tag ≡ get_or at.rest 0 0 → after ≡ past at 1 → 0 < tag → tag < 19
    → IsBytes at.rest → length at.rest ≤ 1048576 → Reads form result behind (made Form.plain (read_plain tag after)) → Reads (λ v. v) result behind (read_value at)
quick_value at after tag result behind some is on above below fits few read =
    let first = first_tag at.offset at.rest tag after some is on in
    let short : length after.rest ≤ 1048575 = omega (arith, length-append (tag ∷ []) after.rest, ap length ((byte_if at).holds tag after first).takes.parts, few) in
    short_value at tag after result behind first above (omega (arith, below)) fits short (rw (plain_body_is tag after below) read)
