-- A string, a byte object or any process that is read was spelled so, and what is spelled so is read.
use Rattle.std.proofs.Common.{◌≡◌, ℕ, ◌+◌, ◌^◌, ◌<◌, ◌≤◌, ◌&&◌, nat_lt, nat_le, List, [], ◌∷◌, ◌++◌, length, Option, Some, None, Ok, IsTrue, is_none, refl, ap, ◌∙◌, append_assoc, arith}
use Rattle.std.specs.Int.{Width, w32, byte_len, to_be_bytes}
use Rattle.std.specs.List.{position}
use Rattle.std.proofs.lemmas.List.{length-append}
use Rattle.std.proofs.lemmas.Bool.{and_parts, and_from, le-leb, leb-true}
use Rattle.pmg_value.specs.declared.refusal.Cause.TheVariants as causes
use Rattle.pmg_value.specs.declared.process.Proc.{Proc}
use Rattle.pmg_value.specs.Blobs.{is_zero, is_blob, is_text}
use Rattle.pmg_value.specs.Names.{is_nspace}
use Rattle.pmg_value.specs.Plain.{counted}
use Rattle.pmg_wire.specs.Fields.{check_text, read_text, read_blob, read_any_proc}
use Rattle.pmg_wire.specs.Reading.{Place, Read, fault, ◌>>=◌, check, read_bytes, number_at, IsBytes, Takes}
use Rattle.pmg_wire.specs.Spelling.{proc_spelling}
use Rattle.pmg_wire.proofs.Steps.{place, IfRead, bind_if, check_if, done_if, Takes-then, IsBytes-after, bytes_if, bytes_again, wide32, number_if, number_again, byte_if, byte_again}

-- what a string's field took
pub record TakesText (at : Place) (text : List ℕ) (after : Place) : Type 0 where
  pub takes : Takes at (counted text) after
  pub no_zero : IsTrue (is_none (position is_zero text))

-- what any process's field took
pub record TakesProc (at : Place) (p : Proc) (after : Place) : Type 0 where
  pub takes : Takes at (proc_spelling p) after
  pub name : IsTrue (is_nspace p.nspace)
  pub rank : p.rank < 2 ^ 32

check_text_if : {Y : Type 0} {Q : Y → Place → Type 0} (zero_at : Option ℕ) (start : ℕ) (f : Unit {0} → Read Y) → (IsTrue (is_none zero_at) → IfRead (f tt) Q) → IfRead (check_text zero_at start >>= f) Q
check_text_if None start f next = next refl
check_text_if (Some i) start f next = record { holds = λ y end e. absurd cc }

pub text_if : (at : Place) → IsBytes at.rest → IfRead (read_text at) (TakesText at)
unfolding read_text
text_if at fits = bind_if _ (number_if w32 (2 ^ 32) wide32 at fits) (λ len after t.
    let whole : List ℕ × Place → Read (List ℕ) = λ text. check_text (position is_zero text.0) after.offset >>= λ _. Ok text in
    bind_if whole (bytes_if len after) (λ text end u.
    check_text_if (position is_zero text) after.offset (λ _. Ok (text, end)) (λ none.
    done_if (record { takes = Takes-then (to_be_bytes w32 (length text)) text (rw u.len t.takes) u.takes; no_zero = none }))))

pub blob_if : (at : Place) → IsBytes at.rest → IfRead (read_blob at) (λ bytes after. Takes at (counted bytes) after)
unfolding read_blob
blob_if at fits = bind_if _ (number_if w32 (2 ^ 32) wide32 at fits) (λ len after t.
    record { holds = λ bytes end e. let u = (bytes_if len after).holds bytes end e in Takes-then (to_be_bytes w32 (length bytes)) bytes (rw u.len t.takes) u.takes })

pub any_proc_if : (at : Place) → IsBytes at.rest → IfRead (read_any_proc at) (TakesProc at)
unfolding read_any_proc
any_proc_if at fits = bind_if _ (byte_if at) (λ len after t.
    let bad = fault at.offset causes.Name in
    let made : List ℕ → ℕ × Place → Read Proc = λ name rank. Ok (record { nspace = name; rank = rank.0 }, rank.1) in
    let ranked : List ℕ × Place → Read Proc = λ name. number_at w32 name.1 >>= made name.0 in
    let named : List ℕ × Place → Read Proc = λ name. check (is_nspace name.0) bad >>= λ _. ranked name in
    check_if (nat_lt 0 len) bad (λ _. read_bytes len after >>= named) (λ some.
    bind_if named (bytes_if len after) (λ name middle u.
    check_if (is_nspace name) bad (λ _. ranked (name, middle)) (λ is.
    let first : Takes at (length name ∷ []) after = rw u.len t.takes in
    let both : Takes at ((length name ∷ []) ++ name) middle = Takes-then (length name ∷ []) name first u.takes in
    let middle_fits : IsBytes middle.rest = IsBytes-after ((length name ∷ []) ++ name) fits both in
    bind_if (made name) (number_if w32 (2 ^ 32) wide32 middle middle_fits) (λ rank end v.
    done_if (record { takes = Takes-then ((length name ∷ []) ++ name) (to_be_bytes w32 rank) both v.takes; name = is; rank = v.small }))))))

-- the offset of a zero byte of a string fits
pub zero_fits : (n : ℕ) (at after : Place) (text : List ℕ) (start i : ℕ) → start ≡ at.offset → at.offset + length at.rest < 2 ^ 64 → read_bytes n at ≡ Ok (text, after) → i < length text → start + i < 2 ^ 64
zero_fits n at after text start i is fits read lt =
    let t = (bytes_if n at).holds text after read in
    omega (arith, is, fits, ap length t.takes.parts, length-append text after.rest, lt)

-- a number's field is as long as its width
pub number_len : (w : Width) (at : Place) → IfRead (number_at w at) (λ n after. length at.rest ≡ byte_len w + length after.rest)
number_len w at = bind_if _ (bytes_if (byte_len w) at) (λ b after t.
    done_if (ap length t.takes.parts ∙ length-append b after.rest ∙ ap (λ (n : ℕ). n + length after.rest) t.len))

-- what was taken is no more than what was there
pub taken_short : {at after : Place} (text : List ℕ) → Takes at text after → length at.rest ≤ 1048575 → length text ≤ 1048575
taken_short {after = after} text t short = omega (arith, short, ap length t.parts, length-append text after.rest)

-- bytes whose spelling is short enough are short enough
pub short_counted : (bytes : List ℕ) → length (counted bytes) ≤ 1048575 → IsTrue (is_blob bytes)
short_counted bytes h = le-leb (length bytes) 1048571 (omega (arith, h, length-append (to_be_bytes w32 (length bytes)) bytes))

-- what is read from bytes that are no more than a value's body is a byte object
pub blob_is : (at after : Place) (bytes : List ℕ) → IsBytes at.rest → length at.rest ≤ 1048575 → read_blob at ≡ Ok (bytes, after) → IsTrue (is_blob bytes)
blob_is at after bytes fits short read = short_counted bytes (taken_short (counted bytes) ((blob_if at fits).holds bytes after read) short)

-- or a string
pub text_is : (at after : Place) (text : List ℕ) → IsBytes at.rest → length at.rest ≤ 1048575 → read_text at ≡ Ok (text, after) → IsTrue (is_text text)
text_is at after text fits short read =
    let t = (text_if at fits).holds text after read in
    and_from (is_none (position is_zero text)) (is_blob text) t.no_zero (short_counted text (taken_short (counted text) t.takes short))

-- ---- and again

none_is : (o : Option ℕ) → IsTrue (is_none o) → o ≡ None
none_is None h = refl
none_is (Some i) h = absurd cc

blob_short : (bytes : List ℕ) → IsTrue (is_blob bytes) → length bytes < 2 ^ 32
blob_short bytes h = let le = leb-true (length bytes) 1048571 h in omega arith

pub text_again : (o : ℕ) (text rest : List ℕ) → IsTrue (is_text text) → read_text (place o (counted text ++ rest)) ≡ Ok (text, place (o + 4 + length text) rest)
unfolding read_text
text_again o text rest is =
    let parts = and_parts (is_none (position is_zero text)) (is_blob text) is in
    let none = none_is (position is_zero text) parts.0 in
    let first = number_again w32 (2 ^ 32) wide32 o (length text) (text ++ rest) (blob_short text parts.1) in
    let second = bytes_again (o + 4) text rest (length text) refl in
    rw (first, second, none) refl

pub blob_again : (o : ℕ) (bytes rest : List ℕ) → IsTrue (is_blob bytes) → read_blob (place o (counted bytes ++ rest)) ≡ Ok (bytes, place (o + 4 + length bytes) rest)
unfolding read_blob
blob_again o bytes rest small =
    let first = number_again w32 (2 ^ 32) wide32 o (length bytes) (bytes ++ rest) (blob_short bytes small) in
    let second = bytes_again (o + 4) bytes rest (length bytes) refl in
    rw (first, second) refl

pub name_len : (name : List ℕ) → IsTrue (is_nspace name) → IsTrue (nat_lt 0 (length name))
name_len name h = (and_parts (nat_lt 0 (length name)) (nat_le (length name) 255) (and_parts (nat_lt 0 (length name) && nat_le (length name) 255) _ h).0).0

pub any_proc_again : (o : ℕ) (p : Proc) (rest : List ℕ) → IsTrue (is_nspace p.nspace) → p.rank < 2 ^ 32 → read_any_proc (place o (proc_spelling p ++ rest)) ≡ Ok (p, place (o + 1 + length p.nspace + 4) rest)
unfolding read_any_proc
any_proc_again o p rest name fits =
    let len = name_len p.nspace name in
    let after_name = to_be_bytes w32 p.rank ++ rest in
    let regrouped : place o (proc_spelling p ++ rest) ≡ place o (length p.nspace ∷ (p.nspace ++ after_name)) = ap (λ (t : List ℕ). place o (length p.nspace ∷ t)) (append_assoc p.nspace (to_be_bytes w32 p.rank) rest) in
    let first = byte_again o (length p.nspace) (p.nspace ++ after_name) in
    let second = bytes_again (o + 1) p.nspace after_name (length p.nspace) refl in
    let third = number_again w32 (2 ^ 32) wide32 (o + 1 + length p.nspace) p.rank rest fits in
    ap read_any_proc regrouped ∙ rw (first, len, second, name, third) refl
