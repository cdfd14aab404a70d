-- The laws of reading, step by step: what is read was spelled so, and what is spelled so is read.
use Rattle.std.proofs.Common.{◌≡◌, ℕ, ◌+◌, ◌^◌, ◌<◌, ◌≤◌, Bool, true, false, cond, ltb, List, [], ◌∷◌, ◌++◌, length, get_or, take, drop, Result, Ok, Err, IsTrue, refl, sym, ap, subst, ◌∙◌, append_assoc, arith, inl, inr}
use Rattle.std.specs.Int.{Width, w16, w32, w64, byte_len, from_be_bytes, to_be_bytes}
use Rattle.std.proofs.lemmas.Bool.{cases_lt, ltb-false, le-ltb}
use Rattle.std.proofs.lemmas.List.{take_at, drop_at, take-append-drop, length-append, length-take, get_or-drop, get_or-take, get_or_past, get_or-append-add}
use Rattle.std.proofs.lemmas.Nat.{be_bytes_2, be_bytes_4, be_bytes_8, from_be_bytes-to_be_bytes_2, from_be_bytes-to_be_bytes_4, from_be_bytes-to_be_bytes_8}
use Rattle.pmg_value.specs.declared.refusal.Fault.{Fault}
use Rattle.pmg_wire.specs.Reading.{Place, past, fault, Read, ◌>>=◌, check, read_bytes, byte_at, number_at, IsBytes, Takes, FailsReading}
use Rattle.pmg_value.specs.declared.refusal.Refusal.{Refusal}

-- the place at an offset before these bytes
abbrev pub place : ℕ → List ℕ → Place
place offset rest = record { offset = offset; rest = rest }

-- whatever is read has the property
pub record IfRead {X : Type 0} (read : Read X) (P : X → Place → Type 0) : Type 0 where
  pub holds : (x : X) (after : Place) → read ≡ Ok (x, after) → P x after

pub bind_ok : {A B : Type 0} (r : Result A Fault) (f : A → Result B Fault) (y : B) → (r >>= f) ≡ Ok y → (x : A) × (r ≡ Ok x) × (f x ≡ Ok y)
bind_ok (Ok x) f y e = (x, refl, e)
bind_ok (Err d) f y e = absurd cc

pub bind_if : {X Y : Type 0} {read : Read X} {P : X → Place → Type 0} {Q : Y → Place → Type 0} (f : X × Place → Read Y) → IfRead read P → ((x : X) (after : Place) → P x after → IfRead (f (x, after)) Q) → IfRead (read >>= f) Q
bind_if {read = read} f p next = record {
  holds = λ y end e.
      let b = bind_ok read f (y, end) e in
      (next b.0.0 b.0.1 (p.holds b.0.0 b.0.1 b.1)).holds y end b.2;
}

pub check_if : {Y : Type 0} {Q : Y → Place → Type 0} (b : Bool) (d : Fault) (f : Unit {0} → Read Y) → (IsTrue b → IfRead (f tt) Q) → IfRead (check b d >>= f) Q
check_if true d f next = next refl
check_if false d f next = record { holds = λ y end e. absurd cc }

pub done_if : {X : Type 0} {x : X} {after : Place} {P : X → Place → Type 0} → P x after → IfRead (Ok (x, after)) P
done_if {X = X} {x = x} {after = after} {P = P} p = record {
  holds = λ y end e.
      let F : X × Place → Type 0 = λ z. P z.0 z.1 in
      let same : (x, after) ≡ (y, end) = cc in
      subst F same p;
}

pub refused_if : {X : Type 0} {d : Fault} {P : X → Place → Type 0} → IfRead (Err d) P
refused_if = record { holds = λ y end e. absurd cc }

pub Takes-then : {a b c : Place} (x y : List ℕ) → Takes a x b → Takes b y c → Takes a (x ++ y) c
Takes-then {a = a} {b = b} {c = c} x y p q = record {
  parts = p.parts ∙ ap (λ (t : List ℕ). x ++ t) q.parts ∙ sym (append_assoc x y c.rest);
  place = q.place ∙ ap (λ (n : ℕ). n + length y) p.place ∙ omega (arith, length-append x y);
}

-- bytes stay bytes after what was read
pub IsBytes-after : {a b : Place} (x : List ℕ) → IsBytes a.rest → Takes a x b → IsBytes b.rest
IsBytes-after {a = a} {b = b} x h t i =
    let at : get_or a.rest (length x + i) 0 ≡ get_or b.rest i 0 = rw t.parts (get_or-append-add x b.rest i 0) in
    rw (← at) (h (length x + i))

pub IsBytes-drop : (n : ℕ) (bytes : List ℕ) → IsBytes bytes → IsBytes (drop n bytes)
IsBytes-drop n bytes h i = rw get_or-drop (h (n + i))

pub IsBytes-take : (n : ℕ) (bytes : List ℕ) → IsBytes bytes → IsBytes (take n bytes)
IsBytes-take n bytes h i =
    elim (cases_lt i n) [
      | inl lt ↦ rw (get_or-take n bytes i 0 lt) (h i)
      | inr le ↦ rw (get_or_past (take n bytes) i 0 (omega (arith, length-take n bytes))) (omega arith)
    ]

-- ---- bytes

pub guard_ok : {A : Type 0} (b : Bool) (d : Fault) (x y : A) → cond b (Err d) (Ok x) ≡ Ok y → (b ≡ false) × (x ≡ y)
guard_ok true d x y e = absurd cc
guard_ok false d x y e = (refl, cc)

-- what a field of n bytes took
pub record TakesField (n : ℕ) (at : Place) (b : List ℕ) (after : Place) : Type 0 where
  pub takes : Takes at b after
  pub len : length b ≡ n
  pub bytes : IsBytes at.rest → IsBytes b

pub bytes_if : (n : ℕ) (at : Place) → IfRead (read_bytes n at) (TakesField n at)
unfolding read_bytes
bytes_if n at = record {
  holds = λ b after e.
      let g = guard_ok (ltb (length at.rest) n) (fault at.offset _) (take n at.rest, past at n) (b, after) e in
      let long : n ≤ length at.rest = ltb-false _ _ g.0 in
      let len : length (take n at.rest) ≡ n = omega (arith, length-take n at.rest) in
      let taken : TakesField n at (take n at.rest) (past at n) = record {
        takes = record { parts = sym (take-append-drop n at.rest); place = omega arith };
        len = len;
        bytes = IsBytes-take n at.rest;
      } in
      subst (λ (z : List ℕ × Place). TakesField n at z.0 z.1) g.1 taken;
}

pub bytes_again : (o : ℕ) (text rest : List ℕ) (n : ℕ) → length text ≡ n → read_bytes n (place o (text ++ rest)) ≡ Ok (text, place (o + n) rest)
unfolding read_bytes
bytes_again o text rest n e =
    let long : ltb (length (text ++ rest)) n ≡ false = le-ltb _ _ (omega (arith, length-append text rest)) in
    rw (long, take_at text rest n e, drop_at text rest n e) refl

-- ---- numbers

-- what the laws ask of a width
pub record IsWide (w : Width) (limit : ℕ) : Type 0 where
  pub len : (n : ℕ) → length (to_be_bytes w n) ≡ byte_len w
  pub back : (bytes : List ℕ) → length bytes ≡ byte_len w → IsBytes bytes → to_be_bytes w (from_be_bytes w bytes) ≡ bytes
  pub again : (n : ℕ) → n < limit → from_be_bytes w (to_be_bytes w n) ≡ n
  pub below : (bytes : List ℕ) → IsBytes bytes → from_be_bytes w bytes < limit

pub wide16 : IsWide w16 (2 ^ 16)
wide16 = record {
  len = λ n. refl;
  back = λ bytes len fits. be_bytes_2 bytes _ len fits refl;
  again = λ n lt. from_be_bytes-to_be_bytes_2 n lt;
  below = λ bytes fits. omega (arith, fits 0, fits 1);
}

pub wide32 : IsWide w32 (2 ^ 32)
wide32 = record {
  len = λ n. refl;
  back = λ bytes len fits. be_bytes_4 bytes _ len fits refl;
  again = λ n lt. from_be_bytes-to_be_bytes_4 n lt;
  below = λ bytes fits. omega (arith, fits 0, fits 1, fits 2, fits 3);
}

pub wide64 : IsWide w64 (2 ^ 64)
wide64 = record {
  len = λ n. refl;
  back = λ bytes len fits. be_bytes_8 bytes _ len fits refl;
  again = λ n lt. from_be_bytes-to_be_bytes_8 n lt;
  below = λ bytes fits. omega (arith, fits 0, fits 1, fits 2, fits 3, fits 4, fits 5, fits 6, fits 7);
}

-- what a number's field took
pub record TakesNumber (w : Width) (limit : ℕ) (at : Place) (n : ℕ) (after : Place) : Type 0 where
  pub takes : Takes at (to_be_bytes w n) after
  pub small : n < limit

pub number_if : (w : Width) (limit : ℕ) → IsWide w limit → (at : Place) → IsBytes at.rest → IfRead (number_at w at) (TakesNumber w limit at)
number_if w limit wide at fits = bind_if _ (bytes_if (byte_len w) at) (λ b after t.
    let back : to_be_bytes w (from_be_bytes w b) ≡ b = wide.back b t.len (t.bytes fits) in
    done_if (record { takes = rw back t.takes; small = wide.below b (t.bytes fits) }))

pub number_again : (w : Width) (limit : ℕ) → IsWide w limit → (o n : ℕ) (rest : List ℕ) → n < limit → number_at w (place o (to_be_bytes w n ++ rest)) ≡ Ok (n, place (o + byte_len w) rest)
number_again w limit wide o n rest lt = rw (bytes_again o (to_be_bytes w n) rest (byte_len w) (wide.len n), wide.again n lt) refl

one_byte : (b : List ℕ) → length b ≡ 1 → get_or b 0 0 ∷ [] ≡ b
one_byte [] e = absurd cc
one_byte (x ∷ []) e = refl
one_byte (x ∷ (y ∷ ys)) e = absurd (omega arith)

-- what a byte's field took
pub record TakesByte (at : Place) (n : ℕ) (after : Place) : Type 0 where
  pub takes : Takes at (n ∷ []) after
  pub small : IsBytes at.rest → n < 256

pub byte_if : (at : Place) → IfRead (byte_at at) (TakesByte at)
byte_if at = bind_if _ (bytes_if 1 at) (λ b after t. done_if (record { takes = rw (one_byte b t.len) t.takes; small = λ fits. t.bytes fits 0 }))

pub byte_again : (o n : ℕ) (rest : List ℕ) → byte_at (place o (n ∷ rest)) ≡ Ok (n, place (o + 1) rest)
byte_again o n rest = rw (bytes_again o (n ∷ []) rest 1 refl) refl

pub choice_if : {X : Type 0} {P : X → Place → Type 0} (b : Bool) {yes_read no_read : Read X} → (IsTrue b → IfRead yes_read P) → (b ≡ false → IfRead no_read P) → IfRead (cond b yes_read no_read) P
choice_if true f g = f refl
choice_if false f g = g refl

-- a refusal of what reading gives is a refusal of what is due
pub fails_as_due : {X : Type 0} (e : Refusal) (read due : Read X) → FailsReading e read → read ≡ due → FailsReading e due
fails_as_due e read due h is = subst (FailsReading e) is h
