-- A text that is written in parts: what the calls for the parts did, the call for the whole did.
-- The premises on the last part stand first, so that `search` finds the writer between two parts.
use Rattle.std.proofs.Common.{◌≡◌, ℕ, List, [], ◌+◌, ◌-◌, ◌++◌, length, length-drop, take, drop, refl, arith, rules, ◌∙◌, ap, sym, subst, append_assoc, None, Some, min}
use Rattle.std.specs.Prelude.{OnOk}
use Rattle.std.specs.declared.option.Option.{Option}
use Rattle.std.specs.declared.result.Result.{Result}
use Rattle.std.specs.Io.KnownBytes.{Appends, Keeps}
use Rattle.std.proofs.Math.Seq.{take-add, take-append-add}
use Rattle.std.proofs.lemmas.Grind.{common_steps}
use Rattle.std.proofs.lemmas.List.{take-append-drop}
use Rattle.std.proofs.lemmas.Result.{on_ok_weaker}
use Rattle.pmg_value.specs.Written.{AppendsFront, Writes}

-- no text
pub appends_nothing : (known : Option (List ℕ)) → Appends known known []
appends_nothing None = tt
appends_nothing (Some xs) = search rules

-- a text, and then another
pub appends_then : (old mid new : Option (List ℕ)) (a b : List ℕ) → Appends mid new b → Appends old mid a → Appends old new (a ++ b)
appends_then None mid new a b second first = tt
appends_then (Some xs) None new a b second first = absurd first
appends_then (Some xs) (Some ys) None a b second first = absurd second
appends_then (Some xs) (Some ys) (Some zs) a b second first = second ∙ ap (λ bytes. bytes ++ b) first ∙ append_assoc xs a b

-- a text, and then nothing
pub appends_kept : (old mid new : Option (List ℕ)) (a : List ℕ) → Keeps mid new → Appends old mid a → Appends old new a
appends_kept None mid new a kept first = tt
appends_kept (Some xs) None new a kept first = absurd first
appends_kept (Some xs) (Some ys) None a kept first = absurd kept
appends_kept (Some xs) (Some ys) (Some zs) a kept first = kept ∙ first

-- a text, and then another where the call succeeds
pub ok_then : {T E : Type 0} (result : Result T E) (old mid new : Option (List ℕ)) (a b : List ℕ) →
    OnOk result (Appends mid new b) → Appends old mid a → OnOk result (Appends old new (a ++ b))
ok_then result old mid new a b second first = on_ok_weaker result (λ all. appends_then old mid new a b all first) second

take_front : (count : ℕ) (a b : List ℕ) → take (min count (length a)) (a ++ b) ≡ take count a
take_front count a b = grind (arith, common_steps)

take_all : (a : List ℕ) → take (length a) a ≡ a
take_all a = grind (arith, common_steps)

-- a prefix of the first part is a prefix of the whole
pub front_of_first : {old new : Option (List ℕ)} {a : List ℕ} (b : List ℕ) → AppendsFront old new a → AppendsFront old new (a ++ b)
front_of_first {old} {new} {a} b front = record {
  count = min front.count (length a);
  bytes = subst (λ bytes. Appends old new bytes) (sym (take_front front.count a b)) front.bytes;
}

-- the first part, and a prefix of the second
pub front_of_second : {old mid new : Option (List ℕ)} {b : List ℕ} (a : List ℕ) → AppendsFront mid new b → Appends old mid a → AppendsFront old new (a ++ b)
front_of_second {old} {mid} {new} {b} a front first = record {
  count = length a + front.count;
  bytes = subst (λ bytes. Appends old new bytes) (sym (take-append-add a b front.count)) (appends_then old mid new a (take front.count b) front.bytes first);
}

-- the whole is a front
pub front_of_all : (old new : Option (List ℕ)) (a : List ℕ) → Appends old new a → AppendsFront old new a
front_of_all old new a all = record { count = length a; bytes = subst (λ bytes. Appends old new bytes) (sym (take_all a)) all }

take_rest : (text : List ℕ) (done : ℕ) → take (length text - done) (drop done text) ≡ drop done text
take_rest text done = rw (← length-drop done text) (take_all (drop done text))

take_more_bytes : (text rest : List ℕ) (done taken : ℕ) → rest ≡ take (length text - done) (drop done text) →
    take (done + taken) text ≡ take done text ++ take taken rest
take_more_bytes text rest done taken is =
    take-add done taken text ∙ ap (λ bytes. take done text ++ take taken bytes) (sym (is ∙ take_rest text done))

-- a write of what is left of a text, from `done` on, took `taken` bytes
pub appends_taken : (old mid new : Option (List ℕ)) (text rest : List ℕ) (done taken : ℕ) → rest ≡ take (length text - done) (drop done text) →
    Appends mid new (take taken rest) → Appends old mid (take done text) → Appends old new (take (done + taken) text)
appends_taken old mid new text rest done taken is second first =
    subst (λ bytes. Appends old new bytes) (sym (take_more_bytes text rest done taken is)) (appends_then old mid new (take done text) (take taken rest) second first)

-- what a function that writes a text in parts, each after a `?`, has to prove at its exits
pub ruleset written_in_parts = (appends_nothing, appends_then, ok_then, front_of_first, front_of_second, front_of_all)

-- two parts, where each is known by another name
pub two_parts : {T E : Type 0} (result : Result T E) (old mid new : Option (List ℕ)) (a b c d : List ℕ) → a ≡ c → b ≡ d → Writes mid new result b → Appends old mid a → Writes old new result (c ++ d)
two_parts result old mid new a b c d is_c is_d second first =
    rw (← is_c, ← is_d) (front_of_second a second.0 first, ok_then result old mid new a b second.1 first)

-- a prefix of the first of two parts, which is known by another name, where the call fails
pub first_part : {T E : Type 0} (result : Result T E) (old new : Option (List ℕ)) (a c d : List ℕ) → a ≡ c → AppendsFront old new a → OnOk result ⊥ → Writes old new result (c ++ d)
first_part result old new a c d is front failed =
    (subst (AppendsFront old new) (ap (λ (t : List ℕ). t ++ d) is) (front_of_first d front), on_ok_weaker result (λ never. absurd never) failed)

-- some of a text, and then the rest of it
pub rest_written : {T E : Type 0} (result : Result T E) (old mid new : Option (List ℕ)) (text rest : List ℕ) (taken : ℕ) → rest ≡ take (length text - taken) (drop taken text) →
    Appends old mid (take taken text) → Writes mid new result rest → Writes old new result text
rest_written result old mid new text rest taken is first second =
    let whole = take-append-drop taken text in
    rw (← whole) (two_parts result old mid new (take taken text) rest (take taken text) (drop taken text) refl (is ∙ take_rest text taken) second first)
