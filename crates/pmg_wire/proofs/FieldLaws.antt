-- A key, a process or a value that is read was spelled so, and what is spelled so is read.
use Rattle.std.proofs.Common.{◌≡◌, ℕ, ◌+◌, ◌-◌, ◌^◌, ◌<◌, ◌≤◌, Bool, true, false, ◌&&◌, ◌||◌, not, nat_lt, nat_le, ◌==◌, cond, List, [], ◌∷◌, ◌++◌, length, Ok, IsTrue, refl, sym, ap, ◌∙◌, append_assoc, arith}
use Rattle.std.specs.Int.{w16, w32, to_be_bytes}
use Rattle.std.specs.Str.{bytes_eq}
use Rattle.std.proofs.lemmas.List.{length-append}
use Rattle.std.proofs.lemmas.Bool.{and_parts, or_left, eqb-true, leb-true, le-leb}
use Rattle.std.proofs.lemmas.Bool.Decides.{nat_tests}
use Rattle.std.proofs.lemmas.Slice.Eq.{bytes_eq-Decides}
use Rattle.pmg_value.specs.declared.refusal.Cause.TheVariants as causes
use Rattle.pmg_value.specs.declared.process.Proc.{Proc}
use Rattle.pmg_value.specs.declared.value.Value.{Value}
use Rattle.pmg_value.specs.Names.{is_nspace, is_key, is_reserved}
use Rattle.pmg_value.specs.Process.{host_name}
use Rattle.pmg_value.specs.Spelling.{Form, form, value_of, form_tag, form_body, IsForm, body_of, spelling, IsValue}
use Rattle.pmg_value.proofs.FormLemmas.{value_of-form, form-value_of}
use Rattle.pmg_wire.specs.declared.fields.Admits.{Admits}
use Rattle.pmg_wire.specs.declared.fields.Admits.TheVariants as admits
use Rattle.pmg_wire.specs.Fields.{read_key, read_proc, read_value_body, read_value, is_admitted, is_named, is_ranked}
use Rattle.pmg_wire.specs.Grammar.{SpellsKey, SpellsProc, SpellsValue}
use Rattle.pmg_wire.specs.Reading.{Place, Read, fault, ◌>>=◌, check, read_bytes, number_at, IsBytes, Takes}
use Rattle.pmg_wire.specs.Spelling.{key_spelling, proc_spelling}
use Rattle.pmg_wire.proofs.ArrayLaws.{body_if, body_again, form_tag_is, form_short}
use Rattle.pmg_wire.proofs.BlobLaws.{name_len}
use Rattle.pmg_wire.proofs.Steps.{place, IfRead, bind_if, check_if, done_if, Takes-then, IsBytes-after, bytes_if, bytes_again, wide16, wide32, number_if, number_again, byte_if, byte_again}

pub key_if : (at : Place) → IsBytes at.rest → IfRead (read_key at) (SpellsKey at)
unfolding read_key
key_if at fits = bind_if _ (number_if w16 (2 ^ 16) wide16 at fits) (λ len after t.
    let bad = fault at.offset causes.Key in
    let last : List ℕ × Place → Read (List ℕ) = λ key. check (is_key key.0) bad >>= λ _. Ok key in
    check_if (nat_lt 0 len && nat_le len 511) bad (λ _. read_bytes len after >>= last) (λ short.
    bind_if last (bytes_if len after) (λ key end u.
    check_if (is_key key) bad (λ _. Ok (key, end)) (λ ok.
    done_if (record { takes = Takes-then (to_be_bytes w16 (length key)) key (rw u.len t.takes) u.takes; is = ok })))))

-- the length field of a key passes its check
key_len : (key : List ℕ) → IsTrue (is_key key) → IsTrue (nat_lt 0 (length key) && nat_le (length key) 511)
key_len key h = (and_parts (nat_lt 0 (length key) && nat_le (length key) 511) _ h).0

key_short : (key : List ℕ) → IsTrue (is_key key) → length key < 2 ^ 16
key_short key h =
    let le : IsTrue (nat_le (length key) 511) = (and_parts (nat_lt 0 (length key)) (nat_le (length key) 511) (key_len key h)).1 in
    grind (arith, nat_tests, le)

pub key_again : (o : ℕ) (key rest : List ℕ) → IsTrue (is_key key) → read_key (place o (key_spelling key ++ rest)) ≡ Ok (key, place (o + length (key_spelling key)) rest)
unfolding read_key
key_again o key rest h =
    let first = number_again w16 (2 ^ 16) wide16 o (length key) (key ++ rest) (key_short key h) in
    let second = bytes_again (o + 2) key rest (length key) refl in
    let len = key_len key h in
    rw (first, len, second, h) (ap (λ (n : ℕ). Ok (key, place n rest)) (omega arith))

-- the name of the host process is kept for the standard
host_reserved : (name : List ℕ) → IsTrue (bytes_eq name host_name) → IsTrue (is_reserved name)
host_reserved name h = rw ((bytes_eq-Decides name host_name).0 h) refl

-- the tests on name and rank apart say what the test on the process says
apart_clients : (n r h z l : Bool) → (IsTrue h → IsTrue r) → IsTrue (n && not r) → IsTrue (cond h z l) → IsTrue (not r && l)
apart_clients false r h z l f p q = absurd cc
apart_clients true true h z l f p q = absurd cc
apart_clients true false true z l f p q = absurd (let e : IsTrue false = f refl in cc)
apart_clients true false false z l f p q = q

apart_host : (n r h z l : Bool) → (IsTrue h → IsTrue r) → IsTrue (n && (not r || h)) → IsTrue (cond h z l) → IsTrue (not r && l || (h && z))
apart_host false r h z l f p q = absurd cc
apart_host true false true z l f p q = absurd (let e : IsTrue false = f refl in cc)
apart_host true false false z l f p q = or_left l false q
apart_host true true true z l f p q = q
apart_host true true false z l f p q = absurd cc

-- and back
together_clients : (n r h z l : Bool) → (IsTrue h → IsTrue r) → IsTrue n → IsTrue (not r && l) → IsTrue (n && not r) × IsTrue (cond h z l)
together_clients false r h z l f m p = absurd cc
together_clients true true h z l f m p = absurd cc
together_clients true false true z l f m p = absurd (let e : IsTrue false = f refl in cc)
together_clients true false false z l f m p = (refl, p)

together_host : (n r h z l : Bool) → (IsTrue h → IsTrue r) → IsTrue n → IsTrue (not r && l || (h && z)) → IsTrue (n && (not r || h)) × IsTrue (cond h z l)
together_host false r h z l f m p = absurd cc
together_host true false true z l f m p = absurd (let e : IsTrue false = f refl in cc)
together_host true false false z true f m p = (refl, refl)
together_host true false false z false f m p = absurd cc
together_host true true true z l f m p = (refl, p)
together_host true true false z l f m p = absurd cc

pub admitted : (who : Admits) (p : Proc) → IsTrue (is_named who p.nspace) → IsTrue (is_ranked p.nspace p.rank) → IsTrue (is_admitted who p)
admitted admits.Clients p = apart_clients (is_nspace p.nspace) (is_reserved p.nspace) (bytes_eq p.nspace host_name) (p.rank == 0) (nat_le p.rank 4095) (host_reserved p.nspace)
admitted admits.ClientsAndHost p = apart_host (is_nspace p.nspace) (is_reserved p.nspace) (bytes_eq p.nspace host_name) (p.rank == 0) (nat_le p.rank 4095) (host_reserved p.nspace)

pub admits_parts : (who : Admits) (p : Proc) → IsTrue (is_nspace p.nspace) → IsTrue (is_admitted who p) → IsTrue (is_named who p.nspace) × IsTrue (is_ranked p.nspace p.rank)
admits_parts admits.Clients p = together_clients (is_nspace p.nspace) (is_reserved p.nspace) (bytes_eq p.nspace host_name) (p.rank == 0) (nat_le p.rank 4095) (host_reserved p.nspace)
admits_parts admits.ClientsAndHost p = together_host (is_nspace p.nspace) (is_reserved p.nspace) (bytes_eq p.nspace host_name) (p.rank == 0) (nat_le p.rank 4095) (host_reserved p.nspace)

name_of : (who : Admits) (name : List ℕ) → IsTrue (is_named who name) → IsTrue (is_nspace name)
name_of admits.Clients name h = (and_parts (is_nspace name) (not (is_reserved name)) h).0
name_of admits.ClientsAndHost name h = (and_parts (is_nspace name) (not (is_reserved name) || bytes_eq name host_name) h).0

pub proc_if : (who : Admits) (at : Place) → IsBytes at.rest → IfRead (read_proc who at) (SpellsProc who at)
unfolding read_proc
proc_if who at fits = bind_if _ (byte_if at) (λ len after t.
    let bad = fault at.offset causes.Name in
    let made : List ℕ → ℕ × Place → Read Proc = λ name rank. Ok (record { nspace = name; rank = rank.0 }, rank.1) in
    let ranked : List ℕ × Place → Read Proc = λ name. number_at w32 name.1 >>= λ rank. check (is_ranked name.0 rank.0) (fault name.1.offset causes.Rank) >>= λ _. made name.0 rank in
    let named : List ℕ × Place → Read Proc = λ name. check (is_named who name.0) bad >>= λ _. ranked name in
    check_if (nat_lt 0 len) bad (λ _. read_bytes len after >>= named) (λ some.
    bind_if named (bytes_if len after) (λ name middle u.
    check_if (is_named who name) bad (λ _. ranked (name, middle)) (λ n.
    let first : Takes at (length name ∷ []) after = rw u.len t.takes in
    let both : Takes at ((length name ∷ []) ++ name) middle = Takes-then (length name ∷ []) name first u.takes in
    let middle_fits : IsBytes middle.rest = IsBytes-after ((length name ∷ []) ++ name) fits both in
    bind_if (λ rank. check (is_ranked name rank.0) (fault middle.offset causes.Rank) >>= λ _. made name rank) (number_if w32 (2 ^ 32) wide32 middle middle_fits) (λ rank end v.
    check_if (is_ranked name rank) (fault middle.offset causes.Rank) (λ _. made name (rank, end)) (λ r.
    let p : Proc = record { nspace = name; rank = rank } in
    done_if (record { takes = Takes-then ((length name ∷ []) ++ name) (to_be_bytes w32 rank) both v.takes; name = name_of who name n; admitted = admitted who p n r })))))))

rank_fits : (h : Bool) (rank : ℕ) → IsTrue (cond h (rank == 0) (nat_le rank 4095)) → rank < 2 ^ 32
rank_fits true rank r = let e = eqb-true rank 0 r in omega arith
rank_fits false rank r = let e = leb-true rank 4095 r in omega arith

pub proc_again : (who : Admits) (o : ℕ) (p : Proc) (rest : List ℕ) → IsTrue (is_nspace p.nspace) → IsTrue (is_admitted who p) → read_proc who (place o (proc_spelling p ++ rest)) ≡ Ok (p, place (o + length (proc_spelling p)) rest)
unfolding read_proc
proc_again who o p rest name h =
    let parts = admits_parts who p name h in
    let len = name_len p.nspace name in
    let named = parts.0 in
    let ranked = parts.1 in
    let after_name = to_be_bytes w32 p.rank ++ rest in
    let regrouped : place o (proc_spelling p ++ rest) ≡ place o (length p.nspace ∷ (p.nspace ++ after_name)) = ap (λ (t : List ℕ). place o (length p.nspace ∷ t)) (append_assoc p.nspace (to_be_bytes w32 p.rank) rest) in
    let first = byte_again o (length p.nspace) (p.nspace ++ after_name) in
    let second = bytes_again (o + 1) p.nspace after_name (length p.nspace) refl in
    let third = number_again w32 (2 ^ 32) wide32 (o + 1 + length p.nspace) p.rank rest (rank_fits (bytes_eq p.nspace host_name) p.rank ranked) in
    let end : o + 1 + length p.nspace + 4 ≡ o + length (proc_spelling p) = omega (arith, length-append p.nspace (to_be_bytes w32 p.rank)) in
    ap (read_proc who) regrouped ∙ rw (first, len, second, named, third, ranked) (ap (λ (n : ℕ). Ok (p, place n rest)) end)

-- ---- values

-- a value is spelled by its form
spells : {at end : Place} (f : Form) → Takes at (form_tag f ∷ form_body f) end → IsForm f → SpellsValue at (value_of f) end
spells f takes is = record { takes = rw (form-value_of f) takes; is = rw (form-value_of f) is }

pub value_if : (at : Place) → IsBytes at.rest → IfRead (read_value at) (SpellsValue at)
unfolding read_value
value_if at fits = bind_if _ (byte_if at) (λ tag after t.
    let after_fits : IsBytes after.rest = IsBytes-after (tag ∷ []) fits t.takes in
    let sized : Form × Place → Read Value = λ body. check (nat_le (body.1.offset - at.offset) 1048576) (fault at.offset causes.Size) >>= λ _. Ok (value_of body.0, body.1) in
    check_if (nat_lt 0 tag && nat_lt tag 20) (fault at.offset causes.Tag) (λ _. read_value_body tag after >>= sized) (λ is.
    bind_if sized (body_if tag after after_fits) (λ f end u.
    check_if (nat_le (end.offset - at.offset) 1048576) (fault at.offset causes.Size) (λ _. Ok (value_of f, end)) (λ small.
    let first : Takes at (form_tag f ∷ []) after = rw (← u.tag_is is) t.takes in
    let le = leb-true (end.offset - at.offset) 1048576 small in
    let short : length (form_body f) ≤ 1048575 = omega (arith, le, first.place, u.takes.place) in
    done_if (spells f (Takes-then (form_tag f ∷ []) (form_body f) first u.takes) (u.is short))))))

-- what a value's form spells is read again
form_again : (o : ℕ) (f : Form) (rest : List ℕ) → IsForm f → read_value (place o (form_tag f ∷ form_body f ++ rest)) ≡ Ok (value_of f, place (o + 1 + length (form_body f)) rest)
unfolding read_value
form_again o f rest is =
    let first = byte_again o (form_tag f) (form_body f ++ rest) in
    let tag_is = form_tag_is f in
    let second = body_again (o + 1) f rest is in
    let size : nat_le ((o + 1 + length (form_body f)) - o) 1048576 ≡ true = le-leb _ _ (omega (arith, form_short f is)) in
    rw (first, tag_is, second, size) refl

pub value_again : (o : ℕ) (v : Value) (rest : List ℕ) → IsValue v → read_value (place o (spelling v ++ rest)) ≡ Ok (v, place (o + length (spelling v)) rest)
value_again o v rest is =
    form_again o (form v) rest is
    ∙ ap (λ (w : Value). Ok (w, place (o + 1 + length (body_of v)) rest)) (value_of-form v)
    ∙ ap (λ (n : ℕ). Ok (v, place n rest)) (omega arith)

-- ---- both ways

-- what stands between two places is read there, and no further
whole : {X : Type 0} (read : Place → Read X) (x : X) {at after : Place} (text : List ℕ) → Takes at text after → read (place at.offset (text ++ after.rest)) ≡ Ok (x, place (at.offset + length text) after.rest) → read at ≡ Ok (x, after)
whole read x {at = at} {after = after} text t e =
    ap (λ (rest : List ℕ). read (place at.offset rest)) t.parts ∙ e ∙ ap (λ (n : ℕ). Ok (x, place n after.rest)) (sym t.place)

pub key_only : (at : Place) (key : List ℕ) (after : Place) → SpellsKey at key after → read_key at ≡ Ok (key, after)
key_only at key after s = whole read_key key (key_spelling key) s.takes (key_again at.offset key after.rest s.is)

pub proc_only : (who : Admits) (at : Place) (p : Proc) (after : Place) → SpellsProc who at p after → read_proc who at ≡ Ok (p, after)
proc_only who at p after s = whole (read_proc who) p (proc_spelling p) s.takes (proc_again who at.offset p after.rest s.name s.admitted)

pub value_only : (at : Place) (v : Value) (after : Place) → SpellsValue at v after → read_value at ≡ Ok (v, after)
value_only at v after s = whole read_value v (spelling v) s.takes (value_again at.offset v after.rest s.is)

ok_is : (x y : Value × Place) (r : Read Value) → r ≡ Ok x → r ≡ Ok y → x ≡ y
ok_is x y r p q = cc

pub one_spelling : (v w : Value) (x y : List ℕ) → IsValue v → IsValue w → spelling v ++ x ≡ spelling w ++ y → (v ≡ w) × (x ≡ y)
one_spelling v w x y is_v is_w e =
    let first = value_again 0 v x is_v in
    let second = value_again 0 w y is_w in
    let same : (v, place (0 + length (spelling v)) x) ≡ (w, place (0 + length (spelling w)) y) =
    ok_is _ _ _ first (ap (λ (t : List ℕ). read_value (place 0 t)) e ∙ second) in
    (ap (λ (z : Value × Place). z.0) same, ap (λ (z : Value × Place). z.1.rest) same)
