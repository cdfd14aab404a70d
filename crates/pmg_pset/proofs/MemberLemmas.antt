-- Arrays of processes, and their bytes.
use Rattle.std.proofs.Common.{◌≡◌, ℕ, suc, ◌+◌, ◌<◌, ◌≤◌, Bool, true, false, not, ◌&&◌, ◌||◌, ◌==◌, nat_eq, nat_lt, nat_le, List, [], ◌∷◌, map, length, Option, Some, None, Result, Ok, Err, refl, sym, ap, ◌∙◌, arith}
use Rattle.std.specs.Prelude.{if◌then◌else◌}
use Rattle.std.specs.Int.{w32, to_be_bytes}
use Rattle.std.specs.List.{starts_with, sum_by}
use Rattle.std.specs.Str.{bytes_eq}
use Rattle.std.proofs.lemmas.Bool.{false≢true, false_from_ne_true, and_parts, or_parts, or_left, or_right, or_from, le-leb, le-ltb, lt-ltb}
use Rattle.std.proofs.lemmas.List.{length-append}
use Rattle.std.proofs.lemmas.List.Sums.{sum_by-cons}
use Rattle.std.proofs.lemmas.Slice.Eq.{bytes_eq-Decides}
use Rattle.pmg_value.specs.declared.process.Proc.{Proc}
use Rattle.pmg_value.specs.declared.refusal.Refusal.{Refusal}
use Rattle.pmg_value.specs.declared.refusal.Refusal.TheVariants as refusals
use Rattle.pmg_value.specs.declared.value.Value.{Value}
use Rattle.pmg_value.specs.declared.value.Value.TheVariants as values
use Rattle.pmg_value.specs.Elements.{Elements, IsArray, bodies, array_body, are_of_kind, is_array}
use Rattle.pmg_value.specs.Plain.{Plain, plain_tag, plain_body, is_plain_tag}
use Rattle.pmg_value.specs.Spelling.{form, plain_of, spelling, are_plain, plains_of, elements, makes_array}
use Rattle.pmg_pset.specs.Members.{proc_array, proc_bytes, proc_size, no_members, are_procs, live_of}
use Rattle.pmg_pset.specs.Refusing.{are_too_many}

-- ---- the array of some processes

plain_procs : (ps : List Proc) → are_plain (map values.Proc ps) ≡ true
plain_procs [] = refl
plain_procs (p ∷ ps) = plain_procs ps

plains_of-procs : (ps : List Proc) → plains_of (map values.Proc ps) ≡ map Plain.proc ps
plains_of-procs [] = refl
plains_of-procs (p ∷ ps) = ap (λ qs. Plain.proc p ∷ qs) (plains_of-procs ps)

kind_procs : (ps : List Proc) → are_of_kind 16 (map Plain.proc ps) ≡ true
kind_procs [] = refl
kind_procs (p ∷ ps) = kind_procs ps

elements-procs : (ps : List Proc) → elements 16 (map values.Proc ps) ≡ proc_array ps
elements-procs ps = ap (λ (qs : List Plain). record { tag = 16; plains = qs }) (plains_of-procs ps)

-- they make an array that is no value where it is too long
within : (many : Bool) (n : ℕ) → many ≡ false → nat_le (1 + n) 1048576 ≡ not (many || nat_lt 1048576 (suc n))
within many n few = rw few (grind arith)

makes_procs : (ps : List Proc) → nat_lt 4096 (length ps) ≡ false → makes_array 16 (map values.Proc ps) ≡ not (are_too_many ps)
makes_procs ps few =
    (λ i. plain_procs ps i && is_array (elements-procs ps i))
    ∙ ap (λ b. b && nat_le (1 + length (array_body (proc_array ps))) 1048576) (kind_procs ps)
    ∙ within (nat_lt 4096 (length ps)) (length (array_body (proc_array ps))) few

-- what making the array answers
asked : (ps : List Proc) (vs : List Value) (r : Result Elements Refusal) → nat_lt 4096 (length ps) ≡ false → vs ≡ map values.Proc ps
    → r ≡ (if makes_array 16 vs then Ok (elements 16 vs) else Err refusals.BadParam) → r ≡ (if not (are_too_many ps) then Ok (proc_array ps) else Err refusals.BadParam)
asked ps vs r few same is =
    is ∙ (λ i. if makes_array 16 (same i) then Ok (elements 16 (same i)) else Err refusals.BadParam)
    ∙ (λ i. if makes_procs ps few i then Ok (elements-procs ps i) else Err refusals.BadParam)

-- processes that are not too many make their array
pub made : (ps : List Proc) (vs : List Value) (r : Result Elements Refusal) → are_too_many ps ≡ false → vs ≡ map values.Proc ps
    → r ≡ (if makes_array 16 vs then Ok (elements 16 vs) else Err refusals.BadParam) → r ≡ Ok (proc_array ps)
made ps vs r few same is =
    asked ps vs r (or_parts (nat_lt 4096 (length ps)) (nat_lt 1048576 (length (proc_bytes ps))) few).0 same is
    ∙ ap (λ (b : Bool). if not b then Ok (proc_array ps) else Err refusals.BadParam) few

proc_len : (p : Proc) → length (plain_body (Plain.proc p)) ≡ proc_size p
proc_len p = let parts = length-append p.nspace (to_be_bytes w32 p.rank) in omega (arith, parts)

-- the bytes of the processes in their array
bodies_len : (ps : List Proc) → length (bodies (map Plain.proc ps)) ≡ sum_by proc_size ps
bodies_len [] = refl
bodies_len (p ∷ ps) =
    let first = length-append (plain_body (Plain.proc p)) (bodies (map Plain.proc ps)) in
    let own = proc_len p in
    let others = bodies_len ps in
    let sum = sum_by-cons proc_size p ps in
    omega (arith, first, own, others, sum)

pub bytes_len : (ps : List Proc) → length (proc_bytes ps) ≡ 6 + sum_by proc_size ps
bytes_len ps = let bodies = bodies_len ps in omega (arith, bodies)

-- their number, where they are not too many
abbrev size_due : List Proc → Option ℕ
size_due ps = if are_too_many ps then None else Some (length (proc_bytes ps))

pub none_counted : (ps : List Proc) → 4096 < length ps → None ≡ size_due ps
none_counted ps many =
    sym (ap (λ (b : Bool). if b then None else Some (length (proc_bytes ps))) (or_left (nat_lt 4096 (length ps)) (nat_lt 1048576 (length (proc_bytes ps))) (lt-ltb 4096 (length ps) many)))

pub none_sized : (ps : List Proc) → 1048576 < 6 + sum_by proc_size ps → None ≡ size_due ps
none_sized ps long =
    let size = bytes_len ps in
    sym (ap (λ (b : Bool). if b then None else Some (length (proc_bytes ps)))
    (or_right (nat_lt 4096 (length ps)) (nat_lt 1048576 (length (proc_bytes ps))) (lt-ltb 1048576 (length (proc_bytes ps)) (omega (arith, size, long)))))

pub some_sized : (ps : List Proc) (n : ℕ) → length ps ≤ 4096 → n ≡ 6 + sum_by proc_size ps → n ≤ 1048576 → Some n ≡ size_due ps
some_sized ps n few is short =
    let size = bytes_len ps in
    let fits = or_from (nat_lt 4096 (length ps)) (nat_lt 1048576 (length (proc_bytes ps))) (le-ltb 4096 (length ps) few) (le-ltb 1048576 (length (proc_bytes ps)) (omega (arith, size, is, short))) in
    ap Some (is ∙ sym size) ∙ sym (ap (λ (b : Bool). if b then None else Some (length (proc_bytes ps))) fits)

-- the bytes of an array of processes begin as such
pub bytes_of_procs : (ps : List Proc) → are_procs (proc_bytes ps) ≡ true
bytes_of_procs ps = let long = bytes_len ps in le-leb 6 (length (proc_bytes ps)) (omega (arith, long))

-- ---- arrays with members, and without

-- a process takes some bytes
some_body : (p : Plain) → (plain_tag p == 16) ≡ true → 0 < length (plain_body p)
some_body (Plain.proc p) h = omega arith
some_body p h = absurd (false≢true h)

-- an array of processes is one of values of their kind
pub tag_is : (a : Elements) → are_procs (spelling (values.Array a)) ≡ true → a.tag ≡ 16
tag_is a h = let begins = (and_parts (starts_with nat_eq (spelling (values.Array a)) (19 ∷ 16 ∷ [])) (nat_le 6 (length (spelling (values.Array a)))) h).0 in grind (arith, begins)

pub procs_bytes : (a : Elements) → a.tag ≡ 16 → are_procs (spelling (values.Array a)) ≡ true
procs_bytes a e =
    ap (λ (t : ℕ). starts_with nat_eq (19 ∷ t ∷ []) (19 ∷ 16 ∷ []) && nat_le 6 (length (spelling (values.Array a)))) e
    ∙ le-leb 6 (length (spelling (values.Array a))) (omega arith)

pub longer : (a : Elements) (p : Plain) (ps : List Plain) → a.plains ≡ p ∷ ps → 0 < length (plain_body p) → 6 < length (spelling (values.Array a))
longer a p ps e some =
    let body = ap (λ (qs : List Plain). length (bodies qs)) e ∙ length-append (plain_body p) (bodies ps) in
    omega (arith, body, some)

pub has_members : (a : Elements) (items : List Value) → elements a.tag items ≡ a → IsArray a → (length items == 0) ≡ false → are_procs (spelling (values.Array a)) ≡ true
    → Some (spelling (values.Array a)) ≡ live_of (spelling (values.Array a))
has_members a [] same is some procs = absurd cc
has_members a (v ∷ vs) same is some procs =
    let p = plain_of (form v) in
    let ps = plains_of vs in
    let plains : a.plains ≡ p ∷ ps = ap (λ (b : Elements). b.plains) (sym same) in
    let parts = and_parts (is_plain_tag a.tag && are_of_kind a.tag a.plains) (nat_le (1 + length (array_body a)) 1048576) is.is in
    let kinds : are_of_kind 16 (p ∷ ps) ≡ true = (λ i. are_of_kind (sym (tag_is a procs) i) (sym plains i)) ∙ (and_parts (is_plain_tag a.tag) (are_of_kind a.tag a.plains) parts.0).1 in
    let more = longer a p ps plains (some_body p (and_parts (plain_tag p == 16) (are_of_kind 16 ps) kinds).0) in
    let differs : bytes_eq (spelling (values.Array a)) no_members ≡ false =
    false_from_ne_true _ (λ h. let short = ap length ((bytes_eq-Decides (spelling (values.Array a)) no_members).0 h) in absurd (omega (arith, short, more))) in
    sym (ap (λ b. if b then None else Some (spelling (values.Array a))) differs)
