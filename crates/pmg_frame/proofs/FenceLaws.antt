-- A fence's name that is read was spelled so, and what is spelled so is read.
use Rattle.std.proofs.Common.{◌≡◌, ℕ, ◌+◌, ◌^◌, ◌≤◌, Bool, ◌&&◌, nat_lt, nat_le, List, [], ◌∷◌, ◌++◌, length, Option, Some, None, Ok, IsTrue, refl, sym, ap, subst, ◌∙◌, append_assoc, arith}
use Rattle.std.specs.FinSet as set
use Rattle.std.specs.Int.{w32, w64, to_be_bytes}
use Rattle.std.specs.List.{flat_map, list_all, AllByRecursion}
use Rattle.std.specs.List.Sorted.{IsStrictlySortedBy}
use Rattle.std.specs.Ordering.{is_lt}
use Rattle.std.specs.declared.cmp.Ordering.{Ordering}
use Rattle.std.specs.declared.cmp.Ordering.TheVariants.{Less, Equal, Greater}
use Rattle.std.proofs.lemmas.Bool.{and_parts, and_from, ltb-true, leb-true, lt-ltb, le-leb}
use Rattle.std.proofs.lemmas.List.{length-append}
use Rattle.pmg_value.specs.Lists.{Each}
use Rattle.pmg_value.specs.Process.{proc_cmp, is_client}
use Rattle.pmg_value.specs.Signatures.{FenceName}
use Rattle.pmg_value.specs.declared.process.Proc.{Proc}
use Rattle.pmg_value.specs.declared.refusal.Cause.TheVariants as causes
use Rattle.pmg_value.proofs.ProcessOrder.{procs_total, exact_procs}
use Rattle.pmg_wire.specs.declared.fields.Admits.TheVariants as admits
use Rattle.pmg_wire.specs.Many.{many, Chain}
use Rattle.pmg_wire.specs.Reading.{Place, Read, fault, ◌>>=◌, check, number_at, IsBytes, Takes}
use Rattle.pmg_wire.specs.Spelling.{proc_spelling}
use Rattle.pmg_wire.proofs.Counted.{TakesOne, many_if, many_again}
use Rattle.pmg_wire.proofs.FieldLaws.{proc_if, proc_again}
use Rattle.pmg_wire.proofs.PlainLaws.{flag_if, flag_again}
use Rattle.pmg_wire.proofs.Steps.{place, IfRead, bind_if, check_if, done_if, Takes-then, IsBytes-after, wide32, wide64, number_if, number_again}
use Rattle.pmg_frame.specs.Fences.{participants_of, AreParticipants, NameFields, fence_name, is_instance}
use Rattle.pmg_frame.specs.FenceReading.{is_greater, read_participant, read_participants, read_fields_by, read_name_by, read_name}
use Rattle.pmg_frame.specs.Grammar.{IsClient, IsName}
use Rattle.pmg_frame.specs.Spelling.{flag_spelling, procs_spelling, name_spelling}
use Rattle.pmg_frame.proofs.RunSteps.{if_weaker}
use Rattle.pmg_value.proofs.SetOrder.{in_order_rises, in_order-from_list, from_list-in_order}

-- ---- participants

-- a process that a group may register, after another one or none
pub record FollowsProc (before : Option Proc) (p : Proc) : Type 0 where
  pub is : IsClient p
  pub order : IsTrue (is_greater before p)

pub participant_if : (before : Option Proc) (at : Place) → IsBytes at.rest → IfRead (read_participant before at) (TakesOne proc_spelling FollowsProc before at)
unfolding read_participant
participant_if before at fits =
    bind_if (λ p. check (is_greater before p.0) (fault at.offset causes.Order) >>= λ _. Ok p) (proc_if admits.Clients at fits) (λ p after t.
    check_if (is_greater before p) (fault at.offset causes.Order) (λ _. Ok (p, after)) (λ order.
    done_if (record { takes = t.takes; follows = record { is = record { name = t.name; client = t.admitted }; order = order } })))

pub participant_again : (before : Option Proc) (o : ℕ) (p : Proc) (rest : List ℕ) → FollowsProc before p → read_participant before (place o (proc_spelling p ++ rest)) ≡ Ok (p, place (o + length (proc_spelling p)) rest)
unfolding read_participant
participant_again before o p rest f = let h = f.order in rw (proc_again admits.Clients o p rest f.is.name f.is.client, h) refl

-- ---- their order

pub less_is : (r : Ordering) → IsTrue (is_lt r) → r ≡ Less
less_is Less h = refl
less_is Equal h = absurd cc
less_is Greater h = absurd cc

pub below_more : (p q : Proc) (qs : List Proc) → proc_cmp p q ≡ Less → AllByRecursion (λ r. proc_cmp q r ≡ Less) qs → AllByRecursion (λ r. proc_cmp p r ≡ Less) qs
below_more p q [] less h = tt
below_more p q (r ∷ rs) less h = (procs_total.trans p q r less h.0, below_more p q rs less h.1)

rising_behind : (p : Proc) (ps : List Proc) → Chain FollowsProc (Some p) ps → IsStrictlySortedBy proc_cmp (p ∷ ps)
unfolding IsStrictlySortedBy
rising_behind p [] chain = (tt, tt)
rising_behind p (q ∷ qs) chain =
    let behind = rising_behind q qs chain.1 in
    let less = less_is (proc_cmp p q) chain.0.order in
    ((less, below_more p q qs less behind.0), behind)

pub rising : (ps : List Proc) → Chain FollowsProc None ps → IsStrictlySortedBy proc_cmp ps
unfolding IsStrictlySortedBy
rising [] chain = tt
rising (p ∷ ps) chain = rising_behind p ps chain.1

pub each : (before : Option Proc) (ps : List Proc) → Chain FollowsProc before ps → Each IsClient ps
each before [] chain = tt
each before (p ∷ ps) chain = (chain.0.is, each (Some p) ps chain.1)

all_clients : (before : Option Proc) (ps : List Proc) → Chain FollowsProc before ps → IsTrue (list_all is_client ps)
all_clients before [] chain = refl
all_clients before (p ∷ ps) chain = and_from (is_client p) (list_all is_client ps) chain.0.is.client (all_clients (Some p) ps chain.1)

chain_behind : (p : Proc) (ps : List Proc) → IsStrictlySortedBy proc_cmp (p ∷ ps) → Each IsClient ps → Chain FollowsProc (Some p) ps
unfolding IsStrictlySortedBy
chain_behind p [] h is = tt
chain_behind p (q ∷ qs) h is = (record { is = is.0; order = ap is_lt h.0.0 }, chain_behind q qs h.1 is.1)

chain_of : (ps : List Proc) → IsStrictlySortedBy proc_cmp ps → Each IsClient ps → Chain FollowsProc None ps
chain_of [] h is = tt
chain_of (p ∷ ps) h is = (record { is = is.0; order = refl }, chain_behind p ps h is.1)

-- ---- the participants, one by one

-- what a list of participants took, which is spelled so
pub record TakesParts (text : List Proc → List ℕ) (at : Place) (ps : List Proc) (after : Place) : Type 0 where
  pub takes : Takes at (text ps) after
  pub some : 1 ≤ length ps
  pub few : length ps ≤ 4096
  pub chain : Chain FollowsProc None ps

-- what is read took the text of what it is
abbrev pub ReadsParts : (Place → Read (List Proc)) → (List Proc → List ℕ) → Type 0
ReadsParts list text = (at : Place) → IsBytes at.rest → IfRead (list at) (TakesParts text at)

-- and the text of participants is read again
abbrev pub ReadsPartsAgain : (Place → Read (List Proc)) → (List Proc → List ℕ) → Type 0
ReadsPartsAgain list text = (o : ℕ) (ps : List Proc) (rest : List ℕ) → 1 ≤ length ps → length ps ≤ 4096 → Chain FollowsProc None ps
    → list (place o (text ps ++ rest)) ≡ Ok (ps, place (o + length (text ps)) rest)

pub participants_if : ReadsParts read_participants procs_spelling
unfolding read_participants
participants_if at fits =
    let in_range : ℕ → Bool = λ count. nat_lt 0 count && nat_le count 4096 in
    let listed : ℕ × Place → Read (List Proc) = λ count. many read_participant count.0 None count.1 in
    bind_if (λ count. check (in_range count.0) (fault at.offset causes.Count) >>= λ _. listed count) (number_if w32 (2 ^ 32) wide32 at fits) (λ count a k.
    check_if (in_range count) (fault at.offset causes.Count) (λ _. listed (count, a)) (λ few.
    let range = and_parts (nat_lt 0 count) (nat_le count 4096) few in
    if_weaker (many_if read_participant proc_spelling FollowsProc participant_if count None a (IsBytes-after (to_be_bytes w32 count) fits k.takes)) (λ ps after m.
    record {
      takes = rw m.len (Takes-then (to_be_bytes w32 count) (flat_map proc_spelling ps) k.takes m.takes);
      some = rw m.len (ltb-true 0 count range.0);
      few = rw m.len (leb-true count 4096 range.1);
      chain = m.chain;
    })))

pub participants_again : ReadsPartsAgain read_participants procs_spelling
unfolding read_participants
participants_again o ps rest some few chain =
    let count_text = to_be_bytes w32 (length ps) in
    let list_text = flat_map proc_spelling ps in
    let k = number_again w32 (2 ^ 32) wide32 o (length ps) (list_text ++ rest) (omega (arith, few)) in
    let range : IsTrue (nat_lt 0 (length ps) && nat_le (length ps) 4096) = and_from _ _ (lt-ltb _ _ some) (le-leb _ _ few) in
    let m = many_again read_participant proc_spelling FollowsProc participant_again None (o + 4) ps rest chain in
    let end : o + 4 + length list_text ≡ o + length (procs_spelling ps) = omega (arith, length-append count_text list_text) in
    ap (λ (text : List ℕ). read_participants (place o text)) (append_assoc count_text list_text rest)
    ∙ rw (k, range, m) (ap (λ (x : ℕ). Ok (ps, place x rest)) end)

-- ---- the fields of a name

-- the fields, whose participants are spelled so
abbrev pub fields_text : (List Proc → List ℕ) → NameFields → List ℕ
fields_text text f = flag_spelling f.collect ++ (to_be_bytes w64 f.number ++ text f.list)

-- fields that keep the rules of a name
pub record AreFields (f : NameFields) : Type 0 where
  pub number : IsTrue (is_instance f.number)
  pub some : 1 ≤ length f.list
  pub few : length f.list ≤ 4096
  pub chain : Chain FollowsProc None f.list

pub participants : (f : NameFields) → AreFields f → AreParticipants f.list
participants f are = record { rising = rising f.list are.chain; clients = all_clients None f.list are.chain; some = are.some; few = are.few }

-- what the fields of a name took
pub record TakesFields (text : List Proc → List ℕ) (at : Place) (f : NameFields) (after : Place) : Type 0 where
  pub takes : Takes at (fields_text text f) after
  pub are : AreFields f

pub fields_if : (list : Place → Read (List Proc)) (text : List Proc → List ℕ) → ReadsParts list text → (at : Place) → IsBytes at.rest → IfRead (read_fields_by list at) (TakesFields text at)
unfolding read_fields_by
fields_if list text parts at fits =
    let made : Bool → ℕ → List Proc × Place → Read NameFields = λ collect number ps. Ok (record { collect = collect; number = number; list = ps.0 }, ps.1) in
    let listed : Bool → ℕ × Place → Read NameFields = λ collect number. list number.1 >>= made collect number.0 in
    let begun : Bool → Place → ℕ × Place → Read NameFields = λ collect at_number number. check (is_instance number.0) (fault at_number.offset causes.Number) >>= λ _. listed collect number in
    bind_if (λ collect. number_at w64 collect.1 >>= begun collect.0 collect.1) (flag_if at) (λ collect a f.
    let a_fits : IsBytes a.rest = IsBytes-after (flag_spelling collect) fits f in
    bind_if (begun collect a) (number_if w64 (2 ^ 64) wide64 a a_fits) (λ number b n.
    let b_fits : IsBytes b.rest = IsBytes-after (to_be_bytes w64 number) a_fits n.takes in
    check_if (is_instance number) (fault a.offset causes.Number) (λ _. listed collect (number, b)) (λ instance.
    bind_if (made collect number) (parts b b_fits) (λ ps after m.
    let tail = Takes-then (to_be_bytes w64 number) (text ps) n.takes m.takes in
    done_if (record {
      takes = Takes-then (flag_spelling collect) (to_be_bytes w64 number ++ text ps) f tail;
      are = record { number = instance; some = m.some; few = m.few; chain = m.chain };
    })))))

pub regroup_3 : (a b c r : List ℕ) → (a ++ (b ++ c)) ++ r ≡ a ++ (b ++ (c ++ r))
regroup_3 a b c r = simp append_assoc

pub length_3 : (a b c : List ℕ) → length (a ++ (b ++ c)) ≡ length a + length b + length c
length_3 a b c = omega (arith, length-append a (b ++ c), length-append b c)

pub regroup_4 : (a b c d r : List ℕ) → (a ++ (b ++ (c ++ d))) ++ r ≡ a ++ (b ++ (c ++ (d ++ r)))
regroup_4 a b c d r = simp append_assoc

pub length_4 : (a b c d : List ℕ) → length (a ++ (b ++ (c ++ d))) ≡ length a + length b + length c + length d
length_4 a b c d = omega (arith, length-append a (b ++ (c ++ d)), length-append b (c ++ d), length-append c d)

fields_again : (list : Place → Read (List Proc)) (text : List Proc → List ℕ) → ReadsPartsAgain list text → (o : ℕ) (f : NameFields) (rest : List ℕ) → AreFields f
    → read_fields_by list (place o (fields_text text f ++ rest)) ≡ Ok (f, place (o + length (fields_text text f)) rest)
unfolding read_fields_by
fields_again list text again o f rest are =
    let flag_text = flag_spelling f.collect in
    let number_text = to_be_bytes w64 f.number in
    let list_text = text f.list in
    let range = and_parts (nat_lt 0 f.number) (nat_le f.number 4294967295) are.number in
    let small : f.number ≤ 4294967295 = leb-true _ _ range.1 in
    let c = flag_again o f.collect (number_text ++ (list_text ++ rest)) in
    let n = number_again w64 (2 ^ 64) wide64 (o + 1) f.number (list_text ++ rest) (omega (arith, small)) in
    let instance = are.number in
    let m = again (o + 1 + 8) f.list rest are.some are.few are.chain in
    let end : o + 1 + 8 + length list_text ≡ o + length (fields_text text f) = omega (arith, length_3 flag_text number_text list_text) in
    ap (λ (t : List ℕ). read_fields_by list (place o t)) (regroup_3 flag_text number_text list_text rest)
    ∙ rw (c, n, instance, m) (ap (λ (x : ℕ). Ok (f, place x rest)) end)

-- ---- names

abbrev pub fields_of : FenceName → NameFields
fields_of name = record { collect = name.signature.collect; number = name.instance; list = participants_of name }

pub are_fields_of : (name : FenceName) → IsName name → AreFields (fields_of name)
are_fields_of name is = record { number = is.number; some = is.some; few = is.few; chain = chain_of (participants_of name) (in_order_rises name.signature.participants) is.clients }

pub name_of-fields_of : (name : FenceName) → fence_name (fields_of name) ≡ name
name_of-fields_of name =
    ap (λ (s : set.FinSet proc_cmp). record { signature = record { participants = s; collect = name.signature.collect }; instance = name.instance }) (from_list-in_order procs_total exact_procs name.signature.participants)

-- a name, whose participants are spelled so
abbrev pub text_of_name : (List Proc → List ℕ) → FenceName → List ℕ
text_of_name text name = fields_text text (fields_of name)

-- what a fence's name took
pub record TakesName (text : List Proc → List ℕ) (at : Place) (name : FenceName) (after : Place) : Type 0 where
  pub takes : Takes at (text_of_name text name) after
  pub is : IsName name

pub listed_is : (f : NameFields) → AreFields f → participants_of (fence_name f) ≡ f.list
listed_is f are = in_order-from_list procs_total exact_procs f.list (rising f.list are.chain)

named : (text : List Proc → List ℕ) (at : Place) (f : NameFields) (after : Place) → TakesFields text at f after → TakesName text at (fence_name f) after
named text at f after t =
    let is = sym (listed_is f t.are) in
    record {
      takes = subst (λ (ps : List Proc). Takes at (flag_spelling f.collect ++ (to_be_bytes w64 f.number ++ text ps)) after) is t.takes;
      is = record {
        number = t.are.number;
        some = subst (λ (ps : List Proc). 1 ≤ length ps) is t.are.some;
        few = subst (λ (ps : List Proc). length ps ≤ 4096) is t.are.few;
        clients = subst (Each IsClient) is (each None f.list t.are.chain);
      };
    }

pub name_by_if : (list : Place → Read (List Proc)) (text : List Proc → List ℕ) → ReadsParts list text → (at : Place) → IsBytes at.rest → IfRead (read_name_by list at) (TakesName text at)
unfolding read_name_by
name_by_if list text parts at fits = bind_if (λ f. Ok (fence_name f.0, f.1)) (fields_if list text parts at fits) (λ f after t. done_if (named text at f after t))

pub name_by_again : (list : Place → Read (List Proc)) (text : List Proc → List ℕ) → ReadsPartsAgain list text → (o : ℕ) (name : FenceName) (rest : List ℕ) → IsName name
    → read_name_by list (place o (text_of_name text name ++ rest)) ≡ Ok (name, place (o + length (text_of_name text name)) rest)
unfolding read_name_by
name_by_again list text again o name rest is =
    let read = fields_again list text again o (fields_of name) rest (are_fields_of name is) in
    rw read (ap (λ (f : FenceName). Ok (f, place (o + length (text_of_name text name)) rest)) (name_of-fields_of name))

pub name_if : (at : Place) → IsBytes at.rest → IfRead (read_name at) (TakesName procs_spelling at)
name_if = name_by_if read_participants procs_spelling participants_if

pub name_again : (o : ℕ) (name : FenceName) (rest : List ℕ) → IsName name → read_name (place o (name_spelling name ++ rest)) ≡ Ok (name, place (o + length (name_spelling name)) rest)
name_again = name_by_again read_participants procs_spelling participants_again
