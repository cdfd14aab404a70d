-- Streams merged one after the other.
use Rattle.std.proofs.Common.{◌≡◌, ℕ, suc, ◌+◌, arith, List, [], ◌∷◌, map, drop, get_or, Option, Some, None, Result, Ok, Err, length, ◌<◌, ◌≤◌, inl, inr, refl, sym, ap, subst, ◌∙◌}
use Rattle.std.specs.Prelude.{IfSome}
use Rattle.std.proofs.Math.Seq.{drop-cons}
use Rattle.std.specs.FinMap as finite
use Rattle.std.proofs.lemmas.Bool.{lt-ltb, le-ltb, le-leb, lt-leb}
use Rattle.pmg_value.specs.declared.refusal.Fault.{Fault}
use Rattle.pmg_value.specs.declared.refusal.Refusal.{Refusal}
use Rattle.pmg_value.specs.declared.refusal.Refusal.TheVariants as refusals
use Rattle.pmg_wire.specs.Reading.{FailsReading, ◌>>=◌}
use Rattle.pmg_commit.specs.Knowledge.{Contribution}
use Rattle.pmg_commit.specs.Data.{Data, join_data}
use Rattle.pmg_store.specs.declared.failure.Failure.{Failure}
use Rattle.pmg_store.specs.declared.failure.Failure.TheVariants as failures
use Rattle.pmg_store.specs.Joining.{data_joined}
use Rattle.pmg_store.specs.Outcomes.{FailsInput, Stops, Dumps, or_failure}
use Rattle.pmg_store.specs.Pieces.{data_of}
use Rattle.pmg_store.specs.Dump.{dump}
use Rattle.pmg_store.specs.declared.input.TheConstants.{INPUT_LIMIT}
use Rattle.pmg_store.specs.Input.{input_of, too_much_input}
use Rattle.pmg_store.specs.Told.{told_in, data_told}
use Rattle.pmg_store.specs.Merged.{told_by_input, data_by_input, failure_in, told_behind, told_first, told_from, made_of, merged, merge_of, too_many}
use Rattle.pmg_store.proofs.Converging.{nothing_joined, same_in_any_grouping}
use Rattle.pmg_store.proofs.OutcomeLemmas.{fails_first, keeps_same, ok_is, refused_reading}

-- a stream is read whole, and then what it tells is taken
pub read_then_told : (bytes : List ℕ) → (input_of bytes >>= data_told) ≡ data_by_input bytes
unfolding data_told
read_then_told bytes = then_told (input_of bytes)
  where
    then_told : (input : Result (List ℕ) Fault) → (input >>= data_told) ≡ ((input >>= told_in) >>= λ cs. Ok (data_of cs))
    then_told (Ok kept) = refl
    then_told (Err f) = refl

-- the answer once the input is read
pub known_gives : (known : Option (List ℕ)) (kept : List ℕ) (store : Data) → IfSome known (λ bytes. or_failure (input_of bytes) ≡ Ok kept) →
    data_told kept ≡ Ok store → IfSome known (λ bytes. or_failure (data_by_input bytes) ≡ Ok store)
known_gives None kept store read told = tt
known_gives (Some bytes) kept store read told =
    ap or_failure (sym (read_then_told bytes) ∙ ap (λ input. input >>= data_told) (ok_is (input_of bytes) kept read) ∙ told)

pub known_fails : (known : Option (List ℕ)) (kept : List ℕ) (refusal : Refusal) → IfSome known (λ bytes. or_failure (input_of bytes) ≡ Ok kept) →
    FailsReading refusal (data_told kept) → IfSome known (λ bytes. FailsInput (failures.Refused refusal) (or_failure (data_by_input bytes)))
known_fails None kept refusal read fails = tt
known_fails (Some bytes) kept refusal read fails =
    let same : data_by_input bytes ≡ data_told kept = sym (read_then_told bytes) ∙ ap (λ input. input >>= data_told) (ok_is (input_of bytes) kept read) in
    rw same (refused_reading refusal (data_told kept) fails)

pub known_fails_first : (known : Option (List ℕ)) (failure : Failure) → IfSome known (λ bytes. FailsInput failure (or_failure (input_of bytes))) →
    IfSome known (λ bytes. FailsInput failure (or_failure (data_by_input bytes)))
known_fails_first None failure fails = tt
known_fails_first (Some bytes) failure fails =
    fails_first failure (told_by_input bytes) (λ cs. Ok (data_of cs)) (fails_first failure (input_of bytes) told_in fails)

-- what a server holds that takes contributions after what it held
abbrev pub taken_with : Data → Result (List Contribution) Failure → Result Data Failure
taken_with all told = made_of (λ cs. join_data all (data_of cs)) told

started : (cs : List Contribution) → join_data finite.empty (data_of cs) ≡ data_of cs
started cs = same_in_any_grouping [] cs

-- On the way: what the other readers give, after what was taken, is what all give. Of each reader the bytes may be known.
abbrev pub IsOnTheWay : Data → ℕ → List (Option (List ℕ)) → List (Option (List ℕ)) → Type 0
IsOnTheWay all number left whole =
    (streams : List (List ℕ)) → whole ≡ map Some streams → (rest : List (List ℕ)) × (left ≡ map Some rest) × (taken_with all (told_from (suc number) rest) ≡ merged streams)

taken_from_start : (told : Result (List Contribution) Failure) → taken_with finite.empty told ≡ made_of data_of told
taken_from_start (Ok cs) = ap Ok (started cs)
taken_from_start (Err e) = refl

pub on_start : (whole : List (Option (List ℕ))) → IsOnTheWay finite.empty 0 whole whole
on_start whole streams known = (streams, known, taken_from_start (told_from 1 streams))

-- the contributions that a stream told
told_by : (bytes : List ℕ) (store : Data) → data_by_input bytes ≡ Ok store → (cs : List Contribution) × (told_by_input bytes ≡ Ok cs) × (data_of cs ≡ store)
told_by bytes store is = in_it (told_by_input bytes) is
  where
    in_it : (told : Result (List Contribution) Fault) → (told >>= λ cs. Ok (data_of cs)) ≡ Ok store → (cs : List Contribution) × (told ≡ Ok cs) × (data_of cs ≡ store)
    in_it (Ok cs) is = (cs, refl, cc)
    in_it (Err f) is = cc

told_fault : (bytes : List ℕ) (f : Fault) → data_by_input bytes ≡ Err f → told_by_input bytes ≡ Err f
told_fault bytes f is = in_it (told_by_input bytes) is
  where
    in_it : (told : Result (List Contribution) Fault) → (told >>= λ cs. Ok (data_of cs)) ≡ Err f → told ≡ Err f
    in_it (Ok cs) is = cc
    in_it (Err g) is = cc

-- one stream more
taken_next : (all : Data) (cs : List Contribution) (others : Result (List Contribution) Failure) →
    taken_with all (told_behind cs others) ≡ taken_with (join_data all (data_of cs)) others
taken_next all cs (Ok ds) = ap Ok (ap (join_data all) (sym (same_in_any_grouping cs ds)) ∙ sym (data_joined.assoc all (data_of cs) (data_of ds)))
taken_next all cs (Err e) = refl

first_is : (known : Option (List ℕ)) (left : List (Option (List ℕ))) (rest : List (List ℕ)) → known ∷ left ≡ map Some rest →
    (bytes : List ℕ) × (others : List (List ℕ)) × (known ≡ Some bytes) × (left ≡ map Some others) × (rest ≡ bytes ∷ others)
first_is known left [] is = cc
first_is known left (bytes ∷ others) is = (bytes, others, cc, cc, refl)

one_more : (number : ℕ) → suc number ≡ number + 1
one_more number = omega arith

stepped : (all store : Data) (number : ℕ) (known : Option (List ℕ)) (left whole : List (Option (List ℕ))) → IsOnTheWay all number (known ∷ left) whole →
    IfSome known (λ bytes. or_failure (data_by_input bytes) ≡ Ok store) → IsOnTheWay (join_data all store) (suc number) left whole
stepped all store number known left whole way gives streams is =
    let at = way streams is in
    let first = first_is known left at.0 at.1 in
    let told = told_by first.0 store (ok_is (data_by_input first.0) store (rw first.2 at gives)) in
    let others = told_from (suc (suc number)) first.1 in
    let behind : taken_with all (told_first (suc number) (told_by_input first.0) others) ≡ merged streams = rw first.4 at at.2 in
    let one : taken_with all (told_behind told.0 others) ≡ merged streams = rw told.1 at behind in
    (first.1, first.3, ap (λ d. taken_with (join_data all d) others) (sym told.2) ∙ sym (taken_next all told.0 others) ∙ one)

pub on_step : (all store : Data) (number : ℕ) (known : Option (List ℕ)) (left whole : List (Option (List ℕ))) → IsOnTheWay all number (known ∷ left) whole →
    IfSome known (λ bytes. or_failure (data_by_input bytes) ≡ Ok store) → IsOnTheWay (join_data all store) (number + 1) left whole
on_step all store number known left whole way gives =
    subst (λ (n : ℕ). IsOnTheWay (join_data all store) n left whole) (one_more number) (stepped all store number known left whole way gives)

fault_due : (all : Data) (number : ℕ) (known : Option (List ℕ)) (left whole : List (Option (List ℕ))) → IsOnTheWay all number (known ∷ left) whole → (streams : List (List ℕ)) → whole ≡ map Some streams →
    (bytes : List ℕ) → known ≡ Some bytes → (f : Fault) → data_by_input bytes ≡ Err f → merged streams ≡ Err (failures.InStream (suc number) f)
fault_due all number known left whole way streams is bytes at_hand f fails =
    let at = way streams is in
    let first = first_is known left at.0 at.1 in
    let same : first.0 ≡ bytes = let both = sym first.2 ∙ at_hand in cc in
    let told = told_fault first.0 f (rw same fails) in
    let others = told_from (suc (suc number)) first.1 in
    let behind : taken_with all (told_first (suc number) (told_by_input first.0) others) ≡ merged streams = rw first.4 at at.2 in
    let one : taken_with all (told_first (suc number) (Err f) others) ≡ merged streams = rw told at behind in
    sym one

due_failure : (number : ℕ) (failure : Failure) (first : Result Data Fault) (due : Result Data Failure) → FailsInput failure (or_failure first) →
    ((f : Fault) → first ≡ Err f → due ≡ Err (failures.InStream number f)) → FailsInput (failure_in number failure) due
due_failure number failure first due (inl (inl is)) fault = rw is (inl (inl refl))
due_failure number failure first due (inl (inr is)) fault = rw is (inl (inr refl))
due_failure number failure (Ok store) due (inr is) fault = cc
due_failure number failure (Err f) due (inr is) fault =
    let same : failure ≡ failures.Refused (refusals.BadFrame f) = cc in
    rw same (inr (fault f refl))

pub on_failure : (all : Data) (number : ℕ) (known : Option (List ℕ)) (left whole : List (Option (List ℕ))) (failure : Failure) → IsOnTheWay all number (known ∷ left) whole →
    IfSome known (λ bytes. FailsInput failure (or_failure (data_by_input bytes))) → (streams : List (List ℕ)) → whole ≡ map Some streams → FailsInput (failure_in (number + 1) failure) (merged streams)
on_failure all number known left whole failure way fails streams is =
    let at = way streams is in
    let first = first_is known left at.0 at.1 in
    subst (λ (n : ℕ). FailsInput (failure_in n failure) (merged streams)) (one_more number)
    (due_failure (suc number) failure (data_by_input first.0) (merged streams) (rw first.2 at fails) (fault_due all number known left whole way streams is first.0 first.2))

none_left : (rest : List (List ℕ)) → [] ≡ map {A = List ℕ} Some rest → rest ≡ []
none_left [] is = refl
none_left (bytes ∷ others) is = cc

pub on_end : (all : Data) (number : ℕ) (whole : List (Option (List ℕ))) → IsOnTheWay all number [] whole → (streams : List (List ℕ)) → whole ≡ map Some streams → merged streams ≡ Ok all
on_end all number whole way streams is =
    let at = way streams is in
    let last : taken_with all (told_from (suc number) []) ≡ merged streams = rw (none_left at.0 at.1) at at.2 in
    sym last ∙ ap Ok (nothing_joined all)

-- ---- the dump

pub many_due : (streams : List (List ℕ)) → 64 < length streams → merge_of streams ≡ Err too_many
unfolding merge_of
many_due streams many = rw (lt-ltb 64 (length streams) many) refl

dump_due : (told : Result (List Contribution) Failure) (store : Data) → made_of data_of told ≡ Ok store → made_of (λ cs. dump (data_of cs)) told ≡ Ok (dump store)
dump_due (Ok cs) store is = let same : data_of cs ≡ store = cc in ap (λ d. Ok (dump d)) same
dump_due (Err e) store is = cc

pub few_due : (streams : List (List ℕ)) → length streams ≤ 64 → merge_of streams ≡ made_of (λ cs. dump (data_of cs)) (told_from 1 streams)
unfolding merge_of
few_due streams few = rw (le-ltb 64 (length streams) few) refl

merge_due : (streams : List (List ℕ)) (store : Data) → length streams ≤ 64 → merged streams ≡ Ok store → merge_of streams ≡ Ok (dump store)
merge_due streams store few is = few_due streams few ∙ dump_due (told_from 1 streams) store is

failure_due : {X Y : Type 0} (told : Result (List Contribution) Failure) (make : List Contribution → X) (other : List Contribution → Y) (e : Failure) → made_of make told ≡ Err e → made_of other told ≡ Err e
failure_due (Ok cs) make other e is = cc
failure_due (Err f) make other e is = cc

pub merge_failed : (known : Option (List ℕ)) (e : Failure) (streams : List (List ℕ)) → length streams ≤ 64 → FailsInput e (merged streams) →
    Stops known known e (merge_of streams)
merge_failed known e streams few (inl always) = inl (inl always, keeps_same known)
merge_failed known e streams few (inr due) =
    inl (inr (few_due streams few ∙ failure_due (told_from 1 streams) data_of (λ cs. dump (data_of cs)) e due), keeps_same known)

pub merge_written : {T : Type 0} (old new : Option (List ℕ)) (result : Result T Failure) (streams : List (List ℕ)) (store : Data) → length streams ≤ 64 →
    merged streams ≡ Ok store → Dumps old new result (Ok (dump store)) → Dumps old new result (merge_of streams)
merge_written old new result streams store few is dumps = rw (merge_due streams store few is) dumps

-- as many streams as readers
pub known_alike : {X : Type 0} (give : X → Option (List ℕ)) (readers : List X) (streams : List (List ℕ)) → map give readers ≡ map Some streams → length streams ≡ length readers
known_alike give [] [] is = refl
known_alike give [] (s ∷ ss) is = cc
known_alike give (r ∷ rs) [] is = cc
known_alike give (r ∷ rs) (s ∷ ss) is = let rest : map give rs ≡ map Some ss = cc in ap suc (known_alike give rs ss rest)

-- ---- streams in memory

pub some_of_each : {X : Type 0} (give : X → List ℕ) (xs : List X) → map (λ x. Some (give x)) xs ≡ map Some (map give xs)
some_of_each give [] = refl
some_of_each give (x ∷ xs) = ap (λ others. Some (give x) ∷ others) (some_of_each give xs)

-- the first of those that are left
pub next_of : {X Y : Type 0} (give : X → Y) (xs : List X) (i : ℕ) (x : X) → i < length xs → x ≡ get_or xs i x →
    map give (drop i xs) ≡ give x ∷ map give (drop (i + 1) xs)
next_of give xs i x within is = ap (map give) (drop-cons xs i x within ∙ ap (λ y. y ∷ drop (suc i) xs) (sym is) ∙ ap (λ n. x ∷ drop n xs) (one_more i))

-- a stream that is not too long
pub kept_whole : (bytes : List ℕ) → length bytes ≤ INPUT_LIMIT → input_of bytes ≡ Ok bytes
kept_whole bytes within = rw (le-leb (length bytes) INPUT_LIMIT within) refl

pub not_kept : (bytes : List ℕ) → INPUT_LIMIT < length bytes → input_of bytes ≡ Err too_much_input
not_kept bytes over = rw (lt-leb (length bytes) INPUT_LIMIT over) refl
