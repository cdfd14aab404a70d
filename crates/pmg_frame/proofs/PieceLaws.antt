-- A piece that is read was spelled so, and what is spelled so is read.
use Rattle.std.proofs.Common.{◌≡◌, ℕ, ◌+◌, ◌^◌, ◌<◌, ◌≤◌, Bool, true, false, ◌&&◌, ◌||◌, ◌==◌, nat_lt, nat_le, List, ◌++◌, length, Option, None, Ok, IsTrue, refl, sym, ap, subst, ◌∙◌, append_assoc, arith}
use Rattle.std.specs.Int.{w32, w64, to_be_bytes}
use Rattle.std.specs.List.{flat_map}
use Rattle.std.proofs.lemmas.Bool.{and_parts, and_from, ltb-true, leb-true, lt-ltb, le-leb}
use Rattle.std.proofs.lemmas.Bool.Decides.{nat_tests}
use Rattle.std.proofs.lemmas.List.{length-append}
use Rattle.pmg_value.specs.declared.refusal.Cause.TheVariants as causes
use Rattle.pmg_value.specs.declared.process.Proc.{Proc}
use Rattle.pmg_value.specs.declared.value.Value.{Value}
use Rattle.pmg_value.specs.Spelling.{spelling, IsValue}
use Rattle.pmg_value.specs.Names.{is_key}
use Rattle.pmg_wire.specs.declared.fields.Admits.TheVariants as admits
use Rattle.pmg_wire.specs.Fields.{read_value}
use Rattle.pmg_wire.specs.Many.{many}
use Rattle.pmg_wire.specs.Reading.{Place, Read, fault, ◌>>=◌, check, number_at, IsBytes, Takes}
use Rattle.pmg_wire.specs.Spelling.{key_spelling, proc_spelling}
use Rattle.pmg_wire.proofs.Steps.{place, IfRead, bind_if, check_if, done_if, Takes-then, IsBytes-after, wide32, wide64, number_if, number_again}
use Rattle.pmg_wire.proofs.FieldLaws.{key_if, key_again, proc_if, proc_again, value_if, value_again}
use Rattle.pmg_wire.proofs.Counted.{TakesOne, many_if, many_again}
use Rattle.pmg_commit.specs.Entries.{Entry}
use Rattle.pmg_commit.specs.Knowledge.{Contribution}
use Rattle.pmg_frame.specs.Grammar.{Follows, IsPiece, IsTold}
use Rattle.pmg_frame.specs.PieceReading.{is_after, is_range, read_entry, read_range, read_told, read_piece}
use Rattle.pmg_frame.specs.Spelling.{entry_spelling, piece_body}

-- what an entry took
abbrev TakesEntry : ℕ → ℕ → Option Entry → Place → Entry → Place → Type 0
TakesEntry from to before at = TakesOne entry_spelling (Follows from to) before at

pub entry_if : (from to : ℕ) (before : Option Entry) (at : Place) → IsBytes at.rest → IfRead (read_entry from to before at) (TakesEntry from to before at)
unfolding read_entry
entry_if from to before at fits =
    let in_range : ℕ → Bool = λ number. nat_lt from number && nat_le number to in
    let made : List ℕ → ℕ → Value × Place → Read Entry = λ key number value. Ok (record { key = key; number = number; bytes = spelling value.0 }, value.1) in
    let valued : List ℕ → ℕ × Place → Read Entry = λ key number. read_value number.1 >>= made key number.0 in
    let numbered : List ℕ → Place → ℕ × Place → Read Entry = λ key middle number. check (in_range number.0) (fault middle.offset causes.Number) >>= λ _. valued key number in
    let ordered : List ℕ × Place → Read Entry = λ key. number_at w64 key.1 >>= numbered key.0 key.1 in
    bind_if (λ key. check (is_after before key.0) (fault at.offset causes.Order) >>= λ _. ordered key) (key_if at fits) (λ key middle k.
    let middle_fits : IsBytes middle.rest = IsBytes-after (key_spelling key) fits k.takes in
    check_if (is_after before key) (fault at.offset causes.Order) (λ _. ordered (key, middle)) (λ order.
    bind_if (numbered key middle) (number_if w64 (2 ^ 64) wide64 middle middle_fits) (λ number later n.
    check_if (in_range number) (fault middle.offset causes.Number) (λ _. valued key (number, later)) (λ within.
    let parts = and_parts (nat_lt from number) (nat_le number to) within in
    bind_if (made key number) (value_if later (IsBytes-after (to_be_bytes w64 number) middle_fits n.takes)) (λ v after t.
    done_if (record {
      takes = Takes-then (key_spelling key) (to_be_bytes w64 number ++ spelling v) k.takes (Takes-then (to_be_bytes w64 number) (spelling v) n.takes t.takes);
      follows = record { key = k.is; order = order; above = ltb-true _ _ parts.0; within = leb-true _ _ parts.1; value = v; is = t.is; bytes = refl };
    }))))))

-- what a range took
pub record TakesRange (none : Bool) (at : Place) (r : ℕ × ℕ) (after : Place) : Type 0 where
  pub takes : Takes at (to_be_bytes w64 r.0 ++ to_be_bytes w64 r.1) after
  pub is : IsTrue (is_range none r.0 r.1)

range_if : (none : Bool) (at : Place) → IsBytes at.rest → IfRead (read_range none at) (TakesRange none at)
unfolding read_range
range_if none at fits =
    let ending : ℕ → ℕ × Place → Read (ℕ × ℕ) = λ from to. check (is_range none from to.0) (fault at.offset causes.Range) >>= λ _. Ok ((from, to.0), to.1) in
    bind_if (λ from. number_at w64 from.1 >>= ending from.0) (number_if w64 (2 ^ 64) wide64 at fits) (λ from b f.
    bind_if (ending from) (number_if w64 (2 ^ 64) wide64 b (IsBytes-after (to_be_bytes w64 from) fits f.takes)) (λ to after t.
    check_if (is_range none from to) (fault at.offset causes.Range) (λ _. Ok ((from, to), after)) (λ range.
    done_if (record { takes = Takes-then (to_be_bytes w64 from) (to_be_bytes w64 to) f.takes t.takes; is = range }))))

-- what is told took
pub record TakesTold (none : Bool) (at : Place) (c : Contribution) (after : Place) : Type 0 where
  pub takes : Takes at (piece_body c) after
  pub is : IsTold none c

pub told_if : (none : Bool) (at : Place) → IsBytes at.rest → IfRead (read_told none at) (TakesTold none at)
unfolding read_told
told_if none at fits =
    let made : Proc → ℕ × ℕ → List Entry × Place → Read Contribution = λ proc range entries. Ok (record { proc = proc; from = range.0; to = range.1; entries = entries.0 }, entries.1) in
    let listed : Proc → ℕ × ℕ → ℕ × Place → Read Contribution = λ proc range count. many (read_entry range.0 range.1) count.0 None count.1 >>= made proc range in
    let counted : Proc → ℕ × ℕ → Place → ℕ × Place → Read Contribution = λ proc range at_count count. check (nat_le count.0 65536) (fault at_count.offset causes.Count) >>= λ _. listed proc range count in
    let ranged : Proc → (ℕ × ℕ) × Place → Read Contribution = λ proc range. number_at w32 range.1 >>= counted proc range.0 range.1 in
    bind_if (λ proc. read_range none proc.1 >>= ranged proc.0) (proc_if admits.ClientsAndHost at fits) (λ proc a p.
    let a_fits : IsBytes a.rest = IsBytes-after (proc_spelling proc) fits p.takes in
    bind_if (ranged proc) (range_if none a a_fits) (λ range d r.
    let range_text = to_be_bytes w64 range.0 ++ to_be_bytes w64 range.1 in
    let d_fits : IsBytes d.rest = IsBytes-after range_text a_fits r.takes in
    bind_if (counted proc range d) (number_if w32 (2 ^ 32) wide32 d d_fits) (λ count e n.
    let e_fits : IsBytes e.rest = IsBytes-after (to_be_bytes w32 count) d_fits n.takes in
    check_if (nat_le count 65536) (fault d.offset causes.Count) (λ _. listed proc range (count, e)) (λ few.
    bind_if (made proc range) (many_if (read_entry range.0 range.1) entry_spelling (Follows range.0 range.1) (entry_if range.0 range.1) count None e e_fits) (λ entries after m.
    let tail_text = to_be_bytes w32 count ++ flat_map entry_spelling entries in
    let tail = Takes-then (to_be_bytes w32 count) (flat_map entry_spelling entries) n.takes m.takes in
    let all = Takes-then (proc_spelling proc) (range_text ++ tail_text) p.takes (Takes-then range_text tail_text r.takes tail) in
    let regrouped : proc_spelling proc ++ (range_text ++ tail_text) ≡ proc_spelling proc ++ (to_be_bytes w64 range.0 ++ (to_be_bytes w64 range.1 ++ tail_text)) =
    ap (λ (t : List ℕ). proc_spelling proc ++ t) (append_assoc (to_be_bytes w64 range.0) (to_be_bytes w64 range.1) tail_text) in
    let taken : Takes at (proc_spelling proc ++ (to_be_bytes w64 range.0 ++ (to_be_bytes w64 range.1 ++ tail_text))) after = subst (λ (t : List ℕ). Takes at t after) regrouped all in
    done_if (record {
      takes = rw m.len taken;
      is = record { name = p.name; admitted = p.admitted; range = r.is; count = rw m.len (leb-true count 65536 few); entries = m.chain };
    }))))))

-- what a piece's body took
pub record TakesPiece (at : Place) (c : Contribution) (after : Place) : Type 0 where
  pub takes : Takes at (piece_body c) after
  pub is : IsPiece c

-- what is told of some commits is a piece
pub told_piece : (c : Contribution) → IsTold false c → IsPiece c
told_piece c is =
    let parts = and_parts (nat_lt c.from c.to || false) (nat_le c.to 4294967295) is.range in
    record { name = is.name; admitted = is.admitted; range = ltb-true _ _ (some_commits (nat_lt c.from c.to) parts.0); last = leb-true _ _ parts.1; count = is.count; entries = is.entries }
  where
    some_commits : (b : Bool) → IsTrue (b || false) → IsTrue b
    some_commits true h = refl
    some_commits false h = h

pub piece_if : (at : Place) → IsBytes at.rest → IfRead (read_piece at) (TakesPiece at)
piece_if at fits = record { holds = λ c after e. let t = (told_if false at fits).holds c after e in record { takes = t.takes; is = told_piece c t.is } }

-- ---- and again

fits64 : (from to number : ℕ) → number ≤ to → to ≤ 4294967295 → number < 2 ^ 64
fits64 from to number a b = omega arith

entry_of : List ℕ → ℕ → Value → Entry
entry_of key number v = record { key = key; number = number; bytes = spelling v }

entry_made_again : (from to : ℕ) (before : Option Entry) (o : ℕ) (key : List ℕ) (number : ℕ) (v : Value) (rest : List ℕ) → IsValue v → IsTrue (is_key key) → IsTrue (is_after before key) → from < number → number ≤ to → to ≤ 4294967295
    → read_entry from to before (place o (entry_spelling (entry_of key number v) ++ rest)) ≡ Ok (entry_of key number v, place (o + length (entry_spelling (entry_of key number v))) rest)
unfolding read_entry entry_of
entry_made_again from to before o key number v rest fits is order above within last =
    let number_text = to_be_bytes w64 number in
    let regrouped : (key_spelling key ++ (number_text ++ spelling v)) ++ rest ≡ key_spelling key ++ (number_text ++ (spelling v ++ rest)) = append_assoc (key_spelling key) (number_text ++ spelling v) rest ∙ ap (λ (t : List ℕ). key_spelling key ++ t) (append_assoc number_text (spelling v) rest) in
    let k = key_again o key (number_text ++ (spelling v ++ rest)) is in
    let n = number_again w64 (2 ^ 64) wide64 (o + length (key_spelling key)) number (spelling v ++ rest) (fits64 from to number within last) in
    let t = value_again (o + length (key_spelling key) + 8) v rest fits in
    let in_range : IsTrue (nat_lt from number && nat_le number to) = and_from (nat_lt from number) (nat_le number to) (lt-ltb _ _ above) (le-leb _ _ within) in
    let end : o + length (key_spelling key) + 8 + length (spelling v) ≡ o + length (key_spelling key ++ (number_text ++ spelling v)) = omega (arith, length-append (key_spelling key) (number_text ++ spelling v)) in
    ap (λ (text : List ℕ). read_entry from to before (place o text)) regrouped
    ∙ rw (k, order, n, in_range, t) (ap (λ (m : ℕ). Ok (entry_of key number v, place m rest)) end)

pub entry_again : (from to : ℕ) → to ≤ 4294967295 → (before : Option Entry) (o : ℕ) (e : Entry) (rest : List ℕ) → Follows from to before e
    → read_entry from to before (place o (entry_spelling e ++ rest)) ≡ Ok (e, place (o + length (entry_spelling e)) rest)
unfolding entry_of
entry_again from to last before o e rest f =
    let Again : Entry → Type 0 = λ x. read_entry from to before (place o (entry_spelling x ++ rest)) ≡ Ok (x, place (o + length (entry_spelling x)) rest) in
    let same : entry_of e.key e.number f.value ≡ e = ap (λ (b : List ℕ). record { key = e.key; number = e.number; bytes = b }) (sym f.bytes) in
    subst Again same (entry_made_again from to before o e.key e.number f.value rest f.is f.key f.order f.above f.within last)

regroup_5 : (a b c d e r : List ℕ) → (a ++ (b ++ (c ++ (d ++ e)))) ++ r ≡ a ++ (b ++ (c ++ (d ++ (e ++ r))))
regroup_5 a b c d e r = simp append_assoc

pub length_5 : (a b c d e : List ℕ) → length (a ++ (b ++ (c ++ (d ++ e)))) ≡ length a + length b + length c + length d + length e
length_5 a b c d e =
    omega (arith, length-append a (b ++ (c ++ (d ++ e))), length-append b (c ++ (d ++ e)), length-append c (d ++ e), length-append d e)

-- the numbers of a range are small
pub range_small : (none : Bool) (from to : ℕ) → IsTrue (is_range none from to) → (from ≤ to) × (to ≤ 4294967295)
range_small none from to is =
    let parts = and_parts (nat_lt from to || (none && from == to)) (nat_le to 4294967295) is in
    (in_order none from to parts.0, leb-true _ _ parts.1)
  where
    in_order : (none : Bool) (from to : ℕ) → IsTrue (nat_lt from to || (none && from == to)) → from ≤ to
    in_order true from to h = grind (arith, nat_tests, h)
    in_order false from to h = grind (arith, nat_tests, h)

range_again : (none : Bool) (o from to : ℕ) (rest : List ℕ) → IsTrue (is_range none from to)
    → read_range none (place o (to_be_bytes w64 from ++ (to_be_bytes w64 to ++ rest))) ≡ Ok ((from, to), place (o + 8 + 8) rest)
unfolding read_range
range_again none o from to rest is =
    let small = range_small none from to is in
    let f = number_again w64 (2 ^ 64) wide64 o from (to_be_bytes w64 to ++ rest) (omega (arith, small.0, small.1)) in
    let t = number_again w64 (2 ^ 64) wide64 (o + 8) to rest (omega (arith, small.1)) in
    rw (f, t, is) refl

pub told_again : (none : Bool) (o : ℕ) (c : Contribution) (rest : List ℕ) → IsTold none c → read_told none (place o (piece_body c ++ rest)) ≡ Ok (c, place (o + length (piece_body c)) rest)
unfolding read_told
told_again none o c rest is =
    let from_text = to_be_bytes w64 c.from in
    let to_text = to_be_bytes w64 c.to in
    let count_text = to_be_bytes w32 (length c.entries) in
    let entries_text = flat_map entry_spelling c.entries in
    let regrouped : piece_body c ++ rest ≡ proc_spelling c.proc ++ (from_text ++ (to_text ++ (count_text ++ (entries_text ++ rest)))) = regroup_5 (proc_spelling c.proc) from_text to_text count_text entries_text rest in
    let o1 = o + length (proc_spelling c.proc) in
    let p = proc_again admits.ClientsAndHost o c.proc (from_text ++ (to_text ++ (count_text ++ (entries_text ++ rest)))) is.name is.admitted in
    let r = range_again none o1 c.from c.to (count_text ++ (entries_text ++ rest)) is.range in
    let n = number_again w32 (2 ^ 32) wide32 (o1 + 8 + 8) (length c.entries) (entries_text ++ rest) (omega (arith, is.count)) in
    let few : IsTrue (nat_le (length c.entries) 65536) = le-leb _ _ is.count in
    let m = many_again (read_entry c.from c.to) entry_spelling (Follows c.from c.to) (entry_again c.from c.to (range_small none c.from c.to is.range).1) None (o1 + 8 + 8 + 4) c.entries rest is.entries in
    let end : o1 + 8 + 8 + 4 + length entries_text ≡ o + length (piece_body c) = omega (arith, length_5 (proc_spelling c.proc) from_text to_text count_text entries_text) in
    ap (λ (text : List ℕ). read_told none (place o text)) regrouped
    ∙ rw (p, r, n, few, m) (ap (λ (k : ℕ). Ok (c, place k rest)) end)

-- a piece is told of some commits
pub piece_told : (c : Contribution) → IsPiece c → IsTold false c
piece_told c is = record {
  name = is.name;
  admitted = is.admitted;
  range = and_from (nat_lt c.from c.to || false) (nat_le c.to 4294967295) (rw (lt-ltb _ _ is.range) refl) (le-leb _ _ is.last);
  count = is.count;
  entries = is.entries;
}

pub piece_again : (o : ℕ) (c : Contribution) (rest : List ℕ) → IsPiece c → read_piece (place o (piece_body c ++ rest)) ≡ Ok (c, place (o + length (piece_body c)) rest)
piece_again o c rest is = told_again false o c rest (piece_told c is)
