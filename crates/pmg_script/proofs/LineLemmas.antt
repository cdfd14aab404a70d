-- The words of a line, one after another.
use Rattle.std.proofs.Common.{◌≡◌, ◌∙◌, refl, sym, ap, ℕ, suc, ◌+◌, ◌<◌, ◌≤◌, ◌==◌, Bool, true, false, cond, not, ◌||◌, List, [], ◌∷◌, ◌++◌, length, drop, Option, Some, None, arith, append-nil, append_assoc, subst, ◌-◌}
use Rattle.std.specs.Prelude.{nat_lt, is_none}
use Rattle.std.specs.List.{list_any, position, position_or_len, slice_split, onto_first, before_first}
use Rattle.std.proofs.lemmas.List.{length-drop}
use Rattle.std.proofs.lemmas.List.Splits.{slice_split_first}
use Rattle.std.proofs.lemmas.Bool.{ltb-true, ltb-false, false≢true}
use Rattle.pmg_script.specs.declared.lines.LineFault.{LineFault}
use Rattle.pmg_script.specs.declared.lines.LineFault.TheVariants as faults
use Rattle.pmg_script.specs.Lines.{is_blank, Left, parted, unless_empty, read_word, read_words, read_as, is_empty, ◌>>=◌, LineFails}
use Rattle.pmg_script.specs.Fields.{number_in, rank_in, as_numbers, procs_in, read_proc_words, read_procs, all_numbers, read_proc_list}
use Rattle.pmg_value.specs.declared.process.Proc.{Proc}
use Rattle.std.proofs.lemmas.Option.{none-some, same_Some}

none_blank : (text : List ℕ) → length text ≤ position_or_len is_blank text → slice_split is_blank text ≡ text ∷ []
none_blank [] h = refl
none_blank (x ∷ xs) h = go (λ most. none_blank xs most) (is_blank x) h
  where
    go : (length xs ≤ position_or_len is_blank xs → slice_split is_blank xs ≡ xs ∷ []) → (b : Bool) → suc (length xs) ≤ cond (not b) (1 + position_or_len is_blank xs) 0
        → cond b ([] ∷ slice_split is_blank xs) (onto_first x (slice_split is_blank xs)) ≡ (x ∷ xs) ∷ []
    go rest true h = absurd (omega (arith, h))
    go rest false h = ap (onto_first x) (rest (omega (arith, h)))

abbrev words_by : List ℕ × Left → List (List ℕ)
words_by (word, None) = word ∷ []
words_by (word, Some rest) = word ∷ slice_split is_blank rest

word_first : (text : List ℕ) → slice_split is_blank text ≡ words_by (parted text (position is_blank text))
word_first text = go (nat_lt (position_or_len is_blank text) (length text)) refl
  where
    go : (b : Bool) → nat_lt (position_or_len is_blank text) (length text) ≡ b
        → slice_split is_blank text ≡ words_by (parted text (cond b (Some (position_or_len is_blank text)) None))
    go true lt =
        let next : position_or_len is_blank text + 1 ≡ suc (position_or_len is_blank text) = omega arith in
        slice_split_first is_blank text 0 (ltb-true _ _ lt) ∙ ap (λ n. before_first is_blank text ∷ slice_split is_blank (drop n text)) next
    go false ge = none_blank text (ltb-false _ _ ge)

by_words : (a b : Bool) (word : List ℕ) (left : Left) (words : List (List ℕ)) (next : Left → Option (List (List ℕ))) → next left ≡ cond b None (Some words)
    → cond (a || b) None (Some (word ∷ words)) ≡ (◌>>=◌ {A = List ℕ × Left} (cond a None (Some (word, left))) λ w. next w.1 >>= λ ws. Some (w.0 ∷ ws))
by_words true b word left words next is = refl
by_words false true word left words next is = ap (λ r. r >>= λ ws. Some (word ∷ ws)) (sym is)
by_words false false word left words next is = ap (λ r. r >>= λ ws. Some (word ∷ ws)) (sym is)

words_first : (part : List ℕ × Left) → cond (list_any is_empty (words_by part)) None (Some (words_by part)) ≡ (unless_empty part >>= λ w. read_words w.1 >>= λ ws. Some (w.0 ∷ ws))
unfolding read_words
words_first (word, None) = by_words (is_empty word) false word None [] read_words refl
words_first (word, Some rest) = by_words (is_empty word) (list_any is_empty (slice_split is_blank rest)) word (Some rest) (slice_split is_blank rest) read_words refl

-- all words that are left: the next one, and then all others
pub words_step : (text : List ℕ) → read_words (Some text) ≡ (read_word (Some text) >>= λ w. read_words w.1 >>= λ ws. Some (w.0 ∷ ws))
unfolding read_words read_word
words_step text = ap (λ ws. cond (list_any is_empty ws) None (Some ws)) (word_first text) ∙ words_first (parted text (position is_blank text))

-- what reading does not find, another does not find either
pub fails_too : {A B : Type 0} (e : LineFault) (a : Option A) (b : Option B) → (a ≡ None → b ≡ None) → LineFails e a → LineFails e b
fails_too faults.Malformed a b too fails = too fails
fails_too faults.NoMemory a b too fails = tt

-- how much is left
abbrev pub left_len : Left → ℕ
left_len None = 0
left_len (Some text) = suc (length text)

-- what is read leaves less
abbrev pub Shrinks : {A : Type 0} → (Left → Option (A × Left)) → Type 0
Shrinks {A} one = (text : List ℕ) (x : A) (left : Left) → one (Some text) ≡ Some (x, left) → left_len left ≤ length text

part_shorter : (text : List ℕ) → left_len (parted text (position is_blank text)).1 ≤ length text
part_shorter text = go (nat_lt (position_or_len is_blank text) (length text)) refl
  where
    go : (b : Bool) → nat_lt (position_or_len is_blank text) (length text) ≡ b → left_len (parted text (cond b (Some (position_or_len is_blank text)) None)).1 ≤ length text
    go true lt = omega (arith, ltb-true _ _ lt, length-drop (suc (position_or_len is_blank text)) text)
    go false ge = omega arith

found_part : (b : Bool) (part found : List ℕ × Left) → cond b None (Some part) ≡ Some found → part.1 ≡ found.1
found_part true part found is = absurd (none-some found is)
found_part false part found is = ap (λ (r : List ℕ × Left). r.1) (same_Some part found is)

pub word_shrinks : Shrinks read_word
unfolding read_word
word_shrinks text word left is =
    let part = parted text (position is_blank text) in
    subst (λ l. left_len l ≤ length text) (found_part (length part.0 == 0) part (word, left) is) (part_shorter text)

-- what stands after a word, whatever it says
abbrev with_left : {A : Type 0} → A → Left → Option (A × Left)
with_left x left = Some (x, left)

same_left : {A : Type 0} (y : Option A) (rest : Left) (found : A × Left) → (y >>= λ z. with_left z rest) ≡ Some found → rest ≡ found.1
same_left None rest found is = absurd (none-some found is)
same_left {A} (Some y) rest found is = ap (λ (r : A × Left). r.1) (same_Some (y, rest) found is)

pub as_shrinks : {A : Type 0} (says : List ℕ → Option A) → Shrinks (read_as says)
as_shrinks {A} says text x left is = go (read_word (Some text)) (λ word rest found. word_shrinks text word rest found) is
  where
    go : (r : Option (List ℕ × Left)) → ((word : List ℕ) (rest : Left) → r ≡ Some (word, rest) → left_len rest ≤ length text)
        → (r >>= λ word. says word.0 >>= λ y. with_left y word.1) ≡ with_left x left → left_len left ≤ length text
    go None less is = absurd (none-some (x, left) is)
    go (Some word) less is = subst (λ l. left_len l ≤ length text) (same_left (says word.0) word.1 (x, left) is) (less word.0 word.1 refl)

rank_less : (rest : Left) (n : ℕ) (l : Left) → read_as rank_in rest ≡ Some (n, l) → left_len l ≤ left_len rest
unfolding read_word
rank_less None n l found = absurd (none-some (n, l) found)
rank_less (Some rest) n l found = omega (arith, as_shrinks rank_in rest n l found)

abbrev proc_of : List ℕ → ℕ → Proc
proc_of nspace rank = record { nspace = nspace; rank = rank }

pub proc_shrinks : Shrinks read_proc_words
unfolding read_proc_words
proc_shrinks text p left is = go (read_word (Some text)) (λ word rest found. word_shrinks text word rest found) is
  where
    ranked : (nspace : List ℕ) (rest : Left) → left_len rest ≤ length text → (r : Option (ℕ × Left)) → ((n : ℕ) (l : Left) → r ≡ Some (n, l) → left_len l ≤ left_len rest)
        → (r >>= λ rank. with_left (proc_of nspace rank.0) rank.1) ≡ with_left p left → left_len left ≤ length text
    ranked nspace rest most None less is = absurd (none-some (p, left) is)
    ranked nspace rest most (Some rank) less is =
        let same = ap (λ (r : Proc × Left). r.1) (same_Some (proc_of nspace rank.0, rank.1) (p, left) is) in
        let own = less rank.0 rank.1 refl in
        subst (λ l. left_len l ≤ length text) same (omega (arith, own, most))

    go : (r : Option (List ℕ × Left)) → ((word : List ℕ) (rest : Left) → r ≡ Some (word, rest) → left_len rest ≤ length text)
        → (r >>= λ word. read_as rank_in word.1 >>= λ rank. with_left (proc_of word.0 rank.0) rank.1) ≡ with_left p left → left_len left ≤ length text
    go None less is = absurd (none-some (p, left) is)
    go (Some word) less is = ranked word.0 word.1 (less word.0 word.1 refl) (read_as rank_in word.1) (rank_less word.1) is

-- ---- reading to the end, where reading of all is reading of one item and then of all others
module _ {A : Type 0} (one : Left → Option (A × Left)) (all : Left → Option (List A)) where
  abbrev pub IsStepwise : Type 0
  IsStepwise = (all None ≡ Some []) × ((text : List ℕ) → all (Some text) ≡ (one (Some text) >>= λ x. all x.1 >>= λ xs. Some (x.0 ∷ xs)))

  -- the items so far, and all that are left
  abbrev pub after : List A → Left → Option (List A)
  after items left = all left >>= λ xs. Some (items ++ xs)

  pub after_none : (left : Left) → after [] left ≡ all left
  after_none left = go (all left)
    where
      go : (xs : Option (List A)) → (xs >>= λ ys. Some ([] ++ ys)) ≡ xs
      go None = refl
      go (Some ys) = refl

  -- nothing is left
  pub after_all : IsStepwise → (items : List A) (left : Left) → is_none left ≡ true → after items left ≡ Some items
  after_all steps items None is = ap (λ r. r >>= λ xs. Some (items ++ xs)) steps.0 ∙ ap Some (append-nil items)
  after_all steps items (Some text) is = absurd (false≢true is)

  step_by : (items : List A) (x : A) (others : Option (List A))
      → ((others >>= λ xs. Some (x ∷ xs)) >>= λ xs. Some (items ++ xs)) ≡ (others >>= λ xs. Some ((items ++ x ∷ []) ++ xs))
  step_by items x None = refl
  step_by items x (Some xs) = ap Some (sym (append_assoc items (x ∷ []) xs))

  -- one more item was read
  pub after_more : IsStepwise → (items : List A) (left : Left) (x : A) (rest : Left) → is_none left ≡ false → one left ≡ Some (x, rest)
      → after (items ++ x ∷ []) rest ≡ after items left
  after_more steps items None x rest some is = absurd (false≢true (sym some))
  after_more steps items (Some text) x rest some is =
      sym (ap (λ r. r >>= λ xs. Some (items ++ xs)) (steps.1 text ∙ ap (λ r. r >>= λ y. all y.1 >>= λ xs. Some (y.0 ∷ xs)) is) ∙ step_by items x (all rest))

  -- the next item was not read, so not all are
  pub after_fault : IsStepwise → (e : LineFault) (items : List A) (left : Left) (total : Option (List A)) → is_none left ≡ false → LineFails e (one left)
      → after items left ≡ total → LineFails e total
  after_fault steps e items None total some fails is = absurd (false≢true (sym some))
  after_fault steps e items (Some text) total some fails is =
      fails_too e (one (Some text)) total
      (λ none. sym is ∙ ap (λ r. r >>= λ xs. Some (items ++ xs)) (steps.1 text ∙ ap (λ r. r >>= λ y. all y.1 >>= λ xs. Some (y.0 ∷ xs)) none)) fails

  -- less is left
  pub less_left : Shrinks one → (left : Left) (x : A) (rest : Left) → is_none left ≡ false → one left ≡ Some (x, rest) → left_len rest < left_len left
  less_left shrinks None x rest some is = absurd (false≢true (sym some))
  less_left shrinks (Some text) x rest some is = omega (arith, shrinks text x rest is)

pub words_stepwise : IsStepwise read_word read_words
unfolding read_words
words_stepwise = (refl, words_step)

by_number : (word : List ℕ) (n : Option ℕ) (left : Left) (words : Option (List (List ℕ))) (next : Left → Option (List ℕ)) → number_in word ≡ n → next left ≡ (words >>= as_numbers)
    → ((words >>= λ ws. Some (word ∷ ws)) >>= as_numbers) ≡ ((n >>= λ x. with_left x left) >>= λ x. next x.1 >>= λ xs. Some (x.0 ∷ xs))
by_number word None left None next first is = refl
by_number word None left (Some ws) next first is = ap (λ m. m >>= λ x. as_numbers ws >>= λ others. Some (x ∷ others)) first
by_number word (Some x) left None next first is = ap (λ r. r >>= λ xs. Some (x ∷ xs)) (sym is)
by_number word (Some x) left (Some ws) next first is =
    ap (λ m. m >>= λ x. as_numbers ws >>= λ others. Some (x ∷ others)) first ∙ ap (λ r. r >>= λ xs. Some (x ∷ xs)) (sym is)

pub numbers_stepwise : IsStepwise (read_as number_in) all_numbers
unfolding all_numbers read_words
numbers_stepwise = (refl, λ text. ap (λ r. r >>= as_numbers) (words_step text) ∙ go (read_word (Some text)))
  where
    go : (r : Option (List ℕ × Left)) → ((r >>= λ w. read_words w.1 >>= λ ws. Some (w.0 ∷ ws)) >>= as_numbers)
        ≡ ((r >>= λ w. number_in w.0 >>= λ x. with_left x w.1) >>= λ x. (read_words x.1 >>= as_numbers) >>= λ xs. Some (x.0 ∷ xs))
    go None = refl
    go (Some w) = by_number w.0 (number_in w.0) w.1 (read_words w.1) (λ l. read_words l >>= as_numbers) refl refl

by_rank : (nspace word : List ℕ) (n : Option ℕ) (left : Left) (words : Option (List (List ℕ))) (next : Left → Option (List Proc)) → rank_in word ≡ n → next left ≡ (words >>= procs_in)
    → (((words >>= λ ws. Some (word ∷ ws)) >>= λ ws. Some (nspace ∷ ws)) >>= procs_in)
    ≡ (((n >>= λ x. with_left x left) >>= λ rank. with_left (proc_of nspace rank.0) rank.1) >>= λ p. next p.1 >>= λ ps. Some (p.0 ∷ ps))
by_rank nspace word None left None next first is = refl
by_rank nspace word None left (Some ws) next first is = ap (λ m. m >>= λ x. procs_in ws >>= λ others. Some (proc_of nspace x ∷ others)) first
by_rank nspace word (Some x) left None next first is = ap (λ r. r >>= λ ps. Some (proc_of nspace x ∷ ps)) (sym is)
by_rank nspace word (Some x) left (Some ws) next first is =
    ap (λ m. m >>= λ x. procs_in ws >>= λ others. Some (proc_of nspace x ∷ others)) first ∙ ap (λ r. r >>= λ ps. Some (proc_of nspace x ∷ ps)) (sym is)

by_left : (nspace : List ℕ) (left : Left) → ((read_words left >>= λ ws. Some (nspace ∷ ws)) >>= procs_in)
    ≡ ((read_as rank_in left >>= λ rank. with_left (proc_of nspace rank.0) rank.1) >>= λ p. (read_words p.1 >>= procs_in) >>= λ ps. Some (p.0 ∷ ps))
unfolding read_words read_word
by_left nspace None = refl
by_left nspace (Some text) = ap (λ r. (r >>= λ ws. Some (nspace ∷ ws)) >>= procs_in) (words_step text) ∙ go (read_word (Some text))
  where
    go : (r : Option (List ℕ × Left)) → (((r >>= λ w. read_words w.1 >>= λ ws. Some (w.0 ∷ ws)) >>= λ ws. Some (nspace ∷ ws)) >>= procs_in)
        ≡ (((r >>= λ w. rank_in w.0 >>= λ x. with_left x w.1) >>= λ rank. with_left (proc_of nspace rank.0) rank.1) >>= λ p. (read_words p.1 >>= procs_in) >>= λ ps. Some (p.0 ∷ ps))
    go None = refl
    go (Some w) = by_rank nspace w.0 (rank_in w.0) w.1 (read_words w.1) (λ l. read_words l >>= procs_in) refl refl

pub procs_stepwise : IsStepwise read_proc_words read_proc_list
unfolding read_proc_list read_words read_proc_words
procs_stepwise = (refl, λ text. ap (λ r. r >>= procs_in) (words_step text) ∙ go (read_word (Some text)))
  where
    go : (r : Option (List ℕ × Left)) → ((r >>= λ w. read_words w.1 >>= λ ws. Some (w.0 ∷ ws)) >>= procs_in)
        ≡ ((r >>= λ w. read_as rank_in w.1 >>= λ rank. with_left (proc_of w.0 rank.0) rank.1) >>= λ p. (read_words p.1 >>= procs_in) >>= λ ps. Some (p.0 ∷ ps))
    go None = refl
    go (Some w) = by_left w.0 w.1

-- ---- so many processes

-- the processes so far, and so many more
abbrev pub procs_after : List Proc → ℕ → Left → Option (List Proc × Left)
procs_after items n left = read_procs n left >>= λ ps. with_left (items ++ ps.0) ps.1

pub procs_none : (n : ℕ) (left : Left) → procs_after [] (n - 0) left ≡ read_procs n left
procs_none n left = let all : n - 0 ≡ n = omega arith in ap (λ k. procs_after [] k left) all ∙ go (read_procs n left)
  where
    go : (r : Option (List Proc × Left)) → (r >>= λ ps. with_left ([] ++ ps.0) ps.1) ≡ r
    go None = refl
    go (Some ps) = refl

procs_suc : (items : List Proc) (n : ℕ) (left : Left)
    → procs_after items (suc n) left ≡ (read_proc_words left >>= λ p. procs_after (items ++ p.0 ∷ []) n p.1)
unfolding read_procs
procs_suc items n left = go (read_proc_words left)
  where
    inner : (p : Proc) (r : Option (List Proc × Left)) → ((r >>= λ ps. with_left (p ∷ ps.0) ps.1) >>= λ ps. with_left (items ++ ps.0) ps.1) ≡ (r >>= λ ps. with_left ((items ++ p ∷ []) ++ ps.0) ps.1)
    inner p None = refl
    inner p (Some ps) = ap (λ xs. with_left xs ps.1) (sym (append_assoc items (p ∷ []) ps.0))

    go : (r : Option (Proc × Left)) → ((r >>= λ p. read_procs n p.1 >>= λ ps. with_left (p.0 ∷ ps.0) ps.1) >>= λ ps. with_left (items ++ ps.0) ps.1)
        ≡ (r >>= λ p. procs_after (items ++ p.0 ∷ []) n p.1)
    go None = refl
    go (Some p) = inner p.0 (read_procs n p.1)

next_count : (count i : ℕ) → i < count → count - i ≡ suc (count - (i + 1))
next_count count i lt = omega (arith, lt)

-- one more was read
pub procs_more : (items : List Proc) (count i : ℕ) (left rest : Left) (p : Proc) → i < count → read_proc_words left ≡ Some (p, rest)
    → procs_after (items ++ p ∷ []) (count - (i + 1)) rest ≡ procs_after items (count - i) left
procs_more items count i left rest p lt is =
    sym (ap (λ k. procs_after items k left) (next_count count i lt) ∙ procs_suc items (count - (i + 1)) left
    ∙ ap (λ r. r >>= λ q. procs_after (items ++ q.0 ∷ []) (count - (i + 1)) q.1) is)

-- the next one was not read
pub procs_fault : (e : LineFault) (items : List Proc) (count i : ℕ) (left : Left) (total : Option (List Proc × Left)) → i < count → LineFails e (read_proc_words left)
    → procs_after items (count - i) left ≡ total → LineFails e total
procs_fault e items count i left total lt fails is =
    fails_too e (read_proc_words left) total
    (λ none. sym is ∙ ap (λ k. procs_after items k left) (next_count count i lt) ∙ procs_suc items (count - (i + 1)) left
    ∙ ap (λ r. r >>= λ q. procs_after (items ++ q.0 ∷ []) (count - (i + 1)) q.1) none) fails

-- all were read
pub procs_done : (items : List Proc) (count i : ℕ) (left : Left) (total : Option (List Proc × Left)) → count ≤ i → procs_after items (count - i) left ≡ total → total ≡ Some (items, left)
unfolding read_procs
procs_done items count i left total le is =
    let none : count - i ≡ 0 = omega (arith, le) in
    sym is ∙ ap (λ k. procs_after items k left) none ∙ ap (λ xs. with_left xs left) (append-nil items)
