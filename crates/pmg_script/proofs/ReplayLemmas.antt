-- Doing a script line by line.
use Rattle.std.proofs.Common.{◌≡◌, ◌∙◌, refl, sym, ap, subst, ℕ, ◌+◌, ◌<◌, Bool, true, false, cond, not, List, [], ◌∷◌, ◌++◌, length, take, Option, Some, None, Result, Ok, Err, arith, append-nil, append_assoc, length-append, inl, inr}
use Rattle.std.specs.List.{list_all}
use Rattle.std.specs.Io.KnownBytes.{Appends, Consumes, IsAtEnd}
use Rattle.std.proofs.KnownBytes.{Consumes-trans}
use Rattle.std.proofs.lemmas.Bool.{and_parts, false≢true}
use Rattle.pmg_value.specs.declared.refusal.Refusal.TheVariants.{NoMemory, BadFrame}
use Rattle.pmg_value.specs.Written.{AppendsFront}
use Rattle.pmg_value.proofs.WrittenLemmas.{appends_nothing, appends_then}
use Rattle.pmg_store.specs.declared.failure.Failure.{Failure}
use Rattle.pmg_store.specs.declared.failure.Failure.TheVariants.{Refused, Read, Write}
use Rattle.std.specs.Prelude.{IfSome, OnSome}
use Rattle.pmg_script.specs.declared.lines.LineFault.{LineFault}
use Rattle.pmg_script.specs.declared.lines.LineFault.TheVariants as faults
use Rattle.pmg_script.specs.Lines.{content}
use Rattle.pmg_script.specs.Reading.{is_end, onto, lines, IsUnended, IsWhole, NoLine, NextLine}
use Rattle.pmg_script.specs.Replays.{joined_lines, no_line, Plays, EndsAs, Replayed, IsGoing}
use Rattle.pmg_script.specs.declared.playing.Ended.{Ended}
use Rattle.pmg_script.specs.declared.playing.Ended.TheVariants as ends

-- ---- the lines of a text

not_true : (b : Bool) → not b ≡ true → b ≡ false
not_true true h = absurd (false≢true h)
not_true false h = refl

pub one_line : (body rest : List ℕ) → IsUnended body → lines ((body ++ 10 ∷ []) ++ rest) ≡ (body ++ 10 ∷ []) ∷ lines rest
unfolding lines
one_line [] rest unended = refl
one_line (b ∷ bs) rest unended =
    let parts = and_parts (not (is_end b)) (list_all (λ byte. not (is_end byte)) bs) unended in
    let next = lines ((bs ++ 10 ∷ []) ++ rest) in
    ap (λ t. cond t ((b ∷ []) ∷ next) (onto b next)) (not_true (is_end b) parts.0) ∙ ap (onto b) (one_line bs rest parts.1)

pub last_line : (b : ℕ) (bs : List ℕ) → IsUnended (b ∷ bs) → lines (b ∷ bs) ≡ (b ∷ bs) ∷ []
unfolding lines
last_line b [] unended =
    let parts = and_parts (not (is_end b)) true unended in
    ap (λ t. cond t ((b ∷ []) ∷ []) ((b ∷ []) ∷ [])) (not_true (is_end b) parts.0)
last_line b (c ∷ cs) unended =
    let parts = and_parts (not (is_end b)) (list_all (λ byte. not (is_end byte)) (c ∷ cs)) unended in
    let next = lines (c ∷ cs) in
    ap (λ t. cond t ((b ∷ []) ∷ next) (onto b next)) (not_true (is_end b) parts.0) ∙ ap (onto b) (last_line c cs parts.1)

pub no_lines : lines [] ≡ []
unfolding lines
no_lines = refl

joined_more : (done : List (List ℕ)) (line : List ℕ) → joined_lines (done ++ line ∷ []) ≡ joined_lines done ++ line
joined_more [] line = append-nil line
joined_more (first ∷ others) line = ap (λ bytes. first ++ bytes) (joined_more others line) ∙ sym (append_assoc first (joined_lines others) line)

-- ---- what is left

-- what is left once a line was read
record LeftAfter (rest line : List ℕ) (left : Option (List ℕ)) : Type 0 where
  after : List ℕ
  is_left : left ≡ Some after
  parts : rest ≡ line ++ after

left_after : (left new : Option (List ℕ)) (rest line : List ℕ) → left ≡ Some rest → Consumes left new line → LeftAfter rest line new
left_after left new rest line is read = go new (subst (λ l. Consumes l new line) is read)
  where
    go : (new : Option (List ℕ)) → Consumes (Some rest) new line → LeftAfter rest line new
    go None read = absurd read
    go (Some after) read = record { after = after; is_left = refl; parts = read }

-- the line that was read is the next one
record IsNext (rest line : List ℕ) : Type 0 where
  others : List (List ℕ)
  cut : lines rest ≡ line ∷ others

at_end : (left new : Option (List ℕ)) (rest after : List ℕ) → left ≡ Some rest → new ≡ Some after → OnSome left (IsAtEnd new) → after ≡ []
at_end left new rest after was is end = subst IsAtEnd is (subst (λ l. OnSome l (IsAtEnd new)) was end)

next_of : (start : ℕ) (left new : Option (List ℕ)) (rest line : List ℕ) (ended : Bool) → left ≡ Some rest → NextLine start left new line (Ok ended) → 0 < length line → IsNext rest line
next_of start left new rest line true is next some =
    let after = left_after left new rest line is next.1 in
    let whole = next.0 in
    record {
      others = lines after.after;
      cut = ap lines (after.parts ∙ ap (λ l. l ++ after.after) whole.ends) ∙ one_line whole.body after.after whole.unended ∙ ap (λ l. l ∷ lines after.after) (sym whole.ends);
    }
next_of start left new rest [] false is next some = absurd (omega (arith, some))
next_of start left new rest (b ∷ bs) false is next some =
    let after = left_after left new rest (b ∷ bs) is next.1.0 in
    let nothing = at_end left new rest after.after is after.is_left next.1.1 in
    record { others = []; cut = ap lines (after.parts ∙ ap (λ l. (b ∷ bs) ++ l) nothing ∙ append-nil (b ∷ bs)) ∙ last_line b bs next.0 }

read_so_far : (text : List ℕ) (done : List (List ℕ)) (rest part : List ℕ) (left new : Option (List ℕ)) → text ≡ joined_lines done ++ rest → left ≡ Some rest → Consumes left new part
    → Consumes (Some text) new (joined_lines done ++ part)
read_so_far text done rest part left new whole is read = Consumes-trans (Some text) (Some rest) new (joined_lines done) part whole (subst (λ l. Consumes l new part) is read)

-- ---- one turn
module _ {S : Type 0} (plays : S → List ℕ → List ℕ → S → Type 0) (stops : S → List ℕ → Type 0) (over : S → Bool) where
  plays_push : (s : S) (done : List (List ℕ)) (told : List ℕ) (state : S) (line now : List ℕ) (after : S) → Plays plays stops over s done told state → over state ≡ false → plays state (content line) now after
      → Plays plays stops over s (done ++ line ∷ []) (told ++ now) after
  unfolding Plays
  plays_push s [] told state line now after run live played =
      (subst (λ u. over u ≡ false) run.1 live, after, now, [], subst (λ u. plays u (content line) now after) run.1 played, (refl, refl), ap (λ t. t ++ now) run.0 ∙ sym (append-nil now))
  plays_push s (first ∷ others) told state line now after run live played =
      (run.0, run.1, run.2, run.3 ++ now, run.4, plays_push run.1 others run.3 state line now after run.5 live played, ap (λ t. t ++ now) run.6 ∙ append_assoc run.2 run.3 now)

  -- the next line is done, and its answer is written
  pub going_on : (start : S) (text : List ℕ) (left new first wrote written : Option (List ℕ)) (state : S) (offset : ℕ) (line answer : List ℕ) (after : S)
      → IsGoing plays stops over start text left first wrote state offset → NextLine offset left new line (Ok true) → plays state (content line) answer after → Appends wrote written answer
      → over after ≡ false → IsGoing plays stops over start text new first written after (offset + length line)
  going_on start text left new first wrote written state offset line answer after g next played wrote_it live =
      let rest = left_after left new g.rest line g.is_left next.1 in
      let is_next = one_line next.0.body rest.after next.0.unended in
      let cut = ap lines (rest.parts ∙ ap (λ l. l ++ rest.after) next.0.ends) ∙ is_next ∙ ap (λ l. l ∷ lines rest.after) (sym next.0.ends) in
      record {
        done = g.done ++ line ∷ [];
        rest = rest.after;
        told = g.told ++ answer;
        is_left = rest.is_left;
        whole = g.whole ∙ ap (λ bytes. joined_lines g.done ++ bytes) rest.parts ∙ sym (append_assoc (joined_lines g.done) line rest.after) ∙ ap (λ bytes. bytes ++ rest.after) (sym (joined_more g.done line));
        cut = g.cut ∙ ap (λ ls. g.done ++ ls) cut ∙ sym (append_assoc g.done (line ∷ []) (lines rest.after));
        count = ap length (joined_more g.done line) ∙ length-append (joined_lines g.done) line ∙ ap (λ n. n + length line) g.count;
        live = live;
        run = plays_push start g.done g.told state line answer after g.run g.live played;
        wrote = appends_then first wrote written g.told answer wrote_it g.wrote;
      }

  -- no line is left
  pub ends_empty : (start : S) (text : List ℕ) (left new first wrote : Option (List ℕ)) (state : S) (offset : ℕ) (line : List ℕ) (ended : Bool)
      → IsGoing plays stops over start text left first wrote state offset → NextLine offset left new line (Ok ended) → line ≡ []
      → Replayed plays stops over start text new first wrote (Ok ends.AtEnd)
  ends_empty start text left new first wrote state offset line true g next empty = absurd (no_whole line next.0 empty)
    where
      no_whole : (line : List ℕ) → IsWhole line → line ≡ [] → ⊥
      no_whole line whole empty = omega (arith, ap length (sym whole.ends ∙ empty), length-append whole.body (10 ∷ []))
  ends_empty start text left new first wrote state offset line false g next empty =
      let rest = left_after left new g.rest line g.is_left next.1.0 in
      let nothing = at_end left new g.rest rest.after g.is_left rest.is_left next.1.1 in
      record {
        done = g.done;
        others = [];
        told = g.told;
        state = state;
        cut = g.cut ∙ ap (λ bytes. g.done ++ lines bytes) (rest.parts ∙ ap (λ l. l ++ rest.after) empty ∙ nothing) ∙ ap (λ ls. g.done ++ ls) no_lines;
        run = g.run;
        ended = (g.live, refl, g.wrote);
      }

  done_more : (text : List ℕ) (done : List (List ℕ)) (rest line : List ℕ) (others : List (List ℕ)) → lines text ≡ done ++ lines rest → lines rest ≡ line ∷ others
      → lines text ≡ (done ++ line ∷ []) ++ others
  done_more text done rest line others cut next = cut ∙ ap (λ ls. done ++ ls) next ∙ sym (append_assoc done (line ∷ []) others)

  -- the last line was done
  pub ends_last : (start : S) (text : List ℕ) (left new first wrote written : Option (List ℕ)) (state : S) (offset : ℕ) (line answer : List ℕ) (after : S)
      → IsGoing plays stops over start text left first wrote state offset → NextLine offset left new line (Ok false) → 0 < length line → plays state (content line) answer after → Appends wrote written answer
      → over after ≡ false → Replayed plays stops over start text new first written (Ok ends.AtEnd)
  ends_last start text left new first wrote written state offset [] answer after g next some played wrote_it live = absurd (omega (arith, some))
  ends_last start text left new first wrote written state offset (b ∷ bs) answer after g next some played wrote_it live =
      let rest = left_after left new g.rest (b ∷ bs) g.is_left next.1.0 in
      let nothing = at_end left new g.rest rest.after g.is_left rest.is_left next.1.1 in
      let cut = ap lines (rest.parts ∙ ap (λ l. (b ∷ bs) ++ l) nothing ∙ append-nil (b ∷ bs)) ∙ last_line b bs next.0 in
      record {
        done = g.done ++ (b ∷ bs) ∷ [];
        others = [];
        told = g.told ++ answer;
        state = after;
        cut = done_more text g.done g.rest (b ∷ bs) [] g.cut cut;
        run = plays_push start g.done g.told state (b ∷ bs) answer after g.run g.live played;
        ended = (live, refl, appends_then first wrote written g.told answer wrote_it g.wrote);
      }

  -- a line was done after which no other is
  pub ends_over : (start : S) (text : List ℕ) (left new first wrote written : Option (List ℕ)) (state : S) (offset : ℕ) (line answer : List ℕ) (after : S) (ended : Bool)
      → IsGoing plays stops over start text left first wrote state offset → NextLine offset left new line (Ok ended) → 0 < length line → plays state (content line) answer after → Appends wrote written answer
      → over after ≡ true → Replayed plays stops over start text new first written (Ok ends.Over)
  ends_over start text left new first wrote written state offset line answer after ended g next some played wrote_it is_over =
      let found = next_of offset left new g.rest line ended g.is_left next some in
      record {
        done = g.done ++ line ∷ [];
        others = found.others;
        told = g.told ++ answer;
        state = after;
        cut = done_more text g.done g.rest line found.others g.cut found.cut;
        run = plays_push start g.done g.told state line answer after g.run g.live played;
        ended = (is_over, appends_then first wrote written g.told answer wrote_it g.wrote);
      }

  -- no line was read
  pub ends_unread : (start : S) (text : List ℕ) (left new first wrote : Option (List ℕ)) (state : S) (offset : ℕ) (line : List ℕ) (e : Failure)
      → IsGoing plays stops over start text left first wrote state offset → NoLine offset left new line e → Replayed plays stops over start text new first wrote (Err e)
  ends_unread start text left new first wrote state offset line e g next =
      record { done = g.done; others = lines g.rest; told = g.told; state = state; cut = g.cut; run = g.run; ended = go e next }
    where
      go : (e : Failure) → NoLine offset left new line e → EndsAs plays stops over text new first wrote g.done (lines g.rest) g.told state (Err e)
      go Read next = (g.live, record { part = line; unended = next.0; read = read_so_far text g.done g.rest line left new g.whole g.is_left next.1 }, g.wrote)
      go (Refused NoMemory) next = (g.live, g.wrote)
      go (Refused (BadFrame f)) next =
          let past = next.1 in (
            g.live,
            inr (
              next.0,
              record {
                part = line;
                unended = past.unended;
                limit = ap (λ n. n + length line) g.count ∙ past.limit;
                byte = past.byte;
                read = read_so_far text g.done g.rest (line ++ past.byte ∷ []) left new g.whole g.is_left past.read;
              },
            ),
            g.wrote,
          )
      go _ next = absurd next

  -- it ended before these lines
  ended_before : {start : S} {text : List ℕ} {left new first wrote written : Option (List ℕ)} {state : S} {offset : ℕ} {result : Result Ended Failure}
      (g : IsGoing plays stops over start text left first wrote state offset) (others : List (List ℕ)) → lines g.rest ≡ others
      → EndsAs plays stops over text new first written g.done others g.told state result → Replayed plays stops over start text new first written result
  ended_before {state = state} g others cut ended =
      record { done = g.done; others = others; told = g.told; state = state; cut = g.cut ∙ ap (λ ls. g.done ++ ls) cut; run = g.run; ended = ended }

  -- the next line is none
  pub ends_stopped : (start : S) (text : List ℕ) (left new first wrote : Option (List ℕ)) (state : S) (offset : ℕ) (line : List ℕ) (ended : Bool)
      → IsGoing plays stops over start text left first wrote state offset → NextLine offset left new line (Ok ended) → 0 < length line → stops state (content line)
      → Replayed plays stops over start text new first wrote (Err (Refused (BadFrame (no_line offset))))
  ends_stopped start text left new first wrote state offset line ended g next some stopped =
      let found = next_of offset left new g.rest line ended g.is_left next some in
      ended_before g (line ∷ found.others) found.cut (g.live, inl (ap no_line (sym g.count), stopped), g.wrote)

  -- an allocation failed that the next line takes
  pub ends_unserved : (start : S) (text : List ℕ) (left new first wrote : Option (List ℕ)) (state : S) (offset : ℕ)
      → IsGoing plays stops over start text left first wrote state offset → Replayed plays stops over start text new first wrote (Err (Refused NoMemory))
  ends_unserved start text left new first wrote state offset g =
      ended_before g (lines g.rest) refl (g.live, g.wrote)

  -- the answer of the next line was not written
  pub ends_unwritten : (start : S) (text : List ℕ) (left new first wrote written : Option (List ℕ)) (state : S) (offset : ℕ) (line answer : List ℕ) (after : S) (ended : Bool)
      → IsGoing plays stops over start text left first wrote state offset → NextLine offset left new line (Ok ended) → 0 < length line → plays state (content line) answer after → AppendsFront wrote written answer
      → Replayed plays stops over start text new first written (Err Write)
  ends_unwritten start text left new first wrote written state offset line answer after ended g next some played front =
      let found = next_of offset left new g.rest line ended g.is_left next some in
      ended_before g (line ∷ found.others) found.cut (
        g.live,
        record {
          line = line;
          rest = found.others;
          is_next = refl;
          answer = answer;
          after = after;
          played = played;
          count = front.count;
          wrote = appends_then first wrote written g.told (take front.count answer) front.bytes g.wrote;
        },
      )

  -- a line was not done
  pub ends_undone : {T : Type 0} (start : S) (text : List ℕ) (left new first wrote : Option (List ℕ)) (state : S) (offset : ℕ) (line held : List ℕ) (ended : Bool) (f : LineFault) (e : Failure)
      → IsGoing plays stops over start text left first wrote state offset → NextLine offset left new line (Ok ended) → 0 < length line → held ≡ content line
      → (◌≡◌ {A = Result T LineFault} (Err f) (Err faults.Malformed) → stops state held)
      → (f ≡ faults.Malformed → e ≡ Refused (BadFrame (no_line offset))) → (f ≡ faults.NoMemory → e ≡ Refused NoMemory)
      → Replayed plays stops over start text new first wrote (Err e)
  ends_undone start text left new first wrote state offset line held ended faults.Malformed e g next some is stopped malformed memory =
      rw (malformed refl) (ends_stopped start text left new first wrote state offset line ended g next some (subst (stops state) is (stopped refl)))
  ends_undone start text left new first wrote state offset line held ended faults.NoMemory e g next some is stopped malformed memory =
      rw (memory refl) (ends_unserved start text left new first wrote state offset g)

  -- nothing was done yet
  pub going_start : (start : S) (known first : Option (List ℕ)) → over start ≡ false → IfSome known (λ text. IsGoing plays stops over start text known first first start 0)
  unfolding Plays
  going_start start None first live = tt
  going_start start (Some text) first live = record {
    done = [];
    rest = text;
    told = [];
    is_left = refl;
    whole = refl;
    cut = refl;
    count = refl;
    live = live;
    run = (refl, refl);
    wrote = appends_nothing first;
  }
