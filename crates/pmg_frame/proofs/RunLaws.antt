-- A fence's name with its participants as runs: what is read was spelled so, and what is spelled so is read.
use Rattle.std.proofs.Common.{◌≡◌, ℕ, zero, suc, ◌+◌, ◌-◌, ◌^◌, ◌≤◌, Bool, true, ◌&&◌, not, nat_lt, nat_le, List, [], ◌∷◌, ◌++◌, length, Option, Some, None, Ok, IsTrue, refl, sym, ap, subst, ◌∙◌, append_assoc, arith}
use Rattle.std.specs.Cmp.{nat_cmp_is}
use Rattle.std.specs.Cmp.Lexicographic.{nat_list_cmp_total}
use Rattle.std.specs.Int.{w32, to_be_bytes}
use Rattle.std.specs.List.{flat_map}
use Rattle.std.specs.Ordering.{is_lt, nat_cmp}
use Rattle.std.specs.declared.cmp.Ordering.TheVariants.{Less}
use Rattle.std.proofs.lemmas.Bool.{and_parts, and_from, ltb-true, leb-true, lt-ltb, le-leb}
use Rattle.std.proofs.lemmas.Cmp.{tied_itself}
use Rattle.std.proofs.lemmas.List.{append-nil, length-append}
use Rattle.pmg_value.specs.Names.{is_reserved}
use Rattle.pmg_value.specs.Process.{proc_cmp}
use Rattle.pmg_value.specs.Signatures.{FenceName}
use Rattle.pmg_value.specs.declared.process.Proc.{Proc}
use Rattle.pmg_value.specs.declared.refusal.Cause.TheVariants as causes
use Rattle.pmg_wire.specs.declared.fields.Admits.TheVariants as admits
use Rattle.pmg_wire.specs.Many.{Chain}
use Rattle.pmg_wire.specs.Reading.{Place, Read, fault, ◌>>=◌, check, number_at, IsBytes, Takes}
use Rattle.pmg_wire.specs.Spelling.{proc_spelling}
use Rattle.pmg_wire.proofs.FieldLaws.{proc_if, proc_again}
use Rattle.pmg_wire.proofs.Steps.{place, IfRead, bind_if, check_if, done_if, Takes-then, IsBytes-after, wide32, number_if, number_again}
use Rattle.pmg_frame.specs.Fences.{FenceAsk}
use Rattle.pmg_frame.specs.FenceReading.{is_greater}
use Rattle.pmg_frame.specs.Grammar.{IsClient, IsName, IsFenceAsk}
use Rattle.pmg_frame.specs.RunReading.{repeated, last_or, is_new, ranks_to, is_last, read_part, read_run, is_run_count, read_runs, read_short_name, read_short_ask}
use Rattle.pmg_frame.specs.Runs.{proc_ranks, RankRun, next_rank, line, items_of, runs_of}
use Rattle.pmg_frame.specs.RunSpelling.{run_spelling, runs_spelling, short_name, short_fence_ask}
use Rattle.pmg_frame.proofs.FenceLaws.{FollowsProc, ReadsParts, ReadsPartsAgain, TakesName, name_by_if, name_by_again}
use Rattle.pmg_frame.proofs.HeaderLaws.{ask_by_if, ask_by_again}
use Rattle.pmg_frame.proofs.RunRules.{proc_ranked, items_of-line, length-items_of, runs_of-are}
use Rattle.pmg_frame.proofs.RunSteps.{Adds, AddAll, TakesRun, if_weaker, items_if, items_again, adds_of, chain_of_runs, few_runs, some_runs}
use Rattle.pmg_frame.proofs.Taken.{TakesBody}

-- ---- a run of participants

-- what a run of participants keeps to, behind the participants before it
pub record IsPart (before : List Proc) (r : RankRun Proc) : Type 0 where
  pub is : IsClient r.first
  pub order : IsTrue (is_greater (last_or None before) r.first)
  pub last : r.last ≤ 4095
  pub count : length before + ranks_to r.last r.first ≤ 4096

-- what a run of participants took
pub record TakesPart (before : Option Proc) (so_many : ℕ) (at : Place) (r : RankRun Proc) (after : Place) : Type 0 where
  pub takes : Takes at (run_spelling r) after
  pub is : IsClient r.first
  pub order : IsTrue (is_greater before r.first)
  pub new : IsTrue (is_new proc_ranks before r.first)
  pub some : r.first.rank ≤ r.last
  pub last : r.last ≤ 4095
  pub count : so_many + ranks_to r.last r.first ≤ 4096

part_if : (before : Option Proc) (count : ℕ) (at : Place) → IsBytes at.rest → IfRead (read_part before count at) (TakesPart before count at)
unfolding read_part
part_if before count at fits =
    let made : Proc → ℕ × Place → Read (RankRun Proc) = λ p last. Ok (record { first = p; last = last.0 }, last.1) in
    let counted : Proc → Place → ℕ × Place → Read (RankRun Proc) = λ p a last. check (nat_le (count + ranks_to last.0 p) 4096) (fault a.offset causes.Count) >>= λ _. made p last in
    let ranked : Proc → Place → ℕ × Place → Read (RankRun Proc) = λ p a last. check (is_last p last.0) (fault a.offset causes.Rank) >>= λ _. counted p a last in
    let ended : Proc × Place → Read (RankRun Proc) = λ p. number_at w32 p.1 >>= ranked p.0 p.1 in
    let is_next : Proc → Bool = λ p. is_greater before p && is_new proc_ranks before p in
    bind_if (λ p. check (is_next p.0) (fault at.offset causes.Order) >>= λ _. ended p) (proc_if admits.Clients at fits) (λ p a t.
    let a_fits : IsBytes a.rest = IsBytes-after (proc_spelling p) fits t.takes in
    check_if (is_next p) (fault at.offset causes.Order) (λ _. ended (p, a)) (λ order.
    bind_if (ranked p a) (number_if w32 (2 ^ 32) wide32 a a_fits) (λ last b n.
    check_if (is_last p last) (fault a.offset causes.Rank) (λ _. counted p a (last, b)) (λ ranks.
    check_if (nat_le (count + ranks_to last p) 4096) (fault a.offset causes.Count) (λ _. made p (last, b)) (λ few.
    let orders = and_parts (is_greater before p) (is_new proc_ranks before p) order in
    let bounds = and_parts (nat_le p.rank last) (nat_le last 4095) ranks in
    done_if (record {
      takes = Takes-then (proc_spelling p) (to_be_bytes w32 last) t.takes n.takes;
      is = record { name = t.name; client = t.admitted };
      order = orders.0;
      new = orders.1;
      some = leb-true p.rank last bounds.0;
      last = leb-true last 4095 bounds.1;
      count = leb-true (count + ranks_to last p) 4096 few;
    }))))))

run_if : (before : List Proc) (at : Place) → IsBytes at.rest → IfRead (read_run before at) (TakesRun proc_ranks run_spelling IsPart before at)
unfolding read_run
run_if before at fits =
    bind_if (λ r. Ok (before ++ items_of proc_ranks r.0, r.1)) (part_if (last_or None before) (length before) at fits) (λ r after t.
    done_if (record {
      run = r;
      items = refl;
      takes = t.takes;
      adds = record { some = t.some; new = t.new; more = record { is = t.is; order = t.order; last = t.last; count = t.count } };
    }))

run_again : (before : List Proc) (o : ℕ) (r : RankRun Proc) (rest : List ℕ) → Adds proc_ranks IsPart before r
    → read_run before (place o (run_spelling r ++ rest)) ≡ Ok (before ++ items_of proc_ranks r, place (o + length (run_spelling r)) rest)
unfolding read_run read_part
run_again before o r rest adds =
    let more = adds.more in
    let proc_text = proc_spelling r.first in
    let last_text = to_be_bytes w32 r.last in
    let p = proc_again admits.Clients o r.first (last_text ++ rest) more.is.name more.is.client in
    let order : (is_greater (last_or None before) r.first && is_new proc_ranks (last_or None before) r.first) ≡ true = and_from _ _ more.order adds.new in
    let n = number_again w32 (2 ^ 32) wide32 (o + length proc_text) r.last rest (omega (arith, more.last)) in
    let ranks : is_last r.first r.last ≡ true = and_from _ _ (le-leb r.first.rank r.last adds.some) (le-leb r.last 4095 more.last) in
    let few : nat_le (length before + ranks_to r.last r.first) 4096 ≡ true = le-leb _ 4096 more.count in
    let end : o + length proc_text + 4 ≡ o + length (run_spelling r) = omega (arith, length-append proc_text last_text) in
    ap (λ (text : List ℕ). read_run before (place o text)) (append_assoc proc_text last_text rest)
    ∙ rw (p, order, n, ranks, few) (ap (λ (x : ℕ). Ok (before ++ items_of proc_ranks r, place x rest)) end)

-- ---- the participants of a run

-- a process that differs from such a one in the rank alone
pub client_at : (p : Proc) (n : ℕ) → IsClient p → n ≤ 4095 → IsClient (proc_ranks.at p n)
client_at p n is le = record { name = is.name; client = and_from (not (is_reserved p.nspace)) (nat_le n 4095) (and_parts (not (is_reserved p.nspace)) (nat_le p.rank 4095) is.client).0 (le-leb n 4095 le) }

pub client_rank : (p : Proc) → IsClient p → p.rank ≤ 4095
client_rank p is = leb-true p.rank 4095 (and_parts (not (is_reserved p.nspace)) (nat_le p.rank 4095) is.client).1

-- of two processes of a namespace the one of the next rank is greater
pub next_greater : (p : Proc) → IsTrue (is_lt (proc_cmp p (next_rank proc_ranks p)))
next_greater p =
    let same = tied_itself nat_list_cmp_total p.nspace in
    let less : Less ≡ nat_cmp p.rank (suc p.rank) = nat_cmp_is p.rank (suc p.rank) Less (omega arith) in
    rw (same, ← less) refl

pub line_chain : (n : ℕ) (before : Option Proc) (p : Proc) → FollowsProc before p → p.rank + n ≤ 4095 → Chain FollowsProc before (line proc_ranks (suc n) p)
unfolding line
line_chain zero before p f le = (f, tt)
line_chain (suc n) before p f le = (f, line_chain n (Some p) (next_rank proc_ranks p) (record { is = client_at p (suc p.rank) f.is (omega arith); order = next_greater p }) (omega arith))

pub line_last : (n : ℕ) (before : Option Proc) (p : Proc) → Chain FollowsProc before (line proc_ranks (suc n) p) → p.rank + n ≤ 4095
unfolding line
line_last zero before p chain = omega (arith, client_rank p chain.0.is)
line_last (suc n) before p chain = omega (arith, line_last n (Some p) (next_rank proc_ranks p) chain.1)

part_chain : (before : List Proc) (r : RankRun Proc) → Adds proc_ranks IsPart before r → Chain FollowsProc (last_or None before) (items_of proc_ranks r)
part_chain before r adds =
    let start : FollowsProc (last_or None before) r.first = record { is = adds.more.is; order = adds.more.order } in
    subst (Chain FollowsProc (last_or None before)) (sym (items_of-line proc_ranks r adds.some))
    (line_chain (r.last - r.first.rank) (last_or None before) r.first start (omega (arith, adds.some, adds.more.last)))

chain_part : (before : List Proc) (r : RankRun Proc) → r.first.rank ≤ r.last → Chain FollowsProc (last_or None before) (items_of proc_ranks r)
    → length before + length (items_of proc_ranks r) ≤ 4096 → IsPart before r
unfolding line
chain_part before r le chain few =
    let lined = subst (Chain FollowsProc (last_or None before)) (items_of-line proc_ranks r le) chain in
    let last = line_last (r.last - r.first.rank) (last_or None before) r.first lined in
    record {
      is = lined.0.is;
      order = lined.0.order;
      last = omega (arith, last, le);
      count = rw (← length-items_of proc_ranks r) few;
    }

-- ---- participants

adds_few : (before : List Proc) (rs : List (RankRun Proc)) → length before ≤ 4096 → AddAll proc_ranks IsPart before rs → length (before ++ flat_map (items_of proc_ranks) rs) ≤ 4096
adds_few before [] le all = rw (append-nil before) le
adds_few before (r ∷ rs) le all =
    let xs = items_of proc_ranks r in
    let ys = flat_map (items_of proc_ranks) rs in
    let here : length (before ++ xs) ≤ 4096 = omega (arith, length-append before xs, length-items_of proc_ranks r, all.0.more.count) in
    rw (← append_assoc before xs ys) (adds_few (before ++ xs) rs here all.1)

pub runs_if : ReadsParts read_runs runs_spelling
unfolding read_runs
runs_if at fits =
    let listed : ℕ × Place → Read (List Proc) = λ count. repeated read_run count.0 [] count.1 in
    bind_if (λ count. check (is_run_count count.0) (fault at.offset causes.Count) >>= λ _. listed count) (number_if w32 (2 ^ 32) wide32 at fits) (λ count a k.
    check_if (is_run_count count) (fault at.offset causes.Count) (λ _. listed (count, a)) (λ range.
    if_weaker (items_if proc_ranks proc_ranked run_spelling IsPart read_run run_if count a (IsBytes-after (to_be_bytes w32 count) fits k.takes)) (λ ps after m.
    let first = ltb-true 0 count (and_parts (nat_lt 0 count) (nat_le count 4096) range).0 in
    let all = adds_few [] (runs_of proc_ranks ps) (omega arith) m.adds in
    record {
      takes = rw m.len (Takes-then (to_be_bytes w32 count) (flat_map run_spelling (runs_of proc_ranks ps)) k.takes m.takes);
      some = omega (arith, first, m.len, few_runs proc_ranks ps);
      few = rw (runs_of-are proc_ranks proc_ranked ps).items at all;
      chain = chain_of_runs proc_ranks proc_ranked IsPart FollowsProc part_chain ps m.adds;
    })))

pub runs_again : ReadsPartsAgain read_runs runs_spelling
unfolding read_runs
runs_again o ps rest some few chain =
    let rs = runs_of proc_ranks ps in
    let count_text = to_be_bytes w32 (length rs) in
    let list_text = flat_map run_spelling rs in
    let less = few_runs proc_ranks ps in
    let k = number_again w32 (2 ^ 32) wide32 o (length rs) (list_text ++ rest) (omega (arith, less, few)) in
    let range : is_run_count (length rs) ≡ true = and_from _ _ (lt-ltb 0 (length rs) (some_runs proc_ranks ps some)) (le-leb (length rs) 4096 (omega (arith, less, few))) in
    let all = adds_of proc_ranks proc_ranked IsPart FollowsProc 4096 chain_part ps chain few in
    let m = items_again proc_ranks proc_ranked run_spelling IsPart read_run run_again (o + 4) ps rest all in
    let end : o + 4 + length list_text ≡ o + length (runs_spelling ps) = omega (arith, length-append count_text list_text) in
    ap (λ (text : List ℕ). read_runs (place o text)) (append_assoc count_text list_text rest)
    ∙ rw (k, range, m) (ap (λ (x : ℕ). Ok (ps, place x rest)) end)

-- ---- names and asks

pub short_name_if : (at : Place) → IsBytes at.rest → IfRead (read_short_name at) (TakesName runs_spelling at)
short_name_if = name_by_if read_runs runs_spelling runs_if

pub short_name_again : (o : ℕ) (name : FenceName) (rest : List ℕ) → IsName name → read_short_name (place o (short_name name ++ rest)) ≡ Ok (name, place (o + length (short_name name)) rest)
short_name_again = name_by_again read_runs runs_spelling runs_again

pub short_ask_if : (at : Place) → IsBytes at.rest → IfRead (read_short_ask at) (λ a. TakesBody at (short_fence_ask a) (IsFenceAsk a))
short_ask_if = ask_by_if read_runs runs_spelling runs_if

pub short_ask_again : (o : ℕ) (a : FenceAsk) (rest : List ℕ) → IsFenceAsk a → read_short_ask (place o (short_fence_ask a ++ rest)) ≡ Ok (a, place (o + length (short_fence_ask a)) rest)
short_ask_again = ask_by_again read_runs runs_spelling runs_again
