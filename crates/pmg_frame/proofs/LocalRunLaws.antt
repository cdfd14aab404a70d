-- What a header tells as runs is read as it was spelled, and what is spelled so is read.
use Rattle.std.proofs.Common.{◌≡◌, ℕ, zero, suc, ◌+◌, ◌-◌, ◌^◌, ◌<◌, ◌≤◌, Bool, true, not, nat_lt, nat_le, List, [], ◌∷◌, ◌++◌, length, map, Option, Some, None, Ok, IsTrue, refl, sym, ap, subst, ◌∙◌, append_assoc, arith}
use Rattle.std.specs.FinSet as set
use Rattle.std.specs.Int.{w32, w64, to_be_bytes}
use Rattle.std.specs.List.{flat_map, list_all}
use Rattle.std.specs.List.Sorted.{IsStrictlySortedBy}
use Rattle.std.specs.Option.{option_map}
use Rattle.std.specs.Ordering.{is_lt}
use Rattle.std.proofs.lemmas.Bool.{and_parts, and_from, ltb-true, leb-true, lt-ltb, le-leb}
use Rattle.std.proofs.lemmas.List.{length-append, length-map}
use Rattle.pmg_value.specs.Lists.{In, Each}
use Rattle.pmg_value.specs.Names.{is_nspace, is_reserved}
use Rattle.pmg_value.specs.Process.{proc_cmp}
use Rattle.pmg_value.specs.Signatures.{FenceName}
use Rattle.pmg_value.specs.declared.process.Proc.{Proc}
use Rattle.pmg_value.specs.declared.refusal.Cause.TheVariants as causes
use Rattle.pmg_value.proofs.ProcessOrder.{procs_total}
use Rattle.pmg_value.proofs.SetOrder.{any_in_order, in_order_rises}
use Rattle.pmg_wire.specs.declared.fields.Admits.TheVariants as admits
use Rattle.pmg_wire.specs.Fields.{read_flag}
use Rattle.pmg_wire.specs.Many.{Chain}
use Rattle.pmg_wire.specs.Reading.{Place, Read, fault, ◌>>=◌, check, number_at, IsBytes, Takes}
use Rattle.pmg_wire.specs.Spelling.{proc_spelling}
use Rattle.pmg_wire.proofs.FieldLaws.{proc_if, proc_again}
use Rattle.pmg_wire.proofs.PlainLaws.{flag_if, flag_again}
use Rattle.pmg_wire.proofs.Steps.{place, IfRead, bind_if, check_if, done_if, Takes-then, IsBytes-after, wide32, number_if, number_again}
use Rattle.pmg_frame.specs.FenceReading.{is_greater, read_level}
use Rattle.pmg_frame.specs.Fences.{participants_of, is_level, is_gone, state_of, state_of-is_gone, Header}
use Rattle.pmg_frame.specs.Grammar.{IsClient, FollowsLocal, IsHeader}
use Rattle.pmg_frame.specs.Runs.{proc_ranks, local_ranks, RankRun, next_rank, line, items_of, runs_of}
use Rattle.pmg_frame.specs.RunReading.{repeated, last_or, is_new, ranks_to, is_last, is_run_count, read_local_part, read_local_run, read_local_runs, read_short_name, read_short_header}
use Rattle.pmg_frame.specs.RunSpelling.{short_name, local_run_spelling, local_runs_spelling, short_header}
use Rattle.pmg_frame.specs.Spelling.{flag_spelling}
use Rattle.pmg_frame.specs.declared.local.Local.{Local}
use Rattle.pmg_frame.proofs.Among.{in_if, less_at, no_more}
use Rattle.pmg_frame.proofs.FenceLaws.{less_is, below_more, regroup_3, length_3, regroup_4, length_4}
use Rattle.pmg_frame.proofs.HeaderLaws.{is_gone-state_of, node_if, node_again, level_if, level_again}
use Rattle.pmg_frame.proofs.RunLaws.{short_name_if, short_name_again}
use Rattle.pmg_frame.proofs.RunRules.{local_ranked}
use Rattle.pmg_frame.proofs.RunSteps.{Adds, AddAll, TakesRun, if_weaker, items_if, items_again, adds_of, chain_of_runs, few_runs, some_runs}
use Rattle.pmg_frame.proofs.Taken.{TakesBody}

-- ---- a run of participants

-- the process is a participant
abbrev pub is_member : FenceName → Proc → Bool
is_member name = set.contains name.signature.participants

-- What a header tells of a run of participants of that fence: the first is greater than the one before, and its level is one.
pub record IsLocalRun (name : FenceName) (before : Option Local) (r : RankRun Local) : Type 0 where
  pub is : IsClient r.first.proc
  pub order : IsTrue (is_greater (option_map (λ b. b.proc) before) r.first.proc)
  pub last : r.last ≤ 4095
  pub members : IsTrue (list_all (is_member name) (line proc_ranks (ranks_to r.last r.first.proc) r.first.proc))
  pub level : IsTrue (is_level r.first.level)

-- and so each of them follows the one before
local_line : (name : FenceName) (n : ℕ) (before : Option Local) (l : Local) → IsTrue (is_nspace l.proc.nspace) → IsTrue (not (is_reserved l.proc.nspace)) → l.proc.rank + n ≤ 4096
    → IsTrue (is_greater (option_map (λ b. b.proc) before) l.proc) → IsTrue (list_all (is_member name) (line proc_ranks n l.proc)) → IsTrue (is_level l.level)
    → Chain (FollowsLocal name) before (line local_ranks n l)
unfolding line
local_line name zero before l named free small order members level = tt
local_line name (suc n) before l named free small order members level =
    let parts = and_parts (is_member name l.proc) (list_all (is_member name) (line proc_ranks n (next_rank proc_ranks l.proc))) members in
    let rank : l.proc.rank ≤ 4095 = omega (arith, small) in
    let client = and_from (not (is_reserved l.proc.nspace)) (nat_le l.proc.rank 4095) free (le-leb _ _ rank) in
    let greater : IsTrue (is_greater (Some l.proc) (next_rank proc_ranks l.proc)) = ap is_lt (less_at l.proc l.proc.rank (suc l.proc.rank) (omega arith)) in (
      record { is = record { name = named; client = client }; order = order; member = parts.0; level = level },
      local_line name n (Some l) (next_rank local_ranks l) named free (omega (arith, small)) greater parts.1 level,
    )

-- participants of a run that each follow the one before
record AreInLine (name : FenceName) (n : ℕ) (l : Local) : Type 0 where
  rank : l.proc.rank + n ≤ 4095
  members : IsTrue (list_all (is_member name) (line proc_ranks (suc n) l.proc))

in_line : (name : FenceName) (n : ℕ) (before : Option Local) (l : Local) → Chain (FollowsLocal name) before (line local_ranks (suc n) l) → AreInLine name n l
unfolding line
in_line name zero before l chain =
    let rank = leb-true l.proc.rank 4095 (and_parts (not (is_reserved l.proc.nspace)) (nat_le l.proc.rank 4095) chain.0.is.client).1 in
    record { rank = omega (arith, rank); members = and_from (is_member name l.proc) true chain.0.member refl }
in_line name (suc n) before l chain =
    let others = in_line name n (Some l) (next_rank local_ranks l) chain.1 in
    record { rank = omega (arith, others.rank); members = and_from (is_member name l.proc) (list_all (is_member name) (line proc_ranks (suc n) (next_rank proc_ranks l.proc))) chain.0.member others.members }

-- a run and its items are told alike
run_chain : (name : FenceName) (before : Option Local) (r : RankRun Local) → r.first.proc.rank ≤ r.last → IsLocalRun name before r → Chain (FollowsLocal name) before (items_of local_ranks r)
run_chain name before r le is =
    let parts = and_parts (not (is_reserved r.first.proc.nspace)) (nat_le r.first.proc.rank 4095) is.is.client in
    local_line name (suc r.last - r.first.proc.rank) before r.first is.is.name parts.0 (omega (arith, le, is.last)) is.order is.members is.level

chain_run : (name : FenceName) (before : Option Local) (r : RankRun Local) → r.first.proc.rank ≤ r.last → Chain (FollowsLocal name) before (items_of local_ranks r) → IsLocalRun name before r
unfolding line
chain_run name before r le chain =
    let n = r.last - r.first.proc.rank in
    let many : suc r.last - r.first.proc.rank ≡ suc n = omega (arith, le) in
    let lined : Chain (FollowsLocal name) before (line local_ranks (suc n) r.first) = subst (λ (m : ℕ). Chain (FollowsLocal name) before (line local_ranks m r.first)) many chain in
    let are = in_line name n before r.first lined in
    record {
      is = lined.0.is;
      order = lined.0.order;
      last = omega (arith, le, are.rank);
      members = subst (λ (m : ℕ). IsTrue (list_all (is_member name) (line proc_ranks m r.first.proc))) (sym many) are.members;
      level = lined.0.level;
    }

-- ---- a run of participants, both ways

-- what a run took
record TakesLocalPart (name : FenceName) (before : Option Local) (at : Place) (r : RankRun Local) (after : Place) : Type 0 where
  takes : Takes at (local_run_spelling r) after
  some : r.first.proc.rank ≤ r.last
  new : IsTrue (is_new local_ranks before r.first)
  is : IsLocalRun name before r

abbrev local_of : Proc → Bool → ℕ → Local
local_of p gone level = record { proc = p; state = state_of gone; level = level }

abbrev local_run : Proc → ℕ → Bool → ℕ → RankRun Local
local_run p last gone level = record { first = local_of p gone level; last = last }

part_if : (name : FenceName) (before : Option Local) (at : Place) → IsBytes at.rest → IfRead (read_local_part name before at) (TakesLocalPart name before at)
unfolding read_local_part
part_if name before at fits =
    let behind : Proc → Bool = is_greater (option_map (λ (b : Local). b.proc) before) in
    let among : Proc → ℕ → Bool = λ p last. list_all (is_member name) (line proc_ranks (ranks_to last p) p) in
    let made : Proc → ℕ → Bool → ℕ × Place → Read (RankRun Local) = λ p last gone level.
    check (is_new local_ranks before (local_of p gone level.0)) (fault at.offset causes.Order) >>= λ _. Ok (local_run p last gone level.0, level.1) in
    let flagged : Proc → ℕ → Bool × Place → Read (RankRun Local) = λ p last gone. read_level gone.1 >>= made p last gone.0 in
    let told : Proc → ℕ × Place → Read (RankRun Local) = λ p last. read_flag last.1 >>= flagged p last.0 in
    let member : Proc → ℕ × Place → Read (RankRun Local) = λ p last. check (among p last.0) (fault at.offset causes.Member) >>= λ _. told p last in
    let ended : Proc → Place → ℕ × Place → Read (RankRun Local) = λ p at_last last. check (is_last p last.0) (fault at_last.offset causes.Rank) >>= λ _. member p last in
    let ranked : Proc × Place → Read (RankRun Local) = λ p. number_at w32 p.1 >>= ended p.0 p.1 in
    bind_if (λ p. check (behind p.0) (fault at.offset causes.Order) >>= λ _. ranked p) (proc_if admits.Clients at fits) (λ p a t.
    let a_fits : IsBytes a.rest = IsBytes-after (proc_spelling p) fits t.takes in
    check_if (behind p) (fault at.offset causes.Order) (λ _. ranked (p, a)) (λ order.
    bind_if (ended p a) (number_if w32 (2 ^ 32) wide32 a a_fits) (λ last b n.
    let b_fits : IsBytes b.rest = IsBytes-after (to_be_bytes w32 last) a_fits n.takes in
    check_if (is_last p last) (fault a.offset causes.Rank) (λ _. member p (last, b)) (λ is_end.
    let range = and_parts (nat_le p.rank last) (nat_le last 4095) is_end in
    check_if (among p last) (fault at.offset causes.Member) (λ _. told p (last, b)) (λ are_members.
    bind_if (flagged p last) (flag_if b) (λ gone d f.
    let d_fits : IsBytes d.rest = IsBytes-after (flag_spelling gone) b_fits f in
    bind_if (made p last gone) (level_if d d_fits) (λ level after l.
    check_if (is_new local_ranks before (local_of p gone level)) (fault at.offset causes.Order) (λ _. Ok (local_run p last gone level, after)) (λ is_other.
    let tail = Takes-then (flag_spelling gone) (to_be_bytes w64 level) f l.takes in
    let behind_proc = Takes-then (to_be_bytes w32 last) (flag_spelling gone ++ to_be_bytes w64 level) n.takes tail in
    done_if (record {
      takes = rw (is_gone-state_of gone) (Takes-then (proc_spelling p) (to_be_bytes w32 last ++ (flag_spelling gone ++ to_be_bytes w64 level)) t.takes behind_proc);
      some = leb-true p.rank last range.0;
      new = is_other;
      is = record { is = record { name = t.name; client = t.admitted }; order = order; last = leb-true last 4095 range.1; members = are_members; level = l.is };
    })))))))))

part_again : (name : FenceName) (before : Option Local) (o : ℕ) (r : RankRun Local) (rest : List ℕ) → r.first.proc.rank ≤ r.last → IsTrue (is_new local_ranks before r.first) → IsLocalRun name before r
    → read_local_part name before (place o (local_run_spelling r ++ rest)) ≡ Ok (r, place (o + length (local_run_spelling r)) rest)
unfolding read_local_part
part_again name before o r rest le is_other is =
    let p = r.first.proc in
    let proc_text = proc_spelling p in
    let last_text = to_be_bytes w32 r.last in
    let flag_text = flag_spelling (is_gone r.first.state) in
    let level_text = to_be_bytes w64 r.first.level in
    let regrouped = regroup_4 proc_text last_text flag_text level_text rest in
    let t = proc_again admits.Clients o p (last_text ++ (flag_text ++ (level_text ++ rest))) is.is.name is.is.client in
    let order = is.order in
    let small : r.last < 2 ^ 32 = let bound = is.last in omega (arith, bound) in
    let n = number_again w32 (2 ^ 32) wide32 (o + length proc_text) r.last (flag_text ++ (level_text ++ rest)) small in
    let ended : IsTrue (is_last p r.last) = and_from (nat_le p.rank r.last) (nat_le r.last 4095) (le-leb _ _ le) (le-leb _ _ is.last) in
    let members = is.members in
    let f = flag_again (o + length proc_text + 4) (is_gone r.first.state) (level_text ++ rest) in
    let l = level_again (o + length proc_text + 4 + 1) r.first.level rest is.level in
    let state = state_of-is_gone r.first.state in
    let end : o + length proc_text + 4 + 1 + 8 ≡ o + length (local_run_spelling r) = omega (arith, length_4 proc_text last_text flag_text level_text) in
    ap (λ (text : List ℕ). read_local_part name before (place o text)) regrouped
    ∙ rw (t, order, n, ended, members, f, l, state, is_other) (ap (λ (x : ℕ). Ok (r, place x rest)) end)

run_if : (name : FenceName) (before : List Local) (at : Place) → IsBytes at.rest
    → IfRead (read_local_run name before at) (TakesRun local_ranks local_run_spelling (λ ls. IsLocalRun name (last_or None ls)) before at)
unfolding read_local_run
run_if name before at fits =
    bind_if (λ run. Ok (before ++ items_of local_ranks run.0, run.1)) (part_if name (last_or None before) at fits) (λ r after t.
    done_if (record { run = r; items = refl; takes = t.takes; adds = record { some = t.some; new = t.new; more = t.is } }))

run_again : (name : FenceName) (before : List Local) (o : ℕ) (r : RankRun Local) (rest : List ℕ) → Adds local_ranks (λ ls. IsLocalRun name (last_or None ls)) before r
    → read_local_run name before (place o (local_run_spelling r ++ rest)) ≡ Ok (before ++ items_of local_ranks r, place (o + length (local_run_spelling r)) rest)
unfolding read_local_run
run_again name before o r rest adds = rw (part_again name (last_or None before) o r rest adds.some adds.new adds.more) refl

-- ---- what is told of all participants, both ways

-- what the runs took
pub record TakesLocals (name : FenceName) (at : Place) (ls : List Local) (after : Place) : Type 0 where
  pub takes : Takes at (local_runs_spelling ls) after
  pub some : 1 ≤ length ls
  pub chain : Chain (FollowsLocal name) None ls

pub local_runs_if : (name : FenceName) (at : Place) → IsBytes at.rest → IfRead (read_local_runs name at) (TakesLocals name at)
unfolding read_local_runs
local_runs_if name at fits =
    let More : List Local → RankRun Local → Type 0 = λ ls. IsLocalRun name (last_or None ls) in
    let listed : ℕ × Place → Read (List Local) = λ count. repeated (read_local_run name) count.0 [] count.1 in
    bind_if (λ count. check (is_run_count count.0) (fault at.offset causes.Count) >>= λ _. listed count) (number_if w32 (2 ^ 32) wide32 at fits) (λ count a k.
    let a_fits : IsBytes a.rest = IsBytes-after (to_be_bytes w32 count) fits k.takes in
    check_if (is_run_count count) (fault at.offset causes.Count) (λ _. listed (count, a)) (λ range.
    let some = ltb-true 0 count (and_parts (nat_lt 0 count) (nat_le count 4096) range).0 in
    if_weaker (items_if local_ranks local_ranked local_run_spelling More (read_local_run name) (run_if name) count a a_fits) (λ ls after t.
    record {
      takes = rw t.len (Takes-then (to_be_bytes w32 count) (flat_map local_run_spelling (runs_of local_ranks ls)) k.takes t.takes);
      some = omega (arith, some, t.len, few_runs local_ranks ls);
      chain = chain_of_runs local_ranks local_ranked More (FollowsLocal name) (λ before r adds. run_chain name (last_or None before) r adds.some adds.more) ls t.adds;
    })))

pub local_runs_again : (name : FenceName) (o : ℕ) (ls : List Local) (rest : List ℕ) → 1 ≤ length ls → length ls ≤ 4096 → Chain (FollowsLocal name) None ls
    → read_local_runs name (place o (local_runs_spelling ls ++ rest)) ≡ Ok (ls, place (o + length (local_runs_spelling ls)) rest)
unfolding read_local_runs
local_runs_again name o ls rest some few chain =
    let More : List Local → RankRun Local → Type 0 = λ before. IsLocalRun name (last_or None before) in
    let runs = runs_of local_ranks ls in
    let count = length runs in
    let count_text = to_be_bytes w32 count in
    let text = flat_map local_run_spelling runs in
    let fewer = few_runs local_ranks ls in
    let k = number_again w32 (2 ^ 32) wide32 o count (text ++ rest) (omega (arith, fewer, few)) in
    let range : IsTrue (is_run_count count) = and_from (nat_lt 0 count) (nat_le count 4096) (lt-ltb _ _ (some_runs local_ranks ls some)) (le-leb _ _ (omega (arith, fewer, few))) in
    let all : AddAll local_ranks More [] runs = adds_of local_ranks local_ranked More (FollowsLocal name) 4096 (λ before r le behind _. chain_run name (last_or None before) r le behind) ls chain few in
    let m = items_again local_ranks local_ranked local_run_spelling More (read_local_run name) (run_again name) (o + 4) ls rest all in
    let end : o + 4 + length text ≡ o + length (count_text ++ text) = omega (arith, length-append count_text text) in
    ap (λ (t : List ℕ). read_local_runs name (place o t)) (append_assoc count_text text rest)
    ∙ rw (k, range, m) (ap (λ (x : ℕ). Ok (ls, place x rest)) end)

-- ---- they are no more than the participants

below_chain : (name : FenceName) (l : Local) (ls : List Local) → Chain (FollowsLocal name) (Some l) ls → IsStrictlySortedBy proc_cmp (map (λ k. k.proc) (l ∷ ls))
unfolding IsStrictlySortedBy
below_chain name l [] chain = (tt, tt)
below_chain name l (k ∷ ks) chain =
    let behind = below_chain name k ks chain.1 in
    let less = less_is (proc_cmp l.proc k.proc) chain.0.order in
    ((less, below_more l.proc k.proc (map (λ j. j.proc) ks) less behind.0), behind)

told_rise : (name : FenceName) (ls : List Local) → Chain (FollowsLocal name) None ls → IsStrictlySortedBy proc_cmp (map (λ l. l.proc) ls)
unfolding IsStrictlySortedBy
told_rise name [] chain = tt
told_rise name (l ∷ ls) chain = below_chain name l ls chain.1

told_among : (name : FenceName) (before : Option Local) (ls : List Local) → Chain (FollowsLocal name) before ls → Each (λ p. In p (participants_of name)) (map (λ l. l.proc) ls)
told_among name before [] chain = tt
told_among name before (l ∷ ls) chain =
    (in_if l.proc (participants_of name) (any_in_order procs_total name.signature.participants l.proc ∙ chain.0.member), told_among name (Some l) ls chain.1)

pub within : (name : FenceName) (ls : List Local) → Chain (FollowsLocal name) None ls → length ls ≤ length (participants_of name)
within name ls chain =
    let fewer = no_more (map (λ l. l.proc) ls) (participants_of name) (told_rise name ls chain) (in_order_rises name.signature.participants) (told_among name None ls chain) in
    omega (arith, fewer, length-map ls (λ (l : Local). l.proc))

-- ---- headers

pub short_header_if : (at : Place) → IsBytes at.rest → IfRead (read_short_header at) (λ h. TakesBody at (short_header h) (IsHeader h))
unfolding read_short_header
short_header_if at fits =
    let made : ℕ → FenceName → List Local × Place → Read Header = λ node name locals. Ok (record { node = node; name = name; locals = locals.0 }, locals.1) in
    let named : ℕ → FenceName × Place → Read Header = λ node name. read_local_runs name.0 name.1 >>= made node name.0 in
    bind_if (λ node. read_short_name node.1 >>= named node.0) (node_if at fits) (λ node a n.
    let a_fits : IsBytes a.rest = IsBytes-after (to_be_bytes w32 node) fits n.takes in
    bind_if (named node) (short_name_if a a_fits) (λ name b t.
    let b_fits : IsBytes b.rest = IsBytes-after (short_name name) a_fits t.takes in
    bind_if (made node name) (local_runs_if name b b_fits) (λ locals after m.
    let tail = Takes-then (short_name name) (local_runs_spelling locals) t.takes m.takes in
    done_if (record {
      takes = Takes-then (to_be_bytes w32 node) (short_name name ++ local_runs_spelling locals) n.takes tail;
      is = record { node = n.bound; name = t.is; some = m.some; few = within name locals m.chain; locals = m.chain };
    }))))

pub short_header_again : (o : ℕ) (h : Header) (rest : List ℕ) → IsHeader h → read_short_header (place o (short_header h ++ rest)) ≡ Ok (h, place (o + length (short_header h)) rest)
unfolding read_short_header
short_header_again o h rest is =
    let node_text = to_be_bytes w32 h.node in
    let name_text = short_name h.name in
    let locals_text = local_runs_spelling h.locals in
    let n = node_again o h.node (name_text ++ (locals_text ++ rest)) is.node in
    let t = short_name_again (o + 4) h.name (locals_text ++ rest) is.name in
    let few : length h.locals ≤ 4096 = omega (arith, is.few, is.name.few) in
    let m = local_runs_again h.name (o + 4 + length name_text) h.locals rest is.some few is.locals in
    let end : o + 4 + length name_text + length locals_text ≡ o + length (short_header h) = omega (arith, length_3 node_text name_text locals_text) in
    ap (λ (text : List ℕ). read_short_header (place o text)) (regroup_3 node_text name_text locals_text rest)
    ∙ rw (n, t, m) (ap (λ (x : ℕ). Ok (h, place x rest)) end)
