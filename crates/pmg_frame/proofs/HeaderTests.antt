-- What passes the test of a header keeps the rules of one, and headers and asks fit into a frame of either version.
use Rattle.std.proofs.Common.{ℕ, ◌+◌, ◌*◌, ◌≤◌, Bool, true, ◌==◌, cond, ◌&&◌, nat_lt, nat_le, List, [], ◌∷◌, ◌++◌, length, Option, Some, None, false, IsTrue, refl, sym, subst, ◌∙◌, arith, inl, inr}
use Rattle.std.specs.FinSet as set
use Rattle.std.specs.Cmp.{Equal-is}
use Rattle.std.specs.Int.{w32, w64, to_be_bytes}
use Rattle.std.specs.List.{flat_map, list_all}
use Rattle.std.specs.Ordering.{eq_by_cmp}
use Rattle.std.proofs.lemmas.Bool.{and_parts, ltb-true, leb-true}
use Rattle.std.proofs.lemmas.List.{length-append}
use Rattle.pmg_value.specs.Lists.{In, Each, leads, is_chain}
use Rattle.pmg_value.specs.Names.{is_nspace, is_graphic}
use Rattle.pmg_value.specs.Process.{proc_cmp}
use Rattle.pmg_value.specs.Signatures.{FenceName}
use Rattle.pmg_value.specs.declared.process.Proc.{Proc}
use Rattle.pmg_value.proofs.ListLemmas.{in_from_list_any}
use Rattle.pmg_value.proofs.ProcessOrder.{procs_total, exact_procs}
use Rattle.pmg_wire.specs.Many.{Chain}
use Rattle.pmg_wire.specs.Spelling.{proc_spelling}
use Rattle.pmg_frame.specs.Fences.{participants_of, is_gone, is_local_rising, is_listed, is_level, is_header, Header, FenceAsk, CommitAsk}
use Rattle.pmg_frame.specs.Grammar.{IsClient, IsName, FollowsLocal, IsHeader, IsFenceAsk, IsCommitAsk, AreHeaders, AreFitting}
use Rattle.pmg_frame.specs.Runs.{proc_ranks, local_ranks, RankRun, next_rank, with_item, runs_of}
use Rattle.pmg_frame.specs.RunSpelling.{run_spelling, short_name, local_run_spelling, short_header, short_fence_ask}
use Rattle.pmg_frame.specs.Spelling.{flag_spelling, name_spelling, local_spelling, header_body, fence_ask_body, commit_ask_body, asker_spelling}
use Rattle.pmg_frame.specs.Versions.{body_spelling}
use Rattle.pmg_frame.specs.declared.frame.Frame.TheVariants as frames
use Rattle.pmg_frame.specs.declared.local.Local.{Local}
use Rattle.pmg_frame.proofs.FenceLaws.{length_3, length_4}
use Rattle.pmg_frame.proofs.HeaderLaws.{header_passes}
use Rattle.pmg_value.proofs.SetOrder.{any_in_order}

-- ---- what passes is a header

in_each : {A : Type 0} (P : A → Type 0) (x : A) (xs : List A) → In x xs → Each P xs → P x
in_each P x [] i all = absurd i
in_each P x (y ∷ ys) (inl e) all = subst P (sym e) all.0
in_each P x (y ∷ ys) (inr i) all = in_each P x ys i all.1

-- a participant is a process that a group may register
member_is : (name : FenceName) (p : Proc) → IsName name → IsTrue (set.contains name.signature.participants p) → IsClient p
member_is name p is member =
    let found = in_from_list_any (eq_by_cmp proc_cmp p) (participants_of name) (any_in_order procs_total name.signature.participants p ∙ member) in
    subst IsClient (sym (exact_procs p found.0 ((Equal-is _).0 found.2))) (in_each IsClient found.0 (participants_of name) found.1 is.clients)

told : (name : FenceName) (before : Option Local) (l : Local) → IsName name → IsTrue (is_listed name l) → FollowsLocal name None l
told name before l is listed =
    let parts = and_parts (set.contains name.signature.participants l.proc) (is_level l.level) listed in
    record { is = member_is name l.proc is parts.0; order = refl; member = parts.0; level = parts.1 }

chain_behind : (name : FenceName) (l : Local) (ls : List Local) → IsName name → IsTrue (leads is_local_rising l ls) → IsTrue (list_all (is_listed name) ls) → Chain (FollowsLocal name) (Some l) ls
chain_behind name l [] is rises listed = tt
chain_behind name l (k ∷ ks) is rises listed =
    let order = and_parts (is_local_rising l k) (leads is_local_rising k ks) rises in
    let each = and_parts (is_listed name k) (list_all (is_listed name) ks) listed in
    let one = told name None k is each.0 in
    (record { is = one.is; order = order.0; member = one.member; level = one.level }, chain_behind name k ks is order.1 each.1)

chain_of : (name : FenceName) (ls : List Local) → IsName name → IsTrue (is_chain is_local_rising ls) → IsTrue (list_all (is_listed name) ls) → Chain (FollowsLocal name) None ls
chain_of name [] is rises listed = tt
chain_of name (l ∷ ls) is rises listed =
    let each = and_parts (is_listed name l) (list_all (is_listed name) ls) listed in
    (told name None l is each.0, chain_behind name l ls is rises each.1)

header_says : (h : Header) → h.node ≤ 63 → IsName h.name → IsTrue (is_header h) → IsHeader h
unfolding is_header
header_says h node name passes =
    let listed = and_parts _ _ passes in
    let rises = and_parts _ _ listed.0 in
    let count = and_parts _ _ rises.0 in
    record {
      node = node;
      name = name;
      some = ltb-true _ _ count.0;
      few = leb-true _ _ count.1;
      locals = chain_of h.name h.locals name rises.1 listed.1;
    }

pub are_headers : AreHeaders
are_headers h node name = (header_says h node name, header_passes h)

-- ---- sizes

proc_short : (p : Proc) → IsTrue (is_nspace p.nspace) → length (proc_spelling p) ≤ 260
proc_short p name =
    let len = leb-true (length p.nspace) 255 (and_parts _ _ (and_parts (nat_lt 0 (length p.nspace) && nat_le (length p.nspace) 255) (list_all is_graphic p.nspace) name).0).1 in
    omega (arith, len, length-append (length p.nspace ∷ p.nspace) (to_be_bytes w32 p.rank))

added : (a b : List ℕ) (m n : ℕ) → length a ≤ m → length b ≤ n → length (a ++ b) ≤ m + n
added a b m n p q = omega (arith, length-append a b, p, q)

procs_short : (ps : List Proc) → Each IsClient ps → length (flat_map proc_spelling ps) ≤ 260 * length ps
procs_short [] is = omega arith
procs_short (p ∷ ps) is =
    let both = added (proc_spelling p) (flat_map proc_spelling ps) 260 (260 * length ps) (proc_short p is.0.name) (procs_short ps is.1) in
    omega (arith, both)

local_short : (name : FenceName) (before : Option Local) (l : Local) → FollowsLocal name before l → length (local_spelling l) ≤ 269
local_short name before l f = omega (arith, proc_short l.proc f.is.name, length_3 (proc_spelling l.proc) (flag_spelling (is_gone l.state)) (to_be_bytes w64 l.level))

locals_short : (name : FenceName) (before : Option Local) (ls : List Local) → Chain (FollowsLocal name) before ls → length (flat_map local_spelling ls) ≤ 269 * length ls
locals_short name before [] chain = omega arith
locals_short name before (l ∷ ls) chain =
    let both = added (local_spelling l) (flat_map local_spelling ls) 269 (269 * length ls) (local_short name before l chain.0) (locals_short name (Some l) ls chain.1) in
    omega (arith, both)

name_short : (name : FenceName) → IsName name → length (name_spelling name) ≤ 1064973
name_short name is =
    let ps = participants_of name in
    omega (arith, procs_short ps is.clients, is.few, length_4 (flag_spelling name.signature.collect) (to_be_bytes w64 name.instance) (to_be_bytes w32 (length ps)) (flat_map proc_spelling ps))

header_short : (h : Header) → IsHeader h → length (header_body h) ≤ 16777216
header_short h is =
    let name = name_short h.name is.name in
    let locals = locals_short h.name None h.locals is.locals in
    omega (arith, name, locals, is.few, is.name.few, length_4 (to_be_bytes w32 h.node) (name_spelling h.name) (to_be_bytes w32 (length h.locals)) (flat_map local_spelling h.locals))

-- ---- sizes of runs, which are no more than the items

run_first : (p : Proc) (n : ℕ) → IsTrue (is_nspace p.nspace) → length (run_spelling (record { first = p; last = n })) ≤ 264
run_first p n name = added (proc_spelling p) (to_be_bytes w32 n) 260 4 (proc_short p name) (omega arith)

with_proc : (p : Proc) (rs : List (RankRun Proc)) → IsTrue (is_nspace p.nspace) → length (flat_map run_spelling (with_item proc_ranks p rs)) ≤ 264 + length (flat_map run_spelling rs)
with_proc p [] name = added (run_spelling (record { first = p; last = p.rank })) [] 264 0 (run_first p p.rank name) (omega arith)
with_proc p (r ∷ rs) name = by (proc_ranks.same (next_rank proc_ranks p) r.first) where
  by : (b : Bool) → length (flat_map run_spelling (cond b (record { first = p; last = r.last } ∷ rs) (record { first = p; last = p.rank } ∷ r ∷ rs))) ≤ 264 + length (flat_map run_spelling (r ∷ rs))
  by true =
      let n = length (flat_map run_spelling rs) in
      omega (arith, added (run_spelling (record { first = p; last = r.last })) (flat_map run_spelling rs) 264 n (run_first p r.last name) (omega arith), length-append (run_spelling r) (flat_map run_spelling rs))
  by false = added (run_spelling (record { first = p; last = p.rank })) (flat_map run_spelling (r ∷ rs)) 264 (length (flat_map run_spelling (r ∷ rs))) (run_first p p.rank name) (omega arith)

runs_short : (ps : List Proc) → Each IsClient ps → length (flat_map run_spelling (runs_of proc_ranks ps)) ≤ 264 * length ps
unfolding runs_of
runs_short [] is = omega arith
runs_short (p ∷ ps) is = omega (arith, with_proc p (runs_of proc_ranks ps) is.0.name, runs_short ps is.1)

short_name_short : (name : FenceName) → IsName name → length (short_name name) ≤ 1081357
short_name_short name is =
    let ps = participants_of name in
    let rs = runs_of proc_ranks ps in
    omega (arith, runs_short ps is.clients, is.few, length_4 (flag_spelling name.signature.collect) (to_be_bytes w64 name.instance) (to_be_bytes w32 (length rs)) (flat_map run_spelling rs))

local_run_first : (l : Local) (n : ℕ) → IsTrue (is_nspace l.proc.nspace) → length (local_run_spelling (record { first = l; last = n })) ≤ 273
local_run_first l n name = omega (arith, proc_short l.proc name, length_4 (proc_spelling l.proc) (to_be_bytes w32 n) (flag_spelling (is_gone l.state)) (to_be_bytes w64 l.level))

with_local : (l : Local) (rs : List (RankRun Local)) → IsTrue (is_nspace l.proc.nspace) → length (flat_map local_run_spelling (with_item local_ranks l rs)) ≤ 273 + length (flat_map local_run_spelling rs)
with_local l [] name = added (local_run_spelling (record { first = l; last = l.proc.rank })) [] 273 0 (local_run_first l l.proc.rank name) (omega arith)
with_local l (r ∷ rs) name = by (local_ranks.same (next_rank local_ranks l) r.first) where
  by : (b : Bool) → length (flat_map local_run_spelling (cond b (record { first = l; last = r.last } ∷ rs) (record { first = l; last = l.proc.rank } ∷ r ∷ rs))) ≤ 273 + length (flat_map local_run_spelling (r ∷ rs))
  by true =
      let n = length (flat_map local_run_spelling rs) in
      omega (arith, added (local_run_spelling (record { first = l; last = r.last })) (flat_map local_run_spelling rs) 273 n (local_run_first l r.last name) (omega arith), length-append (local_run_spelling r) (flat_map local_run_spelling rs))
  by false =
      added (local_run_spelling (record { first = l; last = l.proc.rank })) (flat_map local_run_spelling (r ∷ rs)) 273 (length (flat_map local_run_spelling (r ∷ rs))) (local_run_first l l.proc.rank name) (omega arith)

local_runs_short : (name : FenceName) (before : Option Local) (ls : List Local) → Chain (FollowsLocal name) before ls → length (flat_map local_run_spelling (runs_of local_ranks ls)) ≤ 273 * length ls
unfolding runs_of
local_runs_short name before [] chain = omega arith
local_runs_short name before (l ∷ ls) chain = omega (arith, with_local l (runs_of local_ranks ls) chain.0.is.name, local_runs_short name (Some l) ls chain.1)

short_header_short : (h : Header) → IsHeader h → length (short_header h) ≤ 16777216
short_header_short h is =
    let rs = runs_of local_ranks h.locals in
    let name = short_name_short h.name is.name in
    let locals = local_runs_short h.name None h.locals is.locals in
    omega (arith, name, locals, is.few, is.name.few, length_4 (to_be_bytes w32 h.node) (short_name h.name) (to_be_bytes w32 (length rs)) (flat_map local_run_spelling rs))

-- ---- what fits, in either version

header_fits : (v : ℕ) (h : Header) → IsHeader h → length (body_spelling v (frames.Header h)) ≤ 16777216
header_fits v h is = by (v == 1) where
  by : (b : Bool) → length (cond b (header_body h) (short_header h)) ≤ 16777216
  by true = header_short h is
  by false = short_header_short h is

fence_ask_fits : (v : ℕ) (a : FenceAsk) → IsFenceAsk a → length (body_spelling v (frames.FenceAsk a)) ≤ 16777216
fence_ask_fits v a is = by (v == 1) where
  by : (b : Bool) → length (cond b (fence_ask_body a) (short_fence_ask a)) ≤ 16777216
  by true = omega (arith, name_short a.name is.name, length-append (to_be_bytes w32 a.node) (name_spelling a.name))
  by false = omega (arith, short_name_short a.name is.name, length-append (to_be_bytes w32 a.node) (short_name a.name))

commit_ask_short : (a : CommitAsk) → IsCommitAsk a → length (commit_ask_body a) ≤ 16777216
commit_ask_short a is = omega (arith, proc_short a.proc is.name, length_3 (to_be_bytes w32 a.node) (proc_spelling a.proc) (to_be_bytes w64 a.level))

pub are_fitting : AreFitting
are_fitting v (frames.Piece c) is kind = absurd cc
are_fitting v (frames.Header h) is kind = header_fits v h is
are_fitting v (frames.FenceAsk a) is kind = fence_ask_fits v a is
are_fitting v (frames.RangeAsk a) is kind = commit_ask_short a is
are_fitting v (frames.DirectAsk a) is kind = commit_ask_short a is
are_fitting v (frames.RefreshAsk a) is kind =
    let ask = proc_short a.ask.proc is.ask.name in
    let tail = proc_spelling a.ask.proc ++ to_be_bytes w64 a.ask.level in
    omega (arith, ask, length-append (asker_spelling a.ask.node a.request false) tail, length-append (proc_spelling a.ask.proc) (to_be_bytes w64 a.ask.level))
are_fitting v (frames.RefreshReply r) is kind = absurd cc
