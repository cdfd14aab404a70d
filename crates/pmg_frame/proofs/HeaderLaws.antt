-- A header or an ask that is read was spelled so, and what is spelled so is read.
use Rattle.std.proofs.Common.{◌≡◌, ℕ, ◌+◌, ◌^◌, ◌≤◌, Bool, true, false, ◌&&◌, nat_lt, nat_le, List, [], ◌∷◌, ◌++◌, length, Option, Some, None, Ok, IsTrue, refl, ap, ◌∙◌, append_assoc, arith}
use Rattle.std.specs.FinSet as set
use Rattle.std.specs.Int.{w32, w64, to_be_bytes}
use Rattle.std.specs.List.{flat_map, list_all}
use Rattle.std.specs.Option.{option_map}
use Rattle.std.proofs.lemmas.Bool.{and_parts, and_from, ltb-true, leb-true, lt-ltb, le-leb}
use Rattle.std.proofs.lemmas.List.{length-append}
use Rattle.pmg_value.specs.Lists.{leads, is_chain}
use Rattle.pmg_value.specs.Signatures.{FenceName}
use Rattle.pmg_value.specs.declared.process.Proc.{Proc}
use Rattle.pmg_value.specs.declared.refusal.Cause.TheVariants as causes
use Rattle.pmg_wire.specs.declared.fields.Admits.TheVariants as admits
use Rattle.pmg_wire.specs.Fields.{read_proc, read_flag}
use Rattle.pmg_wire.specs.Many.{many, Chain}
use Rattle.pmg_wire.specs.Reading.{Place, Read, fault, ◌>>=◌, check, number_at, IsBytes, Takes}
use Rattle.pmg_wire.specs.Spelling.{proc_spelling}
use Rattle.pmg_wire.proofs.Counted.{TakesOne, many_if, many_again}
use Rattle.pmg_wire.proofs.FieldLaws.{proc_if, proc_again}
use Rattle.pmg_wire.proofs.PlainLaws.{flag_if, flag_again}
use Rattle.pmg_wire.proofs.Steps.{place, IfRead, bind_if, check_if, done_if, Takes-then, IsBytes-after, wide32, wide64, number_if, number_again}
use Rattle.pmg_frame.specs.Fences.{participants_of, is_level, is_gone, state_of, state_of-is_gone, is_local_rising, is_listed, is_header, is_ask, Header, FenceAsk, CommitAsk}
use Rattle.pmg_frame.specs.FenceReading.{is_greater, read_participants, read_name_by, read_name, read_ask_by, read_node, read_level, read_local, read_header, read_fence_ask, read_commit_ask}
use Rattle.pmg_frame.specs.Grammar.{FollowsLocal, IsHeader, IsFenceAsk, IsCommitAsk}
use Rattle.pmg_frame.specs.Spelling.{flag_spelling, procs_spelling, name_spelling, local_spelling, header_body, fence_ask_body, commit_ask_body}
use Rattle.pmg_frame.specs.declared.local.Local.{Local}
use Rattle.pmg_frame.specs.declared.local.State.{State}
use Rattle.pmg_frame.proofs.FenceLaws.{ReadsParts, ReadsPartsAgain, participants_if, participants_again, text_of_name, name_by_if, name_by_again, name_if, name_again, regroup_3, length_3, regroup_4, length_4}
use Rattle.pmg_frame.proofs.Taken.{TakesBody}

-- ---- nodes and levels

-- what the index of a node took
pub record TakesNode (at : Place) (n : ℕ) (after : Place) : Type 0 where
  pub takes : Takes at (to_be_bytes w32 n) after
  pub bound : n ≤ 63

pub node_if : (at : Place) → IsBytes at.rest → IfRead (read_node at) (TakesNode at)
unfolding read_node
node_if at fits =
    bind_if (λ node. check (nat_le node.0 63) (fault at.offset causes.Node) >>= λ _. Ok node) (number_if w32 (2 ^ 32) wide32 at fits) (λ n after t.
    check_if (nat_le n 63) (fault at.offset causes.Node) (λ _. Ok (n, after)) (λ small. done_if (record { takes = t.takes; bound = leb-true n 63 small })))

pub node_again : (o n : ℕ) (rest : List ℕ) → n ≤ 63 → read_node (place o (to_be_bytes w32 n ++ rest)) ≡ Ok (n, place (o + 4) rest)
unfolding read_node
node_again o n rest small = rw (number_again w32 (2 ^ 32) wide32 o n rest (omega (arith, small)), le-leb n 63 small) refl

-- what a level took
pub record TakesLevel (at : Place) (n : ℕ) (after : Place) : Type 0 where
  pub takes : Takes at (to_be_bytes w64 n) after
  pub is : IsTrue (is_level n)

pub level_if : (at : Place) → IsBytes at.rest → IfRead (read_level at) (TakesLevel at)
unfolding read_level
level_if at fits =
    bind_if (λ level. check (is_level level.0) (fault at.offset causes.Level) >>= λ _. Ok level) (number_if w64 (2 ^ 64) wide64 at fits) (λ n after t.
    check_if (is_level n) (fault at.offset causes.Level) (λ _. Ok (n, after)) (λ is. done_if (record { takes = t.takes; is = is })))

pub level_again : (o n : ℕ) (rest : List ℕ) → IsTrue (is_level n) → read_level (place o (to_be_bytes w64 n ++ rest)) ≡ Ok (n, place (o + 8) rest)
unfolding read_level
level_again o n rest is = let small : n ≤ 4294967295 = leb-true n 4294967295 is in rw (number_again w64 (2 ^ 64) wide64 o n rest (omega (arith, small)), is) refl

-- ---- locals

pub is_gone-state_of : (b : Bool) → is_gone (state_of b) ≡ b
is_gone-state_of true = refl
is_gone-state_of false = refl

local_if : (name : FenceName) (before : Option Local) (at : Place) → IsBytes at.rest → IfRead (read_local name before at) (TakesOne local_spelling (FollowsLocal name) before at)
unfolding read_local
local_if name before at fits =
    let behind : Proc → Bool = is_greater (option_map (λ (b : Local). b.proc) before) in
    let among : Proc → Bool = set.contains name.signature.participants in
    let made : Proc → Bool → ℕ × Place → Read Local = λ p gone level. Ok (record { proc = p; state = state_of gone; level = level.0 }, level.1) in
    let flagged : Proc → Bool × Place → Read Local = λ p gone. read_level gone.1 >>= made p gone.0 in
    let told : Proc × Place → Read Local = λ p. read_flag p.1 >>= flagged p.0 in
    let member : Proc × Place → Read Local = λ p. check (among p.0) (fault at.offset causes.Member) >>= λ _. told p in
    bind_if (λ p. check (behind p.0) (fault at.offset causes.Order) >>= λ _. member p) (proc_if admits.Clients at fits) (λ p a t.
    let a_fits : IsBytes a.rest = IsBytes-after (proc_spelling p) fits t.takes in
    check_if (behind p) (fault at.offset causes.Order) (λ _. member (p, a)) (λ order.
    check_if (among p) (fault at.offset causes.Member) (λ _. told (p, a)) (λ is_member.
    bind_if (flagged p) (flag_if a) (λ gone b f.
    let b_fits : IsBytes b.rest = IsBytes-after (flag_spelling gone) a_fits f in
    bind_if (made p gone) (level_if b b_fits) (λ level after n.
    let tail = Takes-then (flag_spelling gone) (to_be_bytes w64 level) f n.takes in
    done_if (record {
      takes = rw (is_gone-state_of gone) (Takes-then (proc_spelling p) (flag_spelling gone ++ to_be_bytes w64 level) t.takes tail);
      follows = record { is = record { name = t.name; client = t.admitted }; order = order; member = is_member; level = n.is };
    }))))))

local_again : (name : FenceName) (before : Option Local) (o : ℕ) (l : Local) (rest : List ℕ) → FollowsLocal name before l
    → read_local name before (place o (local_spelling l ++ rest)) ≡ Ok (l, place (o + length (local_spelling l)) rest)
unfolding read_local
local_again name before o l rest f =
    let proc_text = proc_spelling l.proc in
    let flag_text = flag_spelling (is_gone l.state) in
    let level_text = to_be_bytes w64 l.level in
    let regrouped = regroup_3 proc_text flag_text level_text rest in
    let p = proc_again admits.Clients o l.proc (flag_text ++ (level_text ++ rest)) f.is.name f.is.client in
    let order = f.order in
    let member = f.member in
    let g = flag_again (o + length proc_text) (is_gone l.state) (level_text ++ rest) in
    let n = level_again (o + length proc_text + 1) l.level rest f.level in
    let end : o + length proc_text + 1 + 8 ≡ o + length (local_spelling l) = omega (arith, length_3 proc_text flag_text level_text) in
    ap (λ (text : List ℕ). read_local name before (place o text)) regrouped
    ∙ rw (p, order, member, g, n) (ap (λ (s : State). Ok (record { proc = l.proc; state = s; level = l.level }, place (o + length proc_text + 1 + 8) rest)) (state_of-is_gone l.state)
    ∙ ap (λ (x : ℕ). Ok (l, place x rest)) end)

-- ---- headers

pub header_if : (at : Place) → IsBytes at.rest → IfRead (read_header at) (λ h. TakesBody at (header_body h) (IsHeader h))
unfolding read_header
header_if at fits =
    let in_range : FenceName → ℕ → Bool = λ name count. nat_lt 0 count && nat_le count (length (participants_of name)) in
    let made : ℕ → FenceName → List Local × Place → Read Header = λ node name locals. Ok (record { node = node; name = name; locals = locals.0 }, locals.1) in
    let listed : ℕ → FenceName → ℕ × Place → Read Header = λ node name count. many (read_local name) count.0 None count.1 >>= made node name in
    let counted : ℕ → FenceName → Place → ℕ × Place → Read Header = λ node name at_count count. check (in_range name count.0) (fault at_count.offset causes.Count) >>= λ _. listed node name count in
    let named : ℕ → FenceName × Place → Read Header = λ node name. number_at w32 name.1 >>= counted node name.0 name.1 in
    bind_if (λ node. read_name node.1 >>= named node.0) (node_if at fits) (λ node a n.
    let a_fits : IsBytes a.rest = IsBytes-after (to_be_bytes w32 node) fits n.takes in
    bind_if (named node) (name_if a a_fits) (λ name b t.
    let b_fits : IsBytes b.rest = IsBytes-after (name_spelling name) a_fits t.takes in
    bind_if (counted node name b) (number_if w32 (2 ^ 32) wide32 b b_fits) (λ count d k.
    let d_fits : IsBytes d.rest = IsBytes-after (to_be_bytes w32 count) b_fits k.takes in
    check_if (in_range name count) (fault b.offset causes.Count) (λ _. listed node name (count, d)) (λ few.
    let range = and_parts (nat_lt 0 count) (nat_le count (length (participants_of name))) few in
    bind_if (made node name) (many_if (read_local name) local_spelling (FollowsLocal name) (local_if name) count None d d_fits) (λ locals after m.
    let count_text = to_be_bytes w32 count in
    let tail = Takes-then count_text (flat_map local_spelling locals) k.takes m.takes in
    let name_tail = Takes-then (name_spelling name) (count_text ++ flat_map local_spelling locals) t.takes tail in
    let all = Takes-then (to_be_bytes w32 node) (name_spelling name ++ (count_text ++ flat_map local_spelling locals)) n.takes name_tail in
    done_if (record {
      takes = rw m.len all;
      is = record { node = n.bound; name = t.is; some = rw m.len (ltb-true 0 count range.0); few = rw m.len (leb-true count _ range.1); locals = m.chain };
    }))))))

pub header_again : (o : ℕ) (h : Header) (rest : List ℕ) → IsHeader h → read_header (place o (header_body h ++ rest)) ≡ Ok (h, place (o + length (header_body h)) rest)
unfolding read_header
header_again o h rest is =
    let node_text = to_be_bytes w32 h.node in
    let name_text = name_spelling h.name in
    let count_text = to_be_bytes w32 (length h.locals) in
    let locals_text = flat_map local_spelling h.locals in
    let regrouped = regroup_4 node_text name_text count_text locals_text rest in
    let n = node_again o h.node (name_text ++ (count_text ++ (locals_text ++ rest))) is.node in
    let t = name_again (o + 4) h.name (count_text ++ (locals_text ++ rest)) is.name in
    let k = number_again w32 (2 ^ 32) wide32 (o + 4 + length name_text) (length h.locals) (locals_text ++ rest) (omega (arith, is.few, is.name.few)) in
    let few : IsTrue (nat_lt 0 (length h.locals) && nat_le (length h.locals) (length (participants_of h.name))) = and_from _ _ (lt-ltb _ _ is.some) (le-leb _ _ is.few) in
    let m = many_again (read_local h.name) local_spelling (FollowsLocal h.name) (local_again h.name) None (o + 4 + length name_text + 4) h.locals rest is.locals in
    let end : o + 4 + length name_text + 4 + length locals_text ≡ o + length (header_body h) = omega (arith, length_4 node_text name_text count_text locals_text) in
    ap (λ (text : List ℕ). read_header (place o text)) regrouped
    ∙ rw (n, t, k, few, m) (ap (λ (x : ℕ). Ok (h, place x rest)) end)

-- ---- what is read passes the test of a header

rises_behind : (name : FenceName) (l : Local) (ls : List Local) → Chain (FollowsLocal name) (Some l) ls → IsTrue (leads is_local_rising l ls)
rises_behind name l [] chain = refl
rises_behind name l (k ∷ ks) chain = and_from (is_local_rising l k) (leads is_local_rising k ks) chain.0.order (rises_behind name k ks chain.1)

rises : (name : FenceName) (ls : List Local) → Chain (FollowsLocal name) None ls → IsTrue (is_chain is_local_rising ls)
rises name [] chain = refl
rises name (l ∷ ls) chain = rises_behind name l ls chain.1

all_listed : (name : FenceName) (before : Option Local) (ls : List Local) → Chain (FollowsLocal name) before ls → IsTrue (list_all (is_listed name) ls)
all_listed name before [] chain = refl
all_listed name before (l ∷ ls) chain = and_from (is_listed name l) (list_all (is_listed name) ls) (and_from _ _ chain.0.member chain.0.level) (all_listed name (Some l) ls chain.1)

pub header_passes : (h : Header) → IsHeader h → IsTrue (is_header h)
unfolding is_header
header_passes h is =
    and_from _ _ (and_from _ _ (and_from _ _ (lt-ltb _ _ is.some) (le-leb _ _ is.few)) (rises h.name h.locals is.locals)) (all_listed h.name None h.locals is.locals)

-- and a header that passes lists no more than the participants
pub header_count : (h : Header) → IsTrue (is_header h) → length h.locals ≤ length (participants_of h.name)
unfolding is_header
header_count h passes = leb-true _ _ (and_parts _ _ (and_parts _ _ (and_parts _ _ passes).0).0).1

-- ---- asks

-- a fence ask, whose participants are spelled so
abbrev pub ask_text : (List Proc → List ℕ) → FenceAsk → List ℕ
ask_text text a = to_be_bytes w32 a.node ++ text_of_name text a.name

pub ask_by_if : (list : Place → Read (List Proc)) (text : List Proc → List ℕ) → ReadsParts list text → (at : Place) → IsBytes at.rest → IfRead (read_ask_by list at) (λ a. TakesBody at (ask_text text a) (IsFenceAsk a))
unfolding read_ask_by
ask_by_if list text parts at fits =
    let made : ℕ → FenceName × Place → Read FenceAsk = λ node name. Ok (record { node = node; name = name.0 }, name.1) in
    bind_if (λ node. read_name_by list node.1 >>= made node.0) (node_if at fits) (λ node a n.
    bind_if (made node) (name_by_if list text parts a (IsBytes-after (to_be_bytes w32 node) fits n.takes)) (λ name after t.
    done_if (record { takes = Takes-then (to_be_bytes w32 node) (text_of_name text name) n.takes t.takes; is = record { node = n.bound; name = t.is } })))

pub ask_by_again : (list : Place → Read (List Proc)) (text : List Proc → List ℕ) → ReadsPartsAgain list text → (o : ℕ) (a : FenceAsk) (rest : List ℕ) → IsFenceAsk a
    → read_ask_by list (place o (ask_text text a ++ rest)) ≡ Ok (a, place (o + length (ask_text text a)) rest)
unfolding read_ask_by
ask_by_again list text again o a rest is =
    let node_text = to_be_bytes w32 a.node in
    let name_text = text_of_name text a.name in
    let n = node_again o a.node (name_text ++ rest) is.node in
    let t = name_by_again list text again (o + 4) a.name rest is.name in
    let end : o + 4 + length name_text ≡ o + length (ask_text text a) = omega (arith, length-append node_text name_text) in
    ap (λ (t : List ℕ). read_ask_by list (place o t)) (append_assoc node_text name_text rest)
    ∙ rw (n, t) (ap (λ (x : ℕ). Ok (a, place x rest)) end)

pub fence_ask_if : (at : Place) → IsBytes at.rest → IfRead (read_fence_ask at) (λ a. TakesBody at (fence_ask_body a) (IsFenceAsk a))
fence_ask_if = ask_by_if read_participants procs_spelling participants_if

pub fence_ask_again : (o : ℕ) (a : FenceAsk) (rest : List ℕ) → IsFenceAsk a → read_fence_ask (place o (fence_ask_body a ++ rest)) ≡ Ok (a, place (o + length (fence_ask_body a)) rest)
fence_ask_again = ask_by_again read_participants procs_spelling participants_again

pub commit_ask_if : (at : Place) → IsBytes at.rest → IfRead (read_commit_ask at) (λ a. TakesBody at (commit_ask_body a) (IsCommitAsk a))
unfolding read_commit_ask
commit_ask_if at fits =
    let made : ℕ → Proc → ℕ × Place → Read CommitAsk = λ node p level. Ok (record { node = node; proc = p; level = level.0 }, level.1) in
    let asked : ℕ → Proc × Place → Read CommitAsk = λ node p. read_level p.1 >>= made node p.0 in
    bind_if (λ node. read_proc admits.ClientsAndHost node.1 >>= asked node.0) (node_if at fits) (λ node a n.
    let a_fits : IsBytes a.rest = IsBytes-after (to_be_bytes w32 node) fits n.takes in
    bind_if (asked node) (proc_if admits.ClientsAndHost a a_fits) (λ p b t.
    bind_if (made node p) (level_if b (IsBytes-after (proc_spelling p) a_fits t.takes)) (λ level after l.
    let tail = Takes-then (proc_spelling p) (to_be_bytes w64 level) t.takes l.takes in
    done_if (record {
      takes = Takes-then (to_be_bytes w32 node) (proc_spelling p ++ to_be_bytes w64 level) n.takes tail;
      is = record { node = n.bound; name = t.name; admitted = t.admitted; level = l.is };
    }))))

pub commit_ask_again : (o : ℕ) (a : CommitAsk) (rest : List ℕ) → IsCommitAsk a → read_commit_ask (place o (commit_ask_body a ++ rest)) ≡ Ok (a, place (o + length (commit_ask_body a)) rest)
unfolding read_commit_ask
commit_ask_again o a rest is =
    let node_text = to_be_bytes w32 a.node in
    let proc_text = proc_spelling a.proc in
    let level_text = to_be_bytes w64 a.level in
    let n = node_again o a.node (proc_text ++ (level_text ++ rest)) is.node in
    let p = proc_again admits.ClientsAndHost (o + 4) a.proc (level_text ++ rest) is.name is.admitted in
    let l = level_again (o + 4 + length proc_text) a.level rest is.level in
    let end : o + 4 + length proc_text + 8 ≡ o + length (commit_ask_body a) = omega (arith, length_3 node_text proc_text level_text) in
    ap (λ (text : List ℕ). read_commit_ask (place o text)) (regroup_3 node_text proc_text level_text rest)
    ∙ rw (n, p, l) (ap (λ (x : ℕ). Ok (a, place x rest)) end)

pub ask_passes : (a : CommitAsk) → IsCommitAsk a → IsTrue (is_ask a)
ask_passes a is = and_from _ _ is.admitted is.level
