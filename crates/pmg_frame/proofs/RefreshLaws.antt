-- A refresh ask or a reply that is read was spelled so, and what is spelled so is read.
use Rattle.std.proofs.Common.{◌≡◌, ℕ, ◌+◌, ◌^◌, ◌≤◌, Bool, true, false, cond, List, ◌++◌, length, Ok, IsTrue, refl, sym, ap, subst, ◌∙◌, append_assoc, arith}
use Rattle.std.specs.Int.{w32, w64, to_be_bytes}
use Rattle.std.proofs.lemmas.Bool.{and_parts, and_from, leb-true}
use Rattle.std.proofs.lemmas.List.{length-append}
use Rattle.pmg_value.specs.declared.process.Proc.{Proc}
use Rattle.pmg_value.specs.declared.refusal.Cause.TheVariants as causes
use Rattle.pmg_wire.specs.declared.fields.Admits.TheVariants as admits
use Rattle.pmg_wire.specs.Fields.{read_proc, read_flag}
use Rattle.pmg_wire.specs.Reading.{Place, Read, fault, ◌>>=◌, check, IsBytes, Takes}
use Rattle.pmg_wire.specs.Spelling.{proc_spelling}
use Rattle.pmg_wire.proofs.FieldLaws.{proc_if, proc_again}
use Rattle.pmg_wire.proofs.PlainLaws.{flag_if, flag_again}
use Rattle.pmg_wire.proofs.Steps.{place, IfRead, bind_if, check_if, choice_if, done_if, Takes-then, IsBytes-after, wide64, number_if, number_again}
use Rattle.pmg_frame.specs.Fences.{commit_ask, is_ask}
use Rattle.pmg_frame.specs.FenceReading.{read_level}
use Rattle.pmg_frame.specs.Grammar.{IsFrame, IsRefreshAsk, IsRefreshReply}
use Rattle.pmg_frame.specs.Refreshing.{RefreshAsk, RefreshReply, refresh_ask, refresh_reply, is_request}
use Rattle.pmg_frame.specs.RefreshReading.{read_request, read_asker, read_refresh_ask, read_refresh_reply, read_refresh}
use Rattle.pmg_frame.specs.Spelling.{flag_spelling, asker_spelling, piece_body, refresh_ask_body, refresh_reply_body}
use Rattle.pmg_frame.specs.Versions.{kind_of, body_spelling}
use Rattle.pmg_frame.specs.declared.frame.Frame.{Frame}
use Rattle.pmg_frame.specs.declared.frame.Frame.TheVariants as frames
use Rattle.pmg_frame.proofs.FenceLaws.{regroup_3}
use Rattle.pmg_frame.proofs.HeaderLaws.{node_if, node_again, level_if, level_again}
use Rattle.pmg_frame.proofs.PieceLaws.{told_if, told_again}

-- what the number of a request took
record TakesRequest (at : Place) (n : ℕ) (after : Place) : Type 0 where
  pub takes : Takes at (to_be_bytes w64 n) after
  pub is : IsTrue (is_request n)

request_if : (at : Place) → IsBytes at.rest → IfRead (read_request at) (TakesRequest at)
unfolding read_request
request_if at fits =
    bind_if (λ request. check (is_request request.0) (fault at.offset causes.Number) >>= λ _. Ok request) (number_if w64 (2 ^ 64) wide64 at fits) (λ n after t.
    check_if (is_request n) (fault at.offset causes.Number) (λ _. Ok (n, after)) (λ is. done_if (record { takes = t.takes; is = is })))

request_again : (o n : ℕ) (rest : List ℕ) → IsTrue (is_request n) → read_request (place o (to_be_bytes w64 n ++ rest)) ≡ Ok (n, place (o + 8) rest)
unfolding read_request
request_again o n rest is =
    let small : n ≤ 18446744073709551615 = leb-true n 18446744073709551615 (and_parts _ _ is).1 in
    rw (number_again w64 (2 ^ 64) wide64 o n rest (omega (arith, small)), is) refl

-- what the asker took
record TakesAsker (at : Place) (a : ℕ × (ℕ × Bool)) (after : Place) : Type 0 where
  pub takes : Takes at (asker_spelling a.0 a.1.0 a.1.1) after
  pub node : a.0 ≤ 63
  pub request : IsTrue (is_request a.1.0)

asker_if : (at : Place) → IsBytes at.rest → IfRead (read_asker at) (TakesAsker at)
unfolding read_asker
asker_if at fits =
    let made : ℕ → ℕ → Bool × Place → Read (ℕ × (ℕ × Bool)) = λ node request role. Ok ((node, (request, role.0)), role.1) in
    let numbered : ℕ → ℕ × Place → Read (ℕ × (ℕ × Bool)) = λ node request. read_flag request.1 >>= made node request.0 in
    bind_if (λ node. read_request node.1 >>= numbered node.0) (node_if at fits) (λ node a n.
    let a_fits : IsBytes a.rest = IsBytes-after (to_be_bytes w32 node) fits n.takes in
    bind_if (numbered node) (request_if a a_fits) (λ request b r.
    bind_if (made node request) (flag_if b) (λ role after f.
    let tail = Takes-then (to_be_bytes w64 request) (flag_spelling role) r.takes f in
    done_if (record { takes = Takes-then (to_be_bytes w32 node) (to_be_bytes w64 request ++ flag_spelling role) n.takes tail; node = n.bound; request = r.is }))))

asker_again : (o node request : ℕ) (role : Bool) (rest : List ℕ) → node ≤ 63 → IsTrue (is_request request)
    → read_asker (place o (asker_spelling node request role ++ rest)) ≡ Ok ((node, (request, role)), place (o + 13) rest)
unfolding read_asker
asker_again o node request role rest small is =
    let node_text = to_be_bytes w32 node in
    let request_text = to_be_bytes w64 request in
    let n = node_again o node (request_text ++ (flag_spelling role ++ rest)) small in
    let r = request_again (o + 4) request (flag_spelling role ++ rest) is in
    let f = flag_again (o + 4 + 8) role rest in
    ap (λ (text : List ℕ). read_asker (place o text)) (regroup_3 node_text request_text (flag_spelling role) rest)
    ∙ rw (n, r, f) (ap (λ (k : ℕ). Ok ((node, (request, role)), place k rest)) (omega arith))

-- ---- asks

-- what an ask took after its asker
record TakesRefreshAsk (node request : ℕ) (at : Place) (a : RefreshAsk) (after : Place) : Type 0 where
  pub takes : Takes at (proc_spelling a.ask.proc ++ to_be_bytes w64 a.ask.level) after
  pub node_is : a.ask.node ≡ node
  pub request_is : a.request ≡ request
  pub is : IsRefreshAsk a

refresh_ask_if : (node request : ℕ) → node ≤ 63 → IsTrue (is_request request) → (at : Place) → IsBytes at.rest → IfRead (read_refresh_ask node request at) (TakesRefreshAsk node request at)
unfolding read_refresh_ask
refresh_ask_if node request small number at fits =
    let made : Proc → ℕ × Place → Read RefreshAsk = λ p level. Ok (refresh_ask request (commit_ask node p level.0), level.1) in
    bind_if (λ p. read_level p.1 >>= made p.0) (proc_if admits.ClientsAndHost at fits) (λ p b t.
    bind_if (made p) (level_if b (IsBytes-after (proc_spelling p) fits t.takes)) (λ level after l.
    done_if (record {
      takes = Takes-then (proc_spelling p) (to_be_bytes w64 level) t.takes l.takes;
      node_is = refl;
      request_is = refl;
      is = record { request = number; ask = record { node = small; name = t.name; admitted = t.admitted; level = l.is } };
    })))

refresh_ask_again : (o : ℕ) (a : RefreshAsk) (rest : List ℕ) → IsRefreshAsk a
    → read_refresh_ask a.ask.node a.request (place o ((proc_spelling a.ask.proc ++ to_be_bytes w64 a.ask.level) ++ rest))
    ≡ Ok (a, place (o + length (proc_spelling a.ask.proc) + 8) rest)
unfolding read_refresh_ask
refresh_ask_again o a rest is =
    let proc_text = proc_spelling a.ask.proc in
    let level_text = to_be_bytes w64 a.ask.level in
    let p = proc_again admits.ClientsAndHost o a.ask.proc (level_text ++ rest) is.ask.name is.ask.admitted in
    let l = level_again (o + length proc_text) a.ask.level rest is.ask.level in
    ap (λ (text : List ℕ). read_refresh_ask a.ask.node a.request (place o text)) (append_assoc proc_text level_text rest) ∙ rw (p, l) refl

-- ---- replies

-- what a reply took after its asker
record TakesRefreshReply (node request : ℕ) (at : Place) (r : RefreshReply) (after : Place) : Type 0 where
  pub takes : Takes at (piece_body r.told) after
  pub node_is : r.node ≡ node
  pub request_is : r.request ≡ request
  pub is : IsRefreshReply r

refresh_reply_if : (node request : ℕ) → node ≤ 63 → IsTrue (is_request request) → (at : Place) → IsBytes at.rest → IfRead (read_refresh_reply node request at) (TakesRefreshReply node request at)
unfolding read_refresh_reply
refresh_reply_if node request small number at fits =
    bind_if (λ told. Ok (refresh_reply node request told.0, told.1)) (told_if true at fits) (λ c after t.
    done_if (record { takes = t.takes; node_is = refl; request_is = refl; is = record { node = small; request = number; told = t.is } }))

refresh_reply_again : (o : ℕ) (r : RefreshReply) (rest : List ℕ) → IsRefreshReply r
    → read_refresh_reply r.node r.request (place o (piece_body r.told ++ rest)) ≡ Ok (r, place (o + length (piece_body r.told)) rest)
unfolding read_refresh_reply
refresh_reply_again o r rest is = rw (told_again true o r.told rest is.told) refl

-- ---- either

-- what a body of this kind took, which is one in all versions
pub record TakesRefresh (v : ℕ) (at : Place) (frame : Frame) (after : Place) : Type 0 where
  pub takes : Takes at (body_spelling v frame) after
  pub is : IsFrame frame
  pub of_kind : kind_of frame ≡ 6

whole : (at mid after : Place) (node request n r : ℕ) (role : Bool) (text : List ℕ) → n ≡ node → r ≡ request → Takes at (asker_spelling node request role) mid → Takes mid text after → Takes at (asker_spelling n r role ++ text) after
whole at mid after node request n r role text e f asker rest =
    subst (λ (k : ℕ). Takes at (asker_spelling k r role ++ text) after) (sym e)
    (subst (λ (k : ℕ). Takes at (asker_spelling node k role ++ text) after) (sym f) (Takes-then (asker_spelling node request role) text asker rest))

pub refresh_if : (v : ℕ) (at : Place) → IsBytes at.rest → IfRead (read_refresh at) (TakesRefresh v at)
unfolding read_refresh
refresh_if v at fits =
    bind_if (λ asker. cond asker.0.1.1 (read_refresh_reply asker.0.0 asker.0.1.0 asker.1 >>= λ x. Ok (frames.RefreshReply x.0, x.1))
    (read_refresh_ask asker.0.0 asker.0.1.0 asker.1 >>= λ x. Ok (frames.RefreshAsk x.0, x.1))) (asker_if at fits) (λ asker b k.
    let b_fits : IsBytes b.rest = IsBytes-after (asker_spelling asker.0 asker.1.0 asker.1.1) fits k.takes in
    choice_if asker.1.1
    (λ role. bind_if (λ x. Ok (frames.RefreshReply x.0, x.1)) (refresh_reply_if asker.0 asker.1.0 k.node k.request b b_fits) (λ r after t.
    let begun : Takes at (asker_spelling asker.0 asker.1.0 true) b = subst (λ (x : Bool). Takes at (asker_spelling asker.0 asker.1.0 x) b) role k.takes in
    done_if (record { takes = whole at b after asker.0 asker.1.0 r.node r.request true (piece_body r.told) t.node_is t.request_is begun t.takes; is = t.is; of_kind = refl })))
    (λ role. bind_if (λ x. Ok (frames.RefreshAsk x.0, x.1)) (refresh_ask_if asker.0 asker.1.0 k.node k.request b b_fits) (λ a after t.
    let begun : Takes at (asker_spelling asker.0 asker.1.0 false) b = subst (λ (x : Bool). Takes at (asker_spelling asker.0 asker.1.0 x) b) role k.takes in
    done_if (record { takes = whole at b after asker.0 asker.1.0 a.ask.node a.request false (proc_spelling a.ask.proc ++ to_be_bytes w64 a.ask.level) t.node_is t.request_is begun t.takes; is = t.is; of_kind = refl }))))

pub ask_read_again : (o : ℕ) (a : RefreshAsk) (rest : List ℕ) → IsRefreshAsk a
    → read_refresh (place o (refresh_ask_body a ++ rest)) ≡ Ok (frames.RefreshAsk a, place (o + length (refresh_ask_body a)) rest)
unfolding read_refresh
ask_read_again o a rest is =
    let asker = asker_spelling a.ask.node a.request false in
    let text = proc_spelling a.ask.proc ++ to_be_bytes w64 a.ask.level in
    let k = asker_again o a.ask.node a.request false (text ++ rest) is.ask.node is.request in
    let t = refresh_ask_again (o + 13) a rest is in
    let end : o + 13 + length (proc_spelling a.ask.proc) + 8 ≡ o + length (refresh_ask_body a) =
    omega (arith, length-append asker text, length-append (proc_spelling a.ask.proc) (to_be_bytes w64 a.ask.level)) in
    ap (λ (x : List ℕ). read_refresh (place o x)) (append_assoc asker text rest)
    ∙ rw (k, t) (ap (λ (n : ℕ). Ok (frames.RefreshAsk a, place n rest)) end)

pub reply_read_again : (o : ℕ) (r : RefreshReply) (rest : List ℕ) → IsRefreshReply r
    → read_refresh (place o (refresh_reply_body r ++ rest)) ≡ Ok (frames.RefreshReply r, place (o + length (refresh_reply_body r)) rest)
unfolding read_refresh
reply_read_again o r rest is =
    let asker = asker_spelling r.node r.request true in
    let text = piece_body r.told in
    let k = asker_again o r.node r.request true (text ++ rest) is.node is.request in
    let t = refresh_reply_again (o + 13) r rest is in
    let end : o + 13 + length text ≡ o + length (refresh_reply_body r) = omega (arith, length-append asker text) in
    ap (λ (x : List ℕ). read_refresh (place o x)) (append_assoc asker text rest)
    ∙ rw (k, t) (ap (λ (n : ℕ). Ok (frames.RefreshReply r, place n rest)) end)

-- the asker is a node, its request has a number, and what is left is 13 bytes shorter
pub record Asks (at : Place) (a : ℕ × (ℕ × Bool)) (after : Place) : Type 0 where
  pub node : a.0 ≤ 63
  pub request : IsTrue (is_request a.1.0)
  pub len : length after.rest + 13 ≡ length at.rest

pub asker_read : (at : Place) (a : ℕ × (ℕ × Bool)) (after : Place) → IsBytes at.rest → read_asker at ≡ Ok (a, after) → Asks at a after
asker_read at a after fits e =
    let t = (asker_if at fits).holds a after e in
    record { node = t.node; request = t.request; len = omega (arith, ap length t.takes.parts, length-append (asker_spelling a.0 a.1.0 a.1.1) after.rest) }

-- an ask that is read passes the test of one
pub ask_read_passes : (node : ℕ) (at mid after : Place) (p : Proc) (n : ℕ) → IsBytes at.rest → read_proc admits.ClientsAndHost at ≡ Ok (p, mid) → read_level mid ≡ Ok (n, after)
    → IsTrue (is_ask (commit_ask node p n))
ask_read_passes node at mid after p n fits e f =
    let t = (proc_if admits.ClientsAndHost at fits).holds p mid e in
    let l = (level_if mid (IsBytes-after (proc_spelling p) fits t.takes)).holds n after f in
    and_from _ _ t.admitted l.is
