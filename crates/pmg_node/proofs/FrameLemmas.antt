-- Frames that are ignored or taken.
use Rattle.std.proofs.Common.{◌≡◌, ◌<◌, ◌≤◌, arith, ℕ, nat_lt, Bool, true, false, ◌&&◌, ◌==◌, cond, List, [], ◌++◌, append-nil, Some, Ok, refl, sym, ap, ◌∙◌}
use Rattle.std.proofs.lemmas.Bool.Decides.{nat_tests}
use Rattle.pmg_value.specs.CheckOrder.{first_of}
use Rattle.pmg_value.specs.declared.process.Proc.{Proc}
use Rattle.pmg_commit.specs.Data.{Data, level_at}
use Rattle.pmg_frame.specs.Fences.{CommitAsk}
use Rattle.pmg_frame.specs.Refreshing.{RefreshAsk}
use Rattle.pmg_frame.specs.declared.frame.Frame.{Frame}
use Rattle.pmg_frame.specs.declared.frame.Frame.TheVariants as frames
use Rattle.pmg_jobinfo.specs.Jobs.{Jobs, home_of}
use Rattle.pmg_fence.specs.Tables.{Fences}
use Rattle.pmg_dmodex.specs.Levels.{Levels}
use Rattle.pmg_node_model.specs.Acts.{Act, Done, Reply, done_as, holds_unless, cause, is_known, is_peer, is_taken, receives, does, acts}
use Rattle.pmg_node_model.specs.Choosing.{Out, asked_marks, answering, replying, due_by, due_by_frame, marked_by_act, sends, chosen}
use Rattle.pmg_node_model.specs.Holdings.{NodeState, sealer_of, holding_ask, settled}
use Rattle.pmg_node_model.specs.Kept.{IsSettled}
use Rattle.pmg_node_model.specs.declared.due.ToSend.{ToSend}
use Rattle.pmg_node_model.specs.declared.sent.Sent.{Sent}
use Rattle.pmg_node_parts.specs.Owns.{LocalCommits, sealed_of}
use Rattle.pmg_node.specs.Servers.{Server, IsNode, after, reply_to, sent_by}
use Rattle.pmg_node_model.proofs.KeptSettled.{settled_same}
use Rattle.pmg_node.proofs.SilentLemmas.{act_free, sent_as, quiet_silent, after_is, sent_none}

pub below_is : (m n : ℕ) → m < n → nat_lt m n ≡ true
below_is m n h = grind (arith, nat_tests)

pub not_below_is : (m n : ℕ) → n ≤ m → nat_lt m n ≡ false
not_below_is m n h = grind (arith, nat_tests)

-- whether a request for commits is taken
pub range_taken : (jobs : Jobs) (id : ℕ) (t : Fences) (a : CommitAsk) → is_taken jobs id t (frames.RangeAsk a) ≡ (is_peer jobs id a.node && is_known jobs a.proc && (home_of jobs a.proc == id))
unfolding is_taken
range_taken jobs id t a = refl

pub direct_taken : (jobs : Jobs) (id : ℕ) (t : Fences) (a : CommitAsk) → is_taken jobs id t (frames.DirectAsk a) ≡ (is_peer jobs id a.node && is_known jobs a.proc && (home_of jobs a.proc == id))
unfolding is_taken
direct_taken jobs id t a = refl

pub refresh_taken : (jobs : Jobs) (id : ℕ) (t : Fences) (a : RefreshAsk)
    → is_taken jobs id t (frames.RefreshAsk a) ≡ (is_peer jobs id a.ask.node && is_known jobs a.ask.proc && (home_of jobs a.ask.proc == id))
unfolding is_taken
refresh_taken jobs id t a = refl

-- the node with other marks
abbrev pub with_marks : Levels → Server → Server
with_marks marks s = record { jobs = s.jobs; id = s.id; holding = s.holding; marks = marks }

-- the node, where another one waits for a process's next commit
abbrev pub waits_for : CommitAsk → Server → Server
waits_for a s = record { jobs = s.jobs; id = s.id; holding = holding_ask s.holding a.node a.proc a.level; marks = s.marks }

-- whether the node takes the frame
abbrev pub takes_frame : Frame → Server → Bool
takes_frame frame s = is_taken s.jobs s.id s.holding.table frame

-- what it owes by the frame then
abbrev pub dues_after : Frame → Server → List ToSend
dues_after frame s = due_by s.jobs s.id s.holding (Act.deliver frame) (after s (Act.deliver frame)).holding

-- how a level that was read stands to what the process sealed
pub reaches_as : (own : LocalCommits) (p q : Proc) (read level sealed : ℕ) (b : Bool) → read ≡ level → p ≡ q → sealed ≡ (sealed_of own p).level → nat_lt read sealed ≡ b
    → nat_lt level (sealed_of own q).level ≡ b
reaches_as own p q read level sealed b same its top is = (λ i. nat_lt (sym same i) (sealed_of own (sym its i)).level) ∙ ap (nat_lt read) (sym top) ∙ is

-- and whether more commits of the process come to be known, by levels that were read
pub rises_as : (far grown was then : Data) (p q : Proc) (low high : ℕ) (b : Bool) → was ≡ far → then ≡ grown → p ≡ q → low ≡ level_at was p → high ≡ level_at then p → nat_lt low high ≡ b
    → nat_lt (level_at far q) (level_at grown q) ≡ b
rises_as far grown was then p q low high b fars growns its lows highs is =
    (λ i. nat_lt (level_at (sym fars i) (sym its i)) (level_at (sym growns i) (sym its i))) ∙ (λ i. nat_lt (sym lows i) (sym highs i)) ∙ is

module _ (jobs : Jobs) (id : ℕ) (h : NodeState) where
  pub deliver_free : (frame : Frame) → first_of (cause jobs id h (Act.deliver frame)) (tt {0}) ≡ Ok tt
  unfolding cause
  deliver_free frame = refl

  -- the frame is ignored, or taken
  pub deliver_by : (frame : Frame) (b : Bool) → is_taken jobs id h.table frame ≡ b
      → acts jobs id h (Act.deliver frame) ≡ done_as (cond b Reply.taken Reply.ignored) (settled jobs id (cond b (receives jobs id h frame) h))
  unfolding does
  deliver_by frame true e =
      act_free jobs id h (Act.deliver frame) (deliver_free frame)
      ∙ ap (λ (b : Bool). let d = cond b (done_as Reply.taken (receives jobs id h frame)) (done_as Reply.ignored h) in done_as d.reply (settled jobs id d.left)) e
  deliver_by frame false e =
      act_free jobs id h (Act.deliver frame) (deliver_free frame)
      ∙ ap (λ (b : Bool). let d = cond b (done_as Reply.taken (receives jobs id h frame)) (done_as Reply.ignored h) in done_as d.reply (settled jobs id d.left)) e

  module _ (is : IsSettled jobs id h) where
    pub ignored_is : (frame : Frame) → is_taken jobs id h.table frame ≡ false → acts jobs id h (Act.deliver frame) ≡ done_as Reply.ignored h
    ignored_is frame e = deliver_by frame false e ∙ ap (done_as Reply.ignored) (settled_same jobs id h is)

    pub ignored_silent : (marks : Levels) (frame : Frame) → is_taken jobs id h.table frame ≡ false → chosen jobs id h marks (Act.deliver frame) ≡ record { frames = []; marks = marks }
    ignored_silent marks frame e = quiet_silent jobs id h (Act.deliver frame) marks (done_as Reply.ignored h) (ignored_is frame e) refl

    -- a request for commits
    pub range_is : (a : CommitAsk) → is_taken jobs id h.table (frames.RangeAsk a) ≡ true → acts jobs id h (Act.deliver (frames.RangeAsk a)) ≡ done_as Reply.taken h
    unfolding receives
    range_is a e = deliver_by (frames.RangeAsk a) true e ∙ ap (done_as Reply.taken) (settled_same jobs id h is)

    pub range_sent : (marks : Levels) (a : CommitAsk) → is_taken jobs id h.table (frames.RangeAsk a) ≡ true
        → chosen jobs id h marks (Act.deliver (frames.RangeAsk a)) ≡ sends (sealer_of h) (asked_marks marks (Some a)) (answering h a.node a.proc a.level)
    unfolding due_by due_by_frame marked_by_act
    range_sent marks a e = sent_as jobs id h (Act.deliver (frames.RangeAsk a)) marks (done_as Reply.taken h) (range_is a e) refl

    -- a request for commits that is made anew
    pub refresh_is : (a : RefreshAsk) → is_taken jobs id h.table (frames.RefreshAsk a) ≡ true → acts jobs id h (Act.deliver (frames.RefreshAsk a)) ≡ done_as Reply.taken h
    unfolding receives
    refresh_is a e = deliver_by (frames.RefreshAsk a) true e ∙ ap (done_as Reply.taken) (settled_same jobs id h is)

    pub refresh_sent : (marks : Levels) (a : RefreshAsk) → is_taken jobs id h.table (frames.RefreshAsk a) ≡ true
        → chosen jobs id h marks (Act.deliver (frames.RefreshAsk a)) ≡ sends (sealer_of h) (asked_marks marks (Some a.ask)) (replying h a)
    unfolding due_by due_by_frame marked_by_act
    refresh_sent marks a e = sent_as jobs id h (Act.deliver (frames.RefreshAsk a)) marks (done_as Reply.taken h) (refresh_is a e) refl

    -- a request for commits that waits for the next one where none were made
    settled_held : (b : Bool) (node : ℕ) (p : Proc) (level : ℕ) → settled jobs id (holds_unless b h node p level) ≡ holds_unless b h node p level
    settled_held true node p level = settled_same jobs id h is
    settled_held false node p level = settled_same jobs id (holding_ask h node p level) (record { fences = is.fences; gets = is.gets })

    pub direct_is : (a : CommitAsk) → is_taken jobs id h.table (frames.DirectAsk a) ≡ true
        → acts jobs id h (Act.deliver (frames.DirectAsk a)) ≡ done_as Reply.taken (holds_unless (nat_lt a.level (sealer_of h a.proc).level) h a.node a.proc a.level)
    unfolding receives
    direct_is a e = deliver_by (frames.DirectAsk a) true e ∙ ap (done_as Reply.taken) (settled_held (nat_lt a.level (sealer_of h a.proc).level) a.node a.proc a.level)

    same_out : (b : Bool) (marks : Levels) (node : ℕ) (p : Proc) (level : ℕ)
        → sends (sealer_of (holds_unless b h node p level)) marks (answering (holds_unless b h node p level) node p level) ≡ sends (sealer_of h) marks (answering h node p level)
    same_out true marks node p level = refl
    same_out false marks node p level = refl

    pub direct_sent : (marks : Levels) (a : CommitAsk) → is_taken jobs id h.table (frames.DirectAsk a) ≡ true
        → chosen jobs id h marks (Act.deliver (frames.DirectAsk a)) ≡ sends (sealer_of h) (asked_marks marks (Some a)) (answering h a.node a.proc a.level)
    unfolding due_by due_by_frame marked_by_act
    direct_sent marks a e =
        sent_as jobs id h (Act.deliver (frames.DirectAsk a)) marks (done_as Reply.taken (holds_unless (nat_lt a.level (sealer_of h a.proc).level) h a.node a.proc a.level)) (direct_is a e) refl
        ∙ same_out (nat_lt a.level (sealer_of h a.proc).level) (asked_marks marks (Some a)) a.node a.proc a.level

-- What comes of a frame that is taken: the reply, what the node is then, and what is there after what was.
pub record Takes (s : Server) (frame : Frame) (then : Server) (old new : List Sent) : Type 0 where
  pub reply : reply_to s (Act.deliver frame) ≡ Reply.taken
  pub ok : then ≡ after s (Act.deliver frame)
  pub sent : new ≡ old ++ sent_by s (Act.deliver frame)

-- Of one by which a node asks for commits, where this is what is left, and this what is owed.
module _ (t s : Server) (view : t ≡ s) (frame : Frame) (ask : CommitAsk) (left : Server → NodeState) (owes : Server → List ToSend)
    (is : acts s.jobs s.id s.holding (Act.deliver frame) ≡ done_as Reply.taken (left s))
    (goes : chosen s.jobs s.id s.holding s.marks (Act.deliver frame) ≡ sends (sealer_of s.holding) (asked_marks s.marks (Some ask)) (owes s)) where
  abbrev out_for : Server → List ToSend → Out
  out_for x dues = sends (sealer_of x.holding) (asked_marks x.marks (Some ask)) dues

  pub asked_steps : (dues : List ToSend) (marks : Levels) (old new : List Sent) → dues ≡ owes t → marks ≡ (out_for t dues).marks → new ≡ old ++ (out_for t dues).frames
      → Takes s frame (record { jobs = t.jobs; id = t.id; holding = left t; marks = marks }) old new
  asked_steps dues marks old new due marks_are put = record {
    reply = ap (λ (d : Done). d.reply) is;
    ok = (λ i. record { jobs = t.jobs; id = t.id; holding = left t; marks = (marks_are ∙ ap (λ (ds : List ToSend). (out_for t ds).marks) due) i })
        ∙ ap (λ (x : Server). record { jobs = x.jobs; id = x.id; holding = left x; marks = (out_for x (owes x)).marks }) view
        ∙ sym (λ i. record { jobs = s.jobs; id = s.id; holding = (is i).left; marks = (goes i).marks });
    sent = put
        ∙ ap (λ (ds : List ToSend). old ++ (out_for t ds).frames) due
        ∙ ap (λ (x : Server). old ++ (out_for x (owes x)).frames) view
        ∙ ap (λ (o : Out). old ++ o.frames) (sym goes);
  }

-- a request for commits, which waits for the next one where none were made
pub direct_steps : (t s : Server) → t ≡ s → IsNode s → (ask : CommitAsk) → is_taken s.jobs s.id s.holding.table (frames.DirectAsk ask) ≡ true → (b : Bool)
    → nat_lt ask.level (sealer_of t.holding ask.proc).level ≡ b → (dues : List ToSend) (marks : Levels) (old new : List Sent) → dues ≡ answering t.holding ask.node ask.proc ask.level
    → marks ≡ (sends (sealer_of t.holding) (asked_marks t.marks (Some ask)) dues).marks → new ≡ old ++ (sends (sealer_of t.holding) (asked_marks t.marks (Some ask)) dues).frames
    → Takes s (frames.DirectAsk ask) (record { jobs = t.jobs; id = t.id; holding = holds_unless b t.holding ask.node ask.proc ask.level; marks = marks }) old new
direct_steps t s view kept ask taken b level =
    let over = ap (λ (x : Server). nat_lt ask.level (sealer_of x.holding ask.proc).level) (sym view) ∙ level in
    let held = ap (λ (b : Bool). done_as Reply.taken (holds_unless b s.holding ask.node ask.proc ask.level)) over in
    asked_steps t s view (frames.DirectAsk ask) ask (λ x. holds_unless b x.holding ask.node ask.proc ask.level) (λ x. answering x.holding ask.node ask.proc ask.level)
    (direct_is s.jobs s.id s.holding kept.server.settled ask taken ∙ held) (direct_sent s.jobs s.id s.holding kept.server.settled s.marks ask taken)

-- a frame that is not taken changes nothing, and nothing goes out after what is there
pub record Ignores (s : Server) (frame : Frame) (out : List Sent) : Type 0 where
  pub reply : reply_to s (Act.deliver frame) ≡ Reply.ignored
  pub ok : s ≡ after s (Act.deliver frame)
  pub sent : out ≡ out ++ sent_by s (Act.deliver frame)

pub ignores : (s : Server) → IsNode s → (frame : Frame) → is_taken s.jobs s.id s.holding.table frame ≡ false → (out : List Sent) → Ignores s frame out
ignores s kept frame none out =
    let is = ignored_is s.jobs s.id s.holding kept.server.settled frame none in
    let silent = ignored_silent s.jobs s.id s.holding kept.server.settled s.marks frame none in
    record {
      reply = ap (λ (d : Done). d.reply) is;
      ok = sym (after_is s (Act.deliver frame) silent _ is);
      sent = sym (append-nil out) ∙ ap (λ (x : List Sent). out ++ x) (sym (sent_none s (Act.deliver frame) silent));
    }
