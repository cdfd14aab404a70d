-- Pieces that are taken.
use Rattle.std.proofs.Common.{◌≡◌, ℕ, ◌==◌, nat_lt, Bool, true, false, cond, List, [], length, refl, sym, ap, ◌∙◌, arith}
use Rattle.std.proofs.lemmas.Bool.Decides.{nat_tests}
use Rattle.std.proofs.lemmas.List.{nil_from_length}
use Rattle.pmg_value.specs.declared.process.Proc.{Proc}
use Rattle.pmg_commit.specs.Data.{Data, absorbed, level_at}
use Rattle.pmg_commit.specs.Knowledge.{Contribution}
use Rattle.pmg_frame.specs.declared.frame.Frame.{Frame}
use Rattle.pmg_frame.specs.declared.frame.Frame.TheVariants as frames
use Rattle.pmg_jobinfo.specs.Jobs.{Jobs}
use Rattle.pmg_dmodex.specs.Levels.{Levels}
use Rattle.pmg_node_model.specs.Acts.{Act, Reply, Done, done_as, is_taken, receives, acts}
use Rattle.pmg_node_parts.specs.Answering.{AreAnswers, AreAskedAgain}
use Rattle.pmg_node_parts.specs.Calls.{all_instead}
use Rattle.pmg_node_model.specs.Choosing.{Out, asking_again, asking_risen, due_by, due_by_frame, marked_by_act, sends, chosen}
use Rattle.pmg_node_parts.specs.Codes.{Calls}
use Rattle.pmg_node_model.specs.Holdings.{CallState, NodeState, sealer_of, with_far, with_calls, mapped, settle, settled}
use Rattle.pmg_node_model.specs.Kept.{IsSettled, is_about, settle_where}
use Rattle.pmg_node_model.specs.Sending.{is_quiet}
use Rattle.pmg_node.specs.Servers.{Server, reply_to, sent_by, after}
use Rattle.pmg_node_parts.specs.declared.call.Completion.{Completion}
use Rattle.pmg_node_model.specs.declared.due.ToSend.{ToSend}
use Rattle.pmg_node.proofs.FrameLemmas.{deliver_by, dues_after}
use Rattle.pmg_node_model.proofs.KeptAgain.{settled_on, piece_differs}
use Rattle.pmg_node.proofs.SilentLemmas.{sent_as}

no_length : (n : ℕ) → (n == 0) ≡ true → n ≡ 0
no_length n e = grind (arith, nat_tests)

-- a list without items
pub none_due : (dues : List ToSend) → (length dues == 0) ≡ true → dues ≡ []
none_due dues e = nil_from_length dues (no_length (length dues) e)

-- the node, once the piece is joined, with these calls and marks
abbrev pub with_piece : Contribution → Calls → Levels → Server → Server
with_piece c calls marks s = record { jobs = s.jobs; id = s.id; holding = with_calls (with_far s.holding (absorbed s.holding.far c)) calls; marks = marks }

-- to settle looks at no calls
settle_calls : (jobs : Jobs) (id : ℕ) (h : NodeState) (calls : Calls) (x : CallState) → settle jobs id (with_calls h calls) x ≡ settle jobs id h x
settle_calls jobs id h calls (CallState.in_fence f) = refl
settle_calls jobs id h calls (CallState.released f gone) = refl
settle_calls jobs id h calls (CallState.parked get) = refl
settle_calls jobs id h calls (CallState.answered get outcome) = refl
settle_calls jobs id h calls (CallState.refreshing get number) = refl
settle_calls jobs id h calls (CallState.refreshed get outcome) = refl

pub mapped_calls : (jobs : Jobs) (id : ℕ) (h : NodeState) (calls : Calls) (looks : CallState → Bool) (m : Calls)
    → mapped (settle_where jobs id h looks) m ≡ mapped (settle_where jobs id (with_calls h calls) looks) m
mapped_calls jobs id h calls looks m = λ i. mapped (λ x. cond (looks x) (sym (settle_calls jobs id h calls x) i) x) m

-- What comes of a frame that tells more, after which this is held before the calls are settled: the reply, what is left but for the
-- calls, and by what is due then, what is sent.
pub record Tells (s : Server) (frame : Frame) (held : NodeState) (q : Proc) : Type 0 where
  pub reply : reply_to s (Act.deliver frame) ≡ Reply.taken
  pub left : (after s (Act.deliver frame)).holding ≡ with_calls held (after s (Act.deliver frame)).holding.calls
  pub sent : (dues : List ToSend) → dues ≡ dues_after frame s → sent_by s (Act.deliver frame) ≡ (sends (sealer_of held) s.marks dues).frames
  pub moved : (dues : List ToSend) → dues ≡ dues_after frame s
      → after s (Act.deliver frame) ≡ record { jobs = s.jobs; id = s.id; holding = with_calls held (after s (Act.deliver frame)).holding.calls; marks = (sends (sealer_of held) s.marks dues).marks }
  pub due : (b : Bool) → nat_lt (level_at s.holding.far q) (level_at held.far q) ≡ b
      → cond b (asking_again s.jobs s.id (with_calls held (after s (Act.deliver frame)).holding.calls) q) [] ≡ dues_after frame s

-- so it does, where no commits are asked for by it, and where more come to be known of the process, they are asked for again
module _ (s : Server) (frame : Frame) (held : NodeState) (q : Proc)
    (is : acts s.jobs s.id s.holding (Act.deliver frame) ≡ done_as Reply.taken (settled s.jobs s.id held))
    (asked : marked_by_act s.marks (Act.deliver frame) ≡ s.marks)
    (owes : (h : NodeState) → due_by s.jobs s.id s.holding (Act.deliver frame) h ≡ asking_risen s.jobs s.id s.holding h q) where
  left_is : (after s (Act.deliver frame)).holding ≡ with_calls held (after s (Act.deliver frame)).holding.calls
  left_is =
      let e : (after s (Act.deliver frame)).holding ≡ settled s.jobs s.id held = ap (λ (d : Done). d.left) is in e ∙ ap (λ (h : NodeState). with_calls held h.calls) (sym e)

  -- what it sends, by what is due then
  out_is : (dues : List ToSend) → dues ≡ dues_after frame s → chosen s.jobs s.id s.holding s.marks (Act.deliver frame) ≡ sends (sealer_of held) s.marks dues
  out_is dues due =
      sent_as s.jobs s.id s.holding (Act.deliver frame) s.marks (acts s.jobs s.id s.holding (Act.deliver frame)) refl (ap (λ (d : Done). is_quiet d.reply) is)
      ∙ (λ i. sends (sealer_of (left_is i)) (asked i) (sym due i))

  pub tells : Tells s frame held q
  tells = record {
    reply = ap (λ (d : Done). d.reply) is;
    left = left_is;
    sent = λ dues due. ap (λ (o : Out). o.frames) (out_is dues due);
    moved = λ dues due i. record { jobs = s.jobs; id = s.id; holding = left_is i; marks = (out_is dues due i).marks };
    due = λ b more.
        ap (λ (b : Bool). cond b (asking_again s.jobs s.id (with_calls held (after s (Act.deliver frame)).holding.calls) q) []) (sym more)
        ∙ ap (λ (h : NodeState). asking_risen s.jobs s.id s.holding h q) (sym left_is)
        ∙ sym (owes (after s (Act.deliver frame)).holding);
  }

module _ (s : Server) (c : Contribution) (taken : is_taken s.jobs s.id s.holding.table (frames.Piece c) ≡ true) where
  abbrev a : Act
  a = Act.deliver (frames.Piece c)

  abbrev grown : NodeState
  grown = with_far s.holding (absorbed s.holding.far c)

  is_done : acts s.jobs s.id s.holding a ≡ done_as Reply.taken (settled s.jobs s.id grown)
  unfolding receives
  is_done = deliver_by s.jobs s.id s.holding (frames.Piece c) true taken

  pub piece_tells : Tells s (frames.Piece c) grown c.proc
  unfolding marked_by_act due_by due_by_frame
  piece_tells = tells s (frames.Piece c) grown c.proc is_done refl (λ h. refl)

  module _ (kept : IsSettled s.jobs s.id s.holding) where
    calls_are : (after s a).holding.calls ≡ mapped (settle_where s.jobs s.id grown (is_about c.proc)) s.holding.calls
    calls_are = ap (λ (d : Done). d.left.calls) is_done ∙ ap (λ (h : NodeState). h.calls) (settled_on s.jobs s.id c.proc s.holding grown kept (piece_differs s.jobs s.id s.holding c))

    looks_alike : (q : Proc) → q ≡ c.proc → mapped (settle_where s.jobs s.id grown (is_about q)) s.holding.calls ≡ (after s a).holding.calls
    looks_alike q same = ap (λ (p : Proc). mapped (settle_where s.jobs s.id grown (is_about p)) s.holding.calls) same ∙ sym calls_are

    -- what is answered
    pub piece_answers : (q : Proc) → q ≡ c.proc → (answers : List (Proc × Completion))
        → AreAnswers s.jobs s.id (is_about q) s.holding.table s.holding.near (absorbed s.holding.far c) s.holding.calls answers → all_instead s.holding.calls answers ≡ (after s a).holding.calls
    piece_answers q same answers are = are grown refl refl refl ∙ looks_alike q same

    -- what is due, where more commits come to be known
    pub piece_asks : (q : Proc) → q ≡ c.proc → (dues : List ToSend) → AreAskedAgain s.jobs s.id q s.holding.table s.holding.near (absorbed s.holding.far c) s.holding.calls dues
        → nat_lt (level_at s.holding.far c.proc) (level_at (absorbed s.holding.far c) c.proc) ≡ true → dues ≡ due_by s.jobs s.id s.holding a (after s a).holding
    piece_asks q same dues are more =
        let left = with_calls grown (after s a).holding.calls in
        are left refl refl refl (sym (looks_alike q same) ∙ mapped_calls s.jobs s.id grown (after s a).holding.calls (is_about q) s.holding.calls)
        ∙ ap (asking_again s.jobs s.id left) same
        ∙ piece_tells.due true more

    -- the same, where more commits come to be known, or else nothing is asked for
    pub piece_asks_if : (q : Proc) → q ≡ c.proc → (dues : List ToSend) → AreAskedAgain s.jobs s.id q s.holding.table s.holding.near (absorbed s.holding.far c) s.holding.calls dues
        → (b : Bool) → nat_lt (level_at s.holding.far c.proc) (level_at (absorbed s.holding.far c) c.proc) ≡ b → (b ≡ false → dues ≡ [])
        → dues ≡ due_by s.jobs s.id s.holding a (after s a).holding
    piece_asks_if q same dues are true more none = piece_asks q same dues are more
    piece_asks_if q same dues are false more none = none refl ∙ piece_tells.due false more

-- the node once the piece is taken, where its parts are so
pub piece_moved : (s t : Server) (c : Contribution) → t ≡ s → is_taken s.jobs s.id s.holding.table (frames.Piece c) ≡ true → (near far : Data) (calls : Calls) (marks : Levels) (answers : List (Proc × Completion)) (dues : List ToSend)
    → near ≡ t.holding.near → far ≡ absorbed t.holding.far c → calls ≡ all_instead t.holding.calls answers → marks ≡ (sends (sealer_of t.holding) t.marks dues).marks
    → all_instead s.holding.calls answers ≡ (after s (Act.deliver (frames.Piece c))).holding.calls → dues ≡ due_by s.jobs s.id s.holding (Act.deliver (frames.Piece c)) (after s (Act.deliver (frames.Piece c))).holding
    → record {
      jobs = t.jobs;
      id = t.id;
      holding = record { near = near; far = far; sealers = t.holding.sealers; sets = t.holding.sets; table = t.holding.table; calls = calls; held = t.holding.held; requests = t.holding.requests };
      marks = marks;
    } ≡ after s (Act.deliver (frames.Piece c))
piece_moved s t c same taken near far calls marks answers dues nears fars answered out whole due =
    (λ i. record {
      jobs = t.jobs;
      id = t.id;
      holding = record { near = nears i; far = fars i; sealers = t.holding.sealers; sets = t.holding.sets; table = t.holding.table; calls = answered i; held = t.holding.held; requests = t.holding.requests };
      marks = out i;
    })
    ∙ ap (λ (x : Server). with_piece c (all_instead x.holding.calls answers) (sends (sealer_of x.holding) x.marks dues).marks x) same
    ∙ ap (λ (m : Calls). with_piece c m (sends (sealer_of s.holding) s.marks dues).marks s) whole
    ∙ sym ((piece_tells s c taken).moved dues due)
