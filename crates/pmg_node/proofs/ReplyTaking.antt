-- A reply to a get that asked anew is taken.
use Rattle.std.proofs.Common.{◌≡◌, ℕ, nat_lt, Bool, true, false, cond, List, [], ◌∷◌, ◌++◌, map, Option, Some, None, refl, sym, ap, subst, ◌∙◌}
use Rattle.std.specs.Prelude.{if◌then◌else◌}
use Rattle.std.specs.FinMap as finite
use Rattle.std.specs.List.{flat_map}
use Rattle.pmg_value.specs.Process.{proc_cmp}
use Rattle.pmg_value.specs.declared.process.Proc.{Proc}
use Rattle.pmg_value.proofs.ProcessOrder.{procs_total}
use Rattle.pmg_value.proofs.RowLemmas.{entries_rising}
use Rattle.pmg_commit.specs.Data.{Data, absorbed, level_at}
use Rattle.pmg_commit.specs.Knowledge.{Contribution}
use Rattle.pmg_frame.specs.Refreshing.{RefreshReply, told_by}
use Rattle.pmg_frame.specs.declared.frame.Frame.TheVariants as frames
use Rattle.pmg_jobinfo.specs.Jobs.{Jobs}
use Rattle.pmg_fence.proofs.IndexLemmas.{keys_rise}
use Rattle.pmg_dmodex.specs.Levels.{Levels}
use Rattle.pmg_get.specs.declared.view.Mode.TheVariants as modes
use Rattle.pmg_node_model.specs.Acts.{Act, Reply, Done, done_as, is_taken, receives, acts}
use Rattle.pmg_node_model.specs.Choosing.{asking_home, asking_again, is_parked_on, due_by, due_by_frame, marked_by_act, sends}
use Rattle.pmg_node_model.specs.Holdings.{CallState, NodeState, sealer_of, joined, with_far, with_calls, answer_in, mapped, settled, is_replied, answer_reply, with_reply}
use Rattle.pmg_node_model.specs.Kept.{IsSettled, DiffersAt, is_about, settle_where}
use Rattle.pmg_node_model.specs.declared.due.ToSend.{ToSend}
use Rattle.pmg_node_model.proofs.KeptAgain.{settled_on, piece_differs}
use Rattle.pmg_node_model.proofs.KeptChanges.{replied_some, reply_in_fence, reply_parked}
use Rattle.pmg_node_parts.specs.Answering.{AreAnswersThen, AreAskedAgain}
use Rattle.pmg_node_parts.specs.Calls.{all_instead}
use Rattle.pmg_node_parts.specs.Codes.{Calls}
use Rattle.pmg_node_parts.specs.declared.call.Completion.{Completion}
use Rattle.pmg_node.specs.Servers.{Server, after}
use Rattle.pmg_node.proofs.FrameLemmas.{deliver_by}
use Rattle.pmg_node.proofs.PieceLemmas.{Tells, tells, mapped_calls}

-- ---- what is told

-- what is told is of the process
abbrev IsOf : Proc → Option Contribution → Type 0
IsOf q None = Unit {0}
IsOf q (Some c) = c.proc ≡ q

told_of : (r : RefreshReply) → IsOf r.told.proc (told_by r)
told_of r = by_test (nat_lt r.told.from r.told.to)
  where
    by_test : (b : Bool) → IsOf r.told.proc (cond b (Some r.told) None)
    by_test true = refl
    by_test false = tt

told_differs : (jobs : Jobs) (id : ℕ) (h : NodeState) (q : Proc) (told : Option Contribution) → IsOf q told → DiffersAt jobs id q h (with_far h (joined h.far told))
told_differs jobs id h q None of = record { calls = λ p s e apart. e; near = λ p other. refl; far = λ p other. refl; old = λ f young. young; told = λ f p young none. refl }
told_differs jobs id h q (Some c) of = subst (λ (p : Proc). DiffersAt jobs id p h (with_far h (absorbed h.far c))) of (piece_differs jobs id h c)

-- ---- the calls

-- the calls that f makes, in the order of their processes
entries_mapped : (f : CallState → CallState) (m : Calls) → finite.entries (mapped f m) ≡ map (λ e. (e.0, f e.1)) (finite.entries m)
unfolding mapped
entries_mapped f m = entries_rising procs_total f (finite.entries m) (keys_rise proc_cmp m)

module _ (jobs : Jobs) (id : ℕ) (h : NodeState) (number : ℕ) (q : Proc) where
  -- the calls, once the get that waits for the reply is answered
  abbrev pub replied : Calls → Calls
  replied m = mapped (answer_reply jobs id h number q) m

  abbrev pub later : CallState → CallState
  later = settle_where jobs id h (is_about q)

  replied_settled : (g : NodeState) → g.table ≡ h.table → (m : Calls) → m ≡ h.calls → IsSettled jobs id (with_calls g m) → IsSettled jobs id (with_calls g (replied m))
  replied_settled g tables m same is = record {
    fences = λ p f e.
        let was = replied_some jobs id h number q p (CallState.in_fence f) (ap (λ (x : Calls). finite.get (replied x) p) (sym same) ∙ e) in
        is.fences p f (ap (λ (x : Calls). finite.get x p) same ∙ was.1 ∙ ap Some (reply_in_fence jobs id h number q was.0 f was.2));
    gets = λ p get e.
        let was = replied_some jobs id h number q p (CallState.parked get) (ap (λ (x : Calls). finite.get (replied x) p) (sym same) ∙ e) in
        is.gets p get (ap (λ (x : Calls). finite.get x p) same ∙ was.1 ∙ ap Some (reply_parked jobs id h number q was.0 get was.2));
  }

  -- a get that asks anew waits for no direct answer, nor does one that is answered
  replied_alike : (s : CallState) → is_parked_on q (later (answer_reply jobs id h number q s)) ≡ is_parked_on q (later s)
  replied_alike (CallState.in_fence f) = refl
  replied_alike (CallState.released f gone) = refl
  replied_alike (CallState.parked get) = refl
  replied_alike (CallState.answered get outcome) = refl
  replied_alike (CallState.refreshed get outcome) = refl
  replied_alike (CallState.refreshing get waits_for) = by_test (is_replied number q get waits_for)
    where
      by_test : (b : Bool)
          → is_parked_on q (later (if b then CallState.refreshed get (answer_in jobs id h get modes.Now) else CallState.refreshing get waits_for)) ≡ is_parked_on q (later (CallState.refreshing get waits_for))
      by_test true = refl
      by_test false = refl

  rows_alike : (x : List ToSend) (rows : List (Proc × CallState))
      → flat_map (λ (e : Proc × CallState). if is_parked_on q e.1 then x else []) (map (λ (e : Proc × CallState). (e.0, later e.1)) (map (λ (e : Proc × CallState). (e.0, answer_reply jobs id h number q e.1)) rows))
      ≡ flat_map (λ (e : Proc × CallState). if is_parked_on q e.1 then x else []) (map (λ (e : Proc × CallState). (e.0, later e.1)) rows)
  rows_alike x [] = refl
  rows_alike x (e ∷ rows) = λ i. (if replied_alike e.1 i then x else []) ++ rows_alike x rows i

  -- so the same homes are asked again
  pub asked_alike : (x : List ToSend) (m : Calls)
      → flat_map (λ (e : Proc × CallState). if is_parked_on q e.1 then x else []) (finite.entries (mapped later (replied m)))
      ≡ flat_map (λ (e : Proc × CallState). if is_parked_on q e.1 then x else []) (finite.entries (mapped later m))
  asked_alike x m =
      let sent = flat_map (λ (e : Proc × CallState). if is_parked_on q e.1 then x else []) in
      ap sent (entries_mapped later (replied m) ∙ ap (map (λ (e : Proc × CallState). (e.0, later e.1))) (entries_mapped (answer_reply jobs id h number q) m))
      ∙ rows_alike x (finite.entries m)
      ∙ ap sent (sym (entries_mapped later m))

-- ---- the act

-- the node, once what is told is joined, with these calls and marks
abbrev pub with_told : Option Contribution → Calls → Levels → Server → Server
with_told told calls marks s = record { jobs = s.jobs; id = s.id; holding = with_calls (with_far s.holding (joined s.holding.far told)) calls; marks = marks }

module _ (s : Server) (r : RefreshReply) (taken : is_taken s.jobs s.id s.holding.table (frames.RefreshReply r) ≡ true) where
  abbrev a : Act
  a = Act.deliver (frames.RefreshReply r)

  abbrev q : Proc
  q = r.told.proc

  abbrev grown : NodeState
  grown = with_far s.holding (joined s.holding.far (told_by r))

  abbrev answered : NodeState
  answered = with_reply s.jobs s.id grown r.request q

  is_done : acts s.jobs s.id s.holding a ≡ done_as Reply.taken (settled s.jobs s.id answered)
  unfolding receives
  is_done = deliver_by s.jobs s.id s.holding (frames.RefreshReply r) true taken

  pub reply_tells : Tells s (frames.RefreshReply r) answered q
  unfolding marked_by_act due_by due_by_frame
  reply_tells = tells s (frames.RefreshReply r) answered q is_done refl (λ h. refl)

  module _ (kept : IsSettled s.jobs s.id s.holding) where
    -- the node, where the get that waits for the reply is answered by what is known before
    abbrev was : NodeState
    was = with_calls s.holding (replied s.jobs s.id grown r.request q s.holding.calls)

    pub reply_calls : (after s a).holding.calls ≡ mapped (later s.jobs s.id grown r.request q) (replied s.jobs s.id grown r.request q s.holding.calls)
    reply_calls =
        ap (λ (d : Done). d.left.calls) is_done
        ∙ ap (λ (h : NodeState). h.calls)
        (settled_on s.jobs s.id q was answered (replied_settled s.jobs s.id grown r.request q s.holding refl s.holding.calls refl kept) (told_differs s.jobs s.id was q (told_by r) (told_of r)))
        ∙ sym (mapped_calls s.jobs s.id grown (replied s.jobs s.id grown r.request q s.holding.calls) (is_about q) (replied s.jobs s.id grown r.request q s.holding.calls))

    -- what is answered
    pub reply_answers : (number : ℕ) (p : Proc) → number ≡ r.request → p ≡ q → (answers : List (Proc × Completion))
        → AreAnswersThen s.jobs s.id number p s.holding.table s.holding.near (joined s.holding.far (told_by r)) s.holding.calls answers
        → all_instead s.holding.calls answers ≡ (after s a).holding.calls
    reply_answers number p numbers same answers are =
        are grown refl refl refl
        ∙ (λ i. mapped (later s.jobs s.id grown (numbers i) (same i)) (replied s.jobs s.id grown (numbers i) (same i) s.holding.calls))
        ∙ sym reply_calls

    -- what is due, where more commits come to be known
    pub reply_asks : (p : Proc) → p ≡ q → (dues : List ToSend)
        → AreAskedAgain s.jobs s.id p s.holding.table s.holding.near (joined s.holding.far (told_by r)) s.holding.calls dues
        → nat_lt (level_at s.holding.far q) (level_at (joined s.holding.far (told_by r)) q) ≡ true → dues ≡ due_by s.jobs s.id s.holding a (after s a).holding
    reply_asks p same dues are more =
        let settled_calls = mapped (settle_where s.jobs s.id grown (is_about p)) s.holding.calls in
        let soon = with_calls grown settled_calls in
        are soon refl refl refl (mapped_calls s.jobs s.id grown settled_calls (is_about p) s.holding.calls)
        ∙ ap (λ (x : Proc). asking_again s.jobs s.id (with_calls grown (mapped (settle_where s.jobs s.id grown (is_about x)) s.holding.calls)) x) same
        ∙ sym (asked_alike s.jobs s.id grown r.request q (asking_home s.jobs s.id grown q) s.holding.calls)
        ∙ ap (λ (m : Calls). flat_map (λ (e : Proc × CallState). if is_parked_on q e.1 then asking_home s.jobs s.id grown q else []) (finite.entries m)) (sym reply_calls)
        ∙ reply_tells.due true more

-- the node once the reply is taken, where its parts are so
pub reply_moved : (s t : Server) (r : RefreshReply) → t ≡ s → is_taken s.jobs s.id s.holding.table (frames.RefreshReply r) ≡ true
    → (near far : Data) (calls : Calls) (held marks : Levels) (requests : ℕ) (answers : List (Proc × Completion)) (dues : List ToSend)
    → near ≡ t.holding.near → far ≡ joined t.holding.far (told_by r) → calls ≡ all_instead t.holding.calls answers → held ≡ t.holding.held → requests ≡ t.holding.requests
    → marks ≡ (sends (sealer_of t.holding) t.marks dues).marks
    → all_instead s.holding.calls answers ≡ (after s (Act.deliver (frames.RefreshReply r))).holding.calls
    → dues ≡ due_by s.jobs s.id s.holding (Act.deliver (frames.RefreshReply r)) (after s (Act.deliver (frames.RefreshReply r))).holding
    → record {
      jobs = t.jobs;
      id = t.id;
      holding = record { near = near; far = far; sealers = t.holding.sealers; sets = t.holding.sets; table = t.holding.table; calls = calls; held = held; requests = requests };
      marks = marks;
    } ≡ after s (Act.deliver (frames.RefreshReply r))
reply_moved s t r same taken near far calls held marks requests answers dues nears fars answered holds counted out whole due =
    (λ i. record {
      jobs = t.jobs;
      id = t.id;
      holding = record {
        near = nears i;
        far = fars i;
        sealers = t.holding.sealers;
        sets = t.holding.sets;
        table = t.holding.table;
        calls = answered i;
        held = holds i;
        requests = counted i;
      };
      marks = out i;
    })
    ∙ ap (λ (x : Server). with_told (told_by r) (all_instead x.holding.calls answers) (sends (sealer_of x.holding) x.marks dues).marks x) same
    ∙ ap (λ (m : Calls). with_told (told_by r) m (sends (sealer_of s.holding) s.marks dues).marks s) whole
    ∙ sym ((reply_tells s r taken).moved dues due)
