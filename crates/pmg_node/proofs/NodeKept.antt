-- What a node keeps stays so.
use Rattle.std.proofs.Common.{◌≡◌, ℕ, Bool, true, false, cond, Some, is_some, refl, ap, ◌∙◌}
use Rattle.std.specs.FinMap as finite
use Rattle.std.specs.Ordering.{eq_by_cmp}
use Rattle.pmg_value.specs.Process.{proc_cmp, is_host}
use Rattle.pmg_value.specs.declared.process.Proc.{Proc}
use Rattle.pmg_value.proofs.ProcessOrder.{procs_total}
use Rattle.pmg_commit.specs.Sealed.{Sealed, sealed_with, ended_with}
use Rattle.pmg_pset.specs.Changes.{definition, deletion}
use Rattle.pmg_pset.specs.Sets.{host, set_changed}
use Rattle.pmg_frame.specs.declared.frame.Frame.{Frame}
use Rattle.pmg_frame.specs.declared.frame.Frame.TheVariants as frames
use Rattle.pmg_jobinfo.specs.Jobs.{Jobs}
use Rattle.std.specs.Prelude.{nat_lt, if◌then◌else◌}
use Rattle.pmg_node_model.specs.Acts.{Act, Request, Reply, done_as, members_of, is_taken, holds_unless, receives, serves, does, acts}
use Rattle.pmg_node_model.specs.Holdings.{NodeState, sealing, sealer_of, call_of, answer_in}
use Rattle.pmg_node.specs.Servers.{Server, after, HasSealers, IsNode}
use Rattle.pmg_node_model.proofs.CallEnds.{ends_left, asks_left}
use Rattle.pmg_node_model.proofs.KeptActs.{server_stays}
use Rattle.pmg_node_model.proofs.KeptBasics.{act_cases}
use Rattle.pmg_node.proofs.MarksKept.{mark_stays}

still_there : (h : NodeState) (by : Proc) (z : Sealed) (p : Proc) (b : Bool) → is_some (finite.get h.sealers p) ≡ true → is_some (finite.get (cond b h.sealers (finite.insert h.sealers by z)) p) ≡ true
still_there h by z p true there = there
still_there h by z p false there =
    ap is_some (finite.get-insert procs_total h.sealers by z p)
    ∙ elim (eq_by_cmp proc_cmp p by) as (λ b. is_some (cond b (Some z) (finite.get h.sealers p)) ≡ true) [ true ↦ refl | false ↦ there ]

-- a frame is taken or ignored
pub delivered : (jobs : Jobs) (id : ℕ) (h : NodeState) (P : NodeState → Type 0) (frame : Frame) (b : Bool) → P (receives jobs id h frame) → P h
    → P (if b then done_as Reply.taken (receives jobs id h frame) else done_as Reply.ignored h).left
delivered jobs id h P frame true taken ignored = taken
delivered jobs id h P frame false taken ignored = ignored

module _ (jobs : Jobs) (id : ℕ) (h : NodeState) (has : HasSealers jobs id h) where
  abbrev pub Has : NodeState → Type 0
  Has g = HasSealers jobs id g

  sealing_has : (by : Proc) (z : Sealed) → Has (sealing h by z)
  sealing_has by z p own = still_there h by z p (is_host by) (has p own)

  serve_has : (r : Request) → Has (serves jobs id h r).left
  unfolding serves
  serve_has (Request.enter p list collect) = has
  serve_has (Request.leave p) = (ends_left h p Has has has (call_of h p)).0
  serve_has (Request.ask p get mode) = asks_left h p get mode Has has has (answer_in jobs id h get mode)
  serve_has (Request.take p) = (ends_left h p Has has has (call_of h p)).1
  serve_has (Request.terminate p) = sealing_has p (ended_with (sealer_of h p))
  serve_has (Request.define name list) = sealing_has host (set_changed h.sets name (definition name (members_of jobs list)).bytes)
  serve_has (Request.delete name) = sealing_has host (set_changed h.sets name (deletion name).bytes)
  serve_has Request.nudge = has

  hold_has : (b : Bool) (node : ℕ) (p : Proc) (level : ℕ) → Has (holds_unless b h node p level)
  hold_has true node p level = has
  hold_has false node p level = has

  receive_has : (frame : Frame) → Has (receives jobs id h frame)
  unfolding receives
  receive_has (frames.Piece c) = has
  receive_has (frames.Header hd) = has
  receive_has (frames.FenceAsk a) = has
  receive_has (frames.RangeAsk a) = has
  receive_has (frames.DirectAsk a) = hold_has (nat_lt a.level (sealer_of h a.proc).level) a.node a.proc a.level
  receive_has (frames.RefreshAsk a) = has
  receive_has (frames.RefreshReply r) = has

  do_has : (a : Act) → Has (does jobs id h a).left
  unfolding does
  do_has (Act.request r) = serve_has r
  do_has (Act.commit p b) = sealing_has p (sealed_with (sealer_of h p) b)
  do_has (Act.deliver frame) = delivered jobs id h Has frame (is_taken jobs id h.table frame) (receive_has frame) has

  pub sealers_stay : (a : Act) → Has (acts jobs id h a).left
  sealers_stay a = act_cases jobs id h a (λ d. Has d.left) (λ free. do_has a) (λ e. has)

-- and so does a node
pub node_stays : (s : Server) (a : Act) → IsNode s → IsNode (after s a)
node_stays s a is = record {
  jobs = is.jobs;
  node = is.node;
  server = server_stays s.jobs s.id s.holding a is.server;
  sealers = sealers_stay s.jobs s.id s.holding is.sealers a;
  marks = λ p node i peer. mark_stays p node s.jobs s.id s.holding s.marks a (is.marks p node i peer);
}
