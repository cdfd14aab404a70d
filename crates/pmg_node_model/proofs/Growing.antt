-- Levels rise with each act, and what was there to be read stays there, whatever frames come.
use Rattle.std.proofs.Common.{◌≡◌, ◌≤◌, ℕ, Bool, true, false, nat_lt, cond, List, Option, Some, None, is_some, Result, inl, inr, sym, ap, subst, ◌∙◌, arith}
use Rattle.std.proofs.lemmas.Bool.{false≢true}
use Rattle.pmg_value.specs.declared.process.Proc.{Proc}
use Rattle.pmg_commit.specs.CoreLaws.{level-union, union_has_left}
use Rattle.pmg_commit.specs.Data.{Data, absorbed, of_contribution, known, level_at, read_at}
use Rattle.pmg_commit.specs.Knowledge.{Contribution, Knowledge, union, read}
use Rattle.pmg_commit.specs.Levels.{level}
use Rattle.pmg_commit.proofs.Joining.{known_together}
use Rattle.pmg_commit.proofs.ReadLaws.{latest_of, read_latest, read_none, read-core}
use Rattle.pmg_frame.specs.Refreshing.{told_by}
use Rattle.pmg_frame.specs.declared.frame.Frame.{Frame}
use Rattle.pmg_frame.specs.declared.frame.Frame.TheVariants as frames
use Rattle.pmg_jobinfo.specs.Jobs.{Jobs}
use Rattle.pmg_get.specs.Gets.{Outcome}
use Rattle.pmg_get.specs.declared.view.Mode.{Mode}
use Rattle.pmg_store.proofs.HonestDataLaws.{levels_rise}
use Rattle.pmg_node_model.specs.Acts.{Request, Act, Reply, Done, is_taken, done_as, leaves, takes, asks, holds_unless, receives, serves, does, cause, over, acts}
use Rattle.pmg_node_model.specs.Holdings.{Get, CallState, NodeState, sealer_of, call_of, joined, answer_in}
use Rattle.pmg_node_model.proofs.CauseFacts.{by_causes}

-- what is read of the one is read of the other too
abbrev pub ReadsMore : (List ℕ → Option (List ℕ)) → (List ℕ → Option (List ℕ)) → Type 0
ReadsMore old new = (key : List ℕ) → is_some (old key) ≡ true → is_some (new key) ≡ true

-- what is known together is read where a part of it was
reads_union : (k l : Knowledge) → ReadsMore (read k) (read (union k l))
reads_union k l key some = elim (latest_of (union k l) key) [
  | inl now ↦ ap is_some (read_latest (union k l) key now.0 now.1)
  | inr none ↦ elim (latest_of k key) [
    | inl was ↦
        let more : was.0.number ≤ level (union k l).numbers = omega (arith, was.1.readable.1, level-union k l) in
        absurd (none was.0 (union_has_left k l was.0 was.1.has) (was.1.readable.0, more))
    | inr nothing ↦ absurd (false≢true (sym (ap is_some (read_none k key nothing)) ∙ some))
  ]
]

-- no level is lower than before, and nothing is read no more
pub record Covers (d e : Data) : Type 0 where
  pub levels : (q : Proc) → level_at d q ≤ level_at e q
  pub reads : (q : Proc) → ReadsMore (read_at d q) (read_at e q)

same_level : (n : ℕ) → n ≤ n
same_level n = omega arith

covers_same : (d : Data) → Covers d d
covers_same d = record { levels = λ q. same_level _; reads = λ q key some. some }

-- a piece takes nothing away
covers_joined : (d : Data) (c : Contribution) → Covers d (absorbed d c)
covers_joined d c = record {
  levels = λ q. levels_rise d (of_contribution c) q;
  reads = λ q key some.
      let k = known d q in
      let l = known (of_contribution c) q in
      ap (λ (m : Knowledge). is_some (read m key)) (known_together d (of_contribution c) q) ∙ ap is_some (read-core (union k l) key) ∙ reads_union k l key some;
}

-- nor does what is told
covers_told : (d : Data) (o : Option Contribution) → Covers d (joined d o)
covers_told d None = covers_same d
covers_told d (Some c) = covers_joined d c

-- both stores have what they had
pub record Gains (h g : NodeState) : Type 0 where
  pub near : Covers h.near g.near
  pub far : Covers h.far g.far

-- no level is lower than before
pub record Rises (h g : NodeState) : Type 0 where
  pub near : (q : Proc) → level_at h.near q ≤ level_at g.near q
  pub far : (q : Proc) → level_at h.far q ≤ level_at g.far q

gains_still : (h : NodeState) → Gains h h
gains_still h = record { near = covers_same h.near; far = covers_same h.far }

module _ (jobs : Jobs) (id : ℕ) (h : NodeState) where
  leave_gains : (by : Proc) (c : Option CallState) → Gains h (leaves h by c).left
  leave_gains by (Some (CallState.in_fence f)) = gains_still h
  leave_gains by (Some (CallState.released f gone)) = record { near = covers_same h.near; far = covers_same h.far }
  leave_gains by (Some (CallState.parked get)) = gains_still h
  leave_gains by (Some (CallState.answered get outcome)) = gains_still h
  leave_gains by (Some (CallState.refreshing get number)) = gains_still h
  leave_gains by (Some (CallState.refreshed get outcome)) = gains_still h
  leave_gains by None = gains_still h

  take_gains : (by : Proc) (c : Option CallState) → Gains h (takes h by c).left
  take_gains by (Some (CallState.in_fence f)) = gains_still h
  take_gains by (Some (CallState.released f gone)) = gains_still h
  take_gains by (Some (CallState.parked get)) = gains_still h
  take_gains by (Some (CallState.answered get outcome)) = record { near = covers_same h.near; far = covers_same h.far }
  take_gains by (Some (CallState.refreshing get number)) = gains_still h
  take_gains by (Some (CallState.refreshed get outcome)) = record { near = covers_same h.near; far = covers_same h.far }
  take_gains by None = gains_still h

  ask_gains : (by : Proc) (get : Get) (mode : Mode) (o : Outcome) → Gains h (asks h by get mode o).left
  ask_gains by get mode Outcome.parks = record { near = covers_same h.near; far = covers_same h.far }
  ask_gains by get mode (Outcome.found value) = gains_still h
  ask_gains by get mode Outcome.absent = gains_still h
  ask_gains by get mode Outcome.outside = gains_still h

  held_gains : (b : Bool) (from : ℕ) (p : Proc) (level : ℕ) → Gains h (holds_unless b h from p level)
  held_gains true from p level = gains_still h
  held_gains false from p level = record { near = covers_same h.near; far = covers_same h.far }

  frame_gains : (frame : Frame) → Gains h (receives jobs id h frame)
  unfolding receives
  frame_gains (frames.Piece c) = record { near = covers_same h.near; far = covers_joined h.far c }
  frame_gains (frames.Header hd) = record { near = covers_same h.near; far = covers_same h.far }
  frame_gains (frames.FenceAsk a) = record { near = covers_same h.near; far = covers_same h.far }
  frame_gains (frames.RangeAsk a) = gains_still h
  frame_gains (frames.DirectAsk a) = held_gains (nat_lt a.level (sealer_of h a.proc).level) a.node a.proc a.level
  frame_gains (frames.RefreshAsk a) = gains_still h
  frame_gains (frames.RefreshReply r) = record { near = covers_same h.near; far = covers_told h.far (told_by r) }

  deliver_gains : (frame : Frame) (b : Bool) → Gains h (cond b (done_as Reply.taken (receives jobs id h frame)) (done_as Reply.ignored h)).left
  deliver_gains frame true = frame_gains frame
  deliver_gains frame false = gains_still h

  request_gains : (r : Request) → Gains h (serves jobs id h r).left
  unfolding serves
  request_gains (Request.enter by list collect) = record { near = covers_same h.near; far = covers_same h.far }
  request_gains (Request.leave by) = leave_gains by (call_of h by)
  request_gains (Request.ask by get mode) = ask_gains by get mode (answer_in jobs id h get mode)
  request_gains (Request.take by) = take_gains by (call_of h by)
  request_gains (Request.terminate by) = record { near = covers_joined h.near _; far = covers_joined h.far _ }
  request_gains (Request.define name list) = record { near = covers_joined h.near _; far = covers_joined h.far _ }
  request_gains (Request.delete name) = record { near = covers_joined h.near _; far = covers_joined h.far _ }
  request_gains Request.nudge = gains_still h

  pub does_gain : (a : Act) → Gains h (does jobs id h a).left
  unfolding does
  does_gain (Act.request r) = request_gains r
  does_gain (Act.commit by b) = record { near = covers_joined h.near _; far = covers_joined h.far _ }
  does_gain (Act.deliver frame) = deliver_gains frame (is_taken jobs id h.table frame)

pub act_gains : (jobs : Jobs) (id : ℕ) (h : NodeState) (a : Act) → Gains h (acts jobs id h a).left
act_gains jobs id h a = elim (by_causes (cause jobs id h a) (does jobs id h a)) [
  | inl refused ↦ subst (λ (x : Result Done _). Gains h (over jobs id h x).left) (sym refused.2) (gains_still h)
  | inr free ↦
      let done = does_gain jobs id h a in
      subst (λ (x : Result Done _). Gains h (over jobs id h x).left) (sym free.0) (record { near = done.near; far = done.far })
]

pub does_rise : (jobs : Jobs) (id : ℕ) (h : NodeState) (a : Act) → Rises h (does jobs id h a).left
does_rise jobs id h a = let gains = does_gain jobs id h a in record { near = gains.near.levels; far = gains.far.levels }

pub act_rises : (jobs : Jobs) (id : ℕ) (h : NodeState) (a : Act) → Rises h (acts jobs id h a).left
act_rises jobs id h a = let gains = act_gains jobs id h a in record { near = gains.near.levels; far = gains.far.levels }
