-- What is told of fences lasts, whatever frames come.
use Rattle.std.proofs.Common.{◌≡◌, ◌≤◌, ◌&&◌, ℕ, suc, Bool, true, false, nat_lt, cond, List, Option, Some, None, inl, inr, refl, sym, ap, subst, ◌∙◌, arith}
use Rattle.std.specs.FinMap as finite
use Rattle.std.specs.FinMap.{nat_cmp-IsAntisymmetric}
use Rattle.std.specs.Cmp.{Equal-is}
use Rattle.std.specs.Option.{unwrap_or}
use Rattle.std.proofs.lemmas.Bool.{false≢true}
use Rattle.pmg_value.specs.Process.{proc_cmp}
use Rattle.pmg_value.specs.Signatures.{Signature, FenceName}
use Rattle.pmg_value.specs.declared.process.Proc.{Proc}
use Rattle.pmg_value.proofs.ProcessOrder.{procs_total, exact_procs}
use Rattle.pmg_commit.specs.Data.{level_at}
use Rattle.pmg_commit.specs.Sealed.{Sealed, sealed_with, ended_with}
use Rattle.pmg_pset.specs.Sets.{host, set_changed}
use Rattle.pmg_frame.specs.declared.frame.Frame.{Frame}
use Rattle.pmg_frame.specs.declared.frame.Frame.TheVariants as frames
use Rattle.pmg_jobinfo.specs.Jobs.{Jobs}
use Rattle.pmg_fence.specs.Changes.{fence_placed, with_counts, forgotten, with_fence, next_name, noted_entry, entered_by, ended_by, fence_entered, fence_told}
use Rattle.pmg_fence.specs.Entering.{same_signature}
use Rattle.pmg_fence.specs.Rules.{Keeps}
use Rattle.pmg_fence.specs.Tables.{Numbers, Fence, Fences, no_fences, is_old, series_at, fence_at, count_of}
use Rattle.pmg_fence.proofs.FitLemmas.{ready_stays, gone_stay}
use Rattle.pmg_fence.proofs.HeaderLemmas.{by_proc}
use Rattle.pmg_fence.proofs.KeepLemmas.{learn_keeps, header_keeps, enter_lasts, end_lasts}
use Rattle.pmg_fence.proofs.OldLemmas.{fence-counts, count-counts, ends-counts, count-forgotten, ends-forgotten, level_was}
use Rattle.pmg_fence.proofs.StepLemmas.{count_is, new_fence}
use Rattle.pmg_fence.proofs.TableLemmas.{same_instance, signature_exact, fence-placed, count-placed, ends-placed}
use Rattle.pmg_fence.proofs.Trees.{get_put}
use Rattle.pmg_node_model.specs.Acts.{Request, Act, Reply, also, list_cause, signature_cause, free_cause, request_cause, cause, list_of, signature_of, is_taken, done_as, enters_fence, holds_unless, receives, serves, does, acts}
use Rattle.pmg_node_model.specs.Holdings.{NodeState, new_holding, sealer_in, sealer_of, call_of, answer_in, with_table, uncalled, sealing}
use Rattle.pmg_node_model.specs.Kept.{IsCounted, ReleasedRight}
use Rattle.pmg_node_model.proofs.AfterActs.{after_act, ready_frees, freed_by_ready}
use Rattle.pmg_node_model.proofs.CallEnds.{ends_left, asks_left}
use Rattle.pmg_node_model.proofs.CauseFacts.{NoCause, IsCaller, caller_is, free_is, neither_cause}
use Rattle.pmg_node_model.proofs.Growing.{act_gains}
use Rattle.pmg_node_model.proofs.KeptBasics.{put_cases, put_other}
use Rattle.pmg_node_model.proofs.KeptChanges.{sealer_there, sealer_other}
use Rattle.pmg_node_model.proofs.Names.{young_still}

-- ---- a header that is there stays as it is, where an entry and an end leave it so

module _
    (jobs : Jobs)
    (node : ℕ)
    (h : NodeState)
    (f : FenceName)
    (enters : (p : Proc) (g : Signature) → IsCaller jobs node h p → Keeps jobs node h.table (entered_by h.table g p (sealer_of h p).level) f)
    (ends : (p : Proc) → IsCaller jobs node h p → Keeps jobs node h.table (ended_by h.table p (ended_with (sealer_of h p)).level) f) where
  abbrev pub KeepsIn : Fences → Type 0
  KeepsIn t = Keeps jobs node h.table t f

  same_kept : KeepsIn h.table
  same_kept young other ls is = is

  held_keeps : (b : Bool) (from : ℕ) (p : Proc) (level : ℕ) → KeepsIn (holds_unless b h from p level).table
  held_keeps true from p level = same_kept
  held_keeps false from p level = same_kept

  frame_keeps : (frame : Frame) → KeepsIn (receives jobs node h frame).table
  unfolding receives
  frame_keeps (frames.Piece c) = same_kept
  frame_keeps (frames.Header hd) = header_keeps jobs node h.table hd f
  frame_keeps (frames.FenceAsk a) = learn_keeps jobs node h.table a.name f
  frame_keeps (frames.RangeAsk a) = same_kept
  frame_keeps (frames.DirectAsk a) = held_keeps (nat_lt a.level (sealer_of h a.proc).level) a.node a.proc a.level
  frame_keeps (frames.RefreshAsk a) = same_kept
  frame_keeps (frames.RefreshReply r) = same_kept

  deliver_keeps : (frame : Frame) (b : Bool) → KeepsIn (cond b (done_as Reply.taken (receives jobs node h frame)) (done_as Reply.ignored h)).left.table
  deliver_keeps frame true = frame_keeps frame
  deliver_keeps frame false = same_kept

  request_keeps : (r : Request) → NoCause (request_cause jobs node h r) → KeepsIn (serves jobs node h r).left.table
  unfolding request_cause serves
  request_keeps (Request.enter by list collect) none =
      enters by (signature_of jobs by list collect)
      (free_is jobs node h by (neither_cause (free_cause jobs node h by) (also (list_cause jobs (list_of by list)) (signature_cause h (signature_of jobs by list collect) by)) none).0).0
  request_keeps (Request.leave by) none = (ends_left h by (λ g. KeepsIn g.table) same_kept same_kept (call_of h by)).0
  request_keeps (Request.ask by get mode) none = asks_left h by get mode (λ g. KeepsIn g.table) same_kept same_kept (answer_in jobs node h get mode)
  request_keeps (Request.take by) none = (ends_left h by (λ g. KeepsIn g.table) same_kept same_kept (call_of h by)).1
  request_keeps (Request.terminate by) none = ends by (caller_is jobs node h by none)
  request_keeps (Request.define name list) none = same_kept
  request_keeps (Request.delete name) none = same_kept
  request_keeps Request.nudge none = same_kept

  does_keep : (a : Act) → NoCause (cause jobs node h a) → KeepsIn (does jobs node h a).left.table
  unfolding cause does
  does_keep (Act.request r) none = request_keeps r none
  does_keep (Act.commit by b) none = same_kept
  does_keep (Act.deliver frame) none = deliver_keeps frame (is_taken jobs node h.table frame)

  pub headers_last : (a : Act) → KeepsIn (acts jobs node h a).left.table
  headers_last a = after_act jobs node h a (λ g. KeepsIn g.table) same_kept (λ none. does_keep a none)

-- ---- a table counts the entries of own processes, and knows of their ends alone

-- what is forgotten was counted
forgotten_counts : (h : NodeState) (t : Fences) (g : Signature) → IsCounted (with_table h t) → IsCounted (with_table h (forgotten t g))
forgotten_counts h t g counted = record {
  entered = λ x q level e. subst (λ n. x.instance ≤ n) (sym (count-forgotten t g x.signature q)) (counted.entered x q level (level_was t g x q level e));
  ended = λ q level e. counted.ended q level (ap (λ (m : Numbers). finite.get m q) (sym (ends-forgotten t g)) ∙ e);
}

-- where counts of one signature have not fallen, and nothing else changed
more_counts : (h : NodeState) → IsCounted h → (g : Signature) (counts : Numbers) → ((q : Proc) → count_of h.table g q ≤ unwrap_or (finite.get counts q) 0)
    → IsCounted (with_table h (with_counts h.table g counts))
more_counts h counted g counts more = record {
  entered = λ x q level e.
      let within = counted.entered x q level (ap (λ (y : Fence). finite.get y.levels q) (sym (fence-counts h.table g counts x)) ∙ e) in
      subst (λ n. x.instance ≤ n) (sym (count-counts h.table g counts x.signature q)) (still x q (same_signature x.signature g) refl within);
  ended = λ q level e. counted.ended q level (ap (λ (m : Numbers). finite.get m q) (sym (ends-counts h.table g counts)) ∙ e);
}
  where
    still : (x : FenceName) (q : Proc) (b : Bool) → same_signature x.signature g ≡ b → x.instance ≤ count_of h.table x.signature q
        → x.instance ≤ cond b (unwrap_or (finite.get counts q) 0) (count_of h.table x.signature q)
    still x q true same within = let is = ap (λ y. count_of h.table y q) (signature_exact x.signature g same) in omega (arith, within, is, more q)
    still x q false other within = within

module _
    (h : NodeState)
    (counted : IsCounted h)
    (f : FenceName)
    (fence : Fence)
    (counts : Numbers)
    (more : (q : Proc) → count_of h.table f.signature q ≤ unwrap_or (finite.get counts q) 0)
    (here : (q : Proc) (level : ℕ) → finite.get fence.levels q ≡ Some level → f.instance ≤ unwrap_or (finite.get counts q) 0) where
  counted_by : (x : FenceName) (q : Proc) (level : ℕ) (b c : Bool) → same_signature x.signature f.signature ≡ b → same_instance x.instance f.instance ≡ c
      → finite.get (cond (b && c) fence (fence_at h.table x)).levels q ≡ Some level → x.instance ≤ cond b (unwrap_or (finite.get counts q) 0) (count_of h.table x.signature q)
  counted_by x q level true true one two e =
      subst (λ n. n ≤ unwrap_or (finite.get counts q) 0) (sym (nat_cmp-IsAntisymmetric x.instance f.instance ((Equal-is _).0 two))) (here q level e)
  counted_by x q level true false one two e =
      let within = counted.entered x q level e in
      let same = ap (λ g. count_of h.table g q) (signature_exact x.signature f.signature one) in
      omega (arith, within, same, more q)
  counted_by x q level false c one two e = counted.entered x q level e

  -- a fence has set_changed, and the counts of its signature have not fallen
  placed_counts : IsCounted (with_table h (fence_placed h.table f fence counts))
  placed_counts = record {
    entered = λ x q level e.
        subst (λ n. x.instance ≤ n) (sym (count-placed h.table f fence counts x.signature q))
        (counted_by x q level (same_signature x.signature f.signature) (same_instance x.instance f.instance) refl refl
        (ap (λ (y : Fence). finite.get y.levels q) (sym (fence-placed h.table f fence counts x)) ∙ e));
    ended = λ q level e. counted.ended q level (ap (λ (m : Numbers). finite.get m q) (sym (ends-placed h.table f fence counts)) ∙ e);
  }

module _ (jobs : Jobs) (id : ℕ) (h : NodeState) (counted : IsCounted h) where
  -- a name or a header comes
  known_counts : (f : FenceName) (fence : Fence) → fence.levels ≡ (fence_at h.table f).levels → IsCounted (with_table h (with_fence h.table f fence))
  known_counts f fence same = by_old (is_old h.table f)
    where
      counts : Numbers
      counts = (series_at h.table f.signature).counts

      by_old : (b : Bool) → IsCounted (with_table h (cond b h.table (forgotten (fence_placed h.table f fence (series_at h.table f.signature).counts) f.signature)))
      by_old true = record { entered = counted.entered; ended = counted.ended }
      by_old false =
          forgotten_counts h (fence_placed h.table f fence counts) f.signature
          (placed_counts h counted f fence counts (λ q. omega (arith, count_is h.table f.signature q)) (λ q level e.
          let within = counted.entered f q level (ap (λ (m : Numbers). finite.get m q) (sym same) ∙ e) in
          omega (arith, within, count_is h.table f.signature q)))

  -- ---- an entry
  module _ (p : Proc) (g : Signature) where
    abbrev its_counts : Numbers
    its_counts = finite.insert (series_at h.table g).counts p (suc (count_of h.table g p))

    its_own : unwrap_or (finite.get its_counts p) 0 ≡ suc (count_of h.table g p)
    its_own = ap (λ o. unwrap_or o 0) (get_put procs_total exact_procs (series_at h.table g).counts p (suc (count_of h.table g p)))

    no_fewer : (q : Proc) → count_of h.table g q ≤ unwrap_or (finite.get its_counts q) 0
    no_fewer q =
        by_proc q p
        (λ same.
        let own = ap (λ x. unwrap_or (finite.get its_counts x) 0) same ∙ its_own in
        let count = ap (count_of h.table g) same in
        omega (arith, own, count))
        (λ apart.
        let other = ap (λ o. unwrap_or o 0) (put_other (series_at h.table g).counts p q (suc (count_of h.table g p)) apart) ∙ count_is h.table g q in
        omega (arith, other))

    entry_within : (q : Proc) (level : ℕ) → finite.get (fence_entered (fence_at h.table (next_name h.table g p)) p (sealer_of h p).level).levels q ≡ Some level
        → suc (count_of h.table g p) ≤ unwrap_or (finite.get its_counts q) 0
    entry_within q level e =
        put_cases (fence_at h.table (next_name h.table g p)).levels p q (sealer_of h p).level level e
        (λ same is. let own = ap (λ x. unwrap_or (finite.get its_counts x) 0) same ∙ its_own in omega (arith, own))
        (λ there.
        let within : suc (count_of h.table g p) ≤ count_of h.table g q = counted.entered (next_name h.table g p) q level there in
        omega (arith, within, no_fewer q))

    noted_counts : IsCounted (with_table h (noted_entry h.table g p (sealer_of h p).level))
    noted_counts = by_old (is_old h.table (next_name h.table g p))
      where
        by_old : (b : Bool) → IsCounted (with_table h (cond b (with_counts h.table g its_counts) (fence_placed h.table (next_name h.table g p) (fence_entered (fence_at h.table (next_name h.table g p)) p (sealer_of h p).level) its_counts)))
        by_old true = more_counts h counted g its_counts no_fewer
        by_old false = placed_counts h counted (next_name h.table g p) (fence_entered (fence_at h.table (next_name h.table g p)) p (sealer_of h p).level) its_counts no_fewer entry_within

    enter_counts : IsCounted (enters_fence h p g).left
    enter_counts =
        let made = forgotten_counts h (noted_entry h.table g p (sealer_of h p).level) g noted_counts in
        record { entered = made.entered; ended = made.ended }

  -- ---- a commit
  module _ (p : Proc) (z : Sealed) (still : (sealer_of h p).ended ≡ true → z.ended ≡ true) where
    ended_still : (q : Proc) → (sealer_of h q).ended ≡ true → (sealer_of (sealing h p z) q).ended ≡ true
    ended_still q e =
        by_proc q p
        (λ same. ap (λ x. (sealer_of (sealing h p z) x).ended) same ∙ ap (λ (y : Sealed). y.ended) (sealer_there h p z) ∙ still (ap (λ x. (sealer_of h x).ended) (sym same) ∙ e))
        (λ other. ap (λ (y : Sealed). y.ended) (sealer_other h p z q other) ∙ e)

    sealing_counts : IsCounted (sealing h p z)
    sealing_counts = record { entered = counted.entered; ended = λ q level e. ended_still q (counted.ended q level e) }

  change_counts : (name bytes : List ℕ) → IsCounted (sealing h host (set_changed h.sets name bytes))
  unfolding sealer_in
  change_counts name bytes = sealing_counts host (set_changed h.sets name bytes) (λ e. e)

  -- ---- an end
  end_counts : (p : Proc) → IsCounted (uncalled (with_table (sealing h p (ended_with (sealer_of h p))) (ended_by h.table p (ended_with (sealer_of h p)).level)) p)
  unfolding fence_at series_at count_of
  end_counts p =
      let z = ended_with (sealer_of h p) in
      record {
        entered = counted.entered;
        ended = λ q level e.
            put_cases h.table.ends p q z.level level e
            (λ same is. ap (λ x. (sealer_of (sealing h p z) x).ended) same ∙ ap (λ (y : Sealed). y.ended) (sealer_there h p z))
            (λ there. ended_still p z (λ _. refl) q (counted.ended q level there));
      }

  -- ---- any act
  held_counts : (b : Bool) (from : ℕ) (p : Proc) (level : ℕ) → IsCounted (holds_unless b h from p level)
  held_counts true from p level = counted
  held_counts false from p level = record { entered = counted.entered; ended = counted.ended }

  frame_counts : (frame : Frame) → IsCounted (receives jobs id h frame)
  unfolding receives
  frame_counts (frames.Piece c) = record { entered = counted.entered; ended = counted.ended }
  frame_counts (frames.Header hd) = known_counts hd.name (fence_told (fence_at h.table hd.name) hd.node hd.locals) refl
  frame_counts (frames.FenceAsk a) = known_counts a.name (fence_at h.table a.name) refl
  frame_counts (frames.RangeAsk a) = counted
  frame_counts (frames.DirectAsk a) = held_counts (nat_lt a.level (sealer_of h a.proc).level) a.node a.proc a.level
  frame_counts (frames.RefreshAsk a) = counted
  frame_counts (frames.RefreshReply r) = record { entered = counted.entered; ended = counted.ended }

  deliver_counts : (frame : Frame) (b : Bool) → IsCounted (cond b (done_as Reply.taken (receives jobs id h frame)) (done_as Reply.ignored h)).left
  deliver_counts frame true = frame_counts frame
  deliver_counts frame false = counted

  request_counts : (r : Request) → IsCounted (serves jobs id h r).left
  unfolding serves
  request_counts (Request.enter by list collect) = enter_counts by (signature_of jobs by list collect)
  request_counts (Request.leave by) = (ends_left h by IsCounted counted (record { entered = counted.entered; ended = counted.ended }) (call_of h by)).0
  request_counts (Request.ask by get mode) = asks_left h by get mode IsCounted counted (record { entered = counted.entered; ended = counted.ended }) (answer_in jobs id h get mode)
  request_counts (Request.take by) = (ends_left h by IsCounted counted (record { entered = counted.entered; ended = counted.ended }) (call_of h by)).1
  request_counts (Request.terminate by) = end_counts by
  request_counts (Request.define name list) = change_counts _ _
  request_counts (Request.delete name) = change_counts _ _
  request_counts Request.nudge = counted

  does_count : (a : Act) → IsCounted (does jobs id h a).left
  unfolding does
  does_count (Act.request r) = request_counts r
  does_count (Act.commit by b) = sealing_counts by (sealed_with (sealer_of h by) b) (λ e. e)
  does_count (Act.deliver frame) = deliver_counts frame (is_taken jobs id h.table frame)

  pub act_counts : (a : Act) → IsCounted (acts jobs id h a).left
  act_counts a = after_act jobs id h a IsCounted counted (λ none. let done = does_count a in record { entered = done.entered; ended = done.ended })

  -- ---- a fence that is ready stays so while it is not old
  not_ended : (p : Proc) → IsCaller jobs id h p → finite.get h.table.ends p ≡ None
  not_ended p caller = by_end (finite.get h.table.ends p) refl
    where
      by_end : (o : Option ℕ) → finite.get h.table.ends p ≡ o → o ≡ None
      by_end None e = refl
      by_end (Some level) e = absurd (false≢true (sym caller.live ∙ counted.ended p level e))

  not_entered : (p : Proc) (g : Signature) → finite.get (fence_at h.table (next_name h.table g p)).levels p ≡ None
  not_entered p g = by_entry (finite.get (fence_at h.table (next_name h.table g p)).levels p) refl
    where
      by_entry : (o : Option ℕ) → finite.get (fence_at h.table (next_name h.table g p)).levels p ≡ o → o ≡ None
      by_entry None e = refl
      by_entry (Some level) e =
          let within : suc (count_of h.table g p) ≤ count_of h.table g p = counted.entered (next_name h.table g p) p level e in
          absurd (omega (arith, within))

  headers_stay : (f : FenceName) (a : Act) → Keeps jobs id h.table (acts jobs id h a).left.table f
  headers_stay f =
      headers_last jobs id h f (λ p g caller. enter_lasts jobs id h.table p g (sealer_of h p).level (not_entered p g) (not_ended p caller) f)
      (λ p caller. end_lasts jobs id h.table p (ended_with (sealer_of h p)).level (not_ended p caller) f)

  pub released_lasts : (a : Act) → ReleasedRight jobs id h → ReleasedRight jobs id (acts jobs id h a).left
  released_lasts a before =
      let new : NodeState = (acts jobs id h a).left in
      let gains = act_gains jobs id h a in
      record {
        released = λ p f gone e young. elim (freed_by_ready jobs id h a p f gone e) [
          | inl was ↦
              let old = before.released p f gone was (young_still jobs id h a f young) in (
                ready_stays jobs id h.table new.table f (level_at h.far) (level_at new.far) (headers_stay f a) young gains.far.levels old.0,
                old.1 ∙ gone_stay jobs id h.table new.table f (level_at h.far) (headers_stay f a) young old.0,
              )
          | inr now ↦ now
        ];
        waits = ready_frees jobs id h a before.waits;
      }

-- ---- a new node

no_level : (f : FenceName) (p : Proc) (level : ℕ) → finite.get (fence_at no_fences f).levels p ≡ Some level → ⊥
no_level f p level e = let none = sym (finite.get-empty proc_cmp p) ∙ ap (λ (x : Fence). finite.get x.levels p) (sym (new_fence f)) ∙ e in cc

no_end : (p : Proc) (level : ℕ) → finite.get no_fences.ends p ≡ Some level → ⊥
no_end p level e = let none = sym (finite.get-empty proc_cmp p) ∙ e in cc

pub new_counts : (jobs : Jobs) (id : ℕ) → IsCounted (new_holding jobs id)
new_counts jobs id = record { entered = λ f p level e. absurd (no_level f p level e); ended = λ p level e. absurd (no_end p level e) }
