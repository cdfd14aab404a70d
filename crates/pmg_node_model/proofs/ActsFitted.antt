-- Whatever scripts the content of a node fits, it fits them after an act.
use Rattle.std.proofs.Common.{◌≡◌, ℕ, suc, Bool, true, false, ◌&&◌, ◌||◌, ◌==◌, not, nat_lt, cond, List, [], ◌∷◌, ◌++◌, Option, Some, None, Result, inl, inr, refl, sym, ap, subst, ◌∙◌, arith}
use Rattle.std.specs.FinMap as finite
use Rattle.std.specs.Option.{option_map, unwrap_or}
use Rattle.std.proofs.lemmas.Bool.{false≢true}
use Rattle.std.proofs.lemmas.Bool.Decides.{nat_tests}
use Rattle.std.specs.Prelude.{get_or, if◌then◌else◌}
use Rattle.pmg_value.specs.Names.{is_reserved}
use Rattle.pmg_value.specs.Process.{host_name}
use Rattle.pmg_value.specs.Signatures.{Signature}
use Rattle.pmg_value.specs.declared.process.Proc.{Proc}
use Rattle.pmg_value.specs.declared.refusal.Refusal.{Refusal}
use Rattle.pmg_value.proofs.ProcessOrder.{procs_total, exact_procs}
use Rattle.pmg_scope.specs.Cached.{Unsealed}
use Rattle.pmg_scope.specs.Scripts.{Call, Script, has_end}
use Rattle.pmg_scope.specs.declared.scope.Scope.TheVariants as scopes
use Rattle.pmg_scope.specs.declared.scope.Reach.TheVariants as reach
use Rattle.pmg_commit.specs.Honest.{IsHonest}
use Rattle.pmg_commit.specs.Knowledge.{Contribution}
use Rattle.pmg_commit.specs.Sealed.{Sealed, sealed_with, ended_with}
use Rattle.pmg_commit.specs.SealerRules.{FitsBatch, FitsSealer}
use Rattle.pmg_commit.proofs.SealerLaws.{seal_fits, enter_seals_nothing}
use Rattle.pmg_commit.proofs.SealerLaws as sealers
use Rattle.pmg_pset.specs.Changes.{Change, definition, deletion, script_of}
use Rattle.pmg_pset.specs.Sets.{host, set_changed}
use Rattle.pmg_pset.specs.Refusing.{delete_cause}
use Rattle.pmg_pset.proofs.RuleLemmas.{change_fits}
use Rattle.pmg_frame.specs.Refreshing.{RefreshReply, told_by}
use Rattle.pmg_frame.specs.declared.frame.Frame.{Frame}
use Rattle.pmg_frame.specs.declared.frame.Frame.TheVariants as frames
use Rattle.pmg_jobinfo.specs.Jobs.{Jobs, AreJobs, home_of}
use Rattle.pmg_jobinfo.proofs.TableLemmas.{space_at}
use Rattle.pmg_fence.specs.Changes.{next_name, entered_by, ended_by}
use Rattle.pmg_fence.specs.Entering.{same_proc}
use Rattle.pmg_fence.specs.Rules.{FitsTable, Scripts, with_call}
use Rattle.pmg_fence.specs.Tables.{Fences, fence_of}
use Rattle.pmg_fence.proofs.EntryLemmas.{proc_itself, has_end_next}
use Rattle.pmg_fence.proofs.StepLemmas.{enter_fits, put_fits, commit_fits, learn_fits, header_fits}
use Rattle.pmg_fence.proofs.StepLemmas as tables
use Rattle.pmg_fence.proofs.Trees.{get_put}
use Rattle.pmg_get.specs.Gets.{Outcome}
use Rattle.pmg_get.specs.declared.view.Mode.{Mode}
use Rattle.pmg_get.specs.declared.view.Mode.TheVariants as modes
use Rattle.pmg_node_model.specs.Acts.{Request, Act, Reply, Done, Said, also, list_cause, set_cause, name_cause, node_cause, free_cause, request_cause, signature_cause, seal_cause, signature_of, list_of, members_of, cause, is_taken, done_as, reply_of, leaves, takes, waits_as, parks, asks, enters_fence, commits_as, ends_as, changes_as, holds_unless, receives, serves, does, over, said_by, says}
use Rattle.pmg_node_model.specs.Fitting.{with_said, is_refusal, unless_refused, last_fence, IsAnswerOutcome, FitsCall, Fits, HonestFrame, FitsHost, FitsAct}
use Rattle.pmg_node_model.specs.Holdings.{Get, CallState, NodeState, sealer_in, sealer_of, call_of, with_far, with_table, uncalled, joined, answer_in, mapped, settled, is_replied, answer_reply, with_reply}
use Rattle.pmg_node_model.specs.NodeLaws.{ActsFit}
use Rattle.pmg_node_model.proofs.CallFacts.{get-mapped}
use Rattle.pmg_node_model.proofs.CauseFacts.{NoCause, IsCaller, by_causes, caller_is, free_is, neither_cause, same_node}
use Rattle.pmg_node_model.proofs.KeptSettled.{resolve_parks}
use Rattle.pmg_node_model.proofs.Fitted.{CallsFit, fits_calls, fits_settled, fits_sealing, fits_saying, fits_piece}
use Rattle.pmg_node_model.proofs.Saying.{each_said, said_more, host_more, host_goes_on, fence_entered}

-- ---- the home of the host's process

found_no_space : (jobs : Jobs) → AreJobs jobs → (o : Option (List ℕ)) → finite.get jobs.spaces host_name ≡ o → get_or (unwrap_or o []) 0 0 ≡ 0
found_no_space jobs are None e = refl
found_no_space jobs are (Some homes) e =
    let kept : is_reserved host_name ≡ true = refl in
    absurd (false≢true (sym (space_at jobs host_name homes are (sym e)).named ∙ kept))

pub home_of_host : (jobs : Jobs) → AreJobs jobs → home_of jobs host ≡ 0
home_of_host jobs are = found_no_space jobs are (finite.get jobs.spaces host_name) refl

-- ---- calls of processes that others do not touch

still_called : (s : Script) (b : Bool) (c : Option CallState) → FitsCall s c → FitsCall s (cond b None c)
still_called s true c fits = tt
still_called s false c fits = fits

pub calls_without : (jobs : Jobs) (scripts : Scripts) (node : ℕ) (calls : _) (p : Proc) → CallsFit jobs scripts node calls → CallsFit jobs scripts node (finite.remove calls p)
calls_without jobs scripts node calls p fit q at = subst (FitsCall (scripts q)) (sym (finite.get-remove procs_total calls p q)) (still_called (scripts q) (same_proc q p) (finite.get calls q) (fit q at))

-- the process that spoke is in this call then
pub calls_with : (jobs : Jobs) (scripts : Scripts) (node : ℕ) (h : NodeState) (p : Proc) (said : Script) (standing : CallState) → Fits jobs scripts node h → FitsCall (scripts p ++ said) (Some standing)
    → CallsFit jobs (with_said scripts (said_by p said)) node (finite.insert h.calls p standing)
calls_with jobs scripts node h p said standing fits one =
    each_said scripts p said (λ q s. home_of jobs q ≡ node → FitsCall s (finite.get (finite.insert h.calls p standing) q))
    (λ at. subst (FitsCall (scripts p ++ said)) (sym (get_put procs_total exact_procs h.calls p standing)) one)
    (λ q apart at. subst (FitsCall (scripts q)) (sym (finite.get-insert procs_total h.calls p standing q ∙ ap (λ b. cond b (Some standing) (finite.get h.calls q)) apart)) (fits.calls q at))

-- or in none
pub calls_none : (jobs : Jobs) (scripts : Scripts) (node : ℕ) (h : NodeState) (p : Proc) (said : Script) → Fits jobs scripts node h → call_of h p ≡ None
    → CallsFit jobs (with_said scripts (said_by p said)) node h.calls
calls_none jobs scripts node h p said fits none =
    each_said scripts p said (λ q s. home_of jobs q ≡ node → FitsCall s (finite.get h.calls q))
    (λ at. subst (FitsCall (scripts p ++ said)) (sym none) tt)
    (λ q apart at. fits.calls q at)

calls_ended : (jobs : Jobs) (scripts : Scripts) (node : ℕ) (h : NodeState) (p : Proc) (said : Script) → Fits jobs scripts node h
    → CallsFit jobs (with_said scripts (said_by p said)) node (finite.remove h.calls p)
calls_ended jobs scripts node h p said fits =
    each_said scripts p said (λ q s. home_of jobs q ≡ node → FitsCall s (finite.get (finite.remove h.calls p) q))
    (λ at. subst (FitsCall (scripts p ++ said)) (sym (finite.get-remove procs_total h.calls p p ∙ ap (λ b. cond b None (finite.get h.calls p)) (proc_itself p))) tt)
    (λ q apart at. subst (FitsCall (scripts q)) (sym (finite.get-remove procs_total h.calls p q ∙ ap (λ b. cond b None (finite.get h.calls q)) apart)) (fits.calls q at))

-- the host's process is in no fence
no_fence_of : (cs : List Change) → last_fence (script_of cs) ≡ None
no_fence_of [] = refl
no_fence_of (c ∷ cs) = none_more cs (no_fence_of cs)
  where
    none_more : (cs : List Change) → last_fence (script_of cs) ≡ None → last_fence (Call.put scopes.Global c.name c.bytes ∷ Call.commit ∷ script_of cs) ≡ None
    none_more cs e = e

host_call : (cs : List Change) (s t : Script) (c : Option CallState) → s ≡ script_of cs → FitsCall s c → FitsCall t c
host_call cs s t None is fits = tt
host_call cs s t (Some (CallState.in_fence f)) is fits = absurd (nowhere (sym (no_fence_of cs) ∙ ap last_fence (sym is) ∙ fits.0))
  where
    nowhere : None ≡ Some f → ⊥
    nowhere e = cc
host_call cs s t (Some (CallState.released f gone)) is fits = absurd (nowhere (sym (no_fence_of cs) ∙ ap last_fence (sym is) ∙ fits.0))
  where
    nowhere : None ≡ Some f → ⊥
    nowhere e = cc
host_call cs s t (Some (CallState.parked get)) is fits = tt
host_call cs s t (Some (CallState.answered get outcome)) is fits = fits
host_call cs s t (Some (CallState.refreshing get number)) is fits = tt
host_call cs s t (Some (CallState.refreshed get outcome)) is fits = fits

-- ---- each act

module _ (jobs : Jobs) (scripts : Scripts) (node : ℕ) (h : NodeState) (fits : Fits jobs scripts node h) where
  -- what is done fits, with what is said
  abbrev pub DoneFits : Done → Option Said → Type 0
  DoneFits d said = Fits jobs (unless_refused (is_refusal d.reply) scripts said) node (settled jobs node d.left)

  live_by : (p : Proc) → IsCaller jobs node h p → has_end (scripts p) ≡ false
  live_by p caller = sym (fits.own p caller.home).sealer.ended ∙ caller.live

  enter_done : (p : Proc) (g : Signature) → IsCaller jobs node h p → DoneFits (enters_fence h p g) (said_by p (Call.enter g ∷ []))
  enter_done p g caller =
      let s = scripts p in
      let said = Call.enter g ∷ [] in
      let live = live_by p caller in
      let mine = fits.own p caller.home in
      let name = next_name h.table g p in
      let table : FitsTable jobs node (with_said scripts (said_by p said)) (entered_by h.table g p (sealer_of h p).level) =
      subst (λ n. FitsTable jobs node (with_said scripts (said_by p said)) (entered_by h.table g p n)) (sym mine.sealer.level) (enter_fits jobs node scripts h.table p g caller.home live fits.table) in
      let last : last_fence (s ++ said) ≡ Some name =
      fence_entered s g live ∙ ap (λ n. Some (fence_of g (suc n))) (sym ((fits.table.own p caller.home).counts g)) in
      fits_settled jobs (with_said scripts (said_by p said)) node _
      (fits_saying jobs scripts node h p said caller.home fits (enter_seals_nothing (sealer_of h p) s g mine.sealer) (entered_by h.table g p (sealer_of h p).level)
      (finite.insert h.calls p (CallState.in_fence name)) table
      (calls_with jobs scripts node h p said (CallState.in_fence name) fits (last, has_end_next s said live)))

  left_fits : (p : Proc) → Fits jobs scripts node (uncalled h p)
  left_fits p = fits_calls jobs scripts node h (finite.remove h.calls p) fits (calls_without jobs scripts node h.calls p fits.calls)

  leave_done : (p : Proc) (c : Option CallState) → DoneFits (leaves h p c) None
  leave_done p None = fits_settled jobs scripts node h fits
  leave_done p (Some (CallState.in_fence f)) = fits_settled jobs scripts node h fits
  leave_done p (Some (CallState.released f gone)) = fits_settled jobs scripts node (uncalled h p) (left_fits p)
  leave_done p (Some (CallState.parked get)) = fits_settled jobs scripts node h fits
  leave_done p (Some (CallState.answered get outcome)) = fits_settled jobs scripts node h fits
  leave_done p (Some (CallState.refreshing get number)) = fits_settled jobs scripts node h fits
  leave_done p (Some (CallState.refreshed get outcome)) = fits_settled jobs scripts node h fits

  answer_done : (p : Proc) (o : Outcome) → DoneFits (done_as (reply_of o) (uncalled h p)) None
  answer_done p (Outcome.found value) = fits_settled jobs scripts node (uncalled h p) (left_fits p)
  answer_done p Outcome.absent = fits_settled jobs scripts node (uncalled h p) (left_fits p)
  answer_done p Outcome.outside = fits_settled jobs scripts node (uncalled h p) (left_fits p)
  answer_done p Outcome.parks = fits_settled jobs scripts node (uncalled h p) (left_fits p)

  take_done : (p : Proc) (c : Option CallState) → DoneFits (takes h p c) None
  take_done p None = fits_settled jobs scripts node h fits
  take_done p (Some (CallState.in_fence f)) = fits_settled jobs scripts node h fits
  take_done p (Some (CallState.released f gone)) = fits_settled jobs scripts node h fits
  take_done p (Some (CallState.parked get)) = fits_settled jobs scripts node h fits
  take_done p (Some (CallState.answered get outcome)) = answer_done p outcome
  take_done p (Some (CallState.refreshing get number)) = fits_settled jobs scripts node h fits
  take_done p (Some (CallState.refreshed get outcome)) = answer_done p outcome

  -- a get that waits fits any script
  waiting_fits : (s : Script) (n : ℕ) (get : Get) (mode : Mode) → FitsCall s (Some (waits_as n get mode))
  waiting_fits s n get modes.Wait = tt
  waiting_fits s n get modes.Now = tt
  waiting_fits s n get modes.Refresh = tt

  put_called : (p q : Proc) (standing : CallState) (b : Bool) → FitsCall (scripts q) (Some standing) → FitsCall (scripts q) (finite.get h.calls q)
      → FitsCall (scripts q) (cond b (Some standing) (finite.get h.calls q))
  put_called p q standing true new fit = new
  put_called p q standing false new fit = fit

  park_fits : (p : Proc) (get : Get) (mode : Mode) → Fits jobs scripts node (parks h p get mode)
  park_fits p get mode =
      let standing = waits_as h.requests get mode in
      record {
        own = fits.own;
        calls = λ q at.
            subst (FitsCall (scripts q)) (sym (finite.get-insert procs_total h.calls p standing q))
            (put_called p q standing (same_proc q p) (waiting_fits (scripts q) h.requests get mode) (fits.calls q at));
        table = fits.table;
        far = fits.far;
      }

  ask_done : (p : Proc) (get : Get) (mode : Mode) (o : Outcome) → DoneFits (asks h p get mode o) None
  ask_done p get mode (Outcome.found value) = fits_settled jobs scripts node h fits
  ask_done p get mode Outcome.absent = fits_settled jobs scripts node h fits
  ask_done p get mode Outcome.outside = fits_settled jobs scripts node h fits
  ask_done p get mode Outcome.parks = fits_settled jobs scripts node (parks h p get mode) (park_fits p get mode)

  end_done : (p : Proc) → IsCaller jobs node h p → DoneFits (ends_as h p (ended_with (sealer_of h p))) (said_by p (Call.terminate ∷ []))
  end_done p caller =
      let s = scripts p in
      let said = Call.terminate ∷ [] in
      let live = live_by p caller in
      let z = ended_with (sealer_of h p) in
      let new : FitsSealer z (s ++ said) = sealers.end_fits (sealer_of h p) s live (fits.own p caller.home).sealer in
      let table : FitsTable jobs node (with_said scripts (said_by p said)) (ended_by h.table p z.level) =
      subst (λ n. FitsTable jobs node (with_said scripts (said_by p said)) (ended_by h.table p n)) (sym new.level) (tables.end_fits jobs node scripts h.table p caller.home live fits.table) in
      fits_settled jobs (with_said scripts (said_by p said)) node _
      (fits_sealing jobs scripts node h p z said caller.home fits new refl (ended_by h.table p z.level) (finite.remove h.calls p) table (calls_ended jobs scripts node h p said fits))

  commit_done : (p : Proc) (b : Unsealed) → IsCaller jobs node h p → call_of h p ≡ None → FitsBatch b (scripts p)
      → DoneFits (commits_as h p (sealed_with (sealer_of h p) b)) (said_by p (Call.commit ∷ []))
  commit_done p b caller none batch =
      let s = scripts p in
      let said = Call.commit ∷ [] in
      let live = live_by p caller in
      let z = sealed_with (sealer_of h p) b in
      fits_settled jobs (with_said scripts (said_by p said)) node _
      (fits_sealing jobs scripts node h p z said caller.home fits (seal_fits (sealer_of h p) b s live batch (fits.own p caller.home).sealer) refl h.table h.calls
      (commit_fits jobs node scripts h.table p live fits.table) (calls_none jobs scripts node h p said fits none))

  sets_are : sealer_of h host ≡ h.sets
  unfolding sealer_in
  sets_are = refl

  change_done : (c : Change) → home_of jobs host ≡ node → FitsHost (scripts host) → DoneFits (changes_as h (set_changed h.sets c.name c.bytes)) (said_by host (script_of (c ∷ [])))
  change_done c home hosts =
      let s = scripts host in
      let put = Call.put scopes.Global c.name c.bytes in
      let said = script_of (c ∷ []) in
      let z = set_changed h.sets c.name c.bytes in
      let mine : FitsSealer h.sets (script_of hosts.0) =
      subst (λ x. FitsSealer x (script_of hosts.0)) sets_are (subst (FitsSealer (sealer_of h host)) hosts.1 (fits.own host home).sealer) in
      let whole : s ++ said ≡ script_of (hosts.0 ++ c ∷ []) = ap (λ t. t ++ said) hosts.1 ∙ host_more hosts.0 c in
      let new : FitsSealer z (s ++ said) = subst (FitsSealer z) (sym whole) (change_fits h.sets hosts.0 c mine) in
      let live : has_end s ≡ false = ap has_end hosts.1 ∙ host_goes_on hosts.0 in
      let after : with_call scripts host put host ≡ s ++ put ∷ [] = ap (λ b. cond b (s ++ put ∷ []) s) (proc_itself host) in
      let put_in = put_fits jobs node scripts h.table host scopes.Global c.name c.bytes live fits.table in
      let both = commit_fits jobs node (with_call scripts host put) h.table host (ap has_end after ∙ has_end_next s (put ∷ []) live) put_in in
      let table : FitsTable jobs node (with_said scripts (said_by host said)) h.table = subst (λ t. FitsTable jobs node t h.table) (said_more scripts host put (Call.commit ∷ [])) both in
      fits_settled jobs (with_said scripts (said_by host said)) node _
      (fits_sealing jobs scripts node h host z said home fits new (ap (λ (x : Sealed). x.proc) (sym sets_are)) h.table h.calls table
      (each_said scripts host said (λ q t. home_of jobs q ≡ node → FitsCall t (finite.get h.calls q))
      (λ at. host_call hosts.0 s (s ++ said) (finite.get h.calls host) hosts.1 (fits.calls host at)) (λ q apart at. fits.calls q at)))

  -- ---- frames

  held_fits : (b : Bool) (from : ℕ) (p : Proc) (level : ℕ) → Fits jobs scripts node (holds_unless b h from p level)
  held_fits true from p level = fits
  held_fits false from p level = record { own = fits.own; calls = fits.calls; table = fits.table; far = fits.far }

  with_table_fits : (t : Fences) → FitsTable jobs node scripts t → Fits jobs scripts node (with_table h t)
  with_table_fits t table = record { own = fits.own; calls = fits.calls; table = table; far = fits.far }

  away_by : (m : ℕ) (b : Bool) → (b && not (m == node)) ≡ true → m ≡ node → ⊥
  away_by m true e is = absurd (grind (arith, nat_tests))
  away_by m false e is = absurd cc

  -- what a reply tells is joined, where it tells something
  told_fits : (o : Option Contribution) → ((c : Contribution) → o ≡ Some c → (home_of jobs c.proc ≡ node → ⊥) × IsHonest (scripts c.proc) reach.Far c)
      → Fits jobs scripts node (with_far h (joined h.far o))
  told_fits None honest = record { own = fits.own; calls = fits.calls; table = fits.table; far = fits.far }
  told_fits (Some c) honest = let is = honest c refl in fits_piece jobs scripts node h c is.0 is.1 fits

  told_is : (b : Bool) (r c : Contribution) → (if b then Some r else None) ≡ Some c → r ≡ c
  told_is true r c e = cc
  told_is false r c e = absurd cc

  -- what a get is answered at once is an answer
  now_answers : (get : Get) (g : NodeState) → IsAnswerOutcome (answer_in jobs node g get modes.Now)
  now_answers get g = is_answer (answer_in jobs node g get modes.Now) (λ parks. elim (resolve_parks _ modes.Now parks) [ inl e ↦ absurd (not_wait e) | inr e ↦ absurd (not_anew e) ])
    where
      is_answer : (o : Outcome) → (o ≡ Outcome.parks → ⊥) → IsAnswerOutcome o
      is_answer (Outcome.found value) some = tt
      is_answer Outcome.absent some = tt
      is_answer Outcome.outside some = tt
      is_answer Outcome.parks some = some refl

      not_wait : modes.Now ≡ modes.Wait → ⊥
      not_wait e = cc

      not_anew : modes.Now ≡ modes.Refresh → ⊥
      not_anew e = cc

  answered_call : (g : NodeState) (number : ℕ) (q : Proc) (s : Script) (c : Option CallState) → FitsCall s c → FitsCall s (option_map (answer_reply jobs node g number q) c)
  answered_call g number q s None fit = tt
  answered_call g number q s (Some (CallState.in_fence f)) fit = fit
  answered_call g number q s (Some (CallState.released f gone)) fit = fit
  answered_call g number q s (Some (CallState.parked get)) fit = tt
  answered_call g number q s (Some (CallState.answered get outcome)) fit = fit
  answered_call g number q s (Some (CallState.refreshed get outcome)) fit = fit
  answered_call g number q s (Some (CallState.refreshing get k)) fit = by_test (is_replied number q get k)
    where
      by_test : (b : Bool) → FitsCall s (Some (if b then CallState.refreshed get (answer_in jobs node g get modes.Now) else CallState.refreshing get k))
      by_test true = now_answers get g
      by_test false = tt

  reply_fits : (r : RefreshReply) → (home_of jobs r.told.proc ≡ node → ⊥) → IsHonest (scripts r.told.proc) reach.Far r.told
      → Fits jobs scripts node (with_reply jobs node (with_far h (joined h.far (told_by r))) r.request r.told.proc)
  reply_fits r away honest =
      let g = with_far h (joined h.far (told_by r)) in
      let told : Fits jobs scripts node g =
      told_fits (told_by r) (λ c e.
      let same = told_is (nat_lt r.told.from r.told.to) r.told c e in
      (subst (λ (x : Contribution). home_of jobs x.proc ≡ node → ⊥) same away, subst (λ (x : Contribution). IsHonest (scripts x.proc) reach.Far x) same honest)) in
      fits_calls jobs scripts node g (mapped (answer_reply jobs node g r.request r.told.proc) h.calls) told (λ p at.
      subst (FitsCall (scripts p)) (sym (get-mapped (answer_reply jobs node g r.request r.told.proc) h.calls p))
      (answered_call g r.request r.told.proc (scripts p) (call_of h p) (fits.calls p at)))

  frame_fits : (frame : Frame) → is_taken jobs node h.table frame ≡ true → HonestFrame jobs scripts frame → Fits jobs scripts node (receives jobs node h frame)
  unfolding receives is_taken
  frame_fits (frames.Piece c) taken honest = fits_piece jobs scripts node h c (away_by (home_of jobs c.proc) _ taken) honest fits
  frame_fits (frames.Header hd) taken honest = with_table_fits _ (header_fits jobs node scripts h.table hd honest fits.table)
  frame_fits (frames.FenceAsk a) taken honest = with_table_fits _ (learn_fits jobs node scripts h.table a.name fits.table)
  frame_fits (frames.RangeAsk a) taken honest = fits
  frame_fits (frames.DirectAsk a) taken honest = held_fits (nat_lt a.level (sealer_of h a.proc).level) a.node a.proc a.level
  frame_fits (frames.RefreshAsk a) taken honest = fits
  frame_fits (frames.RefreshReply r) taken honest = reply_fits r (away_by (home_of jobs r.told.proc) _ taken) honest

  deliver_done : (frame : Frame) (b : Bool) → is_taken jobs node h.table frame ≡ b → HonestFrame jobs scripts frame
      → DoneFits (cond b (done_as Reply.taken (receives jobs node h frame)) (done_as Reply.ignored h)) None
  deliver_done frame true taken honest = fits_settled jobs scripts node (receives jobs node h frame) (frame_fits frame taken honest)
  deliver_done frame false taken honest = fits_settled jobs scripts node h fits

  at_zero : AreJobs jobs → (other : Refusal → Bool) → NoCause (λ e. node_cause node e || other e) → home_of jobs host ≡ node
  at_zero are other none = home_of_host jobs are ∙ sym (same_node node 0 (neither_cause (node_cause node) other none).0.1.1.1.0)

  request_done : AreJobs jobs → FitsHost (scripts host) → (r : Request) → NoCause (request_cause jobs node h r) → DoneFits (serves jobs node h r) (says jobs (Act.request r))
  unfolding request_cause serves says
  request_done are hosts (Request.enter p list collect) none =
      enter_done p (signature_of jobs p list collect) (free_is jobs node h p (neither_cause (free_cause jobs node h p) (also (list_cause jobs (list_of p list)) (signature_cause h (signature_of jobs p list collect) p)) none).0).0
  request_done are hosts (Request.leave p) none = leave_done p (call_of h p)
  request_done are hosts (Request.ask p get mode) none = ask_done p get mode (answer_in jobs node h get mode)
  request_done are hosts (Request.take p) none = take_done p (call_of h p)
  request_done are hosts (Request.terminate p) none = end_done p (caller_is jobs node h p none)
  request_done are hosts (Request.define name list) none = change_done (definition name (members_of jobs list)) (at_zero are (also (list_cause jobs list) (set_cause h.sets name list (members_of jobs list))) none) hosts
  request_done are hosts (Request.delete name) none = change_done (deletion name) (at_zero are (also (name_cause name) (delete_cause h.sets name)) none) hosts
  request_done are hosts Request.nudge none = fits_settled jobs scripts node h fits

  act_done : AreJobs jobs → FitsHost (scripts host) → (a : Act) → FitsAct jobs scripts a → NoCause (cause jobs node h a) → DoneFits (does jobs node h a) (says jobs a)
  unfolding cause does says
  act_done are hosts (Act.request r) fit none = request_done are hosts r none
  act_done are hosts (Act.commit p b) fit none =
      let free = free_is jobs node h p (neither_cause (free_cause jobs node h p) (seal_cause (sealer_of h p) b) none).0 in
      commit_done p b free.0 free.1 (fit (live_by p free.0))
  act_done are hosts (Act.deliver frame) fit none = deliver_done frame (is_taken jobs node h.table frame) refl fit

pub acts_fit : ActsFit
acts_fit jobs are scripts node h fits hosts a fit = elim (by_causes (cause jobs node h a) (does jobs node h a)) [
  | inl refused ↦
      subst (λ (x : Result Done Refusal). Fits jobs (unless_refused (is_refusal (over jobs node h x).reply) scripts (says jobs a)) node (over jobs node h x).left) (sym refused.2) fits
  | inr free ↦
      subst (λ (x : Result Done Refusal). Fits jobs (unless_refused (is_refusal (over jobs node h x).reply) scripts (says jobs a)) node (over jobs node h x).left) (sym free.0)
      (act_done jobs scripts node h fits are hosts a fit free.1)
]
