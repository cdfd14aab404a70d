-- What holds of a world holds of it after a step.
use Rattle.std.proofs.Common.{◌≡◌, ◌≤◌, ℕ, Bool, true, false, ◌==◌, cond, List, [], ◌∷◌, ◌++◌, Option, Some, None, Result, inl, inr, refl, sym, ap, subst, ◌∙◌, arith}
use Rattle.std.proofs.lemmas.Bool.{false≢true}
use Rattle.std.proofs.lemmas.Bool.Decides.{nat_tests}
use Rattle.pmg_value.specs.Lists.{Each}
use Rattle.pmg_value.specs.Signatures.{FenceName}
use Rattle.pmg_value.specs.declared.process.Proc.{Proc}
use Rattle.pmg_value.specs.declared.refusal.Refusal.{Refusal}
use Rattle.pmg_scope.specs.Scripts.{Call, Script, has_end}
use Rattle.pmg_scope.specs.declared.scope.Reach.TheVariants as reach
use Rattle.pmg_commit.specs.Data.{Data, level_at}
use Rattle.pmg_commit.specs.Honest.{IsHonest}
use Rattle.pmg_commit.specs.Sealed.{Sealed, piece_at}
use Rattle.pmg_commit.proofs.HonestLaws.{honest_stays}
use Rattle.pmg_commit.proofs.SealerLaws.{pieces_are_honest, put_seals_nothing}
use Rattle.pmg_pset.specs.Sets.{host}
use Rattle.pmg_frame.specs.Refreshing.{RefreshAsk, RefreshReply}
use Rattle.pmg_frame.specs.declared.frame.Frame.{Frame}
use Rattle.pmg_frame.specs.declared.frame.Frame.TheVariants as frames
use Rattle.pmg_frame.specs.declared.local.Local.{Local}
use Rattle.pmg_jobinfo.specs.Jobs.{Jobs, AreJobs, home_of}
use Rattle.pmg_fence.specs.Changes.{present}
use Rattle.pmg_fence.specs.Entering.{header_of}
use Rattle.pmg_fence.specs.Rules.{Scripts, Grows}
use Rattle.pmg_fence.specs.Tables.{Fences, has_name, own_header, gone_by}
use Rattle.pmg_fence.proofs.FitLemmas.{header_stays, own_header_is_true, ready_is_whole, gone_are_true}
use Rattle.pmg_fence.proofs.StepLemmas.{put_fits}
use Rattle.pmg_node_model.specs.Acts.{Act, Reply, Done, Said, cause, does, over, acts, said_by, says}
use Rattle.pmg_node_model.specs.Fitting.{Fits, HonestFrame, FitsHost, FitsAct, is_refusal, unless_refused, with_said}
use Rattle.pmg_node_model.specs.Holdings.{NodeState, sealer_of, is_ready_at}
use Rattle.pmg_node_model.specs.Kept.{HasTwo}
use Rattle.pmg_node_model.specs.Sending.{Allowed}
use Rattle.pmg_node_model.specs.declared.sent.Sent.{Sent}
use Rattle.pmg_node_model.proofs.ActsFitted.{acts_fit, calls_none}
use Rattle.pmg_node_model.proofs.CauseFacts.{by_causes}
use Rattle.pmg_node_model.proofs.Fitted.{fits_saying, fits_elsewhere}
use Rattle.pmg_node_model.proofs.Growing.{act_rises}
use Rattle.pmg_node_model.proofs.Names.{two_stay}
use Rattle.pmg_node_model.proofs.Reading.{grows_unless}
use Rattle.pmg_node_model.proofs.Releasing.{entry_grown, gone_grown}
use Rattle.pmg_node_model.proofs.AfterActs.{freed_by_ready}
use Rattle.pmg_group_model.specs.Worlds.{World, Event, Doing, ActStep, Does, Step, with_holding_at, reply_or_refusal, doing}
use Rattle.pmg_group_model.specs.Laws.{Good, WasReady, FreedRight}
use Rattle.pmg_group_model.proofs.Naming.{present_has_name}
use Rattle.pmg_group_model.proofs.Speaking.{SpeakerIs, act_speaks, host_said, IsPut, DoingFits, doing_fits}

-- ---- frames

-- what is honest stays so
pub frame_stays : (jobs : Jobs) (scripts grown : Scripts) → Grows scripts grown → (frame : Frame) → HonestFrame jobs scripts frame → HonestFrame jobs grown frame
frame_stays jobs scripts grown grows (frames.Piece c) honest =
    subst (λ s. IsHonest s reach.Far c) (sym (grows c.proc).1) (honest_stays (scripts c.proc) (grows c.proc).0 reach.Far c honest)
frame_stays jobs scripts grown grows (frames.Header hd) honest = header_stays jobs scripts grown hd.name hd.node hd.locals grows honest
frame_stays jobs scripts grown grows (frames.FenceAsk a) honest = tt
frame_stays jobs scripts grown grows (frames.RangeAsk a) honest = tt
frame_stays jobs scripts grown grows (frames.DirectAsk a) honest = tt
frame_stays jobs scripts grown grows (frames.RefreshAsk a) honest = tt
frame_stays jobs scripts grown grows (frames.RefreshReply r) honest =
    subst (λ s. IsHonest s reach.Far r.told) (sym (grows r.told.proc).1) (honest_stays (scripts r.told.proc) (grows r.told.proc).0 reach.Far r.told honest)

own_of_present : (b : Bool) (o : Option (List Local)) (ls : List Local) → cond b o None ≡ Some ls → o ≡ Some ls
own_of_present true o ls e = e
own_of_present false o ls e = absurd cc

present_is_own : (jobs : Jobs) (node : ℕ) (t : Fences) (f : FenceName) (ls : List Local) → present jobs node t f ≡ Some ls → own_header jobs node t f ≡ Some ls
unfolding present
present_is_own jobs node t f ls e = own_of_present (has_name t f) (own_header jobs node t f) ls e

-- what a node may send is honest
pub allowed_honest : (jobs : Jobs) (scripts : Scripts) (node : ℕ) (act : Act) (h : NodeState) → Fits jobs scripts node h → HasTwo h.table → (frame : Frame) → Allowed jobs node act h frame → HonestFrame jobs scripts frame
unfolding Allowed
allowed_honest jobs scripts node act h fits two (frames.Piece c) allowed =
    subst (λ x. IsHonest (scripts c.proc) reach.Far x) (sym allowed.2) (pieces_are_honest (sealer_of h c.proc) (scripts c.proc) c.from reach.Far (fits.own c.proc allowed.0).sealer refl)
allowed_honest jobs scripts node act h fits two (frames.Header hd) allowed =
    ap (header_of jobs scripts hd.name) allowed.0 ∙ sym (own_header_is_true jobs node scripts h.table hd.name fits.table (two hd.name (present_has_name jobs node h.table hd.name hd.locals allowed.1)).0) ∙ present_is_own jobs node h.table hd.name hd.locals allowed.1
allowed_honest jobs scripts node act h fits two (frames.FenceAsk a) allowed = tt
allowed_honest jobs scripts node act h fits two (frames.RangeAsk a) allowed = tt
allowed_honest jobs scripts node act h fits two (frames.DirectAsk a) allowed = tt
allowed_honest jobs scripts node act h fits two (frames.RefreshAsk a) allowed = tt
allowed_honest jobs scripts node act h fits two (frames.RefreshReply r) allowed = subst (λ (x : RefreshReply). IsHonest (scripts x.told.proc) reach.Far x.told) (sym allowed.4) told
  where
    ask : RefreshAsk
    ask = allowed.0

    z : Sealed
    z = sealer_of h ask.ask.proc

    its : z.proc ≡ ask.ask.proc
    its = (fits.own ask.ask.proc allowed.2).proc

    told : IsHonest (scripts z.proc) reach.Far (piece_at z ask.ask.level reach.Far)
    told =
        subst (λ (p : Proc). IsHonest (scripts p) reach.Far (piece_at z ask.ask.level reach.Far)) (sym its)
        (pieces_are_honest z (scripts ask.ask.proc) ask.ask.level reach.Far (fits.own ask.ask.proc allowed.2).sealer refl)

pub each_both : {A : Type 0} (P : A → Type 0) (xs ys : List A) → Each P xs → Each P ys → Each P (xs ++ ys)
each_both P [] ys one other = other
each_both P (x ∷ xs) ys one other = (one.0, each_both P xs ys one.1 other)

pub each_still : {A : Type 0} (P Q : A → Type 0) (xs : List A) → ((x : A) → P x → Q x) → Each P xs → Each Q xs
each_still P Q [] more each = tt
each_still P Q (x ∷ xs) more each = (more x each.0, each_still P Q xs more each.1)

-- ---- who is released

pub ready_grown : (scripts grown : Scripts) (far more : Data) (f : FenceName) (gone : List Proc) → Grows scripts grown → ((q : Proc) → level_at far q ≤ level_at more q)
    → WasReady scripts far f gone → WasReady grown more f gone
ready_grown scripts grown far more f gone grows higher was = record {
  gone_are = was.gone_are ∙ gone_grown scripts grown f grows (λ q i. let its = was.covered q i in (its.0, its.1));
  covered = λ q i.
      let its = was.covered q i in
      (its.0, entry_grown scripts grown f q its.0 grows its.1, λ collects. omega (arith, its.2 collects, higher q));
}

pub ready_now : (jobs : Jobs) (scripts : Scripts) (node : ℕ) (h : NodeState) (f : FenceName) (gone : List Proc) → Fits jobs scripts node h → is_ready_at jobs node h f ≡ true
    → gone ≡ gone_by jobs node h.table f → WasReady scripts h.far f gone
ready_now jobs scripts node h f gone fits ready told = record {
  gone_are = told ∙ gone_are_true jobs node scripts h.table f (level_at h.far) fits.table ready;
  covered = λ q i. ready_is_whole jobs node scripts h.table f (level_at h.far) fits.table ready q i;
}

-- ---- nodes

same_node : (m n : ℕ) → (m == n) ≡ true → m ≡ n
same_node m n e = grind (arith, nat_tests)

other_node : (m n : ℕ) → (m == n) ≡ false → m ≡ n → ⊥
other_node m n e is = absurd (grind (arith, nat_tests))

-- what holds of the node that acted, and of all others
pub each_node : (P : ℕ → NodeState → Type 0) (nodes : ℕ → NodeState) (n : ℕ) (h : NodeState) → P n h → ((m : ℕ) → (m ≡ n → ⊥) → P m (nodes m)) → (m : ℕ) → P m (with_holding_at nodes n h m)
each_node P nodes n h one others m = by_test (m == n) refl
  where
    by_test : (b : Bool) → (m == n) ≡ b → P m (cond b h (nodes m))
    by_test true is = subst (λ k. P k h) (sym (same_node m n is)) one
    by_test false is = others m (other_node m n is)

-- ---- an act

fits_others : (jobs : Jobs) (n m : ℕ) (scripts : Scripts) (h : NodeState) (refused : Bool) (o : Option Said) → (m ≡ n → ⊥) → SpeakerIs jobs n o → Fits jobs scripts m h
    → Fits jobs (unless_refused refused scripts o) m h
fits_others jobs n m scripts h true o away speaks fits = fits
fits_others jobs n m scripts h false None away speaks fits = fits
fits_others jobs n m scripts h false (Some said) away speaks fits = fits_elsewhere jobs scripts m h said.proc said.calls (λ home. away (sym home ∙ speaks.0)) fits

module _ (jobs : Jobs) (are : AreJobs jobs) (w : World) (good : Good jobs w) (n : ℕ) (a : Act) (fit : FitsAct jobs w.scripts a) where
  abbrev pub left_by : NodeState
  left_by = (acts jobs n (w.nodes n) a).left

  abbrev pub refused_by : Bool
  refused_by = is_refusal (acts jobs n (w.nodes n) a).reply

  abbrev pub scripts_by : Scripts
  scripts_by = unless_refused refused_by w.scripts (says jobs a)

  abbrev pub world_by : List Sent → World
  world_by out = record { scripts = scripts_by; nodes = with_holding_at w.nodes n left_by; sent = w.sent ++ out }

  pub scripts_grow : Grows w.scripts scripts_by
  scripts_grow = grows_unless refused_by w.scripts (says jobs a)

  -- what holds of the scripts where nothing is said, and where the speaker is at home, holds after the act
  said_rightly : (P : Scripts → Type 0) → P w.scripts → ((refused : Bool) → SpeakerIs jobs n (says jobs a) → P (unless_refused refused w.scripts (says jobs a))) → P scripts_by
  said_rightly P still said = elim (by_causes (cause jobs n (w.nodes n) a) (does jobs n (w.nodes n) a)) [
    | inl found ↦ subst (λ (x : Result Done Refusal). P (unless_refused (is_refusal (over jobs n (w.nodes n) x).reply) w.scripts (says jobs a))) (sym found.2) still
    | inr free ↦
        subst (λ (x : Result Done Refusal). P (unless_refused (is_refusal (over jobs n (w.nodes n) x).reply) w.scripts (says jobs a))) (sym free.0)
        (said (is_refusal (does jobs n (w.nodes n) a).reply) (act_speaks jobs are n (w.nodes n) a free.1))
  ]

  pub left_fits : Fits jobs scripts_by n left_by
  left_fits = acts_fit jobs are w.scripts n (w.nodes n) (good.fits n) good.hosts a fit

  others_still : (m : ℕ) → (m ≡ n → ⊥) → Fits jobs scripts_by m (w.nodes m)
  others_still m away =
      said_rightly (λ s. Fits jobs s m (w.nodes m)) (good.fits m) (λ refused speaks. fits_others jobs n m w.scripts (w.nodes m) refused (says jobs a) away speaks (good.fits m))

  left_freed : FreedRight scripts_by left_by
  left_freed p f gone e = elim (freed_by_ready jobs n (w.nodes n) a p f gone e) [
    | inl was ↦ ready_grown w.scripts scripts_by (w.nodes n).far left_by.far f gone scripts_grow (act_rises jobs n (w.nodes n) a).far (good.freed n p f gone was)
    | inr now ↦ ready_now jobs scripts_by n left_by f gone left_fits now.0 now.1
  ]

  left_two : HasTwo left_by.table
  left_two = two_stay jobs n (w.nodes n) a (good.kept n)

  same_level : (k : ℕ) → k ≤ k
  same_level k = omega arith

  pub act_good : (out : List Sent) → Each (λ s. Allowed jobs n a left_by s.frame) out → Good jobs (world_by out)
  act_good out allowed = record {
    fits = each_node (λ m h. Fits jobs scripts_by m h) w.nodes n left_by left_fits others_still;
    honest = each_both (λ s. HonestFrame jobs scripts_by s.frame) w.sent out
        (each_still (λ s. HonestFrame jobs w.scripts s.frame) (λ s. HonestFrame jobs scripts_by s.frame) w.sent (λ s. frame_stays jobs w.scripts scripts_by scripts_grow s.frame) good.honest)
        (each_still (λ s. Allowed jobs n a left_by s.frame) (λ s. HonestFrame jobs scripts_by s.frame) out (λ s. allowed_honest jobs scripts_by n a left_by left_fits left_two s.frame) allowed);
    hosts = said_rightly (λ s. FitsHost (s host)) good.hosts (λ refused speaks. host_said jobs n w.scripts refused (says jobs a) speaks good.hosts);
    freed = each_node (λ m h. FreedRight scripts_by h) w.nodes n left_by left_freed (λ m away p f gone e.
        ready_grown w.scripts scripts_by (w.nodes m).far (w.nodes m).far f gone scripts_grow (λ q. same_level _) (good.freed m p f gone e));
    kept = each_node (λ m h. HasTwo h.table) w.nodes n left_by left_two (λ m away. good.kept m);
  }

-- ---- a put

module _ (jobs : Jobs) (w : World) (good : Good jobs w) (said : Said) (put : IsPut jobs w said) where
  abbrev pub put_call : Script
  put_call = Call.put put.scope put.key put.value ∷ []

  abbrev pub scripts_put : Scripts
  scripts_put = with_said w.scripts (said_by put.proc put_call)

  put_grows : Grows w.scripts scripts_put
  put_grows = grows_unless false w.scripts (said_by put.proc put_call)

  put_live : has_end (w.scripts put.proc) ≡ false
  put_live = sym ((good.fits (home_of jobs put.proc)).own put.proc put.caller.home).sealer.ended ∙ put.caller.live

  here_fits : Fits jobs scripts_put (home_of jobs put.proc) (w.nodes (home_of jobs put.proc))
  here_fits =
      let n = home_of jobs put.proc in
      let h = w.nodes n in
      let fits = good.fits n in
      fits_saying jobs w.scripts n h put.proc put_call refl fits (put_seals_nothing (sealer_of h put.proc) (w.scripts put.proc) put.scope put.key put.value (fits.own put.proc refl).sealer) h.table h.calls
      (put_fits jobs n w.scripts h.table put.proc put.scope put.key put.value put_live fits.table) (calls_none jobs w.scripts n h put.proc put_call fits put.free)

  same_height : (k : ℕ) → k ≤ k
  same_height k = omega arith

  put_good_so : Good jobs (record { scripts = scripts_put; nodes = w.nodes; sent = w.sent })
  put_good_so = record {
    fits = λ m. by_node m (m == home_of jobs put.proc) refl;
    honest = each_still (λ s. HonestFrame jobs w.scripts s.frame) (λ s. HonestFrame jobs scripts_put s.frame) w.sent (λ s. frame_stays jobs w.scripts scripts_put put_grows s.frame) good.honest;
    hosts = host_said jobs (home_of jobs put.proc) w.scripts false (said_by put.proc put_call) (refl, inl put.member) good.hosts;
    freed = λ m p f gone e. ready_grown w.scripts scripts_put (w.nodes m).far (w.nodes m).far f gone put_grows (λ q. same_height _) (good.freed m p f gone e);
    kept = good.kept;
  }
    where
      by_node : (m : ℕ) (b : Bool) → (m == home_of jobs put.proc) ≡ b → Fits jobs scripts_put m (w.nodes m)
      by_node m true is = subst (λ k. Fits jobs scripts_put k (w.nodes k)) (sym (same_node m (home_of jobs put.proc) is)) here_fits
      by_node m false is = fits_elsewhere jobs w.scripts m (w.nodes m) put.proc put_call (λ home. other_node m (home_of jobs put.proc) is (sym home)) (good.fits m)

  pub put_good : Good jobs (record { scripts = with_said w.scripts (Some said); nodes = w.nodes; sent = w.sent })
  put_good = subst (λ (x : Said). Good jobs (record { scripts = with_said w.scripts (Some x); nodes = w.nodes; sent = w.sent })) (sym put.is) put_good_so

-- ---- a step

-- the world after an act is the one that the act leads to
pub act_world : (jobs : Jobs) (are : AreJobs jobs) (w : World) (good : Good jobs w) (n : ℕ) (a : Act) (fit : FitsAct jobs w.scripts a) (r : Reply) (v : World) (step : ActStep jobs w n a r v)
    → v ≡ world_by jobs are w good n a fit step.out
act_world jobs are w good n a fit r v step =
    step.left
    ∙ (λ i. record { scripts = unless_refused (is_refusal (step.step.replied i)) w.scripts (says jobs a); nodes = with_holding_at w.nodes n (step.step.left i); sent = w.sent ++ step.out })

-- what is so of a world, and stays so where a process puts, is so after what a cache answers
pub cache_keeps : (P : World → Type 0) (jobs : Jobs) (w : World) → P w
    → ((said : Said) → IsPut jobs w said → P (record { scripts = with_said w.scripts (Some said); nodes = w.nodes; sent = w.sent }))
    → (answer : Result Reply Refusal) (o : Option Said) → DoingFits jobs w (Doing.by_cache answer o) → (refused : Bool) → is_refusal (reply_or_refusal answer) ≡ refused
    → P (record { scripts = unless_refused refused w.scripts o; nodes = w.nodes; sent = w.sent })
cache_keeps P jobs w so keeps answer None fits true is = so
cache_keeps P jobs w so keeps answer None fits false is = so
cache_keeps P jobs w so keeps answer (Some said) fits true is = so
cache_keeps P jobs w so keeps answer (Some said) (inl refused) false is = absurd (false≢true (sym is ∙ refused))
cache_keeps P jobs w so keeps answer (Some said) (inr put) false is = keeps said put

pub does_good : (jobs : Jobs) → AreJobs jobs → (w : World) → Good jobs w → (d : Doing) → DoingFits jobs w d → (r : Reply) (v : World) → Does jobs w d r v → Good jobs v
does_good jobs are w good (Doing.at_node n a) fit r v step =
    subst (Good jobs) (sym (act_world jobs are w good n a fit r v step))
    (act_good jobs are w good n a fit step.out (subst (λ h. Each (λ s. Allowed jobs n a h s.frame) step.out) step.step.left step.step.allowed))
does_good jobs are w good (Doing.by_cache answer o) fit r v step =
    subst (Good jobs) (sym (step.left ∙ ap (λ (x : Reply). record { scripts = unless_refused (is_refusal x) w.scripts o; nodes = w.nodes; sent = w.sent }) step.replied))
    (cache_keeps (Good jobs) jobs w good (put_good jobs w good) answer o fit (is_refusal (reply_or_refusal answer)) refl)

pub step_good : (jobs : Jobs) → AreJobs jobs → (w : World) → Good jobs w → (e : Event) (r : Reply) (v : World) → Step jobs w e r v → Good jobs v
step_good jobs are w good e r v step = does_good jobs are w good (doing jobs w e) (doing_fits jobs w good e) r v step
