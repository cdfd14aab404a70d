-- No process runs past a fence.
use Rattle.std.proofs.Common.{◌≡◌, ◌≤◌, ◌<◌, ◌⊎◌, ℕ, suc, Bool, true, false, cond, List, [], ◌∷◌, ◌++◌, Option, Some, None, inl, inr, refl, sym, ap, subst, ◌∙◌, append_assoc, arith}
use Rattle.std.specs.Option.{option_map}
use Rattle.std.proofs.lemmas.Bool.{false≢true, cases_lt}
use Rattle.pmg_value.specs.Lists.{Each}
use Rattle.pmg_value.specs.Signatures.{Signature, FenceName}
use Rattle.pmg_value.specs.declared.process.Proc.{Proc}
use Rattle.pmg_scope.specs.Scripts.{Call, Script, has_end}
use Rattle.pmg_jobinfo.specs.Jobs.{Jobs, home_of}
use Rattle.pmg_fence.specs.Changes.{next_name}
use Rattle.pmg_fence.specs.Entering.{same_signature, enters}
use Rattle.pmg_fence.specs.Rules.{Scripts, Grows}
use Rattle.pmg_fence.specs.Tables.{fence_of, gone_by}
use Rattle.pmg_fence.proofs.EntryLemmas.{Idle, puts, commits_now, ends_now, proc_itself, has_end_more, enters_enter, enters_idle}
use Rattle.pmg_fence.proofs.HeaderLemmas.{by_proc}
use Rattle.pmg_fence.proofs.LineLemmas.{append_empty}
use Rattle.pmg_fence.proofs.TableLemmas.{signature_exact}
use Rattle.pmg_node_model.specs.Acts.{Request, Act, also, list_cause, signature_cause, free_cause, request_cause, cause, list_of, signature_of, serves, does, over, said_by, says}
use Rattle.pmg_node_model.specs.Fitting.{Fits, is_refusal, unless_refused, with_said}
use Rattle.pmg_node_model.specs.Holdings.{CallState, NodeState, call_of, is_ready_at, released_by, settle, settled}
use Rattle.pmg_node_model.proofs.CallFacts.{call-called, call-settled}
use Rattle.pmg_node_model.proofs.CauseFacts.{NoCause, IsCaller, free_is, neither_cause}
use Rattle.pmg_node_model.proofs.Moving.{Moves, StaysOrMoves, does_call}
use Rattle.pmg_node_model.proofs.Reading.{grows_unless}
use Rattle.pmg_node_model.proofs.Releasing.{entry_grown}
use Rattle.pmg_node_model.proofs.Saying.{each_said, script_said}
use Rattle.pmg_group_model.specs.Laws.{FreedRight}
use Rattle.pmg_group_model.specs.Turns.{IsOver, IsInTurn}

-- ---- how often a process entered

enters_more : (s calls : Script) (g : Signature) → Each Idle calls → enters (s ++ calls) g ≡ enters s g
enters_more s [] g idle = ap (λ x. enters x g) (append_empty s)
enters_more s (c ∷ cs) g idle = ap (λ x. enters x g) (sym (append_assoc s (c ∷ []) cs)) ∙ enters_more (s ++ c ∷ []) cs g idle.1 ∙ enters_idle s c g idle.0

pub enters_said : (scripts : Scripts) (by : Proc) (calls : Script) (g : Signature) → Each Idle calls → (q : Proc) → enters (with_said scripts (said_by by calls) q) g ≡ enters (scripts q) g
enters_said scripts by calls g idle = each_said scripts by calls (λ q s. enters s g ≡ enters (scripts q) g) (enters_more (scripts by) calls g idle) (λ q apart. refl)

abbrev pub EntersSame : Scripts → Scripts → Proc → Type 0
EntersSame scripts grown p = (g : Signature) → enters (grown p) g ≡ enters (scripts p) g

-- it entered as often as before, or the act is its entry
abbrev pub EntersAfter : Jobs → Scripts → Scripts → Proc → Act → Type 0
EntersAfter jobs scripts grown p a = EntersSame scripts grown p ⊎ ((list : List Proc) × (collect : Bool) × (a ≡ Act.request (Request.enter p list collect)))

act_enters : (jobs : Jobs) (scripts : Scripts) (p : Proc) (a : Act) (refused : Bool) → EntersAfter jobs scripts (unless_refused refused scripts (says jobs a)) p a
unfolding says
act_enters jobs scripts p a true = inl (λ g. refl)
act_enters jobs scripts p (Act.request (Request.enter by list collect)) false = by_proc p by
    (λ same. inr (list, collect, ap (λ q. Act.request (Request.enter q list collect)) (sym same)))
    (λ apart. inl (λ g. ap (λ b. enters (cond b (scripts p ++ Call.enter (signature_of jobs by list collect) ∷ []) (scripts p)) g) apart))
act_enters jobs scripts p (Act.request (Request.leave by)) false = inl (λ g. refl)
act_enters jobs scripts p (Act.request (Request.ask by get mode)) false = inl (λ g. refl)
act_enters jobs scripts p (Act.request (Request.take by)) false = inl (λ g. refl)
act_enters jobs scripts p (Act.request (Request.terminate by)) false = inl (λ g. enters_said scripts by (Call.terminate ∷ []) g (ends_now, tt) p)
act_enters jobs scripts p (Act.request (Request.define name list)) false = inl (λ g. enters_said scripts _ _ g (puts _ _ _, (commits_now, tt)) p)
act_enters jobs scripts p (Act.request (Request.delete name)) false = inl (λ g. enters_said scripts _ _ g (puts _ _ _, (commits_now, tt)) p)
act_enters jobs scripts p (Act.request Request.nudge) false = inl (λ g. refl)
act_enters jobs scripts p (Act.commit by b) false = inl (λ g. enters_said scripts by (Call.commit ∷ []) g (commits_now, tt) p)
act_enters jobs scripts p (Act.deliver frame) false = inl (λ g. refl)

-- ---- what stays

over_grown : (scripts grown : Scripts) (f : FenceName) → Grows scripts grown → IsOver scripts f → IsOver grown f
over_grown scripts grown f grows over q i = let its = over q i in (its.0, entry_grown scripts grown f q its.0 grows its.1)

end_grown : (scripts grown : Scripts) (p : Proc) → Grows scripts grown → has_end (scripts p) ≡ true → has_end (grown p) ≡ true
end_grown scripts grown p grows e = ap has_end (grows p).1 ∙ has_end_more (scripts p) (grows p).0 e

-- the fences that a process entered are past, where this is its call
abbrev pub PastBy : Scripts → Option CallState → Proc → Type 0
PastBy scripts c p =
    (g : Signature) (k : ℕ) → 0 < k → k ≤ enters (scripts p) g → IsOver scripts (fence_of g k) ⊎ ((c ≡ Some (CallState.in_fence (fence_of g k))) ⊎ (has_end (scripts p) ≡ true))

module _ (scripts grown : Scripts) (grows : Grows scripts grown) (p : Proc) where
  still_past : (c after : Option CallState) (f : FenceName) → (c ≡ Some (CallState.in_fence f) → after ≡ Some (CallState.in_fence f))
      → IsOver scripts f ⊎ ((c ≡ Some (CallState.in_fence f)) ⊎ (has_end (scripts p) ≡ true)) → IsOver grown f ⊎ ((after ≡ Some (CallState.in_fence f)) ⊎ (has_end (grown p) ≡ true))
  still_past c after f same (inl over) = inl (over_grown scripts grown f grows over)
  still_past c after f same (inr (inl in_it)) = inr (inl (same in_it))
  still_past c after f same (inr (inr ended)) = inr (inr (end_grown scripts grown p grows ended))

  pub past_more : (c after : Option CallState) → EntersSame scripts grown p → ((f : FenceName) → c ≡ Some (CallState.in_fence f) → after ≡ Some (CallState.in_fence f)) → PastBy scripts c p → PastBy grown after p
  past_more c after same call past g k pos le = still_past c after (fence_of g k) (call (fence_of g k)) (past g k pos (subst (λ n. k ≤ n) (same g) le))

  past_ended : (after : Option CallState) → has_end (grown p) ≡ true → PastBy grown after p
  past_ended after ended g k pos le = inr (inr ended)

  over_free : (f : FenceName) → has_end (scripts p) ≡ false → IsOver scripts f ⊎ ((None ≡ Some (CallState.in_fence f)) ⊎ (has_end (scripts p) ≡ true)) → IsOver grown f
  over_free f live (inl over) = over_grown scripts grown f grows over
  over_free f live (inr (inl in_it)) = absurd cc
  over_free f live (inr (inr ended)) = absurd (false≢true (sym live ∙ ended))

  -- ---- an entry
  module _ (g0 : Signature) (entered : (g : Signature) → enters (grown p) g ≡ cond (same_signature g g0) (suc (enters (scripts p) g)) (enters (scripts p) g)) (live : has_end (scripts p) ≡ false)
      (past : PastBy scripts None p) where
    last_or_before : (k n : ℕ) → k ≤ suc n → (k ≤ n) ⊎ (k ≡ suc n)
    last_or_before k n le = elim (cases_lt n k) [
      | inl more ↦ inr (omega (arith, le, more))
      | inr less ↦ inl less
    ]

    by_signature : (g : Signature) (k : ℕ) (b : Bool) → same_signature g g0 ≡ b → 0 < k → k ≤ cond b (suc (enters (scripts p) g)) (enters (scripts p) g)
        → IsOver grown (fence_of g k) ⊎ (fence_of g k ≡ fence_of g0 (suc (enters (scripts p) g0)))
    by_signature g k false is pos le = inl (over_free (fence_of g k) live (past g k pos le))
    by_signature g k true is pos le = elim (last_or_before k (enters (scripts p) g) le) [
      | inl before ↦ inl (over_free (fence_of g k) live (past g k pos before))
      | inr last ↦ let same = signature_exact g g0 is in inr (ap (fence_of g) last ∙ ap (λ x. fence_of x (suc (enters (scripts p) x))) same)
    ]

    entered_so : (c : Option CallState) (f : FenceName) → c ≡ Some (CallState.in_fence (fence_of g0 (suc (enters (scripts p) g0)))) → IsOver grown f ⊎ (f ≡ fence_of g0 (suc (enters (scripts p) g0)))
        → IsOver grown f ⊎ ((c ≡ Some (CallState.in_fence f)) ⊎ (has_end (grown p) ≡ true))
    entered_so c f is (inl over) = inl over
    entered_so c f is (inr same) = inr (inl (is ∙ ap (λ x. Some (CallState.in_fence x)) (sym same)))

    pub past_entered : (c : Option CallState) → c ≡ Some (CallState.in_fence (fence_of g0 (suc (enters (scripts p) g0)))) → PastBy grown c p
    past_entered c is g k pos le = entered_so c (fence_of g k) is (by_signature g k (same_signature g g0) refl pos (subst (λ n. k ≤ n) (entered g) le))

    turn_by : (g : Signature) (k : ℕ) (b : Bool) → 0 < k → k < cond b (suc (enters (scripts p) g)) (enters (scripts p) g) → IsOver grown (fence_of g k)
    turn_by g k true pos lt = over_free (fence_of g k) live (past g k pos (omega (arith, lt)))
    turn_by g k false pos lt = over_free (fence_of g k) live (past g k pos (omega (arith, lt)))

    pub turn_entered : IsInTurn grown p
    turn_entered g k pos lt = turn_by g k (same_signature g g0) pos (subst (λ n. k < n) (entered g) lt)

  pub turn_more : EntersSame scripts grown p → IsInTurn scripts p → IsInTurn grown p
  turn_more same turn g k pos lt = over_grown scripts grown (fence_of g k) grows (turn g k pos (subst (λ n. k < n) (same g) lt))

-- ---- who is settled

pub settled_past : (jobs : Jobs) (node : ℕ) (d : NodeState) (scripts : Scripts) (p : Proc) → FreedRight scripts (settled jobs node d) → PastBy scripts (call_of d p) p → PastBy scripts (call_of (settled jobs node d) p) p
settled_past jobs node d scripts p freed past g k pos le = by_call (past g k pos le)
  where
    f : FenceName
    f = fence_of g k

    by_ready : (b : Bool) → is_ready_at jobs node d f ≡ b → call_of (settled jobs node d) p ≡ Some (released_by b f (gone_by jobs node d.table f))
        → IsOver scripts f ⊎ ((call_of (settled jobs node d) p ≡ Some (CallState.in_fence f)) ⊎ (has_end (scripts p) ≡ true))
    by_ready true ready is = let was = freed p f (gone_by jobs node d.table f) is in inl (λ q i. let its = was.covered q i in (its.0, its.1))
    by_ready false ready is = inr (inl is)

    by_call : IsOver scripts f ⊎ ((call_of d p ≡ Some (CallState.in_fence f)) ⊎ (has_end (scripts p) ≡ true))
        → IsOver scripts f ⊎ ((call_of (settled jobs node d) p ≡ Some (CallState.in_fence f)) ⊎ (has_end (scripts p) ≡ true))
    by_call (inl over) = inl over
    by_call (inr (inl in_it)) = by_ready (is_ready_at jobs node d f) refl (call-settled jobs node d p ∙ ap (option_map (settle jobs node d)) in_it)
    by_call (inr (inr ended)) = inr (inr ended)

-- ---- an act that is not refused

module _ (jobs : Jobs) (scripts : Scripts) (n : ℕ) (h : NodeState) (fits : Fits jobs scripts n h) (p : Proc) where
  abbrev pub grown_by : Act → Scripts
  grown_by a = unless_refused (is_refusal (does jobs n h a).reply) scripts (says jobs a)

  grows_by : (a : Act) → Grows scripts (grown_by a)
  grows_by a = grows_unless (is_refusal (does jobs n h a).reply) scripts (says jobs a)

  -- what an entry leaves
  pub record Enters (list : List Proc) (collect : Bool) : Type 0 where
    pub caller : IsCaller jobs n h p
    pub free : call_of h p ≡ None
    pub live : has_end (scripts p) ≡ false
    pub often : (g : Signature) → enters (grown_by (Act.request (Request.enter p list collect)) p) g
        ≡ cond (same_signature g (signature_of jobs p list collect)) (suc (enters (scripts p) g)) (enters (scripts p) g)
    pub call : call_of (does jobs n h (Act.request (Request.enter p list collect))).left p
        ≡ Some (CallState.in_fence (fence_of (signature_of jobs p list collect) (suc (enters (scripts p) (signature_of jobs p list collect)))))

  entering : (list : List Proc) (collect : Bool) → NoCause (cause jobs n h (Act.request (Request.enter p list collect))) → Enters list collect
  unfolding cause request_cause does serves says
  entering list collect none =
      let g0 = signature_of jobs p list collect in
      let free = free_is jobs n h p (neither_cause (free_cause jobs n h p) (also (list_cause jobs (list_of p list)) (signature_cause h g0 p)) none).0 in
      let live : has_end (scripts p) ≡ false = sym (fits.own p free.0.home).sealer.ended ∙ free.0.live in
      record {
        caller = free.0;
        free = free.1;
        live = live;
        often = λ g. ap (λ s. enters s g) (script_said scripts p (Call.enter g0 ∷ [])) ∙ enters_enter (scripts p) g0 g live;
        call = call-called h p (CallState.in_fence (next_name h.table g0 p)) p ∙ ap (λ b. cond b (Some (CallState.in_fence (next_name h.table g0 p))) (call_of h p)) (proc_itself p)
            ∙ ap (λ k. Some (CallState.in_fence (fence_of g0 (suc k)))) ((fits.table.own p free.0.home).counts g0);
      }

  not_in : (c : Option CallState) → call_of h p ≡ c → ((f : FenceName) → c ≡ Some (CallState.in_fence f) → ⊥) → (after : Option CallState) (f : FenceName) → call_of h p ≡ Some (CallState.in_fence f) → after ≡ Some (CallState.in_fence f)
  not_in c is none after f e = absurd (none f (sym is ∙ e))

  ended_then : (a : Act) → a ≡ Act.request (Request.terminate p) → has_end (grown_by a p) ≡ true
  unfolding does serves says
  ended_then a is = subst (λ x. has_end (grown_by x p) ≡ true) (sym is) over_then
    where
      ends_so : (s : Script) → has_end (s ++ Call.terminate ∷ []) ≡ true
      ends_so [] = refl
      ends_so (Call.put scope key value ∷ cs) = ends_so cs
      ends_so (Call.commit ∷ cs) = ends_so cs
      ends_so (Call.enter g ∷ cs) = ends_so cs
      ends_so (Call.terminate ∷ cs) = refl

      over_then : has_end (grown_by (Act.request (Request.terminate p)) p) ≡ true
      over_then = ap has_end (script_said scripts p (Call.terminate ∷ [])) ∙ ends_so (scripts p)

  idle_past : (a : Act) (c : Option CallState) → StaysOrMoves jobs n h p a c → EntersSame scripts (grown_by a) p → PastBy scripts (call_of h p) p → PastBy (grown_by a) c p
  idle_past a c (inl same) often past = past_more scripts (grown_by a) (grows_by a) p (call_of h p) c often (λ f e. same ∙ e) past
  idle_past a c (inr (Moves.entering list collect is was now)) often past =
      past_more scripts (grown_by a) (grows_by a) p (call_of h p) c often (not_in None was (λ f e. absurd cc) c) past
  idle_past a c (inr (Moves.parking get mode is was answer now)) often past =
      past_more scripts (grown_by a) (grows_by a) p (call_of h p) c often (not_in None was (λ f e. absurd cc) c) past
  idle_past a c (inr (Moves.leaving x gone is was now)) often past =
      past_more scripts (grown_by a) (grows_by a) p (call_of h p) c often (not_in (Some (CallState.released x gone)) was (λ f e. absurd cc) c) past
  idle_past a c (inr (Moves.taking get outcome is was now)) often past =
      past_more scripts (grown_by a) (grows_by a) p (call_of h p) c often (not_in (Some (CallState.answered get outcome)) was (λ f e. absurd cc) c) past
  idle_past a c (inr (Moves.taking_anew get outcome is was now)) often past =
      past_more scripts (grown_by a) (grows_by a) p (call_of h p) c often (not_in (Some (CallState.refreshed get outcome)) was (λ f e. absurd cc) c) past
  idle_past a c (inr (Moves.answering r get number is was its now)) often past =
      past_more scripts (grown_by a) (grows_by a) p (call_of h p) c often (not_in (Some (CallState.refreshing get number)) was (λ f e. absurd cc) c) past
  idle_past a c (inr (Moves.ending is now)) often past = past_ended scripts (grown_by a) (grows_by a) p c (ended_then a is)

  entered_past : (list : List Proc) (collect : Bool) → NoCause (cause jobs n h (Act.request (Request.enter p list collect))) → PastBy scripts (call_of h p) p
      → PastBy (grown_by (Act.request (Request.enter p list collect))) (call_of (does jobs n h (Act.request (Request.enter p list collect))).left p) p
  entered_past list collect none past =
      let a = Act.request (Request.enter p list collect) in
      let its = entering list collect none in
      past_entered scripts (grown_by a) (grows_by a) p (signature_of jobs p list collect) its.often its.live (subst (λ c. PastBy scripts c p) its.free past) (call_of (does jobs n h a).left p) its.call

  pub does_past : (a : Act) → NoCause (cause jobs n h a) → PastBy scripts (call_of h p) p → PastBy (grown_by a) (call_of (does jobs n h a).left p) p
  does_past a none past = elim (act_enters jobs scripts p a (is_refusal (does jobs n h a).reply)) [
    | inl often ↦ idle_past a (call_of (does jobs n h a).left p) (does_call jobs n h p a none) often past
    | inr enter ↦
        subst (λ x. NoCause (cause jobs n h x) → PastBy (grown_by x) (call_of (does jobs n h x).left p) p) (sym enter.2) (λ none. entered_past enter.0 enter.1 none past) none
  ]

  entered_turn : (list : List Proc) (collect : Bool) → NoCause (cause jobs n h (Act.request (Request.enter p list collect))) → (home_of jobs p ≡ n → PastBy scripts (call_of h p) p)
      → IsInTurn (grown_by (Act.request (Request.enter p list collect))) p
  entered_turn list collect none past =
      let a = Act.request (Request.enter p list collect) in
      let its = entering list collect none in
      turn_entered scripts (grown_by a) (grows_by a) p (signature_of jobs p list collect) its.often its.live (subst (λ c. PastBy scripts c p) its.free (past its.caller.home))

  pub does_turn : (a : Act) → NoCause (cause jobs n h a) → (home_of jobs p ≡ n → PastBy scripts (call_of h p) p) → IsInTurn scripts p → IsInTurn (grown_by a) p
  does_turn a none past turn = elim (act_enters jobs scripts p a (is_refusal (does jobs n h a).reply)) [
    | inl often ↦ turn_more scripts (grown_by a) (grows_by a) p often turn
    | inr enter ↦ subst (λ x. NoCause (cause jobs n h x) → IsInTurn (grown_by x) p) (sym enter.2) (λ none. entered_turn enter.0 enter.1 none past) none
  ]

  -- a process of another node enters nothing here
  pub away_past : (a : Act) → NoCause (cause jobs n h a) → (home_of jobs p ≡ n → ⊥) → (c : Option CallState) → PastBy scripts c p → PastBy (grown_by a) c p
  away_past a none away c past = elim (act_enters jobs scripts p a (is_refusal (does jobs n h a).reply)) [
    | inl often ↦ past_more scripts (grown_by a) (grows_by a) p c c often (λ f e. e) past
    | inr enter ↦ absurd (away (entering enter.0 enter.1 (subst (λ x. NoCause (cause jobs n h x)) enter.2 none)).caller.home)
  ]
