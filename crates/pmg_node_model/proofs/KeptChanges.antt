-- What each change of a content keeps.
use Rattle.std.proofs.Common.{◌≡◌, ℕ, ◌≤◌, Bool, true, false, cond, List, Option, Some, None, is_some, inl, inr, ◌⊎◌, refl, sym, ap, subst, ◌∙◌, arith}
use Rattle.std.specs.Prelude.{if◌then◌else◌, nat_le, filter}
use Rattle.std.specs.FinMap as finite
use Rattle.std.specs.FinMap.{nat_cmp-IsAntisymmetric}
use Rattle.std.specs.FinSet as set
use Rattle.std.specs.Option.{option_map, unwrap_or}
use Rattle.std.specs.Ordering.{nat_cmp, eq_by_cmp}
use Rattle.std.specs.Cmp.{Equal-is, nat_cmp_total}
use Rattle.std.proofs.lemmas.Bool.{false≢true, leb-true}
use Rattle.pmg_value.specs.Process.{proc_cmp, is_host}
use Rattle.pmg_value.specs.Signatures.{FenceName}
use Rattle.pmg_value.specs.declared.process.Proc.{Proc}
use Rattle.pmg_value.proofs.ProcessOrder.{procs_total, exact_procs}
use Rattle.pmg_value.proofs.RowLemmas.{get-map_of}
use Rattle.pmg_commit.specs.Data.{Data}
use Rattle.pmg_commit.specs.Sealed.{Sealed, fresh}
use Rattle.pmg_fence.specs.Entering.{same_proc}
use Rattle.pmg_fence.specs.Tables.{Fences, has_name, is_old}
use Rattle.pmg_fence.proofs.EntryLemmas.{proc_itself}
use Rattle.pmg_fence.proofs.Trees.{get_put}
use Rattle.pmg_fence.proofs.IndexLemmas.{each_row}
use Rattle.pmg_fence.proofs.HeaderLemmas.{by_proc, filter_in}
use Rattle.pmg_dmodex.specs.Levels.{Levels, NodeLevels, levels_of, node_level as held_at, with_level, without_below, not_below}
use Rattle.pmg_dmodex.specs.Requests.{least}
use Rattle.pmg_get.specs.Gets.{Outcome}
use Rattle.pmg_get.specs.declared.view.Mode.TheVariants as modes
use Rattle.pmg_jobinfo.specs.Jobs.{Jobs, is_member, home_of}
use Rattle.pmg_node_model.specs.Acts.{is_peer, is_concerned}
use Rattle.pmg_node_model.specs.Holdings.{Get, CallState, NodeState, sealer_in, sealer_of, call_of, is_ready_at, with_far, with_table, with_requests, called, uncalled, sealing, holding_ask, settled_by, released_by, answer_in, settle, settled, is_replied, answer_reply, with_reply}
use Rattle.pmg_node_model.specs.Kept.{IsOwn, Holds}
use Rattle.pmg_node_model.proofs.Forgetting.{NamesAfter, same_names, young_before}
use Rattle.pmg_node_model.proofs.KeptBasics.{lookup_row, put_cases, removed_some, put_other, get-mapped, mapped_some, host_is}

-- ---- what is settled

-- the call of a process, once calls are settled
pub settled_call : (jobs : Jobs) (id : ℕ) (h : NodeState) (p : Proc) → call_of (settled jobs id h) p ≡ option_map (settle jobs id h) (call_of h p)
settled_call jobs id h p = get-mapped (settle jobs id h) h.calls p

pub settled_some : (jobs : Jobs) (id : ℕ) (h : NodeState) (p : Proc) (s : CallState) → call_of (settled jobs id h) p ≡ Some s → (t : CallState) × (call_of h p ≡ Some t) × (settle jobs id h t ≡ s)
settled_some jobs id h p s e = mapped_some (settle jobs id h) (call_of h p) s (sym (settled_call jobs id h p) ∙ e)

still_fence : (b : Bool) (g f : FenceName) (gone : List Proc) → released_by b g gone ≡ CallState.in_fence f → (g ≡ f) × (b ≡ false)
still_fence true g f gone e = absurd cc
still_fence false g f gone e = (cc, refl)

not_fence : (get : Get) (o : Outcome) (f : FenceName) → settled_by get o ≡ CallState.in_fence f → ⊥
not_fence get Outcome.parks f e = cc
not_fence get (Outcome.found value) f e = cc
not_fence get Outcome.absent f e = cc
not_fence get Outcome.outside f e = cc

not_parked : (b : Bool) (g : FenceName) (gone : List Proc) (get : Get) → released_by b g gone ≡ CallState.parked get → ⊥
not_parked true g gone get e = cc
not_parked false g gone get e = cc

still_parked : (get other : Get) (o : Outcome) → settled_by get o ≡ CallState.parked other → (get ≡ other) × (o ≡ Outcome.parks)
still_parked get other Outcome.parks e = (cc, refl)
still_parked get other (Outcome.found value) e = absurd cc
still_parked get other Outcome.absent e = absurd cc
still_parked get other Outcome.outside e = absurd cc

-- who is in a fence once calls are settled was in it before, and it is not ready
pub settle_fence : (jobs : Jobs) (id : ℕ) (h : NodeState) (t : CallState) (f : FenceName) → settle jobs id h t ≡ CallState.in_fence f → (t ≡ CallState.in_fence f) × (is_ready_at jobs id h f ≡ false)
settle_fence jobs id h (CallState.in_fence g) f e = let still = still_fence _ g f _ e in (ap CallState.in_fence still.0, ap (is_ready_at jobs id h) (sym still.0) ∙ still.1)
settle_fence jobs id h (CallState.released g gone) f e = absurd cc
settle_fence jobs id h (CallState.parked get) f e = absurd (not_fence get _ f e)
settle_fence jobs id h (CallState.answered get outcome) f e = absurd cc
settle_fence jobs id h (CallState.refreshing get number) f e = absurd cc
settle_fence jobs id h (CallState.refreshed get outcome) f e = absurd cc

-- and a get that waits then waited before, and parks
pub settle_parked : (jobs : Jobs) (id : ℕ) (h : NodeState) (t : CallState) (get : Get) → settle jobs id h t ≡ CallState.parked get
    → (t ≡ CallState.parked get) × (settle jobs id h (CallState.parked get) ≡ CallState.parked get)
settle_parked jobs id h (CallState.in_fence g) get e = absurd (not_parked _ g _ get e)
settle_parked jobs id h (CallState.released g gone) get e = absurd cc
settle_parked jobs id h (CallState.parked other) get e =
    let same : other ≡ get = (still_parked other get _ e).0 in
    (ap CallState.parked same, ap (λ g. settle jobs id h (CallState.parked g)) (sym same) ∙ e)
settle_parked jobs id h (CallState.answered other outcome) get e = absurd cc
settle_parked jobs id h (CallState.refreshing other number) get e = absurd cc
settle_parked jobs id h (CallState.refreshed other outcome) get e = absurd cc

released_refreshing : (b : Bool) (g : FenceName) (gone : List Proc) (get : Get) (number : ℕ) → released_by b g gone ≡ CallState.refreshing get number → ⊥
released_refreshing true g gone get number e = cc
released_refreshing false g gone get number e = cc

settled_refreshing : (other get : Get) (number : ℕ) (o : Outcome) → settled_by other o ≡ CallState.refreshing get number → ⊥
settled_refreshing other get number Outcome.parks e = cc
settled_refreshing other get number (Outcome.found value) e = cc
settled_refreshing other get number Outcome.absent e = cc
settled_refreshing other get number Outcome.outside e = cc

-- and a get that waits for a reply waited for it before
pub settle_refreshing : (jobs : Jobs) (id : ℕ) (h : NodeState) (t : CallState) (get : Get) (number : ℕ) → settle jobs id h t ≡ CallState.refreshing get number
    → t ≡ CallState.refreshing get number
settle_refreshing jobs id h (CallState.in_fence g) get number e = absurd (released_refreshing _ g _ get number e)
settle_refreshing jobs id h (CallState.released g gone) get number e = absurd cc
settle_refreshing jobs id h (CallState.parked other) get number e = absurd (settled_refreshing other get number _ e)
settle_refreshing jobs id h (CallState.answered other outcome) get number e = absurd cc
settle_refreshing jobs id h (CallState.refreshing other k) get number e = e
settle_refreshing jobs id h (CallState.refreshed other outcome) get number e = absurd cc

-- ---- what is answered by a reply

module _ (jobs : Jobs) (id : ℕ) (h : NodeState) (number : ℕ) (q : Proc) where
  pub replied_some : (p : Proc) (s : CallState) → call_of (with_reply jobs id h number q) p ≡ Some s
      → (t : CallState) × (call_of h p ≡ Some t) × (answer_reply jobs id h number q t ≡ s)
  replied_some p s e = mapped_some (answer_reply jobs id h number q) (call_of h p) s (sym (get-mapped (answer_reply jobs id h number q) h.calls p) ∙ e)

  -- a call is as it was, or is a get that is answered
  pub reply_changes : (t s : CallState) → answer_reply jobs id h number q t ≡ s → (t ≡ s) ⊎ ((get : Get) × (outcome : Outcome) × (s ≡ CallState.refreshed get outcome))
  reply_changes (CallState.in_fence f) s e = inl e
  reply_changes (CallState.released f gone) s e = inl e
  reply_changes (CallState.parked get) s e = inl e
  reply_changes (CallState.answered get outcome) s e = inl e
  reply_changes (CallState.refreshed get outcome) s e = inl e
  reply_changes (CallState.refreshing get k) s e = by_test (is_replied number q get k) e
    where
      by_test : (b : Bool) → (if b then CallState.refreshed get (answer_in jobs id h get modes.Now) else CallState.refreshing get k) ≡ s
          → (CallState.refreshing get k ≡ s) ⊎ ((x : Get) × (outcome : Outcome) × (s ≡ CallState.refreshed x outcome))
      by_test true is = inr (get, answer_in jobs id h get modes.Now, sym is)
      by_test false is = inl is

  pub reply_parked : (t : CallState) (get : Get) → answer_reply jobs id h number q t ≡ CallState.parked get → t ≡ CallState.parked get
  reply_parked t get e = elim (reply_changes t (CallState.parked get) e) [ inl same ↦ same | inr other ↦ absurd (apart other.2) ]
    where
      apart : {x : Get} {o : Outcome} → CallState.parked get ≡ CallState.refreshed x o → ⊥
      apart is = cc

  pub reply_refreshing : (t : CallState) (get : Get) (k : ℕ) → answer_reply jobs id h number q t ≡ CallState.refreshing get k → t ≡ CallState.refreshing get k
  reply_refreshing t get k e = elim (reply_changes t (CallState.refreshing get k) e) [ inl same ↦ same | inr other ↦ absurd (apart other.2) ]
    where
      apart : {x : Get} {o : Outcome} → CallState.refreshing get k ≡ CallState.refreshed x o → ⊥
      apart is = cc

  pub reply_in_fence : (t : CallState) (f : FenceName) → answer_reply jobs id h number q t ≡ CallState.in_fence f → t ≡ CallState.in_fence f
  reply_in_fence t f e = elim (reply_changes t (CallState.in_fence f) e) [ inl same ↦ same | inr other ↦ absurd (apart other.2) ]
    where
      apart : {x : Get} {o : Outcome} → CallState.in_fence f ≡ CallState.refreshed x o → ⊥
      apart is = cc

-- ---- what own processes sealed

-- what a process sealed, by whether it stands for the host
by_host : Sealed → finite.FinMap proc_cmp Sealed → Proc → Bool → Sealed
by_host sets sealers q b = if b then sets else unwrap_or (finite.get sealers q) (fresh q)

module _ (h : NodeState) (p : Proc) (z : Sealed) where
  -- the same after a commit, by whether the one whose commit it is stands for the host
  after_by : Proc → Bool → Bool → Sealed
  after_by q b c = by_host (if c then z else h.sets) (if c then h.sealers else finite.insert h.sealers p z) q b

  there_by : (b : Bool) → after_by p b b ≡ z
  unfolding by_host after_by
  there_by true = refl
  there_by false = ap (λ o. unwrap_or o (fresh p)) (get_put procs_total exact_procs h.sealers p z)

  -- what the process sealed is that
  pub sealer_there : sealer_of (sealing h p z) p ≡ z
  unfolding sealer_in by_host after_by
  sealer_there = there_by (is_host p)

  other_by : (q : Proc) → same_proc q p ≡ false → (b c : Bool) → is_host q ≡ b → is_host p ≡ c → after_by q b c ≡ by_host h.sets h.sealers q b
  unfolding by_host after_by
  other_by q other true true e g = absurd (false≢true (sym other ∙ ap (λ x. same_proc x p) (host_is q e ∙ sym (host_is p g)) ∙ proc_itself p))
  other_by q other true false e g = refl
  other_by q other false true e g = refl
  other_by q other false false e g = ap (λ o. unwrap_or o (fresh q)) (put_other h.sealers p q z other)

  -- what another one sealed is as it was
  pub sealer_other : (q : Proc) → same_proc q p ≡ false → sealer_of (sealing h p z) q ≡ sealer_of h q
  unfolding sealer_in by_host after_by
  sealer_other q other = other_by q other (is_host q) (is_host p) refl refl

-- ---- nodes that wait

filtered_level : (level : ℕ) (m : NodeLevels) (node n : ℕ) → finite.get (not_below level m) node ≡ Some n → (finite.get m node ≡ Some n) × (level ≤ n)
filtered_level level m node n e =
    let found = lookup_row nat_cmp-IsAntisymmetric (filter (λ e. nat_le level e.1) (finite.entries m)) node n (sym (get-map_of nat_cmp_total (filter (λ e. nat_le level e.1) (finite.entries m)) node) ∙ e) in
    let row = filter_in (λ e. nat_le level e.1) (finite.entries m) (node, n) found in
    (each_row nat_cmp_total m (node, n) row.0, leb-true level n row.1)

nothing_there : (o : Option NodeLevels) (node n : ℕ) → is_some o ≡ false → finite.get (unwrap_or o finite.empty) node ≡ Some n → ⊥
nothing_there None node n none e = absurd (none_some (sym (finite.get-empty nat_cmp node) ∙ e))
  where
    none_some : {x : ℕ} → None ≡ Some x → ⊥
    none_some is = cc
nothing_there (Some m) node n none e = false≢true (sym none)

without_by : (levels : Levels) (p : Proc) (level : ℕ) (q : Proc) (node n : ℕ) (b : Bool) → finite.contains_key levels p ≡ b
    → held_at (if b then finite.insert levels p (not_below level (levels_of levels p)) else levels) q node ≡ Some n → (held_at levels q node ≡ Some n) × (q ≡ p → level ≤ n)
without_by levels p level q node n false none e =
    (e, λ same. absurd (nothing_there (finite.get levels p) node n none (ap (λ x. held_at levels x node) (sym same) ∙ e)))
without_by levels p level q node n true some e =
    by_proc q p
    (λ same.
    let kept = filtered_level level (levels_of levels p) node n
    (sym (ap (λ (x : Proc). held_at (finite.insert levels p (not_below level (levels_of levels p))) x node) same
    ∙ ap (λ (o : Option NodeLevels). finite.get (unwrap_or o finite.empty) node) (get_put procs_total exact_procs levels p (not_below level (levels_of levels p)))) ∙ e) in
    (ap (λ x. held_at levels x node) same ∙ kept.0, λ _. kept.1))
    (λ other. (
      sym (ap (λ (o : Option NodeLevels). finite.get (unwrap_or o finite.empty) node) (put_other levels p q (not_below level (levels_of levels p)) other)) ∙ e,
      λ same. absurd (false≢true (sym other ∙ ap (λ x. same_proc x p) same ∙ proc_itself p)),
    ))

-- who waits still waited before, and where it is the process that came to a level, for more than that
pub without_some : (levels : Levels) (p : Proc) (level : ℕ) (q : Proc) (node n : ℕ) → held_at (without_below levels p level) q node ≡ Some n
    → (held_at levels q node ≡ Some n) × (q ≡ p → level ≤ n)
without_some levels p level q node n e = without_by levels p level q node n (finite.contains_key levels p) refl e

at_node : (m : NodeLevels) (node other n l : ℕ) → finite.get (finite.insert m node l) other ≡ Some n → ((other ≡ node) × (l ≡ n)) ⊎ (finite.get m other ≡ Some n)
at_node m node other n l e = by_test (eq_by_cmp nat_cmp other node) refl (sym (finite.get-insert nat_cmp_total m node l other) ∙ e)
  where
    by_test : (b : Bool) → eq_by_cmp nat_cmp other node ≡ b → cond b (Some l) (finite.get m other) ≡ Some n → ((other ≡ node) × (l ≡ n)) ⊎ (finite.get m other ≡ Some n)
    by_test true t is = inl (nat_cmp-IsAntisymmetric other node ((Equal-is _).0 t), cc)
    by_test false t is = inr is

-- who waits once a node waits is that node, or waited before
pub with_level_some : (levels : Levels) (p : Proc) (node l : ℕ) (q : Proc) (other n : ℕ) {P : Type 0} → held_at (with_level levels p node l) q other ≡ Some n
    → (q ≡ p → other ≡ node → l ≡ n → P) → (held_at levels q other ≡ Some n → P) → P
with_level_some levels p node l q other n {P} e here there =
    by_proc q p
    (λ same. elim (at_node (levels_of levels p) node other n l
    (sym (ap (λ (x : Proc). held_at (with_level levels p node l) x other) same
    ∙ ap (λ (o : Option NodeLevels). finite.get (unwrap_or o finite.empty) other) (get_put procs_total exact_procs levels p (finite.insert (levels_of levels p) node l))) ∙ e)) [
      | inl is ↦ here same is.0 is.1
      | inr is ↦ there (ap (λ x. held_at levels x other) same ∙ is)
    ])
    (λ apart. there (sym (ap (λ (o : Option NodeLevels). finite.get (unwrap_or o finite.empty) other) (put_other levels p q (finite.insert (levels_of levels p) node l) apart)) ∙ e))

-- ---- what is kept

module _ (jobs : Jobs) (id : ℕ) (h : NodeState) (holds : Holds jobs id h) where
  -- calls that are settled are of the same processes
  pub settled_holds : Holds jobs id (settled jobs id h)
  settled_holds = record {
    sealers = holds.sealers;
    callers = λ p s e. let was = settled_some jobs id h p s e in holds.callers p was.0 was.1;
    targets = λ p get e. let was = settled_some jobs id h p (CallState.parked get) e in holds.targets p get (was.1 ∙ ap Some (settle_parked jobs id h was.0 get was.2).0);
    anew = λ p get number e.
        let was = settled_some jobs id h p (CallState.refreshing get number) e in holds.anew p get number (was.1 ∙ ap Some (settle_refreshing jobs id h was.0 get number was.2));
    homes = holds.homes;
    askers = holds.askers;
    levels = holds.levels;
    names = holds.names;
    two = holds.two;
    there = λ p f e. let was = settled_some jobs id h p (CallState.in_fence f) e in holds.there p f (was.1 ∙ ap Some (settle_fence jobs id h was.0 f was.2).0);
    parts = λ p f e. let was = settled_some jobs id h p (CallState.in_fence f) e in holds.parts p f (was.1 ∙ ap Some (settle_fence jobs id h was.0 f was.2).0);
  }

  -- a process comes to be in a call
  pub called_holds : (p : Proc) (s : CallState) → IsOwn jobs id p → ((get : Get) → s ≡ CallState.parked get → is_member jobs get.target ≡ true)
      → ((get : Get) (number : ℕ) → s ≡ CallState.refreshing get number → (is_member jobs get.target ≡ true) × (number ≤ h.requests))
      → ((f : FenceName) → s ≡ CallState.in_fence f → (is_old h.table f ≡ false → has_name h.table f ≡ true) × (set.contains f.signature.participants p ≡ true)) → Holds jobs id (called h p s)
  called_holds p s own target anew fence = record {
    sealers = holds.sealers;
    callers = λ q t e. put_cases h.calls p q s t e (λ same is. subst (IsOwn jobs id) (sym same) own) (holds.callers q t);
    targets = λ q get e. put_cases h.calls p q s (CallState.parked get) e (λ same is. target get is) (holds.targets q get);
    anew = λ q get number e. put_cases h.calls p q s (CallState.refreshing get number) e (λ same is. anew get number is) (holds.anew q get number);
    homes = holds.homes;
    askers = holds.askers;
    levels = holds.levels;
    names = holds.names;
    two = holds.two;
    there = λ q f e. put_cases h.calls p q s (CallState.in_fence f) e (λ same is. (fence f is).0) (holds.there q f);
    parts = λ q f e. put_cases h.calls p q s (CallState.in_fence f) e (λ same is. subst (λ x. set.contains f.signature.participants x ≡ true) (sym same) (fence f is).1) (holds.parts q f);
  }

  -- a process is in its call no more
  pub uncalled_holds : (p : Proc) → Holds jobs id (uncalled h p)
  uncalled_holds p = record {
    sealers = holds.sealers;
    callers = λ q s e. holds.callers q s (removed_some h.calls p q s e);
    targets = λ q get e. holds.targets q get (removed_some h.calls p q (CallState.parked get) e);
    anew = λ q get number e. holds.anew q get number (removed_some h.calls p q (CallState.refreshing get number) e);
    homes = holds.homes;
    askers = holds.askers;
    levels = holds.levels;
    names = holds.names;
    two = holds.two;
    there = λ q f e. holds.there q f (removed_some h.calls p q (CallState.in_fence f) e);
    parts = λ q f e. holds.parts q f (removed_some h.calls p q (CallState.in_fence f) e);
  }

  -- more is known, there were more requests, and names come, of fences of the group and of the node; what they made old is forgotten
  others_hold : (far : Data) (n : ℕ) (t : Fences) → h.requests ≤ n → NamesAfter (λ f. is_concerned jobs id f ≡ true) h.table t
      → Holds jobs id (with_requests (with_far (with_table h t) far) n)
  others_hold far n t more after = record {
    sealers = holds.sealers;
    callers = holds.callers;
    targets = holds.targets;
    anew = λ p get number e. let was = holds.anew p get number e in (was.0, omega (arith, was.1, more));
    homes = holds.homes;
    askers = holds.askers;
    levels = holds.levels;
    names = λ f has. elim (after.names f has) [ inl was ↦ holds.names f was | inr concerned ↦ concerned ];
    two = after.two holds.two;
    there = λ p f e young. after.kept f (holds.there p f e (young_before (λ x. is_concerned jobs id x ≡ true) h.table t after f young)) young;
    parts = holds.parts;
  }

  pub requests_holds : (n : ℕ) → h.requests ≤ n → Holds jobs id (with_requests h n)
  requests_holds n more = others_hold h.far n h.table more (same_names (λ f. is_concerned jobs id f ≡ true) h.table)

  pub far_holds : (far : Data) → Holds jobs id (with_far h far)
  far_holds far = others_hold far h.requests h.table (omega arith) (same_names (λ f. is_concerned jobs id f ≡ true) h.table)

  pub names_hold : (t : Fences) → NamesAfter (λ f. is_concerned jobs id f ≡ true) h.table t → Holds jobs id (with_table h t)
  names_hold t after = others_hold h.far h.requests t (omega arith) after

  -- a get that waits for the reply is answered
  pub reply_holds : (number : ℕ) (q : Proc) → Holds jobs id (with_reply jobs id h number q)
  reply_holds number q = record {
    sealers = holds.sealers;
    callers = λ p s e. let was = replied_some jobs id h number q p s e in holds.callers p was.0 was.1;
    targets = λ p get e.
        let was = replied_some jobs id h number q p (CallState.parked get) e in
        holds.targets p get (was.1 ∙ ap Some (reply_parked jobs id h number q was.0 get was.2));
    anew = λ p get k e.
        let was = replied_some jobs id h number q p (CallState.refreshing get k) e in
        holds.anew p get k (was.1 ∙ ap Some (reply_refreshing jobs id h number q was.0 get k was.2));
    homes = holds.homes;
    askers = holds.askers;
    levels = holds.levels;
    names = holds.names;
    two = holds.two;
    there = λ p f e.
        let was = replied_some jobs id h number q p (CallState.in_fence f) e in
        holds.there p f (was.1 ∙ ap Some (reply_in_fence jobs id h number q was.0 f was.2));
    parts = λ p f e.
        let was = replied_some jobs id h number q p (CallState.in_fence f) e in
        holds.parts p f (was.1 ∙ ap Some (reply_in_fence jobs id h number q was.0 f was.2));
  }

  -- a commit
  pub sealing_holds : (p : Proc) (z : Sealed) → z.proc ≡ p → Holds jobs id (sealing h p z)
  sealing_holds p z its = record {
    sealers = λ q. by_proc q p
        (λ same. ap (λ x. (sealer_of (sealing h p z) x).proc) same ∙ ap (λ (y : Sealed). y.proc) (sealer_there h p z) ∙ its ∙ sym same)
        (λ other. ap (λ (y : Sealed). y.proc) (sealer_other h p z q other) ∙ holds.sealers q);
    callers = holds.callers;
    targets = holds.targets;
    anew = holds.anew;
    homes = λ q node n e. holds.homes q node n (without_some h.held p z.level q node n e).0;
    askers = λ q node n e. holds.askers q node n (without_some h.held p z.level q node n e).0;
    levels = λ q node n e.
        let was = without_some h.held p z.level q node n e in
        by_proc q p
        (λ same. subst (λ (y : Sealed). y.level ≤ n) (sym (ap (sealer_of (sealing h p z)) same ∙ sealer_there h p z)) (was.1 same))
        (λ other. subst (λ (y : Sealed). y.level ≤ n) (sym (sealer_other h p z q other)) (holds.levels q node n was.0));
    names = holds.names;
    two = holds.two;
    there = holds.there;
    parts = holds.parts;
  }

  -- a node comes to wait
  pub asked_holds : (node : ℕ) (p : Proc) (level : ℕ) → home_of jobs p ≡ id → is_peer jobs id node ≡ true → (sealer_of h p).level ≤ level → Holds jobs id (holding_ask h node p level)
  asked_holds node p level home peer known =
      let l = least (held_at h.held p node) level in
      record {
        sealers = holds.sealers;
        callers = holds.callers;
        targets = holds.targets;
        anew = holds.anew;
        homes = λ q other n e. with_level_some h.held p node l q other n e (λ same at is. ap (home_of jobs) same ∙ home) (holds.homes q other n);
        askers = λ q other n e. with_level_some h.held p node l q other n e (λ same at is. ap (is_peer jobs id) at ∙ peer) (holds.askers q other n);
        levels = λ q other n e. with_level_some h.held p node l q other n e
            (λ same at is. subst (λ x. (sealer_of h x).level ≤ n) (sym same) (subst (λ k. (sealer_of h p).level ≤ k) is (least_level (held_at h.held p node) (holds.levels p node) refl)))
            (holds.levels q other n);
        names = holds.names;
        two = holds.two;
        there = holds.there;
        parts = holds.parts;
      }
    where
      least_by : (b : Bool) (m n k : ℕ) → k ≤ m → k ≤ n → k ≤ (if b then m else n)
      least_by true m n k one two = one
      least_by false m n k one two = two

      least_level : (o : Option ℕ) → ((m : ℕ) → o ≡ Some m → (sealer_of h p).level ≤ m) → o ≡ o → (sealer_of h p).level ≤ least o level
      least_level None each is = known
      least_level (Some m) each is = least_by (nat_le m level) m level (sealer_of h p).level (each m refl) known
