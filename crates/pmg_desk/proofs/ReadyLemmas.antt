-- Whoever is released was so at a time when its fence was ready.
use Rattle.std.specs.Prelude.{IfOk}
use Rattle.std.proofs.Common.{◌≡◌, ◌≤◌, ◌⊎◌, inl, inr, ℕ, Bool, true, List, [], ◌∷◌, ◌++◌, Option, Some, None, Result, Ok, Err, refl, sym, ap, subst, ◌∙◌}
use Rattle.std.proofs.lemmas.List.{append_assoc}
use Rattle.std.proofs.lemmas.Option.{same_Some}
use Rattle.std.specs.FinMap as finite
use mathlib.Core.List.{IsPrefix}
use Rattle.pmg_value.specs.CheckOrder.{check_order}
use Rattle.pmg_value.specs.Process.{proc_cmp}
use Rattle.pmg_value.specs.Signatures.{FenceName}
use Rattle.pmg_value.specs.declared.process.Proc.{Proc}
use Rattle.pmg_value.specs.declared.refusal.Refusal.{Refusal}
use Rattle.pmg_commit.specs.Data.{Data, level_at}
use Rattle.pmg_fence.proofs.FitLemmas.{ready_stays}
use Rattle.pmg_fence.proofs.OldLemmas.{ready_young}
use Rattle.pmg_fence.specs.Tables.{fence_of, gone_by}
use Rattle.pmg_node_model.proofs.AfterActs.{freed_by_ready}
use Rattle.pmg_node_model.specs.Acts.{Act, Reply, Request, cause, does, leaves, serves, signature_of}
use Rattle.pmg_node_model.specs.Holdings.{CallState, NodeState, call_of, is_ready_at}
use Rattle.pmg_node.specs.Opening.{new_server}
use Rattle.pmg_node.specs.Replies.{release_reply}
use Rattle.pmg_node.specs.Servers.{Server, after, reply_in, reply_to}
use Rattle.pmg_node.specs.declared.leaving.Release.{Release}
use Rattle.pmg_node.specs.declared.leaving.Release.TheVariants as releases
use Rattle.pmg_publish.specs.Publications.{far_of}
use Rattle.pmg_publish.specs.declared.counting.Publication.{Publication}
use Rattle.pmg_desk.specs.Clients.{Client, IsInFence, IsLater, KnowsReady, ReleasedFrom, ReleasedFromOwn, Tells, listed_fence, journal_of, proc_of}
use Rattle.pmg_journal.specs.Journals.{IsEvent}
use Rattle.pmg_journal.specs.Knowing.{AreOfOthers}
use Rattle.pmg_journal.specs.Replays.{Happening, after_all, happening}
use Rattle.pmg_desk.specs.Publishing.{published_by, published_over}
use Rattle.pmg_desk.specs.Telling.{WasReadyAt, call_at, fence_of_call}
use Rattle.pmg_desk.proofs.OpenLemmas.{over_first}
use Rattle.pmg_desk.proofs.OthersLemmas.{fence_stays}
use Rattle.pmg_desk.proofs.TellLemmas.{after_both, ends_so, knows_so, replied_so, until}
use Rattle.pmg_desk.proofs.BoardLemmas.{publishes_what_is_held}
use Rattle.pmg_journal.proofs.ReplayLemmas.{id_same, jobs_same}
use Rattle.pmg_desk.proofs.SeenLemmas.{far_longer}
use Rattle.pmg_publish.proofs.Prefixes.{prefix_trans}

module _ (p : Proc) (f : FenceName) (gone : List Proc) where
  abbrev IsReleased : Server → Type 0
  IsReleased s = call_of s.holding p ≡ Some (CallState.released f gone)

  abbrev IsReadyThen : Server → Type 0
  IsReadyThen s = (is_ready_at s.jobs s.id s.holding f ≡ true) × (gone ≡ gone_by s.jobs s.id s.holding.table f)

  -- at some time on the way it was ready, unless the process was released already
  since : (s : Server) (es : List Happening) → IsReleased (after_all s es)
      → IsReleased s ⊎ ((one : List Happening) × (two : List Happening) × (es ≡ one ++ two) × IsReadyThen (after_all s one))
  since s [] is = inl is
  since s (e ∷ es) is = later (since (after s e.act) es is)
    where
      first : IsReleased s ⊎ IsReadyThen (after s e.act) → IsReleased s ⊎ ((one : List Happening) × (two : List Happening) × (e ∷ es ≡ one ++ two) × IsReadyThen (after_all s one))
      first (inl old) = inl old
      first (inr ready) = inr (e ∷ [], es, refl, ready)

      later : IsReleased (after s e.act) ⊎ ((one : List Happening) × (two : List Happening) × (es ≡ one ++ two) × IsReadyThen (after_all (after s e.act) one))
          → IsReleased s ⊎ ((one : List Happening) × (two : List Happening) × (e ∷ es ≡ one ++ two) × IsReadyThen (after_all s one))
      later (inl old) = first (freed_by_ready s.jobs s.id s.holding e.act p f gone old)
      later (inr (one, two, is, ready)) = inr (e ∷ one, two, ap (λ (xs : List Happening). e ∷ xs) is, ready)

released_call : (h : NodeState) (p : Proc) (n : ℕ) (gone : List Proc) (c : Option CallState) → (leaves h p c).reply ≡ Reply.released n gone
    → (f : FenceName) × (c ≡ Some (CallState.released f gone)) × (f.instance ≡ n)
released_call h p n gone None is = cc
released_call h p n gone (Some (CallState.in_fence f)) is = cc
released_call h p n gone (Some (CallState.parked get)) is = cc
released_call h p n gone (Some (CallState.answered get outcome)) is = cc
released_call h p n gone (Some (CallState.refreshing get number)) is = cc
released_call h p n gone (Some (CallState.refreshed get outcome)) is = cc
released_call h p n gone (Some (CallState.released f left)) is =
    (f, ap (λ (r : Reply). Some (CallState.released f (gone_in r))) is, ap instance_in is)
  where
    gone_in : Reply → List Proc
    gone_in (Reply.released m xs) = xs
    gone_in r = []

    instance_in : Reply → ℕ
    instance_in (Reply.released m xs) = m
    instance_in r = 0

-- who is told so was released
released_by : (s : Server) (p : Proc) (n : ℕ) (gone : List Proc) → reply_to s (Act.request (Request.leave p)) ≡ Reply.released n gone
    → (f : FenceName) × (call_of s.holding p ≡ Some (CallState.released f gone)) × (f.instance ≡ n)
unfolding does serves
released_by s p n gone =
    over_first s.jobs s.id s.holding (λ (r : Reply). r ≡ Reply.released n gone → (f : FenceName) × (call_of s.holding p ≡ Some (CallState.released f gone)) × (f.instance ≡ n))
    (does s.jobs s.id s.holding (Act.request (Request.leave p))) check_order (cause s.jobs s.id s.holding (Act.request (Request.leave p))) (λ e due is. cc)
    (released_call s.holding p n gone (call_of s.holding p))

published_first : (s : Server) (one two : List Happening) → IsPrefix (published_over s one) (published_over s (one ++ two))
published_first s [] two = (published_over s two, refl)
published_first s (e ∷ one) two =
    let rest = published_first (after s e.act) one two in (
      rest.0,
      append_assoc (published_by s e.act) (published_over (after s e.act) one) rest.0 ∙ ap (λ (ps : List Publication). published_by s e.act ++ ps) rest.1,
    )

-- so the client knows of a time when its fence was ready
module _ (c d : Client) (p : Proc) (n : ℕ) (gone : List Proc) (proc : p ≡ proc_of c) (told : Tells c d (Act.request (Request.leave p)) (Reply.released n gone)) where
  abbrev leave : Act
  leave = Act.request (Request.leave p)

  abbrev start : Server
  start = new_server d.jobs d.node

  abbrev es : List Happening
  es = until c d leave (Reply.released n gone) told

  shown : IsPrefix (published_over start (es ++ happening leave (Reply.released n gone) ∷ [])) d.viewer.log
  shown = (knows_so c d leave (Reply.released n gone) told).is_known

  nobody : (f : FenceName) → IsReleased p f gone start → ⊥
  nobody f is = by_none (sym (finite.get-empty proc_cmp p) ∙ is)
    where
      by_none : None ≡ Some (CallState.released f gone) → ⊥
      by_none same = cc

  -- what is known of a process is no less than what the node held at any time before
  more_known : (one two : List Happening) → es ≡ one ++ two → (q : Proc) → level_at (after_all start one).holding.far q ≤ level_at (far_of d.viewer.log) q
  more_known one two is q =
      let all : IsPrefix (published_over start es) d.viewer.log = prefix_trans (published_over start es) _ d.viewer.log (published_first start es (happening leave (Reply.released n gone) ∷ [])) shown in
      let first : IsPrefix (published_over start one) d.viewer.log =
      prefix_trans (published_over start one) _ d.viewer.log (published_first start one two) (subst (λ (xs : List Happening). IsPrefix (published_over start xs) d.viewer.log) is all) in
      subst (λ (x : Data). level_at x q ≤ level_at (far_of d.viewer.log) q) (publishes_what_is_held d.jobs d.node one).1
      (subst (λ (ps : List Publication). level_at (far_of (published_over start one)) q ≤ level_at (far_of ps) q) first.1 (far_longer (published_over start one) first.0 q))

  made : (f : FenceName) → IsReleased p f gone (after_all start es) → (one two : List Happening) → es ≡ one ++ two → IsReadyThen p f gone (after_all start one)
      → WasReadyAt d.jobs d.node p f gone (journal_of d) d.viewer.log
  made f released one two is ready =
      let then : is_ready_at d.jobs d.node (after_all start one).holding f ≡ true =
      (λ i. is_ready_at (sym (jobs_same start one) i) (sym (id_same start one) i) (after_all start one).holding f) ∙ ready.0 in
      let table = (after_all start one).holding.table in
      record {
        es = one;
        later = two;
        last = happening leave (Reply.released n gone);
        is_journal = ends_so c d leave (Reply.released n gone) told ∙ ap (λ (xs : List Happening). xs ++ happening leave (Reply.released n gone) ∷ []) is;
        released = subst (λ (xs : List Happening). IsReleased p f gone (after_all start xs)) is released;
        ready = then;
        gone_then = ready.1 ∙ (λ i. gone_by (jobs_same start one i) (id_same start one i) table f);
        levels_known = ready_stays d.jobs d.node table table f (level_at (after_all start one).holding.far) (level_at (far_of d.viewer.log)) (λ young other ls there. there)
            (ready_young d.jobs d.node table f (level_at (after_all start one).holding.far) then) (more_known one two is) then;
      }

  -- the fence is the one that the process was in, by what its client knew before
  its_fence : (f : FenceName) → IsReleased p f gone (after_all start es) → fence_of_call (call_at d.jobs d.node (journal_of c) p) ≡ Some f
  its_fence f is =
      let others : AreOfOthers p told.goes_on.others = subst (λ (q : Proc). AreOfOthers q told.goes_on.others) (sym proc) told.goes_on.are_of_others in
      sym (fence_stays p (after_all start (journal_of c)) told.goes_on.others others) ∙ ap (λ (s : Server). fence_of_call (call_of s.holding p)) (sym (after_both start (journal_of c) told.goes_on.others))
      ∙ ap fence_of_call is

  ready_told : (f : FenceName) × (fence_of_call (call_at d.jobs d.node (journal_of c) p) ≡ Some f) × (f.instance ≡ n) × WasReadyAt d.jobs d.node p f gone (journal_of d) d.viewer.log
  ready_told = at_first (released_by (after_all start es) p n gone (replied_so c d leave (Reply.released n gone) told))
    where
      at_first : (f : FenceName) × (call_of (after_all start es).holding p ≡ Some (CallState.released f gone)) × (f.instance ≡ n)
          → (f : FenceName) × (fence_of_call (call_at d.jobs d.node (journal_of c) p) ≡ Some f) × (f.instance ≡ n) × WasReadyAt d.jobs d.node p f gone (journal_of d) d.viewer.log
      at_first (f, is, same) = (f, its_fence f is, same, by_way (since p f gone start es is))
        where
          by_way : IsReleased p f gone start ⊎ ((one : List Happening) × (two : List Happening) × (es ≡ one ++ two) × IsReadyThen p f gone (after_all start one))
              → WasReadyAt d.jobs d.node p f gone (journal_of d) d.viewer.log
          by_way (inl old) = absurd (nobody f old)
          by_way (inr (one, two, way, ready)) = made f is one two way ready

-- who is answered so knows it
pub ready_known : (c d : Client) (p : Proc) (r : Result Release Refusal) → IsLater c d → p ≡ proc_of c → (IsEvent r → Tells c d (Act.request (Request.leave p)) (reply_in release_reply r)) → IfOk r (ReleasedFrom c d)
ready_known c d p (Err e) later proc told = tt
ready_known c d p (Ok releases.Idle) later proc told = tt
ready_known c d p (Ok releases.Waiting) later proc told = tt
ready_known c d p (Ok (releases.Released instance gone)) later proc told =
    let it = ready_told c d p instance gone.items proc (told tt) in (
      it.0,
      (λ i. fence_of_call (call_at (sym later.jobs i) (sym later.node i) (journal_of c) (sym proc i))) ∙ it.1,
      it.2,
      subst (λ (q : Proc). WasReadyAt d.jobs d.node q it.0 gone.items (journal_of d) d.viewer.log) (proc ∙ sym later.proc) it.3,
    )

-- of the fence of a list that was entered before
pub own_known : (c mid d : Client) (list : List Proc) (collect : Bool) (k : ℕ) (r : Result Release Refusal) → IsLater c mid → IsLater mid d → IsInFence mid (listed_fence c list collect k)
    → IfOk r (ReleasedFrom mid d) → IfOk r (ReleasedFromOwn d list collect)
own_known c mid d list collect k (Err e) first then is released = tt
own_known c mid d list collect k (Ok releases.Idle) first then is released = tt
own_known c mid d list collect k (Ok releases.Waiting) first then is released = tt
own_known c mid d list collect k (Ok (releases.Released instance gone)) first then is released =
    let f = released.0 in
    let same : listed_fence c list collect k ≡ f = same_Some _ _ (sym is ∙ released.1) in
    let number : k ≡ instance = ap (λ (x : FenceName). x.instance) same ∙ released.2 in
    let its : f ≡ listed_fence d list collect instance =
    sym same ∙ (λ i. fence_of (signature_of (sym (then.jobs ∙ first.jobs) i) (sym (then.proc ∙ first.proc) i) list collect) (number i)) in
    subst (λ (x : FenceName). KnowsReady d x gone.items) its released.3
