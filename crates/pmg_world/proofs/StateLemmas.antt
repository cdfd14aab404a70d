-- The state of a group, as its events lead to it.
use Rattle.std.proofs.Common.{◌≡◌, suc, Bool, true, false, ◌&&◌, ◌||◌, ◌⊎◌, inl, inr, List, [], ◌∷◌, ◌++◌, Result, Ok, Err, refl, sym, ap, subst, ◌∙◌, append_assoc, append-nil}
use Rattle.std.specs.FinSet as set
use Rattle.std.specs.Ordering.{nat_cmp}
use Rattle.std.proofs.lemmas.List.Folds.{list_any-append}
use Rattle.pmg_value.specs.declared.refusal.Refusal.{Refusal}
use Rattle.pmg_value.specs.declared.refusal.Refusal.TheVariants as refusals
use Rattle.pmg_jobinfo.specs.Jobs.{Jobs}
use Rattle.pmg_node.specs.Servers.{IsAnswered}
use Rattle.pmg_node.specs.declared.act.Reply.{Reply as GivenReply}
use Rattle.pmg_node_model.specs.declared.sent.Sent.{Sent}
use Rattle.pmg_group_model.specs.Worlds.{World, Event, Happened, Run, start}
use Rattle.pmg_group_model.proofs.RunLemmas.{run_both, run_none, run_sends}
use Rattle.pmg_world.specs.Accounts.{IsLedBy}
use Rattle.pmg_world.specs.Delivering.{AddsDelivered, AreDelivered, delivered_by, is_delivery, was_delivered}
use Rattle.pmg_world.specs.Keeping.{Happens, IsSame, Represents, happened_so}
use Rattle.pmg_world.specs.Stages.{IsNew}
use Rattle.pmg_world.specs.GroupStates.{Happen, IsLawfulAt, IsPlayed, IsReached, GroupState, IsStateAfter, group_state}
use Rattle.pmg_world.specs.declared.group.Group.{Group}
use Rattle.pmg_world.proofs.LedLemmas.{happens_jobs, led_more, led_start, more, run_kept, same_led, stands_at}

-- ---- the frames that were delivered

-- where the same events lead on, so do the frames that they delivered
delivered_more : (old new : set.FinSet nat_cmp) (told more : List Happened) → AddsDelivered old more new → AreDelivered old told → AreDelivered new (told ++ more)
delivered_more old new told more adds all n =
    adds n ∙ ap (λ b. b || was_delivered more (suc n)) (all n) ∙ sym (list_any-append (delivered_by (suc n)) told more)

or_assoc : (a b c : Bool) → ((a || b) || c) ≡ (a || (b || c))
or_assoc true b c = refl
or_assoc false b c = refl

or_none : (b : Bool) → b ≡ (b || false)
or_none true = refl
or_none false = refl

pub adds_no_frame : (frames : set.FinSet nat_cmp) → AddsDelivered frames [] frames
adds_no_frame frames n = or_none (set.contains frames (suc n))

pub adds_frames : (a b c : set.FinSet nat_cmp) (xs ys : List Happened) → AddsDelivered a xs b → AddsDelivered b ys c → AddsDelivered a (xs ++ ys) c
adds_frames a b c xs ys one other n =
    other n ∙ ap (λ x. x || was_delivered ys (suc n)) (one n) ∙ or_assoc (set.contains a (suc n)) (was_delivered xs (suc n)) (was_delivered ys (suc n))
    ∙ ap (λ x. set.contains a (suc n) || x) (sym (list_any-append (delivered_by (suc n)) xs ys))

-- ---- the state of a group

module _ (g : Group) (frames : set.FinSet nat_cmp) where
  stands_so : (told : List Happened) (w : World) → Run g.registry (start g.registry) told w → Represents g w → AreDelivered frames told → IsStateAfter (group_state g frames) told w
  stands_so told w run stands all = record {
    run = run;
    count = stands.nodes.count;
    nodes = λ node d inside. stands.nodes.each node d inside;
    caches = stands.caches;
    sent = stands.sent;
    delivered = all;
  }

  -- the group stands for each world of its state
  so_stands : IsPlayed g frames → (told : List Happened) (w : World) → IsStateAfter (group_state g frames) told w → Represents g w
  unfolding IsLedBy
  so_stands played told w so = stands_at g played.led.0 w played.led.2 so.nodes so.caches so.sent

  pub played_reached : IsPlayed g frames → IsReached (group_state g frames)
  unfolding IsLedBy IsReached
  played_reached played = (played.told, played.led.0, stands_so played.told played.led.0 played.led.1 played.led.2 played.all)

  pub played_lawful : IsPlayed g frames → IsLawfulAt (group_state g frames)
  unfolding IsLedBy IsLawfulAt
  played_lawful played told w so xs ys cut = run_kept g.registry played.led.2.jobs told w so.run xs ys cut

  none_delivered : frames ≡ set.empty → AreDelivered frames []
  none_delivered none n = ap (λ (s : set.FinSet nat_cmp). set.contains s (suc n)) none ∙ set.contains-empty nat_cmp (suc n)

  -- at its start
  pub played_start : (jobs : Jobs) → g.registry ≡ jobs → Represents g (start jobs) → frames ≡ set.empty → IsPlayed g frames
  played_start jobs same stands none = record { told = []; led = led_start g jobs same stands; all = none_delivered none }

  pub start_new : (jobs : Jobs) → g.registry ≡ jobs → Represents g (start jobs) → frames ≡ set.empty → IsNew jobs (group_state g frames)
  start_new jobs same stands none = record {
    jobs_are = same;
    sent = stands.sent;
    delivered = none;
    stands = stands_so [] (start jobs) (subst (λ (j : Jobs). Run g.registry (start g.registry) [] (start j)) same (run_none g.registry (start g.registry))) stands (none_delivered none);
  }

-- ---- an event

-- the same group, and the same frames
pub still_played : (old new : Group) (a b : set.FinSet nat_cmp) → IsSame old new → AddsDelivered a [] b → IsPlayed old a → IsPlayed new b
still_played old new a b same frames played = record {
  told = played.told;
  led = same_led old new played.told same played.led;
  all = subst (AreDelivered b) (append-nil played.told) (delivered_more a b played.told [] frames played.all);
}

module _ (old new : Group) (a b : set.FinSet nat_cmp) (e : Event) (answer : Result GivenReply Refusal) (played : IsPlayed old a) (is : IsAnswered answer) (happens : Happens old e answer new)
    (frames : AddsDelivered a (happened_so e answer ∷ []) b) where
  abbrev h : Happened
  h = happened_so e answer

  pub played_on : IsPlayed new b
  played_on = record { told = played.told ++ h ∷ []; led = led_more old new played.told e answer played.led is happens; all = delivered_more a b played.told (h ∷ []) frames played.all }

  goes_on : (told : List Happened) (w : World) → IsStateAfter (group_state old a) told w → (v : World) × Run old.registry w (h ∷ []) v × IsStateAfter (group_state new b) (told ++ h ∷ []) v
  goes_on told w so =
      let next = more old new told e answer is happens w so.run (so_stands old a played told w so) in
      (next.after, next.one, stands_so new b (told ++ h ∷ []) next.after next.run next.stands (delivered_more a b told (h ∷ []) frames so.delivered))

  pub happens_once : Happen (group_state old a) (h ∷ []) (group_state new b)
  unfolding IsReached
  happens_once =
      let last = played_reached old a played in
      let next = goes_on last.0 last.1 last.2 in
      let sends = run_sends old.registry last.1 (h ∷ []) next.0 next.1 in
      record {
        jobs = happens_jobs old e answer new is happens;
        out = sends.out;
        sent = next.2.sent ∙ sends.sent ∙ ap (λ (xs : List Sent). xs ++ sends.out) (sym last.2.sent);
        delivered = frames;
        runs = goes_on;
        reached = played_reached new b played_on;
        lawful = played_lawful new b played_on;
      }

-- an allocation failed, or not
short_or : (answer : Result GivenReply Refusal) → (answer ≡ Err refusals.NoMemory) ⊎ IsAnswered answer
short_or (Ok reply) = inr tt
short_or (Err refusals.NoMemory) = inl refl
short_or (Err e) = inr tt

-- a refused event delivers no frame
refused_adds : (a b : set.FinSet nat_cmp) (e : Event) (answer : Result GivenReply Refusal) → answer ≡ Err refusals.NoMemory → AddsDelivered a (happened_so e answer ∷ []) b → AddsDelivered a [] b
refused_adds a b e answer short adds n = adds n ∙ ap (λ x. set.contains a (suc n) || (x || false)) none
  where
    and_none : (x : Bool) → (x && false) ≡ false
    and_none true = refl
    and_none false = refl

    none : delivered_by (suc n) (happened_so e answer) ≡ false
    none = ap (λ r. delivered_by (suc n) (happened_so e r)) short ∙ and_none (is_delivery (suc n) e)

-- whatever the event is answered, some events lead to what there is then
pub played_then : (old new : Group) (a b : set.FinSet nat_cmp) (e : Event) (answer : Result GivenReply Refusal) → IsPlayed old a → Happens old e answer new
    → (answer ≡ Err refusals.NoMemory → IsSame old new) → AddsDelivered a (happened_so e answer ∷ []) b → IsPlayed new b
played_then old new a b e answer played happens same frames = elim (short_or answer) [
  | inl short ↦ still_played old new a b (same short) (refused_adds a b e answer short frames) played
  | inr is ↦ played_on old new a b e answer played is happens frames
]

-- ---- several events

pub happen_none : (s : GroupState) → IsReached s → IsLawfulAt s → Happen s [] s
happen_none s reached lawful = record {
  jobs = refl;
  out = [];
  sent = sym (append-nil s.sent);
  delivered = adds_no_frame s.delivered;
  runs = λ told w so. (w, run_none s.jobs w, subst (λ (l : List Happened). IsStateAfter s l w) (sym (append-nil told)) so);
  reached = reached;
  lawful = lawful;
}

pub happen_both : (a b c : GroupState) (xs ys : List Happened) → Happen a xs b → Happen b ys c → Happen a (xs ++ ys) c
happen_both a b c xs ys one other = record {
  jobs = other.jobs ∙ one.jobs;
  out = one.out ++ other.out;
  sent = other.sent ∙ ap (λ (l : List Sent). l ++ other.out) one.sent ∙ append_assoc a.sent one.out other.out;
  delivered = adds_frames a.delivered b.delivered c.delivered xs ys one.delivered other.delivered;
  runs = λ told w so.
      let first = one.runs told w so in
      let second = other.runs (told ++ xs) first.0 first.2 in
      let rest = subst (λ (j : Jobs). Run j first.0 ys second.0) one.jobs second.1 in
      (second.0, run_both a.jobs xs ys w first.0 second.0 first.1 rest, subst (λ (l : List Happened). IsStateAfter c l second.0) (append_assoc told xs ys) second.2);
  reached = other.reached;
  lawful = other.lawful;
}
