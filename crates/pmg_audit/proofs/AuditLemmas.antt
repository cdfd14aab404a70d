-- What audits answer, from what their parts answer.
use Rattle.std.proofs.Common.{◌≡◌, ◌⊎◌, true, List, [], ◌∷◌, length, map, slice_get, Some, Result, Ok, Err, IfOk, IfErr, inl, inr, sym, subst, arith}
use Rattle.pmg_value.specs.Lists.{Each}
use Rattle.pmg_value.specs.declared.refusal.Refusal.{Refusal}
use Rattle.pmg_value.specs.declared.refusal.Refusal.TheVariants as refusals
use Rattle.pmg_scope.specs.Cached.{no_puts}
use Rattle.pmg_jobinfo.specs.Jobs.{Jobs, AreJobs}
use Rattle.pmg_node.specs.Servers.{Server}
use Rattle.pmg_journal.specs.Transcripts.{noted_in}
use Rattle.pmg_journal.specs.declared.journal.Journal.{Journal}
use Rattle.pmg_journal.specs.declared.transcript.Transcript.{Transcript}
use Rattle.pmg_audit.specs.Agreeing.{AreAgreed, AreOfOtherProcs}
use Rattle.pmg_audit.specs.Dues.{takes_all}
use Rattle.pmg_audit.specs.Faults.{AreOne, IsFault, IsReplayFault}
use Rattle.pmg_audit.specs.Moves.{Move}
use Rattle.pmg_audit.specs.Orders.{AreTold, NoOrder}
use Rattle.pmg_audit.specs.Codes.{all_of}
use Rattle.pmg_audit.specs.declared.moves.Lane.{Lane}
use Rattle.pmg_audit.specs.declared.ordering.Order.{Order}
use Rattle.pmg_audit.proofs.OneRun.{moves_are_one_run}
use Rattle.pmg_world.specs.Telling.{happened_of}
use Rattle.pmg_audit.specs.Replaying.{AreEnded, AreWhole, EndsFor, EndsWell, RefusesFor, SomeUnsaid}
use Rattle.pmg_audit.specs.OneRun.{IsOneRun}
use Rattle.pmg_audit.specs.Runs.{AreJournals, AreMoves, account_by}
use Rattle.pmg_audit.specs.Taking.{AreSayings}
use Rattle.pmg_audit.specs.declared.moves.Saying.{Saying}
use Rattle.pmg_audit.specs.declared.replaying.AllReplayed.{AllReplayed}
use Rattle.pmg_audit.proofs.EndSteps.{agreed, are_whole, barred_unlike, left_unlike, unsaid_unlike}

pub ends_by : (jobs : Jobs) (js : List Journal) (first : List Saying) (e : Refusal) → RefusesFor e (SomeUnsaid jobs js first) → EndsFor jobs js first e
ends_by jobs js first refusals.NoMemory is = tt
ends_by jobs js first refusals.Collision is = inl is
ends_by jobs js first e is = absurd is

-- what is given has this, where it has that
pub ok_on : {A X : Type 0} (r : Result A X) (P Q : A → Type 0) → IfOk r P → ((x : A) → P x → Q x) → IfOk r Q
ok_on (Ok x) P Q is on = on x is
ok_on (Err e) P Q is on = tt

pub err_on : {A X : Type 0} (r : Result A X) (P Q : X → Type 0) → IfErr r P → ((e : X) → P e → Q e) → IfErr r Q
err_on (Ok x) P Q is on = tt
err_on (Err e) P Q is on = on e is

module _ (jobs : Jobs) (are : AreJobs jobs) (js : List Journal) (ts : List Transcript) (first : List Saying) (sayings : AreSayings first ts) (apart : AreOfOtherProcs ts) where
  pub whole_by : Each (λ (t : Transcript). takes_all no_puts (noted_in t) ≡ true) ts → (r : AllReplayed) → EndsWell jobs js first r → AreWhole jobs js ts r
  unfolding EndsWell
  whole_by taken r ended = are_whole jobs are js ts first sayings apart r ended.0 ended.1.done taken ended.1.told ended.1.last ended.1.fresh

  pub fault_by : Each (λ (t : Transcript). takes_all no_puts (noted_in t) ≡ true) ts → (e : Refusal) → EndsFor jobs js first e → IsReplayFault jobs js ts e
  fault_by taken refusals.NoMemory is = tt
  fault_by taken refusals.Collision (inl unsaid) = unsaid_unlike jobs js ts first sayings unsaid
  fault_by taken refusals.Collision (inr (inl left)) = left_unlike jobs are js ts first sayings apart left.r left.ss left.done left.left
  fault_by taken refusals.Collision (inr (inr last)) = barred_unlike jobs are js ts first sayings apart last.r last.ss last.done last.barred
  fault_by taken refusals.Stale is = (agreed jobs are js ts first sayings apart is.0.r is.0.ss is.0.done taken is.0.told is.0.last, is.1)
  fault_by taken e is = absurd is

-- a refusal of the transcripts alone
pub collision_by : (jobs : Jobs) (js : List Journal) (ts : List Transcript) (e : Refusal)
    → ((e ≡ refusals.NoMemory → ⊥) → (e ≡ refusals.Collision) × (AreOfOtherProcs ts → Each (λ (t : Transcript). takes_all no_puts (noted_in t) ≡ true) ts → ⊥)) → IsReplayFault jobs js ts e
collision_by jobs js ts refusals.NoMemory is = tt
collision_by jobs js ts refusals.Collision is = λ agreed. (is (λ same. absurd cc)).1 agreed.apart agreed.taken
collision_by jobs js ts e is = let same = (is (λ same. absurd cc)).0 in absurd cc

pub replay_fault : (jobs : Jobs) (js : List Journal) (ts : List Transcript) → AreJournals jobs js → (e : Refusal) → IsReplayFault jobs js ts e → IsFault js ts e
replay_fault jobs js ts journals refusals.NoMemory is = tt
replay_fault jobs js ts journals refusals.Collision is = (jobs, journals, is)
replay_fault jobs js ts journals refusals.Stale is = (jobs, journals, is.0, is.1)
replay_fault jobs js ts journals e is = absurd is

pub order_fault : (jobs : Jobs) (js : List Journal) (ts : List Transcript) (all : List (List Move)) → AreJournals jobs js → AreMoves jobs js all → AreAgreed jobs js ts → (e : Refusal)
    → (e ≡ refusals.NoMemory) ⊎ (e ≡ refusals.Unordered) → (e ≡ refusals.Unordered → NoOrder all) → IsFault js ts e
order_fault jobs js ts all journals moves agree e (inl same) none = subst (IsFault js ts) (sym same) tt
order_fault jobs js ts all journals moves agree e (inr same) none = subst (IsFault js ts) (sym same) (jobs, journals, agree, record { all = all; moves = moves; none = none same })

-- the journals are not of the first one's group
pub not_one : (js : List Journal) (x : Journal) → slice_get js 0 ≡ Some x → (AreJournals x.registry js → ⊥) → AreOne js → ⊥
not_one [] x is not one = one
not_one (j ∷ js) x is not one = let same : j ≡ x = cc in not (subst (λ (y : Journal). AreJournals y.registry (j ∷ js)) same one)

pub none_one : (js : List Journal) → length js ≡ 0 → AreOne js → ⊥
none_one [] is one = one
none_one (j ∷ js) is one = absurd (omega (arith, is))

pub well_by : (jobs : Jobs) (js : List Journal) (first : List Saying) (r : AllReplayed) (ss : List Saying) → AreEnded jobs js first r ss → EndsWell jobs js first r
unfolding EndsWell
well_by jobs js first r ss ended = (ss, ended)

-- the run of all journals, replayed and told in an order
pub one_by : (jobs : Jobs) → AreJobs jobs → (js : List Journal) (ts : List Transcript) → AreJournals jobs js → (r : AllReplayed) → AreWhole jobs js ts r → (o : Order) (registry : Jobs) → registry ≡ jobs
    → (nodes : List Server) → nodes ≡ r.nodes.items → (lanes : List Lane) → lanes ≡ r.lanes.items → AreTold (all_of lanes) (map happened_of o.told.items) o.sent.items
    → IsOneRun js ts (account_by registry nodes o.sent.items o.told.items)
one_by jobs are js ts journals r whole o registry same nodes these lanes is order =
    subst (λ (j : Jobs). IsOneRun js ts (account_by j nodes o.sent.items o.told.items)) (sym same)
    (subst (λ (ns : List Server). IsOneRun js ts (account_by jobs ns o.sent.items o.told.items)) (sym these)
    (moves_are_one_run jobs are js ts journals (all_of r.lanes.items) whole.moves whole.put whole.agreed r.nodes.items o.sent.items o.told.items
    (subst (λ (ls : List Lane). AreTold (all_of ls) (map happened_of o.told.items) o.sent.items) is order) whole.ends))
