-- What a client is told of its calls.
use Rattle.std.specs.Prelude.{IfErr, IfOk, OnOk}
use Rattle.std.proofs.Common.{◌≡◌, ◌⊎◌, inl, inr, ℕ, List, [], ◌∷◌, ◌++◌, Result, Ok, Err, sym, ap, subst}
use Rattle.pmg_value.specs.declared.refusal.Refusal.{Refusal}
use Rattle.pmg_value.specs.declared.refusal.Refusal.TheVariants as refusals
use Rattle.pmg_jobinfo.specs.Jobs.{Jobs}
use Rattle.pmg_node_model.specs.Acts.{Act, Reply}
use Rattle.pmg_node.specs.Acting.{act_of, reply_as}
use Rattle.pmg_node.specs.Servers.{reply_in}
use Rattle.pmg_node.specs.declared.act.Act.{Act as GivenAct}
use Rattle.pmg_node.specs.declared.act.Reply.{Reply as GivenReply}
use Rattle.pmg_desk.specs.Answered.{SameReplies}
use Rattle.pmg_journal.specs.Journals.{IsEvent, happened}
use Rattle.pmg_journal.specs.Knowing.{GoesOnBy}
use Rattle.pmg_journal.specs.Transcripts.{Calling, Noted, NotesCall, noted}
use Rattle.pmg_desk.specs.Clients.{Client, Tells, journal_of, proc_of}
use Rattle.pmg_desk.specs.Telling.{IsKnown, WasReplied}
use Rattle.pmg_journal.specs.declared.notes.AnswerCopies.{AnswerCopies}

-- a call that an allocation failed, or at a closed desk, is no event
no_event : (e : Refusal) → (e ≡ refusals.NoMemory) ⊎ (e ≡ refusals.Closed) → IsEvent {X = GivenReply} (Err e) → ⊥
no_event e (inl is) event = subst (λ (x : Refusal). IsEvent {X = GivenReply} (Err x)) is event
no_event e (inr is) event = subst (λ (x : Refusal). IsEvent {X = GivenReply} (Err x)) is event

-- a client that was told of what its call was answered was told of what the call's result is
pub told_by : (c d : Client) (a : GivenAct) (answer : Result AnswerCopies Refusal) (result : Result GivenReply Refusal)
    → IfOk answer (λ t. GoesOnBy (proc_of c) (journal_of c) (journal_of d) (happened a t.told)) → OnOk answer (IsKnown d.jobs d.node (journal_of d) d.viewer.log)
    → IfErr answer (λ e. (e ≡ refusals.NoMemory) ⊎ (e ≡ refusals.Closed)) → IfOk answer (λ t. result ≡ t.told) → IfErr answer (λ e. result ≡ Err e)
    → IsEvent result → Tells c d (act_of a) (reply_in reply_as result)
told_by c d a (Ok t) result told knows err is refused event = record {
  goes_on = subst (λ (r : Result GivenReply Refusal). GoesOnBy (proc_of c) (journal_of c) (journal_of d) (happened a r)) (sym is) told;
  knows = knows;
}
told_by c d a (Err e) result told knows err is refused event = absurd (no_event e err (subst IsEvent refused event))

-- the same answer in another form
module _ {X Y : Type 0} (view : X → Reply) (other : Y → Reply) where
  pub same_reply : (r : Result X Refusal) (q : Result Y Refusal) → SameReplies view other r q → reply_in view r ≡ reply_in other q
  same_reply (Ok x) (Ok y) same = same
  same_reply (Err e) (Err f) same = ap Reply.refused same
  same_reply (Ok x) (Err f) same = absurd same
  same_reply (Err e) (Ok y) same = absurd same

  event_left : (e : Refusal) → IsEvent {X = X} (Err e) → IsEvent {X = Y} (Err e)
  event_left refusals.NoMemory event = event
  event_left refusals.Closed event = event
  event_left e event = tt

  pub same_event : (r : Result X Refusal) (q : Result Y Refusal) → SameReplies view other r q → IsEvent r → IsEvent q
  same_event (Ok x) (Ok y) same event = tt
  same_event (Err e) (Err f) same event = event_left f (subst (λ (z : Refusal). IsEvent {X = X} (Err z)) same event)
  same_event (Ok x) (Err f) same event = absurd same
  same_event (Err e) (Ok y) same event = absurd same

  noted_left : (old more : List Noted) (call : Calling) (e : Refusal) → NotesCall old more call other (Err e) → NotesCall old more call view (Err e)
  noted_left old more call refusals.NoMemory is = is
  noted_left old more call e is = is

  pub same_noted : (old more : List Noted) (call : Calling) (r : Result X Refusal) (q : Result Y Refusal) → SameReplies view other r q → NotesCall old more call other q → NotesCall old more call view r
  same_noted old more call (Ok x) (Ok y) same is = subst (λ (z : Reply). more ≡ old ++ noted call z ∷ []) (sym same) is
  same_noted old more call (Err e) (Err f) same is = subst (λ (z : Refusal). NotesCall old more call view (Err z)) (sym same) (noted_left old more call f is)
  same_noted old more call (Ok x) (Err f) same is = absurd same
  same_noted old more call (Err e) (Ok y) same is = absurd same

  -- so who was told of the one was told of the other
  pub same_told : (c d : Client) (a : Act) (r : Result X Refusal) (q : Result Y Refusal) → SameReplies view other r q → (IsEvent q → Tells c d a (reply_in other q)) → IsEvent r
      → Tells c d a (reply_in view r)
  same_told c d a r q same told event = subst (Tells c d a) (sym (same_reply r q same)) (told (same_event r q same event))

  pub same_given : (jobs : Jobs) (id : ℕ) (a : Act) (r : Result X Refusal) (q : Result Y Refusal) → SameReplies view other r q → (IsEvent q → WasReplied jobs id a (reply_in other q)) → IsEvent r
      → WasReplied jobs id a (reply_in view r)
  same_given jobs id a r q same told event = subst (WasReplied jobs id a) (sym (same_reply r q same)) (told (same_event r q same event))
