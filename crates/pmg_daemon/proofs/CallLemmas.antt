-- Calls, what is due of them, and the link then.
use Rattle.std.proofs.Common.{◌≡◌, ◌≢◌, ◌⊎◌, ℕ, ◌+◌, ◌<◌, Bool, true, false, cond, List, [], ◌∷◌, Option, Some, None, Result, Ok, Err, IfOk, OnErr, OnOk, inl, inr, refl, sym, ap, subst, ◌∙◌, arith, lit<}
use Rattle.pmg_value.specs.Answers.{IsAnswer}
use Rattle.pmg_value.specs.CheckOrder.{check_order, first_in, first_of}
use Rattle.pmg_value.specs.Names.{is_nspace}
use Rattle.pmg_value.specs.Refusals.{number_of}
use Rattle.pmg_value.specs.declared.process.Proc.{Proc}
use Rattle.pmg_value.specs.declared.refusal.Refusal.{Refusal}
use Rattle.pmg_value.specs.declared.refusal.Refusal.TheVariants as refusals
use Rattle.pmg_node_model.specs.Acts.{Act, Reply, Request}
use Rattle.pmg_node.specs.Acting.{reply_as}
use Rattle.pmg_node.specs.Servers.{IsAccepted, IsAnswered, RefusesAct, Server, reply_in, reply_to}
use Rattle.pmg_node.specs.declared.act.Reply.{Reply as GivenReply}
use Rattle.pmg_node.specs.declared.act.Reply.TheVariants as replies
use Rattle.pmg_caches.proofs.CauseLemmas.{replied_due, same_error}
use Rattle.pmg_group_model.specs.Worlds.{reply_or_refusal}
use Rattle.pmg_link.specs.Links.{Linked, RefusesCommit, RepliesBy, RepliesCommit, commit_of, link_after, link_committed}
use Rattle.pmg_daemon.specs.Arguments.{AreJudged, FailsArguments, proc_said}
use Rattle.pmg_daemon.specs.Calls.{ProcCall, MayBeDone, after_commit_due, call_after, call_due, request_due_by, said_after, said_due}
use Rattle.pmg_daemon.specs.Codes.{reply_code}
use Rattle.pmg_daemon.specs.Daemons.{FailsNaming, Made, Makes}
use Rattle.pmg_daemon.specs.declared.codes.TheConstants.{NO_MEMORY, REFUSED}
use Rattle.pmg_daemon.specs.declared.daemon.Daemon.{Daemon}

-- ---- the first cause of a call, whatever its answer

pub first_ok : {X Y : Type 0} (es : List Refusal) (cause : Refusal → Bool) (x z : X) (y : Y) → first_in es cause x ≡ Ok z → first_in es cause y ≡ Ok y
first_ok [] cause x z y is = refl
first_ok {X} {Y} (e ∷ es) cause x z y is = by (cause e) (first_ok es cause x z y) is
  where
    by : (b : Bool) → (first_in es cause x ≡ Ok z → first_in es cause y ≡ Ok y) → cond b (Err e) (first_in es cause x) ≡ Ok z → cond b (Err e) (first_in es cause y) ≡ Ok y
    by true rest h = absurd cc
    by false rest h = rest h

pub first_err : {X Y : Type 0} (es : List Refusal) (cause : Refusal → Bool) (x : X) (y : Y) (r : Refusal) → first_in es cause x ≡ Err r → first_in es cause y ≡ Err r
first_err [] cause x y r is = absurd cc
first_err {X} {Y} (e ∷ es) cause x y r is = by (cause e) (first_err es cause x y r) is
  where
    by : (b : Bool) → (first_in es cause x ≡ Err r → first_in es cause y ≡ Err r) → cond b (Err e) (first_in es cause x) ≡ Err r → cond b (Err e) (first_in es cause y) ≡ Err r
    by true rest h = same_error e r h
    by false rest h = rest h

-- ---- commits and requests

-- a refusal that is told, and not for memory, is the one that is due
act_refused : (s : Server) (a : Act) (e : Refusal) → IsAnswered {X = GivenReply} (Err e) → RefusesAct s a e → reply_to s a ≡ Reply.refused e
act_refused s a refusals.NoMemory told is = absurd told
act_refused s a e told is = is

-- a request is answered what is due of it
pub request_told : (own : Option (Proc × List ℕ)) (l : Linked) (r : Request) (answer : Result GivenReply Refusal) → RepliesBy own l r answer → IsAnswered answer
    → request_due_by own l r ≡ reply_in reply_as answer
request_told None l r (Ok reply) is told = is
request_told None l r (Err e) is told = act_refused l.node (Act.request r) e told is
request_told (Some own) l r answer is told = sym (replied_due answer _ is told)

-- a put that is short of memory would be done
pub put_may_be : (cause : Refusal → Bool) → IsAnswer (first_of cause (tt {0})) → MayBeDone (reply_or_refusal (first_of cause Reply.done))
put_may_be cause free = by_answer (first_of cause (tt {0})) refl free
  where
    by_answer : (r : Result (Unit {0}) Refusal) → first_of cause (tt {0}) ≡ r → IsAnswer r → MayBeDone (reply_or_refusal (first_of cause Reply.done))
    by_answer (Ok u) is ok = inl (subst IsAccepted (sym (ap reply_or_refusal (first_ok check_order cause (tt {0}) u Reply.done is))) tt)
    by_answer (Err e) is none = absurd none

-- and so would a request, or it passes a limit
pub request_may_be : (own : Option (Proc × List ℕ)) (l : Linked) (r : Request) (answer : Result GivenReply Refusal) → RepliesBy own l r answer → answer ≡ Err refusals.NoMemory
    → MayBeDone (request_due_by own l r)
request_may_be own l r answer is short = by_key own (subst (RepliesBy own l r) short is)
  where
    by_key : (own : Option (Proc × List ℕ)) → RepliesBy own l r (Err refusals.NoMemory) → MayBeDone (request_due_by own l r)
    by_key None (inl free) = inl free
    by_key None (inr spent) = inr spent.0
    by_key (Some key) free = inl free

-- a commit is answered what is due of it
pub commit_told : (answer : Result GivenReply Refusal) (due : Reply) → RepliesCommit answer due → IsAnswered answer → due ≡ reply_in reply_as answer
commit_told (Ok reply) due is told = is
commit_told (Err e) due is told = refused e is told
  where
    refused : (x : Refusal) → RefusesCommit x due → IsAnswered {X = GivenReply} (Err x) → due ≡ Reply.refused x
    refused refusals.NoMemory is told = absurd told
    refused x is told = is

-- a commit that is answered is committed
committed_by : (r : GivenReply) (l : Linked) (p : Proc) → after_commit_due (reply_as r) l p ≡ link_committed l p
committed_by replies.Done l p = refl
committed_by (replies.Committed n) l p = refl
committed_by (replies.Entered n) l p = refl
committed_by replies.Idle l p = refl
committed_by replies.Waiting l p = refl
committed_by (replies.Released n gone) l p = refl
committed_by (replies.Found v) l p = refl
committed_by replies.Parked l p = refl
committed_by replies.Taken l p = refl
committed_by replies.Ignored l p = refl
committed_by (replies.Ended n) l p = refl
committed_by (replies.Defined n) l p = refl

-- and one that is refused is not
pub commit_after : (l m : Linked) (p : Proc) (answer : Result GivenReply Refusal) → IsAnswered answer → reply_to l.node (commit_of l p) ≡ reply_in reply_as answer
    → OnOk answer (m ≡ link_committed l p) → OnErr answer (IsAnswered answer → m ≡ link_after l (commit_of l p)) → m ≡ after_commit_due (reply_to l.node (commit_of l p)) l p
commit_after l m p (Ok r) told is ok err = ok ∙ sym (ap (λ d. after_commit_due d l p) is ∙ committed_by r l p)
commit_after l m p (Err e) told is ok err = err told ∙ sym (ap (λ d. after_commit_due d l p) is)

-- ---- codes

-- a refusal is that of memory, or has another number
memory_or : (e : Refusal) → (e ≡ refusals.NoMemory) ⊎ (number_of e ≢ 0)
memory_or refusals.NoMemory = inl refl
memory_or refusals.BadParam = inr (λ z. cc)
memory_or refusals.NotFound = inr (λ z. cc)
memory_or refusals.OutsideScope = inr (λ z. cc)
memory_or refusals.UnknownNamespace = inr (λ z. cc)
memory_or refusals.NotMine = inr (λ z. cc)
memory_or refusals.Busy = inr (λ z. cc)
memory_or refusals.Terminated = inr (λ z. cc)
memory_or refusals.NotAParticipant = inr (λ z. cc)
memory_or refusals.TooMany = inr (λ z. cc)
memory_or (refusals.BadFrame f) = inr (λ z. cc)
memory_or refusals.Exists = inr (λ z. cc)
memory_or refusals.Collision = inr (λ z. cc)
memory_or refusals.Stale = inr (λ z. cc)
memory_or refusals.Unordered = inr (λ z. cc)
memory_or refusals.Closed = inr (λ z. cc)

answered_other : (e : Refusal) → number_of e ≢ 0 → IsAnswered {X = GivenReply} (Err e)
answered_other refusals.NoMemory other = absurd (other refl)
answered_other e other = tt

-- the code of a reply that refuses nothing is none of a refusal's
pub unrefused : (r : GivenReply) → reply_code (reply_as r) < REFUSED
unfolding reply_code
unrefused replies.Done = lit< tt
unrefused (replies.Committed n) = lit< tt
unrefused (replies.Entered n) = lit< tt
unrefused replies.Idle = lit< tt
unrefused replies.Waiting = lit< tt
unrefused (replies.Released n gone) = lit< tt
unrefused (replies.Found v) = lit< tt
unrefused replies.Parked = lit< tt
unrefused replies.Taken = lit< tt
unrefused replies.Ignored = lit< tt
unrefused (replies.Ended n) = lit< tt
unrefused (replies.Defined n) = lit< tt

refused_code : (e : Refusal) → reply_code (Reply.refused e) ≡ REFUSED + number_of e
unfolding reply_code
refused_code e = refl

-- ---- a call that is made

module _ (due : Result ProcCall Refusal) (d e : Daemon) (code : ℕ) (inboxes : e.inboxes ≡ d.inboxes) where
  makes_ok : (r : GivenReply) → Made due d.link (Ok r) e.link → code ≡ reply_code (reply_as r) → e.reply ≡ r → Makes due d code e
  makes_ok r made is kept = record {
    told = λ no. is ∙ ap reply_code (sym (made.told tt));
    link = λ no. made.after tt;
    reply = λ small. ap reply_as kept ∙ sym (made.told tt);
    refused = λ big. absurd (grind (arith, unrefused r, is, big));
    memory = λ short. absurd (grind (arith, unrefused r, is, short));
    judged = λ short. absurd (grind (arith, unrefused r, is, short));
    inboxes = inboxes;
  }

  makes_other : (x : Refusal) → number_of x ≢ 0 → Made due d.link (Err x) e.link → code ≡ reply_code (Reply.refused x) → e.reply ≡ d.reply → Makes due d code e
  makes_other x other made is kept = record {
    told = λ no. is ∙ ap reply_code (sym (made.told (answered_other x other)));
    link = λ no. made.after (answered_other x other);
    reply = λ small. absurd (grind (arith, is, refused_code x, small));
    refused = λ big. kept;
    memory = λ short. absurd (other (grind (arith, is, refused_code x, short)));
    judged = λ short. absurd (other (grind (arith, is, refused_code x, short)));
    inboxes = inboxes;
  }

  makes_err : (x : Refusal) → Made due d.link (Err x) e.link → code ≡ reply_code (Reply.refused x) → e.reply ≡ d.reply → Makes due d code e
  makes_err x made is kept = elim (memory_or x) [
    | inl short ↦
        let none : code ≡ NO_MEMORY = is ∙ ap (λ y. reply_code (Reply.refused y)) short ∙ refused_code refusals.NoMemory in
        record {
          told = λ no. absurd (no none);
          link = λ no. absurd (no none);
          reply = λ small. absurd (grind (arith, none, small));
          refused = λ big. kept;
          memory = λ is. made.memory (ap Err short);
          judged = λ is. made.judged (ap Err short);
          inboxes = inboxes;
        }
    | inr other ↦ makes_other x other made is kept
  ]

  pub makes : (answer : Result GivenReply Refusal) → Made due d.link answer e.link → code ≡ reply_code (reply_in reply_as answer) → IfOk answer (λ r. e.reply ≡ r) → OnErr answer (e.reply ≡ d.reply)
      → Makes due d code e
  makes (Ok r) made is ok err = makes_ok r made is ok
  makes (Err x) made is ok err = makes_err x made is err

-- arguments that say a call, which is made
pub made_by : (call : ProcCall) (due : Result ProcCall Refusal) (l m : Linked) (answer : Result GivenReply Refusal) → due ≡ Ok call → (IsAnswered answer → call_due l call ≡ reply_in reply_as answer)
    → (IsAnswered answer → m ≡ call_after l call) → (answer ≡ Err refusals.NoMemory → m ≡ l) → Made due l answer m
made_by call due l m answer is told after memory =
    subst (λ (x : Result ProcCall Refusal). Made x l answer m) (sym is) (record { told = told; after = after; memory = memory; judged = λ short. tt })

-- arguments that say no call
pub made_none : (e : Refusal) (due : Result ProcCall Refusal) (l : Linked) → FailsArguments e due → Made due l (Err e) l
made_none e due l fails = record {
  told = λ answered. told e fails answered;
  after = λ answered. after e fails answered;
  memory = λ short. refl;
  judged = λ short. judged short;
}
  where
    judged : ◌≡◌ {A = Result GivenReply Refusal} (Err e) (Err refusals.NoMemory) → AreJudged due
    judged short = let same : e ≡ refusals.NoMemory = cc in subst (λ (x : Refusal). FailsArguments x due) same fails

    told : (e : Refusal) → FailsArguments e due → IsAnswered {X = GivenReply} (Err e) → said_due l due ≡ Reply.refused e
    told refusals.NoMemory fails answered = absurd answered
    told e fails answered = ap (said_due l) fails

    after : (e : Refusal) → FailsArguments e due → IsAnswered {X = GivenReply} (Err e) → l ≡ said_after l due
    after refusals.NoMemory fails answered = absurd answered
    after e fails answered = sym (ap (said_after l) fails)

-- ---- processes that are named

-- a process that is none is told by its code
pub fails_naming : (nspace : List ℕ) (rank : ℕ) (e : Refusal) → FailsArguments e (proc_said nspace rank) → FailsNaming (proc_said nspace rank) (REFUSED + number_of e)
fails_naming nspace rank e fails = by_refusal e (is_nspace nspace) fails
  where
    due : Bool → Result Proc Refusal
    due named = cond named (Ok (record { nspace = nspace; rank = rank })) (Err refusals.BadParam)

    by_refusal : (x : Refusal) (named : Bool) → FailsArguments x (due named) → FailsNaming (due named) (REFUSED + number_of x)
    by_refusal refusals.NoMemory true fails = refl
    by_refusal refusals.NoMemory false fails = absurd fails
    by_refusal x named fails = subst (λ (r : Result Proc Refusal). FailsNaming r (REFUSED + number_of x)) (sym fails) refl
