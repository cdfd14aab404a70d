-- What a client is told of the journal by an act.
use Rattle.std.specs.Prelude.{IfErr, IfOk, IfSome, IsSome, OnErr, OnOk}
use Rattle.std.proofs.Common.{◌≡◌, ◌⊎◌, ◌+◌, inl, inr, arith, List, [], ◌∷◌, ◌++◌, length, drop, map, Option, Some, None, Result, Ok, Err, refl, sym, ap, subst, ◌∙◌, append_assoc}
use Rattle.std.proofs.lemmas.List.{append-nil, length-append, map-append}
use Rattle.std.proofs.Math.Seq.{drop-append_seam}
use mathlib.Core.List.{IsPrefix}
use Rattle.pmg_value.specs.declared.process.Proc.{Proc}
use Rattle.pmg_value.specs.declared.refusal.Refusal.{Refusal}
use Rattle.pmg_value.specs.declared.refusal.Refusal.TheVariants as refusals
use Rattle.pmg_node_model.specs.declared.sent.Sent.{Sent}
use Rattle.pmg_node.specs.Acting.{act_of, reply_as}
use Rattle.pmg_node.specs.Opening.{new_server}
use Rattle.pmg_node.specs.Servers.{Server, reply_in}
use Rattle.pmg_node.specs.declared.act.Act.{Act}
use Rattle.pmg_node.specs.declared.act.Reply.{Reply}
use Rattle.pmg_history.specs.Entries.{Entries}
use Rattle.pmg_publish.specs.Publications.{Publications}
use Rattle.pmg_publish.specs.declared.counting.Publication.{Publication}
use Rattle.pmg_publish.proofs.Prefixes.{prefix_whole}
use Rattle.pmg_journal.specs.Journals.{IsJournal, happened, happened_in, happening_of, start_of}
use Rattle.pmg_journal.specs.Knowing.{AreOfOthers, GoesOnBy, happened_by}
use Rattle.pmg_journal.specs.Replays.{Happening, IsReplay}
use Rattle.pmg_journal.specs.declared.journal.Event.{Event}
use Rattle.pmg_journal.specs.declared.journal.Journal.{Journal}
use Rattle.pmg_journal.specs.declared.notes.AnswerCopies.{AnswerCopies}
use Rattle.pmg_desk.specs.Publishing.{published_by, published_over}
use Rattle.pmg_desk.specs.States.{IsStateKept, StateGoesOn, Steps}
use Rattle.pmg_desk.specs.Telling.{IsKnown, WasReplied}
use Rattle.pmg_desk.specs.declared.state.Parts.{Parts}

-- where an act is answered there is a node, and so the journal is the list
pub listed : {X : Type 0} (p : Parts) → IsStateKept p → (r : Result X Refusal) → (p.node ≡ None → r ≡ Err refusals.Closed) → OnOk r (p.list.log ≡ p.journal.events.items)
listed p kept (Err e) shut = tt
listed {X} p kept (Ok x) shut = by_node p.node refl
  where
    not_closed : ◌≡◌ {A = Result X Refusal} (Ok x) (Err refusals.Closed) → ⊥
    not_closed same = cc

    by_node : (n : Option Server) → p.node ≡ n → p.list.log ≡ p.journal.events.items
    by_node None is = absurd (not_closed (shut is))
    by_node (Some s) is = kept.list (subst (λ (o : Option Server). IsSome o) (sym is) refl)

-- a prefix of the list is one of the journal
pub prefix_listed : {X : Type 0} (r : Result X Refusal) (known log items : List Event) → OnOk r (IsPrefix known log) → OnOk r (log ≡ items) → OnOk r (IsPrefix known items)
prefix_listed (Err e) known log items prefix is = tt
prefix_listed (Ok x) known log items prefix is = subst (IsPrefix known) is prefix

-- after one event more, past what was known
goes_on : (p : Proc) (old new : Entries Event) (items : List Event) (e : Happening) → IsPrefix old.log items → AreOfOthers p (map happening_of (drop (length old.log) items))
    → happened_by new ≡ map happening_of items ++ e ∷ [] → GoesOnBy p (happened_by old) (happened_by new) e
goes_on p old new items e pre others is = record {
  others = map happening_of pre.0;
  list = is ∙ ap (λ (xs : List Event). map happening_of xs ++ e ∷ []) (sym pre.1) ∙ ap (λ (xs : List Happening). xs ++ e ∷ []) (map-append happening_of old.log pre.0)
      ∙ append_assoc (happened_by old) (map happening_of pre.0) (e ∷ []);
  are_of_others = subst (λ (xs : List Event). AreOfOthers p (map happening_of xs)) (ap (drop (length old.log)) (sym pre.1) ∙ drop-append_seam old.log pre.0) others;
}

-- so it is where an act is answered
pub told_on : (p : Proc) (old new list : Entries Event) (j k : Journal) (a : Act) (r : Result AnswerCopies Refusal) → OnOk r (IsPrefix old.log j.events.items)
    → AreOfOthers p (map happening_of (drop (length old.log) j.events.items)) → OnOk r (new ≡ list) → OnOk r (list.log ≡ k.events.items)
    → IfOk r (λ t. happened_in k ≡ happened_in j ++ happened a t.told ∷ []) → IfOk r (λ t. GoesOnBy p (happened_by old) (happened_by new) (happened a t.told))
told_on p old new list j k a (Err e) pre others same is event = tt
told_on p old new list j k a (Ok t) pre others same is event =
    goes_on p old new j.events.items (happened a t.told) pre others (ap happened_by same ∙ ap (map happening_of) is ∙ event)

-- what was known is a prefix of what is known
pub more_known : (p : Proc) (old new : Entries Event) (a : Act) (r : Result AnswerCopies Refusal) → IfOk r (λ t. GoesOnBy p (happened_by old) (happened_by new) (happened a t.told))
    → OnErr r (new ≡ old) → IsPrefix (happened_by old) (happened_by new)
more_known p old new a (Ok t) told same = (told.others ++ happened a t.told ∷ [], sym told.list)
more_known p old new a (Err e) told same = ([], append-nil (happened_by old) ∙ ap happened_by (sym same))

-- the journal that is a replay is known, with what it published
pub knows_on : {X : Type 0} (r : Result X Refusal) (new list : Entries Event) (j k : Journal) (log known : List Publication) → k.registry ≡ j.registry → k.node ≡ j.node → OnOk r (IsJournal k)
    → OnOk r (log ≡ published_over (start_of k) (happened_in k)) → OnOk r (IsPrefix log known) → OnOk r (new ≡ list) → OnOk r (list.log ≡ k.events.items)
    → OnOk r (IsKnown j.registry j.node (happened_by new) known)
knows_on (Err e) new list j k log known registry node replay shown pre same is = tt
knows_on (Ok x) new list j k log known registry node replay shown pre same is =
    let start : start_of k ≡ new_server j.registry j.node = (λ i. new_server (registry i) (node i)) in
    let es : happened_in k ≡ happened_by new = ap (map happening_of) (sym is) ∙ ap happened_by (sym same) in
    record {
      replay = subst (λ (xs : List Happening). IsReplay (new_server j.registry j.node) xs) es (subst (λ (s : Server). IsReplay s (happened_in k)) start replay);
      is_known = subst (λ (ps : List Publication). IsPrefix ps known) (shown ∙ (λ i. published_over (start i) (es i))) pre;
    }

-- what was published before the act is published after it
pub published_still : (s left : Option Server) (a : Act) (r : Result AnswerCopies Refusal) (es es' : List Happening) (out out' : List Sent) (log log' : List Publication)
    → IfOk r (λ t. StateGoesOn s a t.told es out log left es' out' log') → OnOk r (IsPrefix log log')
published_still s left a (Err e) es es' out out' log log' goes = tt
published_still None left a (Ok t) es es' out out' log log' goes = absurd goes
published_still (Some s) left a (Ok t) es es' out out' log log' goes = (published_by s (act_of a), sym goes.published)

-- two lists that begin each other are one
prefix_both : (xs ys : List Publication) → IsPrefix xs ys → IsPrefix ys xs → xs ≡ ys
prefix_both xs ys p q =
    let longer : length xs ≡ length ys + length q.0 = ap length (sym q.1) ∙ length-append ys q.0 in
    prefix_whole xs ys p (omega (arith, longer))

-- a viewer that saw no more than it is told knows all that, and no more
pub knows_all : (old new told : Publications) → IsPrefix old.log told.log → IsPrefix told.log new.log → (new ≡ old) ⊎ (new ≡ told) → new.log ≡ told.log
knows_all old new told less more (inl same) =
    prefix_both new.log told.log (subst (λ (v : Publications). IsPrefix v.log told.log) (sym same) less) more
knows_all old new told less more (inr same) = ap (λ (v : Publications). v.log) same

-- what is answered was replied at the end of a replay
pub replied_on : (j k : Journal) (a : Act) (r : Result Reply Refusal) → k.registry ≡ j.registry → k.node ≡ j.node → IsJournal k → happened_in k ≡ happened_in j ++ happened a r ∷ []
    → WasReplied j.registry j.node (act_of a) (reply_in reply_as r)
replied_on j k a r registry node replay event = record {
  es = happened_in j;
  replay = subst (IsReplay (new_server j.registry j.node)) event (subst (λ (s : Server). IsReplay s (happened_in k)) (λ i. new_server (registry i) (node i)) replay);
}

-- only an allocation that fails gives up the node
pub open_on : (old new : Option Server) (a : Act) (r : Result AnswerCopies Refusal) → IfOk r (λ t. IfSome old (λ s. Steps s a t.told new)) → IfErr r (λ e. (e ≡ refusals.NoMemory) ⊎ (e ≡ refusals.Closed))
    → (r ≡ Err refusals.Closed → old ≡ None) → IsSome old → (r ≡ Err refusals.NoMemory → ⊥) → IsSome new
open_on None new a r step err shut some other = absurd cc
open_on (Some s) new a (Ok t) step err shut some other = subst (λ (n : Option Server). IsSome n) (sym step.1) refl
open_on (Some s) new a (Err e) step (inl is) shut some other = absurd (other (λ i. Err (is i)))
open_on (Some s) new a (Err e) step (inr is) shut some other = absurd (none_there (shut (λ i. Err (is i))))
  where
    none_there : Some s ≡ None → ⊥
    none_there same = cc

-- what is no answer of a failed allocation
pub ok_other : {X : Type 0} (r : Result X Refusal) (x : X) → r ≡ Ok x → r ≡ Err refusals.NoMemory → ⊥
ok_other {X} r x is same = apart (sym is ∙ same)
  where
    apart : ◌≡◌ {A = Result X Refusal} (Ok x) (Err refusals.NoMemory) → ⊥
    apart both = cc

pub err_other : {X Y : Type 0} (r : Result X Refusal) (q : Result Y Refusal) (e : Refusal) → r ≡ Err e → q ≡ Err e → (q ≡ Err refusals.NoMemory → ⊥) → r ≡ Err refusals.NoMemory → ⊥
err_other {X} {Y} r q e is also other same = other (also ∙ ap (λ (x : Refusal). Err x) (ap refusal_in (sym is ∙ same)))
  where
    refusal_in : Result X Refusal → Refusal
    refusal_in (Ok x) = e
    refusal_in (Err x) = x
