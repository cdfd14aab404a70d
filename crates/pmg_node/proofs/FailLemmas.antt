-- A call that is refused, or takes memory that is not there.
use Rattle.std.proofs.Common.{◌≡◌, ◌⊎◌, Bool, true, false, ◌||◌, cond, List, [], ◌∷◌, ◌++◌, append-nil, Result, Ok, Err, inl, inr, refl, sym, ap, subst, ◌∙◌}
use Rattle.std.specs.List.{list_any}
use Rattle.std.proofs.lemmas.Bool.{false≢true}
use Rattle.pmg_value.specs.Answers.{IsAnswer, Fails}
use Rattle.pmg_value.specs.CheckOrder.{check_order, first_in, first_of}
use Rattle.pmg_value.specs.declared.refusal.Refusal.{Refusal}
use Rattle.pmg_value.specs.declared.refusal.Refusal.TheVariants as refusals
use Rattle.pmg_node_model.specs.Acts.{Act, Reply, cause}
use Rattle.pmg_node.specs.Servers.{Server, reply_to, sent_by, after, IsAccepted, Refuses, Replies, IsAnswered}
use Rattle.pmg_node_model.specs.declared.sent.Sent.{Sent}
use Rattle.pmg_node.proofs.ActLemmas.{refused_reply, refused_after, refused_sent}

-- a refusal but NoMemory comes where it is due
record IsPlain (e : Refusal) : Type 0 where
  pub due : (r : Result (Unit {0}) Refusal) → Fails e r → r ≡ Err e
  pub told : (r : Reply) → r ≡ Reply.refused e → Refuses e r
  pub fails : (r : Result (Unit {0}) Refusal) → r ≡ Err e → Fails e r

refusal_is : (e : Refusal) → (e ≡ refusals.NoMemory) ⊎ IsPlain e
refusal_is refusals.NoMemory = inl refl
refusal_is refusals.BadParam = inr (record { due = λ r h. h; told = λ r h. h; fails = λ r h. h })
refusal_is refusals.NotFound = inr (record { due = λ r h. h; told = λ r h. h; fails = λ r h. h })
refusal_is refusals.OutsideScope = inr (record { due = λ r h. h; told = λ r h. h; fails = λ r h. h })
refusal_is refusals.UnknownNamespace = inr (record { due = λ r h. h; told = λ r h. h; fails = λ r h. h })
refusal_is refusals.NotMine = inr (record { due = λ r h. h; told = λ r h. h; fails = λ r h. h })
refusal_is refusals.Busy = inr (record { due = λ r h. h; told = λ r h. h; fails = λ r h. h })
refusal_is refusals.Terminated = inr (record { due = λ r h. h; told = λ r h. h; fails = λ r h. h })
refusal_is refusals.NotAParticipant = inr (record { due = λ r h. h; told = λ r h. h; fails = λ r h. h })
refusal_is refusals.TooMany = inr (record { due = λ r h. h; told = λ r h. h; fails = λ r h. h })
refusal_is (refusals.BadFrame f) = inr (record { due = λ r h. h; told = λ r h. h; fails = λ r h. h })
refusal_is refusals.Exists = inr (record { due = λ r h. h; told = λ r h. h; fails = λ r h. h })
refusal_is refusals.Collision = inr (record { due = λ r h. h; told = λ r h. h; fails = λ r h. h })
refusal_is refusals.Stale = inr (record { due = λ r h. h; told = λ r h. h; fails = λ r h. h })
refusal_is refusals.Unordered = inr (record { due = λ r h. h; told = λ r h. h; fails = λ r h. h })
refusal_is refusals.Closed = inr (record { due = λ r h. h; told = λ r h. h; fails = λ r h. h })

-- ---- NoMemory has no cause

abbrev is_memory : Refusal → Bool
is_memory refusals.NoMemory = true
is_memory _ = false

same_error : (d e : Refusal) → ◌≡◌ {A = Result (Unit {0}) Refusal} (Err d) (Err e) → d ≡ e
same_error d e is = cc

no_error : (e : Refusal) → ◌≡◌ {A = Result (Unit {0}) Refusal} (Ok tt) (Err e) → ⊥
no_error e is = cc

neither : (a b : Bool) → (a || b) ≡ false → (a ≡ false) × (b ≡ false)
neither true b e = absurd cc
neither false b e = (refl, e)

listed_error : (has_cause : Refusal → Bool) (es : List Refusal) (e : Refusal) → first_in es has_cause (tt {0}) ≡ Err e → list_any is_memory es ≡ false → is_memory e ≡ false
listed_error has_cause [] e is none = absurd (no_error e is)
listed_error has_cause (d ∷ es) e is none =
    let parts = neither (is_memory d) (list_any is_memory es) none in
    elim (has_cause d) as (λ b. cond b (Err d) (first_in es has_cause (tt {0})) ≡ Err e → is_memory e ≡ false) [
      | true ↦ λ t. ap is_memory (sym (same_error d e t)) ∙ parts.0
      | false ↦ λ t. listed_error has_cause es e t parts.1
    ] is

-- the first cause of a call is told as it is due
pub fails_due : (has_cause : Refusal → Bool) (e : Refusal) → first_of has_cause (tt {0}) ≡ Err e → Fails e (first_of has_cause (tt {0}))
fails_due has_cause e is = elim (refusal_is e) [
  | inl same ↦ absurd (false≢true (sym (listed_error has_cause check_order e is refl) ∙ ap is_memory same))
  | inr plain ↦ plain.fails (first_of has_cause (tt {0})) is
]

-- ---- acts

answer_is : (r : Result (Unit {0}) Refusal) → IsAnswer r → r ≡ Ok tt
answer_is (Ok u) h = refl
answer_is (Err e) h = absurd h

module _ (s : Server) (a : Act) (e : Refusal) (fails : Fails e (first_of (cause s.jobs s.id s.holding a) (tt {0}))) where
  fails_reply : (first_of (cause s.jobs s.id s.holding a) (tt {0}) ≡ Ok tt → IsAccepted (reply_to s a)) → Refuses e (reply_to s a)
  fails_reply accepted = elim (refusal_is e) [
    | inl same ↦
        subst (λ x. Refuses x (reply_to s a)) (sym same)
        (accepted (answer_is _ (subst (λ x. Fails x (first_of (cause s.jobs s.id s.holding a) (tt {0}))) same fails)))
    | inr plain ↦ plain.told (reply_to s a) (refused_reply s a e (plain.due _ fails))
  ]

  module _ {X : Type 0} (r : Result X Refusal) (is : r ≡ Err e) where
    no_memory : {P : Type 0} → e ≡ refusals.NoMemory → IsAnswered r → P
    no_memory {P} same answered = absurd (subst (λ (x : Result X Refusal). IsAnswered x) (is ∙ ap Err same) answered)

    -- an error is the refusal that is due, or NoMemory, where none is
    pub erred_reply : (view : X → Reply) → (first_of (cause s.jobs s.id s.holding a) (tt {0}) ≡ Ok tt → IsAccepted (reply_to s a)) → Replies view r (reply_to s a)
    erred_reply view accepted = subst (λ (x : Result X Refusal). Replies view x (reply_to s a)) (sym is) (fails_reply accepted)

    -- a refusal that is due changes nothing
    pub erred_after : IsAnswered r → s ≡ after s a
    erred_after answered = elim (refusal_is e) [ inl same ↦ no_memory same answered | inr plain ↦ sym (refused_after s a e (plain.due _ fails)) ]

    -- and sends nothing
    pub erred_sent : (out : List Sent) → IsAnswered r → out ≡ out ++ sent_by s a
    erred_sent out answered = elim (refusal_is e) [
      | inl same ↦ no_memory same answered
      | inr plain ↦ sym (append-nil out) ∙ ap (λ (x : List Sent). out ++ x) (sym (refused_sent s a e (plain.due _ fails)))
    ]

-- so this is told, left and sent, where the call was answered
pub record IsErred {X : Type 0} (s : Server) (a : Act) (view : X → Reply) (r : Result X Refusal) (out : List Sent) : Type 0 where
  pub reply : Replies view r (reply_to s a)
  pub done : IsAnswered r → s ≡ after s a
  pub sent : IsAnswered r → out ≡ out ++ sent_by s a

pub erred : {X : Type 0} (s : Server) (a : Act) (e : Refusal) → Fails e (first_of (cause s.jobs s.id s.holding a) (tt {0})) → (r : Result X Refusal) → r ≡ Err e → (view : X → Reply)
    → (first_of (cause s.jobs s.id s.holding a) (tt {0}) ≡ Ok tt → IsAccepted (reply_to s a)) → (out : List Sent) → IsErred s a view r out
erred s a e fails r is view accepted out = record { reply = erred_reply s a e fails r is view accepted; done = erred_after s a e fails r is; sent = erred_sent s a e fails r is out }
