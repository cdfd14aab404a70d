-- A get that has an answer has one from then on.
use Rattle.std.proofs.Common.{◌≡◌, ◌⊎◌, ℕ, Bool, true, false, ◌==◌, cond, List, Option, Some, None, is_some, inl, inr, refl, sym, ap, ◌∙◌, arith}
use Rattle.std.specs.Option.{option_map}
use Rattle.std.proofs.lemmas.Bool.{false≢true}
use Rattle.std.proofs.lemmas.Bool.Decides.{nat_tests}
use Rattle.pmg_value.specs.Names.{is_reserved}
use Rattle.pmg_value.specs.Spelling.{spelling}
use Rattle.pmg_value.specs.declared.process.Proc.{Proc}
use Rattle.pmg_scope.specs.Scripts.{term_key}
use Rattle.pmg_commit.specs.Data.{read_at}
use Rattle.pmg_jobinfo.specs.Jobs.{Jobs, home_of}
use Rattle.pmg_jobinfo.specs.Reserved.{reserved_value}
use Rattle.pmg_fence.specs.Rules.{Scripts, Grows}
use Rattle.pmg_get.specs.Gets.{Seen, Outcome, unseen, resolve}
use Rattle.pmg_get.specs.declared.view.Mode.{Mode}
use Rattle.pmg_get.specs.declared.view.Mode.TheVariants as modes
use Rattle.pmg_node_model.specs.Acts.{Act, Said, acts, waits_as, cause, does}
use Rattle.pmg_node_model.specs.Fitting.{unless_refused}
use Rattle.pmg_node_model.specs.Holdings.{Get, CallState, NodeState, call_of, seen_of, answer_in}
use Rattle.pmg_node_model.specs.NodeLaws.{AnswersStay, AnsweredHave}
use Rattle.pmg_node_model.proofs.CauseFacts.{NoCause}
use Rattle.pmg_node_model.proofs.Growing.{ReadsMore, act_gains}
use Rattle.pmg_node_model.proofs.Moving.{does_call}
use Rattle.pmg_node_model.proofs.Saying.{said_grows, same_grows}
use Rattle.pmg_node_model.proofs.Settling.{Answering, settled_answered}
use Rattle.pmg_node_model.proofs.AfterActs.{after_act, called_before}

-- the scripts after an act have grown
pub grows_unless : (refused : Bool) (scripts : Scripts) (said : Option Said) → Grows scripts (unless_refused refused scripts said)
grows_unless true scripts said = same_grows scripts
grows_unless false scripts None = same_grows scripts
grows_unless false scripts (Some said) = said_grows scripts said.proc said.calls

-- ---- what is read stays there

none_before : (x y : Option (List ℕ)) → (is_some x ≡ true → is_some y ≡ true) → y ≡ None → x ≡ None
none_before None y more none = refl
none_before (Some v) y more none = absurd (false≢true (sym (ap is_some none) ∙ more refl))

not_before : (b c : Bool) → (b ≡ true → c ≡ true) → c ≡ false → b ≡ false
not_before true c more none = absurd (false≢true (sym none ∙ more refl))
not_before false c more none = refl

-- ---- a get that waits

unseen_parks : (ended : Bool) → unseen ended modes.Wait ≡ Outcome.parks → ended ≡ false
unseen_parks true e = absurd cc
unseen_parks false e = refl

local_parks : (x y : Option (List ℕ)) (ended : Bool) → resolve (Seen.local x y ended) modes.Wait ≡ Outcome.parks → (x ≡ None) × (y ≡ None) × (ended ≡ false)
unfolding resolve
local_parks (Some v) y ended e = absurd cc
local_parks None (Some v) ended e = absurd cc
local_parks None None ended e = (refl, refl, unseen_parks ended e)

remote_parks : (x : Option (List ℕ)) (ended : Bool) → resolve (Seen.remote x ended) modes.Wait ≡ Outcome.parks → (x ≡ None) × (ended ≡ false)
unfolding resolve
remote_parks (Some v) ended e = absurd cc
remote_parks None ended e = (refl, unseen_parks ended e)

nothing_local : (x y : Option (List ℕ)) (ended : Bool) → x ≡ None → y ≡ None → ended ≡ false → resolve (Seen.local x y ended) modes.Wait ≡ Outcome.parks
unfolding resolve
nothing_local x y ended one other live = (λ i. resolve (Seen.local (one i) (other i) (live i)) modes.Wait)

nothing_remote : (x : Option (List ℕ)) (ended : Bool) → x ≡ None → ended ≡ false → resolve (Seen.remote x ended) modes.Wait ≡ Outcome.parks
unfolding resolve
nothing_remote x ended one live = (λ i. resolve (Seen.remote (one i) (live i)) modes.Wait)

-- a get that still waits had no answer before
parked_before : (jobs : Jobs) (id : ℕ) (nears fars more_near more_far : List ℕ → Option (List ℕ)) (get : Get)
    → (home_of jobs get.target ≡ id → ReadsMore nears more_near) → ReadsMore fars more_far
    → resolve (seen_of jobs id more_near more_far get) modes.Wait ≡ Outcome.parks → resolve (seen_of jobs id nears fars get) modes.Wait ≡ Outcome.parks
unfolding seen_of
parked_before jobs id nears fars more_near more_far get near far =
    by_tests (is_reserved get.key) (home_of jobs get.target == id) refl
  where
    is_home : (m : ℕ) → (m == id) ≡ true → m ≡ id
    is_home m e = grind (arith, nat_tests)

    by_tests : (b c : Bool) → (home_of jobs get.target == id) ≡ c
        → resolve (cond b (Seen.reserved (option_map spelling (reserved_value jobs id get.target get.key))) (cond c (Seen.local (more_near get.key) (more_far get.key) (is_some (more_near term_key))) (Seen.remote (more_far get.key) (is_some (more_far term_key))))) modes.Wait ≡ Outcome.parks
        → resolve (cond b (Seen.reserved (option_map spelling (reserved_value jobs id get.target get.key))) (cond c (Seen.local (nears get.key) (fars get.key) (is_some (nears term_key))) (Seen.remote (fars get.key) (is_some (fars term_key))))) modes.Wait ≡ Outcome.parks
    by_tests true c is e = e
    by_tests false true is e =
        let found = local_parks (more_near get.key) (more_far get.key) (is_some (more_near term_key)) e in
        let more = near (is_home (home_of jobs get.target) is) in
        nothing_local (nears get.key) (fars get.key) (is_some (nears term_key)) (none_before (nears get.key) (more_near get.key) (more get.key) found.0)
        (none_before (fars get.key) (more_far get.key) (far get.key) found.1) (not_before (is_some (nears term_key)) (is_some (more_near term_key)) (more term_key) found.2)
    by_tests false false is e =
        let found = remote_parks (more_far get.key) (is_some (more_far term_key)) e in
        nothing_remote (fars get.key) (is_some (fars term_key)) (none_before (fars get.key) (more_far get.key) (far get.key) found.0)
        (not_before (is_some (fars term_key)) (is_some (more_far term_key)) (far term_key) found.1)

pub answers_stay : AnswersStay
answers_stay jobs node h a get answered still =
    let gains = act_gains jobs node h a in
    let new : NodeState = (acts jobs node h a).left in
    let q = get.target in
    answered (parked_before jobs node (read_at h.near q) (read_at h.far q) (read_at new.near q) (read_at new.far q) get (λ home. gains.near.reads q) (gains.far.reads q) still)

-- ---- who is answered

-- a get that waits is not answered
not_answered : (mode : Mode) (n : ℕ) (x get : Get) (outcome : Outcome) → Some (waits_as n x mode) ≡ Some (CallState.answered get outcome) → ⊥
not_answered modes.Wait n x get outcome e = cc
not_answered modes.Now n x get outcome e = cc
not_answered modes.Refresh n x get outcome e = cc

module _ (jobs : Jobs) (id : ℕ) (h : NodeState) (p : Proc) (get : Get) (outcome : Outcome) where
  pub does_answer : (a : Act) → NoCause (cause jobs id h a) → call_of (does jobs id h a).left p ≡ Some (CallState.answered get outcome) → call_of h p ≡ Some (CallState.answered get outcome)
  does_answer a none e =
      called_before jobs id h p (CallState.answered get outcome) (λ x z. cc) (λ mode n x z. not_answered mode n x get outcome z) (λ x o z. cc) a (call_of (does jobs id h a).left p)
      (does_call jobs id h p a none) e

-- who is answered after an act was so before it, or has the answer that there is then
abbrev pub AnsweredBy : Jobs → ℕ → NodeState → NodeState → Type 0
AnsweredBy jobs id h g =
    (p : Proc) (get : Get) (outcome : Outcome) → call_of g p ≡ Some (CallState.answered get outcome)
    → (call_of h p ≡ Some (CallState.answered get outcome)) ⊎ ((answer_in jobs id g get modes.Wait ≡ outcome) × (outcome ≡ Outcome.parks → ⊥))

answered_so : (jobs : Jobs) (id : ℕ) (h : NodeState) (a : Act) (p : Proc) (get : Get) (outcome : Outcome) → NoCause (cause jobs id h a)
    → Answering jobs id (does jobs id h a).left get outcome (call_of (does jobs id h a).left p)
    → (call_of h p ≡ Some (CallState.answered get outcome)) ⊎ ((answer_in jobs id (does jobs id h a).left get modes.Wait ≡ outcome) × (outcome ≡ Outcome.parks → ⊥))
answered_so jobs id h a p get outcome none (inl still) = inl (does_answer jobs id h p get outcome a none still)
answered_so jobs id h a p get outcome none (inr now) = inr (now.1, now.2)

pub answered_by : (jobs : Jobs) (id : ℕ) (h : NodeState) (a : Act) → AnsweredBy jobs id h (acts jobs id h a).left
answered_by jobs id h a =
    after_act jobs id h a (AnsweredBy jobs id h) (λ p get outcome e. inl e) (λ none p get outcome e.
    answered_so jobs id h a p get outcome none (settled_answered jobs id (does jobs id h a).left p get outcome e))

pub answered_have : AnsweredHave
answered_have jobs node h a before p get outcome e parks = elim (answered_by jobs node h a p get outcome e) [
  | inl was ↦ answers_stay jobs node h a get (before p get outcome was) parks
  | inr now ↦ now.1 (sym now.0 ∙ parks)
]
