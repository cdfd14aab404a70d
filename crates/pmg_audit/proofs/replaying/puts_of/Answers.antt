use Rattle.std.proofs.Common.{◌≡◌, ◌⊎◌, ℕ, Bool, true, false, ◌==◌, List, [], ◌∷◌, map, Option, Some, refl, sym, ap, subst, ◌∙◌, arith}
use Rattle.std.proofs.lemmas.Bool.{false≢true}
use Rattle.std.proofs.lemmas.Bool.Decides.{nat_tests}
use Rattle.pmg_value.specs.declared.process.Proc.{Proc}
use Rattle.pmg_jobinfo.specs.Jobs.{Jobs, home_of}
use Rattle.pmg_node.specs.Servers.{Server}
use Rattle.pmg_journal.specs.Calling.{caller_of, free_at, may_call}
use Rattle.pmg_journal.specs.Journals.{happening_of}
use Rattle.pmg_journal.specs.Replays.{Happening}
use Rattle.pmg_audit.specs.Agreeing.{IsSaidBy, MayPut}
use Rattle.pmg_audit.specs.Codes.{audited_put, rest_of, audited_due}
use Rattle.pmg_audit.specs.Dues.{due_event}
use Rattle.pmg_audit.specs.Replaying.{IsWhere}
use Rattle.pmg_audit.specs.declared.moves.Due.{Due as KeptDue}
use Rattle.pmg_audit.specs.declared.moves.Put.{Put as KeptPut}
use Rattle.pmg_audit.specs.declared.moves.Saying.{Saying}
use Rattle.pmg_audit.proofs.ReplaySteps.{caller_takes, free_of_may, may_of_free, none_left, not_home, other_said, takes_at, unsaid_at}
use Rattle.pmg_audit.proofs.replaying.puts_of.Goals as goal

same_number : (m n : ℕ) → (m == n) ≡ true → m ≡ n
same_number m n e = grind (arith, nat_tests)

other_number : (m n : ℕ) → (m == n) ≡ false → m ≡ n → ⊥
other_number m n e same = grind (arith, nat_tests)

-- an event is said by nobody where the first that its process says does not fit
first_unlike : (s : Server) (ss rest : List Saying) (o : Option Proc) (p : Proc) (e : Happening) (d : KeptDue) → o ≡ Some p → rest_of ss p ≡ audited_due d ∷ rest_of rest p
    → (due_event (audited_due d) ≡ e → MayPut s p (audited_due d).puts → ⊥) → IsSaidBy s (rest_of ss) o e → ⊥
first_unlike s ss rest o p e d of is other said =
    other_said s (rest_of ss) p e (audited_due d) (rest_of rest p) is other (subst (λ (x : Option Proc). IsSaidBy s (rest_of ss) x e) of said)

-- what is known of the node is so of the process that calls
module _ (jobs : Jobs) (node : ℕ) (free : Bool) (e : Happening) (p : Proc) (calls : caller_of e.act ≡ Some p) (s : Server) (at : IsWhere jobs node free e s) where
  home_there : (home_of s.jobs p == s.id) ≡ (home_of jobs p == node)
  home_there = λ i. home_of (at.group i) p == at.index i

  free_there : free ≡ may_call s p
  free_there = at.free_is ∙ ap (free_at s) calls

pub returns-then-not-is_home-clause-none : goal.returns-then-not-is_home-clause-none
returns-then-not-is_home-clause-none c = λ _.
    let jobs = c.args.registry.now in
    let p : Proc = c.args.proc.now in
    let e : Happening = happening_of c.args.event.now in
    let ss = c.args.sayings.now in
    unsaid_at jobs c.args.node c.args.is_free ss e
    (λ s at said. not_home s (rest_of ss) p e
    (other_number (home_of s.jobs p) s.id (home_there jobs c.args.node c.args.is_free e p c.requires s at ∙ sym c.is_home.ensures ∙ c.if-not-is_home.true))
    (subst (λ (o : Option Proc). IsSaidBy s (rest_of ss) o e) c.requires said))

pub returns-in_default-clause-none : goal.returns-in_default-clause-none
returns-in_default-clause-none c = λ _.
    let e : Happening = happening_of c.args.event.now in
    let ss = c.args.sayings.now in
    unsaid_at c.args.registry.now c.args.node c.args.is_free ss e
    (λ s at said. none_left s (rest_of ss) c.args.proc.now e (c.in_default.ensures.none refl) (subst (λ (o : Option Proc). IsSaidBy s (rest_of ss) o e) c.requires said))

pub returns-then-not-is_said-clause-none : goal.returns-then-not-is_said-clause-none
returns-then-not-is_said-clause-none c = λ _.
    let e : Happening = happening_of c.args.event.now in
    unsaid_at c.args.registry.now c.args.node c.args.is_free c.args.sayings.now e
    (λ s at. first_unlike s c.args.sayings.now c.take_due.new.self _ c.args.proc.now e c.in-Some.due c.requires c.in-Some.ensures.some.here
    (λ same may. false≢true (sym c.if-not-is_said.true ∙ c.is_said.ensures.1 same)))

pub returns-then-not-may_put_if-clause-none : goal.returns-then-not-may_put_if-clause-none
returns-then-not-may_put_if-clause-none c = λ _.
    let jobs = c.args.registry.now in
    let p : Proc = c.args.proc.now in
    let e : Happening = happening_of c.args.event.now in
    let free = c.args.is_free in
    unsaid_at jobs c.args.node free c.args.sayings.now e
    (λ s at. first_unlike s c.args.sayings.now c.take_due.new.self _ p e c.in-Some.due c.requires c.in-Some.ensures.some.here
    (λ same may.
    false≢true
    (sym c.if-not-may_put_if.true
    ∙ c.may_put_if.ensures.1
    (free_of_may s p (map audited_put c.deref.result.now) free (free_there jobs c.args.node free e p c.requires s at)
    (subst (λ (xs : List KeptPut). MayPut s p (map audited_put xs)) (sym c.deref.ensures.value) may)))))

pub returns-clause-some : goal.returns-clause-some
returns-clause-some c =
    let jobs = c.args.registry.now in
    let p : Proc = c.args.proc.now in
    let e : Happening = happening_of c.args.event.now in
    let free = c.args.is_free in
    let puts = map audited_put c.in-Some.due.puts.items in
    let may : (puts ≡ []) ⊎ (free ≡ true) = subst (λ (xs : List KeptPut). (map audited_put xs ≡ []) ⊎ (free ≡ true)) c.deref.ensures.value (c.may_put_if.ensures.0 c.if-not-may_put_if.false) in
    rw c.into_puts.ensures
    (takes_at jobs c.args.node free c.args.sayings.now e puts c.take_due.new.self
    (λ s at. caller_takes s c.args.sayings.now p (audited_due c.in-Some.due) c.take_due.new.self e c.requires
    (same_number (home_of s.jobs p) s.id (home_there jobs c.args.node free e p c.requires s at ∙ sym c.is_home.ensures ∙ c.if-not-is_home.false)) c.in-Some.ensures.some
    (c.is_said.ensures.0 c.if-not-is_said.false) (may_of_free s p puts free (free_there jobs c.args.node free e p c.requires s at) may)))
