-- What a client reads and waits for nobody.
use Rattle.std.specs.Prelude.{MatchBool}
use Rattle.std.proofs.Common.{◌≡◌, inl, inr, ℕ, Bool, true, false, ◌&&◌, not, cond, List, Option, Some, Result, Ok, Err, sym, ap, subst, ◌∙◌}
use Rattle.std.specs.FinMap as finite
use Rattle.std.proofs.lemmas.Bool.{not-false}
use Rattle.pmg_value.specs.Answers.{Gives}
use Rattle.pmg_value.specs.CheckOrder.{first_of}
use Rattle.pmg_value.specs.Names.{is_reserved}
use Rattle.pmg_value.specs.declared.refusal.Refusal.{Refusal}
use Rattle.pmg_value.specs.declared.refusal.Refusal.TheVariants as refusals
use Rattle.pmg_value.specs.declared.value.Value.{Value}
use Rattle.pmg_commit.specs.Data.{read_at}
use Rattle.pmg_get.specs.Gets.{Outcome, Seen, resolve}
use Rattle.pmg_get.specs.declared.view.Mode.TheVariants as modes
use Rattle.pmg_jobinfo.specs.Jobs.{Jobs, is_node, is_registered}
use Rattle.pmg_jobinfo.specs.Reserved.{is_general}
use Rattle.pmg_publish.specs.Publications.{far_of, near_of}
use Rattle.pmg_node_model.proofs.CauseFacts.{NoCause, by_causes}
use Rattle.pmg_node_model.proofs.KeptSettled.{resolve_parks}
use Rattle.pmg_node_model.specs.Acts.{is_misnamed, reply_of, target_cause}
use Rattle.pmg_node_model.specs.Holdings.{Get, NodeState, new_holding, plain_seen, seen_of}
use Rattle.pmg_node.proofs.AskLemmas.{reserved_found, reserved_named, reserved_refuses, told_first}
use Rattle.pmg_desk.specs.Clients.{Client, proc_of, puts_of}
use Rattle.pmg_desk.specs.Reading.{GivesDue, IsDueOrClosed, IsDueTo, IsReadNow, ReadsNow, is_own_key, now_cause, reserved_seen}

-- a get that waits for nobody does not park
pub now_tells : (seen : Seen) → resolve seen modes.Now ≡ Outcome.parks → ⊥
now_tells seen parks = elim (resolve_parks seen modes.Now parks) [ inl same ↦ not_wait same | inr same ↦ not_anew same ]
  where
    not_wait : modes.Now ≡ modes.Wait → ⊥
    not_wait same = cc

    not_anew : modes.Now ≡ modes.Refresh → ⊥
    not_anew same = cc

reserved_by : (jobs : Jobs) (id : ℕ) (nears fars : List ℕ → Option (List ℕ)) (get : Get) → is_reserved get.key ≡ true → seen_of jobs id nears fars get ≡ reserved_seen jobs id get
unfolding seen_of
reserved_by jobs id nears fars get is = ap (λ (b : Bool). cond b (reserved_seen jobs id get) (plain_seen jobs id nears fars get)) is

plain_by : (jobs : Jobs) (id : ℕ) (nears fars : List ℕ → Option (List ℕ)) (get : Get) → is_reserved get.key ≡ false → seen_of jobs id nears fars get ≡ plain_seen jobs id nears fars get
unfolding seen_of
plain_by jobs id nears fars get is = ap (λ (b : Bool). cond b (reserved_seen jobs id get) (plain_seen jobs id nears fars get)) is

-- what the registry answers is due
pub reserved_due : (jobs : Jobs) (id : ℕ) (get : Get) → is_node jobs id ≡ true → is_reserved get.key ≡ true → is_registered jobs get.target.nspace ≡ true
    → (not (is_general get.target) && is_misnamed jobs get.target) ≡ false → (r : Result Value Refusal) → Gives Some r (told_first jobs id get)
    → GivesDue r (reply_of (resolve (reserved_seen jobs id get) modes.Now))
reserved_due jobs id get node key known named r gives = subst (λ (s : Seen). GivesDue r (reply_of (resolve s modes.Now))) (reserved_by jobs id _ _ get key) (due r gives)
  where
    nothing : NodeState
    nothing = new_holding jobs id

    due : (r : Result Value Refusal) → Gives Some r (told_first jobs id get)
        → GivesDue r (reply_of (resolve (seen_of jobs id (read_at nothing.near get.target) (read_at nothing.far get.target) get) modes.Now))
    due (Ok v) is = reserved_found jobs id get nothing modes.Now key node known named v is
    due (Err refusals.NoMemory) is = tt
    due (Err e) is = reserved_refuses jobs id get nothing modes.Now key node known named e is

module _ (c : Client) (get : Get) (free : ◌≡◌ {A = Result (Unit {0}) Refusal} (Ok tt) (first_of (now_cause c get) tt)) (other : is_own_key (proc_of c) get ≡ false) where
  none : NoCause (now_cause c get)
  none = elim (by_causes (now_cause c get) (tt {0})) [
    | inl found ↦ absurd (not_both found.0 (sym found.2 ∙ sym free))
    | inr free_of ↦ free_of.1
  ]
    where
      not_both : (e : Refusal) → ◌≡◌ {A = Result (Unit {0}) Refusal} (Err e) (Ok tt) → ⊥
      not_both e is = cc

  target_free : (e : Refusal) → (not (is_own_key (proc_of c) get) && target_cause c.jobs (proc_of c) get e) ≡ false → target_cause c.jobs (proc_of c) get e ≡ false
  target_free e is = ap (λ (b : Bool). not b && target_cause c.jobs (proc_of c) get e) (sym other) ∙ is

  -- the target may be named
  pub now_known : is_registered c.jobs get.target.nspace ≡ true
  now_known = not-false (is_registered c.jobs get.target.nspace) (target_free refusals.UnknownNamespace none.1.1.0)

  pub now_named : is_reserved get.key ≡ true → (not (is_general get.target) && is_misnamed c.jobs get.target) ≡ false
  now_named = reserved_named c.jobs (proc_of c) get (target_free refusals.BadParam none.1.0)

module _ (c d : Client) (get : Get) (result : Result Value Refusal) (free : ◌≡◌ {A = Result (Unit {0}) Refusal} (Ok tt) (first_of (now_cause c get) tt)) where
  abbrev there : Seen
  there = seen_of c.jobs c.node (read_at (near_of d.viewer.log) get.target) (read_at (far_of d.viewer.log) get.target) get

  read_other : (reserved : Bool) → is_own_key (proc_of c) get ≡ false → is_reserved get.key ≡ reserved → MatchBool (not reserved) (IsDueOrClosed result (reply_of (resolve there modes.Now))) (GivesDue result (reply_of (resolve there modes.Now)))
      → IsReadNow c d get result
  read_other reserved other key due =
      subst (ReadsNow c d get result) free
      (subst (λ (b : Bool). IsDueTo (not b && not (is_reserved get.key)) result (reply_of (resolve (cond b (Seen.own (finite.get (puts_of c).own get.key)) there) modes.Now))) (sym other)
      (subst (λ (b : Bool). IsDueTo (not b) result (reply_of (resolve there modes.Now))) (sym key) due))

  -- of a key that is none of its own it is told what the group tells
  pub read_reserved : is_own_key (proc_of c) get ≡ false → is_reserved get.key ≡ true → GivesDue result (reply_of (resolve (reserved_seen c.jobs c.node get) modes.Now))
      → IsReadNow c d get result
  read_reserved other key due = read_other true other key (subst (λ (s : Seen). GivesDue result (reply_of (resolve s modes.Now))) (sym (reserved_by c.jobs c.node _ _ get key)) due)

  -- or what the stores tell
  pub read_plain : is_own_key (proc_of c) get ≡ false → is_reserved get.key ≡ false
      → IsDueOrClosed result (reply_of (resolve (plain_seen c.jobs c.node (read_at (near_of d.viewer.log) get.target) (read_at (far_of d.viewer.log) get.target) get) modes.Now))
      → IsReadNow c d get result
  read_plain other key due = read_other false other key (subst (λ (s : Seen). IsDueOrClosed result (reply_of (resolve s modes.Now))) (sym (plain_by c.jobs c.node _ _ get key)) due)
