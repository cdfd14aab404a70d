-- The process sets are changed.
use Rattle.std.proofs.Common.{◌≡◌, ℕ, suc, ◌<◌, arith, Bool, true, false, ◌||◌, ◌==◌, not, cond, List, Result, Ok, Err, refl, sym, ap, subst, ◌∙◌}
use Rattle.pmg_value.specs.Answers.{Fails}
use Rattle.pmg_value.specs.CheckOrder.{first_of}
use Rattle.pmg_value.specs.Names.{is_reserved}
use Rattle.pmg_value.specs.declared.refusal.Refusal.{Refusal}
use Rattle.pmg_value.specs.declared.refusal.Refusal.TheVariants as refusals
use Rattle.pmg_commit.specs.Sealed.{Sealed}
use Rattle.pmg_jobinfo.specs.Jobs.{Jobs}
use Rattle.pmg_pset.specs.Members.{no_members}
use Rattle.pmg_pset.specs.Refusing.{is_full, delete_cause}
use Rattle.pmg_pset.specs.Sets.{host, is_live, set_changed}
use Rattle.pmg_pset.proofs.SetLemmas.{refused_alike, made_alike}
use Rattle.pmg_node_model.specs.Acts.{Act, Request, Reply, Done, also, node_cause, name_cause, cause, request_cause, does, serves}
use Rattle.pmg_node_model.specs.Choosing.{due_by, due_by_request, marked_by_act}
use Rattle.pmg_node_model.specs.Holdings.{NodeState, sealer_in}
use Rattle.pmg_node_parts.specs.Owns.{LocalCommits, sealed_of, with_sets}
use Rattle.pmg_node.specs.Servers.{Server, IsNode, IsAccepted, reply_to}
use Rattle.pmg_node_parts.specs.Telling.{spread_by}
use Rattle.pmg_node_model.proofs.KeptBasics.{act_free}
use Rattle.pmg_node.proofs.FailLemmas.{fails_due}
use Rattle.pmg_node.proofs.SealedActs.{Seals}

-- the first refusal, or that of what is judged next
abbrev pub then_judged : Result (Unit {0}) Refusal → Result (Unit {0}) Refusal → Result (Unit {0}) Refusal
then_judged (Err e) next = Err e
then_judged (Ok u) next = next

-- a deletion's name and node
abbrev pub place_cause : ℕ → List ℕ → Refusal → Bool
place_cause id name = also (node_cause id) (name_cause name)

judged : (r n l f : Bool)
    → cond (r || false) (Err refusals.BadParam) (cond (n || false) (Err refusals.NotMine) (cond l (Err refusals.NotFound) (cond f (Err refusals.TooMany) (Ok (tt {0})))))
    ≡ then_judged (cond r (Err refusals.BadParam) (cond (n || false) (Err refusals.NotMine) (Ok tt))) (cond l (Err refusals.NotFound) (cond f (Err refusals.TooMany) (Ok tt)))
judged true n l f = refl
judged false true l f = refl
judged false false l f = refl

module _ (jobs : Jobs) (id : ℕ) (h : NodeState) (name : List ℕ) where
  abbrev pub deletes : Act
  deletes = Act.request (Request.delete name)

  delete_first : first_of (cause jobs id h deletes) (tt {0}) ≡ then_judged (first_of (place_cause id name) tt) (first_of (delete_cause h.sets name) tt)
  unfolding cause request_cause
  delete_first = judged (is_reserved name) (not (id == 0)) (not (is_live h.sets name)) (is_full h.sets)

  pub delete_barred : (e : Refusal) → first_of (place_cause id name) (tt {0}) ≡ Err e → Fails e (first_of (cause jobs id h deletes) (tt {0}))
  delete_barred e is = fails_due (cause jobs id h deletes) e (delete_first ∙ ap (λ r. then_judged r (first_of (delete_cause h.sets name) tt)) is)

  pub delete_over : (e : Refusal) → first_of (place_cause id name) (tt {0}) ≡ Ok tt → Fails e (first_of (delete_cause h.sets name) h.sets) → Fails e (first_of (cause jobs id h deletes) (tt {0}))
  delete_over e free fails =
      subst (Fails e) (sym (delete_first ∙ ap (λ r. then_judged r (first_of (delete_cause h.sets name) tt)) free)) (refused_alike (delete_cause h.sets name) h.sets (tt {0}) e fails)

  pub delete_free : first_of (place_cause id name) (tt {0}) ≡ Ok tt → (w : Sealed) → first_of (delete_cause h.sets name) h.sets ≡ Ok w → first_of (cause jobs id h deletes) (tt {0}) ≡ Ok tt
  delete_free free w fits = delete_first ∙ (λ i. then_judged (free i) ((made_alike (delete_cause h.sets name) h.sets w (tt {0}) fits).1 i))

pub delete_accepted : (s : Server) (name : List ℕ) → first_of (cause s.jobs s.id s.holding (Act.request (Request.delete name))) (tt {0}) ≡ Ok tt → IsAccepted (reply_to s (Act.request (Request.delete name)))
unfolding does serves
delete_accepted s name free = subst IsAccepted (sym (ap (λ (d : Done). d.reply) (act_free s.jobs s.id s.holding (Act.request (Request.delete name)) free))) tt

-- what a deletion seals
pub delete_seals : (s : Server) (name : List ℕ) → IsNode s → first_of (place_cause s.id name) (tt {0}) ≡ Ok tt → (w : Sealed) → first_of (delete_cause s.holding.sets name) s.holding.sets ≡ Ok w
    → Seals s (Act.request (Request.delete name)) host (set_changed s.holding.sets name no_members) (Reply.defined (set_changed s.holding.sets name no_members).level) (λ sealer. spread_by s.jobs s.id sealer host)
unfolding does serves due_by due_by_request marked_by_act sealer_in
delete_seals s name node free w fits = record {
  node = node;
  free = delete_free s.jobs s.id s.holding name free w fits;
  does = refl;
  loud = refl;
  proc = node.server.holds.sealers host;
  owes = λ new. refl;
  unasked = refl;
}

-- ---- the sets, as a node keeps them

-- the process that stands for the host sealed them
pub sets_sealed : (own : LocalCommits) → sealed_of own host ≡ own.sets
unfolding sealer_in
sets_sealed own = refl

module _ (own changes : LocalCommits) (name bytes : List ℕ) (is : changes ≡ with_sets own (set_changed own.sets name bytes)) where
  pub sets_rise : (from : ℕ) → from ≡ own.sets.level → from < (sealed_of changes host).level
  sets_rise from last =
      let level : (sealed_of changes host).level ≡ suc own.sets.level = ap (λ (z : Sealed). z.level) (sets_sealed changes ∙ ap (λ (o : LocalCommits). o.sets) is) in
      omega (arith, level, last)
