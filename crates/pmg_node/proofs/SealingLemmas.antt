-- An act that seals something: what it seals, how it is judged, and that it is taken back.
use Rattle.std.proofs.Common.{◌≡◌, ◌<◌, ℕ, suc, arith, List, ◌++◌, Result, Ok, Err, refl, sym, ap, subst, ◌∙◌}
use Rattle.std.specs.Borrow.{Bor}
use Rattle.std.specs.FinSet as set
use Rattle.std.specs.Prelude.{IfOk, OnOk, OnErr}
use Rattle.pmg_value.specs.Answers.{Fails, Gives}
use Rattle.pmg_value.specs.CheckOrder.{first_of}
use Rattle.pmg_value.specs.InOrder.{in_order}
use Rattle.pmg_value.specs.Process.{proc_cmp}
use Rattle.pmg_value.specs.declared.process.Proc.{Proc}
use Rattle.pmg_value.specs.declared.refusal.Refusal.{Refusal}
use Rattle.pmg_value.specs.declared.refusal.Refusal.TheVariants as refusals
use Rattle.pmg_value.proofs.ProcessOrder.{procs_total, exact_procs}
use Rattle.pmg_value.proofs.SetOrder.{from_list-in_order}
use Rattle.pmg_scope.specs.Cached.{Unsealed}
use Rattle.pmg_commit.specs.Sealed.{Sealed, sealed_with, commit_answer}
use Rattle.pmg_commit.specs.TakenBack.{CanRollBack, sealer_back}
use Rattle.pmg_commit.specs.declared.sealer.SealerUndo.{SealerUndo}
use Rattle.pmg_jobinfo.specs.Expansion.{expansion}
use Rattle.pmg_jobinfo.specs.Jobs.{Jobs}
use Rattle.pmg_pset.specs.Members.{each_once, proc_bytes, no_members}
use Rattle.pmg_pset.specs.Refusing.{define_cause, delete_cause}
use Rattle.pmg_pset.specs.Sets.{set_changed, AreSetsBack}
use Rattle.pmg_pset.proofs.SetLemmas.{refused_alike}
use Rattle.pmg_node_model.specs.Acts.{Act, Request, Reply, members_of, no_cause, cause}
use Rattle.pmg_node_model.specs.Choosing.{sends}
use Rattle.pmg_node_model.specs.Holdings.{sealer_of, sealers_with, sets_with}
use Rattle.pmg_node_model.specs.declared.due.ToSend.{ToSend}
use Rattle.pmg_node_parts.specs.Telling.{settling_by}
use Rattle.pmg_node_parts.specs.declared.call.Completion.{Completion}
use Rattle.pmg_node_parts.specs.Owns.{LocalCommits, sealed_of, with_sealed, with_sets}
use Rattle.pmg_node.specs.Sealing.{sealing_act, sealer_named, reply_sealed, judged_before, last_sealed, sealed_next, with_next, CanSealNext, sealing_answer, CanUnseal, told_besides}
use Rattle.pmg_node.specs.Servers.{Server, IsNode, IsAccepted, reply_to, sent_by, after}
use Rattle.pmg_node.specs.declared.sealing.SealingAct.{SealingAct}
use Rattle.pmg_node.specs.declared.sealing.SealingAct.TheVariants as sealings
use Rattle.pmg_node.proofs.CommitLemmas.{free_own, free_client, commit_barred, commit_over, commit_free, commit_accepted, commit_seals, client_put, client_sets, still_own, own_back as commit_back}
use Rattle.pmg_node.proofs.DefineLemmas.{define_fits, define_accepted, define_seals, own_back as sets_back}
use Rattle.pmg_node.proofs.EndLemmas.{own_in, sealed_put}
use Rattle.pmg_node.proofs.FailLemmas.{fails_due}
use Rattle.pmg_node.proofs.SealedActs.{Seals, IsPublished, now_sealed, published_reply, published_after, published_sent}
use Rattle.pmg_node.proofs.SettingLemmas.{delete_barred, delete_over, delete_free, delete_accepted, delete_seals, sets_sealed}

-- ---- what own processes sealed

-- what is sealed next is then what was sealed last
last_is : (jobs : Jobs) (own : LocalCommits) (a : SealingAct) → CanSealNext jobs own a → (z : Sealed) → last_sealed (with_next own a z) a ≡ z
last_is jobs own (sealings.Commit p batch) can z = sealed_put own p.now can.0 z
last_is jobs own (sealings.Define name list) can z = refl
last_is jobs own (sealings.Delete name) can z = refl

next_level : (jobs : Jobs) (own : LocalCommits) (a : SealingAct) → (sealed_next jobs own a).level ≡ suc (last_sealed own a).level
next_level jobs own (sealings.Commit p batch) = refl
next_level jobs own (sealings.Define name list) = refl
next_level jobs own (sealings.Delete name) = refl

last_named : (own : LocalCommits) (a : SealingAct) → sealed_of own (sealer_named a) ≡ last_sealed own a
last_named own (sealings.Commit p batch) = refl
last_named own (sealings.Define name list) = sets_sealed own
last_named own (sealings.Delete name) = sets_sealed own

module _ (jobs : Jobs) (own : LocalCommits) (a : SealingAct) (can : CanSealNext jobs own a) (new : LocalCommits) (is : new ≡ with_next own a (sealed_next jobs own a)) where
  -- it is one commit more
  pub level_counts : (last_sealed new a).level ≡ suc (last_sealed own a).level
  level_counts = ap (λ (o : LocalCommits). (last_sealed o a).level) is ∙ ap (λ (z : Sealed). z.level) (last_is jobs own a can (sealed_next jobs own a)) ∙ next_level jobs own a

  pub level_above : (from : ℕ) (p : Proc) → p ≡ sealer_named a → from ≡ (sealed_of own p).level → from < (sealed_of new p).level
  level_above from p named last =
      let counts : (sealed_of new p).level ≡ suc (sealed_of own p).level =
      ap (λ (q : Proc). (sealed_of new q).level) named
      ∙ ap (λ (z : Sealed). z.level) (last_named new a)
      ∙ level_counts
      ∙ ap (λ (z : Sealed). suc z.level) (sym (last_named own a))
      ∙ ap (λ (q : Proc). suc (sealed_of own q).level) (sym named) in
      omega (arith, counts, last)

  -- what is taken back leaves all as it was
  pub seal_undone : (back : LocalCommits) (w : Sealed) → back ≡ with_next new a w → sealing_answer own a ≡ Ok w → back ≡ own
  seal_undone back w undone was = undone_by a can (sealed_next jobs own a) is undone was
    where
      undone_by : (b : SealingAct) → CanSealNext jobs own b → (z : Sealed) → new ≡ with_next own b z → back ≡ with_next new b w → sealing_answer own b ≡ Ok w → back ≡ own
      undone_by (sealings.Commit p batch) free z made undone was = commit_back own p.now free.0 new z made back batch.now w free.1 undone was
      undone_by (sealings.Define name list) free z made undone was = sets_back own new back no_cause z w made undone was
      undone_by (sealings.Delete name) free z made undone was = sets_back own new back (delete_cause own.sets name.now) z w made undone was

-- whoever the list stands for, each once
listed_once : (jobs : Jobs) (list items : List Proc) → set.from_list {R = proc_cmp} items ≡ expansion jobs list → each_once items ≡ each_once (members_of jobs list)
unfolding each_once
listed_once jobs list items are = ap (λ (s : set.FinSet proc_cmp). in_order s) (are ∙ sym (from_list-in_order procs_total exact_procs (expansion jobs list)))

-- ---- what sealing leaves and tells
pub record IsSealed (jobs : Jobs) (own new : LocalCommits) (a : SealingAct) (r : Result SealerUndo Refusal) : Type 0 where
  pub before : Gives (λ b. sealer_back (last_sealed new a) b) r (sealing_answer own a)
  pub fits : IfOk r (λ b. CanUnseal new a b)
  pub ok : OnOk r (new ≡ with_next own a (sealed_next jobs own a))
  pub err : OnErr r (new ≡ own)

module _ (jobs : Jobs) (own new : LocalCommits) (a : SealingAct) (can : CanSealNext jobs own a) (r : Result SealerUndo Refusal) where
  pub commit_sealed : (p : Bor Proc) (batch : Bor Unsealed) → a ≡ sealings.Commit p batch → Gives (λ b. sealer_back (sealed_of new p.now) b) r (commit_answer (sealed_of own p.now) batch.now)
      → IfOk r (λ b. CanRollBack (sealed_of new p.now) b) → OnOk r (new ≡ with_sealed own p.now (sealed_with (sealed_of own p.now) batch.now)) → OnErr r (new ≡ own) → IsSealed jobs own new a r
  commit_sealed p batch is before fits ok err =
      subst (λ (x : SealingAct). IsSealed jobs own new x r) (sym is) (record { before = before; fits = there r fits ok; ok = ok; err = err })
    where
      free : CanSealNext jobs own (sealings.Commit p batch)
      free = subst (CanSealNext jobs own) is can

      there : (r : Result SealerUndo Refusal) → IfOk r (λ b. CanRollBack (sealed_of new p.now) b) → OnOk r (new ≡ with_sealed own p.now (sealed_with (sealed_of own p.now) batch.now))
          → IfOk r (λ b. CanUnseal new (sealings.Commit p batch) b)
      there (Ok b) fits ok = (free.0, still_own own p.now free.0 new (sealed_with (sealed_of own p.now) batch.now) ok, fits)
      there (Err e) fits ok = tt

  pub deletion_sealed : (name : Bor (List ℕ)) → a ≡ sealings.Delete name → Gives (λ b. sealer_back new.sets b) r (first_of (delete_cause own.sets name.now) own.sets)
      → IfOk r (λ b. AreSetsBack new.sets b) → OnOk r (new ≡ with_sets own (set_changed own.sets name.now no_members)) → OnErr r (new ≡ own) → IsSealed jobs own new a r
  deletion_sealed name is before fits ok err = subst (λ (x : SealingAct). IsSealed jobs own new x r) (sym is) (record { before = before; fits = fits; ok = ok; err = err })

  pub definition_sealed : (name : Bor (List ℕ)) (list : Bor (List Proc)) (items : List Proc) → a ≡ sealings.Define name list → set.from_list {R = proc_cmp} items ≡ expansion jobs list.now
      → Gives (λ b. sealer_back new.sets b) r (first_of (define_cause own.sets name.now items) own.sets) → IfOk r (λ b. AreSetsBack new.sets b)
      → OnOk r (new ≡ with_sets own (set_changed own.sets name.now (proc_bytes (each_once items)))) → OnErr r (new ≡ own) → IsSealed jobs own new a r
  definition_sealed name list items is are before fits ok err =
      subst (λ (x : SealingAct). IsSealed jobs own new x r) (sym is) (record {
        before = subst (λ (x : Result Sealed Refusal). Gives (λ b. sealer_back new.sets b) r x) (subst (CanSealNext jobs own) is can items are) before;
        fits = fits;
        ok = subst (λ (ps : List Proc). OnOk r (new ≡ with_sets own (set_changed own.sets name.now (proc_bytes ps)))) (listed_once jobs list.now items are) ok;
        err = err;
      })

-- the members were not to be had
pub definition_failed : (jobs : Jobs) (own : LocalCommits) (a : SealingAct) (r : Result SealerUndo Refusal) (name : Bor (List ℕ)) (list : Bor (List Proc)) → a ≡ sealings.Define name list
    → r ≡ Err refusals.NoMemory → IsSealed jobs own own a r
definition_failed jobs own a r name list is none =
    subst (λ (x : SealingAct × Result SealerUndo Refusal). IsSealed jobs own own x.0 x.1) (λ i. (sym is i, sym none i)) (record { before = tt; fits = tt; ok = tt; err = refl })

-- ---- how the act is judged

-- a refusal that is judged first is due
pub sealing_barred : (s : Server) (a : SealingAct) (e : Refusal) → judged_before s.jobs s.id s.holding a ≡ Err e → Fails e (first_of (cause s.jobs s.id s.holding (sealing_act a)) (tt {0}))
sealing_barred s (sealings.Commit p batch) e is = commit_barred s.jobs s.id s.holding p.now batch.now e is
sealing_barred s (sealings.Define name list) e is = fails_due (cause s.jobs s.id s.holding (Act.request (Request.define name.now list.now))) e is
sealing_barred s (sealings.Delete name) e is = delete_barred s.jobs s.id s.holding name.now e is

-- and so is one that sealing shows
pub sealing_over : (s : Server) (a : SealingAct) (e : Refusal) → judged_before s.jobs s.id s.holding a ≡ Ok tt → Fails e (sealing_answer (own_in s.holding) a)
    → Fails e (first_of (cause s.jobs s.id s.holding (sealing_act a)) (tt {0}))
sealing_over s (sealings.Commit p batch) e free fails = commit_over s.jobs s.id s.holding p.now batch.now e free fails
sealing_over s (sealings.Define name list) e free fails =
    subst (λ (r : Result (Unit {0}) Refusal). Fails e r) (sym free) (refused_alike no_cause s.holding.sets (tt {0}) e fails)
sealing_over s (sealings.Delete name) e free fails = delete_over s.jobs s.id s.holding name.now e free fails

-- where there is neither, no refusal is
pub sealing_free : (s : Server) (a : SealingAct) (w : Sealed) → judged_before s.jobs s.id s.holding a ≡ Ok tt → sealing_answer (own_in s.holding) a ≡ Ok w
    → first_of (cause s.jobs s.id s.holding (sealing_act a)) (tt {0}) ≡ Ok tt
sealing_free s (sealings.Commit p batch) w free fits = commit_free s.jobs s.id s.holding p.now batch.now free w fits
sealing_free s (sealings.Define name list) w free fits = free
sealing_free s (sealings.Delete name) w free fits = delete_free s.jobs s.id s.holding name.now free w fits

pub sealing_accepted : (s : Server) (a : SealingAct) → first_of (cause s.jobs s.id s.holding (sealing_act a)) (tt {0}) ≡ Ok tt → IsAccepted (reply_to s (sealing_act a))
sealing_accepted s (sealings.Commit p batch) free = commit_accepted s p.now batch.now free
sealing_accepted s (sealings.Define name list) free = define_accepted s name.now list.now free
sealing_accepted s (sealings.Delete name) free = delete_accepted s name.now free

-- ---- what a node seals

module _ (s : Server) (node : IsNode s) where
  pub can_seal_next : (a : SealingAct) → judged_before s.jobs s.id s.holding a ≡ Ok tt → CanSealNext s.jobs (own_in s.holding) a
  can_seal_next (sealings.Commit p batch) free = (free_client s.jobs s.id s.holding p.now free, node.sealers p.now (free_own s.jobs s.id s.holding p.now free))
  can_seal_next (sealings.Define name list) free = λ items are. define_fits s.jobs node.jobs list.now items are s.id s.holding name.now free
  can_seal_next (sealings.Delete name) free = tt

  pub act_seals : (a : SealingAct) (w : Sealed) → judged_before s.jobs s.id s.holding a ≡ Ok tt → sealing_answer (own_in s.holding) a ≡ Ok w
      → Seals s (sealing_act a) (sealer_named a) (sealed_next s.jobs (own_in s.holding) a) (reply_sealed a (sealed_next s.jobs (own_in s.holding) a).level) (told_besides s.jobs s.id a)
  act_seals (sealings.Commit p batch) w free fits = commit_seals s p.now batch.now node free w fits
  act_seals (sealings.Define name list) w free fits = define_seals s name.now list.now node free
  act_seals (sealings.Delete name) w free fits = delete_seals s name.now node free w fits

-- what own processes sealed then is what the node's content has
pub sealed_in_place : (s : Server) (a : SealingAct) → CanSealNext s.jobs (own_in s.holding) a → (z : Sealed)
    → ((with_next (own_in s.holding) a z).sealers ≡ sealers_with s.holding (sealer_named a) z) × ((with_next (own_in s.holding) a z).sets ≡ sets_with s.holding (sealer_named a) z)
sealed_in_place s (sealings.Commit p batch) can z = (client_put s.holding p.now can.0 z, client_sets s.holding p.now can.0 z)
sealed_in_place s (sealings.Define name list) can z = (refl, refl)
sealed_in_place s (sealings.Delete name) can z = (refl, refl)

-- ---- what comes of it

-- what a node replies to the act, what it is after it and sends, and what was sealed
pub record IsActed (s : Server) (a : SealingAct) (own : LocalCommits) (z : Sealed) (new : Server) : Type 0 where
  pub told : reply_to s (sealing_act a) ≡ reply_sealed a z.level
  pub moved : new ≡ after s (sealing_act a)
  pub sent : (sends (sealed_of own) s.marks (settling_by (sealed_of own) s.holding.held (sealer_named a) ++ told_besides s.jobs s.id a (sealed_of own))).frames ≡ sent_by s (sealing_act a)
  pub now : sealed_of own (sealer_named a) ≡ z

module _
    (s : Server)
    (node : IsNode s)
    (a : SealingAct)
    (judged : judged_before s.jobs s.id s.holding a ≡ Ok tt)
    (w : Sealed)
    (fits : sealing_answer (own_in s.holding) a ≡ Ok w)
    (own : LocalCommits)
    (sealed : own ≡ with_next (own_in s.holding) a (sealed_next s.jobs (own_in s.holding) a))
    (from : ℕ)
    (last : from ≡ (sealer_of s.holding (sealer_named a)).level)
    (answers : List (Proc × Completion))
    (new : Server)
    (is : IsPublished s (sealer_named a) own from answers (told_besides s.jobs s.id a (sealed_of own)) new) where
  abbrev p : Proc
  p = sealer_named a

  abbrev z : Sealed
  z = sealed_next s.jobs (own_in s.holding) a

  abbrev reply : Reply
  reply = reply_sealed a z.level

  abbrev more : (Proc → Sealed) → List ToSend
  more = told_besides s.jobs s.id a

  seals : Seals s (sealing_act a) p z reply more
  seals = act_seals s node a w judged fits

  places : ((with_next (own_in s.holding) a z).sealers ≡ sealers_with s.holding p z) × ((with_next (own_in s.holding) a z).sets ≡ sets_with s.holding p z)
  places = sealed_in_place s a (can_seal_next s node a judged) z

  sealers : own.sealers ≡ sealers_with s.holding p z
  sealers = ap (λ (o : LocalCommits). o.sealers) sealed ∙ places.0

  sets : own.sets ≡ sets_with s.holding p z
  sets = ap (λ (o : LocalCommits). o.sets) sealed ∙ places.1

  pub acted : IsActed s a own z new
  acted = record {
    told = published_reply s (sealing_act a) p z reply more seals own sealers sets from last answers new is;
    moved = published_after s (sealing_act a) p z reply more seals own sealers sets from last answers new is;
    sent = published_sent s (sealing_act a) p z reply more seals own sealers sets from last answers new is;
    now = now_sealed s (sealing_act a) p z reply more seals own sealers sets from last answers new is;
  }
