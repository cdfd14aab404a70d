-- A process commits.
use Rattle.std.proofs.Common.{◌≡◌, ℕ, suc, ◌<◌, arith, Bool, true, false, ◌||◌, cond, [], append-nil, is_some, is_err, Option, Some, None, Result, Ok, Err, inl, inr, refl, sym, ap, subst, ◌∙◌}
use Rattle.std.specs.FinMap as finite
use Rattle.std.specs.Option.{unwrap_or}
use Rattle.std.proofs.lemmas.Bool.{false≢true, or_parts, and_parts}
use Rattle.std.proofs.lemmas.Slice.Eq.{bytes_eq-Decides}
use Rattle.pmg_value.specs.Answers.{Fails}
use Rattle.pmg_value.specs.CheckOrder.{first_of}
use Rattle.pmg_value.specs.Names.{is_reserved}
use Rattle.pmg_value.specs.Process.{is_host, host_name}
use Rattle.pmg_value.specs.declared.process.Proc.{Proc}
use Rattle.pmg_value.specs.declared.refusal.Refusal.{Refusal}
use Rattle.pmg_value.specs.declared.refusal.Refusal.TheVariants as refusals
use Rattle.pmg_value.proofs.ProcessOrder.{procs_total, exact_procs}
use Rattle.pmg_fence.proofs.Trees.{get_put}
use Rattle.pmg_scope.specs.Cached.{Unsealed}
use Rattle.pmg_commit.specs.Sealed.{Sealed, fresh, sealed_with, can_seal, commit_answer}
use Rattle.pmg_pset.proofs.SetLemmas.{refused_alike}
use Rattle.pmg_jobinfo.specs.Jobs.{Jobs}
use Rattle.pmg_node_model.specs.Acts.{Act, Reply, Done, cause, does, caller_cause, busy_cause, free_cause}
use Rattle.pmg_node_model.specs.Choosing.{due_by, marked_by_act, settling}
use Rattle.pmg_node_model.specs.Holdings.{NodeState, sealer_in, sealer_of, sealers_with, sets_with, call_of}
use Rattle.pmg_node_model.specs.Kept.{IsOwn}
use Rattle.pmg_node_parts.specs.Owns.{LocalCommits, sealed_of, with_sealed}
use Rattle.pmg_node_parts.specs.Sealers.{sealed_by}
use Rattle.pmg_node.specs.Servers.{Server, IsNode, IsAccepted, reply_to}
use Rattle.pmg_node_model.proofs.CauseFacts.{NoCause, by_causes, neither_cause}
use Rattle.pmg_node_model.proofs.KeptBasics.{act_free, caller_is}
use Rattle.pmg_node_parts.proofs.MarkLemmas.{inserted_again}
use Rattle.pmg_node.proofs.FailLemmas.{fails_due}
use Rattle.pmg_node.proofs.SealedActs.{Seals}

-- ---- who may commit

no_error : (e : Refusal) → ◌≡◌ {A = Result (Unit {0}) Refusal} (Err e) (Ok tt) → ⊥
no_error e is = cc

-- a call that may go on has no cause to be refused
pub none_found : (has_cause : Refusal → Bool) → first_of has_cause (tt {0}) ≡ Ok tt → NoCause has_cause
none_found has_cause is = elim (by_causes has_cause (tt {0})) [ inl found ↦ absurd (no_error found.0 (sym found.2 ∙ is)) | inr none ↦ none.1 ]

host_is_reserved : (p : Proc) → is_host p ≡ true → is_reserved p.nspace ≡ true
host_is_reserved p e = let kept : is_reserved host_name ≡ true = refl in ap is_reserved ((bytes_eq-Decides p.nspace host_name).0 (and_parts _ _ e).0) ∙ kept

pub not_host : (p : Proc) (b : Bool) → is_host p ≡ b → is_reserved p.nspace ≡ false → is_host p ≡ false
not_host p true e named = absurd (false≢true (sym named ∙ host_is_reserved p e))
not_host p false e named = e

module _ (jobs : Jobs) (id : ℕ) (h : NodeState) (p : Proc) (free : first_of (free_cause jobs id h p) (tt {0}) ≡ Ok tt) where
  caller : NoCause (caller_cause jobs id h p)
  caller = (neither_cause (caller_cause jobs id h p) (busy_cause h p) (none_found (free_cause jobs id h p) free)).0

  -- whoever may call is a process of the group, at home at the node
  pub free_own : IsOwn jobs id p
  free_own = caller_is jobs id h p caller.1.0 caller.1.1.0 caller.1.1.1.0

  -- and not the one that stands for the host
  pub free_client : is_host p ≡ false
  free_client = not_host p (is_host p) refl (or_parts _ _ caller.1.0).0

-- ---- how a commit is judged

-- whoever may commit is refused where the commit would pass a limit
abbrev pub then_full : Result (Unit {0}) Refusal → Bool → Result (Unit {0}) Refusal
then_full (Err e) full = Err e
then_full (Ok u) full = cond full (Err refusals.TooMany) (Ok tt)

judged : (a b c d e t : Bool)
    → cond ((a || false) || false) (Err refusals.BadParam) (cond ((b || false) || false) (Err refusals.UnknownNamespace) (cond ((c || false) || false) (Err refusals.NotMine)
    (cond ((d || false) || false) (Err refusals.Terminated) (cond (e || false) (Err refusals.Busy) (cond t (Err refusals.TooMany) (Ok (tt {0})))))))
    ≡ then_full (cond (a || false) (Err refusals.BadParam) (cond (b || false) (Err refusals.UnknownNamespace) (cond (c || false) (Err refusals.NotMine) (cond (d || false) (Err refusals.Terminated)
    (cond e (Err refusals.Busy) (Ok (tt {0}))))))) t
judged true b c d e t = refl
judged false true c d e t = refl
judged false false true d e t = refl
judged false false false true e t = refl
judged false false false false true t = refl
judged false false false false false t = refl

abbrev full : Refusal → Bool
full refusals.TooMany = true
full _ = false

over_limit : (z : Sealed) (e : Refusal) (can : Bool) → Fails e (cond can (Ok z) (Err refusals.TooMany)) → Fails e (then_full (Ok tt) (is_err (cond can (Ok z) (Err refusals.TooMany))))
over_limit z e true fails = refused_alike (λ _. false) z (tt {0}) e fails
over_limit z e false fails = refused_alike full z (tt {0}) e fails

module _ (jobs : Jobs) (id : ℕ) (h : NodeState) (p : Proc) (b : Unsealed) where
  pub commit_first : first_of (cause jobs id h (Act.commit p b)) (tt {0}) ≡ then_full (first_of (free_cause jobs id h p) tt) (is_err (commit_answer (sealer_of h p) b))
  unfolding cause
  commit_first =
      judged (caller_cause jobs id h p refusals.BadParam) (caller_cause jobs id h p refusals.UnknownNamespace) (caller_cause jobs id h p refusals.NotMine)
      (caller_cause jobs id h p refusals.Terminated) (is_some (call_of h p)) (is_err (commit_answer (sealer_of h p) b))

  -- who may not call is refused
  pub commit_barred : (e : Refusal) → first_of (free_cause jobs id h p) (tt {0}) ≡ Err e → Fails e (first_of (cause jobs id h (Act.commit p b)) (tt {0}))
  commit_barred e is = fails_due (cause jobs id h (Act.commit p b)) e (commit_first ∙ ap (λ r. then_full r (is_err (commit_answer (sealer_of h p) b))) is)

  -- who may call is refused where the commit would pass a limit
  pub commit_over : (e : Refusal) → first_of (free_cause jobs id h p) (tt {0}) ≡ Ok tt → Fails e (commit_answer (sealer_of h p) b) → Fails e (first_of (cause jobs id h (Act.commit p b)) (tt {0}))
  commit_over e free fails =
      subst (Fails e) (sym (commit_first ∙ ap (λ r. then_full r (is_err (commit_answer (sealer_of h p) b))) free))
      (over_limit (sealer_of h p) e (can_seal (sealer_of h p) b) fails)

  pub commit_free : first_of (free_cause jobs id h p) (tt {0}) ≡ Ok tt → (w : Sealed) → commit_answer (sealer_of h p) b ≡ Ok w → first_of (cause jobs id h (Act.commit p b)) (tt {0}) ≡ Ok tt
  commit_free free w fits = commit_first ∙ (λ i. then_full (free i) (is_err (fits i)))

pub commit_accepted : (s : Server) (p : Proc) (b : Unsealed) → first_of (cause s.jobs s.id s.holding (Act.commit p b)) (tt {0}) ≡ Ok tt → IsAccepted (reply_to s (Act.commit p b))
unfolding does
commit_accepted s p b free = subst IsAccepted (sym (ap (λ (d : Done). d.reply) (act_free s.jobs s.id s.holding (Act.commit p b) free))) tt

-- what a commit seals
pub commit_seals : (s : Server) (p : Proc) (b : Unsealed) → IsNode s → first_of (free_cause s.jobs s.id s.holding p) (tt {0}) ≡ Ok tt → (w : Sealed) → commit_answer (sealer_of s.holding p) b ≡ Ok w
    → Seals s (Act.commit p b) p (sealed_with (sealer_of s.holding p) b) (Reply.committed (sealed_with (sealer_of s.holding p) b).level) (λ _. [])
unfolding does due_by marked_by_act
commit_seals s p b node free w fits = record {
  node = node;
  free = commit_free s.jobs s.id s.holding p b free w fits;
  does = refl;
  loud = refl;
  proc = node.server.holds.sealers p;
  owes = λ new. sym (append-nil (settling s.holding new p));
  unasked = refl;
}

-- ---- what own processes sealed then

module _ (h : NodeState) (p : Proc) (client : is_host p ≡ false) where
  pub client_sealed : sealed_by h.sealers p ≡ sealer_of h p
  unfolding sealer_in
  client_sealed = sym (ap (λ (c : Bool). cond c h.sets (unwrap_or (finite.get h.sealers p) (fresh p))) client)

  pub client_put : (z : Sealed) → finite.insert h.sealers p z ≡ sealers_with h p z
  client_put z = sym (ap (λ (c : Bool). cond c h.sealers (finite.insert h.sealers p z)) client)

  pub client_sets : (z : Sealed) → h.sets ≡ sets_with h p z
  client_sets z = sym (ap (λ (c : Bool). cond c z h.sets) client)

answer_same : (z w : Sealed) (can : Bool) → ◌≡◌ {A = Result Sealed Refusal} (cond can (Ok z) (Err refusals.TooMany)) (Ok w) → z ≡ w
answer_same z w true is = cc
answer_same z w false is = absurd cc

-- the own process's next commit, and what it sealed before
module _ (own : LocalCommits) (p : Proc) (client : is_host p ≡ false) (own_after : LocalCommits) (z : Sealed) (sealed : own_after ≡ with_sealed own p z) where
  now_is : sealed_of own_after p ≡ z
  unfolding sealer_in
  now_is =
      ap (λ (o : LocalCommits). sealed_of o p) sealed
      ∙ ap (λ (c : Bool). cond c own.sets (unwrap_or (finite.get (finite.insert own.sealers p z) p) (fresh p))) client
      ∙ ap (λ (o : Option Sealed). unwrap_or o (fresh p)) (get_put procs_total exact_procs own.sealers p z)

  pub level_rises : (b : Unsealed) (from : ℕ) → z ≡ sealed_with (sealed_of own p) b → from ≡ (sealed_of own p).level → from < (sealed_of own_after p).level
  level_rises b from next last =
      let level : (sealed_of own_after p).level ≡ suc (sealed_of own p).level = ap (λ (x : Sealed). x.level) (now_is ∙ next) in
      omega (arith, level, last)

  pub still_own : is_some (finite.get own_after.sealers p) ≡ true
  still_own = ap (λ (o : LocalCommits). is_some (finite.get o.sealers p)) sealed ∙ ap is_some (get_put procs_total exact_procs own.sealers p z)

  there_is : (o : Option Sealed) (d w : Sealed) → is_some o ≡ true → w ≡ unwrap_or o d → o ≡ Some w
  there_is None d w there is = absurd (false≢true there)
  there_is (Some x) d w there is = ap Some (sym is)

  -- a commit that is taken back leaves all as it was
  pub own_back : (back : LocalCommits) (b : Unsealed) (w : Sealed) → is_some (finite.get own.sealers p) ≡ true → back ≡ with_sealed own_after p w → commit_answer (sealed_of own p) b ≡ Ok w → back ≡ own
  unfolding sealer_in
  own_back back b w there is fits =
      let was : w ≡ sealed_of own p = sym (answer_same (sealed_of own p) w (can_seal (sealed_of own p) b) fits) in
      let found = there_is (finite.get own.sealers p) (fresh p) w there (was ∙ ap (λ (c : Bool). cond c own.sets (unwrap_or (finite.get own.sealers p) (fresh p))) client) in
      is ∙ ap (λ (o : LocalCommits). with_sealed o p w) sealed
      ∙ (λ i. record { sealers = inserted_again procs_total exact_procs own.sealers p w z found i; sets = own.sets })
