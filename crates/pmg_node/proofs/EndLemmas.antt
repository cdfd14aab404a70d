-- A process's end.
use Rattle.std.proofs.Common.{◌≡◌, ◌<◌, ℕ, arith, suc, Bool, true, false, cond, List, [], ◌∷◌, ◌++◌, Option, Some, None, is_some, Ok, Err, inl, inr, refl, sym, ap, subst, ◌∙◌}
use Rattle.std.specs.FinMap as finite
use Rattle.std.specs.Cmp.{Equal-is, eq_by_cmp_equiv}
use Rattle.std.specs.List.{flat_map}
use Rattle.std.specs.Option.{option_map, unwrap_or}
use Rattle.std.proofs.lemmas.List.Concat.{flat_map-append}
use Rattle.pmg_value.specs.CheckOrder.{first_of}
use Rattle.pmg_value.specs.Names.{is_reserved}
use Rattle.pmg_value.specs.Process.{is_host}
use Rattle.pmg_value.specs.Signatures.{FenceName}
use Rattle.pmg_value.specs.declared.process.Proc.{Proc}
use Rattle.pmg_value.specs.declared.refusal.Refusal.{Refusal}
use Rattle.pmg_value.proofs.ProcessOrder.{procs_total, exact_procs}
use Rattle.pmg_scope.specs.declared.scope.Reach.{Reach}
use Rattle.pmg_scope.specs.declared.scope.Reach.TheVariants as reach
use Rattle.pmg_commit.specs.Data.{Data, absorbed}
use Rattle.pmg_commit.specs.Sealed.{Sealed, fresh, end_of, ended_with, piece_at}
use Rattle.pmg_commit.specs.TakenBack.{end_back}
use Rattle.pmg_commit.specs.declared.sealer.SealerUndo.{SealerUndo}
use Rattle.pmg_fence.specs.Changes.{ended_by, news}
use Rattle.pmg_fence.specs.Entering.{same_proc}
use Rattle.pmg_fence.specs.Tables.{Fences, names_of}
use Rattle.pmg_jobinfo.specs.Jobs.{Jobs}
use Rattle.pmg_dmodex.specs.Levels.{Levels, without_below}
use Rattle.pmg_node_model.specs.Acts.{Act, Request, Reply, Done, is_misnamed, caller_cause, request_cause, cause, serves, does}
use Rattle.pmg_node_parts.specs.Answering.{AreAnswers}
use Rattle.pmg_node_parts.specs.Calls.{all_instead}
use Rattle.pmg_node_model.specs.Choosing.{Out, announcing, due_by, due_by_request, marked_by_act, sends}
use Rattle.pmg_node_parts.specs.Codes.{Calls}
use Rattle.pmg_node.specs.Endings.{own_ended, own_back}
use Rattle.pmg_node_model.specs.Holdings.{CallState, NodeState, sealer_in, sealer_of, with_table, with_calls, uncalled, sealing, mapped, settled}
use Rattle.pmg_node_model.specs.Kept.{IsOwn, IsServer, is_about, settle_where}
use Rattle.pmg_node_parts.specs.Owns.{LocalCommits, sealed_of, with_sealed}
use Rattle.pmg_node_model.specs.Sending.{is_quiet}
use Rattle.pmg_node_parts.specs.Sealers.{AllSealed, sealed_by}
use Rattle.pmg_node.specs.Servers.{Server, IsAccepted, Refuses, reply_to, sent_by, after}
use Rattle.pmg_node_parts.specs.Telling.{announcing_by, settling_by}
use Rattle.pmg_node_parts.specs.declared.call.Completion.{Completion}
use Rattle.pmg_node_model.specs.declared.due.ToSend.{ToSend}
use Rattle.pmg_node.proofs.ActLemmas.{refused_reply, accepted_reply, accepted_after, accepted_sent}
use Rattle.pmg_node_parts.proofs.CallLemmas.{get-mapped}
use Rattle.pmg_node_model.proofs.CauseFacts.{neither, by_causes}
use Rattle.pmg_node.proofs.HeaderNews.{news_alike}
use Rattle.pmg_node_model.proofs.KeptAgain.{settled_on, end_differs}
use Rattle.pmg_node_model.proofs.KeptBasics.{caller_is, host_is}
use Rattle.pmg_node.proofs.RefusalLemmas.{refuses_first}
use Rattle.pmg_node_parts.proofs.SealerLemmas.{sealed-insert}
use Rattle.pmg_node.proofs.SilentLemmas.{act_free}

-- ---- what one process sealed, and back

module _ (own : LocalCommits) (p : Proc) (client : is_host p ≡ false) where
  -- no sets
  pub client_sealed : sealed_of own p ≡ sealed_by own.sealers p
  unfolding sealer_in
  client_sealed = ap (λ (b : Bool). cond b own.sets (sealed_by own.sealers p)) client

  -- what was put is what it sealed
  pub sealed_put : (z : Sealed) → sealed_of (with_sealed own p z) p ≡ z
  unfolding sealer_in
  sealed_put z = ap (λ (b : Bool). cond b own.sets (sealed_by (finite.insert own.sealers p z) p)) client ∙ sealed-insert own.sealers p z

-- so many commits it made then
pub own_ended_level : (own : LocalCommits) (p : Proc) → is_host p ≡ false → (sealed_of (own_ended own p) p).level ≡ (ended_with (sealed_of own p)).level
own_ended_level own p client = ap (λ (z : Sealed). z.level) (sealed_put own p client (ended_with (sealed_of own p)))

-- a process that has not ended
pub end_live : (z : Sealed) → z.ended ≡ false → end_of z ≡ ended_with z
end_live z live = ap (λ (b : Bool). cond b z (ended_with z)) live

-- what was put is there
pub put_there : (all : AllSealed) (p : Proc) (z : Sealed) → is_some (finite.get (finite.insert all p z) p) ≡ true
put_there all p z = ap is_some (finite.get-insert procs_total all p z p ∙ ap (λ (b : Bool). cond b (Some z) (finite.get all p)) ((eq_by_cmp_equiv procs_total).refl p))

-- what the process sealed put there again changes nothing
pub put_same : (all : AllSealed) (p : Proc) → is_some (finite.get all p) ≡ true → finite.insert all p (sealed_by all p) ≡ all
put_same all p there = finite.same_map procs_total exact_procs (finite.insert all p (sealed_by all p)) all (λ q.
    finite.get-insert procs_total all p (sealed_by all p) q ∙ by_test q (same_proc q p) refl (finite.get all p) refl there)
  where
    by_test : (q : Proc) (b : Bool) → same_proc q p ≡ b → (o : Option Sealed) → finite.get all p ≡ o → is_some o ≡ true → cond b (Some (unwrap_or o (fresh p))) (finite.get all q) ≡ finite.get all q
    by_test q true is (Some z) found some = sym found ∙ ap (finite.get all) (sym (exact_procs q p ((Equal-is _).0 is)))
    by_test q true is None found some = absurd cc
    by_test q false is o found some = refl

-- where what was there before is put back, all is as before
pub put_back : (all : AllSealed) (p : Proc) (x : Sealed) → is_some (finite.get all p) ≡ true → finite.insert (finite.insert all p x) p (sealed_by all p) ≡ all
put_back all p x there = finite.same_map procs_total exact_procs (finite.insert (finite.insert all p x) p (sealed_by all p)) all (λ q.
    finite.get-insert procs_total (finite.insert all p x) p (sealed_by all p) q
    ∙ ap (λ (o : Option Sealed). cond (same_proc q p) (Some (sealed_by all p)) o) (finite.get-insert procs_total all p x q)
    ∙ by_test q (same_proc q p) refl (finite.get all p) refl there)
  where
    by_test : (q : Proc) (b : Bool) → same_proc q p ≡ b → (o : Option Sealed) → finite.get all p ≡ o → is_some o ≡ true
        → cond b (Some (unwrap_or o (fresh p))) (cond b (Some x) (finite.get all q)) ≡ finite.get all q
    by_test q true is (Some z) found some = sym found ∙ ap (finite.get all) (sym (exact_procs q p ((Equal-is _).0 is)))
    by_test q true is None found some = absurd cc
    by_test q false is o found some = refl

module _ (own : LocalCommits) (p : Proc) (client : is_host p ≡ false) (there : is_some (finite.get own.sealers p) ≡ true) where
  -- an end that was none is taken back
  pub own_same : own ≡ own_back own p None
  own_same = λ i. record { sealers = (sym (put_same own.sealers p there) ∙ ap (finite.insert own.sealers p) (sym (client_sealed own p client))) i; sets = own.sets }

  -- a process that has not ended ends
  pub own_ends : (sealers : AllSealed) → sealers ≡ finite.insert own.sealers p (end_of (sealed_by own.sealers p)) → (sealed_of own p).ended ≡ false
      → record { sealers = sealers; sets = own.sets } ≡ own_ended own p
  own_ends sealers is live =
      let z : end_of (sealed_by own.sealers p) ≡ ended_with (sealed_of own p) = ap end_of (sym (client_sealed own p client)) ∙ end_live (sealed_of own p) live in
      λ i. record { sealers = (is ∙ ap (finite.insert own.sealers p) z) i; sets = own.sets }

  -- its end is taken back
  pub own_returns : (sealers : AllSealed) (x : Sealed) (before : Option SealerUndo) → sealers ≡ finite.insert own.sealers p x → end_back (sealed_by sealers p) before ≡ sealed_by own.sealers p
      → own_back (record { sealers = sealers; sets = own.sets }) p before ≡ own
  own_returns sealers x before is back =
      let new : LocalCommits = record { sealers = sealers; sets = own.sets } in
      let z : end_back (sealed_of new p) before ≡ sealed_by own.sealers p = ap (λ (y : Sealed). end_back y before) (client_sealed new p client) ∙ back in
      λ i. record { sealers = ((λ j. finite.insert (is j) p (z j)) ∙ put_back own.sealers p x there) i; sets = own.sets }

-- ---- headers

-- own headers that come to exist are announced as they are told
pub announced : (jobs : Jobs) (id : ℕ) (old new : Fences) (fs : List FenceName)
    → flat_map (announcing_by jobs id) (flat_map (news jobs id old new) fs) ≡ flat_map (announcing jobs id) (flat_map (news jobs id old new) fs)
announced jobs id old new [] = refl
announced jobs id old new (f ∷ fs) =
    flat_map-append (announcing_by jobs id) (news jobs id old new f) (flat_map (news jobs id old new) fs)
    ∙ (λ i. news_alike jobs id old new f i ++ announced jobs id old new fs i)
    ∙ sym (flat_map-append (announcing jobs id) (news jobs id old new f) (flat_map (news jobs id old new) fs))

-- ---- calls

-- who is in no call any more is in none once others are answered
pub mapped_remove : (f : CallState → CallState) (m : Calls) (p : Proc) → mapped f (finite.remove m p) ≡ finite.remove (mapped f m) p
mapped_remove f m p = finite.same_map procs_total exact_procs (mapped f (finite.remove m p)) (finite.remove (mapped f m) p) (λ q.
    get-mapped f (finite.remove m p) q
    ∙ ap (option_map f) (finite.get-remove procs_total m p q)
    ∙ by_test (same_proc q p) (finite.get m q)
    ∙ ap (λ (o : Option CallState). cond (same_proc q p) None o) (sym (get-mapped f m q))
    ∙ sym (finite.get-remove procs_total (mapped f m) p q))
  where
    by_test : (b : Bool) (o : Option CallState) → option_map f (cond b None o) ≡ cond b None (option_map f o)
    by_test true o = refl
    by_test false o = refl

-- ---- the act

-- what own processes of a node sealed
abbrev pub own_in : NodeState → LocalCommits
own_in h = record { sealers = h.sealers; sets = h.sets }

-- the node, once the process has ended, with these calls and marks
abbrev pub with_end : Proc → Sealed → Calls → Levels → Server → Server
with_end p z calls marks s = record {
  jobs = s.jobs;
  id = s.id;
  holding = record {
    near = absorbed s.holding.near (piece_at z (sealer_of s.holding p).level reach.Near);
    far = absorbed s.holding.far (piece_at z (sealer_of s.holding p).level reach.Far);
    sealers = finite.insert s.holding.sealers p z;
    sets = s.holding.sets;
    table = ended_by s.holding.table p z.level;
    calls = finite.remove calls p;
    held = without_below s.holding.held p z.level;
    requests = s.holding.requests;
  };
  marks = marks;
}

-- ---- who may end

no_reserved : (p : Proc) → is_reserved p.nspace ≡ false → is_host p ≡ false
no_reserved p named = by_test (is_host p) refl
  where
    by_test : (b : Bool) → is_host p ≡ b → b ≡ false
    by_test false e = refl
    by_test true e = sym (ap (λ (q : Proc). is_reserved q.nspace) (host_is p e)) ∙ named

-- a caller of whom nothing is amiss is an own process that has not ended
pub record MayEnd (jobs : Jobs) (id : ℕ) (h : NodeState) (p : Proc) : Type 0 where
  pub own : IsOwn jobs id p
  pub client : is_host p ≡ false
  pub live : (sealer_of h p).ended ≡ false

pub may_end : (jobs : Jobs) (id : ℕ) (h : NodeState) (p : Proc) → first_of (caller_cause jobs id h p) (tt {0}) ≡ Ok tt → MayEnd jobs id h p
may_end jobs id h p free =
    elim (by_causes (caller_cause jobs id h p) (tt {0})) as (λ _. MayEnd jobs id h p) [
      | inl found ↦ absurd (let no : Err found.0 ≡ Ok (tt {0}) = sym found.2 ∙ free in cc)
      | inr none ↦ record {
        own = caller_is jobs id h p none.1.1.0 none.1.1.1.0 none.1.1.1.1.0;
        client = no_reserved p (neither (is_reserved p.nspace) (is_misnamed jobs p) none.1.1.0).0;
        live = none.1.1.1.1.1.0;
      }
    ]

pub end_refused : (jobs : Jobs) (id : ℕ) (h : NodeState) (p : Proc) (e : Refusal) → first_of (caller_cause jobs id h p) (tt {0}) ≡ Err e → first_of (cause jobs id h (Act.request (Request.terminate p))) (tt {0}) ≡ Err e
unfolding cause request_cause
end_refused jobs id h p e is = is

-- a refusal is told as it is due
pub end_refuses : (s : Server) (p : Proc) (e : Refusal) → first_of (caller_cause s.jobs s.id s.holding p) (tt {0}) ≡ Err e → Refuses e (reply_to s (Act.request (Request.terminate p)))
end_refuses s p e is =
    subst (λ (r : Reply). Refuses e r) (sym (refused_reply s (Act.request (Request.terminate p)) e (end_refused s.jobs s.id s.holding p e is)))
    (refuses_first (caller_cause s.jobs s.id s.holding p) e is)

-- where there is none, none is due
pub end_accepted : (s : Server) (p : Proc) → first_of (caller_cause s.jobs s.id s.holding p) (tt {0}) ≡ Ok tt → IsAccepted (reply_to s (Act.request (Request.terminate p)))
unfolding cause request_cause does serves
end_accepted s p free = subst IsAccepted (sym (ap (λ (d : Done). d.reply) (act_free s.jobs s.id s.holding (Act.request (Request.terminate p)) free))) tt

-- the end is one more commit
pub level_rises : (m n k : ℕ) → m ≡ n → k ≡ suc n → m < k
level_rises m n k same more = grind (arith)

module _ (s : Server) (p : Proc) (free : first_of (caller_cause s.jobs s.id s.holding p) (tt {0}) ≡ Ok tt) (client : is_host p ≡ false) (kept : IsServer s.jobs s.id s.holding) where
  abbrev a : Act
  a = Act.request (Request.terminate p)

  abbrev z : Sealed
  z = ended_with (sealer_of s.holding p)

  abbrev own : LocalCommits
  own = own_ended (own_in s.holding) p

  abbrev grown : NodeState
  grown = uncalled (with_table (sealing s.holding p z) (ended_by s.holding.table p z.level)) p

  -- what is due to nodes of fences of which the own header comes to exist
  abbrev pub end_news : List ToSend
  end_news = flat_map (announcing s.jobs s.id) (flat_map (news s.jobs s.id s.holding.table (ended_by s.holding.table p z.level)) (names_of s.holding.table))

  is_free : first_of (cause s.jobs s.id s.holding a) (tt {0}) ≡ Ok tt
  unfolding cause request_cause
  is_free = free

  module _
      (answers : List (Proc × Completion))
      (are : AreAnswers s.jobs s.id (is_about p) (ended_by s.holding.table p z.level) (absorbed s.holding.near (piece_at z (sealer_of s.holding p).level reach.Near))
      (absorbed s.holding.far (piece_at z (sealer_of s.holding p).level reach.Far)) s.holding.calls answers) where
    abbrev left : NodeState
    left = (with_end p z (all_instead s.holding.calls answers) s.marks s).holding

    leaves : settled s.jobs s.id (does s.jobs s.id s.holding a).left ≡ left
    unfolding does serves
    leaves =
        settled_on s.jobs s.id p s.holding grown kept.settled (end_differs s.jobs s.id s.holding p z (kept.holds.sealers p))
        ∙ ap (with_calls grown)
        (mapped_remove (settle_where s.jobs s.id grown (is_about p)) s.holding.calls p
        ∙ ap (λ (m : Calls). finite.remove m p) (sym (are grown refl refl refl)))
        ∙ (λ i. record {
          near = left.near;
          far = left.far;
          sealers = cond (client i) s.holding.sealers left.sealers;
          sets = cond (client i) z s.holding.sets;
          table = left.table;
          calls = left.calls;
          held = left.held;
          requests = left.requests;
        })

    owes : due_by s.jobs s.id s.holding a left ≡ settling_by (sealed_of own) s.holding.held p ++ end_news
    unfolding due_by due_by_request
    owes = refl

    loud : is_quiet (does s.jobs s.id s.holding a).reply ≡ false
    unfolding does serves
    loud = refl

    pub end_done : reply_to s a ≡ Reply.ended z.level
    unfolding does serves
    end_done = accepted_reply s a is_free loud left leaves (settling_by (sealed_of own) s.holding.held p ++ end_news) owes

    pub end_after : after s a ≡ with_end p z (all_instead s.holding.calls answers) (sends (sealed_of own) s.marks (settling_by (sealed_of own) s.holding.held p ++ end_news)).marks s
    unfolding marked_by_act
    end_after = accepted_after s a is_free loud left leaves (settling_by (sealed_of own) s.holding.held p ++ end_news) owes

    pub end_sent : sent_by s a ≡ (sends (sealed_of own) s.marks (settling_by (sealed_of own) s.holding.held p ++ end_news)).frames
    unfolding marked_by_act
    end_sent = accepted_sent s a is_free loud left leaves (settling_by (sealed_of own) s.holding.held p ++ end_news) owes

-- the same by the parts of the node
module _
    (s : Server)
    (p : Proc)
    (free : first_of (caller_cause s.jobs s.id s.holding p) (tt {0}) ≡ Ok tt)
    (kept : IsServer s.jobs s.id s.holding)
    (jobs : Jobs)
    (own : LocalCommits)
    (table : Fences)
    (from : ℕ)
    (answers : List (Proc × Completion))
    (dues : List ToSend)
    (same_jobs : jobs ≡ s.jobs)
    (same_own : own ≡ own_ended (own_in s.holding) p)
    (same_table : table ≡ ended_by s.holding.table p (ended_with (sealer_of s.holding p)).level)
    (same_from : from ≡ (sealer_of s.holding p).level)
    (are : AreAnswers jobs s.id (is_about p) table (absorbed s.holding.near (piece_at (sealed_of own p) from reach.Near)) (absorbed s.holding.far (piece_at (sealed_of own p) from reach.Far))
    s.holding.calls answers)
    (same_dues : dues
    ≡ flat_map (announcing s.jobs s.id)
    (flat_map (news s.jobs s.id s.holding.table (ended_by s.holding.table p (ended_with (sealer_of s.holding p)).level)) (names_of s.holding.table))) where
  client : is_host p ≡ false
  client = (may_end s.jobs s.id s.holding p free).client

  pub sealed_is : sealed_of own p ≡ ended_with (sealer_of s.holding p)
  sealed_is = ap (λ (o : LocalCommits). sealed_of o p) same_own ∙ sealed_put (own_in s.holding) p client (ended_with (sealer_of s.holding p))

  pub piece_is : (r : Reach) → piece_at (sealed_of own p) from r ≡ piece_at (ended_with (sealer_of s.holding p)) (sealer_of s.holding p).level r
  piece_is r = λ i. piece_at (sealed_is i) (same_from i) r

  are_answers : AreAnswers s.jobs s.id (is_about p) (ended_by s.holding.table p (ended_with (sealer_of s.holding p)).level)
      (absorbed s.holding.near (piece_at (ended_with (sealer_of s.holding p)) (sealer_of s.holding p).level reach.Near))
      (absorbed s.holding.far (piece_at (ended_with (sealer_of s.holding p)) (sealer_of s.holding p).level reach.Far)) s.holding.calls answers
  are_answers h same near far =
      are h (same ∙ sym same_table) (near ∙ ap (absorbed s.holding.near) (sym (piece_is reach.Near))) (far ∙ ap (absorbed s.holding.far) (sym (piece_is reach.Far)))
      ∙ ap (λ (j : Jobs). mapped (settle_where j s.id h (is_about p)) s.holding.calls) same_jobs

  -- what goes out
  abbrev pub end_out : Out
  end_out = sends (sealed_of own) s.marks (settling_by (sealed_of own) s.holding.held p ++ dues)

  out_is : end_out ≡ sends (sealed_of (own_ended (own_in s.holding) p)) s.marks (settling_by (sealed_of (own_ended (own_in s.holding) p)) s.holding.held p ++ end_news s p free client kept)
  out_is = λ i. sends (sealed_of (same_own i)) s.marks (settling_by (sealed_of (same_own i)) s.holding.held p ++ same_dues i)

  pub ended_reply : reply_to s (Act.request (Request.terminate p)) ≡ Reply.ended (sealed_of own p).level
  ended_reply = end_done s p free client kept answers are_answers ∙ ap (λ (x : Sealed). Reply.ended x.level) (sym sealed_is)

  pub ended_sent : end_out.frames ≡ sent_by s (Act.request (Request.terminate p))
  ended_sent = ap (λ (o : Out). o.frames) out_is ∙ sym (end_sent s p free client kept answers are_answers)

  pub ended_after : (near far : Data) (calls : Calls) (held marks : Levels) (level requests : ℕ)
      → near ≡ absorbed s.holding.near (piece_at (sealed_of own p) from reach.Near)
      → far ≡ absorbed s.holding.far (piece_at (sealed_of own p) from reach.Far)
      → calls ≡ finite.remove (all_instead s.holding.calls answers) p
      → level ≡ (sealed_of own p).level
      → held ≡ without_below s.holding.held p level
      → requests ≡ s.holding.requests
      → marks ≡ end_out.marks
      → record {
        jobs = jobs;
        id = s.id;
        holding = record { near = near; far = far; sealers = own.sealers; sets = own.sets; table = table; calls = calls; held = held; requests = requests };
        marks = marks;
      } ≡ after s (Act.request (Request.terminate p))
  ended_after near far calls held marks level requests nears fars answered is_level settles counted out =
      (λ i. record {
        jobs = same_jobs i;
        id = s.id;
        holding = record {
          near = (nears ∙ ap (absorbed s.holding.near) (piece_is reach.Near)) i;
          far = (fars ∙ ap (absorbed s.holding.far) (piece_is reach.Far)) i;
          sealers = (same_own i).sealers;
          sets = (same_own i).sets;
          table = same_table i;
          calls = answered i;
          held = (settles ∙ ap (without_below s.holding.held p) (is_level ∙ ap (λ (x : Sealed). x.level) sealed_is)) i;
          requests = counted i;
        };
        marks = (out ∙ ap (λ (o : Out). o.marks) out_is) i;
      })
      ∙ sym (end_after s p free client kept answers are_answers)
