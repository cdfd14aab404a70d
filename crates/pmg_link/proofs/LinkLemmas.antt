-- Acts that are refused join nothing; and what a commit is due for which memory lacks.
use Rattle.std.specs.Prelude.{if◌then◌else◌}
use Rattle.std.proofs.Common.{◌≡◌, Bool, true, false, cond, Ok, Err, inl, inr, refl, sym, ap, subst}
use Rattle.pmg_value.specs.CheckOrder.{first_of}
use Rattle.pmg_value.specs.declared.refusal.Refusal.{Refusal}
use Rattle.pmg_value.specs.declared.refusal.Refusal.TheVariants as refusals
use Rattle.pmg_scope.specs.Cached.{Unsealed}
use Rattle.pmg_commit.specs.Sealed.{can_seal}
use Rattle.pmg_value.specs.declared.process.Proc.{Proc}
use Rattle.pmg_node_model.specs.Acts.{Act, Reply, cause, free_cause, acts}
use Rattle.pmg_node_model.specs.Holdings.{sealer_of}
use Rattle.pmg_node_model.specs.Sending.{is_quiet}
use Rattle.pmg_node.specs.Joining.{act_joins, joins, no_joins}
use Rattle.pmg_node.specs.Servers.{IsAnswered, Refuses, RefusesAct, Server, reply_to}
use Rattle.pmg_node.proofs.ActLemmas.{refused_reply}
use Rattle.pmg_node.proofs.CommitLemmas.{commit_accepted, commit_barred, commit_free, commit_over}
use Rattle.pmg_node.proofs.RefusalLemmas.{fails_as, refuses_first}
use Rattle.pmg_link.specs.Links.{RefusesCommit}

-- an act whose reply is a refusal joins nothing
pub refused_joins : (s : Server) (a : Act) (e : Refusal) → reply_to s a ≡ Reply.refused e → no_joins ≡ joins s.jobs s.id s.holding a
unfolding joins
refused_joins s a e is = sym (ap (λ (r : Reply). if is_quiet r then no_joins else act_joins s.holding a (acts s.jobs s.id s.holding a).left) is)

-- an act that is refused, and not for memory, joins nothing
pub answered_refusal : (X : Type 0) (s : Server) (a : Act) (e : Refusal) → RefusesAct s a e → IsAnswered {X = X} (Err e) → no_joins ≡ joins s.jobs s.id s.holding a
answered_refusal X s a refusals.NoMemory due told = absurd told
answered_refusal X s a e due told = refused_joins s a e due

-- ---- commits

-- who may not commit is refused so
pub commit_barred_so : (s : Server) (p : Proc) (b : Unsealed) (e : Refusal) → first_of (free_cause s.jobs s.id s.holding p) (tt {0}) ≡ Err e
    → first_of (cause s.jobs s.id s.holding (Act.commit p b)) (tt {0}) ≡ Err e
commit_barred_so s p b e is = elim (fails_as e (first_of (cause s.jobs s.id s.holding (Act.commit p b)) (tt {0})) (commit_barred s.jobs s.id s.holding p b e is)) [
  | inl short ↦ absurd (subst (λ (x : Refusal). Refuses x (Reply.refused x)) short.0 (refuses_first (free_cause s.jobs s.id s.holding p) e is))
  | inr due ↦ due
]

-- such a refusal is the one that is due
pub commit_refused : (s : Server) (p : Proc) (b : Unsealed) (e : Refusal) → first_of (free_cause s.jobs s.id s.holding p) (tt {0}) ≡ Err e → RefusesCommit e (reply_to s (Act.commit p b))
commit_refused s p b e is = refused_so e (refuses_first (free_cause s.jobs s.id s.holding p) e is) (refused_reply s (Act.commit p b) e (commit_barred_so s p b e is))
  where
    refused_so : (x : Refusal) → Refuses x (Reply.refused x) → reply_to s (Act.commit p b) ≡ Reply.refused x → RefusesCommit x (reply_to s (Act.commit p b))
    refused_so refusals.NoMemory never is = absurd never
    refused_so x told is = is

-- a commit of one who may is accepted, or passes a limit
pub commit_goes_on : (s : Server) (p : Proc) (b : Unsealed) → first_of (free_cause s.jobs s.id s.holding p) (tt {0}) ≡ Ok tt → RefusesCommit refusals.NoMemory (reply_to s (Act.commit p b))
commit_goes_on s p b free = by_test (can_seal (sealer_of s.holding p) b) refl
  where
    by_test : (c : Bool) → can_seal (sealer_of s.holding p) b ≡ c → RefusesCommit refusals.NoMemory (reply_to s (Act.commit p b))
    by_test true can =
        inl (commit_accepted s p b (commit_free s.jobs s.id s.holding p b free (sealer_of s.holding p) (ap (λ c. cond c (Ok (sealer_of s.holding p)) (Err refusals.TooMany)) can)))
    by_test false cannot =
        inr (refused_reply s (Act.commit p b) refusals.TooMany
        (commit_over s.jobs s.id s.holding p b refusals.TooMany free (ap (λ c. cond c (Ok (sealer_of s.holding p)) (Err refusals.TooMany)) cannot)))

-- what an act is answered is what the commit is
pub act_commits : (s : Server) (p : Proc) (b : Unsealed) (e : Refusal) → RefusesAct s (Act.commit p b) e → RefusesCommit e (reply_to s (Act.commit p b))
act_commits s p b refusals.NoMemory (inl free) = inl free
act_commits s p b refusals.NoMemory (inr spent) = absurd spent.1
act_commits s p b e is = is
