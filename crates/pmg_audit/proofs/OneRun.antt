-- Journals that are replayed and told in an order are one run.
use Rattle.std.proofs.Common.{◌≡◌, ℕ, zero, suc, ◌<◌, List, [], ◌∷◌, ◌++◌, length, map, get_or, Option, Some, None, refl, sym, ap, subst, ◌∙◌, arith}
use Rattle.std.proofs.lemmas.Option.{slice_get_within}
use Rattle.std.specs.FinMap as finite
use Rattle.std.specs.List.{slice_get}
use Rattle.std.specs.Option.{unwrap_or}
use Rattle.pmg_value.specs.Process.{proc_cmp}
use Rattle.pmg_value.specs.declared.process.Proc.{Proc}
use Rattle.pmg_scope.specs.Cached.{Cached, no_puts}
use Rattle.pmg_jobinfo.specs.Jobs.{Jobs, AreJobs, home_of}
use Rattle.pmg_node_model.specs.declared.sent.Sent.{Sent}
use Rattle.pmg_node_model.proofs.KeptActs.{new_is_server}
use Rattle.pmg_node.specs.Opening.{new_server}
use Rattle.pmg_node.specs.Servers.{Server}
use Rattle.pmg_group_model.specs.Worlds.{Happened, cache_of, start}
use Rattle.pmg_group_model.specs.Worlds.{Run}
use Rattle.pmg_world.specs.Accounts.{Account, IsAccountLawful, IsRun, LeadsTo}
use Rattle.pmg_caches.specs.Caching.{cached_for}
use Rattle.pmg_world.specs.Keeping.{AreCaches, AreNew, IsNodeOf}
use Rattle.pmg_world.specs.Telling.{happened_of}
use Rattle.pmg_world.specs.declared.event.LoggedEvent.{LoggedEvent}
use Rattle.pmg_group_model.proofs.RunLemmas.{run_cut, run_is_lawful}
use Rattle.pmg_world.proofs.StartLemmas.{more_new, none_new}
use Rattle.pmg_journal.specs.declared.journal.Journal.{Journal}
use Rattle.pmg_audit.specs.Laws.{MovesAreOneRun}
use Rattle.pmg_audit.specs.Moves.{Move, PutsFit, Replays, server_after}
use Rattle.pmg_audit.specs.Orders.{AreTold, list_or_none, moves_at}
use Rattle.pmg_audit.specs.Runs.{AreEnds, AreMoves, ArePut}
use Rattle.pmg_audit.proofs.Weaving.{IsAt, Woven, weave}

-- ---- the start

new_servers : Jobs → ℕ → List Server
new_servers jobs zero = []
new_servers jobs (suc n) = new_servers jobs n ++ new_server jobs n ∷ []

are_new : (jobs : Jobs) (n : ℕ) → AreNew jobs n (new_servers jobs n)
unfolding new_servers
are_new jobs zero = none_new jobs
are_new jobs (suc n) = more_new jobs n (suc n) (new_servers jobs n) (new_server jobs n) (are_new jobs n) refl (omega arith)

nobody : (p : Proc) → cached_for finite.empty p ≡ no_puts
nobody p = ap (λ (o : Option Cached). unwrap_or o no_puts) (finite.get-empty proc_cmp p)

no_caches : AreCaches finite.empty (λ _. [])
unfolding cache_of
no_caches p = record { client = λ e. nobody p; none = λ e. nobody p; sealed = λ e. refl }

pub moves_inside : (all : List (List Move)) (n : ℕ) (m : Move) (rest : List Move) → moves_at all n ≡ m ∷ rest → n < length all
moves_inside all n m rest is = by (slice_get all n) refl
  where
    by : (o : Option (List Move)) → slice_get all n ≡ o → n < length all
    by None e = absurd (no_moves (ap list_or_none (sym e) ∙ is))
      where
        no_moves : [] ≡ m ∷ rest → ⊥
        no_moves e = absurd cc
    by (Some x) e = slice_get_within all n x e

-- what is put of each process, read at its home
puts_at : (jobs : Jobs) (all : List (List Move)) (p : Proc) → ArePut jobs all → PutsFit p no_puts (moves_at all (home_of jobs p))
unfolding ArePut
puts_at jobs all p put = put p

module _ (jobs : Jobs) (are : AreJobs jobs) (js : List Journal) (all : List (List Move)) (moves : AreMoves jobs js all) (put : ArePut jobs all) where
  abbrev count : ℕ
  count = length jobs.nodes

  abbrev servers : List Server
  servers = new_servers jobs count

  abbrev new : AreNew jobs count servers
  new = are_new jobs count

  stands : IsAt jobs (moves_at all) servers finite.empty (start jobs)
  stands = record {
    nodes = record {
      count = new.count_is;
      each = λ n d inside. let is = new.each n d (subst (λ l. n < l) new.count_is inside) in
          record { jobs_same = ap (λ (s : Server). s.jobs) is; id_same = ap (λ (s : Server). s.id) is; holds = ap (λ (s : Server). s.holding) is };
      servers = λ n inside. new_is_server jobs n;
    };
    caches = no_caches;
    inside = λ n m rest is. subst (λ l. n < l) (moves.count ∙ sym new.count_is) (moves_inside all n m rest is);
    replays = λ n d inside. let within = subst (λ l. n < l) new.count_is inside in
        subst (λ (s : Server). Replays s (moves_at all n)) (sym (new.each n d within)) (moves.replays n within);
    fits = λ p. subst (λ (c : Cached). PutsFit p c (moves_at all (home_of jobs p))) (sym (nobody p)) (puts_at jobs all p put);
  }

  woven : (frames : List Sent) (xs : List Happened) → AreTold all xs frames → Woven jobs frames (moves_at all) servers (start jobs) xs
  unfolding AreTold
  woven frames xs told = weave jobs are frames told.0 (moves_at all) servers finite.empty (start jobs) xs stands told.1

  module _ (nodes : List Server) (frames : List Sent) (told : List LoggedEvent) (order : AreTold all (map happened_of told) frames) (ends : AreEnds jobs all nodes) where
    abbrev account : Account
    account = record { jobs = jobs; nodes = nodes; sent = frames; told = told }

    abbrev web : Woven jobs frames (moves_at all) servers (start jobs) (map happened_of told)
    web = woven frames (map happened_of told) order

    ended : (n : ℕ) (d : Server) → n < length nodes → IsNodeOf jobs n (web.after.nodes n) (get_or nodes n d)
    ended n d inside =
        let within = subst (λ l. n < l) ends.count inside in
        let there = subst (λ l. n < l) (sym new.count_is) within in
        subst (IsNodeOf jobs n (web.after.nodes n)) (ap (λ (s : Server). server_after s (moves_at all n)) (new.each n d within) ∙ sym (ends.each n d inside)) (web.ends n d there)

    leads : LeadsTo account web.after
    leads = record { run = web.run; count = ends.count; nodes = ended; sent = sym web.sent }

    is_run : IsRun account
    unfolding IsRun
    is_run = (web.after, leads)

    is_kept : IsAccountLawful account
    unfolding IsAccountLawful
    is_kept xs ys cut =
        let parts = run_cut jobs xs ys (start jobs) web.after (subst (λ l. Run jobs (start jobs) l web.after) cut web.run) in
        run_is_lawful jobs are xs parts.mid parts.first

-- journals that are replayed and told in an order are one run
pub moves_are_one_run : MovesAreOneRun
moves_are_one_run jobs are js ts journals all moves put agreed nodes frames told order ends = record {
  run = is_run jobs are js all moves put nodes frames told order ends;
  lawful = is_kept jobs are js all moves put nodes frames told order ends;
  journals = journals;
  events = λ n inside. (woven jobs are js all moves put frames (map happened_of told) order).events n ∙ moves.events n inside;
  agreed = agreed;
}
