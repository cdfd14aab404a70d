use Rattle.std.proofs.Common.{Some, sym, ap, ◌∙◌}
use Rattle.std.specs.Option.{unwrap_or}
use Rattle.pmg_value.specs.Process.{proc_cmp}
use Rattle.pmg_value.specs.Rows.{changed_at, map_of}
use Rattle.pmg_value.proofs.ProcessOrder.{procs_total, exact_procs}
use Rattle.pmg_value.proofs.RowLemmas.{at_key, changed_there, changed_nowhere, found_is, some_found}
use Rattle.pmg_dmodex.proofs.InnerLemmas.{kept_is}
use Rattle.pmg_scope.specs.Cached.{Cached, after_commit, no_puts}
use Rattle.pmg_caches.specs.Caching.{cached_for}
use Rattle.pmg_caches.proofs.caches.Caches.mark_sealed.Goals as goal
use Rattle.pmg_caches.proofs.caches.Caches.mark_sealed.Goals.{in-Some, in_default}
use Rattle.pmg_caches.specs.contracts.caches.Caches.{the_view}

pub returns : goal.returns
returns c =
    let old = c.self.inside.rows.entries in
    let all = c.args.self.now in
    let p = c.args.proc.now in
    elim c.match-get_mut.branch [
      | in-Some w ↦
          let there = found_is c.get_mut.result w.in-Some.cache (at_key proc_cmp p old) w.in-Some.is c.get_mut.ensures.value in
          let new = c.get_mut.follows.lender w.mark_sealed.new.self in
          let was = ap (λ o. unwrap_or o no_puts) (kept_is old all p c.self.view_is (Some w.in-Some.cache.now) there) in
          ap the_view w.self-inside-is
          ∙ changed_there procs_total exact_procs (λ (z : Cached). z) old new.entries all p w.mark_sealed.new.self w.in-Some.cache.now c.self.view_is there ((c.get_mut.follows.holds w.mark_sealed.new.self).3 (some_found there)).0
          ∙ ap (changed_at all p) (w.mark_sealed.ensures.after_commit ∙ ap after_commit (sym was))
      | in_default w ↦
          ap the_view w.self-inside-is
          ∙ ap (λ a. map_of a.entries) c.get_mut.follows.holds-at-none
          ∙ changed_nowhere procs_total exact_procs (λ (z : Cached). z) old all p (after_commit (cached_for all p)) c.self.view_is w.in_default.ensures.value
    ]
