use Rattle.std.proofs.Common.{[], ◌∷◌, ◌++◌, sym, ap, subst, ◌∙◌}
use Rattle.pmg_scope.specs.Cached.{Cached, FitsCache, after_commit, table_size, is_cache}
use Rattle.pmg_scope.specs.Rows.{cached_of}
use Rattle.pmg_scope.specs.Scripts.{Call}
use Rattle.pmg_scope.proofs.CacheLaws.{commit_fits}
use Rattle.pmg_scope.proofs.SizeLemmas.{size_of_nothing, marked_is_cache}
use Rattle.pmg_scope.proofs.cache.Cache.mark_sealed.Goals as goal

pub invariant_of-self : goal.invariant_of-self
invariant_of-self c = (
  (c.self.invariant.0.0, sym (ap table_size c.clear.ensures ∙ size_of_nothing), sym (ap table_size c.clear-2.ensures ∙ size_of_nothing)),
  (λ i. is_cache (record { own = c.self.inside.tables.own; near = c.clear.ensures i; far = c.clear-2.ensures i }))
      ∙ marked_is_cache (cached_of c.self.inside.tables) c.self.invariant.1,
)

pub returns-clause-script : goal.returns-clause-script
returns-clause-script c = λ s fits.
    subst (λ (d : Cached). FitsCache d (s ++ Call.commit ∷ []))
    (sym ((λ i. record { own = c.self.inside.tables.own; near = c.clear.ensures i; far = c.clear-2.ensures i }) ∙ ap after_commit c.self.view_is)) (commit_fits c.args.self.now s fits)
