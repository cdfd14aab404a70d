use Rattle.std.proofs.Common.{sym, ap, ◌∙◌}
use Rattle.pmg_scope.specs.Cached.{table_size, is_cache}
use Rattle.pmg_scope.proofs.SizeLemmas.{size_of_nothing, nothing_is_cache}
use Rattle.pmg_scope.proofs.cache.Cache.new.Goals as goal

pub invariant_of-result : goal.invariant_of-result
invariant_of-result c = (
  (sym (ap (λ d. table_size d.own) c.new.ensures ∙ size_of_nothing), sym (ap (λ d. table_size d.near) c.new.ensures ∙ size_of_nothing), sym (ap (λ d. table_size d.far) c.new.ensures ∙ size_of_nothing)),
  ap is_cache c.new.ensures ∙ nothing_is_cache,
)
