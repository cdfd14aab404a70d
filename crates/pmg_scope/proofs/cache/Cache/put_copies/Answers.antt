use Rattle.std.proofs.Common.{[], ◌∷◌, ◌++◌, sym, ap, subst, ◌∙◌}
use Rattle.pmg_value.specs.Spelling.{spelling}
use Rattle.pmg_scope.specs.Cached.{Cached, FitsCache, with_put}
use Rattle.pmg_scope.specs.Scripts.{Call}
use Rattle.pmg_scope.proofs.CacheLaws.{put_fits}
use Rattle.pmg_scope.proofs.cache.Cache.put_copies.Goals as goal

pub returns-clause-script : goal.returns-clause-script
returns-clause-script c = λ s fits.
    let bytes = spelling c.args.value.now in
    subst (λ (d : Cached). FitsCache d (s ++ Call.put c.args.scope c.args.key.now bytes ∷ []))
    (sym (c.in_ok-put.ensures.ok ∙ ap (λ (d : Cached). with_put d c.args.scope c.args.key.now bytes) c.self.view_is)) (put_fits c.args.self.now s c.args.scope c.args.key.now bytes fits)
