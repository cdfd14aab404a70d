use Rattle.std.proofs.Common.{Option, sym, ap, ◌∙◌}
use Rattle.std.specs.FinMap as finite
use Rattle.std.specs.Option.{unwrap_or, option_map}
use Rattle.std.specs.Ordering.{nat_cmp}
use Rattle.std.specs.Cmp.Lexicographic.{slice_cmp}
use Rattle.pmg_scope.specs.Cached.{Cached, no_puts}
use Rattle.pmg_caches.proofs.caches.Caches.own.Goals as goal

pub returns-in-None : goal.returns-in-None
returns-in-None c =
    let nothing = sym c.get.ensures ∙ ap (option_map (λ x. x.now)) c.in-None.is in
    sym (finite.get-empty (slice_cmp nat_cmp) c.args.key.now) ∙ ap (λ (o : Option Cached). finite.get (unwrap_or o no_puts).own c.args.key.now) (sym nothing)
