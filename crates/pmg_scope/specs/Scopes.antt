-- The reaches of scopes.
use Rattle.std.specs.Prelude.{Bool, true, false}
use Rattle.pmg_scope.specs.declared.scope.Scope.{Scope}
use Rattle.pmg_scope.specs.declared.scope.Scope.TheVariants as scopes
use Rattle.pmg_scope.specs.declared.scope.Reach.{Reach}
use Rattle.pmg_scope.specs.declared.scope.Reach.TheVariants as reach

-- A put of that scope is seen at that reach (PMIx Standard 5.0, pmix_scope_t).
abbrev pub reaches : Scope → Reach → Bool
reaches scopes.Undef r = false
reaches scopes.Internal reach.Own = true
reaches scopes.Internal reach.Near = false
reaches scopes.Internal reach.Far = false
reaches scopes.Local reach.Own = true
reaches scopes.Local reach.Near = true
reaches scopes.Local reach.Far = false
reaches scopes.Remote reach.Own = true
reaches scopes.Remote reach.Near = false
reaches scopes.Remote reach.Far = true
reaches scopes.Global r = true
