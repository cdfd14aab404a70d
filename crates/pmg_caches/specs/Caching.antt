-- The caches of clients.
use Rattle.std.specs.Prelude.{ℕ, Bool, List}
use Rattle.std.specs.Coded.{Coded}
use Rattle.std.specs.FinMap as finite
use Rattle.std.specs.Option.{unwrap_or}
use Rattle.pmg_value.specs.Process.{proc_cmp, coded_proc}
use Rattle.pmg_value.specs.declared.process.Proc.{Proc}
use Rattle.pmg_value.specs.declared.refusal.Refusal.{Refusal}
use Rattle.pmg_scope.specs.Cached.{Cached, coded_cached, no_puts, put_cause}
use Rattle.pmg_scope.specs.declared.scope.Scope.{Scope}
use Rattle.pmg_node.specs.Servers.{Server}
use Rattle.pmg_node_model.specs.Acts.{also, free_cause}

-- the puts of each client, by its process
abbrev pub AllCached : Type 0
AllCached = finite.FinMap proc_cmp Cached

-- the code of caches by process
abbrev pub coded_all_cached : Coded AllCached
coded_all_cached = finite.code coded_proc coded_cached

-- the puts of the process's client
abbrev pub cached_for : AllCached → Proc → Cached
cached_for all p = unwrap_or (finite.get all p) no_puts

-- the causes to refuse a put of a process: at the node where it calls, or in its client's cache
abbrev pub put_cause_at : Server → Cached → Proc → Scope → List ℕ → List ℕ → Refusal → Bool
put_cause_at s c p scope key value = also (free_cause s.jobs s.id s.holding p) (put_cause c scope key value)
