-- The meaning of a call's arguments, which are bytes and numbers.
use Rattle.std.specs.Prelude.{◌≡◌, ℕ, ◌==◌, Bool, List, Result, Ok, Err, if◌then◌else◌}
use Rattle.pmg_value.specs.Names.{is_key, is_nspace}
use Rattle.pmg_value.specs.Spelling.{spelling}
use Rattle.pmg_value.specs.declared.process.Proc.{Proc}
use Rattle.pmg_value.specs.declared.refusal.Fault.{Fault}
use Rattle.pmg_value.specs.declared.refusal.Refusal.{Refusal}
use Rattle.pmg_value.specs.declared.refusal.Refusal.TheVariants as refusals
use Rattle.pmg_value.specs.declared.value.Value.{Value}
use Rattle.pmg_wire.specs.Fields.{whole_value}
use Rattle.pmg_scope.specs.declared.scope.Scope.{Scope}
use Rattle.pmg_scope.specs.declared.scope.Scope.TheVariants as scopes
use Rattle.pmg_get.specs.declared.view.Mode.{Mode}
use Rattle.pmg_get.specs.declared.view.Mode.TheVariants as modes
use Rattle.pmg_node_model.specs.Acts.{Request}
use Rattle.pmg_node_parts.specs.Calls.{get_of}
use Rattle.pmg_daemon.specs.Calls.{ProcCall}

-- Arguments are refused for nothing, or only for bytes that are no value: a value is judged last, as it is read.
abbrev pub AreJudged : {Y : Type 0} → Result Y Refusal → Type 0
AreJudged (Ok y) = Unit {0}
AreJudged (Err (refusals.BadFrame f)) = Unit {0}
AreJudged (Err e) = ⊥

-- Arguments fail with this refusal: the due one; or an allocation failed, which is reported only once they are judged.
abbrev pub FailsArguments : {Y : Type 0} → Refusal → Result Y Refusal → Type 0
FailsArguments refusals.NoMemory due = AreJudged due
FailsArguments e due = due ≡ Err e

-- The result of reading arguments, seen by view, is their meaning, unless an allocation failed.
abbrev pub ReadsArguments : {X Y : Type 0} → (X → Y) → Result X Refusal → Result Y Refusal → Type 0
ReadsArguments view (Ok x) due = due ≡ Ok (view x)
ReadsArguments view (Err e) due = FailsArguments e due

-- the next result, if there is a first one
abbrev pub and_then : {X Y : Type 0} → Result X Refusal → (X → Result Y Refusal) → Result Y Refusal
and_then (Ok x) f = f x
and_then (Err e) f = Err e

-- a process: its namespace, with any valid name, and its rank
abbrev pub proc_said : List ℕ → ℕ → Result Proc Refusal
proc_said nspace rank = if is_nspace nspace then Ok (record { nspace = nspace; rank = rank }) else Err refusals.BadParam

-- a key, by its bytes
abbrev pub key_said : List ℕ → Result (List ℕ) Refusal
key_said key = if is_key key then Ok key else Err refusals.BadParam

-- a value, by its canonical bytes; or, for other bytes, the first fault
abbrev pub value_or_fault : Result Value Fault → Result (List ℕ) Refusal
value_or_fault (Ok v) = Ok (spelling v)
value_or_fault (Err f) = Err (refusals.BadFrame f)

-- a value, by its canonical bytes
abbrev pub value_said : List ℕ → Result (List ℕ) Refusal
value_said bytes = value_or_fault (whole_value bytes)

-- a scope by its number (PMIx Standard 5.0, pmix_scope_t)
abbrev pub scope_said : ℕ → Result Scope Refusal
scope_said n =
    if n == 0 then Ok scopes.Undef
    else if n == 1 then Ok scopes.Local
    else if n == 2 then Ok scopes.Remote
    else if n == 3 then Ok scopes.Global
    else if n == 4 then Ok scopes.Internal
    else Err refusals.BadParam

-- the mode of a get: it waits (0), looks only at the data of its node (1), or asks anew (2)
abbrev pub mode_said : ℕ → Result Mode Refusal
mode_said n = if n == 0 then Ok modes.Wait else if n == 1 then Ok modes.Now else if n == 2 then Ok modes.Refresh else Err refusals.BadParam

-- ---- calls

-- a put: the process, the scope, the key and the value
unfoldable pub put_said : List ℕ → ℕ → ℕ → List ℕ → List ℕ → Result ProcCall Refusal
put_said nspace rank scope key value =
    and_then (proc_said nspace rank) (λ p. and_then (scope_said scope) (λ s. and_then (key_said key) (λ k. and_then (value_said value) (λ v. Ok (ProcCall.put p s k v)))))

-- a commit of the process
unfoldable pub commit_said : List ℕ → ℕ → Result ProcCall Refusal
commit_said nspace rank = and_then (proc_said nspace rank) (λ p. Ok (ProcCall.commit p))

-- the process enters a fence of these processes
unfoldable pub enter_said : List ℕ → ℕ → List Proc → Bool → Result ProcCall Refusal
enter_said nspace rank list collect = and_then (proc_said nspace rank) (λ p. Ok (ProcCall.request (Request.enter p list collect)))

-- the process leaves the fence that it is released from
unfoldable pub leave_said : List ℕ → ℕ → Result ProcCall Refusal
leave_said nspace rank = and_then (proc_said nspace rank) (λ p. Ok (ProcCall.request (Request.leave p)))

-- the process gets a key of the target
unfoldable pub get_said : List ℕ → ℕ → List ℕ → ℕ → List ℕ → ℕ → Result ProcCall Refusal
get_said nspace rank target target_rank key mode =
    and_then (proc_said nspace rank) (λ p. and_then (proc_said target target_rank) (λ t. and_then (key_said key) (λ k. and_then (mode_said mode) (λ m. Ok (ProcCall.request (Request.ask p (get_of t k) m))))))

-- the process takes the answer of its get
unfoldable pub take_said : List ℕ → ℕ → Result ProcCall Refusal
take_said nspace rank = and_then (proc_said nspace rank) (λ p. Ok (ProcCall.request (Request.take p)))

-- the process ends
unfoldable pub end_said : List ℕ → ℕ → Result ProcCall Refusal
end_said nspace rank = and_then (proc_said nspace rank) (λ p. Ok (ProcCall.request (Request.terminate p)))

-- the definition of a set of these processes
unfoldable pub define_said : List ℕ → List Proc → Result ProcCall Refusal
define_said name list = and_then (key_said name) (λ k. Ok (ProcCall.request (Request.define k list)))

-- the deletion of the set of that name
unfoldable pub delete_said : List ℕ → Result ProcCall Refusal
delete_said name = and_then (key_said name) (λ k. Ok (ProcCall.request (Request.delete k)))

-- the request to ask other nodes again
abbrev pub nudge_said : Result ProcCall Refusal
nudge_said = Ok (ProcCall.request Request.nudge)
