-- Headers and asks: the messages of servers about fences and commits.
use Rattle.std.specs.Prelude.{◌≡◌, ℕ, ◌≤◌, Bool, true, false, ◌&&◌, ◌||◌, ◌==◌, not, nat_lt, nat_le, List, length, Result, Ok, Err, IsTrue, refl, if◌then◌else◌}
use Rattle.std.proofs.Common.{ap}
use Rattle.std.specs.Coded.{Coded, code_by, coded×, coded_ℕ, coded_bool, coded_list}
use Rattle.std.specs.FinSet as set
use Rattle.std.specs.List.{list_all}
use Rattle.std.specs.List.Sorted.{IsStrictlySortedBy}
use Rattle.std.specs.Ordering.{is_lt}
use Rattle.pmg_value.specs.InOrder.{in_order}
use Rattle.pmg_value.specs.Lists.{is_chain}
use Rattle.pmg_value.specs.Process.{proc_cmp, coded_proc, is_client, is_host}
use Rattle.pmg_value.specs.Signatures.{Signature, FenceName}
use Rattle.pmg_value.specs.declared.process.Proc.{Proc}
use Rattle.pmg_value.specs.declared.refusal.Refusal.{Refusal}
use Rattle.pmg_value.specs.declared.refusal.Refusal.TheVariants as refusals
use Rattle.pmg_frame.specs.declared.local.Local.{Local}
use Rattle.pmg_frame.specs.declared.local.State.{State}
use Rattle.pmg_frame.specs.declared.local.State.TheVariants as states
use Rattle.pmg_frame.specs.declared.signature.TheConstants.{MAX_PARTICIPANTS}
use Rattle.pmg_commit.specs.declared.piece.TheConstants.{MAX_COMMIT}
use Rattle.pmg_frame.specs.declared.fence_name.TheConstants.{MAX_INSTANCE}

-- the participants of a fence, in their order
abbrev pub participants_of : FenceName → List Proc
participants_of name = in_order name.signature.participants

-- The list of a signature: 1 to 4096 processes that a group may register, each greater than the one before.
pub record AreParticipants (ps : List Proc) : Type 0 where
  pub rising : IsStrictlySortedBy proc_cmp ps
  pub clients : IsTrue (list_all is_client ps)
  pub some : 1 ≤ length ps
  pub few : length ps ≤ MAX_PARTICIPANTS

-- a signature as a pair
abbrev pub coded_signature : Coded Signature
coded_signature = code_by (set.FinSet proc_cmp × Bool) (coded× (set.code coded_proc) coded_bool) (λ s. (s.participants, s.collect)) (λ p. record { participants = p.0; collect = p.1 }) (λ _. refl)

-- a fence's name as a pair
abbrev pub coded_name : Coded FenceName
coded_name = code_by (Signature × ℕ) (coded× coded_signature coded_ℕ) (λ f. (f.signature, f.instance)) (λ p. record { signature = p.0; instance = p.1 }) (λ _. refl)

-- the signature of these processes, whatever their order and repeats in the list
abbrev pub signature : List Proc → Bool → Signature
signature ps collect = record { participants = set.from_list ps; collect = collect }

-- the fields of a fence's name, with its participants as a list
pub record NameFields : Type 0 where
  pub collect : Bool
  pub number : ℕ
  pub list : List Proc

-- the fields of these values: whether the fence collects data, its instance, and its participants
abbrev pub name_fields : Bool → ℕ → List Proc → NameFields
name_fields collect number list = record { collect = collect; number = number; list = list }

-- the name with these fields
abbrev pub fence_name : NameFields → FenceName
fence_name fields = record { signature = signature fields.list fields.collect; instance = fields.number }

-- The signature that a list asks for. An empty list and a process that no group may register give none, and more than 4096 processes give
-- none either (PMIx Standard 5.0, PMIx_Fence).
unfoldable pub asked_signature : List Proc → Bool → Result Signature Refusal
asked_signature ps collect =
    if length ps == 0 then Err refusals.BadParam
    else if not (list_all is_client ps) then Err refusals.BadParam
    else if nat_le (set.len (signature ps collect).participants) MAX_PARTICIPANTS then Ok (signature ps collect)
    else Err refusals.TooMany

-- the numbers of instances, counted from 1
abbrev pub is_instance : ℕ → Bool
is_instance k = nat_lt 0 k && nat_le k MAX_INSTANCE

-- the numbers of levels
abbrev pub is_level : ℕ → Bool
is_level n = nat_le n MAX_COMMIT

-- A fence header: for each of a node's own participants, whether it has entered or is gone, and its level then (PMIx Standard 5.0,
-- PMIx_Fence).
pub record Header : Type 0 where
  pub node : ℕ
  pub name : FenceName
  pub locals : List Local

-- the node's header of the fence, with these lines
abbrev pub header : ℕ → FenceName → List Local → Header
header node name locals = record { node = node; name = name; locals = locals }

-- whether a participant is gone
abbrev pub is_gone : State → Bool
is_gone states.Entered = false
is_gone states.Gone = true

-- the state of a flag
abbrev pub state_of : Bool → State
state_of false = states.Entered
state_of true = states.Gone

pub state_of-is_gone : (s : State) → state_of (is_gone s) ≡ s
state_of-is_gone states.Entered = refl
state_of-is_gone states.Gone = refl

-- a line as a tuple
abbrev pub coded_local : Coded Local
coded_local =
    code_by (Proc × (Bool × ℕ)) (coded× coded_proc (coded× coded_bool coded_ℕ)) (λ l. (l.proc, (is_gone l.state, l.level)))
    (λ p. record { proc = p.0; state = state_of p.1.0; level = p.1.1 })
    (λ l. ap (λ (s : State). record { proc = l.proc; state = s; level = l.level }) (state_of-is_gone l.state))

-- a header as a tuple
abbrev pub coded_header : Coded Header
coded_header =
    code_by (ℕ × (FenceName × List Local)) (coded× coded_ℕ (coded× coded_name (coded_list coded_local))) (λ h. (h.node, (h.name, h.locals)))
    (λ p. record { node = p.0; name = p.1.0; locals = p.1.1 }) (λ _. refl)

-- the next line has a greater process
abbrev pub is_local_rising : Local → Local → Bool
is_local_rising a b = is_lt (proc_cmp a.proc b.proc)

-- the process of the line is a participant, and its level is a level
abbrev pub is_listed : FenceName → Local → Bool
is_listed name l = set.contains name.signature.participants l.proc && is_level l.level

-- a header that a frame can hold: it lists some of the participants, each once, in their order
unfoldable pub is_header : Header → Bool
is_header h =
    nat_lt 0 (length h.locals) && nat_le (length h.locals) (length (participants_of h.name))
    && is_chain is_local_rising h.locals && list_all (is_listed h.name) h.locals

-- a node asks for the header of another node
pub record FenceAsk : Type 0 where
  pub node : ℕ
  pub name : FenceName

-- the ask as a pair
abbrev pub coded_fence_ask : Coded FenceAsk
coded_fence_ask = code_by (ℕ × FenceName) (coded× coded_ℕ coded_name) (λ a. (a.node, a.name)) (λ p. record { node = p.0; name = p.1 }) (λ _. refl)

-- the node asks for a header of the fence
abbrev pub fence_ask : ℕ → FenceName → FenceAsk
fence_ask node name = record { node = node; name = name }

-- a node that knows a process's commits up to that level asks for later ones
pub record CommitAsk : Type 0 where
  pub node : ℕ
  pub proc : Proc
  pub level : ℕ

-- the node asks for the process's commits after that level
abbrev pub commit_ask : ℕ → Proc → ℕ → CommitAsk
commit_ask node proc level = record { node = node; proc = proc; level = level }

-- an ask that a frame can hold: of a process that commits, from a level on
abbrev pub is_ask : CommitAsk → Bool
is_ask a = (is_client a.proc || is_host a.proc) && is_level a.level
