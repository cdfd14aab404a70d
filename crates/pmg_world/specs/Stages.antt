-- The meaning of a script: each line's reply, and the state after it.
use Rattle.std.specs.Prelude.{◌≡◌, ℕ, Bool, true, false, List, [], ◌∷◌, length, map, slice_get, Option, Some, None, Result, Ok, Err, if◌then◌else◌}
use Rattle.std.specs.FinSet as set
use Rattle.std.specs.List.{filter_map}
use Rattle.pmg_value.specs.CheckOrder.{first_of}
use Rattle.pmg_value.specs.Plain.{Plain}
use Rattle.pmg_value.specs.declared.process.Proc.{Proc}
use Rattle.pmg_value.specs.declared.refusal.Fault.{Fault}
use Rattle.pmg_value.specs.declared.refusal.Refusal.{Refusal}
use Rattle.pmg_value.specs.declared.refusal.Refusal.TheVariants as refusals
use Rattle.pmg_value.specs.declared.value.Value.{Value}
use Rattle.pmg_value.specs.declared.value.Value.TheVariants as values
use Rattle.pmg_wire.specs.Fields.{whole_value}
use Rattle.pmg_store.specs.Dump.{dump}
use Rattle.pmg_jobinfo.specs.Jobs.{Jobs, is_node, opened}
use Rattle.pmg_jobinfo.specs.Refusing.{new_cause}
use Rattle.pmg_node_model.specs.Acts.{Request, Reply}
use Rattle.pmg_node_model.specs.declared.sent.Sent.{Sent}
use Rattle.pmg_node.specs.Members.{known_members_cause, members_known}
use Rattle.pmg_node.specs.Servers.{Server}
use Rattle.pmg_grouptext.specs.Groups.{with_named_space}
use Rattle.pmg_world.specs.Asking.{LineAsk, line_asks}
use Rattle.pmg_world.specs.Delivering.{undelivered}
use Rattle.pmg_world.specs.ReplyLines.{reply_line, flow_line, members_line}
use Rattle.pmg_world.specs.GroupStates.{Happen, GroupState, IsStateAfter}
use Rattle.pmg_script.specs.Scripts.{Line, said}
use Rattle.pmg_group_model.specs.Worlds.{Event, Happened, start}
use Rattle.pmg_world.specs.declared.phase.Phase.{Phase}
use Rattle.pmg_world.specs.declared.phase.Phase.TheVariants as phases

-- ---- replies

-- the line of a done request without other result
abbrev pub ok_line : List ℕ
ok_line = reply_line false Reply.done

-- the line of a refusal
abbrev pub refused_line : Refusal → List ℕ
refused_line e = reply_line false (Reply.refused e)

-- the event is the deletion of a set
abbrev pub is_deletion : Event → Bool
is_deletion (Event.request node (Request.delete name)) = true
is_deletion _ = false

-- ---- the requests to the world

-- the event happens, with that reply
abbrev pub HappensOnce : GroupState → Event → Reply → GroupState → Type 0
HappensOnce w e reply v = Happen w (record { event = e; reply = reply } ∷ []) v

-- the event happens, and the line is the line of its reply
pub record AnswersLine (w : GroupState) (e : Event) (text : List ℕ) (v : GroupState) : Type 0 where
  pub reply : Reply
  pub happened : HappensOnce w e reply v
  pub line : text ≡ reply_line (is_deletion e) reply

-- all sent frames that were never delivered are delivered, each once and in their order; the line has their number
pub record Flows (w : GroupState) (text : List ℕ) (v : GroupState) : Type 0 where
  pub more : List Happened
  pub asked : map (λ h. h.event) more ≡ map Event.deliver (undelivered w.delivered (length w.sent))
  pub happened : Happen w more v
  pub line : text ≡ flow_line (length more)

-- the node of that index, if the group has one
abbrev pub server_at : GroupState → ℕ → Option Server
server_at w node = if is_node w.jobs node then slice_get w.nodes node else None

-- the process that the element of an array holds
abbrev pub proc_element : Plain → Option Proc
proc_element (Plain.proc p) = Some p
proc_element _ = None

-- the processes among the elements
abbrev pub proc_elements : List Plain → List Proc
proc_elements plains = filter_map proc_element plains

-- the processes of an array; empty if the value is no array or was not decoded
abbrev pub procs_in_value : Result Value Fault → List Proc
procs_in_value (Ok (values.Array a)) = proc_elements a.plains
procs_in_value _ = []

-- the line of a set's members, or the line of the refusal
abbrev pub members_reply : Result (List ℕ) Refusal → List ℕ
members_reply (Ok bytes) = members_line (procs_in_value (whole_value bytes))
members_reply (Err e) = refused_line e

-- the members of the set, as the node knows them
abbrev pub members_text : Option Server → List ℕ → List ℕ
members_text None name = refused_line refusals.BadParam
members_text (Some s) name = members_reply (first_of (known_members_cause s.holding.far name) (members_known s.holding.far name))

-- the dump of the node's knowledge for others
abbrev pub dump_at : Option Server → List ℕ
dump_at None = refused_line refusals.BadParam
dump_at (Some s) = dump s.holding.far

-- The world's answer to a request, and its state afterwards.
unfoldable pub Performs : GroupState → LineAsk → List ℕ → GroupState → Type 0
Performs w (LineAsk.happens e) text v = AnswersLine w e text v
Performs w LineAsk.unnamed text v = (text ≡ refused_line refusals.BadParam) × (v ≡ w)
Performs w LineAsk.flow text v = Flows w text v
Performs w (LineAsk.members node name) text v = (text ≡ members_text (server_at w node) name) × (v ≡ w)
Performs w (LineAsk.dump node) text v = (text ≡ dump_at (server_at w node)) × (v ≡ w)

-- ---- the phases of a script

-- the group is opened with the nodes of these names; a refusal ends the script
abbrev pub Opens : Result Jobs Refusal → List ℕ → Phase → Type 0
Opens (Ok jobs) text v = (text ≡ ok_line) × (v ≡ phases.Registering jobs)
Opens (Err e) text v = (text ≡ refused_line e) × (v ≡ phases.Over)

-- the namespace is registered; a refusal changes nothing
abbrev pub Registers : Jobs → Result Jobs Refusal → List ℕ → Phase → Type 0
Registers jobs (Ok more) text v = (text ≡ ok_line) × (v ≡ phases.Registering more)
Registers jobs (Err e) text v = (text ≡ refused_line e) × (v ≡ phases.Registering jobs)

-- the jobs that are registered, once the nodes are named
abbrev pub jobs_at : Phase → Option Jobs
jobs_at phases.Fresh = None
jobs_at (phases.Registering jobs) = Some jobs
jobs_at (phases.Running w) = Some w.jobs
jobs_at phases.Over = None

-- all frames ever sent, once the world runs
abbrev pub sent_at : Phase → Option (List Sent)
sent_at (phases.Running w) = Some w.sent
sent_at _ = None

-- a world of these jobs without events
pub record IsNew (jobs : Jobs) (w : GroupState) : Type 0 where
  pub jobs_are : w.jobs ≡ jobs
  pub sent : w.sent ≡ []
  pub delivered : w.delivered ≡ set.empty
  pub stands : IsStateAfter w [] (start jobs)

-- the world answers the line's request
pub record Runs (w : GroupState) (line : Line) (text : List ℕ) (v : GroupState) : Type 0 where
  pub asked : LineAsk
  pub asks : line_asks w.jobs line ≡ Some asked
  pub performs : Performs w asked text v

-- the line has no request to the world
unfoldable pub AsksNothing : GroupState → Line → Type 0
AsksNothing w line = line_asks w.jobs line ≡ None

-- the world answers the line's request, and continues to run
pub record RunsOn (w : GroupState) (line : Line) (text : List ℕ) (v : Phase) : Type 0 where
  pub after : GroupState
  pub runs : Runs w line text after
  pub left : v ≡ phases.Running after

-- a new world answers the line's request
pub record Starts (jobs : Jobs) (line : Line) (text : List ℕ) (v : Phase) : Type 0 where
  pub world : GroupState
  pub is_new : IsNew jobs world
  pub runs : RunsOn world line text v

-- One line names the nodes, before all other lines with content.
unfoldable pub OpensAt : Phase → List (List ℕ) → List ℕ → Phase → Type 0
OpensAt phases.Fresh names text v = Opens (first_of (new_cause names) (opened names)) text v
OpensAt _ names text v = ⊥

-- Namespaces are registered before the world runs.
unfoldable pub RegistersAt : Phase → List ℕ → List ℕ → List ℕ → Phase → Type 0
RegistersAt (phases.Registering jobs) nspace homes text v = Registers jobs (with_named_space jobs nspace homes) text v
RegistersAt _ nspace homes text v = ⊥

-- The first other line starts the world.
unfoldable pub RunsAt : Phase → Line → List ℕ → Phase → Type 0
RunsAt (phases.Registering jobs) line text v = Starts jobs line text v
RunsAt (phases.Running w) line text v = RunsOn w line text v
RunsAt _ line text v = ⊥

-- the effect of a line, by its content
unfoldable pub Plays : Phase → Line → List ℕ → Phase → Type 0
Plays s Line.nothing text v = (text ≡ []) × (v ≡ s)
Plays s (Line.nodes names) text v = OpensAt s names text v
Plays s (Line.space nspace homes) text v = RegistersAt s nspace homes text v
Plays s line text v = RunsAt s line text v

-- the effect of a line with this content; a line of no known form has no effect
abbrev pub PlaysSaid : Phase → Option Line → List ℕ → Phase → Type 0
PlaysSaid s None text v = ⊥
PlaysSaid s (Some line) text v = Plays s line text v

-- The effect of a line, by its content: from one phase, with a reply, to another.
unfoldable pub PlaysLine : Phase → List ℕ → List ℕ → Phase → Type 0
PlaysLine s content text v = PlaysSaid s (said content) text v

-- A line stops the script if it has no form of a script's lines, or is out of its order: it has no effect.
unfoldable pub StopsLine : Phase → List ℕ → Type 0
StopsLine s content = (text : List ℕ) (v : Phase) → PlaysLine s content text v → ⊥

-- No line is carried out after a refusal of the nodes' names.
abbrev pub is_over : Phase → Bool
is_over phases.Over = true
is_over _ = false
