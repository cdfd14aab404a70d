-- The request of a script's line to the world.
use Rattle.std.specs.Prelude.{ℕ, Bool, true, false, ◌&&◌, List, Option, Some, None, if◌then◌else◌}
use Rattle.std.specs.List.{list_all}
use Rattle.pmg_value.specs.Names.{is_nspace, is_key}
use Rattle.pmg_value.specs.Spelling.{spelling}
use Rattle.pmg_value.specs.declared.process.Proc.{Proc}
use Rattle.pmg_jobinfo.specs.Jobs.{Jobs, home_of}
use Rattle.pmg_node_model.specs.Acts.{Request}
use Rattle.pmg_node_parts.specs.Calls.{get_of}
use Rattle.pmg_script.specs.Scripts.{Line}
use Rattle.pmg_world.specs.Telling.{event_of}
use Rattle.pmg_group_model.specs.Worlds.{Event}
use Rattle.pmg_world.specs.declared.asking.LineAsk.{LineAsk as AskedFor}
use Rattle.pmg_world.specs.declared.asking.LineAsk.TheVariants as asked

-- A request to the world. It is an event, or a request that is refused, since the line has an invalid name. Else it is the delivery of all
-- frames that were never delivered, the members of a set, as a node knows them, or a node's dump.
pub data LineAsk : Type 0 where
  happens : Event → LineAsk
  unnamed : LineAsk
  flow : LineAsk
  members : ℕ → List ℕ → LineAsk
  dump : ℕ → LineAsk

-- the meaning of the code's request
abbrev pub asked_of : AskedFor → LineAsk
asked_of (asked.Event e) = LineAsk.happens (event_of e)
asked_of asked.Unnamed = LineAsk.unnamed
asked_of asked.Flow = LineAsk.flow
asked_of (asked.Members node name) = LineAsk.members node name
asked_of (asked.Dump node) = LineAsk.dump node

-- the process's namespace has a name
abbrev pub has_named_nspace : Proc → Bool
has_named_nspace p = is_nspace p.nspace

-- the namespace of each process has a name
abbrev pub are_named : List Proc → Bool
are_named ps = list_all has_named_nspace ps

-- the event, if the names in the line are valid
abbrev pub if_named : Bool → Event → LineAsk
if_named names e = if names then LineAsk.happens e else LineAsk.unnamed

-- the request of a process to its home node
abbrev pub at_home : Jobs → Proc → Request → Event
at_home jobs p r = Event.request (home_of jobs p) r

-- the node at which the process sets are defined and deleted
abbrev pub sets_node : ℕ
sets_node = 0

-- the line asks for a key
abbrev pub is_get : Line → Bool
is_get (Line.get p mode target key) = true
is_get _ = false

-- The request of a line. A line that names nodes or registers a namespace, and an empty line, have no request to the world.
unfoldable pub line_asks : Jobs → Line → Option LineAsk
line_asks jobs (Line.put p scope value key) = Some (if_named (has_named_nspace p && is_key key) (Event.put p scope key (spelling value)))
line_asks jobs (Line.commit p) = Some (if_named (has_named_nspace p) (Event.commit (home_of jobs p) p))
line_asks jobs (Line.enter p collect list) = Some (if_named (has_named_nspace p && are_named list) (at_home jobs p (Request.enter p list collect)))
line_asks jobs (Line.leave p) = Some (if_named (has_named_nspace p) (at_home jobs p (Request.leave p)))
line_asks jobs (Line.get p mode target key) = Some (if_named (has_named_nspace p && has_named_nspace target && is_key key) (at_home jobs p (Request.ask p (get_of target key) mode)))
line_asks jobs (Line.take p) = Some (if_named (has_named_nspace p) (at_home jobs p (Request.take p)))
line_asks jobs (Line.end p) = Some (if_named (has_named_nspace p) (at_home jobs p (Request.terminate p)))
line_asks jobs (Line.define list name) = Some (if_named (are_named list && is_key name) (Event.request sets_node (Request.define name list)))
line_asks jobs (Line.delete name) = Some (if_named (is_key name) (Event.request sets_node (Request.delete name)))
line_asks jobs (Line.deliver frame) = Some (LineAsk.happens (Event.deliver frame))
line_asks jobs Line.flow = Some LineAsk.flow
line_asks jobs (Line.nudge node) = Some (LineAsk.happens (Event.request node Request.nudge))
line_asks jobs (Line.members node name) = Some (if is_key name then LineAsk.members node name else LineAsk.unnamed)
line_asks jobs (Line.dump node) = Some (LineAsk.dump node)
line_asks jobs Line.nothing = None
line_asks jobs (Line.nodes names) = None
line_asks jobs (Line.space nspace homes) = None
