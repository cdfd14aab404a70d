-- The meaning of the lines of a script.
use Rattle.std.specs.Prelude.{ℕ, ◌==◌, Bool, List, length, map, codes, Option, Some, None, if◌then◌else◌}
use Rattle.std.specs.Borrow.{Bor}
use Rattle.std.specs.Str.{bytes_eq}
use Rattle.pmg_value.specs.declared.process.Proc.{Proc}
use Rattle.pmg_value.specs.declared.value.Value.{Value}
use Rattle.pmg_scope.specs.declared.scope.Scope.{Scope}
use Rattle.pmg_get.specs.declared.view.Mode.{Mode}
use Rattle.pmg_script.specs.Fields.{number_in, scope_in, collect_in, mode_in, value_in, read_proc_words, read_procs, all_numbers, read_proc_list}
use Rattle.pmg_script.specs.Lines.{Left, read_word, read_words, read_end, read_as, ◌>>=◌}
use Rattle.pmg_script.specs.declared.script.Line.{Line as SaidLine}
use Rattle.pmg_script.specs.declared.script.Line.TheVariants as said_lines

-- A line of a script: nothing; the names of the nodes; a namespace with the home of each rank; a call of a process. The delivery of a
-- frame, by its number, or of all frames that were never delivered; a request to a node. Any bytes may name a process, a key and a set.
pub data Line : Type 0 where
  nothing : Line
  nodes : List (List ℕ) → Line
  space : List ℕ → List ℕ → Line
  put : Proc → Scope → Value → List ℕ → Line
  commit : Proc → Line
  enter : Proc → Bool → List Proc → Line
  leave : Proc → Line
  get : Proc → Mode → Proc → List ℕ → Line
  take : Proc → Line
  end : Proc → Line
  define : List Proc → List ℕ → Line
  delete : List ℕ → Line
  deliver : ℕ → Line
  flow : Line
  nudge : ℕ → Line
  members : ℕ → List ℕ → Line
  dump : ℕ → Line

-- the bytes of borrowed words
abbrev pub texts : List (Bor (List ℕ)) → List (List ℕ)
texts words = map (λ word. word.now) words

-- a line, as the code has it
abbrev pub line_of : SaidLine → Line
line_of said_lines.Nothing = Line.nothing
line_of (said_lines.Nodes names) = Line.nodes (texts names.items)
line_of (said_lines.Space nspace homes) = Line.space nspace.now homes.items
line_of (said_lines.Put p scope value key) = Line.put p scope value key.now
line_of (said_lines.Commit p) = Line.commit p
line_of (said_lines.Enter p collect list) = Line.enter p collect list.items
line_of (said_lines.Leave p) = Line.leave p
line_of (said_lines.Get p mode target key) = Line.get p mode target key.now
line_of (said_lines.Take p) = Line.take p
line_of (said_lines.End p) = Line.end p
line_of (said_lines.Define list name) = Line.define list.items name.now
line_of (said_lines.Delete name) = Line.delete name.now
line_of (said_lines.Deliver frame) = Line.deliver frame
line_of said_lines.Flow = Line.flow
line_of (said_lines.Nudge node) = Line.nudge node
line_of (said_lines.Members node name) = Line.members node name.now
line_of (said_lines.Dump node) = Line.dump node

-- ---- the words after the first one

-- `nodes NAME ..`
unfoldable pub nodes_in : Left → Option Line
nodes_in left = do
  names ← read_words left
  Some (Line.nodes names)

-- `space NS NODE ..`
unfoldable pub space_in : Left → Option Line
space_in left = do
  nspace ← read_word left
  homes ← all_numbers nspace.1
  Some (Line.space nspace.0 homes)

-- `put NS RANK SCOPE HEX KEY`
unfoldable pub put_in : Left → Option Line
put_in left = do
  p ← read_proc_words left
  scope ← read_as scope_in p.1
  value ← read_as value_in scope.1
  key ← value.1
  Some (Line.put p.0 scope.0 value.0 key)

-- `enter NS RANK plain` or `collect`, then pairs `NS RANK`
unfoldable pub enter_in : Left → Option Line
enter_in left = do
  p ← read_proc_words left
  collect ← read_as collect_in p.1
  list ← read_proc_list collect.1
  Some (Line.enter p.0 collect.0 list)

-- `get NS RANK wait`, `now` or `refresh`, then `NS RANK KEY`
unfoldable pub get_in : Left → Option Line
get_in left = do
  p ← read_proc_words left
  mode ← read_as mode_in p.1
  target ← read_proc_words mode.1
  key ← target.1
  Some (Line.get p.0 mode.0 target.0 key)

-- `define M`, so many pairs `NS RANK`, `NAME`
unfoldable pub define_in : Left → Option Line
define_in left = do
  count ← read_as number_in left
  list ← read_procs count.0 count.1
  name ← list.1
  Some (Line.define list.0 name)

-- `delete NAME`
unfoldable pub delete_in : Left → Option Line
delete_in left = do
  name ← left
  Some (Line.delete name)

-- `members NODE NAME`
unfoldable pub members_in : Left → Option Line
members_in left = do
  node ← read_as number_in left
  name ← node.1
  Some (Line.members node.0 name)

-- only `NS RANK`
unfoldable pub proc_in : (Proc → Line) → Left → Option Line
proc_in says left = do
  p ← read_proc_words left
  nothing_more ← read_end p.1
  Some (says p.0)

-- only one number
unfoldable pub number_alone : (ℕ → Line) → Left → Option Line
number_alone says left = do
  n ← read_as number_in left
  nothing_more ← read_end n.1
  Some (says n.0)

-- no words
unfoldable pub alone : Line → Left → Option Line
alone line left = do
  nothing_more ← read_end left
  Some line

-- ---- whole lines

-- the line that begins with the word
unfoldable pub said_with : List ℕ → Left → Option Line
said_with word left =
    if bytes_eq word (codes "get") then get_in left
    else if bytes_eq word (codes "put") then put_in left
    else if bytes_eq word (codes "commit") then proc_in Line.commit left
    else if bytes_eq word (codes "enter") then enter_in left
    else if bytes_eq word (codes "leave") then proc_in Line.leave left
    else if bytes_eq word (codes "take") then proc_in Line.take left
    else if bytes_eq word (codes "end") then proc_in Line.end left
    else if bytes_eq word (codes "deliver") then number_alone Line.deliver left
    else if bytes_eq word (codes "flow") then alone Line.flow left
    else if bytes_eq word (codes "nudge") then number_alone Line.nudge left
    else if bytes_eq word (codes "define") then define_in left
    else if bytes_eq word (codes "delete") then delete_in left
    else if bytes_eq word (codes "members") then members_in left
    else if bytes_eq word (codes "dump") then number_alone Line.dump left
    else if bytes_eq word (codes "nodes") then nodes_in left
    else if bytes_eq word (codes "space") then space_in left else None

-- The line with this content; `None` if it does not have the form of a script's line.
unfoldable pub said : List ℕ → Option Line
said text = if length text == 0 then Some Line.nothing else do
  word ← read_word (Some text)
  said_with word.0 word.1
