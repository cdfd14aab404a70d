-- The encoding of the bodies of frames, with each process by itself.
use Rattle.std.specs.Prelude.{ℕ, Bool, true, false, if◌then◌else◌, List, [], ◌∷◌, ◌++◌, length}
use Rattle.std.specs.List.{flat_map}
use Rattle.std.specs.Int.{w32, w64, to_be_bytes}
use Rattle.pmg_value.specs.declared.process.Proc.{Proc}
use Rattle.pmg_wire.specs.Spelling.{key_spelling, proc_spelling}
use Rattle.pmg_commit.specs.Entries.{Entry}
use Rattle.pmg_commit.specs.Knowledge.{Contribution}
use Rattle.pmg_value.specs.Signatures.{FenceName}
use Rattle.pmg_frame.specs.Fences.{participants_of, is_gone, Header, FenceAsk, CommitAsk}
use Rattle.pmg_frame.specs.Refreshing.{RefreshAsk, RefreshReply}
use Rattle.pmg_frame.specs.declared.local.Local.{Local}

-- an entry: its key, the number of its commit, its value's canonical bytes
abbrev pub entry_spelling : Entry → List ℕ
entry_spelling e = key_spelling e.key ++ (to_be_bytes w64 e.number ++ e.bytes)

-- the body of a piece: the process, the commits from+1 to to, the entries
abbrev pub piece_body : Contribution → List ℕ
piece_body c = proc_spelling c.proc ++ (to_be_bytes w64 c.from ++ (to_be_bytes w64 c.to ++ (to_be_bytes w32 (length c.entries) ++ flat_map entry_spelling c.entries)))

-- a flag: the byte 0 or 1
abbrev pub flag_spelling : Bool → List ℕ
flag_spelling b = (if b then 1 else 0) ∷ []

-- a list of processes: their number, and the processes
abbrev pub procs_spelling : List Proc → List ℕ
procs_spelling ps = to_be_bytes w32 (length ps) ++ flat_map proc_spelling ps

-- a fence's name: whether it collects, the instance, and the participants in their order
abbrev pub name_spelling : FenceName → List ℕ
name_spelling name = flag_spelling name.signature.collect ++ (to_be_bytes w64 name.instance ++ procs_spelling (participants_of name))

-- the line of a header for one participant: the process, whether it is gone, and the level
abbrev pub local_spelling : Local → List ℕ
local_spelling l = proc_spelling l.proc ++ (flag_spelling (is_gone l.state) ++ to_be_bytes w64 l.level)

-- the body of a header: the node, the fence's name, and the lines of its participants
abbrev pub header_body : Header → List ℕ
header_body h = to_be_bytes w32 h.node ++ (name_spelling h.name ++ (to_be_bytes w32 (length h.locals) ++ flat_map local_spelling h.locals))

-- the body of a fence ask: the node, and the fence's name
abbrev pub fence_ask_body : FenceAsk → List ℕ
fence_ask_body a = to_be_bytes w32 a.node ++ name_spelling a.name

-- the body of an ask for commits: the node, the process, and the level
abbrev pub commit_ask_body : CommitAsk → List ℕ
commit_ask_body a = to_be_bytes w32 a.node ++ (proc_spelling a.proc ++ to_be_bytes w64 a.level)

-- the start of the body of a refresh ask and of a reply: the node, the number of its request, and whether this is the reply
abbrev pub asker_spelling : ℕ → ℕ → Bool → List ℕ
asker_spelling node request role = to_be_bytes w32 node ++ (to_be_bytes w64 request ++ flag_spelling role)

-- the body of a refresh ask: who asks, the process, and the level
abbrev pub refresh_ask_body : RefreshAsk → List ℕ
refresh_ask_body a = asker_spelling a.ask.node a.request false ++ (proc_spelling a.ask.proc ++ to_be_bytes w64 a.ask.level)

-- the body of a reply: who asked, and then as the body of a piece
abbrev pub refresh_reply_body : RefreshReply → List ℕ
refresh_reply_body r = asker_spelling r.node r.request true ++ piece_body r.told
