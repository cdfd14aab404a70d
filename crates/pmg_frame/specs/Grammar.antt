-- The grammar of frames: what is between two places.
use Rattle.std.specs.Prelude.{◌≡◌, ◌↔◌, ℕ, ◌<◌, ◌≤◌, Bool, true, false, List, [], ◌∷◌, ◌++◌, length, Option, Some, None, Ok, IsTrue}
use Rattle.std.specs.FinSet as set
use Rattle.std.specs.Option.{option_map}
use Rattle.pmg_value.specs.declared.value.Value.{Value}
use Rattle.pmg_value.specs.declared.process.Proc.{Proc}
use Rattle.pmg_value.specs.Lists.{Each}
use Rattle.pmg_value.specs.Process.{is_client}
use Rattle.pmg_value.specs.Signatures.{FenceName}
use Rattle.pmg_value.specs.Names.{is_nspace, is_key}
use Rattle.pmg_value.specs.Spelling.{spelling, IsValue}
use Rattle.pmg_wire.specs.declared.fields.Admits.TheVariants as admits
use Rattle.pmg_wire.specs.Fields.{is_admitted}
use Rattle.pmg_wire.specs.Many.{Chain}
use Rattle.pmg_wire.specs.Reading.{Place, Takes, IsBytes}
use Rattle.pmg_commit.specs.Entries.{Entry}
use Rattle.pmg_commit.specs.Knowledge.{Contribution}
use Rattle.pmg_commit.specs.Pieces.{is_piece}
use Rattle.pmg_frame.specs.Fences.{participants_of, is_instance, is_level, is_header, Header, FenceAsk, CommitAsk}
use Rattle.pmg_frame.specs.FenceReading.{is_greater}
use Rattle.pmg_frame.specs.declared.local.Local.{Local}
use Rattle.pmg_frame.specs.declared.frame.Frame.{Frame}
use Rattle.pmg_frame.specs.declared.frame.Frame.TheVariants as frames
use Rattle.pmg_frame.specs.PieceReading.{is_after, is_range}
use Rattle.pmg_frame.specs.Reading.{read_frame}
use Rattle.pmg_frame.specs.Refreshing.{RefreshAsk, RefreshReply, is_request, is_refresh_reply}
use Rattle.pmg_frame.specs.Spelling.{piece_body, refresh_reply_body}
use Rattle.pmg_frame.specs.Versions.{is_version, body_spelling, frame_spelling, Spelt, spelt_text}
use Rattle.pmg_frame.specs.declared.signature.TheConstants.{MAX_PARTICIPANTS}
use Rattle.pmg_value.specs.declared.process.TheConstants.{MAX_NODE}
use Rattle.pmg_frame.specs.declared.frame.TheConstants.{MAX_BODY_SIZE}
use Rattle.pmg_commit.specs.declared.piece.TheConstants.{MAX_COMMIT, MAX_ENTRIES}

-- An entry of a piece of the commits from+1 to to: its key is greater than the key before, its number is of one of these commits, and it
-- has the canonical bytes of a value.
pub record Follows (from to : ℕ) (before : Option Entry) (e : Entry) : Type 0 where
  pub key : IsTrue (is_key e.key)
  pub order : IsTrue (is_after before e.key)
  pub above : from < e.number
  pub within : e.number ≤ to
  pub value : Value
  pub is : IsValue value
  pub bytes : e.bytes ≡ spelling value

-- a piece keeps its rules
pub record IsPiece (c : Contribution) : Type 0 where
  pub name : IsTrue (is_nspace c.proc.nspace)
  pub admitted : IsTrue (is_admitted admits.ClientsAndHost c.proc)
  pub range : c.from < c.to
  pub last : c.to ≤ MAX_COMMIT
  pub count : length c.entries ≤ MAX_ENTRIES
  pub entries : Chain (Follows c.from c.to) None c.entries

-- a process that a group may register
pub record IsClient (p : Proc) : Type 0 where
  pub name : IsTrue (is_nspace p.nspace)
  pub client : IsTrue (is_client p)

-- a fence's name keeps its rules
pub record IsName (name : FenceName) : Type 0 where
  pub number : IsTrue (is_instance name.instance)
  pub some : 1 ≤ length (participants_of name)
  pub few : length (participants_of name) ≤ MAX_PARTICIPANTS
  pub clients : Each IsClient (participants_of name)

-- A line of a header of that fence: its process is a participant and greater than the one before, and its level is a level.
pub record FollowsLocal (name : FenceName) (before : Option Local) (l : Local) : Type 0 where
  pub is : IsClient l.proc
  pub order : IsTrue (is_greater (option_map (λ b. b.proc) before) l.proc)
  pub member : IsTrue (set.contains name.signature.participants l.proc)
  pub level : IsTrue (is_level l.level)

-- a header keeps its rules
pub record IsHeader (h : Header) : Type 0 where
  pub node : h.node ≤ MAX_NODE
  pub name : IsName h.name
  pub some : 1 ≤ length h.locals
  pub few : length h.locals ≤ length (participants_of h.name)
  pub locals : Chain (FollowsLocal h.name) None h.locals

-- a fence ask keeps its rules
pub record IsFenceAsk (a : FenceAsk) : Type 0 where
  pub node : a.node ≤ MAX_NODE
  pub name : IsName a.name

-- an ask for commits keeps its rules
pub record IsCommitAsk (a : CommitAsk) : Type 0 where
  pub node : a.node ≤ MAX_NODE
  pub name : IsTrue (is_nspace a.proc.nspace)
  pub admitted : IsTrue (is_admitted admits.ClientsAndHost a.proc)
  pub level : IsTrue (is_level a.level)

-- a refresh ask keeps its rules
pub record IsRefreshAsk (a : RefreshAsk) : Type 0 where
  pub request : IsTrue (is_request a.request)
  pub ask : IsCommitAsk a.ask

-- some commits of a process, or none if that may be, keep their rules
pub record IsTold (none : Bool) (c : Contribution) : Type 0 where
  pub name : IsTrue (is_nspace c.proc.nspace)
  pub admitted : IsTrue (is_admitted admits.ClientsAndHost c.proc)
  pub range : IsTrue (is_range none c.from c.to)
  pub count : length c.entries ≤ MAX_ENTRIES
  pub entries : Chain (Follows c.from c.to) None c.entries

-- a refresh reply keeps its rules
pub record IsRefreshReply (r : RefreshReply) : Type 0 where
  pub node : r.node ≤ MAX_NODE
  pub request : IsTrue (is_request r.request)
  pub told : IsTold true r.told

-- a frame keeps the rules of its kind
abbrev pub IsFrame : Frame → Type 0
IsFrame (frames.Piece c) = IsPiece c
IsFrame (frames.Header h) = IsHeader h
IsFrame (frames.FenceAsk a) = IsFenceAsk a
IsFrame (frames.RangeAsk a) = IsCommitAsk a
IsFrame (frames.DirectAsk a) = IsCommitAsk a
IsFrame (frames.RefreshAsk a) = IsRefreshAsk a
IsFrame (frames.RefreshReply r) = IsRefreshReply r

-- the encoding of a frame in that version
pub record SpellsFrame (v : ℕ) (at : Place) (frame : Frame) (after : Place) : Type 0 where
  pub version : IsTrue (is_version v)
  pub takes : Takes at (frame_spelling v frame) after
  pub small : length (body_spelling v frame) ≤ MAX_BODY_SIZE
  pub is : IsFrame frame

-- a frame in one of the versions, whose body is not too long
pub record IsSpelt (s : Spelt) : Type 0 where
  pub version : IsTrue (is_version s.version)
  pub small : length (body_spelling s.version s.frame) ≤ MAX_BODY_SIZE
  pub is : IsFrame s.frame

-- a frame that is read is encoded so, in one of the versions
abbrev pub IsFoundFrame : Type 0
IsFoundFrame = (at : Place) (frame : Frame) (after : Place) → IsBytes at.rest → read_frame at ≡ Ok (Some (frame, after)) → (v : ℕ) × SpellsFrame v at frame after

-- an encoded frame, in either version, is read
abbrev pub IsOnlyFrame : Type 0
IsOnlyFrame = (v : ℕ) (at : Place) (frame : Frame) (after : Place) → SpellsFrame v at frame after → read_frame at ≡ Ok (Some (frame, after))

-- no frame's encoding is a prefix of another's, in any version
abbrev pub IsOneFrameSpelling : Type 0
IsOneFrameSpelling = (s t : Spelt) (x y : List ℕ) → IsSpelt s → IsSpelt t → spelt_text s ++ x ≡ spelt_text t ++ y → (s.version ≡ t.version) × (s.frame ≡ t.frame) × (x ≡ y)

-- an entry's key is a key, and its bytes are a value's
pub record IsEntry (e : Entry) : Type 0 where
  pub key : IsTrue (is_key e.key)
  pub value : Value
  pub is : IsValue value
  pub bytes : e.bytes ≡ spelling value

-- each is an entry
abbrev pub AreEntries : List Entry → Type 0
AreEntries [] = Unit {0}
AreEntries (e ∷ es) = IsEntry e × AreEntries es

-- A contribution with names, keys and values is a piece exactly if a frame can hold it.
abbrev pub ArePieces : Type 0
ArePieces = (c : Contribution) → IsTrue (is_nspace c.proc.nspace) → AreEntries c.entries
    → IsTrue (is_piece c) ↔ (IsPiece c × (length (piece_body c) ≤ MAX_BODY_SIZE))

-- `Header::new` makes a header of a node for a fence exactly if a frame can hold it.
abbrev pub AreHeaders : Type 0
AreHeaders = (h : Header) → h.node ≤ MAX_NODE → IsName h.name → IsTrue (is_header h) ↔ IsHeader h

-- `RefreshReply::new` makes a reply to a node, with names, keys and values, exactly if a frame can hold it.
abbrev pub AreReplies : Type 0
AreReplies = (r : RefreshReply) → r.node ≤ MAX_NODE → IsTrue (is_nspace r.told.proc.nspace) → AreEntries r.told.entries
    → IsTrue (is_refresh_reply r) ↔ (IsRefreshReply r × (length (refresh_reply_body r) ≤ MAX_BODY_SIZE))

-- the frame has entries, which may be too many for a body
abbrev pub has_entries : Frame → Bool
has_entries (frames.Piece c) = true
has_entries (frames.Header h) = false
has_entries (frames.FenceAsk a) = false
has_entries (frames.RangeAsk a) = false
has_entries (frames.DirectAsk a) = false
has_entries (frames.RefreshAsk a) = false
has_entries (frames.RefreshReply r) = true

-- each header, and each ask, fits into a frame of either version
abbrev pub AreFitting : Type 0
AreFitting = (v : ℕ) (frame : Frame) → IsFrame frame → has_entries frame ≡ false → length (body_spelling v frame) ≤ MAX_BODY_SIZE
