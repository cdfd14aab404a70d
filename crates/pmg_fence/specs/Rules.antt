-- The fence table refines the scripts: through the calls of own processes, and through the headers of other nodes.
use Rattle.std.specs.Prelude.{◌≡◌, ◌≤◌, ℕ, true, false, List, [], ◌∷◌, ◌++◌, Some, if◌then◌else◌}
use Rattle.std.specs.FinMap as finite
use Rattle.std.specs.List.{filter}
use Rattle.pmg_value.specs.Lists.{In}
use Rattle.pmg_value.specs.Signatures.{Signature, FenceName}
use Rattle.pmg_value.specs.declared.process.Proc.{Proc}
use Rattle.pmg_scope.specs.declared.scope.Scope.{Scope}
use Rattle.pmg_scope.specs.Scripts.{Call, Script, has_end, commits}
use Rattle.pmg_frame.specs.Fences.{Header, participants_of}
use Rattle.pmg_frame.specs.declared.local.Local.{Local}
use Rattle.pmg_jobinfo.specs.Jobs.{Jobs, home_of}
use Rattle.pmg_fence.specs.declared.entry.Entry.{Entry}
use Rattle.pmg_fence.specs.Entering.{same_proc, enters, level_before, level_at_end, entry, header_of}
use Rattle.pmg_fence.specs.Changes.{learned, entered_by, ended_by, with_header}
use Rattle.pmg_fence.specs.Tables.{Fences, no_fences, is_old, fence_at, count_of, own_header, header_at, told_of, is_ready, says_gone, gone_by}

-- The table's data of an own process fits its script: its number of entries for each signature, its levels at fences that are not old, and
-- the level at its end.
pub record FitsFences (s : Script) (t : Fences) (p : Proc) : Type 0 where
  pub counts : (g : Signature) → count_of t g p ≡ enters s g
  pub levels : (f : FenceName) → is_old t f ≡ false → finite.get (fence_at t f).levels p ≡ level_before s f.signature f.instance
  pub ends : finite.get t.ends p ≡ level_at_end s

-- the scripts of all processes
abbrev pub Scripts : Type 0
Scripts = Proc → Script

-- The table fits the scripts: each process at home at the node fits its script, and the headers of other nodes are the scripts' headers.
pub record FitsTable (jobs : Jobs) (node : ℕ) (scripts : Scripts) (t : Fences) : Type 0 where
  pub own : (p : Proc) → home_of jobs p ≡ node → FitsFences (scripts p) t p
  pub headers : (f : FenceName) (other : ℕ) (ls : List Local) → finite.get (fence_at t f).headers other ≡ Some ls → header_of jobs scripts f other ≡ Some ls

-- some of the scripts were extended by later calls
abbrev pub Grows : Scripts → Scripts → Type 0
Grows scripts grown = (q : Proc) → (later : Script) × (grown q ≡ scripts q ++ later)

-- ---- entries and headers, as scripts grow

-- an entry is final
abbrev pub EntryStays : Type 0
EntryStays = (s later : Script) (f : FenceName) (e : Entry) → entry s f ≡ Some e → entry (s ++ later) f ≡ Some e

-- a header is final
abbrev pub HeaderStays : Type 0
HeaderStays =
    (jobs : Jobs) (scripts grown : Scripts) (f : FenceName) (node : ℕ) (ls : List Local) → Grows scripts grown
    → header_of jobs scripts f node ≡ Some ls → header_of jobs grown f node ≡ Some ls

-- ---- steps of a table that fits

-- the scripts after the process made the call
abbrev pub with_call : Scripts → Proc → Call → Scripts
with_call scripts p call = λ q. if same_proc q p then scripts q ++ call ∷ [] else scripts q

-- a new table fits processes without calls
abbrev pub NewFits : Type 0
NewFits = (jobs : Jobs) (node : ℕ) → FitsTable jobs node (λ _. []) no_fences

-- a put does not affect fences
abbrev pub PutFits : Type 0
PutFits =
    (jobs : Jobs) (node : ℕ) (scripts : Scripts) (t : Fences) (p : Proc) (scope : Scope) (key value : List ℕ) → has_end (scripts p) ≡ false
    → FitsTable jobs node scripts t → FitsTable jobs node (with_call scripts p (Call.put scope key value)) t

-- a commit does not affect fences
abbrev pub CommitFits : Type 0
CommitFits =
    (jobs : Jobs) (node : ℕ) (scripts : Scripts) (t : Fences) (p : Proc) → has_end (scripts p) ≡ false
    → FitsTable jobs node scripts t → FitsTable jobs node (with_call scripts p Call.commit) t

-- an own process that has not ended enters at its level: the number of the entry is the instance
abbrev pub EnterFits : Type 0
EnterFits =
    (jobs : Jobs) (node : ℕ) (scripts : Scripts) (t : Fences) (p : Proc) (g : Signature) → home_of jobs p ≡ node → has_end (scripts p) ≡ false
    → FitsTable jobs node scripts t → FitsTable jobs node (with_call scripts p (Call.enter g)) (entered_by t g p (commits (scripts p)))

-- an own process that has not ended ends at its level: the end is a commit itself
abbrev pub EndFits : Type 0
EndFits =
    (jobs : Jobs) (node : ℕ) (scripts : Scripts) (t : Fences) (p : Proc) → home_of jobs p ≡ node → has_end (scripts p) ≡ false
    → FitsTable jobs node scripts t → FitsTable jobs node (with_call scripts p Call.terminate) (ended_by t p (commits (scripts p ++ Call.terminate ∷ [])))

-- a process of another node makes a call
abbrev pub OthersFit : Type 0
OthersFit =
    (jobs : Jobs) (node : ℕ) (scripts : Scripts) (t : Fences) (p : Proc) (call : Call) → (home_of jobs p ≡ node → ⊥)
    → FitsTable jobs node scripts t → FitsTable jobs node (with_call scripts p call) t

-- a name is learned
abbrev pub LearnFits : Type 0
LearnFits = (jobs : Jobs) (node : ℕ) (scripts : Scripts) (t : Fences) (f : FenceName) → FitsTable jobs node scripts t → FitsTable jobs node scripts (learned t f)

-- a header arrives that agrees with the scripts
abbrev pub HeaderFits : Type 0
HeaderFits =
    (jobs : Jobs) (node : ℕ) (scripts : Scripts) (t : Fences) (h : Header) → header_of jobs scripts h.name h.node ≡ Some h.locals
    → FitsTable jobs node scripts t → FitsTable jobs node scripts (with_header t h)

-- ---- soundness of a table that fits

-- the own header of a fence that is not old is the scripts' header
abbrev pub OwnHeaderIsTrue : Type 0
OwnHeaderIsTrue =
    (jobs : Jobs) (node : ℕ) (scripts : Scripts) (t : Fences) (f : FenceName) → FitsTable jobs node scripts t → is_old t f ≡ false → own_header jobs node t f ≡ header_of jobs scripts f node

-- each known header of a fence that is not old is the scripts' header
abbrev pub HeadersAreTrue : Type 0
HeadersAreTrue =
    (jobs : Jobs) (node : ℕ) (scripts : Scripts) (t : Fences) (f : FenceName) (other : ℕ) (ls : List Local) → FitsTable jobs node scripts t → is_old t f ≡ false
    → header_at jobs node t f other ≡ Some ls → header_of jobs scripts f other ≡ Some ls

-- the entry of a participant in a header is its entry by the scripts
abbrev pub ToldIsTrue : Type 0
ToldIsTrue =
    (jobs : Jobs) (node : ℕ) (scripts : Scripts) (t : Fences) (f : FenceName) (q : Proc) (e : Entry) → FitsTable jobs node scripts t → is_old t f ≡ false
    → In q (participants_of f) → told_of jobs node t f q ≡ Some e → entry (scripts q) f ≡ Some e

-- each known header stays unchanged while its fence is not old
abbrev pub Keeps : Jobs → ℕ → Fences → Fences → FenceName → Type 0
Keeps jobs node old new f = is_old new f ≡ false → (other : ℕ) (ls : List Local) → header_at jobs node old f other ≡ Some ls → header_at jobs node new f other ≡ Some ls

-- a learned name changes no known header
abbrev pub LearnKeeps : Type 0
LearnKeeps = (jobs : Jobs) (node : ℕ) (t : Fences) (g f : FenceName) → Keeps jobs node t (learned t g) f

-- an arriving header changes no known header, even if its node sent a header before
abbrev pub HeaderKeeps : Type 0
HeaderKeeps = (jobs : Jobs) (node : ℕ) (t : Fences) (h : Header) (f : FenceName) → Keeps jobs node t (with_header t h) f

-- an entry changes no known header, if the table fits
abbrev pub EnterKeeps : Type 0
EnterKeeps =
    (jobs : Jobs) (node : ℕ) (scripts : Scripts) (t : Fences) (p : Proc) (g : Signature) (f : FenceName) → home_of jobs p ≡ node → has_end (scripts p) ≡ false
    → FitsTable jobs node scripts t → Keeps jobs node t (entered_by t g p (commits (scripts p))) f

-- an end changes no known header, if the table fits
abbrev pub EndKeeps : Type 0
EndKeeps =
    (jobs : Jobs) (node : ℕ) (scripts : Scripts) (t : Fences) (p : Proc) (f : FenceName) → home_of jobs p ≡ node → has_end (scripts p) ≡ false
    → FitsTable jobs node scripts t → Keeps jobs node t (ended_by t p (commits (scripts p ++ Call.terminate ∷ []))) f

-- each participant of a ready fence has entered or is gone; if the fence collects data, its level at that time is known
abbrev pub ReadyIsWhole : Type 0
ReadyIsWhole =
    (jobs : Jobs) (node : ℕ) (scripts : Scripts) (t : Fences) (f : FenceName) (level : Proc → ℕ) → FitsTable jobs node scripts t
    → is_ready jobs node t f level ≡ true → (q : Proc) → In q (participants_of f)
    → (e : Entry) × (entry (scripts q) f ≡ Some e) × (f.signature.collect ≡ true → e.level ≤ level q)

-- the participants that ended before they entered
abbrev pub gone_of : Scripts → FenceName → List Proc
gone_of scripts f = filter (λ q. says_gone (entry (scripts q) f)) (participants_of f)

-- the gone participants of a ready fence are exactly these, even if others ended later
abbrev pub GoneAreTrue : Type 0
GoneAreTrue =
    (jobs : Jobs) (node : ℕ) (scripts : Scripts) (t : Fences) (f : FenceName) (level : Proc → ℕ) → FitsTable jobs node scripts t
    → is_ready jobs node t f level ≡ true → gone_by jobs node t f ≡ gone_of scripts f
