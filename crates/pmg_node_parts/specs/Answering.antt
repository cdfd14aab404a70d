-- The computed answers to calls, before the calls change.
use Rattle.std.specs.Prelude.{◌≡◌, ℕ, Bool, List}
use Rattle.pmg_value.specs.declared.process.Proc.{Proc}
use Rattle.pmg_commit.specs.Data.{Data}
use Rattle.pmg_jobinfo.specs.Jobs.{Jobs}
use Rattle.pmg_fence.specs.Tables.{Fences}
use Rattle.pmg_node_parts.specs.Calls.{all_instead}
use Rattle.pmg_node_model.specs.Choosing.{asking_again}
use Rattle.pmg_node_parts.specs.Codes.{Calls}
use Rattle.pmg_node_model.specs.Holdings.{CallState, NodeState, mapped, answer_reply}
use Rattle.pmg_node_model.specs.Kept.{is_about, settle_where}
use Rattle.pmg_node_parts.specs.declared.call.Completion.{Completion}
use Rattle.pmg_node_model.specs.declared.due.ToSend.{ToSend}

-- The calls with these answers equal the calls with each selected call settled again, with this table and these stores.
abbrev pub AreAnswers : Jobs → ℕ → (CallState → Bool) → Fences → Data → Data → Calls → List (Proc × Completion) → Type 0
AreAnswers jobs id looks table near far all answers =
    (h : NodeState) → h.table ≡ table → h.near ≡ near → h.far ≡ far → all_instead all answers ≡ mapped (settle_where jobs id h looks) all

-- The calls with these answers equal the calls after a reply to the request of that number, about the process: the get that waits for the
-- reply is answered, and the calls about the process are settled again.
abbrev pub AreAnswersThen : Jobs → ℕ → ℕ → Proc → Fences → Data → Data → Calls → List (Proc × Completion) → Type 0
AreAnswersThen jobs id number q table near far all answers =
    (h : NodeState) → h.table ≡ table → h.near ≡ near → h.far ≡ far
    → all_instead all answers ≡ mapped (settle_where jobs id h (is_about q)) (mapped (answer_reply jobs id h number q) all)

-- the due requests to homes of processes for gets of the process's keys that still wait, with this table and these stores
abbrev pub AreAskedAgain : Jobs → ℕ → Proc → Fences → Data → Data → Calls → List ToSend → Type 0
AreAskedAgain jobs id q table near far all dues =
    (h : NodeState) → h.table ≡ table → h.near ≡ near → h.far ≡ far → h.calls ≡ mapped (settle_where jobs id h (is_about q)) all → dues ≡ asking_again jobs id h q
