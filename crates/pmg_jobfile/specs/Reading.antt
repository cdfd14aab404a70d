-- How a job is read from JSON (RFC 8259): an object with `nodes`, an array of strings, and `spaces`, an array of objects
-- with `name`, a string, and `homes`, an array of whole numbers.
use Rattle.std.specs.Prelude.{ℕ, ◌≡◌, ◌⊎◌, ◌&&◌, ◌==◌, nat_lt, nat_le, not, List, [], ◌∷◌, length, codes, IsUtf8, Option, Some, None, Result, Ok, Err, option_map, option_and_then, if◌then◌else◌}
use Rattle.serde_json.specs.Data.{Data, Items, no_items, item}
use Rattle.serde_json.specs.Find.{get, as_array, as_number, as_str, as_u64}
use Rattle.serde_json.specs.Read.{read}
use Rattle.pmg_value.specs.declared.refusal.Refusal.{Refusal}
use Rattle.pmg_value.specs.declared.refusal.Refusal.TheVariants as refusals
use Rattle.pmg_value.specs.Names.{is_nspace, is_reserved}
use Rattle.pmg_jobinfo.specs.Jobs.{Jobs}
use Rattle.pmg_jobfile.specs.Described.{Space, Described, judged}
use Rattle.pmg_value.specs.declared.process.TheConstants.{MAX_NODE}

-- the items, each read as one; none where one of them is not read
unfoldable pub all_in : {A : Type 0} → (Data → Option A) → Items → Option (List A)
all_in one no_items = Some []
all_in one (item d ds) = option_and_then (λ x. option_map (λ xs. x ∷ xs) (all_in one ds)) (one d)

-- an array, each of whose items is read as one
abbrev pub array_in : {A : Type 0} → (Data → Option A) → Data → Option (List A)
array_in one d = option_and_then (all_in one) (as_array d)

-- the name of a namespace that may be registered: 1 to 255 bytes of 0x21 to 0x7E that do not begin with `pmix`
abbrev pub name_in : Data → Option (List ℕ)
name_in d = option_and_then (λ name. if is_nspace name && not (is_reserved name) then Some name else None) (as_str d)

-- the home of a process: a whole number with no sign, fraction or exponent, that is the index of one of so many nodes
abbrev pub home_in : ℕ → Data → Option ℕ
home_in nodes d = option_and_then (λ home. if nat_lt home nodes && nat_le home MAX_NODE then Some home else None) (option_and_then as_u64 (as_number d))

-- the homes of a namespace's processes: there is one at least
abbrev pub homes_in : ℕ → Data → Option (List ℕ)
homes_in nodes d = option_and_then (λ homes. if length homes == 0 then None else Some homes) (array_in (home_in nodes) d)

-- a namespace, in a group of so many nodes
abbrev pub json_space : ℕ → Data → Option Space
json_space nodes d =
    option_and_then (λ name. option_map (λ homes. record { name = name; homes = homes }) (option_and_then (homes_in nodes) (get (codes "homes") d)))
    (option_and_then name_in (get (codes "name") d))

-- the names of the nodes
abbrev pub json_nodes : Data → Option (List (List ℕ))
json_nodes d = option_and_then (array_in as_str) (get (codes "nodes") d)

-- the namespaces, in a group of so many nodes
abbrev pub spaces_in : ℕ → Data → Option (List Space)
spaces_in nodes d = option_and_then (array_in (json_space nodes)) (get (codes "spaces") d)

-- what a value describes, none where it describes no job
abbrev pub described_in : Data → Option Described
described_in d =
    option_and_then (λ nodes. option_map (λ spaces. record { nodes = nodes; spaces = spaces }) (spaces_in (length nodes) d)) (json_nodes d)

-- what is not there is a bad parameter
abbrev pub or_bad : {Y : Type 0} → Option Y → Result Y Refusal
or_bad None = Err refusals.BadParam
or_bad (Some y) = Ok y

-- That holds where the refusal is another one than of memory: an allocation may fail at any time.
abbrev pub UnlessMemory : Refusal → Type 0 → Type 0
UnlessMemory refusals.NoMemory P = Unit {0}
UnlessMemory e P = P

-- The answer, seen by view, is the one that is due, or an allocation failed.
abbrev pub ReadsJson : {X Y : Type 0} → (X → Y) → Result X Refusal → Result Y Refusal → Type 0
ReadsJson view (Ok x) due = due ≡ Ok (view x)
ReadsJson view (Err e) due = UnlessMemory e (due ≡ Err e)

-- what a description that is there or not is answered with
abbrev pub job_due : Option Described → Result Jobs Refusal
job_due None = Err refusals.BadParam
job_due (Some job) = judged job

-- the bytes are JSON, of this value
pub record IsJson (bytes : List ℕ) (d : Data) : Type 0 where
  pub utf8 : IsUtf8 bytes
  pub is : read bytes ≡ Some d

-- the bytes are no JSON
abbrev pub IsNoJson : List ℕ → Type 0
IsNoJson bytes = (d : Data) → IsJson bytes d → ⊥

-- the bytes are JSON, whose value is answered with that
pub record IsDue (bytes : List ℕ) (due : Result Jobs Refusal) : Type 0 where
  pub value : Data
  pub json : IsJson bytes value
  pub is : job_due (described_in value) ≡ due

-- What bytes are answered with: the job that they describe; or else a refusal, which is a bad parameter where they are no
-- JSON. An allocation may fail at any time.
abbrev pub GivesJob : List ℕ → Result Jobs Refusal → Type 0
GivesJob bytes (Ok job) = IsDue bytes (Ok job)
GivesJob bytes (Err e) = UnlessMemory e (((e ≡ refusals.BadParam) × IsNoJson bytes) ⊎ IsDue bytes (Err e))
