-- A group as text: the lines with which a script begins.
use Rattle.std.specs.Prelude.{◌≡◌, ◌⊎◌, ℕ, List, [], ◌∷◌, ◌++◌, Option, Some, None, Result, Ok, Err, if◌then◌else◌}
use Rattle.pmg_value.specs.CheckOrder.{first_of}
use Rattle.pmg_value.specs.Names.{is_nspace}
use Rattle.pmg_value.specs.declared.refusal.Refusal.{Refusal}
use Rattle.pmg_value.specs.declared.refusal.Refusal.TheVariants as refusals
use Rattle.pmg_jobinfo.specs.Jobs.{Jobs, opened, registered}
use Rattle.pmg_jobinfo.specs.Refusing.{new_cause, register_cause}
use Rattle.pmg_script.specs.Lines.{content}
use Rattle.pmg_script.specs.Reading.{IsUnended, IsWhole, lines}
use Rattle.pmg_script.specs.Scripts.{Line, said}

-- the jobs with the namespace of that name, or the cause of its refusal (PMIx Standard 5.0, PMIx_server_register_nspace)
unfoldable pub with_named_space : Jobs → List ℕ → List ℕ → Result Jobs Refusal
with_named_space jobs nspace homes = if is_nspace nspace then first_of (register_cause jobs nspace homes) (registered jobs nspace homes) else Err refusals.BadParam

-- the group after its nodes have names; before that there is no group
abbrev pub as_begun : Result Jobs Refusal → Result (Option Jobs) Refusal
as_begun (Ok jobs) = Ok (Some jobs)
as_begun (Err e) = Err e

-- The group after one more line. The nodes get their names first, then come the namespaces; an empty line has no effect.
unfoldable pub after_line : Option Jobs → Option Line → Result (Option Jobs) Refusal
after_line begun (Some Line.nothing) = Ok begun
after_line None (Some (Line.nodes names)) = as_begun (first_of (new_cause names) (opened names))
after_line (Some jobs) (Some (Line.space nspace homes)) = as_begun (with_named_space jobs nspace homes)
after_line begun line = Err refusals.BadParam

-- one line, then all others
abbrev pub then_lines : Result (Option Jobs) Refusal → (Option Jobs → Result (Option Jobs) Refusal) → Result (Option Jobs) Refusal
then_lines (Ok begun) next = next begun
then_lines (Err e) next = Err e

-- the group after these lines
abbrev pub after_lines : Option Jobs → List (List ℕ) → Result (Option Jobs) Refusal
after_lines begun [] = Ok begun
after_lines begun (line ∷ others) = then_lines (after_line begun (said (content line))) (λ more. after_lines more others)

-- a group has nodes
abbrev pub if_opened : Result (Option Jobs) Refusal → Result Jobs Refusal
if_opened (Ok (Some jobs)) = Ok jobs
if_opened (Ok None) = Err refusals.BadParam
if_opened (Err e) = Err e

-- the group that a text describes
abbrev pub group_in : List ℕ → Result Jobs Refusal
group_in text = if_opened (after_lines None (lines text))

-- the line is the first of the text, with the LF that ends it, and `rest` is the text after it
pub record IsCutFrom (text line rest : List ℕ) : Type 0 where
  pub parts : text ≡ line ++ rest
  pub ends : IsWhole line ⊎ (IsUnended line × (rest ≡ []))

-- The answer is the due one, or an allocation failed, which may happen at any time.
abbrev pub ReadsGroup : {X Y : Type 0} → (X → Y) → Result X Refusal → Result Y Refusal → Type 0
ReadsGroup view (Ok x) due = due ≡ Ok (view x)
ReadsGroup view (Err refusals.NoMemory) due = Unit {0}
ReadsGroup view (Err e) due = due ≡ Err e
