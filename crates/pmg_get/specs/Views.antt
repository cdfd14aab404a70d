-- What a view shows, and what an answer tells, with values as their canonical bytes.
use Rattle.std.specs.Prelude.{ℕ, List, Option}
use Rattle.std.specs.Borrow.{Bor}
use Rattle.std.specs.Option.{option_map}
use Rattle.pmg_value.specs.declared.value.Value.{Value}
use Rattle.pmg_value.specs.Spelling.{spelling}
use Rattle.pmg_get.specs.Gets.{Seen, Outcome}
use Rattle.pmg_get.specs.declared.view.View.{View}
use Rattle.pmg_get.specs.declared.view.View.TheVariants as views
use Rattle.pmg_get.specs.declared.answer.Answer.{Answer}
use Rattle.pmg_get.specs.declared.answer.Answer.TheVariants as answers

-- the bytes of a value that is lent
abbrev pub bytes_of : Option (Bor Value) → Option (List ℕ)
bytes_of = option_map (λ v. spelling v.now)

-- what a view shows, with values as their canonical bytes
abbrev pub seen_in : View → Seen
seen_in (views.Reserved value) = Seen.reserved (bytes_of value)
seen_in (views.Own value) = Seen.own (bytes_of value)
seen_in (views.Near near far term) = Seen.local (bytes_of near) (bytes_of far) term
seen_in (views.Far far term) = Seen.remote (bytes_of far) term

-- what an answer tells, with a value as its canonical bytes
abbrev pub outcome_of : Answer → Outcome
outcome_of (answers.Found value) = Outcome.found (spelling value.now)
outcome_of answers.NotFound = Outcome.absent
outcome_of answers.OutsideScope = Outcome.outside
outcome_of answers.Park = Outcome.parks
