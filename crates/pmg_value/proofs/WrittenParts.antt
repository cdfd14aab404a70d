-- A text whose first parts were written, while others are left.
use Rattle.std.proofs.Common.{◌≡◌, ℕ, List, [], ◌++◌, refl, sym, ap, subst, ◌∙◌, append_assoc}
use Rattle.std.specs.declared.option.Option.{Option}
use Rattle.std.specs.declared.result.Result.{Result}
use Rattle.std.specs.Io.KnownBytes.{Appends}
use Rattle.std.proofs.lemmas.List.{append-nil}
use Rattle.pmg_value.specs.Written.{AppendsFront, Writes}
use Rattle.pmg_value.proofs.WrittenLemmas.{appends_nothing, appends_then, front_of_first, front_of_second, two_parts}

-- what was written and what is left make up the whole
pub record WrittenSoFar (old new : Option (List ℕ)) (left whole : List ℕ) : Type 0 where
  pub done : List ℕ
  pub bytes : Appends old new done
  pub parts : done ++ left ≡ whole

-- nothing yet
pub none_written : (old : Option (List ℕ)) (left whole : List ℕ) → left ≡ whole → WrittenSoFar old old left whole
none_written old left whole is = record { done = []; bytes = appends_nothing old; parts = is }

-- one part more
pub more_written : (old mid new : Option (List ℕ)) (part left was whole : List ℕ) → was ≡ part ++ left → WrittenSoFar old mid was whole → Appends mid new part → WrittenSoFar old new left whole
more_written old mid new part left was whole is so_far next = record {
  done = so_far.done ++ part;
  bytes = appends_then old mid new so_far.done part next so_far.bytes;
  parts = append_assoc so_far.done part left ∙ ap (λ text. so_far.done ++ text) (sym is) ∙ so_far.parts;
}

-- a prefix of the next part
pub front_written : (old mid new : Option (List ℕ)) (part left was whole : List ℕ) → was ≡ part ++ left → WrittenSoFar old mid was whole → AppendsFront mid new part → AppendsFront old new whole
front_written old mid new part left was whole is so_far front =
    subst (AppendsFront old new) (append_assoc so_far.done part left ∙ ap (λ text. so_far.done ++ text) (sym is) ∙ so_far.parts)
    (front_of_first left (front_of_second so_far.done front so_far.bytes))

-- all of them
pub all_written : (old new : Option (List ℕ)) (was whole : List ℕ) → was ≡ [] → WrittenSoFar old new was whole → Appends old new whole
all_written old new was whole is so_far =
    subst (Appends old new) (sym (append-nil so_far.done) ∙ ap (λ text. so_far.done ++ text) (sym is) ∙ so_far.parts) so_far.bytes

-- what was left, as a whole
pub last_written : {T E : Type 0} (result : Result T E) (old mid new : Option (List ℕ)) (left whole : List ℕ) → WrittenSoFar old mid left whole → Writes mid new result left → Writes old new result whole
last_written result old mid new left whole so_far last = rw (← so_far.parts) (two_parts result old mid new so_far.done left so_far.done left refl refl last so_far.bytes)
