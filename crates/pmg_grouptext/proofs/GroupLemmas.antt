-- A group that is read line by line.
use Rattle.std.proofs.Common.{◌≡◌, ◌∙◌, refl, sym, ap, ℕ, ◌<◌, List, [], ◌∷◌, length, Option, None, Result, Ok, Err, arith}
use Rattle.pmg_value.specs.declared.refusal.Refusal.{Refusal}
use Rattle.pmg_value.specs.declared.refusal.Refusal.TheVariants as refusals
use Rattle.pmg_jobinfo.specs.Jobs.{Jobs}
use Rattle.pmg_script.specs.Lines.{content}
use Rattle.pmg_script.specs.Reading.{lines}
use Rattle.pmg_script.specs.Scripts.{said}
use Rattle.pmg_script.proofs.ReplayLemmas.{no_lines}
use Rattle.pmg_grouptext.specs.Groups.{IsCutFrom, ReadsGroup, group_in, if_opened, then_lines, after_line, after_lines}
use Rattle.pmg_grouptext.proofs.LineLemmas.{lines_cut}

nothing : (left : List ℕ) → length left ≡ 0 → left ≡ []
nothing [] none = refl
nothing (x ∷ xs) none = absurd (omega (arith, none))

-- what was read of a text so far
abbrev pub IsSoFar : Option Jobs → List ℕ → List ℕ → Type 0
IsSoFar begun left text = after_lines begun (lines left) ≡ after_lines None (lines text)

-- no line is left
pub all_read : (begun : Option Jobs) (left text : List ℕ) → length left ≡ 0 → IsSoFar begun left text → group_in text ≡ if_opened (Ok begun)
all_read begun left text none so_far = ap if_opened (sym so_far ∙ ap (λ l. after_lines begun (lines l)) (nothing left none) ∙ ap (after_lines begun) no_lines)

module _ (begun : Option Jobs) (left line rest text : List ℕ) (some : 0 < length left) (cut : IsCutFrom left line rest) (so_far : IsSoFar begun left text) where
  next_line : after_lines None (lines text) ≡ then_lines (after_line begun (said (content line))) (λ more. after_lines more (lines rest))
  next_line = sym so_far ∙ ap (after_lines begun) (lines_cut left line rest some cut)

  -- one line more
  pub read_more : (more : Option Jobs) → after_line begun (said (content line)) ≡ Ok more → IsSoFar more rest text
  read_more more is = sym (next_line ∙ ap (λ r. then_lines r (λ m. after_lines m (lines rest))) is)

  -- a line is refused
  pub read_none : (e : Refusal) → after_line begun (said (content line)) ≡ Err e → group_in text ≡ Err e
  read_none e is = ap if_opened (next_line ∙ ap (λ r. then_lines r (λ m. after_lines m (lines rest))) is)

pub reads_none : {X Y : Type 0} (view : X → Y) (e : Refusal) (due : Result Y Refusal) → ((e ≡ refusals.NoMemory → ⊥) → due ≡ Err e) → ReadsGroup view (Err e) due
reads_none view refusals.NoMemory due refused = tt
reads_none view (refusals.BadFrame f) due refused = refused (λ is. cc)
reads_none view e due refused = refused (λ is. cc)
