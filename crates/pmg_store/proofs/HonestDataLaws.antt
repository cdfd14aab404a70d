-- Honest data stays honest, and is read honestly.
use Rattle.std.proofs.Common.{◌≡◌, ◌≤◌, ℕ, Bool, true, false, List, [], ◌∷◌, ◌++◌, refl, sym, ap, subst, ◌∙◌}
use Rattle.std.specs.Prelude.{if◌then◌else◌}
use Rattle.pmg_value.specs.Lists.{Each}
use Rattle.pmg_value.specs.declared.process.Proc.{Proc}
use Rattle.pmg_scope.specs.declared.scope.Reach.{Reach}
use Rattle.pmg_scope.specs.Scripts.{Script, commits, value_at}
use Rattle.pmg_commit.specs.Knowledge.{Contribution, Knowledge, nothing, union, knowledge_of, core, read}
use Rattle.pmg_commit.specs.Levels.{level}
use Rattle.pmg_commit.specs.CoreLaws.{level-union, numbers-core}
use Rattle.pmg_commit.specs.Honest.{IsHonest, known_from}
use Rattle.pmg_commit.specs.Data.{Data, absorbed, of_contribution, join_data, known, level_at}
use Rattle.pmg_commit.proofs.HonestLaws.{honest_reading, honest_stays, level_is_made}
use Rattle.pmg_commit.proofs.Joining.{unions_assoc, unions_comm, union_nothing, core_of_union, core-nothing, known_together}
use Rattle.pmg_commit.proofs.ReadLaws.{read-core}
use Rattle.pmg_store.specs.HonestData.{IsHonestData, EmptyIsHonest, AbsorbedIsHonest, JoinedIsHonest, LongerIsHonest, HonestDataReads, HonestLevelIsMade, LevelsRise}
use Rattle.pmg_store.specs.Pieces.{is_of, piece_knowledge}
use Rattle.pmg_store.proofs.Telling.{known-empty, known_by}

pub empty_is_honest : EmptyIsHonest
empty_is_honest s r p = record { told = []; honest = tt; is = known-empty p ∙ sym core-nothing }

told_now : (c : Contribution) (p : Proc) (b : Bool) → is_of p c ≡ b → piece_knowledge p c ≡ (if b then knowledge_of c else nothing)
told_now c p b e = ap (λ (x : Bool). if x then knowledge_of c else nothing) e

-- what is known once a contribution was taken
known_now : (d : Data) (c : Contribution) (p : Proc) (k : Knowledge) → known d p ≡ core k → known (absorbed d c) p ≡ core (union (piece_knowledge p c) k)
known_now d c p k e =
    known_together d (of_contribution c) p ∙ (λ i. core (union (e i) (known_by c p i))) ∙ sym (core_of_union k (piece_knowledge p c))
    ∙ ap core (unions_comm k (piece_knowledge p c))

pub absorbed_is_honest : AbsorbedIsHonest
absorbed_is_honest s r p d c own h = by_own (is_of p c) refl where
  by_own : (b : Bool) → is_of p c ≡ b → IsHonestData s r p (absorbed d c)
  by_own true e = record {
    told = c ∷ h.told;
    honest = (own e, h.honest);
    is = known_now d c p (known_from h.told) h.is ∙ ap (λ k. core (union k (known_from h.told))) (told_now c p true e);
  }
  by_own false e = record {
    told = h.told;
    honest = h.honest;
    is = known_now d c p (known_from h.told) h.is ∙ ap (λ k. core (union k (known_from h.told))) (told_now c p false e)
        ∙ ap core (union_nothing (known_from h.told));
  }

from_both : (xs ys : List Contribution) → known_from (xs ++ ys) ≡ union (known_from xs) (known_from ys)
from_both [] ys = sym (union_nothing (known_from ys))
from_both (c ∷ xs) ys = ap (union (knowledge_of c)) (from_both xs ys) ∙ sym (unions_assoc (knowledge_of c) (known_from xs) (known_from ys))

each_of_both : (s : Script) (r : Reach) (xs ys : List Contribution) → Each (IsHonest s r) xs → Each (IsHonest s r) ys → Each (IsHonest s r) (xs ++ ys)
each_of_both s r [] ys h k = k
each_of_both s r (c ∷ xs) ys h k = (h.0, each_of_both s r xs ys h.1 k)

pub joined_is_honest : JoinedIsHonest
joined_is_honest s r p d e h k = record {
  told = h.told ++ k.told;
  honest = each_of_both s r h.told k.told h.honest k.honest;
  is = known_together d e p ∙ (λ i. core (union (h.is i) (k.is i))) ∙ sym (core_of_union (known_from h.told) (known_from k.told))
      ∙ ap core (sym (from_both h.told k.told));
}

each_later : (s later : Script) (r : Reach) (cs : List Contribution) → Each (IsHonest s r) cs → Each (IsHonest (s ++ later) r) cs
each_later s later r [] h = tt
each_later s later r (c ∷ cs) h = (honest_stays s later r c h.0, each_later s later r cs h.1)

pub longer_is_honest : LongerIsHonest
longer_is_honest s later r p d h = record { told = h.told; honest = each_later s later r h.told h.honest; is = h.is }

same_level : (d : Data) (p : Proc) (k : Knowledge) → known d p ≡ core k → level_at d p ≡ level k.numbers
same_level d p k is = ap (λ (m : Knowledge). level m.numbers) is ∙ ap level (numbers-core k)

pub honest_data_reads : HonestDataReads
honest_data_reads s r p d h key =
    let k = known_from h.told in
    ap (λ (m : Knowledge). read m key) h.is ∙ read-core k key ∙ honest_reading s r h.told h.honest key
    ∙ ap (λ n. value_at s n r key) (sym (same_level d p k h.is))

pub honest_level_is_made : HonestLevelIsMade
honest_level_is_made s r p d h =
    let within : ℕ → Type 0 = λ n. n ≤ commits s in
    subst within (sym (same_level d p (known_from h.told) h.is)) (level_is_made s r h.told h.honest)

pub levels_rise : LevelsRise
levels_rise d e p =
    let k = union (known d p) (known e p) in
    let above : ℕ → Type 0 = λ n. level (known d p).numbers ≤ n in
    subst above (sym (same_level (join_data d e) p k (known_together d e p))) (level-union (known d p) (known e p))
