-- Numbers of processes.
use Rattle.std.proofs.Common.{◌≡◌, ℕ, suc, false, nat_lt, Option, ◌∙◌, arith}
use Rattle.std.proofs.lemmas.Bool.Decides.{nat_tests}
use Rattle.std.specs.FinMap as finite
use Rattle.pmg_value.specs.declared.process.Proc.{Proc}
use Rattle.pmg_value.specs.Rows.{put_back}
use Rattle.pmg_value.proofs.ProcessOrder.{procs_total, exact_procs}
use Rattle.pmg_value.proofs.RowLemmas.{inserted_back}
use Rattle.pmg_fence.specs.Tables.{Numbers}

-- what a process had before it got a number, given back
pub number_put : (old new : Numbers) (p q : Proc) (n : ℕ) (before : Option ℕ) → q ≡ p → new ≡ finite.insert old p n → before ≡ finite.get old p → put_back new q before ≡ old
number_put old new p q n before same is was = (λ i. put_back (is i) (same i) before) ∙ inserted_back procs_total exact_procs old p n before was

-- no instance lies below the first
pub none_below : (n : ℕ) → nat_lt (suc n) 0 ≡ false
none_below n = grind (arith, nat_tests)
