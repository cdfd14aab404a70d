-- Lists whose items fit their indexes, and what the first processes told.
use Rattle.std.proofs.Common.{◌≡◌, ℕ, suc, ◌+◌, ◌<◌, List, [], ◌∷◌, ◌++◌, length, take, get_or, sym, ap, subst, ◌∙◌, arith}
use Rattle.std.proofs.lemmas.List.{length-append, length-map, length-take-le, take_more}
use Rattle.pmg_value.specs.declared.process.Proc.{Proc}
use Rattle.pmg_journal.specs.declared.transcript.Transcript.{Transcript}
use Rattle.pmg_threads.specs.declared.program.Report.{Report}
use Rattle.pmg_threads.specs.Running.{FitFrom, TellAll}

module _ {X : Type 0} (P : ℕ → X → Type 0) where
  -- one more at the end fits where the list ends
  pub fit_more : (n : ℕ) (xs : List X) (x : X) → FitFrom P n xs → P (n + length xs) x → FitFrom P n (xs ++ x ∷ [])
  fit_more n [] x fit last = (subst (λ k. P k x) (let e : n + 0 ≡ n = omega arith in e) last, tt)
  fit_more n (y ∷ ys) x fit last =
      (fit.0, fit_more (n + 1) ys x fit.1 (subst (λ k. P k x) (let e : n + suc (length ys) ≡ n + 1 + length ys = omega arith in e) last))

  -- the list without its last one fits, and the last one where it ends
  pub fit_less : (n : ℕ) (xs : List X) (x : X) → FitFrom P n (xs ++ x ∷ []) → FitFrom P n xs × P (n + length xs) x
  fit_less n [] x fit = (tt, subst (λ k. P k x) (let e : n ≡ n + 0 = omega arith in e) fit.0)
  fit_less n (y ∷ ys) x fit =
      let rest = fit_less (n + 1) ys x fit.1 in
      ((fit.0, rest.0), subst (λ k. P k x) (let e : n + 1 + length ys ≡ n + suc (length ys) = omega arith in e) rest.1)

-- where the first processes have told all, and then the next one, so have the first ones with it
pub tell_next : (ps : List Proc) (k : ℕ) (p : Proc) (rs : List Report) (ts : List Transcript) → k < length ps → get_or ps k p ≡ p → TellAll (take k ps ++ p ∷ []) rs ts
    → TellAll (take (length rs) ps) rs ts × (length rs ≡ k + 1)
tell_next ps k p rs ts less is told =
    let front : length (take k ps) ≡ k = length-take-le k ps (omega (arith, less)) in
    let count : length rs ≡ k + 1 = sym (length-map rs (λ (r : Report). r.proc)) ∙ ap length told.reports ∙ length-append (take k ps) (p ∷ []) ∙ ap (λ n. n + 1) front in
    let next : take (k + 1) ps ≡ take k ps ++ p ∷ [] = take_more ps k p less ∙ ap (λ q. take k ps ++ q ∷ []) is in
    (subst (λ qs. TellAll qs rs ts) (sym (ap (λ n. take n ps) count ∙ next)) told, count)
