-- The state of a node, as the value of a model.
use Rattle.std.proofs.Common.{◌≡◌, ◌⊎◌, ℕ, zero, suc, List, inl, inr, refl}
use Rattle.std.specs.Coded.{Coded, code_by, coded×, coded⊎, coded_ℕ, coded_list}
use Rattle.std.specs.FinMap as finite
use Rattle.pmg_value.specs.Process.{proc_cmp, coded_proc}
use Rattle.pmg_value.specs.Signatures.{FenceName}
use Rattle.pmg_value.specs.declared.process.Proc.{Proc}
use Rattle.pmg_commit.specs.Data.{Data, coded_data}
use Rattle.pmg_commit.specs.Sealed.{Sealed, coded_sealed}
use Rattle.pmg_frame.specs.Fences.{coded_name}
use Rattle.pmg_fence.specs.Codes.{coded_fences}
use Rattle.pmg_fence.specs.Tables.{Fences}
use Rattle.pmg_dmodex.specs.Levels.{Levels, coded_levels}
use Rattle.pmg_get.specs.Gets.{Outcome}
use Rattle.pmg_node_model.specs.Holdings.{Get, CallState, NodeState}
use Rattle.pmg_node_parts.specs.Sealers.{AllSealed, coded_all_sealed}

abbrev outcome_to : Outcome → List ℕ ⊎ ℕ
outcome_to (Outcome.found value) = inl value
outcome_to Outcome.absent = inr 0
outcome_to Outcome.outside = inr 1
outcome_to Outcome.parks = inr 2

abbrev outcome_from : List ℕ ⊎ ℕ → Outcome
outcome_from (inl value) = Outcome.found value
outcome_from (inr zero) = Outcome.absent
outcome_from (inr (suc zero)) = Outcome.outside
outcome_from (inr (suc (suc n))) = Outcome.parks

pub outcome_back : (o : Outcome) → outcome_from (outcome_to o) ≡ o
outcome_back (Outcome.found value) = refl
outcome_back Outcome.absent = refl
outcome_back Outcome.outside = refl
outcome_back Outcome.parks = refl

-- an outcome as its found value, or a number without one
abbrev pub coded_outcome : Coded Outcome
coded_outcome = code_by (List ℕ ⊎ ℕ) (coded⊎ (coded_list coded_ℕ) coded_ℕ) outcome_to outcome_from outcome_back

-- a get as a pair
abbrev pub coded_get : Coded Get
coded_get = code_by (Proc × List ℕ) (coded× coded_proc (coded_list coded_ℕ)) (λ g. (g.target, g.key)) (λ p. record { target = p.0; key = p.1 }) (λ _. refl)

-- the code of a process's call: a sum with one part for each kind of call
abbrev pub StandingCode : Type 0
StandingCode = ((FenceName ⊎ (FenceName × List Proc)) ⊎ (Get ⊎ (Get × Outcome))) ⊎ ((Get × ℕ) ⊎ (Get × Outcome))

abbrev standing_to : CallState → StandingCode
standing_to (CallState.in_fence f) = inl (inl (inl f))
standing_to (CallState.released f gone) = inl (inl (inr (f, gone)))
standing_to (CallState.parked get) = inl (inr (inl get))
standing_to (CallState.answered get outcome) = inl (inr (inr (get, outcome)))
standing_to (CallState.refreshing get number) = inr (inl (get, number))
standing_to (CallState.refreshed get outcome) = inr (inr (get, outcome))

abbrev standing_from : StandingCode → CallState
standing_from (inl (inl (inl f))) = CallState.in_fence f
standing_from (inl (inl (inr p))) = CallState.released p.0 p.1
standing_from (inl (inr (inl get))) = CallState.parked get
standing_from (inl (inr (inr p))) = CallState.answered p.0 p.1
standing_from (inr (inl p)) = CallState.refreshing p.0 p.1
standing_from (inr (inr p)) = CallState.refreshed p.0 p.1

pub standing_back : (s : CallState) → standing_from (standing_to s) ≡ s
standing_back (CallState.in_fence f) = refl
standing_back _ = refl

-- the call of a process, as such a sum
abbrev pub coded_standing : Coded CallState
coded_standing =
    code_by StandingCode
    (coded⊎ (coded⊎ (coded⊎ coded_name (coded× coded_name (coded_list coded_proc))) (coded⊎ coded_get (coded× coded_get coded_outcome)))
    (coded⊎ (coded× coded_get coded_ℕ) (coded× coded_get coded_outcome)))
    standing_to standing_from standing_back

-- the calls of own processes
abbrev pub Calls : Type 0
Calls = finite.FinMap proc_cmp CallState

-- the code of calls by process
abbrev pub coded_calls : Coded Calls
coded_calls = finite.code coded_proc coded_standing

-- the state of a node, as a tuple
abbrev pub coded_holding : Coded NodeState
coded_holding =
    code_by (Data × (Data × (AllSealed × (Sealed × (Fences × (Calls × (Levels × ℕ)))))))
    (coded× coded_data (coded× coded_data (coded× coded_all_sealed (coded× coded_sealed (coded× coded_fences (coded× coded_calls (coded× coded_levels coded_ℕ)))))))
    (λ h. (h.near, (h.far, (h.sealers, (h.sets, (h.table, (h.calls, (h.held, h.requests))))))))
    (λ p. record {
      near = p.0;
      far = p.1.0;
      sealers = p.1.1.0;
      sets = p.1.1.1.0;
      table = p.1.1.1.1.0;
      calls = p.1.1.1.1.1.0;
      held = p.1.1.1.1.1.1.0;
      requests = p.1.1.1.1.1.1.1;
    }) (λ _. refl)
