-- `empty` puts null and the allocator together.
use Rattle.std.proofs.Common.{◌≡◌, List, [], ◌∷◌, ◌++◌, refl, sym, subst, Option, None}
use mir.Val.{Val, vnull}
use base.Logic.{SProp, ent, emp, id⊢}
use base.Fml.{ftrue}
use prog.Wp.{WpFn}
use types.Kit.{‵, raw, ◌⊛◌, ◌$◌, ◌∵◌, !, qed, by, move, keep, split, fsplit, fjoin, suffices, use0, rewrite}
use types.Run.{lit, no_more, and_then, returns, enter}
use types.ByLocal.{alloc_all, pass_all, free_all, look_at, get, sets}
use types.Part.{agg}
use contract.Monad.{fact, fact_i}
use contract.Running.{tables}
use denote.Exit.{yes}
use denote.RattleType.{owns}
use denote.RawPtr.{null_ptr}
use denote.Signature.{types_at, plain}
use denote.Steps.{nothing}
use denote.Param.{layout}
use denote.Triple.Walked.{Stays, stay_dropped, walk_of, Goes-dropped}
use Rattle.core.proofs.cell.Inside.{one}
use Rattle.std.proofs.raw_atomic.Walks.{proved_at, leaves}
use Rattle.pmg_handle.proofs.Values.{both}
use Rattle.pmg_handle.proofs.Places.{R, Z, LZ, place_good, place_empty}
use Rattle.pmg_handle.specs.contracts.place.Place.empty as f
use Rattle.pmg_handle.proofs.place.Place.empty.Statement.{statement}
use Rattle.pmg_handle.proofs.place.Place.empty.Code as code

abbrev stayed : Stays f.ended.signature.params f.ended.kept
stayed = (stay_dropped (plain (λ _. Z)) yes, tt)

pub empty_spec : {M : Type 1} → statement M
empty_spec 𝓤 𝓛 𝓜 𝓡 wired =
    let 𝓣 = tables 𝓤 𝓛.H 𝓜 𝓡 𝓡.env in let c = f.clauses 𝓛 𝓜.mem 𝓡.returns in
    proved_at 𝓛 f.ended stayed c 𝓜 𝓡 (Goes-dropped 𝓛 0 (plain (λ _. Z)) yes (λ κs x w. refl), tt) f.Key.name code.function (code.unfolded 𝓤 𝓛.H 𝓜 𝓡 wired) (λ z are.
    let a = z.0.3.0 in let Post : Val → SProp 𝓤 = (walk_of 𝓛 f.ended stayed c).post z in let Run : List Val → SProp 𝓤 = λ ws. WpFn 𝓤 𝓛.H 𝓣.C 𝓣.Λ code.function ws Post in
    let h = one (layout Z) z.0.4.0 ((LZ.lawful 𝓛).typed a z.0.4.0 are.0) in let made = place_good null_ptr h.0 h.2 in let none : Option R.Denot = None in
    qed 𝓛 ((‵ ftrue ⊛ ‵ (owns (types_at f.signature.params z.0.0) z.0.3 z.0.4)) ∷ raw (emp 𝓤) ∷ []) ∵ split ! $ move ! (1 ∷ []) $ fsplit ! $
    rewrite ! 0 (λ (us : List Val). ‵ (Z.own_val a us)) h.1 refl $ place_empty ! h.0 a $
    -- [the place; nothing; no token; no requires]
    suffices ! (Run (h.0 ∷ [])) (subst (λ (us : List Val). ent 𝓤 (Run (h.0 ∷ [])) (Run us)) (sym (λ i. h.1 i ++ [])) (id⊢ 𝓤 (Run (h.0 ∷ [])))) $
    enter ! 𝓣.C 𝓣.Λ code.function (h.0 ∷ []) Post $ alloc_all ! (λ l. pass_all ! refl (h.2, tt) $
    -- Place { at: null_mut(), alloc }
    sets ! (agg ! (and_then ! (lit ! tt) (and_then ! (get ! refl) (no_more !)))) refl made $
    use0 𝓛 (raw (fact 𝓤 (none ≡ none))) (fact_i 𝓤 (none ≡ none) (emp 𝓤) refl) $ nothing ! $ nothing ! $ fjoin ! $
    returns ! (look_at ! 0 refl) $ free_all ! refl $ keep ! (4 ∷ 0 ∷ 2 ∷ 1 ∷ []) $
    by ! (leaves 𝓛 f.ended stayed c z (both vnull h.0) (record { at = null_ptr; alloc = a; value = none }) (tt, tt) (tt, tt))))
