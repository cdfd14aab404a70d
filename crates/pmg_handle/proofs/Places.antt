-- The machine value of a `Place`, and the steps by which a walk makes one and takes one apart. Assumes `Logic`.
-- Only `held` and `place` name the value's type and this crate: for another type these two lines change, and nothing else here.
--     R, Z, LZ                      the value that lies at the pointer, and the allocator, as rows; the allocator's laws
--     Place, Loose, fields          a place and a loose box of the value, as rows; the MIR types of the fields of either
--     place_good                    a pointer and an allocator are the machine value of a place
--     value_of                      the value that there is
--     place_out                     a place that has a value is [the value with the right to free its block; the allocator]
--     place_with, place_empty       the way back; and a place that has none
use Rattle.std.proofs.Common.{◌≡◌, ℕ, List, [], ◌∷◌, ◌++◌, refl, sym, subst, Option, Some, None, IsSome, true≢false}
use seplogic.Ra.Ura.{Ura}
use mir.Syntax.{Tys, impl, ty_ptr, tcons, tnil, dnil}
use mir.Raw.{raw as bare}
use mir.Val.{Val, vptr, vnull, vstruct, of_list, has_ty}
use base.Logic.{never, fst∗}
use types.Logic.{Logic, sem}
use types.Kit.{Item, Goal, Seq, Step, step, ‵, ◌$◌, move, drop, fsplit, fjoin, fpick, fpack, rewrite, feq_i, feq_l}
use denote.RattleType.{RattleType, Valss}
use denote.Builtin.{RawPtr}
use denote.Memory.{lone}
use denote.RawPtr.{Ptr, block_ptr, null_ptr, ptr_val, in_a_block}
use denote.Steps.{nothing}
use denote.Param.{layout}
use denote.Param.Laws.{Laws}
use denote.Struct.Struct.{within}
use denote.Struct.Owning.{shape}
use Rattle.core.proofs.alloc.Calls.{Al, handle_tells}
use Rattle.core.proofs.atomic.Steps.{Ptr-Good}
use Rattle.core.proofs.cell.Inside.{Good}
use Rattle.std.specs.contracts.alloc.Global as heap
use Rattle.std.proofs.alloc.Global.TheLaws as heap_laws
use Rattle.std.specs.contracts.impls.GlobalAllocator.TheImpl.{ghosts}
use Rattle.std_alloc.specs.Box.Ownership.{box_owns}
use Rattle.std_alloc.proofs.ResultValues.{and_tt}
use Rattle.pmg_handle.proofs.Values.{both}
use Rattle.pmg_handle.specs.contracts.loose.Loose as loose
use Rattle.pmg_daemon.specs.contracts.daemon.Daemon as held
use Rattle.pmg_handle.specs.BoxedAt.{boxed_at}
use Rattle.pmg_handle.specs.contracts.place.Place as place

abbrev pub R : RattleType
R = held.the_row

abbrev pub Z : RattleType
Z = heap.the_row

abbrev pub LZ : Laws Z
LZ = heap_laws.the_row_laws

abbrev pub Place : RattleType
Place = place.the_row

abbrev pub Loose : RattleType
Loose = loose.the_row R Z ghosts

abbrev al : Al
al = record { row = Z; laws = LZ; g = ghosts; d = impl [] tnil dnil; drops = impl [] tnil dnil }

abbrev pub fields : Tys
fields = tcons ty_ptr (tcons (layout Z) tnil)

pub place_good : (p : Ptr) (h : Val) → Good (layout Z) h → Good (layout Place) (both (ptr_val p) h)
place_good null_ptr h fits = (and_tt (has_ty (layout Z) h) fits.0, ((Ptr-Good null_ptr).1, (fits.1, tt)))
place_good (block_ptr b o) h fits = (and_tt (has_ty (layout Z) h) fits.0, (tt, (fits.1, tt)))

pub value_of : {X : Type 0} (k : Option X) → IsSome k → (x : X) × (k ≡ Some x)
value_of None some = absurd (true≢false (sym some))
value_of (Some x) some = (x, refl)

module _ {M : Type 1} {𝓤 : Ura M} {𝓛 : Logic 𝓤} {K : Type 0} {Γ : List (Item 𝓤)} {G : Goal 𝓤 𝓛.H} where
  pub place_out : K → (d : Place.Denot) (vs : List Val) (x : R.Denot) → d.value ≡ Some x
      → ((b o : ℕ) (h : Val) → vs ≡ both (vptr b o) h ∷ [] → Good (layout Z) h → Seq K 𝓛 (‵ (box_owns (ghosts.dealloc_token d.alloc) R (block_ptr b o) x) ∷ ‵ (Z.own_val d.alloc (h ∷ [])) ∷ Γ) G)
      → Seq K 𝓛 (‵ (Place.own_val d vs) ∷ Γ) G
  place_out t d vs x is k =
      fsplit t $ fpick t (λ vss. fsplit t $ feq_l t (λ ev. fsplit t $ feq_l t (λ ep. fsplit t $ handle_tells al t d.alloc vss.1.0 (λ h ea fits. move t (1 ∷ []) $ drop t $ move t (1 ∷ []) $
      rewrite t 0 (λ (k : Option R.Denot). ‵ (boxed_at R d.alloc d.at k)) is refl $
      in_a_block t d.at (λ p. box_owns (ghosts.dealloc_token d.alloc) R p x) (fst∗ 𝓤 (never 𝓤) (sem 𝓛 (ghosts.dealloc_token d.alloc (bare (lone R.mir)) null_ptr))) (λ b o e. k b o h
      (subst (λ (p : Ptr). vs ≡ vstruct (of_list (ptr_val p ∷ h ∷ [])) ∷ []) e
      (subst (λ (ws : List Val). vs ≡ vstruct (of_list (ptr_val d.at ∷ (ws ++ []))) ∷ []) ea (subst (λ (ps : List Val). vs ≡ vstruct (of_list (ps ++ (vss.1.0 ++ []))) ∷ []) ep ev))) fits)))))

  place_in : K → (p : Ptr) (h : Val) (a : Z.Denot) (k : Option R.Denot)
      → Step K 𝓛 (‵ (Place.own_val (record { at = p; alloc = a; value = k }) (both (ptr_val p) h ∷ [])) ∷ Γ) G (‵ (boxed_at R a p k) ∷ ‵ (Z.own_val a (h ∷ [])) ∷ Γ) G
  place_in t p h a k = step (λ s. let v : Val = both (ptr_val p) h in
      nothing t $ move t (2 ∷ 0 ∷ []) $ fjoin t $ feq_i t (List Val) (ptr_val p ∷ []) (ptr_val p ∷ []) refl $ fjoin t $ feq_i t (List Val) (v ∷ []) (v ∷ []) refl $ fjoin t $
      fpack t (Valss (RawPtr ∷ Z ∷ [])) (within (shape place.the_type) (p, ((heap.the_field).into a, tt)) (v ∷ [])) (ptr_val p ∷ [], (h ∷ [], tt)) $ fjoin t $ s)

  pub place_with : K → (b o : ℕ) (h : Val) (a : Z.Denot) (x : R.Denot)
      → Step K 𝓛 (‵ (Place.own_val (record { at = block_ptr b o; alloc = a; value = Some x }) (both (vptr b o) h ∷ [])) ∷ Γ) G (‵ (box_owns (ghosts.dealloc_token a) R (block_ptr b o) x) ∷ ‵ (Z.own_val a (h ∷ [])) ∷ Γ) G
  place_with t b o h a x = place_in t (block_ptr b o) h a (Some x)

  pub place_empty : K → (h : Val) (a : Z.Denot)
      → Step K 𝓛 (‵ (Place.own_val (record { at = null_ptr; alloc = a; value = None }) (both vnull h ∷ [])) ∷ Γ) G (‵ (Z.own_val a (h ∷ [])) ∷ Γ) G
  place_empty t h a = step (λ s. nothing t $ place_in t null_ptr h a None $ s)
