-- Own headers that come to exist as a table changes.
use Rattle.std.proofs.Common.{◌≡◌, ℕ, Bool, true, false, cond, List, map, Option, Some, None, is_some, inl, refl, sym, ap, subst, ◌∙◌}
use Rattle.std.specs.Prelude.{if◌then◌else◌}
use Rattle.std.specs.FinMap as finite
use Rattle.std.specs.FinMap.{nat_cmp-IsAntisymmetric}
use Rattle.std.specs.Option.{unwrap_or}
use Rattle.std.specs.Ordering.{nat_cmp}
use Rattle.std.proofs.lemmas.Bool.{false≢true}
use Rattle.pmg_value.specs.Lists.{In}
use Rattle.pmg_value.specs.Signatures.{Signature, FenceName}
use Rattle.pmg_value.specs.declared.process.Proc.{Proc}
use Rattle.pmg_value.proofs.ListLemmas.{in_map}
use Rattle.pmg_frame.specs.Fences.{header}
use Rattle.pmg_frame.specs.declared.local.Local.{Local}
use Rattle.pmg_frame.proofs.FenceOrderLemmas.{signatures_exact}
use Rattle.pmg_jobinfo.specs.Jobs.{Jobs}
use Rattle.pmg_fence.specs.Changes.{with_fence, next_name, fence_entered, entered_by, present, newly, news}
use Rattle.pmg_fence.specs.Tables.{Fence, Series, Fences, fence_of, no_series, series_at, has_name, is_old, fence_at, own_header, names_of}
use Rattle.pmg_fence.proofs.OldLemmas.{present_alike, fence-with, name-with, ends-with, fence-entered, name-entered, ends-entered}
use Rattle.pmg_fence.proofs.TableLemmas.{same_name, name_exact}
use Rattle.pmg_node_model.specs.Kept.{HasTwo}
use Rattle.pmg_node_model.proofs.Forgetting.{known_names, entry_names}
use Rattle.pmg_node_model.proofs.KeptBasics.{entry_listed}
use Rattle.pmg_value.proofs.MadeLists.{in_flat}

-- two names are one or are told apart
pub by_name : (x f : FenceName) {P : Type 0} → (x ≡ f → P) → (same_name x f ≡ false → P) → P
by_name x f {P} one other = choose (same_name x f) refl
  where
    choose : (b : Bool) → same_name x f ≡ b → P
    choose true e = one (name_exact x f e)
    choose false e = other e

if_there : (b : Bool) (o : Option (List Local)) (ls : List Local) → (if b then o else None) ≡ Some ls → b ≡ true
if_there true o ls e = refl
if_there false o ls e = absurd cc

-- an own header that is there is of a name that is there
pub present_named : (jobs : Jobs) (id : ℕ) (t : Fences) (f : FenceName) (ls : List Local) → present jobs id t f ≡ Some ls → has_name t f ≡ true
unfolding present
present_named jobs id t f ls e = if_there (has_name t f) (own_header jobs id t f) ls e

-- of two tables that have no more than two fences of a signature, where the second knows the same of a fence unless it is old, its
-- own header in the second is that in the first
present_was : (jobs : Jobs) (id : ℕ) (t new : Fences) (x : FenceName) (ls : List Local) → HasTwo new
    → (is_old new x ≡ false → (fence_at new x ≡ fence_at t x) × (has_name new x ≡ has_name t x)) → new.ends ≡ t.ends → present jobs id new x ≡ Some ls → present jobs id t x ≡ Some ls
present_was jobs id t new x ls two same ends now =
    let its = same (two x (present_named jobs id new x ls now)).0 in
    sym (present_alike jobs id t new x its.0 ends its.1) ∙ now

-- a change of one fence brings no own header of another
pub present_with : (jobs : Jobs) (id : ℕ) (t : Fences) (f : FenceName) (fence : Fence) → HasTwo t → (x : FenceName) (ls : List Local) → same_name x f ≡ false
    → present jobs id (with_fence t f fence) x ≡ Some ls → present jobs id t x ≡ Some ls
present_with jobs id t f fence two x ls other =
    present_was jobs id t (with_fence t f fence) x ls ((known_names (λ _. Unit {0}) t f fence tt).two two)
    (λ young. (fence-with t f fence x young ∙ ap (λ b. cond b fence (fence_at t x)) other, name-with t f fence x young ∙ ap (λ b. cond b true (has_name t x)) other))
    (ends-with t f fence)

-- nor does an entry
pub present_entered : (jobs : Jobs) (id : ℕ) (t : Fences) (g : Signature) (p : Proc) (level : ℕ) → HasTwo t → (x : FenceName) (ls : List Local) → same_name x (next_name t g p) ≡ false
    → present jobs id (entered_by t g p level) x ≡ Some ls → present jobs id t x ≡ Some ls
present_entered jobs id t g p level two x ls other =
    let fence = fence_entered (fence_at t (next_name t g p)) p level in
    present_was jobs id t (entered_by t g p level) x ls ((entry_names (λ _. Unit {0}) t g p level tt).two two)
    (λ young. (fence-entered t g p level x young ∙ ap (λ b. cond b fence (fence_at t x)) other, name-entered t g p level x young ∙ ap (λ b. cond b true (has_name t x)) other))
    (ends-entered t g p level)

-- where an own header comes to exist it is among the news
pub news_has : (jobs : Jobs) (id : ℕ) (old new : Fences) (f : FenceName) (locals : List Local) → present jobs id new f ≡ Some locals → present jobs id old f ≡ None
    → In (header id f locals) (news jobs id old new f)
unfolding news
news_has jobs id old new f locals now before = subst (λ hs. In (header id f locals) hs) (λ i. newly id f (sym before i) (sym now i)) (inl refl)

pub keyed : (g : Signature) (k : ℕ) (o : Option Series) → is_some (finite.get (unwrap_or o no_series).fences k) ≡ true → (s : Series) × (o ≡ Some s) × (x : Fence) × (finite.get s.fences k ≡ Some x)
keyed g k None there = absurd (false≢true (sym (ap is_some (finite.get-empty nat_cmp k)) ∙ there))
keyed g k (Some s) there = let found = some_there (finite.get s.fences k) there in (s, refl, found.0, found.1)
  where
    some_there : (o : Option Fence) → is_some o ≡ true → (x : Fence) × (o ≡ Some x)
    some_there None e = absurd (false≢true e)
    some_there (Some x) e = (x, refl)

-- a name that is there is listed
pub name_listed : (t : Fences) (f : FenceName) → has_name t f ≡ true → In f (names_of t)
unfolding has_name series_at
name_listed t f there =
    let found = keyed f.signature f.instance (finite.get t.series f.signature) there in
    in_flat (λ e. map (fence_of e.0) (finite.keys e.1.fences)) (finite.entries t.series) (f.signature, found.0) f
    (entry_listed signatures_exact t.series f.signature found.0 found.1)
    (in_map (fence_of f.signature) (finite.keys found.0.fences) f.instance
    (in_map (λ e. e.0) (finite.entries found.0.fences) (f.instance, found.2) (entry_listed nat_cmp-IsAntisymmetric found.0.fences f.instance found.2 found.3)))
