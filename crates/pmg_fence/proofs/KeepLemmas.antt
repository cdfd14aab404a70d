-- A header that is there stays as it is.
use Rattle.std.proofs.Common.{◌≡◌, ℕ, Bool, true, false, ◌==◌, cond, List, [], ◌∷◌, ◌++◌, Option, Some, None, refl, sym, ap, ◌∙◌}
use Rattle.std.specs.FinMap as finite
use Rattle.std.specs.FinMap.{nat_cmp-IsAntisymmetric}
use Rattle.std.specs.Ordering.{eq_by_cmp, nat_cmp}
use Rattle.std.specs.Cmp.{Equal-is, nat_cmp_total}
use Rattle.pmg_value.specs.Signatures.{Signature, FenceName}
use Rattle.pmg_value.specs.declared.process.Proc.{Proc}
use Rattle.pmg_scope.specs.Scripts.{Call, commits}
use Rattle.pmg_frame.specs.Fences.{Header}
use Rattle.pmg_frame.specs.declared.local.Local.{Local}
use Rattle.pmg_jobinfo.specs.Jobs.{Jobs}
use Rattle.pmg_fence.specs.Codes.{Headers}
use Rattle.pmg_fence.specs.Entering.{entry_by, locals_of}
use Rattle.pmg_fence.specs.Tables.{Fence, Fences, series_at, is_old, fence_at, entry_at, own_header, header_at}
use Rattle.pmg_fence.specs.declared.entry.Entry.{Entry}
use Rattle.pmg_fence.specs.Changes.{fence_placed, forgotten, with_fence, next_name, noted_entry, entered_by, ended_by, fence_entered, fence_told, first_locals}
use Rattle.pmg_fence.specs.Rules.{FitsTable, Scripts, Grows, Keeps, with_call, LearnKeeps, HeaderKeeps, EnterKeeps, EndKeeps}
use Rattle.pmg_fence.proofs.HeaderLemmas.{by_proc, told_alike, told_stays}
use Rattle.pmg_fence.proofs.FitLemmas.{header_stays, own_header_is_true}
use Rattle.pmg_fence.proofs.OldLemmas.{old-forgotten, fence-forgotten, header-forgotten, headers-noted, old-entered, fence-entered, ends-entered}
use Rattle.pmg_fence.proofs.StepLemmas.{call_grows, enter_fits, end_fits, headers_placed, levels_placed, not_it}
use Rattle.pmg_fence.proofs.TableLemmas.{same_name, name_exact, fence-placed, ends-placed}

-- ---- one change

by_node : (b : Bool) (other node : ℕ) (x y o p : Option (List Local)) (ls : List Local) → (other == node) ≡ b → (x ≡ Some ls → y ≡ Some ls) → (o ≡ Some ls → p ≡ Some ls)
    → cond b x o ≡ Some ls → cond b y p ≡ Some ls
by_node true other node x y o p ls e own head is = own is
by_node false other node x y o p ls e own head is = head is

keeps_by : (jobs : Jobs) (node : ℕ) (t new : Fences) (f : FenceName) → (is_old new f ≡ false → (ls : List Local) → own_header jobs node t f ≡ Some ls → own_header jobs node new f ≡ Some ls)
    → (is_old new f ≡ false → (other : ℕ) (ls : List Local) → finite.get (fence_at t f).headers other ≡ Some ls → finite.get (fence_at new f).headers other ≡ Some ls) → Keeps jobs node t new f
unfolding header_at
keeps_by jobs node t new f own heads young other ls is =
    by_node (other == node) other node (own_header jobs node t f) (own_header jobs node new f) (finite.get (fence_at t f).headers other) (finite.get (fence_at new f).headers other) ls refl
    (own young ls) (heads young other ls) is

-- ---- a change that is nothing to own processes

same_own : (jobs : Jobs) (node : ℕ) (t new : Fences) (f : FenceName) → ((q : Proc) → finite.get (fence_at new f).levels q ≡ finite.get (fence_at t f).levels q) → new.ends ≡ t.ends
    → own_header jobs node new f ≡ own_header jobs node t f
unfolding own_header entry_at
same_own jobs node t new f levels ends =
    told_alike (entry_at new f) (entry_at t f) (locals_of jobs f node) (λ q i j. entry_by (levels q j) (finite.get (ends j) q))

-- what is forgotten changes no header of a fence that is not old
keeps_forgotten : (jobs : Jobs) (node : ℕ) (t new : Fences) (g : Signature) (f : FenceName) → Keeps jobs node t new f → Keeps jobs node t (forgotten new g) f
keeps_forgotten jobs node t new g f keeps young other ls is =
    let was : is_old new f ≡ false = sym (old-forgotten new g f) ∙ young in
    header-forgotten new g jobs node f was other ∙ keeps was other ls is

keeps_with : (jobs : Jobs) (node : ℕ) (t : Fences) (g : FenceName) (fence : Fence) (f : FenceName) → Keeps jobs node t (fence_placed t g fence (series_at t g.signature).counts) f → Keeps jobs node t (with_fence t g fence) f
keeps_with jobs node t g fence f keeps = by_old (is_old t g)
  where
    by_old : (b : Bool) → Keeps jobs node t (cond b t (forgotten (fence_placed t g fence (series_at t g.signature).counts) g.signature)) f
    by_old true = λ young other ls is. is
    by_old false = keeps_forgotten jobs node t (fence_placed t g fence (series_at t g.signature).counts) g.signature f keeps

pub learn_keeps : LearnKeeps
learn_keeps jobs node t g f =
    let counts = (series_at t g.signature).counts in
    let new = fence_placed t g (fence_at t g) counts in
    keeps_with jobs node t g (fence_at t g) f (keeps_by jobs node t new f
    (λ young ls is. same_own jobs node t new f (λ q. levels_placed t g (fence_at t g) counts q f refl) (ends-placed t g (fence_at t g) counts) ∙ is)
    (λ young other ls is. ap (λ m. finite.get m other) (headers_placed t g (fence_at t g) counts f refl) ∙ is))

still_first : (headers : Headers) (node : ℕ) (locals : List Local) (m : ℕ) (ls : List Local) (b : Bool) → eq_by_cmp nat_cmp m node ≡ b → finite.get headers m ≡ Some ls
    → cond b (Some (first_locals (finite.get headers node) locals)) (finite.get headers m) ≡ Some ls
still_first headers node locals m ls true e is =
    ap (λ (o : Option (List Local)). Some (first_locals o locals)) (ap (finite.get headers) (sym (nat_cmp-IsAntisymmetric m node ((Equal-is _).0 e))) ∙ is)
still_first headers node locals m ls false e is = is

told_still : (t : Fences) (h : Header) (f : FenceName) (other : ℕ) (ls : List Local) (b : Bool) → same_name f h.name ≡ b → finite.get (fence_at t f).headers other ≡ Some ls
    → finite.get (cond b (fence_told (fence_at t h.name) h.node h.locals) (fence_at t f)).headers other ≡ Some ls
told_still t h f other ls true e is =
    let headers = (fence_at t h.name).headers in
    finite.get-insert nat_cmp_total headers h.node (first_locals (finite.get headers h.node) h.locals) other
    ∙ still_first headers h.node h.locals other ls (eq_by_cmp nat_cmp other h.node) refl (ap (λ x. finite.get (fence_at t x).headers other) (sym (name_exact f h.name e)) ∙ is)
told_still t h f other ls false e is = is

pub header_keeps : HeaderKeeps
header_keeps jobs node t h f =
    let g = h.name in
    let fence = fence_told (fence_at t g) h.node h.locals in
    let counts = (series_at t g.signature).counts in
    let new = fence_placed t g fence counts in
    keeps_with jobs node t g fence f (keeps_by jobs node t new f
    (λ young ls is. same_own jobs node t new f (λ q. levels_placed t g fence counts q f refl) (ends-placed t g fence counts) ∙ is)
    (λ young other ls is. ap (λ (y : Fence). finite.get y.headers other) (fence-placed t g fence counts f) ∙ told_still t h f other ls (same_name f g) refl is))

-- ---- a call of an own process

own_still : (jobs : Jobs) (node : ℕ) (scripts grown : Scripts) (t new : Fences) (f : FenceName) → Grows scripts grown → FitsTable jobs node scripts t → FitsTable jobs node grown new
    → is_old t f ≡ false → is_old new f ≡ false → (ls : List Local) → own_header jobs node t f ≡ Some ls → own_header jobs node new f ≡ Some ls
own_still jobs node scripts grown t new f grows fits fits_new young still ls is =
    own_header_is_true jobs node grown new f fits_new still ∙ header_stays jobs scripts grown f node ls grows (sym (own_header_is_true jobs node scripts t f fits young) ∙ is)

headers_still : (t : Fences) (g : Signature) (p : Proc) (level : ℕ) (f : FenceName) → is_old (entered_by t g p level) f ≡ false → (fence_at (entered_by t g p level) f).headers ≡ (fence_at t f).headers
headers_still t g p level f young =
    ap (λ (y : Fence). y.headers) (fence-forgotten (noted_entry t g p level) g f (sym (old-forgotten (noted_entry t g p level) g f) ∙ young)) ∙ headers-noted t g p level f

pub enter_keeps : EnterKeeps
enter_keeps jobs node scripts t p g f home live fits =
    let level = commits (scripts p) in
    keeps_by jobs node t (entered_by t g p level) f
    (λ young. own_still jobs node scripts (with_call scripts p (Call.enter g)) t (entered_by t g p level) f (call_grows scripts p (Call.enter g)) fits (enter_fits jobs node scripts t p g home live fits)
    (old-entered t g p level f young) young)
    (λ young other ls is. ap (λ m. finite.get m other) (headers_still t g p level f young) ∙ is)

pub end_keeps : EndKeeps
unfolding fence_at series_at is_old
end_keeps jobs node scripts t p f home live fits =
    let last = commits (scripts p ++ Call.terminate ∷ []) in
    keeps_by jobs node t (ended_by t p last) f
    (λ young. own_still jobs node scripts (with_call scripts p Call.terminate) t (ended_by t p last) f (call_grows scripts p Call.terminate) fits (end_fits jobs node scripts t p home live fits) young young)
    (λ young other ls is. is)

-- ---- the same with no script: a process that stands to no fence so far comes to

not_told : (e : Entry) → None ≡ Some e → ⊥
not_told e is = cc

-- how each own process stood, it stands
own_lasts : (jobs : Jobs) (node : ℕ) (t new : Fences) (f : FenceName) → ((q : Proc) (e : Entry) → entry_at t f q ≡ Some e → entry_at new f q ≡ Some e)
    → (ls : List Local) → own_header jobs node t f ≡ Some ls → own_header jobs node new f ≡ Some ls
unfolding own_header
own_lasts jobs node t new f stays ls is = told_stays (entry_at t f) (entry_at new f) (locals_of jobs f node) stays ls is

module _ (jobs : Jobs) (node : ℕ) (t : Fences) (p : Proc) where
  module _ (g : Signature) (level : ℕ) (none : finite.get (fence_at t (next_name t g p)).levels p ≡ None) (live : finite.get t.ends p ≡ None) where
    abbrev its_fence : Fence
    its_fence = fence_entered (fence_at t (next_name t g p)) p level

    stands_by : (f : FenceName) (q : Proc) (e : Entry) (b : Bool) → same_name f (next_name t g p) ≡ b → entry_by (finite.get (fence_at t f).levels q) (finite.get t.ends q) ≡ Some e
        → entry_by (finite.get (cond b its_fence (fence_at t f)).levels q) (finite.get t.ends q) ≡ Some e
    stands_by f q e false other is = is
    stands_by f q e true same is =
        let name = name_exact f (next_name t g p) same in
        by_proc q p
        (λ its. absurd (not_told e (sym (λ i. entry_by (none i) (live i)) ∙ sym (λ i. entry_by (finite.get (fence_at t (name i)).levels (its i)) (finite.get t.ends (its i))) ∙ is)))
        (λ apart.
        ap (λ o. entry_by o (finite.get t.ends q)) (not_it p q (fence_at t (next_name t g p)).levels level apart ∙ ap (λ x. finite.get (fence_at t x).levels q) (sym name)) ∙ is)

    stands_still : (f : FenceName) (q : Proc) (e : Entry) → is_old (entered_by t g p level) f ≡ false → entry_at t f q ≡ Some e → entry_at (entered_by t g p level) f q ≡ Some e
    unfolding entry_at
    stands_still f q e young is =
        (λ i. entry_by (finite.get (fence-entered t g p level f young i).levels q) (finite.get (ends-entered t g p level i) q))
        ∙ stands_by f q e (same_name f (next_name t g p)) refl is

    -- an entry of a process that has not entered that fence, and has not ended
    pub enter_lasts : (f : FenceName) → Keeps jobs node t (entered_by t g p level) f
    enter_lasts f =
        keeps_by jobs node t (entered_by t g p level) f (λ young. own_lasts jobs node t (entered_by t g p level) f (λ q e. stands_still f q e young))
        (λ young other ls is. ap (λ m. finite.get m other) (headers_still t g p level f young) ∙ is)

  over_by : (o end last : Option ℕ) (e : Entry) → end ≡ None → entry_by o end ≡ Some e → entry_by o last ≡ Some e
  over_by (Some n) end last e none is = is
  over_by None end last e none is = absurd (not_told e (sym (ap (entry_by None) none) ∙ is))

  module _ (last : ℕ) (live : finite.get t.ends p ≡ None) where
    stood_still : (f : FenceName) (q : Proc) (e : Entry) → entry_at t f q ≡ Some e → entry_at (ended_by t p last) f q ≡ Some e
    unfolding entry_at fence_at series_at
    stood_still f q e is =
        by_proc q p
        (λ its. over_by (finite.get (fence_at t f).levels q) (finite.get t.ends q) (finite.get (finite.insert t.ends p last) q) e (ap (finite.get t.ends) its ∙ live) is)
        (λ apart. ap (entry_by (finite.get (fence_at t f).levels q)) (not_it p q t.ends last apart) ∙ is)

    -- the end of a process that has not ended
    pub end_lasts : (f : FenceName) → Keeps jobs node t (ended_by t p last) f
    unfolding fence_at series_at
    end_lasts f = keeps_by jobs node t (ended_by t p last) f (λ young. own_lasts jobs node t (ended_by t p last) f (stood_still f)) (λ young other ls is. is)
