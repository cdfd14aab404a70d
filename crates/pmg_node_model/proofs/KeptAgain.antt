-- Which calls are looked at again once a content has changed.
use Rattle.std.proofs.Common.{◌≡◌, ℕ, Bool, true, false, cond, not, ◌&&◌, List, [], ◌∷◌, Option, Some, None, inl, inr, refl, sym, ap, ◌∙◌}
use Rattle.std.specs.Prelude.{if◌then◌else◌, ◌==◌}
use Rattle.std.specs.FinMap as finite
use Rattle.std.specs.FinSet as set
use Rattle.std.specs.List.{list_all}
use Rattle.std.specs.Ordering.{eq_by_cmp, is_eq}
use Rattle.std.specs.Cmp.{Equal-is}
use Rattle.std.proofs.lemmas.Bool.{false≢true}
use Rattle.std.proofs.lemmas.Cmp.{tied_itself}
use Rattle.pmg_value.specs.Lists.{In}
use Rattle.pmg_value.specs.Maps.{join_options}
use Rattle.pmg_value.specs.Process.{proc_cmp}
use Rattle.pmg_value.specs.Signatures.{Signature, FenceName}
use Rattle.pmg_value.specs.declared.process.Proc.{Proc}
use Rattle.pmg_value.proofs.MapLemmas.{get-join_maps}
use Rattle.pmg_value.proofs.ProcessOrder.{procs_total, exact_procs}
use Rattle.pmg_commit.specs.Cores.{Core, core_of, join_cores}
use Rattle.pmg_commit.specs.Data.{Data, absorbed, of_contribution, known, knowledge_in, level_at}
use Rattle.pmg_commit.specs.Knowledge.{Contribution, knowledge_of, read}
use Rattle.pmg_commit.specs.Levels.{level}
use Rattle.pmg_commit.specs.Sealed.{Sealed}
use Rattle.pmg_frame.specs.FenceOrder.{name_cmp, name_total}
use Rattle.pmg_get.specs.Gets.{Outcome, resolve}
use Rattle.pmg_get.specs.declared.view.Mode.TheVariants as modes
use Rattle.pmg_jobinfo.specs.Jobs.{Jobs, home_of}
use Rattle.pmg_frame.specs.Fences.{Header, participants_of}
use Rattle.pmg_fence.specs.Changes.{fence_placed, with_counts, forgotten, fence_told, learned, with_header, next_name, entered_by, ended_by}
use Rattle.pmg_fence.specs.Kept.{fence_changed, counts_noted, noted_by, placed_by}
use Rattle.pmg_fence.specs.declared.change.Change.{Change}
use Rattle.pmg_fence.specs.declared.change.Change.TheVariants as changes
use Rattle.pmg_fence.specs.Entering.{same_proc, entry_by, locals_of}
use Rattle.pmg_fence.specs.Tables.{Numbers, Fence, Fences, series_at, is_old, fence_at, entry_at, own_header, header_at, told_of, entry_in, is_covered, is_ready, gone_by}
use Rattle.pmg_fence.proofs.HeaderLemmas.{told_alike, filter_in}
use Rattle.pmg_fence.proofs.OldLemmas.{never_ready, told_of_alike, old-counts, fence-counts, ends-counts, old-forgotten, fence-forgotten, ends-forgotten}
use Rattle.pmg_fence.proofs.TableLemmas.{same_name, fence-placed, old-placed, ends-placed}
use Rattle.pmg_node_model.specs.Holdings.{Get, CallState, NodeState, call_of, is_ready_at, answer_in, seen_of, with_far, with_table, called, uncalled, sealing, mapped, released_by, settled_by, settle, settled, with_calls}
use Rattle.pmg_node_model.specs.Kept.{is_about, is_in, settle_where, DiffersAt, DiffersIn, SettledOn, SettledNames}
use Rattle.pmg_node_model.proofs.KeptBasics.{put_cases, removed_some, put_other}
use Rattle.pmg_node_model.proofs.KeptActs.{listed_part}
use Rattle.pmg_node_model.proofs.KeptSettled.{mapped_alike}
use Rattle.pmg_node_model.proofs.ChoosingNews.{by_name}

-- ---- calls that stay

-- where the fence of each call that is not looked at is not ready, and its get has no answer, such a call stays
settled_where : (jobs : Jobs) (id : ℕ) (g : NodeState) (looks : CallState → Bool)
    → ((p : Proc) (f : FenceName) → call_of g p ≡ Some (CallState.in_fence f) → looks (CallState.in_fence f) ≡ false → is_ready_at jobs id g f ≡ false)
    → ((p : Proc) (get : Get) → call_of g p ≡ Some (CallState.parked get) → looks (CallState.parked get) ≡ false → answer_in jobs id g get modes.Wait ≡ Outcome.parks)
    → settled jobs id g ≡ with_calls g (mapped (settle_where jobs id g looks) g.calls)
settled_where jobs id g looks unready unanswered = ap (with_calls g) (mapped_alike g.calls (settle jobs id g) (settle_where jobs id g looks) (λ p s e. by_look p s e (looks s) refl))
  where
    stays : (p : Proc) (s : CallState) → call_of g p ≡ Some s → looks s ≡ false → settle jobs id g s ≡ s
    stays p (CallState.in_fence f) e apart = ap (λ b. released_by b f (gone_by jobs id g.table f)) (unready p f e apart)
    stays p (CallState.parked get) e apart = ap (settled_by get) (unanswered p get e apart)
    stays p _ e apart = refl

    by_look : (p : Proc) (s : CallState) → call_of g p ≡ Some s → (b : Bool) → looks s ≡ b → settle jobs id g s ≡ (if b then settle jobs id g s else s)
    by_look p s e true t = refl
    by_look p s e false t = stays p s e t

all_alike : {A : Type 0} (p q : A → Bool) (xs : List A) → ((x : A) → In x xs → p x ≡ q x) → list_all p xs ≡ list_all q xs
all_alike p q [] same = refl
all_alike p q (x ∷ xs) same = λ i. same x (inl refl) i && all_alike p q xs (λ y j. same y (inr j)) i

not_part : (f : FenceName) (q p : Proc) → set.contains f.signature.participants q ≡ false → In p (participants_of f) → same_proc p q ≡ false
not_part f q p none i = by_test (same_proc p q) refl
  where
    by_test : (b : Bool) → same_proc p q ≡ b → b ≡ false
    by_test false e = refl
    by_test true e = absurd (false≢true (sym none ∙ ap (set.contains f.signature.participants) (sym (exact_procs p q ((Equal-is _).0 e))) ∙ listed_part f p i))

-- where that is so of two fences of which neither is old, one is as ready as the other
covered_alike : (jobs : Jobs) (id : ℕ) (h g : NodeState) (f : FenceName) → is_old g.table f ≡ false → is_old h.table f ≡ false → ((p : Proc) → In p (participants_of f) → known g.far p ≡ known h.far p)
    → ((p : Proc) → told_of jobs id g.table f p ≡ told_of jobs id h.table f p) → is_ready_at jobs id g f ≡ is_ready_at jobs id h f
unfolding is_ready
covered_alike jobs id h g f young was far said =
    let all =
    all_alike (λ p. is_covered f.signature.collect (level_at g.far p) (told_of jobs id g.table f p)) (λ p. is_covered f.signature.collect (level_at h.far p) (told_of jobs id h.table f p))
    (participants_of f) (λ p i j. is_covered f.signature.collect (level (far p i j).numbers) (said p j)) in
    λ i. not ((young ∙ sym was) i) && all i

-- a fence that was not ready is not, where it is old, or is told the same, of processes of which the same is known
still_unready : (jobs : Jobs) (id : ℕ) (h g : NodeState) (f : FenceName) → (is_old g.table f ≡ false → is_old h.table f ≡ false) → ((p : Proc) → In p (participants_of f) → known g.far p ≡ known h.far p)
    → ((p : Proc) → is_old g.table f ≡ false → told_of jobs id g.table f p ≡ told_of jobs id h.table f p) → is_ready_at jobs id h f ≡ false → is_ready_at jobs id g f ≡ false
still_unready jobs id h g f was far said before = by_old (is_old g.table f) refl
  where
    by_old : (b : Bool) → is_old g.table f ≡ b → is_ready_at jobs id g f ≡ false
    by_old true old = never_ready jobs id g.table f (level_at g.far) old
    by_old false young = covered_alike jobs id h g f young (was young) far (λ p. said p young) ∙ before

-- a get of a key of a process of which the same is known is answered alike
answer_alike : (jobs : Jobs) (id : ℕ) (h g : NodeState) (get : Get) → known g.near get.target ≡ known h.near get.target → known g.far get.target ≡ known h.far get.target
    → answer_in jobs id g get modes.Wait ≡ answer_in jobs id h get modes.Wait
answer_alike jobs id h g get near far = λ i. resolve (seen_of jobs id (read (near i)) (read (far i)) get) modes.Wait

pub settled_on : SettledOn
settled_on jobs id q h g is differs =
    settled_where jobs id g (is_about q)
    (λ p f e apart.
    still_unready jobs id h g f (differs.old f) (λ x i. differs.far x (not_part f q x apart i)) (λ x young. differs.told f x young apart)
    (is.fences p f (differs.calls p (CallState.in_fence f) e apart)))
    (λ p get e apart.
    answer_alike jobs id h g get (differs.near get.target apart) (differs.far get.target apart) ∙ is.gets p get (differs.calls p (CallState.parked get) e apart))

pub settled_names : SettledNames
settled_names jobs id f h g is differs =
    settled_where jobs id g (is_in f)
    (λ p x e apart.
    still_unready jobs id h g x (differs.old x) (λ y i. ap (λ d. known d y) differs.far) (λ y young. differs.told x y young apart)
    (is.fences p x (differs.calls p (CallState.in_fence x) e apart)))
    (λ p get e apart.
    answer_alike jobs id h g get (ap (λ d. known d get.target) differs.near) (ap (λ d. known d get.target) differs.far) ∙ is.gets p get (differs.calls p (CallState.parked get) e apart))

-- ---- what each change leaves

join_nothing : (o : Option Core) → join_options join_cores o None ≡ o
join_nothing None = refl
join_nothing (Some c) = refl

-- a contribution tells nothing of other processes
pub known_other : (d : Data) (c : Contribution) (p : Proc) → same_proc p c.proc ≡ false → known (absorbed d c) p ≡ known d p
unfolding known of_contribution
known_other d c p other =
    ap knowledge_in
    (get-join_maps procs_total join_cores d (of_contribution c) p
    ∙ ap (join_options join_cores (finite.get d p)) (put_other finite.empty c.proc p (core_of (knowledge_of c)) other ∙ finite.get-empty proc_cmp p)
    ∙ join_nothing (finite.get d p))

module _ (jobs : Jobs) (id : ℕ) (h : NodeState) where
  -- a piece
  pub piece_differs : (c : Contribution) → DiffersAt jobs id c.proc h (with_far h (absorbed h.far c))
  piece_differs c = record {
    calls = λ p s e apart. e;
    near = λ p other. refl;
    far = λ p other. known_other h.far c p other;
    old = λ f young. young;
    told = λ f p young none. refl;
  }

  -- a commit
  pub sealing_differs : (p : Proc) (z : Sealed) → z.proc ≡ p → DiffersAt jobs id p h (sealing h p z)
  sealing_differs p z its = record {
    calls = λ q s e apart. e;
    near = λ q other. known_other h.near _ q (ap (same_proc q) its ∙ other);
    far = λ q other. known_other h.far _ q (ap (same_proc q) its ∙ other);
    old = λ f young. young;
    told = λ f q young none. refl;
  }

  -- an end: who takes no part in a fence tells nothing of it
  ended_told : (q : Proc) (last : ℕ) (f : FenceName) (p : Proc) → set.contains f.signature.participants q ≡ false → told_of jobs id (ended_by h.table q last) f p ≡ told_of jobs id h.table f p
  unfolding told_of header_at own_header entry_at fence_at series_at locals_of
  ended_told q last f p none =
      let own : own_header jobs id (ended_by h.table q last) f ≡ own_header jobs id h.table f =
      told_alike (entry_at (ended_by h.table q last) f) (entry_at h.table f) (locals_of jobs f id)
      (λ x i. ap (entry_by (finite.get (fence_at h.table f).levels x)) (put_other h.table.ends q x last (not_part f q x none (filter_in (λ y. home_of jobs y == id) (participants_of f) x i).0))) in
      ap (λ o. entry_in p (if home_of jobs p == id then o else finite.get (fence_at h.table f).headers (home_of jobs p))) own

  -- and makes nothing old
  ended_old : (q : Proc) (last : ℕ) (f : FenceName) → is_old (ended_by h.table q last) f ≡ false → is_old h.table f ≡ false
  unfolding is_old series_at
  ended_old q last f young = young

  pub end_differs : (p : Proc) (z : Sealed) → z.proc ≡ p → DiffersAt jobs id p h (uncalled (with_table (sealing h p z) (ended_by h.table p z.level)) p)
  end_differs p z its = record {
    calls = λ q s e apart. removed_some h.calls p q s e;
    near = λ q other. known_other h.near _ q (ap (same_proc q) its ∙ other);
    far = λ q other. known_other h.far _ q (ap (same_proc q) its ∙ other);
    old = λ f young. ended_old p z.level f young;
    told = λ f q young none. ended_told p z.level f q none;
  }

  -- ---- a change of one fence

  -- how a table changes that tells the same of all other fences that are not old
  record ChangesIn (f : FenceName) (t : Fences) : Type 0 where
    old : (x : FenceName) → is_old t x ≡ false → is_old h.table x ≡ false
    fences : (x : FenceName) → is_old t x ≡ false → same_name x f ≡ false → fence_at t x ≡ fence_at h.table x
    ends : t.ends ≡ h.table.ends

  noted_changes : (f : FenceName) (change : Change) → ChangesIn f (noted_by h.table f change)
  noted_changes f change = by_old (is_old h.table f)
    where
      fence : Fence
      fence = fence_changed (fence_at h.table f) change

      counts : Numbers
      counts = counts_noted h.table f change

      by_old : (b : Bool) → ChangesIn f (cond b (with_counts h.table f.signature counts) (fence_placed h.table f fence counts))
      by_old true = record {
        old = λ x young. sym (old-counts h.table f.signature counts x) ∙ young;
        fences = λ x young other. fence-counts h.table f.signature counts x;
        ends = ends-counts h.table f.signature counts;
      }
      by_old false = record {
        old = old-placed h.table f fence counts;
        fences = λ x young other. fence-placed h.table f fence counts x ∙ ap (λ b. cond b fence (fence_at h.table x)) other;
        ends = ends-placed h.table f fence counts;
      }

  -- so it does where what the change made old is forgotten
  placed_changes : (f : FenceName) (change : Change) → ChangesIn f (placed_by h.table f change)
  placed_changes f change =
      let mid = noted_by h.table f change in
      let noted = noted_changes f change in
      record {
        old = λ x young. noted.old x (sym (old-forgotten mid f.signature x) ∙ young);
        fences = λ x young other. let still = sym (old-forgotten mid f.signature x) ∙ young in fence-forgotten mid f.signature x still ∙ noted.fences x still other;
        ends = ends-forgotten mid f.signature ∙ noted.ends;
      }

  changed_told : (f : FenceName) (change : Change) (x : FenceName) (p : Proc) → is_old (placed_by h.table f change) x ≡ false → eq_by_cmp name_cmp x f ≡ false
      → told_of jobs id (placed_by h.table f change) x p ≡ told_of jobs id h.table x p
  changed_told f change x p young apart =
      let changed = placed_changes f change in
      by_name x f (λ same. absurd (false≢true (sym apart ∙ ap (eq_by_cmp name_cmp x) (sym same) ∙ ap is_eq (tied_itself name_total x))))
      (λ other. told_of_alike jobs id h.table (placed_by h.table f change) x (changed.fences x young other) changed.ends p)

  -- a header, or a name
  pub change_differs : (f : FenceName) (change : Change) → DiffersIn jobs id f h (with_table h (placed_by h.table f change))
  change_differs f change = record {
    calls = λ p s e apart. e;
    near = refl;
    far = refl;
    old = (placed_changes f change).old;
    told = changed_told f change;
  }

  -- an entry
  pub enter_differs : (f : FenceName) (change : Change) (p : Proc) → DiffersIn jobs id f h (called (with_table h (placed_by h.table f change)) p (CallState.in_fence f))
  enter_differs f change p = record {
    calls = λ q s e apart. put_cases h.calls p q (CallState.in_fence f) s e
        (λ same is. absurd (false≢true (sym apart ∙ ap (is_in f) (sym is) ∙ ap is_eq (tied_itself name_total f)))) (λ there. there);
    near = refl;
    far = refl;
    old = (placed_changes f change).old;
    told = changed_told f change;
  }

-- ---- the changes that acts make

-- a name is learned of a fence that is not old
pub learned_changed : (t : Fences) (f : FenceName) → is_old t f ≡ false → learned t f ≡ placed_by t f changes.Learned
learned_changed t f young =
    let counts = (series_at t f.signature).counts in
    let new = fence_placed t f (fence_at t f) counts in
    ap (λ b. cond b t (forgotten new f.signature)) young ∙ sym (ap (λ b. forgotten (cond b (with_counts t f.signature counts) new) f.signature) young)

-- a header comes of one
pub header_changed : (t : Fences) (hd : Header) → is_old t hd.name ≡ false → with_header t hd ≡ placed_by t hd.name (changes.Told hd)
header_changed t hd young =
    let f = hd.name in
    let counts = (series_at t f.signature).counts in
    let new = fence_placed t f (fence_told (fence_at t f) hd.node hd.locals) counts in
    ap (λ b. cond b t (forgotten new f.signature)) young ∙ sym (ap (λ b. forgotten (cond b (with_counts t f.signature counts) new) f.signature) young)

-- a process enters
pub entry_changed : (t : Fences) (g : Signature) (p : Proc) (level : ℕ) → entered_by t g p level ≡ placed_by t (next_name t g p) (changes.Entered p level)
entry_changed t g p level = refl
