-- What the nodes of the examples keep of the fence, and what they tell of it.
use Rattle.std.proofs.Common.{◌≡◌, ◌≤◌, ℕ, suc, Bool, true, false, ◌&&◌, not, nat_le, nat_lt, cond, List, [], ◌∷◌, Option, Some, None, refl, sym, ap, ◌∙◌, arith}
use Rattle.std.proofs.lemmas.Bool.{false≢true}
use Rattle.std.proofs.lemmas.Bool.Decides.{nat_tests}
use Rattle.std.specs.FinMap as finite
use Rattle.std.specs.List.{list_all, filter}
use Rattle.std.specs.Ordering.{nat_cmp}
use Rattle.std.specs.Cmp.{nat_cmp_total}
use Rattle.pmg_value.specs.Process.{proc_cmp}
use Rattle.pmg_value.specs.Signatures.{FenceName}
use Rattle.pmg_value.specs.declared.process.Proc.{Proc}
use Rattle.pmg_value.proofs.ProcessOrder.{procs_total, exact_procs}
use Rattle.pmg_frame.specs.declared.local.Local.{Local}
use Rattle.pmg_frame.specs.declared.local.State.{State}
use Rattle.pmg_frame.specs.declared.local.State.TheVariants as states
use Rattle.pmg_frame.specs.Fences.{Header, header, is_gone}
use Rattle.pmg_jobinfo.specs.Jobs.{Jobs}
use Rattle.pmg_fence.specs.Changes.{fence_placed, with_counts, forgotten, with_fence, next_name, counts_entered, noted_entry, entered_by, present, with_header, fence_entered, fence_told, first_locals, ended_by}
use Rattle.pmg_fence.specs.Entering.{local_of, entered, gone, told_locals, locals_of, entry_by}
use Rattle.pmg_fence.specs.Tables.{Fence, Fences, no_fence, no_fences, fence_of, series_at, is_old, has_name, fence_at, own_header, header_at, told_of, entry_in, entry_at, is_covered, is_ready, gone_by, says_gone}
use Rattle.pmg_fence.specs.declared.entry.Entry.{Entry}
use Rattle.pmg_fence.proofs.NewsLemmas.{name_itself}
use Rattle.pmg_fence.proofs.OldLemmas.{old-forgotten, fence-with, name-with, name_with, ends-with, fence-entered, name-entered, name_entered}
use Rattle.pmg_fence.proofs.StepLemmas.{no_names, new_fence, no_counts}
use Rattle.pmg_fence.proofs.Trees.{get_put}
use Rattle.pmg_fence.proofs.TableLemmas.{same_name, name_exact, old_there}
use Rattle.pmg_group_model.specs.Examples.{two, j0, j1, meeting}
use Rattle.pmg_group_model.proofs.Naming.{present_has_name}
use Rattle.pmg_group_model.proofs.Turned.{no_top}
use Rattle.pmg_group_model.proofs.ExampleGroup.{home_of_j0, home_of_j1, who_meets, locals_at_0, locals_at_1}

-- ---- what is told of the two processes

-- the process at node 0 entered or ended after one commit
abbrev pub after_one : State → Entry
after_one state = record { state = state; level = 1 }

abbrev pub lines_of_0 : State → List Local
lines_of_0 state = local_of j0 (after_one state) ∷ []

abbrev pub lines_of_1 : List Local
lines_of_1 = local_of j1 (entered 0) ∷ []

abbrev pub header_of_0 : State → Header
header_of_0 state = header 0 meeting (lines_of_0 state)

abbrev pub header_of_1 : Header
header_of_1 = header 1 meeting lines_of_1

-- who is gone then
abbrev pub gone_then : State → List Proc
gone_then state = cond (is_gone state) (j0 ∷ []) []

-- ---- node 0: its process has ended; then the fence is heard of

abbrev pub ended_table : Fences
ended_table = ended_by no_fences j0 1

abbrev pub heard_table : Fences
heard_table = with_header ended_table header_of_1

-- a table without names tells nothing
nameless : (jobs : Jobs) (node : ℕ) (t : Fences) (f : FenceName) → has_name t f ≡ false → present jobs node t f ≡ None
unfolding present
nameless jobs node t f none = ap (λ b. cond b (own_header jobs node t f) None) none

pub nothing_told : (node : ℕ) (f : FenceName) → present two node no_fences f ≡ None
nothing_told node f = nameless two node no_fences f (no_names f)

pub nothing_told_then : (f : FenceName) → present two 0 ended_table f ≡ None
unfolding has_name series_at
nothing_told_then f = nameless two 0 ended_table f (no_names f)

-- where one fence alone can have a name, no other is told of
module _ (node : ℕ) (t : Fences) (names : (f : FenceName) → has_name t f ≡ true → f ≡ meeting) where
  pub only_meeting : (f : FenceName) (locals : List Local) → present two node t f ≡ Some locals → f ≡ meeting
  only_meeting f locals e = names f (present_has_name two node t f locals e)

-- the one name that came
one_name : (t : Fences) (f x : FenceName) → ((y : FenceName) → has_name t y ≡ true → y ≡ x) → cond (same_name f x) true (has_name t f) ≡ true → f ≡ x
one_name t f x names e = by_test (same_name f x) refl e
  where
    by_test : (b : Bool) → same_name f x ≡ b → cond b true (has_name t f) ≡ true → f ≡ x
    by_test true same has = name_exact f x same
    by_test false other has = names f has

nothing_named : (t : Fences) → ((f : FenceName) → has_name t f ≡ false) → (f : FenceName) → has_name t f ≡ true → f ≡ meeting
nothing_named t none f has = absurd (false≢true (sym (none f) ∙ has))

-- ---- what is not old

not_old_new : (f : FenceName) → is_old no_fences f ≡ false
unfolding is_old
not_old_new f = ap (nat_lt (suc f.instance)) (no_top f.signature) ∙ grind (arith, nat_tests)

pub not_old_ended : (f : FenceName) → is_old ended_table f ≡ false
unfolding is_old series_at
not_old_ended f = not_old_new f

-- a fence that is not old is not when something of it comes to be known
not_old_with : (t : Fences) (f : FenceName) (fence : Fence) → is_old t f ≡ false → is_old (with_fence t f fence) f ≡ false
not_old_with t f fence young = by_old (is_old t f) young
  where
    by_old : (b : Bool) → b ≡ false → is_old (cond b t (forgotten (fence_placed t f fence (series_at t f.signature).counts) f.signature)) f ≡ false
    by_old true e = absurd cc
    by_old false e = old-forgotten (fence_placed t f fence (series_at t f.signature).counts) f.signature f ∙ old_there t f fence (series_at t f.signature).counts young

-- what is known of the fence then
known_with : (t : Fences) (f : FenceName) (fence : Fence) → is_old (with_fence t f fence) f ≡ false → fence_at (with_fence t f fence) f ≡ fence
known_with t f fence young = fence-with t f fence f young ∙ ap (λ b. cond b fence (fence_at t f)) (name_itself f)

named_with : (t : Fences) (f : FenceName) (fence : Fence) → is_old (with_fence t f fence) f ≡ false → has_name (with_fence t f fence) f ≡ true
named_with t f fence young = name-with t f fence f young ∙ ap (λ b. cond b true (has_name t f)) (name_itself f)

entry_with_fence : (t : Fences) (f : FenceName) (fence : Fence) → is_old (with_fence t f fence) f ≡ false → (q : Proc)
    → entry_at (with_fence t f fence) f q ≡ entry_by (finite.get fence.levels q) (finite.get t.ends q)
unfolding entry_at
entry_with_fence t f fence young q = (λ i. entry_by (finite.get (known_with t f fence young i).levels q) (finite.get (ends-with t f fence i) q))

-- the own header, where these are the entries
present_is : (node : ℕ) (t : Fences) (p : Proc) (e : Entry) → has_name t meeting ≡ true → locals_of two meeting node ≡ p ∷ [] → entry_at t meeting p ≡ Some e
    → present two node t meeting ≡ Some (local_of p e ∷ [])
unfolding present own_header
present_is node t p e named locals is =
    ap (λ b. cond b (own_header two node t meeting) None) named ∙ ap (told_locals (entry_at t meeting)) locals
    ∙ ap (λ (o : Option Entry). told_locals (λ _. o) (p ∷ [])) is

-- ---- node 0, once it has the other one's header

unnamed_then : (f : FenceName) → has_name ended_table f ≡ false
unfolding has_name series_at
unnamed_then f = no_names f

abbrev heard_fence : Fence
heard_fence = fence_told (fence_at ended_table meeting) 1 lines_of_1

heard_young : is_old heard_table meeting ≡ false
heard_young = not_old_with ended_table meeting heard_fence (not_old_ended meeting)

heard_names : (f : FenceName) → has_name heard_table f ≡ true → f ≡ meeting
heard_names f has = one_name ended_table f meeting (nothing_named ended_table unnamed_then) (name_with ended_table meeting heard_fence f has)

pub heard_only : (f : FenceName) (locals : List Local) → present two 0 heard_table f ≡ Some locals → f ≡ meeting
heard_only = only_meeting 0 heard_table heard_names

level_heard : finite.get (fence_at ended_table meeting).levels j0 ≡ None
unfolding fence_at series_at
level_heard = ap (λ (x : Fence). finite.get x.levels j0) (new_fence meeting) ∙ finite.get-empty proc_cmp j0

entry_heard : entry_at heard_table meeting j0 ≡ Some (gone 1)
entry_heard =
    entry_with_fence ended_table meeting heard_fence heard_young j0 ∙ (λ i. entry_by (level_heard i) (finite.get-insert procs_total finite.empty j0 1 j0 i))

pub heard_is : present two 0 heard_table meeting ≡ Some (lines_of_0 states.Gone)
heard_is = present_is 0 heard_table j0 (gone 1) (named_with ended_table meeting heard_fence heard_young) locals_at_0 entry_heard

-- ---- a node, once its process has entered

module _ (p : Proc) (level : ℕ) where
  abbrev pub entered_table : Fences
  entered_table = entered_by no_fences meeting.signature p level

  abbrev entered_fence : Fence
  entered_fence = fence_entered no_fence p level

  -- the fence that it entered
  pub its_name : next_name no_fences meeting.signature p ≡ meeting
  its_name = ap (λ n. fence_of meeting.signature (suc n)) (no_counts meeting.signature p)

  noted_young : (b : Bool) → is_old no_fences (next_name no_fences meeting.signature p) ≡ b
      → is_old (cond b (with_counts no_fences meeting.signature (counts_entered no_fences meeting.signature p))
      (fence_placed no_fences (next_name no_fences meeting.signature p) (fence_entered (fence_at no_fences (next_name no_fences meeting.signature p)) p level) (counts_entered no_fences meeting.signature p)))
      (next_name no_fences meeting.signature p) ≡ false
  noted_young true e = absurd (false≢true (sym (not_old_new (next_name no_fences meeting.signature p)) ∙ e))
  noted_young false e =
      old_there no_fences (next_name no_fences meeting.signature p) (fence_entered (fence_at no_fences (next_name no_fences meeting.signature p)) p level) (counts_entered no_fences meeting.signature p)
      (not_old_new (next_name no_fences meeting.signature p))

  pub entered_young : is_old entered_table meeting ≡ false
  entered_young =
      ap (is_old entered_table) (sym its_name) ∙ old-forgotten (noted_entry no_fences meeting.signature p level) meeting.signature (next_name no_fences meeting.signature p)
      ∙ noted_young (is_old no_fences (next_name no_fences meeting.signature p)) refl

  pub entered_names : (f : FenceName) → has_name entered_table f ≡ true → f ≡ meeting
  entered_names f has =
      one_name no_fences f meeting (nothing_named no_fences no_names)
      (ap (λ x. cond (same_name f x) true (has_name no_fences f)) (sym its_name) ∙ name_entered no_fences meeting.signature p level f has)

  pub entered_only : (id : ℕ) (f : FenceName) (locals : List Local) → present two id entered_table f ≡ Some locals → f ≡ meeting
  entered_only id = only_meeting id entered_table entered_names

  known_entered : fence_at entered_table meeting ≡ entered_fence
  known_entered =
      fence-entered no_fences meeting.signature p level meeting entered_young
      ∙ (λ i. cond (same_name meeting (its_name i)) (fence_entered (fence_at no_fences (its_name i)) p level) (fence_at no_fences meeting))
      ∙ ap (λ b. cond b (fence_entered (fence_at no_fences meeting) p level) (fence_at no_fences meeting)) (name_itself meeting)
      ∙ ap (λ x. fence_entered x p level) (new_fence meeting)

  named_entered : has_name entered_table meeting ≡ true
  named_entered =
      name-entered no_fences meeting.signature p level meeting entered_young
      ∙ ap (λ x. cond (same_name meeting x) true (has_name no_fences meeting)) its_name ∙ ap (λ b. cond b true (has_name no_fences meeting)) (name_itself meeting)

  level_entered : finite.get (fence_at entered_table meeting).levels p ≡ Some level
  level_entered = ap (λ (x : Fence). finite.get x.levels p) known_entered ∙ get_put procs_total exact_procs finite.empty p level

  entry_entered : entry_at entered_table meeting p ≡ Some (entered level)
  unfolding entry_at
  entry_entered = ap (λ (o : Option ℕ). entry_by o (finite.get entered_table.ends p)) level_entered

  pub entered_is : (id : ℕ) → locals_of two meeting id ≡ p ∷ [] → present two id entered_table meeting ≡ Some (local_of p (entered level) ∷ [])
  entered_is id at = present_is id entered_table p (entered level) named_entered at entry_entered

  no_header : (node : ℕ) → finite.get (fence_at entered_table meeting).headers node ≡ None
  no_header node = ap (λ (x : Fence). finite.get x.headers node) known_entered ∙ finite.get-empty nat_cmp node

  -- when the other one's header comes, no other own header comes to exist
  module _ (id from : ℕ) (lines : List Local) (at : locals_of two meeting id ≡ p ∷ []) where
    names_told : (f : FenceName) → has_name (with_header entered_table (header from meeting lines)) f ≡ true → f ≡ meeting
    names_told f has = one_name entered_table f meeting entered_names (name_with entered_table meeting (fence_told (fence_at entered_table meeting) from lines) f has)

    pub told_before : (f : FenceName) (locals : List Local) → present two id (with_header entered_table (header from meeting lines)) f ≡ Some locals
        → present two id entered_table f ≡ None → ⊥
    told_before f locals now before = there (sym (entered_is id at) ∙ ap (present two id entered_table) (sym (only_meeting id (with_header entered_table (header from meeting lines)) names_told f locals now)) ∙ before)
      where
        there : Some (local_of p (entered level) ∷ []) ≡ None → ⊥
        there e = cc

-- ---- node 1: what it is told of the two

told_of_j0 : (t : Fences) → told_of two 1 t meeting j0 ≡ entry_in j0 (finite.get (fence_at t meeting).headers 0)
unfolding told_of header_at
told_of_j0 t = ap (λ n. entry_in j0 (header_at two 1 t meeting n)) home_of_j0

told_of_j1 : (t : Fences) → told_of two 1 t meeting j1 ≡ entry_in j1 (own_header two 1 t meeting)
unfolding told_of header_at
told_of_j1 t = ap (λ n. entry_in j1 (header_at two 1 t meeting n)) home_of_j1

not_ready : (t : Fences) (level : Proc → ℕ) → is_covered true (level j0) (told_of two 1 t meeting j0) ≡ false → is_ready two 1 t meeting level ≡ false
unfolding is_ready
not_ready t level bare =
    ap (λ b. not (is_old t meeting) && b)
    (ap (list_all (λ q. is_covered true (level q) (told_of two 1 t meeting q))) who_meets
    ∙ ap (λ b. b && (is_covered true (level j1) (told_of two 1 t meeting j1) && true)) bare)
    ∙ and_false (not (is_old t meeting))
  where
    and_false : (b : Bool) → (b && false) ≡ false
    and_false true = refl
    and_false false = refl

-- while it has its own header alone
pub not_ready_before : (level : Proc → ℕ) → is_ready two 1 (entered_table j1 0) meeting level ≡ false
not_ready_before level = not_ready (entered_table j1 0) level (ap (is_covered true (level j0)) (told_of_j0 (entered_table j1 0) ∙ ap (entry_in j0) (no_header j1 0 0)))

within : (n : ℕ) → 1 ≤ n → nat_le 1 n ≡ true
within n low = grind (arith, nat_tests)

least : (n : ℕ) → nat_le 0 n ≡ true
least n = grind (arith, nat_tests)

-- once it has the other one's header
module _ (state : State) where
  abbrev pub told_table : Fences
  told_table = with_header (entered_table j1 0) (header_of_0 state)

  abbrev told_fence : Fence
  told_fence = fence_told (fence_at (entered_table j1 0) meeting) 0 (lines_of_0 state)

  pub told_young : is_old told_table meeting ≡ false
  told_young = not_old_with (entered_table j1 0) meeting told_fence (entered_young j1 0)

  header_came : finite.get (fence_at told_table meeting).headers 0 ≡ Some (lines_of_0 state)
  header_came =
      ap (λ (x : Fence). finite.get x.headers 0) (known_with (entered_table j1 0) meeting told_fence told_young)
      ∙ finite.get-insert nat_cmp_total (fence_at (entered_table j1 0) meeting).headers 0 (first_locals (finite.get (fence_at (entered_table j1 0) meeting).headers 0) (lines_of_0 state)) 0
      ∙ ap (λ (o : Option (List Local)). Some (first_locals o (lines_of_0 state))) (no_header j1 0 0)

  header_told : told_of two 1 told_table meeting j0 ≡ Some (after_one state)
  header_told = told_of_j0 told_table ∙ ap (entry_in j0) header_came

  entry_told : entry_at told_table meeting j1 ≡ Some (entered 0)
  entry_told = entry_with_fence (entered_table j1 0) meeting told_fence told_young j1 ∙ ap (λ (o : Option ℕ). entry_by o (finite.get (entered_table j1 0).ends j1)) (level_entered j1 0)

  own_told : own_header two 1 told_table meeting ≡ Some lines_of_1
  unfolding own_header
  own_told = ap (told_locals (entry_at told_table meeting)) locals_at_1 ∙ ap (λ (o : Option Entry). told_locals (λ _. o) (j1 ∷ [])) entry_told

  entered_told : told_of two 1 told_table meeting j1 ≡ Some (entered 0)
  entered_told = told_of_j1 told_table ∙ ap (entry_in j1) own_told

  pub not_ready_below : (level : Proc → ℕ) → level j0 ≡ 0 → is_ready two 1 told_table meeting level ≡ false
  not_ready_below level none = not_ready told_table level (λ i. is_covered true (none i) (header_told i))

  pub ready_then : (level : Proc → ℕ) → 1 ≤ level j0 → is_ready two 1 told_table meeting level ≡ true
  unfolding is_ready
  ready_then level low =
      (λ i. not (told_young i) && list_all (λ q. is_covered true (level q) (told_of two 1 told_table meeting q)) (who_meets i))
      ∙ (λ i. is_covered true (level j0) (header_told i) && (is_covered true (level j1) (entered_told i) && true))
      ∙ (λ i. within (level j0) low i && (least (level j1) i && true))

  pub gone_are : gone_by two 1 told_table meeting ≡ gone_then state
  unfolding gone_by
  gone_are =
      ap (filter (λ q. says_gone (told_of two 1 told_table meeting q))) who_meets
      ∙ (λ i. cond (says_gone (header_told i)) (j0 ∷ cond (says_gone (entered_told i)) (j1 ∷ []) []) (cond (says_gone (entered_told i)) (j1 ∷ []) []))
