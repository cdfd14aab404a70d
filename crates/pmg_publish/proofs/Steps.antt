-- Each step at the board keeps the rule.
use Rattle.std.proofs.Common.{◌≡◌, ℕ, ◌≢◌, List, [], ◌∷◌, ◌++◌, fold, set, refl, ap, sym, ◌∙◌, subst, ⊎_elim}
use Rattle.std.specs.List.{flat_map}
use Rattle.std.proofs.lemmas.List.{append-nil}
use Rattle.std.proofs.lemmas.Grind.{flat_map-append}
use mathlib.Core.Option.{some}
use mathlib.Core.List.{IsPrefix}
use lib.ListN.{get_elem?}
use Rattle.left_right.specs.Register.{Admits, TurnsAt, Turns, Forks, Merges}
use Rattle.atomic_table.proofs.Lists.{at_set, at_snoc}
use Rattle.pmg_commit.specs.Knowledge.{Contribution}
use Rattle.pmg_commit.specs.Data.{join_data}
use Rattle.pmg_store.specs.Pieces.{data_of}
use Rattle.pmg_store.proofs.Converging.{same_in_any_grouping}
use Rattle.pmg_publish.specs.declared.counting.Publication.{Publication}
use Rattle.pmg_publish.specs.declared.rule.Known.{Known}
use Rattle.pmg_publish.specs.declared.shown.Shown.{Shown}
use Rattle.pmg_publish.specs.declared.shown.Update.{Update}
use Rattle.pmg_publish.specs.Publications.{publication, near_of, far_of}
use Rattle.pmg_publish.specs.Boards.{IsMade, applied}
use Rattle.pmg_publish.specs.Rule.{unnamed, knowing, KnowsPrefix, KeepsShown, Sees}
use Rattle.pmg_publish.proofs.Prefixes.{prefix_self, prefix_trans}

-- a new place knows nothing
pub new_below : (x : Shown) → KnowsPrefix x unnamed
new_below x live = absurd (cc live)

-- a place that knows the whole list
pub all_below : (x : Shown) → KnowsPrefix x (knowing x.history)
all_below x live = (refl, prefix_self x.history.log)

pub admits : Admits KeepsShown unnamed
admits x views keeps = (keeps.0, λ seat v at. ⊎_elim (keeps.1 seat v) (λ (e : unnamed ≡ v). subst (KnowsPrefix x) e (new_below x)) (at_snoc views unnamed v seat at))

-- what was below the list is below one that goes on
pub below_more : (x y : Shown) (v : Known) → x.history.book ≡ y.history.book → IsPrefix x.history.log y.history.log → KnowsPrefix x v → KnowsPrefix y v
below_more x y v book more below live =
    let b = below live in (b.0 ∙ book, prefix_trans v.history.log x.history.log y.history.log b.1 more)

-- to go on from x to y, at a place that knows all of y afterwards
pub sees : (seat : ℕ) (v : Known) (x y : Shown) → (IsMade x → IsMade y) → x.history.book ≡ y.history.book → IsPrefix x.history.log y.history.log → TurnsAt KeepsShown seat v x y Sees
sees seat v x y made book more views keeps at = (
  knowing y.history,
  (
    made keeps.0,
    λ j u e. ⊎_elim (λ (t : (j ≡ seat) × (knowing y.history ≡ u)). subst (KnowsPrefix y) t.1 (all_below y))
        (λ (t : (j ≢ seat) × (get_elem? views j ≡ some u)). below_more x y u book more (keeps.1 j u t.1))
        (at_set views seat j (knowing y.history) u e),
  ),
  (below_more x y v book more (keeps.1 seat v at), made keeps.0, refl),
)

-- to read is to stay
pub reads : (seat : ℕ) (v : Known) → Turns KeepsShown seat v (λ x. x) Sees
reads seat v x = sees seat v x x (λ made. made) refl (prefix_self x.history.log)

set_below : (x : Shown) (views : List Known) (seat : ℕ) (v : Known) → ((j : ℕ) (u : Known) → get_elem? views j ≡ some u → KnowsPrefix x u) → KnowsPrefix x v → (j : ℕ) (u : Known) → get_elem? (set views seat v) j ≡ some u → KnowsPrefix x u
set_below x views seat v all low j u e =
    ⊎_elim (λ (t : (j ≡ seat) × (v ≡ u)). subst (KnowsPrefix x) t.1 low) (λ (t : (j ≢ seat) × (get_elem? views j ≡ some u)). all j u t.1) (at_set views seat j v u e)

pub forks : (seat : ℕ) (v : Known) → Forks KeepsShown seat v v v
forks seat v x views keeps at =
    (keeps.0, λ j u e. ⊎_elim (set_below x views seat v keeps.1 (keeps.1 seat v at) j u) (λ (same : v ≡ u). subst (KnowsPrefix x) same (keeps.1 seat v at)) (at_snoc (set views seat v) v u j e))

pub merges : (seat : ℕ) (v : Known) (other : ℕ) (w : Known) → Merges KeepsShown seat v other w w unnamed
merges seat v other w x views keeps at apart there =
    let low : KnowsPrefix x w = ⊎_elim (λ (t : (other ≡ seat) × (w ≡ w)). absurd (apart t.0)) (λ (t : (other ≢ seat) × (get_elem? views other ≡ some w)). keeps.1 other w t.1) (at_set views seat other w w there) in
    (keeps.0, set_below x (set views seat w) other unnamed (set_below x views seat w keeps.1 low) (new_below x))

-- ---- the board of one more publication
pub near-more : (log : List Publication) (near far : List Contribution) → near_of (log ++ publication near far ∷ []) ≡ join_data (near_of log) (data_of near)
unfolding near_of
near-more log near far =
    ap data_of (flat_map-append (λ (p : Publication). p.near) log (publication near far ∷ []) ∙ ap (λ cs. flat_map (λ (p : Publication). p.near) log ++ cs) (append-nil near))
    ∙ sym (same_in_any_grouping (flat_map (λ (p : Publication). p.near) log) near)

pub far-more : (log : List Publication) (near far : List Contribution) → far_of (log ++ publication near far ∷ []) ≡ join_data (far_of log) (data_of far)
unfolding far_of
far-more log near far =
    ap data_of (flat_map-append (λ (p : Publication). p.far) log (publication near far ∷ []) ∙ ap (λ cs. flat_map (λ (p : Publication). p.far) log ++ cs) (append-nil far))
    ∙ sym (same_in_any_grouping (flat_map (λ (p : Publication). p.far) log) far)

-- a board that its list makes is made by the longer list, once it takes the parts of the publication
pub made_more : (x : Shown) (i : Update) → i.history.log ≡ x.history.log ++ publication i.parts.near.items i.parts.far.items ∷ [] → IsMade x → IsMade (applied x i)
made_more x i longer made = (
  ap (λ d. join_data d (data_of i.parts.near.items)) made.0 ∙ sym (ap near_of longer ∙ near-more x.history.log i.parts.near.items i.parts.far.items),
  ap (λ d. join_data d (data_of i.parts.far.items)) made.1 ∙ sym (ap far_of longer ∙ far-more x.history.log i.parts.near.items i.parts.far.items),
)

-- to publish nothing
pub stays : (seat : ℕ) (v : Known) (x y : Shown) (issues : List Update) → issues ≡ [] → y ≡ fold applied x issues → TurnsAt KeepsShown seat v x y Sees
stays seat v x y issues none is =
    subst (λ (z : Shown). TurnsAt KeepsShown seat v x z Sees) (sym (is ∙ ap (fold applied x) none)) (reads seat v x)

-- to publish one issue whose list goes on by it
pub goes_on : (seat : ℕ) (v : Known) (x y : Shown) (issues : List Update) (i : Update) → issues ≡ i ∷ [] → y ≡ fold applied x issues → i.history.book ≡ x.history.book
    → i.history.log ≡ x.history.log ++ publication i.parts.near.items i.parts.far.items ∷ [] → TurnsAt KeepsShown seat v x y Sees
goes_on seat v x y issues i one is book longer =
    subst (λ (z : Shown). TurnsAt KeepsShown seat v x z Sees) (sym (is ∙ ap (fold applied x) one))
    (sees seat v x (applied x i) (made_more x i longer) (sym book) (publication i.parts.near.items i.parts.far.items ∷ [], sym longer))
