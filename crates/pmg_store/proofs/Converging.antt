-- The data of pieces, in any order and grouping.
use Rattle.std.proofs.Common.{List, [], ◌∷◌, ◌++◌, ◌≡◌, map, length, get_or, arith, refl, sym, ap, ◌∙◌}
use Rattle.std.specs.FinMap as finite
use Rattle.std.specs.Prelude.{Option, Some, None}
use Rattle.pmg_value.specs.Maps.{join_options}
use Rattle.pmg_value.specs.Process.{proc_cmp}
use Rattle.pmg_value.proofs.ListLemmas.{same_items_map}
use Rattle.pmg_value.proofs.MapLemmas.{get-join_maps}
use Rattle.pmg_value.proofs.ProcessOrder.{procs_total, exact_procs}
use Rattle.pmg_commit.specs.Cores.{Core, join_cores}
use Rattle.pmg_join.specs.Joins.{join_all}
use Rattle.pmg_join.proofs.ManyJoined.{join_all-append, free_in_order, free_in_grouping}
use Rattle.pmg_commit.specs.Knowledge.{Contribution}
use Rattle.pmg_commit.specs.Data.{Data, join_data, of_contribution, absorbed, level_at, read_at}
use Rattle.pmg_store.specs.Joining.{data_joined}
use Rattle.pmg_store.specs.Pieces.{data_of}
use Rattle.pmg_store.specs.Convergence.{SameInAnyOrder, SameInAnyGrouping, ReadsAlike, PrintsAlike, StreamsPrintAlike}
use Rattle.pmg_store.specs.Dump.{dump}
use Rattle.pmg_store.specs.Told.{data_told}

-- ---- nothing more
none_joined : (known : Option Core) → join_options join_cores known None ≡ known
none_joined None = refl
none_joined (Some core) = refl

pub nothing_joined : (all : Data) → join_data all finite.empty ≡ all
nothing_joined all = finite.same_map procs_total exact_procs _ _
    (λ p. get-join_maps procs_total join_cores all finite.empty p ∙ (λ i. join_options join_cores (finite.get all p) (finite.get-empty {X = Core} proc_cmp p i)) ∙ none_joined (finite.get all p))

pub joined_to_nothing : (all : Data) → join_data finite.empty all ≡ all
joined_to_nothing all = data_joined.comm finite.empty all ∙ nothing_joined all

-- ---- pieces
map-append : {A B : Type 0} (f : A → B) (xs ys : List A) → map f (xs ++ ys) ≡ map f xs ++ map f ys
map-append f [] ys = refl
map-append f (x ∷ xs) ys = ap (λ zs. f x ∷ zs) (map-append f xs ys)

pub same_in_any_order : SameInAnyOrder
same_in_any_order xs ys same = free_in_order data_joined finite.empty (map of_contribution xs) (map of_contribution ys) (same_items_map of_contribution xs ys same)

pub same_in_any_grouping : SameInAnyGrouping
same_in_any_grouping xs ys =
    free_in_grouping data_joined finite.empty finite.empty (map of_contribution xs) (map of_contribution ys)
    ∙ (λ i. join_all join_data (data_joined.idem finite.empty i) (sym (map-append of_contribution xs ys) i))

pub reads_alike : ReadsAlike
reads_alike xs ys same p =
    let e = same_in_any_order xs ys same in
    (ap (λ d. level_at d p) e, λ key. ap (λ d. read_at d p key) e)

pub data_of-push : (pieces : List Contribution) (c : Contribution) → data_of (pieces ++ c ∷ []) ≡ absorbed (data_of pieces) c
data_of-push pieces c = ap (join_all join_data finite.empty) (map-append of_contribution pieces (c ∷ [])) ∙ join_all-append join_data finite.empty (map of_contribution pieces) (of_contribution c ∷ [])

-- no pieces, and one, as data that is joined
pub none_more : (all : Data) (pieces : List Contribution) → length pieces ≡ 0 → all ≡ join_data all (data_of pieces)
none_more all [] none = sym (nothing_joined all)
none_more all (c ∷ cs) none = absurd (omega arith)

pub one_more : (all : Data) (pieces : List Contribution) (c : Contribution) → length pieces ≡ 1 → c ≡ get_or pieces 0 c → absorbed all c ≡ join_data all (data_of pieces)
one_more all [] c one is = absurd (omega arith)
one_more all (d ∷ []) c one is = ap (λ x. join_data all (of_contribution x)) is ∙ ap (join_data all) (sym (joined_to_nothing (of_contribution d)))
one_more all (d ∷ e ∷ cs) c one is = absurd (omega arith)

pub prints_alike : PrintsAlike
prints_alike xs ys same = ap dump (same_in_any_order xs ys same)

pub streams_print_alike : StreamsPrintAlike
unfolding data_told
streams_print_alike a b xs ys first second same = rw (first, second, prints_alike xs ys same) refl
