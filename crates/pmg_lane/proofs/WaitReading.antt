-- What is read of entries that wait.
use Rattle.std.proofs.Common.{arith, ℕ, List, [], ◌∷◌, ◌++◌, map, ◌≡◌, ◌<◌, inl, inr, refl, sym, ap, ◌∙◌}
use Rattle.std.specs.Prelude.{Option, Some}
use Rattle.std.specs.List.{flat_map, fold, AllByRecursion}
use Rattle.std.specs.Cmp.{ranked}
use Rattle.std.specs.declared.cmp.Ordering.TheVariants.{Less}
use Rattle.std.specs.Ordering.{nat_cmp}
use Rattle.std.specs.BTreeMap.{BTreeMap, get}
use Rattle.std.specs.Global.{Vec}
use Rattle.std.proofs.lemmas.List.Sums.{fold-append}
use Rattle.pmg_commit.specs.Entries.{Entry, best_of_two}
use Rattle.pmg_commit.specs.Pieces.{entry_of}
use Rattle.pmg_commit.specs.declared.piece.PieceEntry.{PieceEntry}
use Rattle.pmg_lane.specs.Waiting.{list_items, waiting_at, AreFrom, AreAllFrom}
use Rattle.pmg_lane.proofs.Reading.{not_read, passed}

-- those under the numbers, one list after the other
abbrev pub lists_under : BTreeMap ℕ (Vec PieceEntry) → List ℕ → List Entry
lists_under lists ns = flat_map (λ n. map entry_of (waiting_at lists n)) ns

pub list_seen :
    (lists : BTreeMap ℕ (Vec PieceEntry)) (level : ℕ) (key : List ℕ) (o next : Option Entry) (n : ℕ) (list : Vec PieceEntry) (ns : List ℕ) → get nat_cmp lists n ≡ Some list
    → next ≡ fold (best_of_two level key) o (map entry_of list.items)
    → fold (best_of_two level key) next (lists_under lists ns) ≡ fold (best_of_two level key) o (lists_under lists (n ∷ ns))
list_seen lists level key o next n list ns at is =
    let f = best_of_two level key in
    ap (λ o. fold f o (lists_under lists ns)) is
    ∙ sym (fold-append f o (map entry_of list.items) (lists_under lists ns))
    ∙ ap (λ there. fold f o (map entry_of (list_items there) ++ lists_under lists ns)) (sym at)

passed_list : (level n : ℕ) (key : List ℕ) (o : Option Entry) (es : List PieceEntry) (rest : List Entry) → level < n → AreFrom n es
    → fold (best_of_two level key) o (map entry_of es ++ rest) ≡ fold (best_of_two level key) o rest
passed_list level n key o [] rest over from = refl
passed_list level n key o (x ∷ xs) rest over from =
    let low = from x (inl refl) in
    ap (λ o. fold (best_of_two level key) o (map entry_of xs ++ rest)) (passed level key o (entry_of x) (not_read level key (entry_of x) (omega (arith, over, low))))
    ∙ passed_list level n key o xs rest over (λ e i. from e (inr i))

-- no list is reached from one past the level on
pub no_list_reached :
    (lists : BTreeMap ℕ (Vec PieceEntry)) (level : ℕ) (key : List ℕ) (o : Option Entry) (n : ℕ) (ns : List ℕ) → AreAllFrom lists → level < n → AllByRecursion (λ m. nat_cmp n m ≡ Less) ns
    → fold (best_of_two level key) o (lists_under lists (n ∷ ns)) ≡ o
no_list_reached lists level key o n ns numbered over all =
    passed_list level n key o (waiting_at lists n) (lists_under lists ns) over (numbered n) ∙ others ns all
  where
    others : (ms : List ℕ) → AllByRecursion (λ m. nat_cmp n m ≡ Less) ms → fold (best_of_two level key) o (lists_under lists ms) ≡ o
    others [] h = refl
    others (m ∷ ms) h =
        let up : n < m = ranked n m Less (sym h.0) in
        passed_list level m key o (waiting_at lists m) (lists_under lists ms) (omega (arith, over, up)) (numbered m) ∙ others ms h.1
