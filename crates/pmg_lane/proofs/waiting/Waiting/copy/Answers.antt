use Rattle.std.proofs.Common.{ℕ, ◌≡◌, ◌⊎◌, inl, inr, refl, sym, ap, ◌∙◌, subst}
use Rattle.std.specs.Prelude.{Option, Some, None, IsSome}
use Rattle.std.specs.List.{AllByRecursion}
use Rattle.std.specs.Map.{keys_of}
use Rattle.std.specs.Ordering.{nat_cmp}
use Rattle.std.specs.BTreeMap.{get}
use Rattle.std.specs.Global.{Vec}
use Rattle.std.proofs.lemmas.List.Elements.{recursion_from_All}
use Rattle.std.proofs.lemmas.Map.Lookups.{exact_unsigned}
use Rattle.pmg_value.specs.Lists.{In}
use Rattle.pmg_value.proofs.RowLemmas.{key_there}
use Rattle.pmg_commit.specs.declared.piece.PieceEntry.{PieceEntry}
use Rattle.pmg_lane.specs.Waiting.{list_items, waiting_at}
use Rattle.pmg_lane.proofs.waiting.Waiting.copy.Goals as goal

pub loop-number-init : goal.loop-number-init
loop-number-init c =
    let lists = c.args.self.now.lists in
    let all = c.into_iter-number-iterator.ensures.into_iter_gives ∙ c.iter-number-items.ensures.rest in
    let seen : (n : ℕ) (o : Option (Vec PieceEntry)) → get nat_cmp lists n ≡ o
    → In n (keys_of c.into_iter-number-iterator.result) ⊎ (waiting_at c.new-copy.result.lists n ≡ waiting_at lists n) = λ n o is.
    elim o as (λ o. get nat_cmp lists n ≡ o → In n (keys_of c.into_iter-number-iterator.result) ⊎ (waiting_at c.new-copy.result.lists n ≡ waiting_at lists n)) [
      | None ↦ λ is. inr (c.new-copy.ensures n ∙ sym (ap list_items is))
      | Some list ↦ λ is. inl (subst (λ es. In n (keys_of es)) (sym all) (key_there exact_unsigned lists.entries n (subst IsSome (sym is) refl)))
    ] is in
    record {
      copied = λ n. seen n (get nat_cmp lists n) refl;
      found = subst (AllByRecursion (λ e. get nat_cmp lists e.0 ≡ Some e.1)) (sym all)
          (recursion_from_All (λ e. get nat_cmp lists e.0 ≡ Some e.1) lists.entries c.iter-number-items.ensures.found);
    }
