use Rattle.std.proofs.Common.{ℕ, nat_eq, length, map, sym, ap, ◌∙◌}
use Rattle.std.specs.Set.{distinct_count}
use Rattle.std.specs.Ordering.{nat_cmp, eq_by_cmp}
use Rattle.std.specs.Cmp.Lexicographic.{slice_cmp, nat_list_cmp_total}
use Rattle.std.proofs.lemmas.Cmp.{on_total}
use Rattle.std.proofs.lemmas.List.{length-map}
use Rattle.std.proofs.lemmas.Map.Views.{btree_set_len-from_list}
use Rattle.pmg_jobinfo.proofs.NameLemmas.{count_of_images}
use Rattle.pmg_jobfile.proofs.description.are_distinct.Goals as goal

pub returns : goal.returns
returns c =
    let names = c.in_ok-names.names.items in
    ap (λ (n : ℕ). nat_eq n (length c.args.spaces.now))
    (c.len.ensures.len
    ∙ btree_set_len-from_list (on_total (λ n. n.now) nat_list_cmp_total) names c.in_ok-different.different (rw c.deref.ensures.value at c.in_ok-different.ensures)
    ∙ count_of_images (λ n. n.now) (eq_by_cmp (slice_cmp nat_cmp)) names)
    ∙ ap (λ ns. nat_eq (distinct_count (eq_by_cmp (slice_cmp nat_cmp)) ns) (length c.args.spaces.now)) c.in_ok-names.ensures
    ∙ ap (λ (n : ℕ). nat_eq (distinct_count (eq_by_cmp (slice_cmp nat_cmp)) (map (λ s. s.name) c.args.spaces.now)) n) (sym (length-map c.args.spaces.now (λ s. s.name)))
