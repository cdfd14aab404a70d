use Rattle.std.proofs.Common.{ℕ, nat_eq, length, map, sym, ap, ◌∙◌}
use Rattle.std.specs.Set.{distinct_count}
use Rattle.std.proofs.lemmas.List.{length-map}
use Rattle.std.specs.Ordering.{nat_cmp, eq_by_cmp}
use Rattle.std.specs.Cmp.Lexicographic.{slice_cmp, nat_list_cmp_total}
use Rattle.std.proofs.lemmas.Cmp.{on_total}
use Rattle.std.proofs.lemmas.Map.Views.{btree_set_len-from_list}
use Rattle.pmg_jobinfo.proofs.NameLemmas.{count_of_images}
use Rattle.pmg_jobinfo.proofs.names.are_distinct.Goals as goal

pub returns-in-Ok : goal.returns-in-Ok
returns-in-Ok c =
    ap (λ (n : ℕ). nat_eq n (length c.args.names.now))
    (c.len.ensures.len
    ∙ btree_set_len-from_list (on_total (λ n. n.now) nat_list_cmp_total) c.args.names.now c.in-Ok.different c.in-Ok.ensures
    ∙ count_of_images (λ n. n.now) (eq_by_cmp (slice_cmp nat_cmp)) c.args.names.now)
    ∙ ap (λ (n : ℕ). nat_eq (distinct_count (eq_by_cmp (slice_cmp nat_cmp)) (map (λ n. n.now) c.args.names.now)) n) (sym (length-map c.args.names.now (λ n. n.now)))
