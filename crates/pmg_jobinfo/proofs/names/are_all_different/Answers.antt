use Rattle.std.proofs.Common.{◌≡◌, Bool, List, ℕ, Bor, [], take, drop, length, get_or, map, sym, ap, arith, ◌+◌, ◌-◌, ◌∙◌}
use Rattle.std.specs.List.{list_any}
use Rattle.std.specs.Ordering.{nat_cmp, eq_by_cmp}
use Rattle.std.specs.Cmp.Lexicographic.{slice_cmp}
use Rattle.std.proofs.lemmas.Grind.{common_steps}
use Rattle.std.proofs.lemmas.List.{at_drop_more}
use Rattle.pmg_jobinfo.specs.Refusing.{are_distinct}
use Rattle.pmg_jobinfo.proofs.NameLemmas.{first_again, first_apart}
use Rattle.pmg_jobinfo.proofs.names.are_all_different.Goals as goal

-- no two names by reference are equal
abbrev distinct : List (Bor (List ℕ)) → Bool
distinct names = are_distinct (map (λ n. n.now) names)

abbrev none : Bor (List ℕ)
none = record { ref_ptr = (0, 0); now = [] }

-- the names after one, as they are lent
behind : (names : List (Bor (List ℕ))) (i : ℕ) → take (length names - i) (drop i names) ≡ drop i names
behind names i = grind (arith, common_steps)

pub returns-then-is_among : goal.returns-then-is_among
returns-then-is_among c =
    let names = c.args.names.now in
    let i = c.loop-i.i in
    let name = get_or names i none in
    sym (c.loop-i.invariant ∙ at_drop_more distinct names i none c.loop-i-test.true
    ∙ first_again name.now (map (λ n. n.now) (drop (i + 1) names)) (ap (λ (ns : List (Bor (List ℕ))). list_any (eq_by_cmp (slice_cmp nat_cmp) name.now) (map (λ n. n.now) ns)) (sym (behind names (i + 1))) ∙ sym c.is_among.ensures ∙ c.if-is_among.true))

pub loop-i-preserved : goal.loop-i-preserved
loop-i-preserved c =
    let names = c.args.names.now in
    let i = c.loop-i.i in
    let name = get_or names i none in
    c.loop-i.invariant ∙ at_drop_more distinct names i none c.loop-i-test.true
    ∙ first_apart name.now (map (λ n. n.now) (drop (i + 1) names)) (ap (λ (ns : List (Bor (List ℕ))). list_any (eq_by_cmp (slice_cmp nat_cmp) name.now) (map (λ n. n.now) ns)) (sym (behind names (i + 1))) ∙ sym c.is_among.ensures ∙ c.if-is_among.false)
