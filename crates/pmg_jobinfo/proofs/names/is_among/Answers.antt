use Rattle.std.proofs.Common.{Bool, List, ℕ, Bor, [], ◌||◌, drop, get_or, map, sym, ap, ◌+◌, ◌∙◌}
use Rattle.std.specs.List.{list_any}
use Rattle.std.specs.Ordering.{nat_cmp, eq_by_cmp}
use Rattle.std.specs.Cmp.Lexicographic.{slice_cmp}
use Rattle.std.proofs.lemmas.List.{at_drop_more}
use Rattle.std.proofs.lemmas.Map.Text.{is_eq-slice_cmp}
use Rattle.pmg_jobinfo.proofs.names.is_among.Goals as goal

-- the name is among the names by reference
abbrev among : List ℕ → List (Bor (List ℕ)) → Bool
among name names = list_any (eq_by_cmp (slice_cmp nat_cmp) name) (map (λ n. n.now) names)

abbrev none : Bor (List ℕ)
none = record { ref_ptr = (0, 0); now = [] }

pub returns-then-eq : goal.returns-then-eq
returns-then-eq c =
    let names = c.args.names.now in
    let i = c.loop-other.other-index in
    let other = get_or names i none in
    sym (c.loop-other.invariant ∙ at_drop_more (among c.args.name.now) names i none c.loop-other-test.true
    ∙ ap (λ (b : Bool). b || among c.args.name.now (drop (i + 1) names)) (is_eq-slice_cmp c.args.name.now other.now ∙ sym c.eq.ensures ∙ c.if-eq.true))

pub loop-other-preserved : goal.loop-other-preserved
loop-other-preserved c =
    let names = c.args.names.now in
    let i = c.loop-other.other-index in
    let other = get_or names i none in
    c.loop-other.invariant ∙ at_drop_more (among c.args.name.now) names i none c.loop-other-test.true
    ∙ ap (λ (b : Bool). b || among c.args.name.now (drop (i + 1) names)) (is_eq-slice_cmp c.args.name.now other.now ∙ sym c.eq.ensures ∙ c.if-eq.false)
