-- Requests of gets that ask anew: who asks under which number.
use Rattle.std.proofs.Common.{◌≡◌, ◌&&◌, nat_eq, refl, sym, ap, ◌∙◌}
use Rattle.std.specs.Cmp.{unsigned_ties}
use Rattle.std.specs.Cmp.Lexicographic.{slice_cmp, texts_ties}
use Rattle.std.specs.Ordering.{nat_cmp, eq_by_cmp, is_eq, ordering_then}
use Rattle.std.specs.declared.cmp.Ordering.{Ordering}
use Rattle.std.specs.declared.cmp.Ordering.TheVariants.{Less, Equal, Greater}
use Rattle.pmg_value.specs.declared.process.Proc.{Proc}
use Rattle.pmg_value.specs.Process.{proc_cmp, is_same_proc}

eq_then : (a b : Ordering) → is_eq (ordering_then a b) ≡ (is_eq a && is_eq b)
eq_then Less b = refl
eq_then Equal b = refl
eq_then Greater b = refl

-- processes are the same where they tie
pub same_is : (p q : Proc) → is_same_proc p q ≡ eq_by_cmp proc_cmp p q
same_is p q =
    ap (λ b. b && nat_eq p.rank q.rank) (texts_ties p.nspace q.nspace) ∙ ap (λ b. eq_by_cmp (slice_cmp nat_cmp) p.nspace q.nspace && b) (unsigned_ties p.rank q.rank)
    ∙ sym (eq_then (slice_cmp nat_cmp p.nspace q.nspace) (nat_cmp p.rank q.rank))
