use Rattle.std.proofs.Common.{◌≡◌, refl, true, false, not, nat_lt, nat_eq, Bool, List, ℕ, sym, ap, ◌∙◌, eq-eqb}
use Rattle.std.specs.Cmp.Lexicographic.{pointwise, bytes_decides}
use Rattle.std.proofs.lemmas.Bool.{false≢true, eqb-true}
use Rattle.pmg_value.specs.declared.process.Proc.{Proc}
use Rattle.pmg_jobinfo.proofs.MeantLemmas.{other_name, all_stand, one_stands}
use Rattle.pmg_jobinfo.proofs.registry.Registry.stands_for.Goals as goal

differ : (a b : List ℕ) (r : Bool) → r ≡ not (pointwise nat_eq a b) → r ≡ true → a ≡ b → ⊥
differ a b r is t e = absurd (false≢true (sym (ap not ((bytes_decides a b).1 e)) ∙ sym is ∙ t))

not_false : (b : Bool) → not b ≡ false → b ≡ true
not_false true h = refl
not_false false h = absurd (false≢true (sym h))

same : (a b : List ℕ) (r : Bool) → r ≡ not (pointwise nat_eq a b) → r ≡ false → a ≡ b
same a b r is t = (bytes_decides a b).0 (not_false (pointwise nat_eq a b) (sym is ∙ t))

pub returns-then-ne : goal.returns-then-ne
returns-then-ne c =
    let q : Proc = record { nspace = c.args.nspace.now; rank = c.args.rank } in
    other_name c.args.self.now c.args.proc.now q (differ c.args.proc.now.nspace c.args.nspace.now c.ne.result c.ne.ensures c.if-ne.true)

pub returns-then-is_wildcard : goal.returns-then-is_wildcard
returns-then-is_wildcard c =
    let q : Proc = record { nspace = c.args.nspace.now; rank = c.args.rank } in
    (λ i. nat_lt (c.number.ensures i) (c.count.ensures.value i))
    ∙ all_stand c.args.self.now c.args.proc.now q (sym c.is_wildcard.ensures ∙ c.if-is_wildcard.true) (same c.args.proc.now.nspace c.args.nspace.now c.ne.result c.ne.ensures c.if-ne.false)

pub returns : goal.returns
returns c =
    let q : Proc = record { nspace = c.args.nspace.now; rank = c.args.rank } in
    let p = c.args.proc.now in
    one_stands c.args.self.now p q (sym c.is_wildcard.ensures ∙ c.if-is_wildcard.false) (same p.nspace c.args.nspace.now c.ne.result c.ne.ensures c.if-ne.false) c.eq.result
    (λ h. eqb-true p.rank c.args.rank (sym c.eq.ensures ∙ h)) (λ e. c.eq.ensures ∙ eq-eqb p.rank c.args.rank e)
