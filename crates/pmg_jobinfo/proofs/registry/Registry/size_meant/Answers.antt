use Rattle.std.proofs.Common.{◌≡◌, ◌<◌, ◌≤◌, ◌+◌, ◌-◌, ◌*◌, ◌&&◌, nat_lt, nat_le, IsTrue, ℕ, List, ◌∷◌, get_or, take, drop, length, sym, ap, ◌∙◌, arith}
use Rattle.std.specs.FinSet as set
use Rattle.std.specs.List.{list_all}
use Rattle.std.proofs.Math.Nat.{mul-le-mul_left}
use Rattle.std.proofs.lemmas.Bool.{and_parts, leb-true}
use Rattle.std.proofs.lemmas.List.{at_drop_more, at_drop_all, take_rest}
use Rattle.pmg_value.specs.declared.process.Proc.{Proc}
use Rattle.pmg_value.specs.Names.{is_graphic, is_nspace}
use Rattle.pmg_jobinfo.specs.Expansion.{expansion, expansion_size}
use Rattle.pmg_jobinfo.specs.Jobs.{Jobs}
use Rattle.pmg_jobinfo.proofs.MeantLemmas.{new_meant, more_counted, more_sized, none_sized}
use Rattle.pmg_jobinfo.proofs.registry.Registry.size_meant.Goals as goal

module _ (jobs : Jobs) (list : List Proc) (i : ℕ) (p : Proc) (size more : ℕ) (bytes : List ℕ) (lt : i < length list) (is : p ≡ get_or list i p)
    (new : more ≡ new_meant jobs p (take (length list - (i + 1)) (drop (i + 1) list))) (name : bytes ≡ p.nspace) where
  rest : more ≡ new_meant jobs p (drop (i + 1) list)
  rest = new ∙ ap (new_meant jobs p) (take_rest list (i + 1))

  sized : size + expansion_size jobs (drop i list) ≡ expansion_size jobs list
      → (size + more * (length bytes + 5)) + expansion_size jobs (drop (i + 1) list) ≡ expansion_size jobs list
  sized so_far =
      let here : expansion_size jobs (drop i list) ≡ more * (length bytes + 5) + expansion_size jobs (drop (i + 1) list) =
      at_drop_more (expansion_size jobs) list i p lt ∙ ap (λ (q : Proc). expansion_size jobs (q ∷ drop (i + 1) list)) (sym is) ∙ more_sized jobs p (drop (i + 1) list)
      ∙ sym (λ j. rest j * (length (name j) + 5) + expansion_size jobs (drop (i + 1) list)) in
      omega (arith, here, so_far)

  bounded : IsTrue (is_nspace bytes) → size + 260 * set.len (expansion jobs (drop i list)) ≤ 260 * set.len (expansion jobs list)
      → (size + more * (length bytes + 5)) + 260 * set.len (expansion jobs (drop (i + 1) list)) ≤ 260 * set.len (expansion jobs list)
  bounded named few =
      let short = leb-true (length bytes) 255 (and_parts (nat_lt 0 (length bytes)) (nat_le (length bytes) 255) (and_parts (nat_lt 0 (length bytes) && nat_le (length bytes) 255) (list_all is_graphic bytes) named).0).1 in
      let most : more * (length bytes + 5) ≤ more * 260 = mul-le-mul_left more (omega (arith, short)) in
      let here : set.len (expansion jobs (drop i list)) ≡ more + set.len (expansion jobs (drop (i + 1) list)) =
      at_drop_more (λ ps. set.len (expansion jobs ps)) list i p lt ∙ ap (λ (q : Proc). set.len (expansion jobs (q ∷ drop (i + 1) list))) (sym is) ∙ more_counted jobs p (drop (i + 1) list)
      ∙ sym (ap (λ (n : ℕ). n + set.len (expansion jobs (drop (i + 1) list))) rest) in
      omega (arith, most, here, few)

pub loop-i-preserved : goal.loop-i-preserved
loop-i-preserved c = record {
  so_far = sized c.args.self.now c.args.list.now c.loop-i.i c.index-list-i.result c.loop-i.size c.count_new.result c.as_bytes.result.now c.loop-i-test.true c.index-list-i.is c.count_new.ensures.value c.as_bytes.ensures.value c.loop-i.invariant.so_far;
  few = bounded c.args.self.now c.args.list.now c.loop-i.i c.index-list-i.result c.loop-i.size c.count_new.result c.as_bytes.result.now c.loop-i-test.true c.index-list-i.is c.count_new.ensures.value c.as_bytes.ensures.value c.as_bytes.ensures.name c.loop-i.invariant.few;
}

pub returns-clause-value : goal.returns-clause-value
returns-clause-value c =
    let none = at_drop_all (expansion_size c.args.self.now) c.args.list.now c.loop-i.i c.loop-i-test.false ∙ none_sized c.args.self.now in
    omega (arith, none, c.loop-i.invariant.so_far)
