use Rattle.std.proofs.Common.{◌≡◌, ◌<◌, ◌+◌, ◌-◌, ℕ, List, ◌∷◌, get_or, take, drop, length, sym, ap, ◌∙◌, arith}
use Rattle.std.specs.FinSet as set
use Rattle.std.proofs.lemmas.List.{at_drop_more, at_drop_all, take_rest}
use Rattle.pmg_value.specs.declared.process.Proc.{Proc}
use Rattle.pmg_jobinfo.specs.Expansion.{expansion}
use Rattle.pmg_jobinfo.specs.Jobs.{Jobs}
use Rattle.pmg_jobinfo.proofs.MeantLemmas.{new_meant, more_counted, none_counted}
use Rattle.pmg_jobinfo.proofs.registry.Registry.count_meant.Goals as goal

-- an item of the list, and what is left behind it
step : (jobs : Jobs) (list : List Proc) (i : ℕ) (p : Proc) (count more : ℕ) → i < length list → p ≡ get_or list i p → more ≡ new_meant jobs p (take (length list - (i + 1)) (drop (i + 1) list))
    → count + set.len (expansion jobs (drop i list)) ≡ set.len (expansion jobs list) → (count + more) + set.len (expansion jobs (drop (i + 1) list)) ≡ set.len (expansion jobs list)
step jobs list i p count more lt is new so_far =
    let rest = new ∙ ap (new_meant jobs p) (take_rest list (i + 1)) in
    let here : set.len (expansion jobs (drop i list)) ≡ new_meant jobs p (drop (i + 1) list) + set.len (expansion jobs (drop (i + 1) list)) =
    at_drop_more (λ ps. set.len (expansion jobs ps)) list i p lt ∙ ap (λ (q : Proc). set.len (expansion jobs (q ∷ drop (i + 1) list))) (sym is) ∙ more_counted jobs p (drop (i + 1) list) in
    omega (arith, rest, here, so_far)

pub returns-then-count-gt-MAX_COUNTED : goal.returns-then-count-gt-MAX_COUNTED
returns-then-count-gt-MAX_COUNTED c =
    let all = step c.args.self.now c.args.list.now c.loop-i.i c.index-list-i.result c.loop-i.count c.count_new-count.result c.loop-i-test.true c.index-list-i.is c.count_new-count.ensures.value c.loop-i.invariant.so_far in
    omega (arith, all)

pub loop-i-preserved : goal.loop-i-preserved
loop-i-preserved c = record {
  so_far = step c.args.self.now c.args.list.now c.loop-i.i c.index-list-i.result c.loop-i.count c.count_new-count.result c.loop-i-test.true c.index-list-i.is c.count_new-count.ensures.value c.loop-i.invariant.so_far;
  few = c.if-count-gt-MAX_COUNTED.false;
}

pub returns : goal.returns
returns c =
    let none = at_drop_all (λ ps. set.len (expansion c.args.self.now ps)) c.args.list.now c.loop-i.i c.loop-i-test.false ∙ none_counted c.args.self.now in
    omega (arith, none)
