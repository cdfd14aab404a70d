use Rattle.std.proofs.Common.{rules, ◌≡◌, ◌∷◌, sym, subst, ap, ◌∙◌}
use Rattle.std.specs.Prelude.{Some}
use Rattle.std.specs.BTreeMap.{get}
use Rattle.std.specs.List.{flat_map, AllByRecursion}
use Rattle.std.proofs.lemmas.List.Elements.{recursion_from_All}
use Rattle.pmg_value.specs.Process.{proc_cmp}
use Rattle.pmg_value.proofs.WrittenLemmas.{front_of_all}
use Rattle.pmg_store.specs.Tables.{place_text}
use Rattle.pmg_value.proofs.WrittenParts.{none_written, more_written, front_written, all_written}
use Rattle.pmg_store.proofs.dump.put_procs.Goals as goal

pub loop-proc-init : goal.loop-proc-init
loop-proc-init g c =
    let places = c.args.places.now in
    let all = c.into_iter-proc-iterator.ensures.into_iter_gives ∙ c.iter-proc-items.ensures.rest in
    record {
      lines = none_written _ _ _ (ap (λ es. flat_map place_text es) all);
      found = subst (AllByRecursion (λ e. get proc_cmp places e.0 ≡ Some e.1)) (sym all)
          (recursion_from_All (λ e. get proc_cmp places e.0 ≡ Some e.1) places.entries c.iter-proc-items.ensures.found);
    }

pub loop-proc-preserved-in-Continue-1 : goal.loop-proc-preserved-in-Continue-1
loop-proc-preserved-in-Continue-1 g c =
    let next = c.next.new.self in
    let here : c.loop-proc.proc-iterator ≡ (c.in-Some.proc.now, Some c.in-Some-place.lane) ∷ next = c.in-Some.ensures.steps ∙ ap (λ place. (c.in-Some.proc.now, place) ∷ next) c.in-Some-place.is in
    record {
      lines = more_written _ _ _ (place_text (c.in-Some.proc.now, Some c.in-Some-place.lane)) _ _ _ (ap (λ es. flat_map place_text es) here) c.loop-proc.invariant.lines c.in_ok-put_proc.ensures.text.1;
      found = (subst (AllByRecursion (λ e. get proc_cmp c.args.places.now e.0 ≡ Some e.1)) here c.loop-proc.invariant.found).1;
    }

pub returns-in_err-put_proc-clause-lines : goal.returns-in_err-put_proc-clause-lines
returns-in_err-put_proc-clause-lines g c =
    let next = c.next.new.self in
    let here : c.loop-proc.proc-iterator ≡ (c.in-Some.proc.now, Some c.in-Some-place.lane) ∷ next = c.in-Some.ensures.steps ∙ ap (λ place. (c.in-Some.proc.now, place) ∷ next) c.in-Some-place.is in
    let lines = place_text (c.in-Some.proc.now, Some c.in-Some-place.lane) in
    (front_written _ _ _ lines _ _ _ (ap (λ es. flat_map place_text es) here) c.loop-proc.invariant.lines c.in_err-put_proc.ensures.text.0, search rules)

pub returns-clause-lines : goal.returns-clause-lines
returns-clause-lines g c =
    let all = all_written _ _ _ _ (ap (λ es. flat_map place_text es) c.in-None.ensures.steps.0) c.loop-proc.invariant.lines in
    (front_of_all _ _ _ all, all)
