use Rattle.std.proofs.Common.{◌≡◌, ◌+◌, ◌++◌, ◌∷◌, [], length, reverse, sym, ap, subst, ◌∙◌, rules, arith}
use Rattle.std.proofs.lemmas.List.{length-append, reverse-append}
use Rattle.pmg_threads.specs.Running.{FitFrom, IsDeskOf, IsNodeJournal}
use Rattle.pmg_threads.proofs.RunLemmas.{fit_less}
use Rattle.pmg_threads.proofs.desks.end_desks.Goals as goal

pub loop-desk-preserved : goal.loop-desk-preserved
loop-desk-preserved g c = λ jobs are whole.
    let was = c.loop-desk.invariant jobs are whole in
    let desks = c.pop.new.self.items in
    let desk = c.in-Some.desk in
    let records = c.loop-desk.records.items in
    let record_ = c.into_record-record.result in
    let popped : c.loop-desk.desks.items ≡ desks ++ desk ∷ [] = search rules in
    let pushed : c.push.new.self.items ≡ records ++ record_ ∷ [] = search rules in
    let split = fit_less (IsDeskOf jobs) 0 desks desk (subst (FitFrom (IsDeskOf jobs) 0) popped was.0) in
    let more : length c.loop-desk.desks.items ≡ length desks + 1 = ap length popped ∙ length-append desks (desk ∷ []) in
    let grown : length c.push.new.self.items ≡ length records + 1 = ap length pushed ∙ length-append records (record_ ∷ []) in
    let first : IsNodeJournal jobs (length desks) record_ = (c.into_record-record.ensures.node ∙ split.1.0 ∙ (let e : 0 + length desks ≡ length desks = omega arith in e), c.into_record-record.ensures.registry ∙ split.1.1, c.into_record-record.ensures.replay) in
    let last : FitFrom (IsNodeJournal jobs) (length desks + 1) (reverse records) = subst (λ n. FitFrom (IsNodeJournal jobs) n (reverse records)) more was.1 in (
      split.0,
      subst (FitFrom (IsNodeJournal jobs) (length desks)) (sym (ap reverse pushed ∙ reverse-append records (record_ ∷ []))) (first, last),
      omega (arith, more, grown, was.2),
    )
