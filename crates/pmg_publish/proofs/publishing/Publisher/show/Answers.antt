use Rattle.std.proofs.Common.{rules, ◌≡◌, ◌∷◌, ◌++◌, [], true, List, drop, sym, ap, ◌∙◌}
use Rattle.pmg_publish.specs.declared.shown.Update.{Update}
use Rattle.pmg_publish.specs.Publications.{Publications, Published, publication}
use Rattle.pmg_publish.proofs.Steps.{goes_on}
use Rattle.pmg_publish.proofs.publishing.Publisher.show.Goals as goal

pub publish_as-writer-requires : goal.publish_as-writer-requires
publish_as-writer-requires g c next is =
    let w = c.in-Some.writer in
    let x = c.append.new.self.desk.shown.value in
    let issue = c.args.issue in
    let open_then : c.self.inside.is_open ≡ true = search rules in
    let shown_then : w.desk.shown.value.history ≡ c.self.inside.history = search rules in
    let none_pends : drop w.behind w.log.items ≡ [] = search rules in
    let history : x.history ≡ c.self.inside.history = ap (λ d. d.shown.value.history) c.append.ensures.desk ∙ shown_then in
    let one : drop c.append.new.self.behind c.append.new.self.log.items ≡ issue ∷ [] = c.in_default-append.ensures.pending ∙ ap (λ (xs : List Update). xs ++ issue ∷ []) none_pends in
    let book : issue.history.book ≡ x.history.book = c.requires.book ∙ sym (ap (λ (h : Publications). h.book) history ∙ ap (λ (p : Published). p.book) c.self.view_is) in
    let log : issue.history.log ≡ x.history.log ++ publication issue.parts.near.items issue.parts.far.items ∷ [] =
    c.requires.log ∙ ap (λ ps. ps ++ publication issue.parts.near.items issue.parts.far.items ∷ []) (sym (ap (λ (h : Publications). h.log) history ∙ ap (λ (p : Published). p.log) c.self.view_is)) in
    goes_on _ _ x next _ issue one is book log
