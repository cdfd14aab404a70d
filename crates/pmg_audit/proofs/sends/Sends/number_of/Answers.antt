use Rattle.std.proofs.Common.{◌≡◌, ◌<◌, ℕ, List, length, Option, Some, None, refl, subst, rules}
use Rattle.std.proofs.lemmas.Option.{slice_get_within}
use Rattle.std.specs.BTreeMap.{is_at}
use Rattle.std.specs.Global.{Vec}
use Rattle.std.specs.Map.{lookup}
use Rattle.pmg_node_model.specs.Sending.{sent}
use Rattle.pmg_node_model.specs.declared.sent.Sent.{Sent}
use Rattle.pmg_audit.specs.Labels.{label_cmp}
use Rattle.pmg_audit.specs.Sends.{NoneAt}
use Rattle.pmg_audit.specs.declared.labels.Label.{Label}
use Rattle.pmg_audit.proofs.SendLemmas.{not_sent}
use Rattle.pmg_audit.proofs.sends.Sends.number_of.Goals as goal

pub returns-in_err-places-clause-none : goal.returns-in_err-places-clause-none
returns-in_err-places-clause-none c = λ _.
    let rows = c.args.self.now.places.entries in
    let there = subst (λ (l : Label). ◌≡◌ {A = Option (Vec ℕ)} None (lookup (is_at (label_cmp l)) rows)) c.label_of.ensures c.in_err-places.ensures.value in
    not_sent c.args.self.now.frames.items rows (sent c.args.node c.args.frame.now) None c.requires there tt

pub returns-in_err-place-clause-none : goal.returns-in_err-place-clause-none
returns-in_err-place-clause-none c = λ _.
    let frames = c.args.self.now.frames.items in
    let rows = c.args.self.now.places.entries in
    let s = sent c.args.node c.args.frame.now in
    let list = c.in_ok-places.places.now in
    let there = subst (λ (l : Label). ◌≡◌ {A = Option (Vec ℕ)} (Some list) (lookup (is_at (label_cmp l)) rows)) c.label_of.ensures c.in_ok-places.ensures.value in
    let none = subst (λ (places : List ℕ). NoneAt c.deref.result.now s places) c.deref-2.ensures.value (c.in_err-place.ensures.none refl) in
    not_sent frames rows s (Some list) c.requires there (subst (λ (fs : List Sent). NoneAt fs s list.items) c.deref.ensures.value none)

pub overflow_add-result : goal.overflow_add-result
overflow_add-result c =
    let inside : c.in_ok-place.place < length c.deref.result.now = slice_get_within c.deref.result.now c.in_ok-place.place (sent c.args.node c.args.frame.now) c.in_ok-place.ensures.some in
    search rules
