use Rattle.std.proofs.Common.{◌≡◌, ◌++◌, ◌∷◌, [], ℕ, List, Option, Some, None, IfSome, IsSome, slice_get, refl, ap, subst, ◌∙◌, rules}
use Rattle.std.specs.BTreeMap.{BTreeMap, is_at}
use Rattle.std.specs.Global.{Vec}
use Rattle.std.specs.Map.{lookup}
use Rattle.pmg_node_model.specs.Sending.{sent}
use Rattle.pmg_node_model.specs.declared.sent.Sent.{Sent}
use Rattle.pmg_audit.specs.Labels.{label_cmp}
use Rattle.pmg_audit.specs.declared.labels.Label.{Label}
use Rattle.pmg_audit.proofs.SendLemmas.{UpdatesAt, placed_again, placed_last}
use Rattle.pmg_audit.proofs.sends.Sends.keep_place.Goals as goal

pub returns-in_ok-push-clause-placed : goal.returns-in_ok-push-clause-placed
returns-in_ok-push-clause-placed c =
    let rows = c.args.self.now.places.entries in
    let list = c.push.new.self in
    let new = (c.get_mut.follows.lender list).entries in
    let old = c.in-Some.places.now in
    let there = subst (λ (l : Label). ◌≡◌ {A = Option (Vec ℕ)} (Some old) (lookup (is_at (label_cmp l)) rows)) c.label_of-label.ensures c.in-Some.ensures.value in
    let more = subst (λ (l : Label). UpdatesAt rows l list new) c.label_of-label.ensures ((c.get_mut.follows.holds list).3 (subst IsSome c.in-Some.ensures.value refl)).0 in
    placed_last c.args.self.now.frames.items rows new (sent c.args.node c.args.frame.now) list c.requires more (Some old) c.len-next.result there c.in_ok-push.ensures.items (search rules)

pub returns-else-is_none-clause-placed : goal.returns-else-is_none-clause-placed
returns-else-is_none-clause-placed c =
    let frames = c.args.self.now.frames.items in
    let rows = c.args.self.now.places.entries in
    let s = sent c.args.node c.args.frame.now in
    let list = c.in-Some.places.now in
    let new = (c.get_mut.follows.lender list).entries in
    let there = subst (λ (l : Label). ◌≡◌ {A = Option (Vec ℕ)} (Some list) (lookup (is_at (label_cmp l)) rows)) c.label_of-label.ensures c.in-Some.ensures.value in
    let more = subst (λ (l : Label). UpdatesAt rows l list new) c.label_of-label.ensures ((c.get_mut.follows.holds list).3 (subst IsSome c.in-Some.ensures.value refl)).0 in
    let found = subst (λ (fs : List Sent). IfSome c.place_among.result (λ k. slice_get fs k ≡ Some s)) c.deref.ensures.value c.place_among.ensures.some in
    placed_again frames rows new s list c.requires more c.place_among.result c.if-is_none.ensures found there

pub returns-clause-placed : goal.returns-clause-placed
returns-clause-placed c =
    let rows = c.args.self.now.places.entries in
    let list = c.push-2.new.self in
    let new = c.insert.new.self.entries in
    let there = subst (λ (l : Label). ◌≡◌ {A = Option (Vec ℕ)} None (lookup (is_at (label_cmp l)) rows)) c.label_of-label.ensures c.in_default.ensures.value in
    let put : UpdatesAt c.get_mut.follows.lender-at-none.entries c.label_of-label.result list new = c.in_ok-insert.ensures.updates.0 in
    let more = subst (λ (l : Label). UpdatesAt rows l list new) c.label_of-label.ensures (subst (λ (m : BTreeMap Label (Vec ℕ)). UpdatesAt m.entries c.label_of-label.result list new) c.get_mut.follows.holds-at-none put) in
    let items : list.items ≡ [] ++ c.len-next.result ∷ [] = c.in_ok-push-2.ensures.items ∙ ap (λ (l : List ℕ). l ++ c.len-next.result ∷ []) c.new-places.ensures.items in
    placed_last c.args.self.now.frames.items rows new (sent c.args.node c.args.frame.now) list c.requires more None c.len-next.result there items (search rules)
