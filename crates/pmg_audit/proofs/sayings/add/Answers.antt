use Rattle.std.proofs.Common.{◌≡◌, ◌++◌, ◌∷◌, [], ℕ, List, Some, cond, length, sym, ap, subst, ◌∙◌, rules}
use Rattle.std.proofs.lemmas.List.{length-map, map-append}
use Rattle.std.specs.BTreeMap.{is_at}
use Rattle.pmg_value.specs.Process.{proc_cmp}
use Rattle.pmg_value.specs.declared.process.Proc.{Proc}
use Rattle.pmg_audit.specs.Taking.{ArePlaces, place_at, sayers}
use Rattle.pmg_audit.specs.declared.moves.Saying.{Saying}
use Rattle.pmg_audit.proofs.SayingLemmas.{places_more}
use Rattle.pmg_audit.proofs.sayings.add.Goals as goal

pub returns-clause-places : goal.returns-clause-places
returns-clause-places c =
    let ss = c.args.items.now.items in
    let p = c.args.saying.proc in
    let rows = c.args.places.now.entries in
    let procs : sayers c.push.new.self.items ≡ sayers ss ++ p ∷ [] =
    ap sayers c.in_ok-push.ensures.items ∙ map-append (λ (s : Saying). s.proc) ss (c.args.saying ∷ []) in
    let count : c.len.result ≡ length ss = search rules in
    let number : c.len.result ≡ length (sayers ss) = count ∙ sym (length-map ss (λ (s : Saying). s.proc)) in
    subst (λ (ps : List Proc). ArePlaces ps c.insert.new.self.entries) (sym procs)
    (places_more (sayers ss) p rows c.insert.new.self.entries c.requires.places c.requires.none
    (λ q. c.in_ok-insert.ensures.updates.0 q
    ∙ ap (λ (n : ℕ). cond (is_at (proc_cmp c.in_ok-copy.field-0) q) (Some n) (place_at rows q)) number
    ∙ ap (λ (r : Proc). cond (is_at (proc_cmp r) q) (Some (length (sayers ss))) (place_at rows q)) c.in_ok-copy.ensures))
