use Rattle.std.proofs.Common.{◌≡◌, true, sym, ap, ◌∙◌}
use Rattle.std.specs.Prelude.{if◌then◌else◌, None}
use Rattle.pmg_value.specs.declared.value.Value.TheVariants as values
use Rattle.pmg_value.specs.declared.value.Value.{Value}
use Rattle.pmg_value.specs.Items.{items_in}
use Rattle.pmg_value.specs.Spelling.{spelling}
use Rattle.pmg_pset.specs.Members.{are_procs, live_of, members_told}
use Rattle.pmg_pset.proofs.MemberLemmas.{has_members, procs_bytes}
use Rattle.pmg_pset.proofs.members.members_in.Goals as goal

pub returns-in-Array-clause-value : goal.returns-in-Array-clause-value
returns-in-Array-clause-value c =
    let a = c.in-Array.members in
    let procs : are_procs (spelling (values.Array a)) ≡ true = procs_bytes a (sym c.tag.ensures ∙ c.if-tag-eq-PROC_TAG.true) in
    has_members a (items_in c.items.result) c.items.ensures.items c.items.ensures.is (sym c.if-not-is_empty.ensures) procs
    ∙ sym (ap (λ b. if b then live_of (spelling (values.Array a)) else None) procs)
    ∙ ap (λ (v : Value). members_told (spelling v)) (sym c.in-Array.is)
