-- Signatures, and fences' names, that compare as equal are one.
use Rattle.std.proofs.Common.{◌≡◌, ℕ, Bool, true, false, List, [], ◌∷◌, refl, sym, ap, ◌∙◌}
use Rattle.std.specs.Cmp.Lexicographic.{slice_cmp}
use Rattle.std.specs.FinSet as set
use Rattle.std.specs.Ordering.{nat_cmp, bool_cmp, ordering_then}
use Rattle.std.specs.declared.cmp.Ordering.{Ordering}
use Rattle.std.specs.declared.cmp.Ordering.TheVariants.{Less, Equal, Greater}
use Rattle.std.proofs.lemmas.Map.Lookups.{exact_unsigned}
use Rattle.pmg_value.specs.Process.{proc_cmp}
use Rattle.pmg_value.specs.Signatures.{Signature}
use Rattle.pmg_value.specs.declared.process.Proc.{Proc}
use Rattle.pmg_value.proofs.ProcessOrder.{procs_total, exact_procs}
use Rattle.pmg_value.specs.InOrder.{in_order}
use Rattle.pmg_frame.specs.FenceOrder.{signature_cmp, AreSignaturesExact, AreNamesExact}
use Rattle.pmg_value.proofs.SetOrder.{from_list-in_order}

-- both comparisons in a row answer Equal
then_equal : (a b : Ordering) → ordering_then a b ≡ Equal → (a ≡ Equal) × (b ≡ Equal)
then_equal Less b h = absurd cc
then_equal Equal b h = (refl, h)
then_equal Greater b h = absurd cc

exact_bools : (a b : Bool) → bool_cmp a b ≡ Equal → a ≡ b
exact_bools true true h = refl
exact_bools false false h = refl
exact_bools true false h = absurd cc
exact_bools false true h = absurd cc

pub exact_lists : (ps qs : List Proc) → slice_cmp proc_cmp ps qs ≡ Equal → ps ≡ qs
exact_lists [] [] h = refl
exact_lists [] (q ∷ qs) h = absurd cc
exact_lists (p ∷ ps) [] h = absurd cc
exact_lists (p ∷ ps) (q ∷ qs) h =
    let both = then_equal (proc_cmp p q) (slice_cmp proc_cmp ps qs) h in
    ap (λ (r : Proc). r ∷ ps) (exact_procs p q both.0) ∙ ap (λ (rs : List Proc). q ∷ rs) (exact_lists ps qs both.1)

pub signatures_exact : AreSignaturesExact
signatures_exact s t h =
    let both = then_equal (slice_cmp proc_cmp (in_order s.participants) (in_order t.participants)) (bool_cmp s.collect t.collect) h in
    let same : in_order s.participants ≡ in_order t.participants = exact_lists _ _ both.0 in
    let participants : s.participants ≡ t.participants =
    sym (from_list-in_order procs_total exact_procs s.participants) ∙ ap set.from_list same ∙ from_list-in_order procs_total exact_procs t.participants in
    ap (λ (ps : set.FinSet proc_cmp). record { participants = ps; collect = s.collect }) participants
    ∙ ap (λ (b : Bool). record { participants = t.participants; collect = b }) (exact_bools s.collect t.collect both.1)

pub names_exact : AreNamesExact
names_exact f g h =
    let both = then_equal (signature_cmp f.signature g.signature) (nat_cmp f.instance g.instance) h in
    ap (λ (s : Signature). record { signature = s; instance = f.instance }) (signatures_exact f.signature g.signature both.0)
    ∙ ap (λ (n : ℕ). record { signature = g.signature; instance = n }) (exact_unsigned f.instance g.instance both.1)
