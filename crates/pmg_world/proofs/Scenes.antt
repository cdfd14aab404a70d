-- What a script's lines do to its world.
use Rattle.std.proofs.Common.{◌≡◌, ◌∙◌, sym, ap, ℕ, ◌+◌, ◌<◌, List, [], ◌∷◌, ◌++◌, length, take, Option, get_or}
use Rattle.std.specs.List.{cons_option}
use Rattle.std.proofs.lemmas.List.{take_more, map-append}
use Rattle.std.proofs.lemmas.List.Elements.{filter_map-append}
use Rattle.pmg_value.specs.Spelling.{form, plain_of, plains_of}
use Rattle.pmg_value.specs.declared.process.Proc.{Proc}
use Rattle.pmg_value.specs.declared.value.Value.{Value}
use Rattle.pmg_world.specs.Stages.{proc_element, proc_elements}

-- ---- processes in an array

-- one item more
pub procs_more : (items : List Value) (i : ℕ) (v : Value) (procs : List Proc) → i < length items → v ≡ get_or items i v → procs ≡ proc_elements (plains_of (take i items))
    → (found : Option Proc) → found ≡ proc_element (plain_of (form v)) → procs ++ cons_option found [] ≡ proc_elements (plains_of (take (i + 1) items))
procs_more items i v procs lt at is found same =
    let last = plain_of (form v) in
    ap (λ ps. ps ++ cons_option found []) is ∙ ap (λ p. proc_elements (plains_of (take i items)) ++ cons_option p []) same
    ∙ sym (filter_map-append proc_element (plains_of (take i items)) (last ∷ [])) ∙ ap proc_elements (sym (map-append (λ (x : Value). plain_of (form x)) (take i items) (v ∷ [])))
    ∙ ap (λ xs. proc_elements (plains_of xs)) (ap (λ x. take i items ++ x ∷ []) at ∙ sym (take_more items i v lt))
