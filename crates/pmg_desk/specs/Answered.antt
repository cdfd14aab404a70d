-- One answer in two forms.
use Rattle.std.specs.Prelude.{◌≡◌, Result, Ok, Err}
use Rattle.pmg_value.specs.declared.refusal.Refusal.{Refusal}
use Rattle.pmg_node_model.specs.Acts.{Reply}

-- the answers are equal, with the replies as these functions give them
abbrev pub SameReplies : {X Y : Type 0} → (X → Reply) → (Y → Reply) → Result X Refusal → Result Y Refusal → Type 0
SameReplies view other (Ok x) (Ok y) = view x ≡ other y
SameReplies view other (Err e) (Err f) = e ≡ f
SameReplies view other (Ok x) (Err f) = ⊥
SameReplies view other (Err e) (Ok y) = ⊥
