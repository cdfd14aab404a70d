-- Frames that were delivered, one more.
use Rattle.std.proofs.Common.{◌≡◌, List, [], ◌∷◌, ◌++◌, refl, sym, ap, ◌∙◌, append_assoc}
use Rattle.std.proofs.lemmas.List.{append-nil, map-append}
use Rattle.pmg_frame.specs.declared.frame.Frame.{Frame}
use Rattle.pmg_node_model.specs.Acts.{Act, Reply}
use Rattle.pmg_journal.specs.Replays.{Happening, happening}
use Rattle.pmg_desk.specs.States.{HaveCome}

pub come_none : (es : List Happening) → HaveCome [] es es
come_none es = record { more = []; events = sym (append-nil es); acts = refl }

pub come_more : (frames : List Frame) (frame : Frame) (es es1 es2 : List Happening) (r : Reply) → es2 ≡ es1 ++ happening (Act.deliver frame) r ∷ [] → HaveCome frames es es1 → HaveCome (frames ++ frame ∷ []) es es2
come_more frames frame es es1 es2 r is come = record {
  more = come.more ++ happening (Act.deliver frame) r ∷ [];
  events = is ∙ ap (λ (l : List Happening). l ++ happening (Act.deliver frame) r ∷ []) come.events ∙ append_assoc es come.more (happening (Act.deliver frame) r ∷ []);
  acts = map-append (λ (e : Happening). e.act) come.more (happening (Act.deliver frame) r ∷ []) ∙ ap (λ (l : List Act). l ++ Act.deliver frame ∷ []) come.acts ∙ sym (map-append Act.deliver frames (frame ∷ []));
}
