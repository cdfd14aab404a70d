-- What goes out, one after the other, and a mark that goes with it.
use Rattle.std.proofs.Common.{◌≡◌, ℕ, Bool, true, false, List, [], ◌∷◌, ◌++◌, Option, Some, None, is_some, cond, refl, sym, ap, subst, ◌∙◌}
use Rattle.std.specs.Prelude.{Result, Ok, Err, if◌then◌else◌}
use Rattle.std.specs.Option.{option_to_list}
use Rattle.std.proofs.lemmas.List.{append_assoc, append-nil}
use Rattle.pmg_value.specs.declared.process.Proc.{Proc}
use Rattle.pmg_value.specs.declared.refusal.Refusal.{Refusal}
use Rattle.pmg_value.specs.declared.refusal.Refusal.TheVariants as refusals
use Rattle.pmg_commit.specs.Sealed.{Sealed}
use Rattle.pmg_frame.specs.Fences.{CommitAsk}
use Rattle.pmg_frame.specs.declared.frame.Frame.{Frame}
use Rattle.pmg_frame.specs.declared.frame.Frame.TheVariants as frames
use Rattle.pmg_dmodex.specs.Levels.{Levels, node_level, with_level}
use Rattle.pmg_node_model.specs.Choosing.{frame_for, marked_by, marked_if, sends, with_mark}
use Rattle.pmg_node_parts.specs.Marking.{mark_by, marks_back, AreSet}
use Rattle.pmg_node_model.specs.declared.due.ToSend.{ToSend}
use Rattle.pmg_node_parts.specs.declared.due.MarkUndo.{MarkUndo}
use Rattle.pmg_node_model.specs.declared.sent.Sent.{Sent}
use Rattle.pmg_node_parts.proofs.MarkLemmas.{set_back_is, set_stays, back_snoc, each_stays, each_snoc}

-- an ask that was made is the one that was due
pub ask_made : (may : Bool) (due ask : CommitAsk) → (if may then Ok due else Err refusals.BadParam) ≡ Ok ask → ask ≡ due
ask_made true due ask is = sym (ap ask_in is)
  where
    ask_in : Result CommitAsk Refusal → CommitAsk
    ask_in (Ok a) = a
    ask_in (Err e) = due
ask_made false due ask is = absurd cc

-- one more is sent
pub sends_marks : (sealer : Proc → Sealed) (m : Levels) (ds : List ToSend) (d : ToSend)
    → (sends sealer m (ds ++ d ∷ [])).marks ≡ marked_if (sends sealer m ds).marks (frame_for sealer (sends sealer m ds).marks d)
unfolding sends
sends_marks sealer m [] d = refl
sends_marks sealer m (c ∷ cs) d = sends_marks sealer (marked_if m (frame_for sealer m c)) cs d

pub sends_frames : (sealer : Proc → Sealed) (m : Levels) (ds : List ToSend) (d : ToSend)
    → (sends sealer m (ds ++ d ∷ [])).frames ≡ (sends sealer m ds).frames ++ option_to_list (frame_for sealer (sends sealer m ds).marks d)
unfolding sends
sends_frames sealer m [] d = append-nil (option_to_list (frame_for sealer m d))
sends_frames sealer m (c ∷ cs) d =
    ap (λ (out : List Sent). option_to_list (frame_for sealer m c) ++ out) (sends_frames sealer (marked_if m (frame_for sealer m c)) cs d)
    ∙ sym (append_assoc (option_to_list (frame_for sealer m c)) (sends sealer (marked_if m (frame_for sealer m c)) cs).frames
    (option_to_list (frame_for sealer (sends sealer (marked_if m (frame_for sealer m c)) cs).marks d)))

-- the marks once a frame is sent that sets this one, if any
abbrev pub marked_so : Levels → ℕ → Option (Proc × ℕ) → Levels
marked_so m to None = m
marked_so m to (Some mark) = with_mark m mark.0 to mark.1

pub mark_set : (m : Levels) (to : ℕ) (frame : Frame) → marked_so m to (mark_by frame) ≡ marked_by m to frame
mark_set m to (frames.Piece c) = refl
mark_set m to (frames.Header hd) = refl
mark_set m to (frames.FenceAsk a) = refl
mark_set m to (frames.RangeAsk a) = refl
mark_set m to (frames.DirectAsk a) = refl
mark_set m to (frames.RefreshAsk a) = refl
mark_set m to (frames.RefreshReply r) = refl

-- a mark is set where there is one
module _ (m : Levels) (p : Proc) (node level : ℕ) (o : Option ℕ) (there : o ≡ node_level m p node) where
  pub mark_missing : o ≡ None → m ≡ with_mark m p node level
  mark_missing none = sym (ap (λ (x : Option ℕ). cond (is_some x) (with_level m p node level) m) (sym there ∙ none))

  pub mark_there : (n : ℕ) → o ≡ Some n → with_level m p node level ≡ with_mark m p node level
  mark_there n some = sym (ap (λ (x : Option ℕ). cond (is_some x) (with_level m p node level) m) (sym there ∙ some))

module _ (m after : Levels) (bs : List MarkUndo) (b : MarkUndo) (x y : ℕ) (was : node_level m b.proc b.node ≡ Some x) (keeps : b.level ≡ x) (is : after ≡ with_level m b.proc b.node y) where
  -- a mark that is set can be set back
  pub mark_back : marks_back after (bs ++ b ∷ []) ≡ marks_back m bs
  mark_back =
      back_snoc after bs b
      ∙ ap (λ (l : Levels). marks_back l bs) ((λ i. with_level (is i) b.proc b.node (keeps i)) ∙ set_back_is m b.proc b.node x y was)

  pub marks_set : AreSet m bs → AreSet after (bs ++ b ∷ [])
  marks_set h =
      subst (λ (l : Levels). AreSet l (bs ++ b ∷ [])) (sym is)
      (each_snoc (with_level m b.proc b.node y) bs b (each_stays m b.proc b.node y bs h) (set_stays m b.proc b.node y b.proc b.node (ap is_some was)))
