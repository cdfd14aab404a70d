-- Lists of what is sent.
use Rattle.std.proofs.Common.{◌≡◌, ℕ, ◌<◌, Bool, true, false, List, [], ◌∷◌, Some, None, inl, inr, refl, subst, option_to_list}
use Rattle.std.specs.Prelude.{if◌then◌else◌, nat_lt}
use Rattle.std.proofs.lemmas.Bool.{ltb-true}
use Rattle.pmg_value.specs.Lists.{In, Each}
use Rattle.pmg_value.specs.declared.process.Proc.{Proc}
use Rattle.pmg_value.proofs.ListLemmas.{in_parts, in_append_left, in_append_right}
use Rattle.pmg_dmodex.specs.Levels.{Levels}
use Rattle.pmg_node_model.specs.Choosing.{sends, frame_for, marked_if, mark_of}
use Rattle.pmg_node_model.specs.declared.due.ToSend.{ToSend}
use Rattle.pmg_node_model.specs.declared.due.ToSend.TheVariants as sendings
use Rattle.pmg_node_model.specs.Holdings.{NodeState, sealer_of}
use Rattle.pmg_node_model.specs.Sending.{sent, piece_from}
use Rattle.pmg_node_model.specs.declared.sent.Sent.{Sent}

pub each_from : {A : Type 0} (P : A → Type 0) (xs : List A) → ((x : A) → In x xs → P x) → Each P xs
each_from P [] all = tt
each_from P (x ∷ xs) all = (all x (inl refl), each_from P xs (λ y i. all y (inr i)))

-- ---- what goes out

-- the frame is for what is due
abbrev pub IsFor : NodeState → ToSend → Sent → Type 0
IsFor h (sendings.Whole t) s = s ≡ t
IsFor h (sendings.Rest node p) s = (from : ℕ) × (from < (sealer_of h p).level) × (s ≡ sent node (piece_from h p from))

rest_for : (h : NodeState) (node : ℕ) (p : Proc) (from : ℕ) (s : Sent) (b : Bool) → nat_lt from (sealer_of h p).level ≡ b
    → In s (option_to_list (if b then Some (sent node (piece_from h p from)) else None)) → IsFor h (sendings.Rest node p) s
rest_for h node p from s true less (inl e) = (from, ltb-true from (sealer_of h p).level less, e)
rest_for h node p from s true less (inr i) = absurd i
rest_for h node p from s false less i = absurd i

one_for : (h : NodeState) (marks : Levels) (d : ToSend) (s : Sent) → In s (option_to_list (frame_for (sealer_of h) marks d)) → IsFor h d s
one_for h marks (sendings.Whole t) s (inl e) = e
one_for h marks (sendings.Whole t) s (inr i) = absurd i
one_for h marks (sendings.Rest node p) s i = rest_for h node p (mark_of marks node p) s (nat_lt (mark_of marks node p) (sealer_of h p).level) refl i

-- each frame that goes out is for something that is due
pub sent_for : (h : NodeState) (marks : Levels) (dues : List ToSend) (s : Sent) → In s (sends (sealer_of h) marks dues).frames → (d : ToSend) × In d dues × IsFor h d s
unfolding sends
sent_for h marks [] s i = absurd i
sent_for h marks (d ∷ ds) s i =
    elim (in_parts (option_to_list (frame_for (sealer_of h) marks d)) (sends (sealer_of h) (marked_if marks (frame_for (sealer_of h) marks d)) ds).frames s i) [
      | inl here ↦ (d, inl refl, one_for h marks d s here)
      | inr later ↦ let found = sent_for h (marked_if marks (frame_for (sealer_of h) marks d)) ds s later in (found.0, inr found.1, found.2)
    ]

-- and each whole frame that is due goes out
pub whole_sent : (h : NodeState) (marks : Levels) (dues : List ToSend) (s : Sent) → In (sendings.Whole s) dues → In s (sends (sealer_of h) marks dues).frames
unfolding sends
whole_sent h marks [] s i = absurd i
whole_sent h marks (d ∷ ds) s (inl e) =
    in_append_left (option_to_list (frame_for (sealer_of h) marks d)) (sends (sealer_of h) (marked_if marks (frame_for (sealer_of h) marks d)) ds).frames s (subst (λ x. In s (option_to_list (frame_for (sealer_of h) marks x))) e (inl refl))
whole_sent h marks (d ∷ ds) s (inr i) =
    in_append_right (option_to_list (frame_for (sealer_of h) marks d)) (sends (sealer_of h) (marked_if marks (frame_for (sealer_of h) marks d)) ds).frames s (whole_sent h (marked_if marks (frame_for (sealer_of h) marks d)) ds s i)
