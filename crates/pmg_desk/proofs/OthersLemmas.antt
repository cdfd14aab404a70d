-- What others do leaves a process's call as it is: in its fence, or in its get.
use Rattle.std.proofs.Common.{◌≡◌, inl, inr, ℕ, Bool, true, false, List, [], ◌∷◌, Option, Some, None, refl, sym, ap, ◌∙◌}
use Rattle.std.specs.Option.{option_map}
use Rattle.pmg_value.specs.Signatures.{FenceName}
use Rattle.pmg_value.specs.declared.process.Proc.{Proc}
use Rattle.pmg_fence.proofs.EntryLemmas.{proc_itself}
use Rattle.pmg_get.specs.Gets.{Outcome}
use Rattle.pmg_get.specs.declared.view.Mode.TheVariants as modes
use Rattle.pmg_jobinfo.specs.Jobs.{Jobs}
use Rattle.pmg_node_model.proofs.AfterActs.{after_act}
use Rattle.pmg_node_model.proofs.CallFacts.{call-settled}
use Rattle.pmg_node_model.proofs.CauseFacts.{neither}
use Rattle.pmg_node_model.proofs.Moving.{Moves, StaysOrMoves, does_call}
use Rattle.pmg_node_model.specs.Acts.{Act, Request, does}
use Rattle.pmg_node_model.specs.Holdings.{Get, CallState, NodeState, answer_in, call_of, released_by, settle, settled_by}
use Rattle.pmg_node.specs.Servers.{Server, after}
use Rattle.pmg_journal.specs.Calling.{caller_of, is_by, is_caller}
use Rattle.pmg_journal.specs.Knowing.{AreOfOthers}
use Rattle.pmg_journal.specs.Replays.{Happening, after_all}
use Rattle.pmg_desk.specs.Telling.{fence_of_call}

-- the process is in a get
abbrev pub is_getting : Option CallState → Bool
is_getting (Some (CallState.parked get)) = true
is_getting (Some (CallState.answered get outcome)) = true
is_getting (Some (CallState.refreshing get number)) = true
is_getting (Some (CallState.refreshed get outcome)) = true
is_getting c = false

not_both : {P : Type 0} (b : Bool) → b ≡ true → b ≡ false → P
not_both true is apart = cc
not_both false is apart = cc

-- what is seen of a call that does not change as calls are settled, nor as a reply answers it
module _
    {X : Type 0}
    (view : Option CallState → X)
    (settles : (jobs : Jobs) (id : ℕ) (h : NodeState) (c : Option CallState) → view (option_map (settle jobs id h) c) ≡ view c)
    (answers : (get : Get) (number : ℕ) (o : Outcome) → view (Some (CallState.refreshed get o)) ≡ view (Some (CallState.refreshing get number))) where
  module _ (p : Proc) where
    -- the act is another process's, or nobody's
    own : {P : Type 0} (a b : Act) → a ≡ b → caller_of b ≡ Some p → is_caller p (caller_of a) ≡ false → P
    own a b is its other = not_both (is_caller p (caller_of a)) (ap (is_caller p) (ap caller_of is ∙ its) ∙ proc_itself p) other

    view_moves : (jobs : Jobs) (id : ℕ) (h : NodeState) (a : Act) (c : Option CallState) → is_caller p (caller_of a) ≡ false → StaysOrMoves jobs id h p a c → view c ≡ view (call_of h p)
    view_moves jobs id h a c other (inl same) = ap view same
    view_moves jobs id h a c other (inr (Moves.entering list collect is was now)) = own a (Act.request (Request.enter p list collect)) is refl other
    view_moves jobs id h a c other (inr (Moves.parking get mode is was answer now)) = own a (Act.request (Request.ask p get mode)) is refl other
    view_moves jobs id h a c other (inr (Moves.leaving f gone is was now)) = own a (Act.request (Request.leave p)) is refl other
    view_moves jobs id h a c other (inr (Moves.taking get outcome is was now)) = own a (Act.request (Request.take p)) is refl other
    view_moves jobs id h a c other (inr (Moves.taking_anew get outcome is was now)) = own a (Act.request (Request.take p)) is refl other
    view_moves jobs id h a c other (inr (Moves.answering r get number is was replied now)) = ap view now ∙ answers get number _ ∙ ap view (sym was)
    view_moves jobs id h a c other (inr (Moves.ending is now)) = own a (Act.request (Request.terminate p)) is refl other

    view_after : (s : Server) (a : Act) → is_caller p (caller_of a) ≡ false → view (call_of (after s a).holding p) ≡ view (call_of s.holding p)
    view_after s a other =
        after_act s.jobs s.id s.holding a (λ h. view (call_of h p) ≡ view (call_of s.holding p)) refl (λ none.
        ap view (call-settled s.jobs s.id (does s.jobs s.id s.holding a).left p) ∙ settles s.jobs s.id (does s.jobs s.id s.holding a).left (call_of (does s.jobs s.id s.holding a).left p)
        ∙ view_moves s.jobs s.id s.holding a (call_of (does s.jobs s.id s.holding a).left p) other (does_call s.jobs s.id s.holding p a none))

    pub view_over : (s : Server) (es : List Happening) → AreOfOthers p es → view (call_of (after_all s es).holding p) ≡ view (call_of s.holding p)
    view_over s [] others = refl
    view_over s (e ∷ es) others =
        let both = neither (is_by p e.act) _ others in view_over (after s e.act) es both.1 ∙ view_after s e.act both.0

released_fence : (b : Bool) (f : FenceName) (gone : List Proc) → fence_of_call (Some (released_by b f gone)) ≡ Some f
released_fence true f gone = refl
released_fence false f gone = refl

settled_fence : (get : Get) (o : Outcome) → fence_of_call (Some (settled_by get o)) ≡ None
settled_fence get Outcome.parks = refl
settled_fence get (Outcome.found value) = refl
settled_fence get Outcome.absent = refl
settled_fence get Outcome.outside = refl

pub fence_settles : (jobs : Jobs) (id : ℕ) (h : NodeState) (c : Option CallState) → fence_of_call (option_map (settle jobs id h) c) ≡ fence_of_call c
fence_settles jobs id h None = refl
fence_settles jobs id h (Some (CallState.in_fence f)) = released_fence _ f _
fence_settles jobs id h (Some (CallState.released f gone)) = refl
fence_settles jobs id h (Some (CallState.parked get)) = settled_fence get (answer_in jobs id h get modes.Wait)
fence_settles jobs id h (Some (CallState.answered get outcome)) = refl
fence_settles jobs id h (Some (CallState.refreshing get number)) = refl
fence_settles jobs id h (Some (CallState.refreshed get outcome)) = refl

-- the fence that a process is in is the same, whatever others do
pub fence_stays : (p : Proc) (s : Server) (es : List Happening) → AreOfOthers p es → fence_of_call (call_of (after_all s es).holding p) ≡ fence_of_call (call_of s.holding p)
fence_stays = view_over fence_of_call fence_settles (λ get number o. refl)

released_getting : (b : Bool) (f : FenceName) (gone : List Proc) → is_getting (Some (released_by b f gone)) ≡ false
released_getting true f gone = refl
released_getting false f gone = refl

settled_getting : (get : Get) (o : Outcome) → is_getting (Some (settled_by get o)) ≡ true
settled_getting get Outcome.parks = refl
settled_getting get (Outcome.found value) = refl
settled_getting get Outcome.absent = refl
settled_getting get Outcome.outside = refl

pub getting_settles : (jobs : Jobs) (id : ℕ) (h : NodeState) (c : Option CallState) → is_getting (option_map (settle jobs id h) c) ≡ is_getting c
getting_settles jobs id h None = refl
getting_settles jobs id h (Some (CallState.in_fence f)) = released_getting _ f _
getting_settles jobs id h (Some (CallState.released f gone)) = refl
getting_settles jobs id h (Some (CallState.parked get)) = settled_getting get (answer_in jobs id h get modes.Wait)
getting_settles jobs id h (Some (CallState.answered get outcome)) = refl
getting_settles jobs id h (Some (CallState.refreshing get number)) = refl
getting_settles jobs id h (Some (CallState.refreshed get outcome)) = refl

-- who is in a get is so, whatever others do
pub getting_stays : (p : Proc) (s : Server) (es : List Happening) → AreOfOthers p es → is_getting (call_of (after_all s es).holding p) ≡ is_getting (call_of s.holding p)
getting_stays = view_over is_getting getting_settles (λ get number o. refl)
