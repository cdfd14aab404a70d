-- However a stream is cut, it is the same stream.
use Rattle.std.proofs.Common.{◌≡◌, ℕ, zero, suc, ◌+◌, ◌-◌, ◌<◌, ◌≤◌, Bool, true, false, ltb, cond, List, [], ◌∷◌, ◌++◌, length, map, drop, Option, Some, None, Result, Ok, Err, refl, sym, ap, subst, ◌∙◌, append_assoc, arith, ◌⊎◌, inl, inr}
use Rattle.std.specs.List.{flat_map}
use Rattle.std.proofs.lemmas.Bool.{ltb-false, le-ltb}
use Rattle.std.proofs.lemmas.List.{length-append, length-drop, take-append-le, drop-append-le, drop_at}
use Rattle.pmg_value.specs.Lists.{Each}
use Rattle.pmg_value.specs.declared.refusal.Fault.{Fault}
use Rattle.pmg_wire.specs.Reading.{Place, past, front, ◌>>=◌, IsBytes, Takes}
use Rattle.pmg_wire.proofs.Steps.{bind_ok, Takes-then, IsBytes-after}
use Rattle.pmg_frame.specs.declared.frame.Frame.{Frame}
use Rattle.pmg_frame.specs.Grammar.{IsSpelt, SpellsFrame}
use Rattle.pmg_frame.specs.Reading.{read_frame_body, read_head, behind_head, read_frame}
use Rattle.pmg_frame.specs.Versions.{frame_spelling, Spelt, spelt_text}
use Rattle.pmg_frame.specs.declared.reading.Head.{Head}
use Rattle.pmg_frame.specs.Streams.{FramesFollow, StopsAt, more_at, left_after, Feeds, Says, SameFeed, StreamSaid, said_behind, said_at, said_from, stream_said}
use Rattle.pmg_frame.proofs.FrameLaws.{frame_found, frame_only, chosen, some_is}

front_more : (n : ℕ) (at : Place) (b : List ℕ) → n ≤ length at.rest → front n (more_at at b) ≡ front n at
front_more n at b le = ap (λ (t : List ℕ). record { offset = at.offset; rest = t }) (take-append-le n at.rest b le)

past_more : (n : ℕ) (at : Place) (b : List ℕ) → n ≤ length at.rest → past (more_at at b) n ≡ more_at (past at n) b
past_more n at b le = ap (λ (t : List ℕ). record { offset = at.offset + n; rest = t }) (drop-append-le n at.rest b le)

-- where the head is there, more bytes leave it as it is
frame_long : (at : Place) → 6 ≤ length at.rest → read_frame at ≡ (read_head (front 6 at) >>= λ head. behind_head head.0 (past at 6))
unfolding read_frame
frame_long at six = rw (le-ltb (length at.rest) 6 six) refl

frame_more : (at : Place) (b : List ℕ) → 6 ≤ length at.rest → read_frame (more_at at b) ≡ (read_head (front 6 at) >>= λ head. behind_head head.0 (more_at (past at 6) b))
frame_more at b six =
    frame_long (more_at at b) (omega (arith, length-append at.rest b))
    ∙ ap (λ (x : Place). read_head x >>= λ head. behind_head head.0 (past (more_at at b) 6)) (front_more 6 at b six)
    ∙ ap (λ (x : Place). read_head (front 6 at) >>= λ head. behind_head head.0 x) (past_more 6 at b six)

-- where the body is there too
behind_long : (head : Head) (at : Place) → head.len ≤ length at.rest → behind_head head at ≡ (read_frame_body head.version head.kind (front head.len at) >>= λ frame. Ok (Some (frame, past at head.len)))
unfolding behind_head
behind_long head at le = rw (le-ltb (length at.rest) head.len le) refl

behind_more : (head : Head) (at : Place) (b : List ℕ) → head.len ≤ length at.rest → behind_head head (more_at at b) ≡ (read_frame_body head.version head.kind (front head.len at) >>= λ frame. Ok (Some (frame, more_at (past at head.len) b)))
behind_more head at b le =
    behind_long head (more_at at b) (omega (arith, length-append at.rest b))
    ∙ ap (λ (x : Place). read_frame_body head.version head.kind x >>= λ frame. Ok (Some (frame, past (more_at at b) head.len))) (front_more head.len at b le)
    ∙ ap (λ (x : Place). read_frame_body head.version head.kind (front head.len at) >>= λ frame. Ok (Some (frame, x))) (past_more head.len at b le)

-- how a fault comes about
chosen_err : {A : Type 0} (b : Bool) (r : Result (Option A) Fault) (f : Fault) → cond b (Ok None) r ≡ Err f → (b ≡ false) × (r ≡ Err f)
chosen_err true r f e = absurd cc
chosen_err false r f e = (refl, e)

failed : (B : Type 0) → Fault → Result B Fault
failed B d = Err d

err_is : (B : Type 0) (d f : Fault) → failed B d ≡ failed B f → d ≡ f
unfolding failed
err_is B d f e = cc

bind_err : {A B : Type 0} (r : Result A Fault) (g : A → Result B Fault) (f : Fault) → (r >>= g) ≡ Err f → (r ≡ Err f) ⊎ ((x : A) × (r ≡ Ok x) × (g x ≡ Err f))
unfolding failed
bind_err (Ok x) g f e = inr (x, refl, e)
bind_err {B = B} (Err d) g f e = inl (ap (λ (x : Fault). Err x) (err_is B d f e))

-- a frame that is there is there with more bytes after it
stable_frame : (at : Place) (b : List ℕ) (frame : Frame) (mid : Place) → read_frame at ≡ Ok (Some (frame, mid)) → read_frame (more_at at b) ≡ Ok (Some (frame, more_at mid b))
unfolding read_frame behind_head
stable_frame at b frame mid e =
    let long = chosen (ltb (length at.rest) 6) _ (frame, mid) e in
    let head = bind_ok (read_head (front 6 at)) (λ h. behind_head h.0 (past at 6)) (Some (frame, mid)) long.1 in
    let behind = chosen (ltb (length (drop 6 at.rest)) head.0.0.len) _ (frame, mid) head.2 in
    let body = bind_ok (read_frame_body head.0.0.version head.0.0.kind (front head.0.0.len (past at 6))) (λ x. Ok (Some (x, past (past at 6) head.0.0.len))) (Some (frame, mid)) behind.1 in
    let same : (body.0, past (past at 6) head.0.0.len) ≡ (frame, mid) = some_is _ (frame, mid) body.2 in
    frame_more at b (ltb-false _ _ long.0)
    ∙ ap (λ (r : Result (Head × Place) Fault). r >>= λ h. behind_head h.0 (more_at (past at 6) b)) head.1
    ∙ behind_more head.0.0 (past at 6) b (ltb-false _ _ behind.0)
    ∙ ap (λ (r : Result Frame Fault). r >>= λ x. Ok (Some (x, more_at (past (past at 6) head.0.0.len) b))) body.1
    ∙ ap (λ (x : Frame × Place). Ok (Some (x.0, more_at x.1 b))) same

-- a fault that is there is there with more bytes after it
stable_fault : (at : Place) (b : List ℕ) (f : Fault) → read_frame at ≡ Err f → read_frame (more_at at b) ≡ Err f
unfolding read_frame behind_head
stable_fault at b f e =
    let long = chosen_err (ltb (length at.rest) 6) _ f e in
    frame_more at b (ltb-false _ _ long.0)
    ∙ elim (bind_err (read_head (front 6 at)) (λ h. behind_head h.0 (past at 6)) f long.1) [
      | inl bad ↦ ap (λ (r : Result (Head × Place) Fault). r >>= λ h. behind_head h.0 (more_at (past at 6) b)) bad
      | inr head ↦
          let behind = chosen_err (ltb (length (drop 6 at.rest)) head.0.0.len) _ f head.2 in
          ap (λ (r : Result (Head × Place) Fault). r >>= λ h. behind_head h.0 (more_at (past at 6) b)) head.1
          ∙ behind_more head.0.0 (past at 6) b (ltb-false _ _ behind.0)
          ∙ elim (bind_err (read_frame_body head.0.0.version head.0.0.kind (front head.0.0.len (past at 6))) (λ x. Ok (Some (x, past (past at 6) head.0.0.len))) f behind.1) [
            | inl bad ↦ ap (λ (r : Result Frame Fault). r >>= λ x. Ok (Some (x, more_at (past (past at 6) head.0.0.len) b))) bad
            | inr body ↦ absurd (let e : Ok (Some (body.0, past (past at 6) head.0.0.len)) ≡ Err f = body.2 in cc)
          ]
    ]

-- ---- runs

runs_more : (at : Place) (fs : List Frame) (end : Place) (b : List ℕ) → FramesFollow at fs end → FramesFollow (more_at at b) fs (more_at end b)
unfolding FramesFollow
runs_more at [] end b r = ap (λ (x : Place). more_at x b) r
runs_more at (f ∷ fs) end b r = (more_at r.0 b, stable_frame at b f r.0 r.1, runs_more r.0 fs end b r.2)

runs_then : (at : Place) (fs : List Frame) (mid : Place) (gs : List Frame) (end : Place) → FramesFollow at fs mid → FramesFollow mid gs end → FramesFollow at (fs ++ gs) end
unfolding FramesFollow
runs_then at [] mid gs end r s = subst (λ (x : Place). FramesFollow x gs end) r s
runs_then at (f ∷ fs) mid gs end r s = (r.0, r.1, runs_then r.0 fs mid gs end r.2 s)

more_twice : (at : Place) (a b : List ℕ) → more_at (more_at at a) b ≡ more_at at (a ++ b)
more_twice at a b = ap (λ (t : List ℕ). record { offset = at.offset; rest = t }) (append_assoc at.rest a b)

some_place : (x y : Place) → Some x ≡ Some y → x ≡ y
some_place x y e = cc

pub joins : (at mid : Place) (a b : List ℕ) (fs gs : List Frame) (fault : Option Fault) (new : Option Place) → Feeds at a fs None (Some mid) → Feeds mid b gs fault new → Feeds at (a ++ b) (fs ++ gs) fault new
joins at mid a b fs gs fault new p q =
    let same : p.end ≡ mid = sym (some_place mid p.end p.left) in
    let first : FramesFollow (more_at at (a ++ b)) fs (more_at mid b) =
    subst (λ (x : Place). FramesFollow x fs (more_at mid b)) (more_twice at a b) (subst (λ (x : Place). FramesFollow (more_at (more_at at a) b) fs (more_at x b)) same (runs_more (more_at at a) fs p.end b p.runs)) in
    record { end = q.end; runs = runs_then (more_at at (a ++ b)) fs (more_at mid b) gs q.end first q.runs; stops = q.stops; left = q.left }

pub stays_closed : (at : Place) (a b : List ℕ) (fs : List Frame) (f : Fault) → Feeds at a fs (Some f) None → Feeds at (a ++ b) fs (Some f) None
stays_closed at a b fs f p = record {
  end = more_at p.end b;
  runs = subst (λ (x : Place). FramesFollow x fs (more_at p.end b)) (more_twice at a b) (runs_more (more_at at a) fs p.end b p.runs);
  stops = stable_fault p.end b f p.stops;
  left = refl;
}

-- ---- one reading

-- two readings from one place are one
abbrev SameRun : List Frame → List Frame → Place → Place → Type 0
SameRun fs gs x y = (fs ≡ gs) × (x ≡ y)

stops_no_frame : (end : Place) (fault : Option Fault) (frame : Frame) (mid : Place) → StopsAt end fault → read_frame end ≡ Ok (Some (frame, mid)) → ⊥
stops_no_frame end None frame mid s e = let bad = sym s ∙ e in cc
stops_no_frame end (Some f) frame mid s e = let bad = sym s ∙ e in cc

one_run : (at : Place) (fs gs : List Frame) (x y : Place) (f g : Option Fault) → FramesFollow at fs x → StopsAt x f → FramesFollow at gs y → StopsAt y g → SameRun fs gs x y
unfolding FramesFollow
one_run at [] [] x y f g r s t u = (refl, r ∙ sym t)
one_run at [] (frame ∷ gs) x y f g r s t u = absurd (stops_no_frame at f frame t.0 (subst (λ (z : Place). StopsAt z f) r s) t.1)
one_run at (frame ∷ fs) [] x y f g r s t u = absurd (stops_no_frame at g frame r.0 (subst (λ (z : Place). StopsAt z g) t u) r.1)
one_run at (frame ∷ fs) (other ∷ gs) x y f g r s t u =
    let same : (frame, r.0) ≡ (other, t.0) = some_is _ _ (sym r.1 ∙ t.1) in
    let rest = one_run r.0 fs gs x y f g r.2 s (subst (λ (z : Frame × Place). FramesFollow z.1 gs y) (sym same) t.2) u in
    (λ i. (same i).0 ∷ rest.0 i, rest.1)

one_fault : (x : Place) (f g : Option Fault) → StopsAt x f → StopsAt x g → f ≡ g
unfolding failed
one_fault x None None s t = refl
one_fault x None (Some g) s t = absurd (let bad = sym s ∙ t in cc)
one_fault x (Some f) None s t = absurd (let bad = sym s ∙ t in cc)
one_fault x (Some f) (Some g) s t = let same = sym s ∙ t in ap (λ (d : Fault). Some d) (err_is _ f g same)

pub is_determined : (at : Place) (bytes : List ℕ) (fs gs : List Frame) (f g : Option Fault) (new other : Option Place) → Feeds at bytes fs f new → Feeds at bytes gs g other → SameFeed fs gs f g new other
is_determined at bytes fs gs f g new other p q =
    let run = one_run (more_at at bytes) fs gs p.end q.end f g p.runs p.stops q.runs q.stops in
    let fault = one_fault p.end f g p.stops (subst (λ (x : Place). StopsAt x g) (sym run.1) q.stops) in
    record { frames = run.0; fault = fault; left = p.left ∙ (λ i. left_after (fault i) (run.1 i)) ∙ sym q.left }

-- ---- spelled

-- frames, spelled one after another from a place on, each in its version
record AreSpelt (at : Place) (fs : List Frame) (end : Place) : Type 0 where
  spelt : List Spelt
  are_those : map (λ s. s.frame) spelt ≡ fs
  takes : Takes at (flat_map spelt_text spelt) end
  are : Each IsSpelt spelt

runs_spelled : (at : Place) (fs : List Frame) (end : Place) → IsBytes at.rest → FramesFollow at fs end → AreSpelt at fs end
unfolding FramesFollow
runs_spelled at [] end fits r = record { spelt = []; are_those = refl; takes = record { parts = ap (λ (x : Place). x.rest) (sym r); place = ap (λ (x : Place). x.offset) r ∙ omega arith }; are = tt }
runs_spelled at (f ∷ fs) end fits r =
    let found = frame_found at f r.0 fits r.1 in
    let v = found.0 in
    let one = found.1 in
    let others = runs_spelled r.0 fs end (IsBytes-after (frame_spelling v f) fits one.takes) r.2 in
    record {
      spelt = record { version = v; frame = f } ∷ others.spelt;
      are_those = ap (λ (gs : List Frame). f ∷ gs) others.are_those;
      takes = Takes-then (frame_spelling v f) (flat_map spelt_text others.spelt) one.takes others.takes;
      are = (record { version = one.version; small = one.small; is = one.is }, others.are);
    }

pub is_spelled : (at : Place) (bytes : List ℕ) (fs : List Frame) (fault : Option Fault) (new : Option Place) → IsBytes (at.rest ++ bytes) → (fed : Feeds at bytes fs fault new) → Says (more_at at bytes) fs fault fed.end
is_spelled at bytes fs fault new fits fed =
    let s = runs_spelled (more_at at bytes) fs fed.end fits fed.runs in
    record { spelt = s.spelt; are_those = s.are_those; takes = s.takes; are = s.are; stops = fed.stops }

spelled_runs : (at : Place) (spelt : List Spelt) (end : Place) → Takes at (flat_map spelt_text spelt) end → Each IsSpelt spelt → FramesFollow at (map (λ s. s.frame) spelt) end
unfolding FramesFollow
spelled_runs at [] end t are =
    let offset : end.offset ≡ at.offset = omega (arith, t.place) in
    λ i. record { offset = offset i; rest = sym t.parts i }
spelled_runs at (s ∷ ss) end t are =
    let text = spelt_text s in
    let others = flat_map spelt_text ss in
    let mid : Place = record { offset = at.offset + length text; rest = others ++ end.rest } in
    let one : SpellsFrame s.version at s.frame mid =
    record { version = are.0.version; takes = record { parts = t.parts ∙ append_assoc text others end.rest; place = refl }; small = are.0.small; is = are.0.is } in
    let behind : Takes mid others end = record { parts = refl; place = omega (arith, t.place, length-append text others) } in
    (mid, frame_only s.version at s.frame mid one, spelled_runs mid ss end behind are.1)

pub is_found : (at end : Place) (bytes : List ℕ) (fs : List Frame) (fault : Option Fault) → Says (more_at at bytes) fs fault end → Feeds at bytes fs fault (left_after fault end)
is_found at end bytes fs fault s =
    record { end = end; runs = subst (λ (gs : List Frame). FramesFollow (more_at at bytes) gs end) s.are_those (spelled_runs (more_at at bytes) s.spelt end s.takes s.are); stops = s.stops; left = refl }

-- ---- one frame more

runs_one : (at : Place) (frame : Frame) (end : Place) → read_frame at ≡ Ok (Some (frame, end)) → FramesFollow at (frame ∷ []) end
unfolding FramesFollow
runs_one at frame end e = (end, e, refl)

pub runs_push : (at : Place) (fs : List Frame) (mid : Place) (frame : Frame) (end : Place) → FramesFollow at fs mid → read_frame mid ≡ Ok (Some (frame, end)) → FramesFollow at (fs ++ frame ∷ []) end
runs_push at fs mid frame end r e = runs_then at fs mid (frame ∷ []) end r (runs_one mid frame end e)

pub runs_none : (at : Place) → FramesFollow at [] at
unfolding FramesFollow
runs_none at = refl

-- a frame takes some bytes
pub moves_on : (at : Place) (frame : Frame) (mid : Place) → read_frame at ≡ Ok (Some (frame, mid)) → length mid.rest < length at.rest
unfolding read_frame behind_head
moves_on at frame mid e =
    let long = chosen (ltb (length at.rest) 6) _ (frame, mid) e in
    let head = bind_ok (read_head (front 6 at)) (λ h. behind_head h.0 (past at 6)) (Some (frame, mid)) long.1 in
    let behind = chosen (ltb (length (drop 6 at.rest)) head.0.0.len) _ (frame, mid) head.2 in
    let body = bind_ok (read_frame_body head.0.0.version head.0.0.kind (front head.0.0.len (past at 6))) (λ x. Ok (Some (x, past (past at 6) head.0.0.len))) (Some (frame, mid)) behind.1 in
    let same : (body.0, past (past at 6) head.0.0.len) ≡ (frame, mid) = some_is _ (frame, mid) body.2 in
    let rest : length (drop head.0.0.len (drop 6 at.rest)) ≡ length mid.rest = ap (λ (x : Frame × Place). length x.1.rest) same in
    omega (arith, rest, ltb-false _ _ long.0, length-drop head.0.0.len (drop 6 at.rest), length-drop 6 at.rest)

-- where whole frames end
pub record IsEnd (offset : ℕ) (held : List ℕ) (end : Place) : Type 0 where
  pub fewer : length end.rest ≤ length held
  pub is : end ≡ record { offset = offset + (length held - length end.rest); rest = drop (length held - length end.rest) held }

pub runs_end : (offset : ℕ) (held : List ℕ) (fs : List Frame) (end : Place) → IsBytes held → FramesFollow (record { offset = offset; rest = held }) fs end → IsEnd offset held end
runs_end offset held fs end fits r =
    let spelt = runs_spelled (record { offset = offset; rest = held }) fs end fits r in
    let text = flat_map spelt_text spelt.spelt in
    let t = spelt.takes in
    let lengths : length held ≡ length text + length end.rest = ap length t.parts ∙ length-append text end.rest in
    let used : length text ≡ length held - length end.rest = omega arith in
    let rest : end.rest ≡ drop (length held - length end.rest) held = sym (ap (drop (length held - length end.rest)) t.parts ∙ drop_at text end.rest (length held - length end.rest) used) in
    let place : end.offset ≡ offset + (length held - length end.rest) = t.place ∙ ap (λ (n : ℕ). offset + n) used in
    record { fewer = omega arith; is = λ i. record { offset = place i; rest = rest i } }

-- ---- what a whole stream says

-- the frames that follow one another, and why they stop, are what is read
pub said_is : (n : ℕ) (at : Place) (fs : List Frame) (end : Place) (fault : Option Fault) → length at.rest < n → FramesFollow at fs end → StopsAt end fault → said_from n at ≡ record { frames = fs; fault = fault; end = end }
unfolding said_from FramesFollow
said_is zero at fs end fault short r s = absurd (omega arith)
said_is (suc n) at [] end None short r s = rw (ap read_frame (sym r) ∙ s) (ap (λ (x : Place). record { frames = []; fault = None; end = x }) (sym r))
said_is (suc n) at [] end (Some f) short r s = rw (ap read_frame (sym r) ∙ s) (ap (λ (x : Place). record { frames = []; fault = Some f; end = x }) (sym r))
said_is (suc n) at (f ∷ fs) end fault short r s =
    let fewer = moves_on at f r.0 r.1 in
    rw r.1 (ap (said_behind f) (said_is n r.0 fs end fault (omega (arith, fewer)) r.2 s))

-- and what is read follows one another so
pub record IsRun (at : Place) (said : StreamSaid) : Type 0 where
  pub runs : FramesFollow at said.frames said.end
  pub stops : StopsAt said.end said.fault

run_at : (at : Place) (behind : Place → StreamSaid) → ((mid : Place) → length mid.rest < length at.rest → IsRun mid (behind mid)) → (next : Result (Option (Frame × Place)) Fault) → read_frame at ≡ next → IsRun at (said_at at behind next)
run_at at behind runs (Err f) e = record { runs = runs_none at; stops = e }
run_at at behind runs (Ok None) e = record { runs = runs_none at; stops = e }
run_at at behind runs (Ok (Some next)) e =
    let rest = runs next.1 (moves_on at next.0 next.1 e) in
    record {
      runs = runs_then at (next.0 ∷ []) next.1 (behind next.1).frames (behind next.1).end (runs_one at next.0 next.1 e) rest.runs;
      stops = rest.stops;
    }

pub said_runs : (n : ℕ) (at : Place) → length at.rest < n → IsRun at (said_from n at)
unfolding said_from
said_runs zero at short = absurd (omega arith)
said_runs (suc n) at short = run_at at (said_from n) (λ mid fewer. said_runs n mid (omega arith)) (read_frame at) refl

pub is_said : (bytes : List ℕ) → IsBytes bytes → Says (record { offset = 0; rest = bytes }) (stream_said bytes).frames (stream_said bytes).fault (stream_said bytes).end
is_said bytes fits =
    let at : Place = record { offset = 0; rest = bytes } in
    let run = said_runs (suc (length bytes)) at (omega arith) in
    let spelled = runs_spelled at (stream_said bytes).frames (stream_said bytes).end fits run.runs in
    record { spelt = spelled.spelt; are_those = spelled.are_those; takes = spelled.takes; are = spelled.are; stops = run.stops }
