-- What a stream tells is what was fed, where it was fed whole.
use Rattle.std.proofs.Common.{◌≡◌, ℕ, ◌==◌, Bool, true, false, cond, List, [], ◌∷◌, ◌++◌, map, length, Option, Some, None, Result, Ok, Err, refl, sym, ap, subst, ◌∙◌, arith}
use Rattle.pmg_value.specs.declared.refusal.Cause.TheVariants as causes
use Rattle.pmg_value.specs.declared.refusal.Fault.{Fault}
use Rattle.pmg_value.specs.declared.refusal.Refusal.{Refusal}
use Rattle.pmg_value.specs.declared.refusal.Refusal.TheVariants as refusals
use Rattle.pmg_wire.specs.Reading.{Place, fault, FailsReading}
use Rattle.std.specs.Prelude.{OnOk, IfErr}
use Rattle.std.specs.FinMap as finite
use Rattle.pmg_frame.specs.declared.frame.Frame.{Frame}
use Rattle.pmg_frame.specs.declared.frame.Frame.TheVariants as frames
use Rattle.pmg_frame.specs.Reading.{read_frame}
use Rattle.pmg_join.specs.Joins.{join_all}
use Rattle.pmg_join.proofs.ManyJoined.{free_in_grouping}
use Rattle.pmg_commit.specs.Data.{Data, join_data, of_contribution}
use Rattle.pmg_store.specs.Joining.{data_joined}
use Rattle.pmg_store.proofs.Converging.{nothing_joined}
use Rattle.pmg_frame.specs.Streams.{StreamSaid, Feeds, FramesFollow, StopsAt, left_after, finished, stream_said}
use Rattle.pmg_frame.proofs.Cuts.{said_is, runs_none, runs_push}
use Rattle.pmg_commit.specs.Knowledge.{Contribution}
use Rattle.pmg_store.specs.Pieces.{data_of}
use Rattle.pmg_store.proofs.OutcomeLemmas.{refused_first}
use Rattle.pmg_store.specs.Told.{contributions, with_told, told_by_said, told_in, data_told}
use Rattle.pmg_frame.specs.Refreshing.{told_by}

-- the start of a stream
abbrev pub start : Place
start = record { offset = 0; rest = [] }

said_of_feed : (bytes : List ℕ) (fs : List Frame) (f : Option Fault) (new : Option Place) (fed : Feeds start bytes fs f new) → stream_said bytes ≡ record { frames = fs; fault = f; end = fed.end }
said_of_feed bytes fs f new fed = said_is _ (record { offset = 0; rest = bytes }) fs fed.end f (omega arith) fed.runs fed.stops

pub told_of_feed : (bytes : List ℕ) (fs : List Frame) (f : Option Fault) (new : Option Place) (fed : Feeds start bytes fs f new) → told_in bytes ≡ told_by_said fs f fed.end.offset (length fed.end.rest)
unfolding told_in
told_of_feed bytes fs f new fed = ap (λ (s : StreamSaid). told_by_said s.frames s.fault s.end.offset (length s.end.rest)) (said_of_feed bytes fs f new fed)

pub told_fault : (bytes : List ℕ) (fs : List Frame) (f : Fault) (new : Option Place) → Feeds start bytes fs (Some f) new → data_told bytes ≡ Err f
unfolding data_told
told_fault bytes fs f new fed = rw (told_of_feed bytes fs (Some f) new fed) refl

finish : Bool → Fault → Result (Unit {0}) Refusal
finish b f = cond b (Ok tt) (Err (refusals.BadFrame f))

whole_of : (b : Bool) (cs : List Contribution) (f : Fault) → finish b f ≡ Ok tt → cond b (Ok cs) (Err f) ≡ Ok cs
unfolding finish
whole_of true cs f e = refl
whole_of false cs f e = absurd cc

abbrev refused : Refusal → Result (Unit {0}) Refusal
refused d = Err d

refused_is : (d e : Refusal) → refused d ≡ refused e → d ≡ e
refused_is d e h = cc

cut_of : (b : Bool) (cs : List Contribution) (f : Fault) (e : Refusal) → finish b f ≡ Err e → FailsReading e (cond b (Ok cs) (Err f))
unfolding finish
cut_of true cs f e h = absurd cc
cut_of false cs f e h = let Failing : Refusal → Type 0 = λ d. FailsReading {Y = List Contribution} d (Err f) in subst Failing (refused_is (refusals.BadFrame f) e h) refl

ended : (bytes : List ℕ) (fs : List Frame) (new : Option Place) (fed : Feeds start bytes fs None new) → finished new ≡ finish (length fed.end.rest == 0) (fault fed.end.offset causes.Cut)
unfolding finish
ended bytes fs new fed = ap finished fed.left

pub told_whole : (bytes : List ℕ) (fs : List Frame) (new : Option Place) → Feeds start bytes fs None new → finished new ≡ Ok tt → data_told bytes ≡ Ok (data_of (contributions fs))
unfolding data_told
told_whole bytes fs new fed done =
    let told = told_of_feed bytes fs None new fed ∙ whole_of (length fed.end.rest == 0) (contributions fs) (fault fed.end.offset causes.Cut) (sym (ended bytes fs new fed) ∙ done) in
    rw told refl

pub told_cut : (bytes : List ℕ) (fs : List Frame) (new : Option Place) (e : Refusal) → Feeds start bytes fs None new → finished new ≡ Err e → FailsReading e (data_told bytes)
unfolding data_told
told_cut bytes fs new e fed done =
    let cut = cut_of (length fed.end.rest == 0) (contributions fs) (fault fed.end.offset causes.Cut) e (sym (ended bytes fs new fed) ∙ done) in
    refused_first e (told_in bytes) (λ cs. Ok (data_of cs)) (rw (told_of_feed bytes fs None new fed) cut)

-- ---- contributions are taken as their frames are read
-- the contributions of the frames from the start to a place are taken
abbrev pub IsTakenTo : List ℕ → Data → Place → Data → Type 0
IsTakenTo bytes old at new =
    (fs : List Frame) × FramesFollow (record { offset = 0; rest = bytes }) fs at × (new ≡ join_all join_data old (map of_contribution (contributions fs)))

pub none_taken : (bytes : List ℕ) (old : Data) → IsTakenTo bytes old (record { offset = 0; rest = bytes }) old
none_taken bytes old = ([], runs_none (record { offset = 0; rest = bytes }), refl)

-- with what is told, where something is
abbrev with_one : Option Contribution → Data → Data
with_one None d = d
with_one (Some c) d = join_data d (of_contribution c)

taken_told : (o : Option Contribution) (d : Data) (cs : List Contribution) → join_all join_data d (map of_contribution (with_told o cs)) ≡ join_all join_data (with_one o d) (map of_contribution cs)
taken_told None d cs = refl
taken_told (Some c) d cs = refl

taken_more : (d : Data) (fs : List Frame) (frame : Frame)
    → join_all join_data (join_all join_data d (map of_contribution (contributions fs))) (map of_contribution (contributions (frame ∷ [])))
    ≡ join_all join_data d (map of_contribution (contributions (fs ++ frame ∷ [])))
taken_more d [] frame = refl
taken_more d (frames.Piece c ∷ fs) frame = taken_more (join_data d (of_contribution c)) fs frame
taken_more d (frames.Header h ∷ fs) frame = taken_more d fs frame
taken_more d (frames.FenceAsk a ∷ fs) frame = taken_more d fs frame
taken_more d (frames.RangeAsk a ∷ fs) frame = taken_more d fs frame
taken_more d (frames.DirectAsk a ∷ fs) frame = taken_more d fs frame
taken_more d (frames.RefreshAsk a ∷ fs) frame = taken_more d fs frame
taken_more d (frames.RefreshReply r ∷ fs) frame =
    let last = map of_contribution (contributions (frame ∷ [])) in
    ap (λ (x : Data). join_all join_data x last) (taken_told (told_by r) d (contributions fs))
    ∙ taken_more (with_one (told_by r) d) fs frame
    ∙ sym (taken_told (told_by r) d (contributions (fs ++ frame ∷ [])))

pub one_taken :
    (bytes : List ℕ) (start_data old new : Data) (at mid : Place) (frame : Frame) → IsTakenTo bytes start_data at old → read_frame at ≡ Ok (Some (frame, mid))
    → new ≡ join_all join_data old (map of_contribution (contributions (frame ∷ []))) → IsTakenTo bytes start_data mid new
one_taken bytes start_data old new at mid frame taken next is = (
  taken.0 ++ frame ∷ [],
  runs_push (record { offset = 0; rest = bytes }) taken.0 at frame mid taken.1 next,
  is ∙ ap (λ d. join_all join_data d (map of_contribution (contributions (frame ∷ [])))) taken.2 ∙ taken_more start_data taken.0 frame,
)

fed_to : (bytes : List ℕ) (fs : List Frame) (end : Place) (f : Option Fault) → FramesFollow (record { offset = 0; rest = bytes }) fs end → StopsAt end f → Feeds start bytes fs f (left_after f end)
fed_to bytes fs end f runs stops = record { end = end; runs = runs; stops = stops; left = refl }

-- at a fault
pub fault_told : (bytes : List ℕ) (old new : Data) (at : Place) (refusal : Refusal) → IsTakenTo bytes old at new → FailsReading refusal (read_frame at) → FailsReading refusal (data_told bytes)
fault_told bytes old new at refusal taken fails = of_refusal refusal fails
  where
    of_refusal : (e : Refusal) → FailsReading e (read_frame at) → FailsReading e (data_told bytes)
    of_refusal refusals.NoMemory h = tt
    of_refusal (refusals.BadFrame f) h = told_fault bytes taken.0 f None (fed_to bytes taken.0 at (Some f) taken.1 h)
    of_refusal e h = absurd h

-- at the end of the frames
pub end_told : (bytes : List ℕ) (old new : Data) (at : Place) (r : Result (Unit {0}) Refusal) → IsTakenTo bytes old at new → read_frame at ≡ Ok None → r ≡ finished (Some at)
    → OnOk r ((d : Data) × (data_told bytes ≡ Ok d) × (new ≡ join_data old d))
end_told bytes old new at (Err e) taken none is = tt
end_told bytes old new at (Ok x) taken none is =
    let cs = contributions taken.0 in (
      data_of cs,
      told_whole bytes taken.0 (Some at) (fed_to bytes taken.0 at None taken.1 none) (sym is),
      taken.2 ∙ ap (λ d. join_all join_data d (map of_contribution cs)) (sym (nothing_joined old)) ∙ sym (free_in_grouping data_joined old finite.empty [] (map of_contribution cs)),
    )

pub end_cut : (bytes : List ℕ) (old new : Data) (at : Place) (r : Result (Unit {0}) Refusal) → IsTakenTo bytes old at new → read_frame at ≡ Ok None → r ≡ finished (Some at)
    → IfErr r (λ e. FailsReading e (data_told bytes))
end_cut bytes old new at (Ok x) taken none is = tt
end_cut bytes old new at (Err e) taken none is = told_cut bytes taken.0 (Some at) e (fed_to bytes taken.0 at None taken.1 none) (sym is)
