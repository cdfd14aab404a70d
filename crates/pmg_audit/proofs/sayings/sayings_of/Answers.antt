use Rattle.std.proofs.Common.{◌≡◌, ℕ, true, List, [], ◌∷◌, ◌++◌, take, drop, ◌+◌, refl, sym, subst, rules}
use Rattle.pmg_value.specs.Lists.{Each}
use Rattle.pmg_scope.specs.Cached.{no_puts}
use Rattle.pmg_journal.specs.Transcripts.{noted_in}
use Rattle.pmg_journal.specs.declared.transcript.Transcript.{Transcript}
use Rattle.pmg_audit.specs.Agreeing.{AreOfOtherProcs}
use Rattle.pmg_audit.specs.Dues.{takes_all}
use Rattle.pmg_audit.specs.Taking.{ArePlaces, AreSayings, NoneOf, IsSayingOf, sayers}
use Rattle.pmg_value.specs.declared.process.Proc.{Proc}
use Rattle.pmg_audit.specs.declared.moves.Saying.{Saying}
use Rattle.pmg_audit.proofs.SayingLemmas.{apart_more, cut_at, each_push, kept_place, no_place, no_places, not_apart, sayings_more, sayings_none, take_is}
use Rattle.pmg_audit.proofs.sayings.sayings_of.Goals as goal

pub loop-transcript-init : goal.loop-transcript-init
loop-transcript-init c = record {
  places = subst (λ (rows : List (Proc × ℕ)). ArePlaces (sayers c.new-items.result.items) rows) (sym c.new-places.ensures.empty)
      (subst (λ (l : List Saying). ArePlaces (sayers l) []) (sym c.new-items.ensures.items) no_places);
  said = subst (λ (l : List Saying). AreSayings l []) (sym c.new-items.ensures.items) sayings_none;
  apart = tt;
  taken = tt;
}

pub returns-then-contains_key-clause-refused : goal.returns-then-contains_key-clause-refused
returns-then-contains_key-clause-refused c = λ _. (
  refl,
  λ apart taken.
      let ts = c.args.transcripts.now in
      let i = c.loop-transcript.transcript-index in
      let t : Transcript = c.transcript-item.result in
      let ss = c.loop-transcript.items.items in
      let place = kept_place ss t.proc c.loop-transcript.places.entries c.loop-transcript.invariant.places (sym c.if-contains_key.ensures) in
      not_apart ss (take i ts) t (drop (i + 1) ts) place.0 c.loop-transcript.invariant.said place.1
      (subst AreOfOtherProcs (cut_at ts i t (search rules) c.transcript-item.is) apart),
)

pub add-requires-clause-none : goal.add-requires-clause-none
add-requires-clause-none c =
    let t : Transcript = c.transcript-item.result in
    let says : IsSayingOf c.in-Some.saying t = rw c.in-Some.is at c.in_ok-saying.ensures.said in
    subst (NoneOf c.loop-transcript.items.items) (sym says.proc)
    (no_place c.loop-transcript.items.items c.transcript-item.result.proc c.loop-transcript.places.entries c.loop-transcript.invariant.places (sym c.if-contains_key.ensures))

pub loop-transcript-preserved : goal.loop-transcript-preserved
loop-transcript-preserved c =
    let ts = c.args.transcripts.now in
    let i = c.loop-transcript.transcript-index in
    let t : Transcript = c.transcript-item.result in
    let ss = c.loop-transcript.items.items in
    let s : Saying = c.in-Some.saying in
    let more = take_is ts i t (search rules) c.transcript-item.is in
    let none : NoneOf ss t.proc = no_place ss t.proc c.loop-transcript.places.entries c.loop-transcript.invariant.places (sym c.if-contains_key.ensures) in
    let says : IsSayingOf s t = rw c.in-Some.is at c.in_ok-saying.ensures.said in
    let taken : takes_all no_puts (noted_in t) ≡ true = rw c.in-Some.is at c.in_ok-saying.ensures.taken in
    record {
      places = c.in_ok-add.ensures.places;
      said = subst (λ (l : List Transcript). AreSayings c.add.new.items.items l) (sym more)
          (subst (λ (l : List Saying). AreSayings l (take i ts ++ t ∷ [])) (sym c.in_ok-add.ensures.items) (sayings_more ss (take i ts) s t c.loop-transcript.invariant.said says));
      apart = subst AreOfOtherProcs (sym more) (apart_more ss (take i ts) t c.loop-transcript.invariant.apart c.loop-transcript.invariant.said none);
      taken = subst (Each (λ (u : Transcript). takes_all no_puts (noted_in u) ≡ true)) (sym more)
          (each_push (λ (u : Transcript). takes_all no_puts (noted_in u) ≡ true) (take i ts) t c.loop-transcript.invariant.taken taken);
    }
