use Rattle.std.proofs.Common.{ℕ, List, ◌≡◌, refl, sym, ap, ◌∙◌, rules}
use Rattle.std.specs.Prelude.{Some}
use Rattle.std.specs.Option.{is_some, option_map}
use Rattle.pmg_value.specs.Spelling.{spelling}
use Rattle.pmg_join.specs.Places.{placed}
use Rattle.pmg_lane.specs.Entries.{late_entry, exceeds}
use Rattle.pmg_lane.specs.declared.entries.Entries.{Entries}
use Rattle.pmg_lane.proofs.Settling.{exact_late, late_settles, late_from, late_kept, alike_late, settles_alike, late_alike, filled_at, left_at, filled_stay}
use Rattle.pmg_lane.proofs.entries.Entries.put_late.Goals as goal

pub returns-then-is_greater : goal.returns-then-is_greater
returns-then-is_greater c =
    let a = c.args.self.now in
    let v = c.args.value in
    let place : ℕ × List ℕ = (c.args.number, c.args.key) in
    let there = c.in-Some.there.now in
    let tree = c.get_mut.follows.lender (Some v) in
    let b : Entries = record { reads = a.reads; late = tree } in
    let put = ((c.get_mut.follows.holds (Some v)).3 (ap is_some (sym c.in-Some.ensures.value))).0 in
    let filled = filled_at a.late tree place there (Some v) c.in-Some.ensures.value exact_late put in
    record {
      settles = late_settles a b c.args.level place v filled refl
          (ap (λ o. exceeds (option_map spelling (placed o)) (spelling v)) (sym c.in-Some.ensures.value) ∙ sym c.is_greater.ensures ∙ c.if-is_greater.true);
      reads = search rules;
      late = late_from a b c.args.level place v filled refl c.requires.past;
      stay = (λ key has. has, filled_stay a.late tree place there (Some v) c.in-Some.ensures.value exact_late put);
    }

pub returns-else-is_greater : goal.returns-else-is_greater
returns-else-is_greater c =
    let a = c.args.self.now in
    let place : ℕ × List ℕ = (c.args.number, c.args.key) in
    let there = c.in-Some.there.now in
    let tree = c.get_mut.follows.lender there in
    let b : Entries = record { reads = a.reads; late = tree } in
    let put = ((c.get_mut.follows.holds there).3 (ap is_some (sym c.in-Some.ensures.value))).0 in
    let alike = alike_late a b refl (left_at a.late tree place there there c.in-Some.ensures.value exact_late put refl) in
    record {
      settles = settles_alike c.args.level a b (λ e. e ≡ late_entry place c.args.value) alike
          (late_kept a c.args.level place c.args.value
          (ap (λ o. exceeds (option_map spelling (placed o)) (spelling c.args.value)) (sym c.in-Some.ensures.value) ∙ sym c.is_greater.ensures ∙ c.if-is_greater.false));
      reads = search rules;
      late = late_alike c.args.level a b alike;
      stay = (λ key has. has, filled_stay a.late tree place there there c.in-Some.ensures.value exact_late put);
    }
