use Rattle.std.proofs.Common.{◌≡◌, refl, sym, ap, ◌∙◌, rules}
use Rattle.std.specs.Prelude.{Some}
use Rattle.std.specs.Option.{is_some, option_map}
use Rattle.std.proofs.lemmas.Map.Lookups.{exact_bytes}
use Rattle.pmg_join.specs.Places.{placed}
use Rattle.pmg_lane.specs.Entries.{entry_under, beats}
use Rattle.pmg_lane.specs.declared.entries.Entries.{Entries}
use Rattle.pmg_lane.specs.declared.entries.Stamp.{Stamp}
use Rattle.pmg_lane.proofs.Settling.{read_settles, read_within, read_kept, alike_reads, settles_alike, within_alike, filled_at, left_at, filled_stay}
use Rattle.pmg_lane.proofs.entries.Entries.put_read.Goals as goal

pub returns-then-is_newer : goal.returns-then-is_newer
returns-then-is_newer c =
    let a = c.args.self.now in
    let key = c.args.key in
    let there = c.in-Some.there.now in
    let s : Stamp = record { number = c.args.number; value = c.args.value } in
    let tree = c.get_mut.follows.lender (Some s) in
    let b : Entries = record { reads = tree; late = a.late } in
    let put = ((c.get_mut.follows.holds (Some s)).3 (ap is_some (sym c.in-Some.ensures.value))).0 in
    let filled = filled_at a.reads tree key there (Some s) c.in-Some.ensures.value exact_bytes put in
    record {
      settles = read_settles a b c.args.level key s filled refl c.requires.reached
          (ap (λ o. beats (option_map (entry_under key) (placed o)) (entry_under key s)) (sym c.in-Some.ensures.value) ∙ sym (c.is_newer.ensures key) ∙ c.if-is_newer.true);
      within = read_within a b c.args.level key s filled refl c.requires.reached c.requires.within;
      late = search rules;
      stay = (filled_stay a.reads tree key there (Some s) c.in-Some.ensures.value exact_bytes put, λ place has. has);
    }

pub returns-in-Some : goal.returns-in-Some
returns-in-Some c =
    let a = c.args.self.now in
    let key = c.args.key in
    let there = c.in-Some.there.now in
    let s : Stamp = record { number = c.args.number; value = c.args.value } in
    let tree = c.get_mut.follows.lender there in
    let b : Entries = record { reads = tree; late = a.late } in
    let put = ((c.get_mut.follows.holds there).3 (ap is_some (sym c.in-Some.ensures.value))).0 in
    let alike = alike_reads a b (left_at a.reads tree key there there c.in-Some.ensures.value exact_bytes put refl) refl in
    record {
      settles = settles_alike c.args.level a b (λ e. e ≡ entry_under key s) alike
          (read_kept a c.args.level key s c.requires.within
          (ap (λ o. beats (option_map (entry_under key) (placed o)) (entry_under key s)) (sym c.in-Some.ensures.value) ∙ sym (c.is_newer.ensures key) ∙ c.if-is_newer.false));
      within = within_alike c.args.level a b alike c.requires.within;
      late = search rules;
      stay = (filled_stay a.reads tree key there there c.in-Some.ensures.value exact_bytes put, λ place has. has);
    }
