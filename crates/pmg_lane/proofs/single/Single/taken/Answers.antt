use Rattle.std.proofs.Common.{map, nat_le, sym, ap, ◌∙◌, ◌&&◌}
use Rattle.std.proofs.lemmas.Bool.{lt-ltb, le-ltb}
use Rattle.pmg_commit.specs.Pieces.{entry_of}
use Rattle.pmg_lane.proofs.Singles.{told_contains}
use Rattle.pmg_lane.proofs.single.Single.taken.Goals as goal

pub returns-then-self-n : goal.returns-then-self-n
returns-then-self-n c =
    let s = c.args.self.now in
    sym (told_contains s.from s.to (map entry_of s.entries.items) c.args.n ∙ ap (λ b. b && nat_le c.args.n s.to) (lt-ltb s.from c.args.n c.if-self-n.true))

pub returns-else-self-n : goal.returns-else-self-n
returns-else-self-n c =
    let s = c.args.self.now in
    let past = le-ltb s.from c.args.n c.if-self-n.false in
    past ∙ sym (told_contains s.from s.to (map entry_of s.entries.items) c.args.n ∙ ap (λ b. b && nat_le c.args.n s.to) past)
