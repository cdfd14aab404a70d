-- What the test of a piece says, and how the parts of the test make it up.
use Rattle.std.proofs.Common.{◌≤◌, ◌<◌, ◌||◌, length, IsTrue}
use Rattle.std.proofs.lemmas.Bool.{and_parts, ltb-true, leb-true}
use Rattle.pmg_value.specs.Process.{is_client, is_host}
use Rattle.pmg_commit.specs.Knowledge.{Contribution}
use Rattle.pmg_commit.specs.Pieces.{body_size, is_piece}

pub record PieceFacts (c : Contribution) : Type 0 where
  pub commits : IsTrue (is_client c.proc || is_host c.proc)
  pub order : c.from < c.to
  pub bound : c.to ≤ 4294967295
  pub count : length c.entries ≤ 65536
  pub size : body_size c.proc c.entries ≤ 16777216

pub piece_facts : (c : Contribution) → IsTrue (is_piece c) → PieceFacts c
unfolding is_piece
piece_facts c h =
    let numbered = and_parts _ _ h in
    let rising = and_parts _ _ numbered.0 in
    let small = and_parts _ _ rising.0 in
    let ranged = and_parts _ _ small.0 in
    let range = and_parts _ _ ranged.1 in
    record {
      commits = ranged.0;
      order = ltb-true _ _ range.0;
      bound = leb-true _ _ range.1;
      count = leb-true _ _ (and_parts _ _ small.1).0;
      size = leb-true _ _ (and_parts _ _ small.1).1;
    }
