-- The board that viewers see.
use Rattle.std.specs.Prelude.{◌≡◌}
use Rattle.pmg_commit.specs.Data.{join_data}
use Rattle.pmg_store.specs.Pieces.{data_of}
use Rattle.pmg_publish.specs.declared.shown.Shown.{Shown}
use Rattle.pmg_publish.specs.declared.shown.Update.{Update}
use Rattle.pmg_publish.specs.Publications.{near_of, far_of}

-- the list makes the board
abbrev pub IsMade : Shown → Type 0
IsMade x = (x.board.near ≡ near_of x.history.log) × (x.board.far ≡ far_of x.history.log)

-- the shown board after it takes the publication
abbrev pub applied : Shown → Update → Shown
applied x i = record {
  board = record {
    near = join_data x.board.near (data_of i.parts.near.items);
    far = join_data x.board.far (data_of i.parts.far.items);
  };
  history = i.history;
}
