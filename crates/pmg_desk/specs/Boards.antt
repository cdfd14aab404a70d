-- The board that a replay publishes, and the stores of the node that it leaves.
use Rattle.std.specs.Prelude.{◌≡◌, ℕ, List}
use Rattle.pmg_jobinfo.specs.Jobs.{Jobs}
use Rattle.pmg_node.specs.Opening.{new_server}
use Rattle.pmg_publish.specs.Publications.{far_of, near_of}
use Rattle.pmg_journal.specs.Replays.{Happening, after_all}
use Rattle.pmg_desk.specs.Publishing.{published_over}

-- for all events at a node, its publications make its two stores
abbrev pub PublishesWhatIsHeld : Type 0
PublishesWhatIsHeld =
    (jobs : Jobs) (id : ℕ) (es : List Happening)
    → (near_of (published_over (new_server jobs id) es) ≡ (after_all (new_server jobs id) es).holding.near)
    × (far_of (published_over (new_server jobs id) es) ≡ (after_all (new_server jobs id) es).holding.far)
