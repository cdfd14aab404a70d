-- Which frames were delivered, and which never were.
use Rattle.std.specs.Prelude.{◌≡◌, ℕ, suc, ◌==◌, Bool, false, ◌&&◌, ◌||◌, not, List, Option, Some, None}
use Rattle.std.specs.FinSet as set
use Rattle.std.specs.List.{filter, list_any, range_with_len}
use Rattle.std.specs.Ordering.{nat_cmp}
use Rattle.pmg_node_model.specs.Fitting.{is_refusal}
use Rattle.pmg_group_model.specs.Worlds.{Event, Happened}
use Rattle.pmg_world.specs.declared.delivered.Delivered.{Delivered}

-- the event is a request to deliver the frame of that number
abbrev pub is_delivery : ℕ → Event → Bool
is_delivery frame (Event.deliver number) = frame == number
is_delivery frame _ = false

-- this event delivered the frame: it is a delivery of the frame that was not refused
abbrev pub delivered_by : ℕ → Happened → Bool
delivered_by frame h = is_delivery frame h.event && not (is_refusal h.reply)

-- one of these events delivered the frame
abbrev pub was_delivered : List Happened → ℕ → Bool
was_delivered told frame = list_any (delivered_by frame) told

-- The set has the numbers of the frames that these events delivered, and no others. Frames are counted from 1.
abbrev pub AreDelivered : set.FinSet nat_cmp → List Happened → Type 0
AreDelivered frames told = (n : ℕ) → set.contains frames (suc n) ≡ was_delivered told (suc n)

-- the new set has the frames of the old one and the frames that these events delivered
abbrev pub AddsDelivered : set.FinSet nat_cmp → List Happened → set.FinSet nat_cmp → Type 0
AddsDelivered old told new = (n : ℕ) → set.contains new (suc n) ≡ (set.contains old (suc n) || was_delivered told (suc n))

-- the numbers of the frames that are not in the set, among so many frames counted from 1
unfoldable pub undelivered : set.FinSet nat_cmp → ℕ → List ℕ
undelivered delivered count = filter (λ frame. not (set.contains delivered frame)) (range_with_len 1 count)

-- a set with another number, if there is one
abbrev pub with_number : set.FinSet nat_cmp → Option ℕ → set.FinSet nat_cmp
with_number frames None = frames
with_number frames (Some number) = set.insert frames number

-- all delivered frames, with the last one
abbrev pub all_delivered : Delivered → set.FinSet nat_cmp
all_delivered d = with_number d.frames d.last

-- the number is this one
abbrev pub is_number : ℕ → Option ℕ → Bool
is_number frame None = false
is_number frame (Some number) = frame == number
