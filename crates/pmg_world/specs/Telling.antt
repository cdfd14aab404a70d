-- The meaning of the code's events in a world.
use Rattle.pmg_value.specs.Spelling.{spelling}
use Rattle.pmg_node.specs.Acting.{request_of, reply_as}
use Rattle.pmg_node.specs.Servers.{reply_in}
use Rattle.pmg_group_model.specs.Worlds.{Event, Happened}
use Rattle.pmg_world.specs.declared.event.Event.{Event as ToldEvent}
use Rattle.pmg_world.specs.declared.event.Event.TheVariants as events
use Rattle.pmg_world.specs.declared.event.LoggedEvent.{LoggedEvent}

-- the meaning of the code's event
abbrev pub event_of : ToldEvent → Event
event_of (events.Put p scope key value) = Event.put p scope key (spelling value)
event_of (events.Commit node p) = Event.commit node p
event_of (events.Request node request) = Event.request node (request_of request)
event_of (events.Deliver frame) = Event.deliver frame

-- an event, with its reply
abbrev pub happened_of : LoggedEvent → Happened
happened_of told = record { event = event_of told.event; reply = reply_in reply_as told.answer }
