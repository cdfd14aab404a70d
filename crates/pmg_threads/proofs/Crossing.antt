-- The ends of links, what comes of a client, and the word of a failed allocation may cross threads.
use denote.Param.Send.{IsSend, IsSync, sendable, shr_slice_send}
use denote.Ref.{NamedLft}
use denote.Struct.Field.{shr_slice_field}
use Rattle.std.proofs.Crossing.{crosses as owners}
use Rattle.std_heap.specs.contracts.Global as Heap
use Rattle.std_heap.specs.contracts.GlobalAllocator.TheImpl.{ghosts}
use Rattle.crossbeam_channel.specs.contracts.channel.Receiver as Receiver
use Rattle.pmg_value.specs.contracts.process.Proc as Proc
use Rattle.pmg_publish.proofs.Crossing.{proc_sync}
use Rattle.pmg_desk.proofs.Crossing.{desk_sync, frame_send, transcript_send}
use Rattle.pmg_desk.specs.contracts.lock.Desk as Desk
use Rattle.pmg_threads.specs.contracts.links.Bundle as Bundle
use Rattle.pmg_threads.specs.contracts.links.Traffic as Traffic
use Rattle.pmg_threads.specs.contracts.links.Way as Way
use Rattle.pmg_threads.specs.contracts.links.Ways as Ways
use Rattle.pmg_threads.specs.contracts.program.Ended as Ended
use Rattle.pmg_threads.specs.contracts.shortage.Shortage as Shortage

bundle_send : IsSend Bundle.the_row
bundle_send = search (frame_send, owners, sendable) depth 60 fits 40000

way_send : IsSend Way.the_row
way_send = search (frame_send, bundle_send, owners, sendable) depth 60 fits 40000

pub ways_send : IsSend Ways.the_row
ways_send = search (way_send, owners, sendable) depth 60 fits 40000

pub receiver_send : IsSend (Receiver.the_row Bundle.the_row Heap.the_row ghosts)
receiver_send = search (bundle_send, owners, sendable) depth 60 fits 40000

pub traffic_send : IsSend Traffic.the_row
traffic_send = search (receiver_send, bundle_send, owners, sendable) depth 60 fits 40000

pub ended_send : IsSend Ended.the_row
ended_send = search (transcript_send, owners, sendable) depth 60 fits 20000

pub desks_send : (a : NamedLft) → IsSend (shr_slice_field a Desk.the_row tt).row
desks_send a = shr_slice_send a.mir a.lft Desk.the_row desk_sync

pub procs_send : (a : NamedLft) → IsSend (shr_slice_field a Proc.the_row tt).row
procs_send a = shr_slice_send a.mir a.lft Proc.the_row proc_sync

pub shortage_sync : IsSync Shortage.the_row
shortage_sync = search (owners, sendable) depth 40
