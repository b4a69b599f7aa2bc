-- A context may go to another thread.
use denote.Param.Send.{IsSend, IsSync, AllSend, sendable, view_send, recorded_send, struct_send}
use denote.Struct.Declared.{shape}
use Rattle.std.proofs.Common.{rules}
use Rattle.std.proofs.Crossing.{crosses}
use Rattle.std.proofs.MapsCrossing.{crosses as maps_cross}
use Rattle.atomic_table.proofs.shared.Seat.TheSendSync as seat
use Rattle.atomic_table.proofs.shared.Shared.TheSendSync as shared
use Rattle.atomic_table.proofs.send_lease.SendLease.TheSendSync as lease
use Rattle.std.specs.contracts.collections.VecDeque as VecDeque
use Rattle.std.specs.contracts.sync.Arc as Arc
use Rattle.std.specs.contracts.alloc.Global as Global
use Rattle.std.specs.contracts.impls.GlobalAllocator.TheImpl as GlobalAllocator
use Rattle.js_call.specs.contracts.scope.ApiScope as ApiScope
use Rattle.js_window.specs.contracts.window.Pass as Pass
use Rattle.js_window.specs.contracts.window.Window as Window
use Rattle.js_context.specs.contracts.context.Context as Context
use Rattle.js_context.specs.contracts.context.Context.TheInside as inside
use Rattle.js_context.specs.contracts.context.Detached as Detached
use Rattle.js_context.specs.contracts.context.Settings as Settings

scope_send : IsSend ApiScope.the_field.row
scope_send = search (sendable, crosses, maps_cross) depth 20

pass_send : IsSend Pass.the_row
pass_send = search (sendable, crosses, seat.the_send) depth 20

window_send : IsSend Window.the_row
window_send = search (sendable, crosses, shared.the_send, lease.the_send) depth 20

window_sync : IsSync Window.the_row
window_sync = search (sendable, crosses, shared.the_sync, lease.the_sync) depth 20

window_shared_send : IsSend (Arc.the_row Window.the_row Global.the_row GlobalAllocator.ghosts)
window_shared_send = search (sendable, crosses, window_send, window_sync) depth 20

detached_send : IsSend Detached.the_row
detached_send = search (rules, sendable, crosses) depth 20

list_send : IsSend (VecDeque.the_row Detached.the_row Global.the_row GlobalAllocator.ghosts)
list_send = search (sendable, crosses, detached_send) depth 20

settings_send : IsSend Settings.the_field.row
settings_send = search (sendable, crosses, maps_cross) depth 20

fields_send : AllSend (shape inside.the_type).fields
fields_send = (scope_send, (window_shared_send, (pass_send, (search sendable, (list_send, (settings_send, tt))))))

inside_send : IsSend inside.the_row
inside_send = recorded_send inside.the_field.row _ _ inside.the_type.to_one (struct_send (shape inside.the_type) fields_send)

pub context_send : IsSend Context.the_row
context_send = view_send _ _ _ _ _ inside_send
