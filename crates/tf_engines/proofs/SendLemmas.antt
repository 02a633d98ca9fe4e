-- A shared book may go to another thread where its desk may.
use denote.Param.Send.{IsSend, IsSync, sendable}
use denote.RattleType.{RattleType}
use denote.Param.SendFields.{declared_sync, as_row_sync}
use denote.Struct.Field.{row_field}
use denote.Struct.Tuple.{TupleAt, type_at}
use Rattle.std.specs.Prelude.{ℕ, List, [], ◌∷◌}
use Rattle.std.proofs.Crossing.{crosses, Box-send, Vec-send}
use Rattle.tf_values.proofs.identifier.Name.TheSendSync as name
use Rattle.tf_values.proofs.value.Val.TheSendSync as value
use Rattle.tf_flow.proofs.atoms.Task.TheSendSync as task
use Rattle.tf_flow.proofs.atoms.Retry.TheSendSync as retry
use Rattle.tf_flow.proofs.atoms.Binds.TheSendSync as binds
use Rattle.tf_flow.proofs.deciders.Depth.TheSendSync as depth_of
use Rattle.tf_flow.proofs.paths.Path.TheSendSync as path
use Rattle.tf_flow.proofs.nested.Item.TheLaws.TheKnot.{send-Flow}
use Rattle.tf_flow.proofs.deciders.Test.TheLaws.TheKnot.{send-Test}
use Rattle.tf_flow.specs.contracts.deciders.Test as test
use Rattle.tf_flow.specs.contracts.deciders.Link as link
use Rattle.tf_flow.specs.contracts.deciders.Decider as decider
use Rattle.tf_flow.specs.contracts.deciders.Links as links
use Rattle.tf_flow.specs.contracts.nested.Flow as flow
use Rattle.tf_flow.specs.contracts.plans.Plan as plan
use Rattle.tf_machine.specs.contracts.compiled.Compiled as compiled
use Rattle.tf_machine.proofs.compiled.Span.TheSendSync as span
use Rattle.tf_machine.specs.contracts.machine.Machine as machine
use Rattle.tf_machine.proofs.tables.Tables.TheSendSync as tables
use Rattle.tf_machine.proofs.worklists.Worklist.TheSendSync as worklist
use Rattle.tf_order.proofs.graph.Graph.TheSendSync as graph
use Rattle.tf_scopes.proofs.providers.Providers.TheSendSync as providers
use Rattle.std.proofs.alloc.Global.TheSendSync as heap
use Rattle.tf_desk.specs.declared.device.Desk.{Ghosts}
use Rattle.tf_actions.specs.declared.performers.Performer as performers
use Rattle.tf_journal.proofs.journal.Journal.TheSendSync as journal
use Rattle.tf_states.proofs.record.Entry.TheSendSync as entry
use Rattle.tf_book.proofs.faults.Halt.TheSendSync as halt
use Rattle.tf_book.specs.contracts.book.Book as book
use Rattle.tf_book.specs.contracts.history.History as history
use Rattle.tf_book.specs.contracts.holding.Holding as holding
use Rattle.tf_details.specs.contracts.marks.Mark as mark
use Rattle.tf_book.proofs.writing.Draft.TheSendSync as draft
use Rattle.tf_engines.specs.contracts.shared.Shared as shared
use Rattle.tf_engines.specs.contracts.hand_loop.Worker as worker
use Rattle.tf_turnstile.proofs.passes.Pass.TheSendSync as pass
use Rattle.tf_turnstile.specs.declared.keeping.Kept as kept
use Rattle.tf_turnstile.specs.contracts.passes.Turnstile as turnstile
use Rattle.tf_turnstile.proofs.passes.Turnstile.TheSendSync as turnstiles
use Rattle.std.proofs.hash.BuildHasherDefault.TheSendSync as hasher
use Rattle.indexmap.proofs.set.IndexSet.TheSendSync as index_set

test_send : IsSend (test.the_field).row
test_send = send-Test name.the_send value.the_field_send (search sendable) Box-send Vec-send

decider_send : IsSend (decider.the_field).row
decider_send = search (sendable, test_send, depth_of.the_send) depth 12

link_send : IsSend (link.the_field).row
link_send = search (sendable, decider_send, name.the_send) depth 12

links_send : IsSend (links.the_field).row
links_send = search (sendable, Vec-send, link_send) depth 12

flow_send : IsSend (flow.the_field).row
flow_send = search (sendable, crosses, send-Flow, links_send, name.the_send, task.the_field_send, retry.the_send) depth 20

plan_send : IsSend plan.the_row
plan_send = search (sendable, crosses, heap.the_send, flow_send, name.the_send, binds.the_send, path.the_send, index_set.the_send, hasher.the_send) depth 14

compiled_send : IsSend compiled.the_row
compiled_send = search (sendable, Vec-send, plan_send, graph.the_send, providers.the_send, span.the_send) depth 22

pub machine_send : IsSend machine.the_row
machine_send = search (sendable, crosses, compiled_send, tables.the_send, tables.the_field_send, worklist.the_send, worklist.the_field_send) depth 14

history_send : IsSend (history.the_field).row
history_send = search (sendable, crosses, entry.the_send) depth 14

mark_send : IsSend (mark.the_field).row
mark_send = search (sendable, crosses) depth 14

holding_send : IsSend (holding.the_field).row
holding_send = search (sendable, crosses) depth 14

pub book_send : (K : RattleType) (g : Ghosts K.Denot) → IsSend K → IsSend (book.the_row K g)
book_send K g k = search (sendable, crosses, heap.the_send, heap.the_field_send, journal.the_send, machine_send, history_send, holding_send, draft.the_send, draft.the_field_send, halt.the_send, entry.the_send) depth 24

pub shared_send : (K P : RattleType) (g : Ghosts K.Denot) (h : performers.Ghosts P.Denot) → IsSend K → IsSend P → IsSend (shared.the_row K P g h)
shared_send K P g h k p = search (sendable, crosses, book_send) depth 14

pub worker_send : (K P : RattleType) (g : Ghosts K.Denot) (h : performers.Ghosts P.Denot) → IsSend K → IsSend P → IsSend (worker.the_row K P g h)
worker_send K P g h k p = search (sendable, pass.the_send, shared_send) depth 14

pub turnstile_sync : (K P O E : RattleType) (g : Ghosts K.Denot) (h : performers.Ghosts P.Denot) (k : kept.Ghosts (shared.the_row K P g h).Denot O.Denot E.Denot) → IsSend K → IsSend P
    → IsSync (turnstile.the_row (shared.the_row K P g h) O E k)
turnstile_sync K P O E g h k s p = turnstiles.the_sync (shared.the_row K P g h) O E k (shared_send K P g h s p)

-- what a closure that captures three has
pub three_sync : (name : List ℕ) (R S T : RattleType) → IsSync R → IsSync S → IsSync T → IsSync (TupleAt name (R ∷ S ∷ T ∷ []))
three_sync name R S T r s t = declared_sync (type_at name (R ∷ S ∷ T ∷ [])) (as_row_sync (row_field R) r, (as_row_sync (row_field S) s, (as_row_sync (row_field T) t, tt)))
