-- What sessions hand round may go to another thread where its desk may, and what they share may be shared.
use denote.Param.Send.{IsSend, IsSync, sendable}
use denote.RattleType.{RattleType}
use denote.Param.SendFields.{declared_sync, as_row_sync}
use denote.Struct.Field.{row_field}
use denote.Struct.Tuple.{TupleAt, type_at}
use Rattle.std.specs.Prelude.{ℕ, List, [], ◌∷◌}
use Rattle.std.proofs.Crossing.{crosses}
use Rattle.std.proofs.alloc.Global.TheSendSync as heap
use Rattle.uuid.proofs.Uuid.TheSendSync as uuid
use Rattle.tf_states.proofs.priorities.Priority.TheSendSync as priority
use Rattle.tf_values.proofs.value.Val.TheSendSync as value
use Rattle.tf_desk.specs.declared.device.Desk.{Ghosts}
use Rattle.tf_journal.proofs.journal.Journal.TheSendSync as journal
use Rattle.tf_board.proofs.jobs.Job.TheSendSync as job
use Rattle.tf_board.specs.contracts.board.Board as board
use Rattle.tf_shared_board.proofs.calls.Made.TheSendSync as made
use Rattle.tf_shared_board.proofs.calls.BoardHalt.TheSendSync as halt
use Rattle.tf_shared_board.specs.contracts.shared.SharedBoard as shared
use Rattle.tf_board_service.specs.contracts.turns.Serving as serving
use Rattle.tf_board_service.specs.contracts.serving.Server as server
use Rattle.tf_board_service.proofs.sessions.SessionEnd.TheSendSync as end
use Rattle.tf_turnstile.proofs.passes.Pass.TheSendSync as pass
use Rattle.tf_turnstile.specs.declared.keeping.Kept as kept
use Rattle.tf_turnstile.specs.contracts.passes.Turnstile as turnstile
use Rattle.tf_turnstile.proofs.passes.Turnstile.TheSendSync as turnstiles

pub board_send : (K : RattleType) (g : Ghosts K.Denot) → IsSend K → IsSend (board.the_row K g)
board_send K g k = search (sendable, crosses, heap.the_field_send, journal.the_send, job.the_send, value.the_send, uuid.the_send, priority.the_send) depth 24

pub shared_send : (K : RattleType) (g : Ghosts K.Denot) → IsSend K → IsSend (shared.the_row K g)
shared_send K g k = search (sendable, crosses, heap.the_field_send, board_send, made.the_send, halt.the_send) depth 20

pub serving_send : (K : RattleType) (g : Ghosts K.Denot) → IsSend K → IsSend (serving.the_row K g)
serving_send K g k = search (sendable, crosses, shared_send) depth 14

pub server_send : (K P : RattleType) (g : Ghosts K.Denot) → IsSend K → IsSend P → IsSend (server.the_row K P g)
server_send K P g k p = search (sendable, crosses, heap.the_field_send, pass.the_send, serving_send, end.the_send) depth 14

pub turnstile_sync : (K O E : RattleType) (g : Ghosts K.Denot) (k : kept.Ghosts (serving.the_row K g).Denot O.Denot E.Denot) → IsSend K → IsSync (turnstile.the_row (serving.the_row K g) O E k)
turnstile_sync K O E g k s = turnstiles.the_sync (serving.the_row K g) O E k (serving_send K g s)

-- what a closure that captures three has
pub three_sync : (name : List ℕ) (R S T : RattleType) → IsSync R → IsSync S → IsSync T → IsSync (TupleAt name (R ∷ S ∷ T ∷ []))
three_sync name R S T r s t = declared_sync (type_at name (R ∷ S ∷ T ∷ [])) (as_row_sync (row_field R) r, (as_row_sync (row_field S) s, (as_row_sync (row_field T) t, tt)))
