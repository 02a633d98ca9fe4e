-- The call that a request makes carries the number under which it is made.
use Rattle.std.proofs.Common.{◌≡◌, ℕ, List, Option, Some, None, refl, sym, ap, ◌∙◌}
use Rattle.tf_board.specs.declared.commands.Command.{Command}
use Rattle.tf_board.specs.declared.rules.Refusal.{Refusal}
use Rattle.tf_board.specs.Does.{refuses_call, job_of}
use Rattle.tf_shared_board.specs.declared.calls.Made.{Made}
use Rattle.tf_board_service.specs.Sessions.{call_made, unless_refused}
use Rattle.tf_board.specs.declared.calls.BoardRequest.{BoardRequest}
use Rattle.tf_board.specs.declared.calls.BoardRequest.TheVariants as request

own_unless : (number : ℕ) (o : Option Refusal) (made m : Made) → made.number ≡ number → unless_refused o made ≡ Some m → m.number ≡ number
own_unless number None made m mine is = (let same : made ≡ m = cc in ap (λ (x : Made). x.number) (sym same) ∙ mine)
own_unless number (Some why) made m mine is = absurd (cc)

pub own_call : (number : ℕ) (past : List Command) (asked : BoardRequest) (m : Made) → call_made number past asked ≡ Some m → m.number ≡ number
own_call number past (request.Call asked) m is = own_unless number (refuses_call past asked) (record { number = number; job = job_of past asked; call = asked }) m refl is
own_call number past (request.Owner id) m is = absurd (cc)
own_call number past request.List m is = absurd (cc)
