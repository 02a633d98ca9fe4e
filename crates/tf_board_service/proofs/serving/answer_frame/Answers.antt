use Rattle.std.proofs.Common.{sym, subst}
use Rattle.tf_shared_board.specs.Shared.{followed_by}
use Rattle.tf_board_service.specs.Printing.{HasFewLines}
use Rattle.tf_board_service.specs.Turning.{start_past}
use Rattle.tf_board_service.proofs.PrintLemmas.{few_of}
use Rattle.tf_board_service.proofs.serving.answer_frame.Goals as goal

pub printed-requires : goal.printed-requires
printed-requires g c =
    let turn = c.in-Some-take_turn.ensures.turn in
    record { few = subst HasFewLines (sym turn.reply_is) (few_of (followed_by (start_past c.args.turnstile.now) turn.mid) c.in-Some.request) }
