-- What a pass has seen, and what one session knows. Lists of commands have the newest first, lists of calls the oldest.
use Rattle.std.specs.Prelude.{◌≡◌, ◌<◌, ℕ, List, map}
use Rattle.tf_board.specs.declared.commands.Command.{Command}
use Rattle.tf_shared_board.specs.declared.calls.Made.{Made}
use Rattle.tf_turnstile.specs.Passes.{TurnstileValue, PassValue, IsIdle, new_pass}
use Rattle.tf_ports.specs.Ports.{SeenLink}
use Rattle.tf_board_service.specs.Serving.{ServingValue}
use Rattle.tf_board_service.specs.Turns.{IsOver}
use Rattle.tf_board_service.specs.declared.sessions.SessionEnd.{SessionEnd}

-- ---- what a pass has seen

module _ {K : Type 0} where
  -- the calls that were made since the start, as far as a pass has seen them
  abbrev pub seen_calls : PassValue (ServingValue K) Made → List Made
  seen_calls pass = map (λ e. e.1) pass.seen

  -- the commands at the start
  abbrev pub start_past : TurnstileValue (ServingValue K) → List Command
  start_past turnstile = turnstile.start.begun.board.past

  -- the turnstile was made as the call began
  abbrev pub IsFresh : TurnstileValue (ServingValue K) → Type 0
  IsFresh turnstile = turnstile.start.now ≡ turnstile.start.begun

-- ---- all sessions

module _ {K : Type 0} where
  -- the turnstile was made as the call began, and the pass of this number is as it was made
  pub record IsAppointed (turnstile : TurnstileValue (ServingValue K)) (number : ℕ)
      (pass : PassValue (ServingValue K) Made) : Type 0 where
    pub fresh : IsFresh turnstile
    pub few : number < 64
    pub made : pass ≡ new_pass turnstile number

  -- the session of this number is over
  pub record HasServed (turnstile : TurnstileValue (ServingValue K)) (number : ℕ) (before now : SeenLink)
      (points : List ℕ) (how : SessionEnd)
      (pass : PassValue (ServingValue K) Made) : Type 0 where
    pub idle : IsIdle turnstile number pass
    pub over : IsOver number (start_past turnstile) (seen_calls pass) before now points how
