-- What the fields of an open file and the trace keep.
use Rattle.std.specs.Prelude.{◌≡◌, true, is_some}
use Rattle.tf_desk.specs.declared.opened.Opened.TheInside.{Inside}
use Rattle.tf_desk.specs.Replay.{First, replay}

-- where a file is open, one is picked by the calls, whatever the files held at first
abbrev pub IsTraced : Inside → Type 0
IsTraced opened =
    is_some opened.picked ≡ true → (first : First) → is_some (replay first opened.trace.calls).content.picked ≡ true
