-- What a desk over files has noted.
use Rattle.std.specs.Prelude.{List}
use Rattle.tf_trace.specs.Calls.{Call}
use Rattle.tf_desk.specs.declared.files.FileDesk.{FileDesk}

-- the calls of the system that it made, with what the system answered, the newest first
abbrev pub calls_of : {A B C D : Type 0} → FileDesk A B C D → List Call
calls_of desk = desk.opened
