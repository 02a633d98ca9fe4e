use Rattle.std.proofs.Common.{[], ◌∷◌, arith}
use Rattle.std.proofs.lemmas.Str.{IsUtf8-from_ascii, is_utf8-from_IsUtf8}
use Rattle.std.proofs.lemmas.Str.Ascii.{IsAscii-cons, IsAscii-nil}
use Rattle.tf_demo.proofs.tasks.task_drawn.Goals as goal

pub text_of-requires : goal.text_of-requires
text_of-requires c = is_utf8-from_IsUtf8 (120 ∷ []) (IsUtf8-from_ascii (120 ∷ []) (IsAscii-cons 120 [] (omega arith) IsAscii-nil))
