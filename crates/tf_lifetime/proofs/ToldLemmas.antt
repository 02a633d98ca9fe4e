-- A desk that tells before a call and behind it is as it was told before it.
use Rattle.std.proofs.Common.{◌≡◌, Bool, sym, ap, ◌∙◌}
use Rattle.std.specs.Prelude.{IsTrue}
use Rattle.tf_desk.specs.State.{DeskState, told_as}
use Rattle.tf_commands.specs.Books.{NoFileChanges}

pub same_entry : (entry now : DeskState) → IsTrue entry.tells → IsTrue now.tells → told_as now entry ≡ entry
same_entry entry now told tells = ap (λ (b : Bool). record entry { tells = b }) (tells ∙ sym told)

-- a call that changes no file changes none of it
pub quiet_told : (entry now : DeskState) → IsTrue entry.tells → NoFileChanges entry now → NoFileChanges (told_as now entry) now
quiet_told entry now told quiet tells = quiet told
