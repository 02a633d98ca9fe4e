use Rattle.std.proofs.Common.{◌≡◌, Option, Some, None, refl}
use Rattle.uuid.specs.Text.{parsed}
use Rattle.tf_board.specs.Board.{parsed_id}
use Rattle.tf_board.proofs.spelling.parse_id.Goals as goal

-- what isn't something is nothing
none_of : {A : Type 0} (o : Option A) → ((a : A) × (o ≡ Some a) → ⊥) → None ≡ o
none_of None never = refl
none_of (Some a) never = absurd (never (a, refl))

pub returns-in-Err : goal.returns-in-Err
unfolding parsed_id
returns-in-Err c = none_of (parsed c.args.word.now) (λ some. let no = c.in-Err.ensures.ok.1 some in cc)
