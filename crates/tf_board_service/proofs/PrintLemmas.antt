-- Replies have no float, their text is short enough for the length of a frame, and they have no more lines than a reply may have.
use Rattle.std.proofs.Common.{◌≡◌, ℕ, zero, suc, ◌+◌, ◌*◌, ◌<◌, ◌≤◌, ◌^◌, List, [], ◌∷◌, ◌++◌, Bool, true, false, cond, Option, Some, None, map, take, codes, length, arith, refl, length-append}
use Rattle.std.specs.List.{flat_map}
use Rattle.json.specs.Print.{escape_byte, quoted}
use Rattle.serde_json.specs.Data.{Data, string, array, object, member, no_members}
use Rattle.serde_json.specs.View.{items_of}
use Rattle.serde_json.specs.Written.{has_float, items_have_float, compact_text, members_text}
use Rattle.tf_values.proofs.ByteLemmas.{text_is_short}
use Rattle.tf_board.specs.Board.{listed}
use Rattle.tf_board.specs.declared.board.Owner.{Owner}
use Rattle.tf_board.specs.declared.board.Owner.TheVariants as owned
use Rattle.tf_board.specs.declared.commands.Command.{Command}
use Rattle.tf_board.specs.declared.rules.Refusal.{Refusal}
use Rattle.tf_board.specs.Does.{refuses_call}
use Rattle.tf_board.specs.declared.calls.JobCall.{JobCall}
use Rattle.tf_wire.proofs.BoundLemmas.{words_length}
use Rattle.tf_board.specs.Board.{owner_of}
use Rattle.tf_board_service.specs.Sessions.{MOST_LINES, call_reply, list_line, owner_reply, reply_data, reply_of}
use Rattle.tf_board_service.specs.Printing.{HasFewLines, HasTexts}
use Rattle.tf_board_service.specs.declared.replies.BoardReply.{BoardReply}
use Rattle.tf_board_service.specs.declared.replies.BoardReply.TheVariants as reply
use Rattle.tf_board.specs.declared.calls.BoardRequest.{BoardRequest}
use Rattle.tf_board.specs.declared.calls.BoardRequest.TheVariants as request

-- ---- no float

lines_without : (lines : List (List ℕ)) → items_have_float (items_of (map string lines)) ≡ false
lines_without [] = refl
lines_without (first ∷ others) = lines_without others

pub reply_without : (r : BoardReply) → has_float (reply_data r) ≡ false
reply_without (reply.Lines lines) = rw (lines_without lines) refl
reply_without (reply.Refused why) = refl

-- ---- the length

six_at_most : (t u : Bool) (byte letter high low : ℕ) → length (cond t (92 ∷ letter ∷ []) (cond u (92 ∷ 117 ∷ 48 ∷ 48 ∷ high ∷ low ∷ []) (byte ∷ []))) ≤ 6
six_at_most true u byte letter high low = omega arith
six_at_most false true byte letter high low = omega arith
six_at_most false false byte letter high low = omega arith

escaped_byte : (byte : ℕ) → length (escape_byte byte) ≤ 6
unfolding escape_byte
escaped_byte byte = six_at_most _ _ byte _ _ _

escaped : (text : List ℕ) → length (flat_map escape_byte text) ≤ 6 * length text
escaped [] = omega arith
escaped (byte ∷ text) = omega (arith, length-append (escape_byte byte) (flat_map escape_byte text), escaped_byte byte, escaped text)

quoted_length : (text : List ℕ) → length (quoted text) ≤ 6 * length text + 2
quoted_length text = omega (arith, length-append (flat_map escape_byte text) (34 ∷ []), escaped text)

alone_length : (key : List ℕ) (d : Data) → length (compact_text (object (member key d no_members))) ≤ 6 * length key + 5 + length (compact_text d)
alone_length key d =
    omega (arith, length-append (quoted key) (58 ∷ (compact_text d ++ members_text true no_members)), length-append (compact_text d) (members_text true no_members), quoted_length key)

pub reply_short : (r : BoardReply) → HasTexts r → HasFewLines r → length (compact_text (reply_data r)) < 2 ^ 32
reply_short (reply.Lines lines) texts few = omega (arith, alone_length (codes "lines") (array (items_of (map string lines))), words_length false lines texts, few)
reply_short (reply.Refused why) text few = omega (arith, alone_length (codes "refused") (string why), quoted_length why, text_is_short why text)

-- ---- how many lines

few_of_call : (o : Option Refusal) (past : List Command) (asked : JobCall) → HasFewLines (call_reply o past asked)
few_of_call None past asked = omega arith
few_of_call (Some why) past asked = tt

few_of_owner : (o : Owner) (id : List ℕ) → HasFewLines (owner_reply o id)
few_of_owner owned.NoJob id = tt
few_of_owner owned.Gone id = tt
few_of_owner owned.Free id = omega arith
few_of_owner (owned.Of name) id = omega arith

few_taken : {A B : Type 0} (f : A → B) (n : ℕ) (xs : List A) → length (map f (take n xs)) ≤ n
few_taken f zero [] = omega arith
few_taken f (suc n) [] = omega arith
few_taken f zero (x ∷ xs) = omega arith
few_taken f (suc n) (x ∷ xs) = omega (arith, few_taken f n xs)

pub few_of : (past : List Command) (asked : BoardRequest) → HasFewLines (reply_of past asked)
few_of past (request.Call asked) = few_of_call (refuses_call past asked) past asked
few_of past (request.Owner id) = few_of_owner (owner_of past id) id
few_of past request.List = few_taken list_line MOST_LINES (listed past)
