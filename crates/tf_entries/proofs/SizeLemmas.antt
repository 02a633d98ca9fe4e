-- How many bytes the form of an entry has.
use Rattle.std.proofs.Common.{◌≡◌, ℕ, ◌≤◌, List, length, true, false, arith}
use Rattle.std.proofs.lemmas.Grind.{common_steps}
use Rattle.tf_values.proofs.NameLemmas.{length-is_name}
use Rattle.tf_values.specs.Scalars.{list_bytes, text_bytes, are_scalars}
use Rattle.tf_values.specs.Text.{is_text}
use Rattle.tf_values.specs.Value.{IsValue, byte_form}
use Rattle.tf_values.specs.declared.value.Val.{Val}
use Rattle.tf_values.specs.declared.value.Val.TheVariants as value
use Rattle.tf_states.specs.declared.record.Entry.{Entry}
use Rattle.tf_states.specs.declared.record.Failure.{Failure}
use Rattle.tf_states.specs.declared.record.Failure.TheVariants as failure
use Rattle.tf_states.specs.declared.record.Payload.{Payload}
use Rattle.tf_states.specs.declared.record.Payload.TheVariants as payload
use Rattle.tf_states.specs.declared.record.What.{What}
use Rattle.tf_states.specs.declared.record.What.TheVariants as what
use Rattle.tf_entries.specs.Entries.{failure_bytes, payload_bytes, what_bytes, entry_bytes, IsFailure, IsPayload, HasItsPayload}

text_long : (text : List ℕ) → is_text text ≡ true → length (text_bytes text) ≤ 65540
text_long text is = let short : length text ≤ 65536 = grind (arith, common_steps) in omega arith

list_long : (scalars : List _) → are_scalars scalars ≡ true → length (list_bytes scalars) ≤ 131072
list_long scalars is = grind (arith, common_steps)

value_long : (v : Val) → IsValue v → length (byte_form v) ≤ 131072
value_long value.Nothing is = omega arith
value_long (value.Truth true) is = omega arith
value_long (value.Truth false) is = omega arith
value_long (value.Int number) is = omega arith
value_long (value.Text text) is = omega (arith, text_long text is)
value_long (value.List scalars) is = list_long scalars is.0

failure_long : (f : Failure) → IsFailure f → length (failure_bytes f) ≤ 131072
failure_long (failure.Raised text) is = omega (arith, text_long text is)
failure_long (failure.WrongKind name) is = omega (arith, length-is_name name is)
failure_long failure.Overflow is = omega arith
failure_long failure.Range is = omega arith
failure_long failure.TooLong is = omega arith
failure_long (failure.Lookup name) is = omega (arith, length-is_name name is)
failure_long (failure.Exit status) is = omega arith
failure_long failure.Spawn is = omega arith
failure_long failure.NotText is = omega arith
failure_long failure.Lost is = omega arith
failure_long (failure.BadReply place) is = omega arith
failure_long failure.Exhausted is = omega arith

payload_long : (p : Payload) → IsPayload p → length (payload_bytes p) ≤ 131072
payload_long payload.Empty is = omega arith
payload_long (payload.Value v) is = value_long v is
payload_long (payload.Fault f) is = failure_long f is

what_long : (w : What) → HasItsPayload w → length (what_bytes w) ≤ 131076
what_long (what.Atom number state held) is = omega (arith, payload_long held is.2)
what_long (what.Flow state) is = omega arith
what_long (what.Resolve number k) is = omega arith
what_long (what.Restart number) is = omega arith

-- an entry's form has 1 to 131,200 bytes
pub entry_long : (e : Entry) → HasItsPayload e.what → (1 ≤ length (entry_bytes e)) × (length (entry_bytes e) ≤ 131200)
entry_long e is = (omega arith, omega (arith, what_long e.what is))
