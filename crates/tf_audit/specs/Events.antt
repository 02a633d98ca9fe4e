-- Failures and events by their words, and the parts of a line that these take.
use Rattle.std.specs.Prelude.{ℕ, ℤ, List, [], ◌∷◌, ◌++◌, ◌||◌, Option, Some, None, option_map, if◌then◌else◌, codes}
use Rattle.std.specs.Option.{option_and_then}
use Rattle.std.specs.Str.{bytes_eq}
use Rattle.tf_states.specs.declared.record.Failure.{Failure}
use Rattle.tf_states.specs.declared.record.Failure.TheVariants as failure
use Rattle.tf_values.specs.declared.value.Val.{Val}
use Rattle.tf_values.specs.declared.value.Val.TheVariants as value
use Rattle.tf_values.specs.Value.{text_form}
use Rattle.tf_states.specs.declared.record.Kind.{Kind}
use Rattle.tf_states.specs.declared.record.Payload.{Payload}
use Rattle.tf_states.specs.declared.record.Payload.TheVariants as payload
use Rattle.tf_states.specs.declared.record.What.{What}
use Rattle.tf_states.specs.declared.record.What.TheVariants as what
use Rattle.tf_states.specs.declared.state.FlowState.{FlowState}
use Rattle.tf_report.specs.Lines.{failure_text}

-- the text that is read, where a value is read that is one
abbrev pub text_within : Option Val → Option (List ℕ)
text_within None = None
text_within (Some (value.Text text)) = Some text
text_within (Some other) = None

-- what stands behind the word of a state, and the space or the line feed behind that: a payload and a line feed, or
-- nothing
abbrev pub payload_rest : Payload → List ℕ
payload_rest payload.Empty = []
payload_rest (payload.Value value) = text_form value ++ 10 ∷ []
payload_rest (payload.Fault fault) = failure_text fault ++ 10 ∷ []

-- the failure that a word is, where nothing stands behind it
abbrev pub failure_alone : List ℕ → Option Failure
failure_alone word =
    if bytes_eq word (codes "overflow") then Some failure.Overflow
    else if bytes_eq word (codes "range") then Some failure.Range
    else if bytes_eq word (codes "too-long") then Some failure.TooLong
    else if bytes_eq word (codes "spawn") then Some failure.Spawn
    else if bytes_eq word (codes "not-text") then Some failure.NotText
    else if bytes_eq word (codes "lost") then Some failure.Lost
    else if bytes_eq word (codes "exhausted") then Some failure.Exhausted
    else None

-- the failure of a word, with the text, the name, the status or the number behind it that it takes
abbrev pub failure_with : List ℕ → Option (List ℕ) → Option (List ℕ) → Option ℤ → Option ℕ → Option Failure
failure_with word text name status place =
    if bytes_eq word (codes "raised") then option_map failure.Raised text
    else if bytes_eq word (codes "type") then option_map failure.WrongKind name
    else if bytes_eq word (codes "lookup") then option_map failure.Lookup name
    else if bytes_eq word (codes "exit") then option_map failure.Exit status
    else if bytes_eq word (codes "bad-reply") then option_map failure.BadReply place
    else failure_alone word

-- a resolution at a flow, where both parts are there
abbrev pub resolve_with : Option ℕ → Option Kind → Option What
resolve_with named resolved = option_and_then (λ g. option_map (λ k. what.Resolve g k) resolved) named

-- what the event of a word is, of the parts behind it that it takes: what an atom enters; a state of the flow; a flow
-- and a kind; an atom
abbrev pub event_with : List ℕ → Option What → Option FlowState → Option What → Option ℕ → Option What
event_with word entered turned resolved again =
    if bytes_eq word (codes "task") || bytes_eq word (codes "retry") then entered
    else if bytes_eq word (codes "flow") then option_map what.Flow turned
    else if bytes_eq word (codes "resolve") then resolved
    else if bytes_eq word (codes "restart") then option_map what.Restart again
    else None
