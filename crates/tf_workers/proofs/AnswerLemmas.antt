-- How far the answer to a frame came.
use Rattle.std.proofs.Common.{◌≡◌, ◌≢◌, ℕ, List, [], ◌∷◌, ◌++◌, Option, refl, ap, ◌∙◌, subst}
use Rattle.tf_numbers.specs.Numbers.{Rises}
use Rattle.tf_ports.specs.Ports.{SeenLink}
use Rattle.tf_ports.proofs.TranscriptLemmas.{sent_more, prefix_more_sent, whole_prefix}
use Rattle.tf_actions.specs.Gives.{told_with}
use Rattle.tf_actions.specs.declared.orders.Order.{Order}
use Rattle.tf_actions.specs.declared.outcomes.Outcome.{Outcome}
use Rattle.tf_sessions.specs.Talks.{SendsAll, SendsPart}
use Rattle.tf_sessions.proofs.TalkLemmas.{le_on}
use Rattle.tf_workers.specs.Session.{Exchange, order_asked, Seen, did_with, MayBeGiven}
use Rattle.tf_workers.specs.Progress.{HasComeTo, StopsFor}
use Rattle.tf_workers.specs.declared.answering.Stop.{Stop}
use Rattle.tf_workers.specs.declared.answering.Stop.TheVariants as stop

-- some way was gone, and then the link failed or memory ran out
pub stopped : (gives : Order → Outcome → Type 0) (frame : List ℕ) (before now : Seen) (why : Stop) → HasComeTo gives frame before now → why ≢ stop.Bad → (why ≡ stop.Lost → Rises before.link.faults now.link.faults) → StopsFor gives frame before now why
stopped gives frame before now stop.Bad reaches not_bad lost = absurd (not_bad refl)
stopped gives frame before now stop.Lost reaches not_bad lost = (reaches, lost refl)
stopped gives frame before now stop.Memory reaches not_bad lost = reaches

-- some bytes were sent, and then others
pub says_on : (before between now : SeenLink) (first second : List ℕ) → SendsAll first before between → SendsAll second between now → SendsAll (first ++ second) before now
says_on before between now first second one two = record {
  left = two.left ∙ one.left;
  passed = sent_more before.transcript between.transcript now.transcript first second one.passed two.passed;
  faults = le_on before.faults between.faults now.faults one.faults two.faults;
  ends = le_on before.ends between.ends now.ends one.ends two.ends;
}

-- or a part of them
abbrev pub part_on : (before between now : SeenLink) (first second : List ℕ) → SendsAll first before between → SendsPart second between now → SendsPart (first ++ second) before now
part_on before between now first second one two = record {
  left = two.left ∙ one.left;
  passed = prefix_more_sent before.transcript between.transcript now.transcript first second one.passed two.passed;
  faults = le_on before.faults between.faults now.faults one.faults two.faults;
  ends = le_on before.ends between.ends now.ends one.ends two.ends;
}

-- all of them are a part
pub part_of : (before now : SeenLink) (bytes : List ℕ) → SendsAll bytes before now → SendsPart bytes before now
part_of before now bytes says = record { left = says.left; passed = whole_prefix before.transcript now.transcript bytes says.passed; faults = says.faults; ends = says.ends }

-- an outcome and an order that are those of an exchange
pub given_for : (gives : Order → Outcome → Type 0) (order : Order) (exchange : Exchange) → order ≡ order_asked exchange → gives order exchange.outcome → MayBeGiven gives exchange
given_for gives order exchange is given = subst (λ (asked : Order). gives asked exchange.outcome) is given

pub done_for : (before now : Option (List Order)) (order : Order) (exchange : Exchange) → order ≡ order_asked exchange → now ≡ told_with before order → now ≡ did_with before (order_asked exchange ∷ [])
done_for before now order exchange is done = done ∙ ap (λ (asked : Order). did_with before (asked ∷ [])) is
