-- What the real dialer, links and door tell by what they noted.
use Rattle.std.specs.Prelude.{ℕ, List, [], ◌∷◌, map, Some, None}
use Rattle.tf_trace.specs.Calls.{Call, opened, made, sized, gave, wrote, tore, synced, said}
use Rattle.tf_ports.specs.Transcript.{Passed, sent_with, received_with}
use Rattle.tf_ports.specs.Ports.{SeenLink, DoorTold}
use Rattle.tf_ports.specs.declared.crews.Address.{Address}

-- the first of each pair
abbrev pub noted : {X Y : Type 0} → List (X × Y) → List X
noted pairs = map (λ one. one.0) pairs

-- what passed over a link that noted these calls, the newest first: `gave`, whose offset says nothing here, is what came
-- at once, `said` what was sent, and a link makes no other
abbrev pub passed_in : List Call → List Passed
passed_in [] = []
passed_in (opened none name ∷ past) = passed_in past
passed_in (made name ∷ past) = passed_in past
passed_in (sized n ∷ past) = passed_in past
passed_in (gave at bytes ∷ past) = received_with (passed_in past) bytes
passed_in (wrote at bytes ∷ past) = passed_in past
passed_in (tore at bytes ∷ past) = passed_in past
passed_in (synced ∷ past) = passed_in past
passed_in (said bytes ∷ past) = sent_with (passed_in past) bytes

-- what is seen of a link that noted these calls, with so many faults and ends: what passed over it, and nothing of what
-- it has left
abbrev pub seen_by : List Call → ℕ → ℕ → SeenLink
seen_by calls faults ends = record { left = None; transcript = passed_in calls; faults = faults; ends = ends }

-- what a door tells that noted these addresses, and of these links that it gave and that were given back
abbrev pub door_told : {A B C L : Type 0} → (L → SeenLink) → List (Address × A) → List (L × B) → List (L × C) → DoorTold
door_told seen addresses links back = record {
  opened = Some (noted addresses);
  given = Some (map (λ one. seen one.0) links);
  returned = Some (map (λ one. seen one.0) back);
}
