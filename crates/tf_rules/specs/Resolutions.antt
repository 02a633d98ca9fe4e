-- What the code shows as a resolution.
use Rattle.std.specs.Prelude.{List, [], ◌∷◌, Option, Some, None}
use Rattle.tf_model.specs.Retries.{Controlled}
use Rattle.tf_model.specs.History.{Resolve}
use Rattle.tf_rules.specs.declared.resolutions.Resolution.{Resolution}
use Rattle.tf_rules.specs.declared.resolutions.Controller.{Controller}

-- the flow and the kind
abbrev pub shown_resolution : Resolution → Resolve
shown_resolution found = record { flow = found.flow; kind = found.kind }

-- a flow and its retry controller
abbrev pub shown_controller : Controller → Controlled
shown_controller here = record { flow = here.flow; retry = here.retry }

-- the flow, where it has a retry controller that counts
abbrev pub controllers_in : Option Controller → List Controlled
controllers_in None = []
controllers_in (Some here) = shown_controller here ∷ []
