-- What a desk over files has noted and said, and what a desk tells that tells nothing of its files.
use Rattle.std.specs.Prelude.{◌≡◌, ℕ, List, [], ◌∷◌, ◌++◌, length, take, Result, OnOk, ⊤, Option, None, false}
use Rattle.tf_trace.specs.Calls.{Call, opened, made, sized, gave, wrote, tore, synced, said}
use Rattle.tf_desk.specs.State.{DeskState}

-- what was written to standard output
abbrev pub said_in : List Call → List ℕ
said_in [] = []
said_in (opened none name ∷ past) = said_in past
said_in (made name ∷ past) = said_in past
said_in (sized n ∷ past) = said_in past
said_in (gave at bytes ∷ past) = said_in past
said_in (wrote at bytes ∷ past) = said_in past
said_in (tore at bytes ∷ past) = said_in past
said_in (synced ∷ past) = said_in past
said_in (said bytes ∷ past) = said_in past ++ bytes

-- of the bytes some were said: all of them where the call answered Ok
pub record SaysSome {E : Type 0} (bytes : List ℕ) (result : Result (⊤) E) (old new : List ℕ) : Type 0 where
  pub done : ℕ
  pub front : new ≡ old ++ take done bytes
  pub whole : OnOk result (done ≡ length bytes)

-- its text, if it tells one, and its four counts, and no content
abbrev pub without_content : Option (List ℕ) → ℕ → ℕ → ℕ → ℕ → DeskState
without_content shown disk_faults out_faults asks turns = record {
  tells = false;
  shown = shown;
  content = record { files = λ name. None; picked = None; clock = 0; marks = [] };
  left = λ name image. ⊥;
  crashes = λ start image text. ⊥;
  disk_faults = disk_faults;
  out_faults = out_faults;
  asks = asks;
  turns = turns;
}
