-- What one reading takes of a stream whose bytes are known.
use Rattle.std.proofs.Common.{◌≡◌, ◌≤◌, ℕ, List, length, Option, Some, None, arith}
use Rattle.std.specs.Prelude.{take}
use Rattle.std.proofs.lemmas.List.{length-take-le}
use Rattle.tf_desk.specs.Streams.{ReadsOn}
use Rattle.tf_ports.specs.Remaining.{IsFirstLeft}

pub first_left : (before after : Option (List ℕ)) (buffer : List ℕ) (n limit : ℕ) → length buffer ≡ limit → n ≤ length buffer
    → ReadsOn before after buffer n → IsFirstLeft before limit (take n buffer)
first_left None after buffer n limit long bound reads = tt
first_left (Some left) None buffer n limit long bound reads = absurd reads.taken
first_left (Some left) (Some rest) buffer n limit long bound reads =
    let taken : length (take n buffer) ≡ n = length-take-le n buffer bound in
    (rest, (reads.taken, (λ few. reads.short (omega (arith, long, few, taken)))))
