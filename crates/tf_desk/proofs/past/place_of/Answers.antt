use Rattle.std.proofs.Common.{rules, ◌≡◌, ◌<◌, length, get_or, true, arith, subst}
use Rattle.tf_desk.specs.declared.past.MemoryFile.{MemoryFile}
use Rattle.tf_desk.specs.MemoryDesk.{has_name}
use Rattle.tf_desk.proofs.FileLemmas.{first_found, none_found}
use Rattle.tf_desk.proofs.past.place_of.Goals as goal

pub returns-then-eq-clause-found : goal.returns-then-eq-clause-found
returns-then-eq-clause-found c =
    let file = c.index-files-place.result in
    let told : has_name c.args.name.now file ≡ true = search rules in
    let here : has_name c.args.name.now (get_or c.args.files.now c.loop-place.place file) ≡ true =
    subst (λ (f : MemoryFile). has_name c.args.name.now f ≡ true) c.index-files-place.is told in
    let within : c.loop-place.place < length c.args.files.now = omega arith in
    first_found c.args.files.now c.args.name.now c.loop-place.place file within c.loop-place.invariant here

pub returns-clause-missing : goal.returns-clause-missing
returns-clause-missing c = none_found c.args.files.now c.args.name.now (λ k d below. c.loop-place.invariant k d (omega (arith, below)))
