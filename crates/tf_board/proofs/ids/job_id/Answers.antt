use Rattle.std.proofs.Common.{◌≡◌, ◌∙◌, ◌++◌, ◌∷◌, [], List, ℕ, take, ap, append_assoc}
use Rattle.std.specs.Fmt.{decimal}
use Rattle.sha1.specs.Sha1.{sha1}
use Rattle.uuid.specs.Parts.{with_version, with_variant}
use Rattle.uuid.specs.Uuid.{namespace_dns}
use Rattle.uuid.specs.declared.Variant.TheVariants.{RFC4122}
use Rattle.uuid.specs.declared.Version.TheVariants.{Sha1}
use Rattle.tf_board.specs.Board.{id_of}
use Rattle.tf_board.proofs.ids.job_id.Goals as goal

pub returns : goal.returns
unfolding id_of
returns c =
    let name = c.args.name.now in
    let n : List ℕ = decimal c.args.number in
    let one : c.append_number.new.out.items ≡ n = c.in_ok-append_number.ensures.ok ∙ ap (λ (t : List ℕ). t ++ n) c.in_ok-title.ensures.items in
    let two : c.append.new.out.items ≡ n ++ 47 ∷ [] = c.in_ok-append.ensures.ok ∙ ap (λ (t : List ℕ). t ++ 47 ∷ []) one in
    let title : c.deref.result.now ≡ n ++ 47 ∷ name =
    c.deref.ensures.value ∙ c.in_ok-append-2.ensures.ok ∙ ap (λ (b : List ℕ). c.append.new.out.items ++ b) c.bytes.ensures.value ∙ ap (λ (t : List ℕ). t ++ name) two ∙ append_assoc n (47 ∷ []) name in
    c.new_v5.ensures.value ∙ ap (λ (t : List ℕ). with_version (with_variant (take 16 (sha1 (namespace_dns ++ t))) RFC4122) Sha1) title
