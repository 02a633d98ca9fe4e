-- When bytes are a document.
use Rattle.std.proofs.Common.{◌≡◌, ℕ, List, None}
use Rattle.std.proofs.lemmas.Str.{IsUtf8-from_is_utf8, is_utf8-from_IsUtf8}
use Rattle.std.specs.Str.{IsUtf8, is_utf8}
use Rattle.toml.specs.Parse.{parse_document}
use Rattle.tf_files.specs.FlowFile.{document_of}
use Rattle.tf_numbers.proofs.TruthLemmas.{never_true}

pub utf8_document : (bytes : List ℕ) → IsUtf8 bytes → document_of bytes ≡ parse_document bytes
utf8_document bytes utf8 = rw (is_utf8-from_IsUtf8 bytes utf8)

pub other_document : (bytes : List ℕ) → ¬ (IsUtf8 bytes) → document_of bytes ≡ None
other_document bytes refuted = rw (never_true (is_utf8 bytes) (λ is. refuted (IsUtf8-from_is_utf8 bytes is)))
