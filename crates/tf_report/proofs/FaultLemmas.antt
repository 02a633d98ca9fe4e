-- What was appended of a book that is full, and of a file that is none.
use Rattle.std.proofs.Common.{◌≡◌, ℕ, List, ◌++◌, Option, codes}
use Rattle.std.specs.Fmt.{decimal}
use Rattle.std.proofs.lemmas.List.{append_assoc}
use Rattle.tf_report.specs.Closing.{byte_or_end, not_a_book, book_full}

-- five texts that were appended by twos
five_by_twos : (prefix a b c d e : List ℕ) → ((prefix ++ (a ++ b)) ++ (c ++ d)) ++ e ≡ prefix ++ (a ++ b ++ c ++ d ++ e)
five_by_twos prefix a b c d e = search (append_assoc)

-- what was appended of a book that is full
pub full_told : (prefix : List ℕ) (size need : ℕ)
    → ((prefix ++ (codes "taskflow: book full: " ++ decimal size)) ++ (codes " + " ++ decimal need)) ++ codes "\n" ≡ prefix ++ book_full size need
unfolding book_full
full_told prefix size need = five_by_twos prefix (codes "taskflow: book full: ") (decimal size) (codes " + ") (decimal need) (codes "\n")

-- five texts, of which the first two were appended at once
five_by_one : (prefix a b c d e : List ℕ) → (((prefix ++ (a ++ b)) ++ c) ++ d) ++ e ≡ prefix ++ (a ++ b ++ c ++ d ++ e)
five_by_one prefix a b c d e = search (append_assoc)

-- what was appended of a file that is no book
pub no_book_told : (prefix : List ℕ) (offset : ℕ) (byte : Option ℕ)
    → (((prefix ++ (codes "taskflow: not a book: offset " ++ decimal offset)) ++ codes ", ") ++ byte_or_end byte) ++ codes "\n" ≡ prefix ++ not_a_book offset byte
unfolding not_a_book
no_book_told prefix offset byte = five_by_one prefix (codes "taskflow: not a book: offset ") (decimal offset) (codes ", ") (byte_or_end byte) (codes "\n")
