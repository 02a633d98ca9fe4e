use Rattle.std.proofs.Common.{◌≡◌, ◌∷◌, ◌++◌, [], ℕ, List, length, take, drop, get_or, Option, Some, None, sym, ◌∙◌, ap, arith, length-drop, ◌-◌}
use Rattle.std.proofs.lemmas.List.{take_all, take_at}
use Rattle.tf_journal.specs.Format.{OPEN, title_of, title_fault}
use Rattle.tf_journal.specs.declared.title.Title.{Title}
use Rattle.tf_journal.proofs.HeaderLemmas.{sixteen, is_found, old_found, header_bad_gate, header_bad_title, header_titled}
use Rattle.tf_journal.proofs.header.read_header.Goals as goal

-- what was found between the letters and the bytes behind the gate
fault_at : (head closed : List ℕ) (title : Title) → closed ≡ title_of title ++ 0 ∷ [] → (found : Option (ℕ × Option ℕ)) → found ≡ title_fault (take 16 closed) (take (length head - 1) (drop 1 head)) 1 → title_fault (title_of title) (drop 1 head) 1 ≡ found
fault_at head closed title is found told =
    let letters : take 16 closed ≡ title_of title = ap (take 16) is ∙ take_at (title_of title) (0 ∷ []) 16 (sixteen title) in
    let whole : take (length head - 1) (drop 1 head) ≡ drop 1 head = take_all (length head - 1) (drop 1 head) (omega (arith, length-drop 1 head)) in
    sym (told ∙ ap (λ (l : List ℕ). title_fault l (take (length head - 1) (drop 1 head)) 1) letters ∙ ap (λ (l : List ℕ). title_fault (title_of title) l 1) whole)

pub returns-then-looks_unborn-clause-shows : goal.returns-then-looks_unborn-clause-shows
returns-then-looks_unborn-clause-shows c = λ bytes are size. is_found c.args.title bytes (sym (c.looks_unborn.ensures bytes are size) ∙ c.if-looks_unborn.true)

pub returns-then-has_old_title-clause-shows : goal.returns-then-has_old_title-clause-shows
returns-then-has_old_title-clause-shows c = λ bytes are size.
    old_found c.args.title bytes (sym (c.looks_unborn.ensures bytes are size) ∙ c.if-looks_unborn.false) (sym (c.has_old_title.ensures.is bytes are) ∙ c.if-has_old_title.true)

pub returns-then-head-clause-shows : goal.returns-then-head-clause-shows
returns-then-head-clause-shows c = λ bytes are size.
    header_bad_gate c.args.title c.args.head.now bytes are (omega arith) (sym (c.looks_unborn.ensures bytes are size) ∙ c.if-looks_unborn.false)
    (sym (c.has_old_title.ensures.is bytes are) ∙ c.if-has_old_title.false) (λ gate. absurd (omega (arith, gate)))

pub returns-in-Some-clause-shows : goal.returns-in-Some-clause-shows
returns-in-Some-clause-shows c = λ bytes are size.
    let head = c.args.head.now in
    let gate : get_or head 0 0 ≡ OPEN = omega arith in
    header_bad_title c.args.title head bytes are (omega arith) c.in-Some.offset c.in-Some.byte (sym (c.looks_unborn.ensures bytes are size) ∙ c.if-looks_unborn.false)
    (sym (c.has_old_title.ensures.is bytes are) ∙ c.if-has_old_title.false) gate
    (fault_at head c.closed-closed.result.now c.args.title c.closed-closed.ensures (Some (c.in-Some.offset, c.in-Some.byte)) c.in-Some.ensures)

pub returns-in-None-clause-shows : goal.returns-in-None-clause-shows
returns-in-None-clause-shows c = λ bytes are size.
    let head = c.args.head.now in
    let gate : get_or head 0 0 ≡ OPEN = omega arith in
    header_titled c.args.title head bytes are (omega arith) (sym (c.looks_unborn.ensures bytes are size) ∙ c.if-looks_unborn.false)
    (sym (c.has_old_title.ensures.is bytes are) ∙ c.if-has_old_title.false) gate
    (fault_at head c.closed-closed.result.now c.args.title c.closed-closed.ensures None c.in-None.ensures)
