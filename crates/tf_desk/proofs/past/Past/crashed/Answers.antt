use Rattle.std.proofs.Common.{◌≡◌, ℕ, ◌≤◌, List, [], ◌∷◌, length, take, reverse, Some, None, sym, ◌∙◌, ap, subst, arith, length-take}
use Rattle.std.specs.List.{sum_by}
use Rattle.std.proofs.lemmas.List.{length-reverse}
use Rattle.tf_desk.specs.declared.past.MemoryFile.{MemoryFile}
use Rattle.tf_desk.specs.declared.past.Noted.{Noted}
use Rattle.tf_desk.specs.Acts.{Act, said, files_after}
use Rattle.tf_desk.specs.Crashed.{IsTornAfter, AreOthers, acts_at, acts_left, IsTornDesk, picked_in_log}
use Rattle.tf_desk.specs.MemoryDesk.{acts_of, written_count, said_count, file_at}
use Rattle.tf_desk.proofs.LogLemmas.{length-acts_of}
use Rattle.tf_desk.proofs.LeavesLemmas.{if_ok, crashed_none, crashed_some}
use Rattle.tf_desk.proofs.past.Past.crashed.Goals as goal

pub slice_bounds-log-end : goal.slice_bounds-log-end
slice_bounds-log-end c =
    let p = c.self.inside in
    omega (arith, c.requires, ap length (sym c.self.view_is), length-acts_of (reverse p.log.items) p.written.items p.shown.items, length-reverse p.log.items, ap length c.deref.ensures.value, length-take c.args.moment c.deref.result.now)

pub returns-in_default : goal.returns-in_default
returns-in_default c =
    let p = c.self.inside in
    let m = c.args.moment in
    let within : m ≤ length p.log.items = omega (arith, c.requires, ap length (sym c.self.view_is), length-acts_of (reverse p.log.items) p.written.items p.shown.items, length-reverse p.log.items) in
    let none : picked_in_log (reverse (take m p.log.items)) ≡ None = ap (λ (l : List Noted). picked_in_log (reverse (take m l))) (sym c.deref.ensures.value) ∙ sym c.in_default.ensures in
    let text : c.text_of-text.result.now ≡ take (sum_by said_count (take m p.log.items)) p.shown.items =
    c.text_of-text.ensures ∙ ap (λ (l : List ℕ). take (sum_by said_count (take m c.deref.result.now)) l) c.deref-2.ensures.value ∙ ap (λ (l : List Noted). take (sum_by said_count (take m l)) p.shown.items) c.deref.ensures.value in
    if_ok c.shows.result (λ past. past ≡ said c.text_of-text.result.now ∷ []) (λ past. IsTornDesk c.args.torn (acts_at c.args.self.now m) past)
    (λ past is. crashed_none c.args.self.now p.log.items p.written.items p.shown.items m c.self.view_is c.self.invariant.wrote c.self.invariant.said within c.args.torn c.text_of-text.result.now past none text is)
    c.shows.ensures

pub returns : goal.returns
returns c =
    let p = c.self.inside in
    let m = c.args.moment in
    let name = c.in-Some.name.now in
    let image = c.deref-7.result.now in
    let others = c.deref-6.result.now in
    let within : m ≤ length p.log.items = omega (arith, c.requires, ap length (sym c.self.view_is), length-acts_of (reverse p.log.items) p.written.items p.shown.items, length-reverse p.log.items) in
    let some : picked_in_log (reverse (take m p.log.items)) ≡ Some name = ap (λ (l : List Noted). picked_in_log (reverse (take m l))) (sym c.deref.ensures.value) ∙ sym c.in-Some.ensures in
    let text : c.text_of-text.result.now ≡ take (sum_by said_count (take m p.log.items)) p.shown.items =
    c.text_of-text.ensures ∙ ap (λ (l : List ℕ). take (sum_by said_count (take m c.deref.result.now)) l) c.deref-2.ensures.value ∙ ap (λ (l : List Noted). take (sum_by said_count (take m l)) p.shown.items) c.deref.ensures.value in
    let torn : (shown : List ℕ) → IsTornAfter c.args.torn (acts_of (reverse (take m p.log.items)) (take (sum_by written_count (take m p.log.items)) p.written.items) shown) (Some name) image = λ shown.
    subst (λ (i : List ℕ). IsTornAfter c.args.torn (acts_of (reverse (take m p.log.items)) (take (sum_by written_count (take m p.log.items)) p.written.items) shown) (Some name) i) (sym c.deref-7.ensures.value)
    (subst (λ (w : List ℕ). IsTornAfter c.args.torn (acts_of (reverse (take m p.log.items)) (take (sum_by written_count (take m p.log.items)) w) shown) (Some name) c.in_ok-image.image.items) c.deref-5.ensures.value
    (subst (λ (l : List Noted). IsTornAfter c.args.torn (acts_of (reverse (take m l)) (take (sum_by written_count (take m l)) c.deref-5.result.now) shown) (Some name) c.in_ok-image.image.items) c.deref.ensures.value (c.in_ok-image.ensures shown))) in
    let beside : (shown : List ℕ) → AreOthers p.files.items (acts_of (reverse (take m p.log.items)) (take (sum_by written_count (take m p.log.items)) p.written.items) shown) name others = λ shown.
    subst (λ (o : List MemoryFile). AreOthers p.files.items (acts_of (reverse (take m p.log.items)) (take (sum_by written_count (take m p.log.items)) p.written.items) shown) name o) (sym c.deref-6.ensures.value)
    (subst (λ (f : List MemoryFile). AreOthers f (acts_of (reverse (take m p.log.items)) (take (sum_by written_count (take m p.log.items)) p.written.items) shown) name c.in_ok-others.others.items) c.deref-3.ensures.value
    (subst (λ (w : List ℕ). AreOthers c.deref-3.result.now (acts_of (reverse (take m p.log.items)) (take (sum_by written_count (take m p.log.items)) w) shown) name c.in_ok-others.others.items) c.deref-4.ensures.value
    (subst (λ (l : List Noted). AreOthers c.deref-3.result.now (acts_of (reverse (take m l)) (take (sum_by written_count (take m l)) c.deref-4.result.now) shown) name c.in_ok-others.others.items) c.deref.ensures.value (c.in_ok-others.ensures shown)))) in
    let named : (other : List ℕ) → file_at p.files.items other ≡ files_after c.args.self.now other = λ other.
    c.self.invariant.keeps.named other ∙ ap (λ (past : List Act). files_after past other) c.self.view_is in
    if_ok c.keeps.result (λ past. past ≡ acts_left others name image c.text_of-text.result.now) (λ past. IsTornDesk c.args.torn (acts_at c.args.self.now m) past)
    (λ past is. crashed_some c.args.self.now p.log.items p.written.items p.shown.items m c.self.view_is c.self.invariant.wrote c.self.invariant.said within c.args.torn name image c.text_of-text.result.now
    p.files.items others past some text torn named beside is)
    c.keeps.ensures
