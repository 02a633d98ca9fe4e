-- What a call showed is told by what the file holds, then and later.
use Rattle.std.proofs.Common.{◌≡◌, ℕ, List, [], ◌∷◌, ◌++◌, map, Bool, Option, Some, refl, sym, ap, ◌∙◌, subst, inl, inr, ⊎_elim, append_assoc}
use Rattle.std.proofs.lemmas.List.{map-append}
use Rattle.tf_desk.specs.Crash.{shown_with, ShowsPrefix}
use Rattle.tf_desk.specs.State.{DeskState}
use Rattle.tf_flow.specs.Plan.{PlanValue}
use Rattle.tf_states.specs.declared.record.Entry.{Entry}
use Rattle.tf_ports.specs.declared.crews.Want.{Want}
use Rattle.tf_actions.specs.declared.orders.Order.{Order}
use Rattle.tf_actions.specs.declared.outcomes.Outcome.{Outcome}
use Rattle.tf_model.specs.Plan.{outline_of}
use Rattle.tf_journal.specs.Start.{file_of}
use Rattle.tf_details.specs.Elements.{Element, entry, Contents, with_entries}
use Rattle.tf_book.specs.SessionInvariant.{said}
use Rattle.tf_book.proofs.SpokenLemmas.{shown_none, prefix_whole, prefix_further}
use Rattle.tf_commands.specs.Books.{book_in, HoldsElements, IsShownThen, Lasts, ShowsLines, closed, line_cut, stopped}
use Rattle.tf_report.specs.Closing.{ClosesWith, said as was_said, cut}
use Rattle.tf_lifetime.specs.Life.{Call, Shown, after_call, at_crash, Life, IsToldBy}
use Rattle.tf_lifetime.proofs.LifeLemmas.{life_grows}

-- a message that was said, or a prefix of it
closes_prefix : {before : Option (List ℕ)} {message text : List ℕ} {wanted status : ℕ} → ClosesWith before message wanted (Some text) status → ShowsPrefix before message (Some text)
closes_prefix {before} {message} {text} (was_said is) = prefix_whole before message text is
closes_prefix (cut prefix) = prefix

-- the text after a call is told by the entries that it recorded
shown_after : {plan : PlanValue} {quiet : Bool} {before : List Entry} (entries : List Entry) {shown : Option (List ℕ)} {last : List ℕ → ℕ → Type 0} {closing text : List ℕ} {status : ℕ}
    → ShowsLines plan quiet before entries shown (Some text) last closing status → IsShownThen plan quiet before entries entries shown closing text
shown_after entries (closed closing wanted status is closes) = inr ([], refl, closes_prefix closes)
shown_after [] (line_cut never) = absurd never
shown_after {plan} {quiet} {before} (e ∷ entries) {shown} {last} {closing} {text} (line_cut prefix) =
    inl (prefix_further shown (shown_with shown (said quiet (outline_of plan) before entries)) (said quiet (outline_of plan) before entries) _ text refl prefix)
shown_after {plan} {quiet} {before} entries {shown} (stopped same) =
    inr ([], refl, record { count = 0; prefix = same ∙ sym (shown_none (shown_with shown (said quiet (outline_of plan) before entries))) })

-- entries behind others, as elements behind theirs
entries_behind : (contents : Contents) (newer older : List Entry)
    → (with_entries contents (newer ++ older)).elements ≡ map (entry contents.number) newer ++ (with_entries contents older).elements
entries_behind contents newer older =
    ap (λ (l : List Element). l ++ contents.elements) (map-append (entry contents.number) newer older)
    ∙ append_assoc (map (entry contents.number) newer) (map (entry contents.number) older) contents.elements

module _ {K : Type 0} (state : K → DeskState) (gives : Want → Order → Outcome → Type 0) where
  -- when a call had left the file
  told_then : (may : List Entry → Entry → Type 0) (name : List ℕ) (call : Call state gives) (contents : Contents) (plan : PlanValue) (quiet : Bool) (before entries : List Entry) (last : List ℕ → ℕ → Type 0) (closing : List ℕ)
      → ShowsLines plan quiet before entries (state call.entry).shown (state call.now).shown last closing call.status
      → Lasts may name contents plan quiet before entries (state call.entry) (state call.now) closing
      → (file text : List ℕ) → Shown state gives name call file text → IsToldBy contents plan quiet before entries (state call.entry).shown closing text file
  told_then may name call contents plan quiet before entries last closing lines l _ text (after_call _ is) = record {
    kept = entries;
    spoken = shown_after entries (subst (λ (t : Option (List ℕ)). ShowsLines plan quiet before entries (state call.entry).shown t last closing call.status) is lines);
    holds = ⊎_elim
        (λ finds. ⊎_elim (λ on. inr ([], on)) (λ none. inl none.0) finds)
        (λ on. inr (map (entry contents.number) l.pending, subst (λ (e : List Element). HoldsElements e (book_in (file_of (state call.now) name))) (entries_behind contents l.pending entries) on))
        l.file;
  }
  told_then may name call contents plan quiet before entries last closing lines l _ text (at_crash about moment start image _ is) =
      let m = l.crash moment start image text is in
      record {
        kept = m.kept;
        spoken = m.spoken;
        holds = ⊎_elim (λ on. inr ([], on)) (λ none. inl none.0) m.finds;
      }

  -- and at any later point
  pub told_later : (may : List Entry → Entry → Type 0) (name : List ℕ) (call : Call state gives) (contents : Contents) (plan : PlanValue) (quiet : Bool) (before entries : List Entry) (last : List ℕ → ℕ → Type 0) (closing : List ℕ)
      → ShowsLines plan quiet before entries (state call.entry).shown (state call.now).shown last closing call.status
      → Lasts may name contents plan quiet before entries (state call.entry) (state call.now) closing
      → (mid text : List ℕ) → Shown state gives name call mid text → (file : List ℕ) → Life state gives name mid file
      → IsToldBy contents plan quiet before entries (state call.entry).shown closing text file
  told_later may name call contents plan quiet before entries last closing lines l mid text shown file life =
      let told = told_then may name call contents plan quiet before entries last closing lines l mid text shown in
      record {
        kept = told.kept;
        spoken = told.spoken;
        holds = ⊎_elim (λ none. inl none)
            (λ on. (let grown = life_grows state gives name mid file life (on.0 ++ (with_entries contents told.kept).elements) on.1 in
            inr (grown.0 ++ on.0, subst (λ (e : List Element). HoldsElements e (book_in file)) (sym (append_assoc grown.0 on.0 (with_entries contents told.kept).elements)) grown.1)))
            told.holds;
      }
