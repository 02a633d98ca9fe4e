-- A command that did nothing but say its last: its file and the others stay as they were.
use Rattle.std.proofs.Common.{◌≡◌, ℕ, List, [], Option, Some, sym, ap, ◌∙◌, subst}
use Rattle.std.specs.Prelude.{IsTrue, unwrap_or}
use Rattle.tf_desk.specs.Crash.{ShowsPrefix}
use Rattle.tf_desk.specs.State.{DeskState, Says}
use Rattle.tf_journal.proofs.PathLemmas.{path_said}
use Rattle.tf_journal.specs.Start.{Untouched, file_of}
use Rattle.tf_book.proofs.SpokenLemmas.{shown_none}
use Rattle.tf_commands.specs.Books.{Refuses, Stops}
use Rattle.tf_report.specs.Closing.{ClosesWith}
use Rattle.tf_report.specs.declared.statuses.TheConstants.{OUT_OF_MEMORY}

-- a text that stayed shows none of a message more
quiet_prefix : (shown : Option (List ℕ)) (message text : List ℕ) → shown ≡ Some text → ShowsPrefix shown message (Some text)
quiet_prefix shown message text is = record { count = 0; prefix = sym is ∙ sym (shown_none shown) }

-- a command that is over without a word
pub stops_untouched : {name : List ℕ} {entry now : DeskState} (status : ℕ) → Untouched name entry now → status ≡ OUT_OF_MEMORY → Stops name entry now status
stops_untouched {name} {entry} status untouched is = record {
  status_is = is;
  quiet = untouched.quiet;
  alone = λ told. let path = untouched.path told in record {
    file = untouched.file told;
    others = path.others;
    crash = λ moment start image text leaves. let as_before = path.crash moment start image text leaves in
        (as_before.0, quiet_prefix entry.shown [] text as_before.1);
  };
}

-- and one that is over with a message
pub refuses_untouched : {name : List ℕ} {entry now next : DeskState} (message : List ℕ) (wanted status : ℕ) → Untouched name entry now
    → ClosesWith now.shown message wanted next.shown status → Says message now next → Refuses name entry next message wanted status
refuses_untouched {name} {entry} {now} {next} message wanted status untouched closes says = record {
  closes = subst (λ (o : Option (List ℕ)). ClosesWith o message wanted next.shown status) untouched.quiet closes;
  alone = λ told.
      let told_now : IsTrue now.tells = subst IsTrue (sym untouched.told) told in
      let path = path_said {wider = λ image text. (image ≡ file_of entry name) × ShowsPrefix entry.shown message (Some text)} (untouched.path told) told_now says
      (λ image text as_before. (as_before.0, quiet_prefix entry.shown message text as_before.1))
      (λ image text held prefix. (held, subst (λ (o : Option (List ℕ)). ShowsPrefix o message (Some text)) untouched.quiet prefix)) in
      record {
        file = ap (λ (f : List ℕ → Option (List ℕ)). unwrap_or (f name) []) (says.files told_now).files ∙ untouched.file told;
        others = path.others;
        crash = path.crash;
      };
}
