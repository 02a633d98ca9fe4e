use Rattle.std.proofs.Common.{◌≡◌, ◌<◌, ℕ, List, None, Some, Option, length, refl, sym, subst, arith, ◌∙◌}
use Rattle.std.specs.Prelude.{slice_get}
use Rattle.std.specs.Arc.{arc_value}
use Rattle.std.proofs.lemmas.Option.{slice_get_within}
use Rattle.tf_desk.specs.State.{told_as}
use Rattle.tf_board.proofs.DeskLaws.{KeepsLaws}
use Rattle.tf_conductor.specs.Conducting.{IsConducting, made_since}
use Rattle.tf_conductor.specs.Rounds.{AllClaimed, EndsConducting}
use Rattle.tf_conductor.proofs.EndLemmas.{item_at}
use Rattle.tf_shared_board.specs.Shared.{SharedValue}
use Rattle.tf_shared_board.specs.declared.calls.BoardHalt.{BoardHalt}
use Rattle.tf_runner.specs.Reading.{MeansRunTo}
use Rattle.tf_runner.specs.Working.{HasCalled}
use Rattle.tf_runner.specs.declared.runner.FileRunner.{FileRunner}
use Rattle.tf_runner.proofs.CallLemmas.{called_causes, called_so, each_share, shared_so}
use Rattle.tf_runner.proofs.CommandLemmas.{conducted_so}
use Rattle.tf_runner.proofs.commanding.conduct_with.Goals as goal

pub returns-clause-works : goal.returns-clause-works
returns-clause-works g c = λ contents read name entry seen o.
    let D = g.K.Desk in
    let gives = g.P.Performer.gives in
    let board = c.args.board in
    let now = c.conduct-ended.result.shared in
    let halted = c.conduct-ended.result.halt in
    let owners = c.args.ready.owners in
    let named = c.requires.owners.1 in
    let files = arc_value c.args.ready.files in
    let word = c.args.word.now in
    let count = c.args.count in
    let begins = c.make-shared.ensures in
    let here = g.met.K.Desk g.world.𝓛 g.world.𝓜 g.world.𝓡 ((λ s x. x), (λ x. x), (λ x. x), λ x. x) in
    let laws : KeepsLaws D.state =
    record { tells_shown = here.tells_shown; picked_is_there = here.picked_is_there; reads_left = here.reads_left; counts_now = here.counts_now; only_now = here.only_now } in
    let k : IsConducting D.state (record { begun = shared_so D.state board; now = now; owners = owners }) =
    subst (λ (s : SharedValue g.row.K.Denot). IsConducting D.state (record { begun = s; now = now; owners = owners })) begins c.conduct-ended.ensures.board in
    let called : HasCalled name word count board.past now.made halted (told_as (g.K.Desk.state seen) (g.K.Desk.state entry)) (D.state now.board.journal.desk) =
    subst (λ (h : Option BoardHalt). HasCalled name word count board.past now.made h (told_as (g.K.Desk.state seen) (g.K.Desk.state entry)) (D.state now.board.journal.desk)) (sym c.conduct-ended.ensures.halt)
    (called_so D.state name word owners count (told_as (g.K.Desk.state seen) (g.K.Desk.state entry)) board now o k named c.requires.owners.0 laws c.conclude-said.ensures.shared) in
    let runners = c.runners_of-runners.result.items in
    let shared = each_share (λ (r : FileRunner g.row.P.Denot). r.files) (λ a. arc_value a ≡ files) runners c.args.ready.shares.items c.runners_of-runners.ensures.shares c.requires.shares.1 in
    let each : (number : ℕ) (owner : List ℕ) → slice_get owners number ≡ Some owner → EndsConducting (MeansRunTo gives files.items) None board.past number owner None now.made halted =
    λ number owner at.
    (let below : number < length runners = omega (arith, slice_get_within owners number owner at, c.requires.owners.0, c.runners_of-runners.ensures.count, c.requires.shares.0, c.runners_of-runners.result.ok.0) in
    let d = item_at runners number below in
    subst (λ (s : SharedValue g.row.K.Denot). EndsConducting (MeansRunTo gives files.items) None s.board.past number owner None (made_since s now) halted) begins
    (subst (λ f. EndsConducting (MeansRunTo gives f.items) None c.make-shared.result.board.past number owner None (made_since c.make-shared.result now) halted) (shared number d below)
    (c.conduct-ended.ensures.each number d owner at))) in
    let all : halted ≡ None → AllClaimed board.past now.made =
    λ none. subst (λ (s : SharedValue g.row.K.Denot). AllClaimed s.board.past (made_since s now)) begins (c.conduct-ended.ensures.all none) in
    record {
      past = board.past;
      legal = o.fresh.legal;
      found = o.found;
      made = now.made;
      halted = halted;
      conducted = conducted_so D.state word owners count board now k named c.requires.owners.0 gives contents files.items read c.requires.have halted c.conduct-ended.ensures.legal each all;
      ends = c.conclude-said.ensures.ends name word count board.past entry seen called;
    }

pub returns-clause-causes : goal.returns-clause-causes
returns-clause-causes g c = λ name entry seen o.
    let D = g.K.Desk in
    let now = c.conduct-ended.result.shared in
    let owners = c.args.ready.owners in
    let k : IsConducting D.state (record { begun = shared_so D.state c.args.board; now = now; owners = owners }) =
    subst (λ (s : SharedValue g.row.K.Denot). IsConducting D.state (record { begun = s; now = now; owners = owners })) c.make-shared.ensures c.conduct-ended.ensures.board in
    called_causes D.state name c.args.word.now owners c.args.count (told_as (g.K.Desk.state seen) (g.K.Desk.state entry)) c.args.board now o k c.requires.owners.1 c.requires.owners.0
    now.board.journal.desk (D.state c.conclude-said.result.0) c.conclude-said.result.1 refl c.conclude-said.ensures.concludes (λ is. sym c.conduct-ended.ensures.halt ∙ c.conclude-said.ensures.failed is)
