use Rattle.std.proofs.Common.{◌≡◌, ◌∙◌, sym, ap, subst, slice_index_or}
use Rattle.tf_shared_board.specs.Shared.{SharedValue}
use Rattle.tf_conductor.specs.Conducting.{ConductingValue, made_since}
use Rattle.tf_conductor.specs.Rounds.{AllClaimed, EndsConducting}
use Rattle.tf_conductor.proofs.EndLemmas.{none_ended}
use Rattle.tf_conductor.proofs.conducting.conduct.Goals as goal

pub returns-in_default-clause-each : goal.returns-in_default-clause-each
returns-in_default-clause-each g c = λ i d owner place.
    let old = slice_index_or c.args.runners.now.items i d in
    none_ended (g.P.Runner.gives old) (g.P.Runner.did old) c.args.shared.board.past i owner (made_since c.args.shared c.give_up.result.shared) c.give_up.result.halt
    (ap (λ (v : ConductingValue g.row.K.Denot). made_since v.begun c.give_up.result.shared) (sym c.begin-board.ensures) ∙ c.give_up.ensures.none) c.give_up.ensures.halt.1

pub returns-in_default-with_capacity-clause-each : goal.returns-in_default-with_capacity-clause-each
returns-in_default-with_capacity-clause-each g c = λ i d owner place.
    let old = slice_index_or c.args.runners.now.items i d in
    let end = c.give_up-in_default-with_capacity in
    none_ended (g.P.Runner.gives old) (g.P.Runner.did old) c.args.shared.board.past i owner (made_since c.args.shared end.result.shared) end.result.halt
    (ap (λ (v : ConductingValue g.row.K.Denot). made_since v.begun end.result.shared) (sym c.begin-board.ensures) ∙ end.ensures.none) end.ensures.halt.1

pub returns-in-Ok-make-clause-each : goal.returns-in-Ok-make-clause-each
returns-in-Ok-make-clause-each g c = λ i d owner place.
    let old = slice_index_or c.args.runners.now.items i d in
    let new = slice_index_or c.run_all.new.runners.items i d in
    let start : c.in-Ok-make.turnstile.start ≡ c.begin-board.result = cc (c.in-Ok-make.ensures.made.0, c.in-Ok-make.turnstile-is) in
    let begun : c.in-Ok-make.turnstile.start.begun ≡ c.args.shared = ap (λ (v : ConductingValue g.row.K.Denot). v.begun) (start ∙ c.begin-board.ensures) in
    subst (λ (s : SharedValue g.row.K.Denot). EndsConducting (g.P.Runner.gives old) (g.P.Runner.did old) s.board.past i owner (g.P.Runner.did new) (made_since s c.run_all.result.shared) c.run_all.result.halt) begun
    (c.run_all.ensures.conducted.each i d owner place)

pub returns-in-Ok-make-clause-all : goal.returns-in-Ok-make-clause-all
returns-in-Ok-make-clause-all g c = λ is.
    let start : c.in-Ok-make.turnstile.start ≡ c.begin-board.result = cc (c.in-Ok-make.ensures.made.0, c.in-Ok-make.turnstile-is) in
    let begun : c.in-Ok-make.turnstile.start.begun ≡ c.args.shared = ap (λ (v : ConductingValue g.row.K.Denot). v.begun) (start ∙ c.begin-board.ensures) in
    subst (λ (s : SharedValue g.row.K.Denot). AllClaimed s.board.past (made_since s c.run_all.result.shared)) begun (c.run_all.ensures.conducted.all is)

pub returns-in-Err-clause-each : goal.returns-in-Err-clause-each
returns-in-Err-clause-each g c = λ i d owner place.
    let old = slice_index_or c.args.runners.now.items i d in
    let end = c.give_up-in-Err in
    let same : c.in-Err.board ≡ c.begin-board.result = cc (c.in-Err.ensures.back, c.in-Err.board-is) in
    none_ended (g.P.Runner.gives old) (g.P.Runner.did old) c.args.shared.board.past i owner (made_since c.args.shared end.result.shared) end.result.halt
    (ap (λ (v : ConductingValue g.row.K.Denot). made_since v.begun end.result.shared) (sym (same ∙ c.begin-board.ensures)) ∙ end.ensures.none) end.ensures.halt.1
