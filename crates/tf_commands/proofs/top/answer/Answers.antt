use Rattle.std.proofs.Common.{sym, ◌∙◌, refl}
use Rattle.tf_commands.specs.Behaviour.{unheard, obeyed, no_command}
use Rattle.tf_words.specs.Words.{command_of}
use Rattle.tf_commands.proofs.CauseLemmas.{listened_so}
use Rattle.tf_commands.proofs.BehaviourLemmas.{within_so, hires_nobody, hires_asked}
use Rattle.tf_commands.proofs.HandLemmas.{command_hands}
use Rattle.tf_commands.proofs.top.answer.Goals as goal

pub obey-requires-clause-within : goal.obey-requires-clause-within
obey-requires-clause-within g c = λ lives kept.
    within_so (command_of c.args.words.now) c.in-Some.asked (λ seed size book hands is. c.demo_numbers_are_within.ensures c.args.words.now seed size book hands is)
    (λ board owner hands is. c.conductors_are_within.ensures c.args.words.now board owner hands is)
    (λ command is. command_hands c.args.words.now command is)
    (sym c.in-Ok.ensures ∙ c.in-Some.is)

pub returns-in_default-clause-behaviour : goal.returns-in_default-clause-behaviour
returns-in_default-clause-behaviour g c = unheard refl refl refl

pub returns-in-Some-clause-behaviour : goal.returns-in-Some-clause-behaviour
returns-in-Some-clause-behaviour g c =
    obeyed c.in-Some.asked (sym c.in-Ok.ensures ∙ c.in-Some.is) c.obey.ensures.obeys

pub returns-in-None-clause-behaviour : goal.returns-in-None-clause-behaviour
returns-in-None-clause-behaviour g c =
    no_command (sym c.in-Ok.ensures ∙ c.in-None.is) c.close-status.ensures.closes (refl, λ told. ((c.close-status.ensures.says.files told).files, c.close-status.ensures.says.marks told))

pub returns-in_default-clause-hires : goal.returns-in_default-clause-hires
returns-in_default-clause-hires g c = hires_nobody _ _

pub returns-in-Some-clause-hires : goal.returns-in-Some-clause-hires
returns-in-Some-clause-hires g c =
    hires_asked c.args.words.now c.in-Some.asked _ _ (sym c.in-Ok.ensures ∙ c.in-Some.is) c.obey.ensures.hires

pub returns-in-None-clause-hires : goal.returns-in-None-clause-hires
returns-in-None-clause-hires g c = hires_nobody _ _

pub returns-in-Some-clause-causes : goal.returns-in-Some-clause-causes
returns-in-Some-clause-causes g c =
    listened_so _ _ _ _ _ (λ both. ((c.in-Some.asked, sym c.in-Ok.ensures ∙ c.in-Some.is, both.0), both.1)) c.obey.ensures.causes

pub returns-in-Some-clause-aside : goal.returns-in-Some-clause-aside
returns-in-Some-clause-aside g c never = c.obey.ensures.aside (λ works. never (c.in-Some.asked, sym c.in-Ok.ensures ∙ c.in-Some.is, works))
