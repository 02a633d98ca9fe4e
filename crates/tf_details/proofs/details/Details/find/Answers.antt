use Rattle.std.proofs.Common.{◌∙◌, sym}
use Rattle.tf_details.proofs.MachineLemmas.{named_found, details_named}
use Rattle.tf_details.proofs.details.Details.find.Goals as goal

pub returns-in-Some-clause-is : goal.returns-in-Some-clause-is
returns-in-Some-clause-is c = sym c.in-Some.is ∙ (c.place_of.ensures.is ∙ named_found c.args.name.now c.args.self.now)

pub returns-in-Some-clause-details : goal.returns-in-Some-clause-details
returns-in-Some-clause-details c = λ book are.
    sym c.in-Some.is ∙ (c.place_of.ensures.is ∙ (named_found c.args.name.now c.args.self.now ∙ details_named c.args.self.now book c.args.name.now are))

pub returns-in-None-clause-is : goal.returns-in-None-clause-is
returns-in-None-clause-is c = sym c.in-None.is ∙ (c.place_of.ensures.is ∙ named_found c.args.name.now c.args.self.now)

pub returns-in-None-clause-details : goal.returns-in-None-clause-details
returns-in-None-clause-details c = λ book are.
    sym c.in-None.is ∙ (c.place_of.ensures.is ∙ (named_found c.args.name.now c.args.self.now ∙ details_named c.args.self.now book c.args.name.now are))
