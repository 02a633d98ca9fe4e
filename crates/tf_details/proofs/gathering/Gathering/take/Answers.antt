use Rattle.std.proofs.Common.{◌≡◌, ap, sym, subst, List}
use Rattle.tf_machine.specs.Machine.{MachineValue}
use Rattle.tf_details.specs.Reading.{AreMachinesOf, IsReadEntry}
use Rattle.tf_details.specs.declared.gathering.Gathering.{Gathering}
use Rattle.tf_details.proofs.gathering.Gathering.take.Goals as goal

pub returns-in-Ok-clause-refused : goal.returns-in-Ok-clause-refused
returns-in-Ok-clause-refused g c = λ is book form are read.
    let same : c.note.new.self.details ≡ c.args.self.now.details = ap (λ (s : Gathering g.row.H.Denot). s.details) c.note.ensures.same in
    c.take.ensures.refused is book form (subst (λ (d : List MachineValue). AreMachinesOf d book) (sym same) are)
    (subst (λ (d : List MachineValue). IsReadEntry d c.args.number form c.args.entry) (sym same) read)
