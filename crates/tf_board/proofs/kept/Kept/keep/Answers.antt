use Rattle.std.proofs.Common.{◌++◌, List, Option, set, sym, ap, ◌∙◌}
use Rattle.std.proofs.Math.Seq.{map-set_same}
use Rattle.std.proofs.lemmas.List.{map-set}
use Rattle.tf_states.specs.declared.priorities.Priority.{Priority}
use Rattle.tf_board.specs.declared.jobs.Job.{Job}
use Rattle.tf_values.specs.declared.value.Val.{Val}
use Rattle.tf_board.specs.Board.{posted_with, past_in, id_in, free_as}
use Rattle.tf_board.proofs.KeptLemmas.{jobs_written}
use Rattle.tf_board.proofs.kept.Kept.keep.Goals as goal

pub returns-in-Stands : goal.returns-in-Stands
returns-in-Stands c =
    let t = c.requires.true_to in
    let jobs = c.args.self.now.jobs.items in
    let place = c.in-Stands.place in
    let job = c.index_mut-job.result.now in
    let stands : Job = record job { standing = c.in-Stands.standing } in
    record {
      commands = c.note.ensures;
      jobs = jobs_written (past_in c.args.self.now) c.args.command c.args.change c.in-Stands.place c.in-Stands.standing c.args.self.now.jobs.items c.index_mut-job.result.now c.in-Stands.is c.requires.change t.jobs
          c.index_mut-job.ensures.value;
      details = c.keep_details.ensures ∙ ap (λ (l : List Val). l ++ posted_with c.args.command) t.details;
      side_by_side = record {
        ids = t.side_by_side.ids ∙ sym (map-set_same id_in jobs place stands job (ap id_in c.index_mut-job.ensures.value));
        free =
            ap (λ (f : Option Priority). set c.args.self.now.free.items place f) c.free_as-in-Stands.ensures
            ∙ ap (λ (l : List (Option Priority)). set l place (free_as stands)) t.side_by_side.free
            ∙ sym (map-set free_as jobs place stands);
      };
      legal = (c.requires.allowed, t.legal);
      forms = (c.requires.form, t.forms);
    }
