use Rattle.std.specs.Prelude.{is_ok}
use Rattle.tf_runner.proofs.ReadLemmas.{pushed_has, pushed_keeps}
use Rattle.tf_runner.proofs.reading.keep_file.Goals as goal

pub returns-in_default-push-clause-kept : goal.returns-in_default-push-clause-kept
returns-in_default-push-clause-kept c = pushed_keeps c.args.files.now.items c.push.new.self.items (record { name = c.in-Ok.name; content = c.args.content }) (is_ok c.push.result) c.push.ensures.items

pub returns-clause-kept : goal.returns-clause-kept
returns-clause-kept c = pushed_keeps c.args.files.now.items c.push.new.self.items (record { name = c.in-Ok.name; content = c.args.content }) (is_ok c.push.result) c.push.ensures.items

pub returns-clause-has : goal.returns-clause-has
returns-clause-has c = pushed_has c.args.files.now.items c.push.new.self.items (record { name = c.in-Ok.name; content = c.args.content }) c.args.name.now c.in-Ok-push.ensures.items c.in-Ok.ensures
