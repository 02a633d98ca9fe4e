use Rattle.tf_runner.proofs.ReadLemmas.{read_on}
use Rattle.tf_runner.proofs.reading.read_file.Goals as goal

pub returns-in-Ok-clause-read : goal.returns-in-Ok-clause-read
returns-in-Ok-clause-read g c =
    let told = g.S.Sources.contents in
    let read = read_on (told c.args.sources.now) (told c.content_of.new.sources) c.args.files.now.items c.content_of.ensures.still c.requires.read in
    c.keep_file.ensures.read (told c.content_of.new.sources) read c.in-Ok.ensures.content

pub returns-in-Err-clause-read : goal.returns-in-Err-clause-read
returns-in-Err-clause-read g c =
    let told = g.S.Sources.contents in
    read_on (told c.args.sources.now) (told c.content_of.new.sources) c.args.files.now.items c.content_of.ensures.still c.requires.read
