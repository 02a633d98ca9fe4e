use Rattle.tf_ports.proofs.FolderLemmas.{gives_read}
use Rattle.tf_ports.proofs.folder.Folder.read_named.Goals as goal

pub returns-in-Ok-clause-whole : goal.returns-in-Ok-clause-whole
returns-in-Ok-clause-whole g c = gives_read g.W.World.sources c.args.self.now.read.items c.args.self.now.long.items c.args.name.now c.in-Ok.bytes c.and-self.result.items c.and-self.ensures
