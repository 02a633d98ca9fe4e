use Rattle.std.proofs.Common.{refl, subst, sym}
use Rattle.tf_commands.specs.Asking.{IsWork}
use Rattle.tf_board_service.proofs.CommandLemmas.{service_status}
use Rattle.tf_commands.proofs.BoardLemmas.{board_among}
use Rattle.tf_commands.proofs.ConductLemmas.{conducted_causes, conducts_hires}
use Rattle.tf_commands.proofs.CauseLemmas.{widened, served_causes, worked_causes, listened_so}
use Rattle.tf_commands.proofs.MigrateLemmas.{migrated_causes}
use Rattle.tf_commands.proofs.BehaviourLemmas.{obeys_so, hires_so, few_so, quiet_file}
use Rattle.tf_commands.proofs.top.obey.Goals as goal

pub try_file-requires-clause-few : goal.try_file-requires-clause-few
try_file-requires-clause-few g c = λ lives kept. few_so c.args.asked _ c.in-Try.is c.requires.within

pub run_file-requires-clause-few : goal.run_file-requires-clause-few
run_file-requires-clause-few g c = λ lives kept. few_so c.args.asked _ c.in-Run.is c.requires.within

pub resume_book-requires-clause-few : goal.resume_book-requires-clause-few
resume_book-requires-clause-few g c = λ lives kept. few_so c.args.asked _ c.in-Resume.is c.requires.within

pub demo_book-requires-clause-few : goal.demo_book-requires-clause-few
demo_book-requires-clause-few g c = λ lives kept. (few_so c.args.asked _ c.in-Demo.is c.requires.within).1

pub returns-in-Try-clause-obeys : goal.returns-in-Try-clause-obeys
returns-in-Try-clause-obeys g c = obeys_so g.K.Desk.state _ _ c.args.asked _ _ _ _ _ _ _ c.in-Try.is (c.try_file.ensures.tried, c.try_file.ensures.stays)

pub returns-in-Run-clause-obeys : goal.returns-in-Run-clause-obeys
returns-in-Run-clause-obeys g c = obeys_so g.K.Desk.state _ _ c.args.asked _ _ _ _ _ _ _ c.in-Run.is c.run_file.ensures.runs

pub returns-in-Resume-clause-obeys : goal.returns-in-Resume-clause-obeys
returns-in-Resume-clause-obeys g c = obeys_so g.K.Desk.state _ _ c.args.asked _ _ _ _ _ _ _ c.in-Resume.is c.resume_book.ensures.resumes

pub returns-in-Show-clause-obeys : goal.returns-in-Show-clause-obeys
returns-in-Show-clause-obeys g c = obeys_so g.K.Desk.state _ _ c.args.asked _ _ _ _ _ _ _ c.in-Show.is (c.show_book.ensures.shows, refl)

pub returns-in-Reset-clause-obeys : goal.returns-in-Reset-clause-obeys
returns-in-Reset-clause-obeys g c = obeys_so g.K.Desk.state _ _ c.args.asked _ _ _ _ _ _ _ c.in-Reset.is (c.reset_book.ensures.resets, refl)

pub returns-in-Details-clause-obeys : goal.returns-in-Details-clause-obeys
returns-in-Details-clause-obeys g c = obeys_so g.K.Desk.state _ _ c.args.asked _ _ _ _ _ _ _ c.in-Details.is (c.list_details.ensures.lists, refl)

pub returns-in-Details-clause-hires : goal.returns-in-Details-clause-hires
returns-in-Details-clause-hires g c = hires_so c.args.asked _ _ _ c.in-Details.is refl

pub returns-in-Migrate-clause-obeys : goal.returns-in-Migrate-clause-obeys
returns-in-Migrate-clause-obeys g c = obeys_so g.K.Desk.state _ _ c.args.asked _ _ _ _ _ _ _ c.in-Migrate.is (c.migrate_command-desk.ensures.migrates, refl)

pub returns-in-Migrate-clause-hires : goal.returns-in-Migrate-clause-hires
returns-in-Migrate-clause-hires g c = hires_so c.args.asked _ _ _ c.in-Migrate.is refl

pub returns-in-Migrate-clause-causes : goal.returns-in-Migrate-clause-causes
returns-in-Migrate-clause-causes g c =
    widened _ _ _ _ (migrated_causes c.migrate_command-desk.result.1 (g.S.Sources.faults c.args.sources.now) (g.W.Crew.faults c.args.crew.now) c.migrate_command-desk.ensures.migrates c.migrate_command-desk.ensures.causes)

pub returns-in-Check-clause-obeys : goal.returns-in-Check-clause-obeys
returns-in-Check-clause-obeys g c = obeys_so g.K.Desk.state _ _ c.args.asked _ _ _ _ _ _ _ c.in-Check.is
    (quiet_file _ _ _ _ _ _ _ _ (λ still. (refl, still)) c.check_file-status.ensures.checked, (refl, c.check_file-status.ensures.says.files))

pub returns-in-Audit-clause-obeys : goal.returns-in-Audit-clause-obeys
returns-in-Audit-clause-obeys g c = obeys_so g.K.Desk.state _ _ c.args.asked _ _ _ _ _ _ _ c.in-Audit.is
    (quiet_file _ _ _ _ _ _ _ _ (λ still. (refl, still)) c.audit_file-status.ensures.audited, (refl, c.audit_file-status.ensures.says.files))

pub returns-in-Demo-clause-obeys : goal.returns-in-Demo-clause-obeys
returns-in-Demo-clause-obeys g c = obeys_so g.K.Desk.state _ _ c.args.asked _ _ _ _ _ _ _ c.in-Demo.is c.demo_book.ensures.demonstrates

pub returns-in-Worker-clause-obeys : goal.returns-in-Worker-clause-obeys
returns-in-Worker-clause-obeys g c = obeys_so g.K.Desk.state _ _ c.args.asked _ _ _ _ _ _ _ c.in-Worker.is (c.work-status.ensures.works, c.work-status.ensures.says.files)

pub returns-in-Worker-clause-causes : goal.returns-in-Worker-clause-causes
returns-in-Worker-clause-causes g c =
    listened_so _ _ _ _ _ (λ both. (subst IsWork (sym c.in-Worker.is) both.0, both.1))
    (worked_causes c.work-status.result (g.S.Sources.faults c.args.sources.now) (g.S.Sources.faults c.args.sources.now) (g.W.Crew.faults c.args.crew.now) (g.W.Crew.faults c.work-status.new.crew)
    (g.L.Door.faults c.args.door.now) (g.L.Door.faults c.work-status.new.door) c.work-status.ensures.says refl c.work-status.ensures.crew_stands c.work-status.ensures.unhired c.work-status.ensures.unsaid c.work-status.ensures.status)

pub conduct_command-desk-requires-clause-short : goal.conduct_command-desk-requires-clause-short
conduct_command-desk-requires-clause-short g c = λ lives kept. (few_so c.args.asked _ c.in-Conduct.is c.requires.within).short

pub conduct_command-desk-requires-clause-many : goal.conduct_command-desk-requires-clause-many
conduct_command-desk-requires-clause-many g c = λ lives kept.
    let bounds = few_so c.args.asked _ c.in-Conduct.is c.requires.within in
    (bounds.least, bounds.most)

pub returns-in-Conduct-clause-obeys : goal.returns-in-Conduct-clause-obeys
returns-in-Conduct-clause-obeys g c = obeys_so g.K.Desk.state _ _ c.args.asked _ _ _ _ _ _ _ c.in-Conduct.is (c.conduct_command-desk.ensures.conducts, refl)

pub returns-in-Conduct-clause-causes : goal.returns-in-Conduct-clause-causes
returns-in-Conduct-clause-causes g c =
    conducted_causes _ c.conduct_command-desk.result.1 (g.S.Sources.faults c.args.sources.now) (g.S.Sources.faults c.conduct_command-desk.new.sources) (g.W.Crew.faults c.args.crew.now)
    (g.W.Crew.faults c.conduct_command-desk.new.crew) c.conduct_command-desk.ensures.causes c.conduct_command-desk.ensures.unread c.conduct_command-desk.ensures.unhired c.conduct_command-desk.ensures.no_fall

pub returns-in-Conduct-clause-hires : goal.returns-in-Conduct-clause-hires
returns-in-Conduct-clause-hires g c = hires_so c.args.asked _ _ _ c.in-Conduct.is (conducts_hires c.conduct_command-desk.ensures.conducts)

pub serve_command-desk-requires-clause-few : goal.serve_command-desk-requires-clause-few
serve_command-desk-requires-clause-few g c = λ lives kept. few_so c.args.asked _ c.in-Serve.is c.requires.within

pub returns-in-Serve-clause-obeys : goal.returns-in-Serve-clause-obeys
returns-in-Serve-clause-obeys g c = obeys_so g.K.Desk.state _ _ c.args.asked _ _ _ _ _ _ _ c.in-Serve.is (c.serve_command-desk.ensures.serves, refl)

pub returns-in-Serve-clause-door : goal.returns-in-Serve-clause-door
returns-in-Serve-clause-door g c = c.serve_command-desk.ensures.causes.door

pub returns-in-Serve-clause-causes : goal.returns-in-Serve-clause-causes
returns-in-Serve-clause-causes g c =
    listened_so _ _ _ _ _ (λ both. (subst IsWork (sym c.in-Serve.is) both.0, both.1))
    (served_causes c.serve_command-desk.result.1 (g.S.Sources.faults c.args.sources.now) (g.W.Crew.faults c.args.crew.now) (g.L.Door.faults c.args.door.now) (g.L.Door.faults c.serve_command-desk.new.door)
    c.serve_command-desk.ensures.causes (service_status c.serve_command-desk.ensures.serves))

pub returns-in-Serve-clause-hires : goal.returns-in-Serve-clause-hires
returns-in-Serve-clause-hires g c = hires_so c.args.asked _ _ _ c.in-Serve.is refl

pub returns-in-Try-clause-hires : goal.returns-in-Try-clause-hires
returns-in-Try-clause-hires g c = hires_so c.args.asked _ _ _ c.in-Try.is c.try_file.ensures.hires

pub returns-in-Run-clause-hires : goal.returns-in-Run-clause-hires
returns-in-Run-clause-hires g c = hires_so c.args.asked _ _ _ c.in-Run.is c.run_file.ensures.hires

pub returns-in-Resume-clause-hires : goal.returns-in-Resume-clause-hires
returns-in-Resume-clause-hires g c = hires_so c.args.asked _ _ _ c.in-Resume.is c.resume_book.ensures.hires

pub returns-in-Show-clause-hires : goal.returns-in-Show-clause-hires
returns-in-Show-clause-hires g c = hires_so c.args.asked _ _ _ c.in-Show.is refl

pub returns-in-Reset-clause-hires : goal.returns-in-Reset-clause-hires
returns-in-Reset-clause-hires g c = hires_so c.args.asked _ _ _ c.in-Reset.is refl

pub returns-in-Check-clause-hires : goal.returns-in-Check-clause-hires
returns-in-Check-clause-hires g c = hires_so c.args.asked _ _ _ c.in-Check.is refl

pub returns-in-Audit-clause-hires : goal.returns-in-Audit-clause-hires
returns-in-Audit-clause-hires g c = hires_so c.args.asked _ _ _ c.in-Audit.is refl

pub returns-in-Demo-clause-hires : goal.returns-in-Demo-clause-hires
returns-in-Demo-clause-hires g c = hires_so c.args.asked _ _ _ c.in-Demo.is c.demo_book.ensures.hires

pub returns-in-Worker-clause-hires : goal.returns-in-Worker-clause-hires
returns-in-Worker-clause-hires g c = hires_so c.args.asked _ _ _ c.in-Worker.is c.work-status.ensures.hires

pub returns-in-Board-clause-obeys : goal.returns-in-Board-clause-obeys
returns-in-Board-clause-obeys g c = obeys_so g.K.Desk.state _ _ c.args.asked _ _ _ _ _ _ _ c.in-Board.is (c.on_board.ensures.does, refl)

pub returns-in-Board-clause-hires : goal.returns-in-Board-clause-hires
returns-in-Board-clause-hires g c = hires_so c.args.asked _ _ _ c.in-Board.is refl

pub returns-in-Board-clause-causes : goal.returns-in-Board-clause-causes
returns-in-Board-clause-causes g c =
    board_among _ (g.K.Desk.state c.args.desk) (g.K.Desk.state c.on_board.result.desk) (g.S.Sources.faults c.args.sources.now) (g.W.Crew.faults c.args.crew.now) c.on_board.result.status c.on_board.ensures.causes

pub returns-in-Worker-clause-aside : goal.returns-in-Worker-clause-aside
returns-in-Worker-clause-aside g c never = absurd (never (subst IsWork (sym c.in-Worker.is) tt))

pub returns-in-Serve-clause-aside : goal.returns-in-Serve-clause-aside
returns-in-Serve-clause-aside g c never = absurd (never (subst IsWork (sym c.in-Serve.is) tt))
