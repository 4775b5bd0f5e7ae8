use Rattle.std.proofs.Common.{Some, refl}
use Rattle.i3c_tracks.specs.declared.file_line.FileLine.{FileLine}
use Rattle.i3c_tracks.specs.Drafting.{ReadsOn}
use Rattle.i3c_tracks.proofs.Reading.{on_ok, read_behind}
use Rattle.i3c_tracks.proofs.draft.Draft.add_command.Goals as goal

pub returns-in-Some : goal.returns-in-Some
returns-in-Some c =
    let old = c.args.self.now in
    let later = c.add_command.new.self in
    on_ok c.add_command.result (λ (on : ReadsOn c.in-Some.body (c.args.number, FileLine.Does c.args.command) later). read_behind old (record old { body = Some later }) c.in-Some.body later (c.args.number, FileLine.Does c.args.command) c.in-Some.is refl refl refl c.requires on) c.add_command.ensures
