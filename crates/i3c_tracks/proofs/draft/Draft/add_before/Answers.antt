-- A line makes the bus.
use Rattle.std.proofs.Common.{◌∙◌, ap, subst, sym}
use Rattle.i3c_tracks.specs.declared.draft.Draft.{Draft}
use Rattle.i3c_tracks.specs.declared.front.Front.{Front}
use Rattle.i3c_tracks.specs.Drafting.{Begins}
use Rattle.i3c_tracks.proofs.Reading.{read_begun, read_declared}
use Rattle.i3c_tracks.proofs.draft.Draft.add_before.Goals as goal

pub returns-in-Some : goal.returns-in-Some
returns-in-Some c =
    let old = c.args.self.now in
    let command = c.args.command.now in
    let made = rw c.in-Some.is at c.in_ok-start.ensures in
    let begun = c.begin.ensures in
    read_begun old c.begin.new.self c.args.number command begun.0 c.requires (ap (λ (d : Draft). d.body) begun.1) (ap (λ (d : Draft). d.before.items) begun.1 ∙ c.in_ok-push.ensures.items) (subst (λ (f : Front). Begins old.front c.args.number command f begun.0.start) (sym (ap (λ (d : Draft). d.front) begun.1)) (subst (Begins old.front c.args.number command c.obey.new.self) (sym begun.2) made)) begun.3

pub returns-in-None : goal.returns-in-None
returns-in-None c =
    let old = c.args.self.now in
    let declares = rw c.in-None.is at c.in_ok-start.ensures in
    read_declared old (record old { before = c.push.new.self; front = c.obey.new.self }) c.args.number c.args.command.now c.requires c.requires c.in_ok-push.ensures.items declares
