-- Kinds are changed by words.
use Rattle.std.proofs.Common.{◌∙◌, if◌then◌else◌, ap, sym}
use Rattle.i3c_base.specs.Frames.{changed_kinds}
use Rattle.i3c_device.specs.Enabling.{kinds_in}
use Rattle.i3c_device.specs.Sets.{has}
use Rattle.i3c_device.proofs.SeenWalks.{kinds_heard, unseen_slots}
use Rattle.i3c_device.proofs.devices.Devices.change_kinds.Goals as goal
use Rattle.i3c_device.proofs.devices.Devices.change_kinds.Goals.{in-Enable, in-Disable}

pub returns : goal.returns
returns c active to reached =
    kinds_heard c.self.inside.enabled c.match-change.self (changed_kinds c.args.change c.args.kinds) active to c.args.reached c.self.inside.occupants c.args.self.now
    (unseen_slots c.self.inside.enabled c.self.inside.occupants c.args.self.now c.requires c.self.view_is) c.self.view_is reached (λ s l. elim c.match-change.branch [
      | in-Enable w ↦
          ap (λ e. kinds_in e s) w.self-is
          ∙ (w.with-self-inside.ensures s l
          ∙ ap (λ change. if has c.args.reached s then changed_kinds change c.args.kinds (kinds_in c.self.inside.enabled s) else kinds_in c.self.inside.enabled s) (sym w.in-Enable.is))
      | in-Disable w ↦
          ap (λ e. kinds_in e s) w.self-is
          ∙ (w.without-self-inside.ensures s l
          ∙ ap (λ change. if has c.args.reached s then changed_kinds change c.args.kinds (kinds_in c.self.inside.enabled s) else kinds_in c.self.inside.enabled s) (sym w.in-Disable.is))
    ])
