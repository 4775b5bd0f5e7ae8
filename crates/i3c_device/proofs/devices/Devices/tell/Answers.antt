-- One byte more, up to the last that is asked for; then these are told.
use Rattle.std.proofs.Common.{◌<◌, ◌≤◌, All, arith, length, subst, sym, take}
use Rattle.i3c_base.specs.Frames.{told_bytes}
use Rattle.i3c_base.specs.State.{with_active}
use Rattle.i3c_device.specs.declared.attached.TheConstants.{LONGEST}
use Rattle.i3c_device.specs.Reading.{AreToldOf}
use Rattle.i3c_device.proofs.ReadLaws.{read_counted, read_more, small_counted}
use Rattle.i3c_device.proofs.SeenWalks.{read_seen, told_blind}
use Rattle.i3c_device.proofs.devices.Devices.tell.Goals as goal

pub loop-index-preserved : goal.loop-index-preserved
loop-index-preserved c =
    let low : c.loop-index.index < LONGEST = omega (arith, c.loop-index-test.true, c.requires.few) in
    read_more (told_bytes c.args.what) LONGEST c.targets-targets.result c.args.cuts.now c.args.first c.self.inside.occupants c.loop-index.index c.byte_of.result c.loop-index.bytes low c.byte_of.type_inv c.loop-index.invariant
    c.byte_of.ensures

pub returns-clause-told : goal.returns-clause-told
returns-clause-told c =
    let enough : c.args.count ≤ LONGEST = omega (arith, c.requires.few) in
    let past : c.args.count ≤ c.loop-index.index = c.loop-index-test.false in
    subst (λ told. AreToldOf c.args.what (with_active c.args.self.now c.args.active) c.args.address c.args.cuts.now c.args.first told) (sym c.new.ensures)
    (read_seen (told_bytes c.args.what) (told_blind c.args.what) c.self.inside.enabled c.self.inside.occupants c.args.self.now (length (take c.args.count c.loop-index.bytes)) c.args.active c.args.address c.args.cuts.now c.args.first
    (take c.args.count c.loop-index.bytes) c.self.view_is
    (read_counted (told_bytes c.args.what) LONGEST c.args.count (with_active c.self.inside.occupants c.args.active) c.args.address c.targets-targets.result c.args.cuts.now c.args.first c.loop-index.index c.loop-index.bytes
    c.targets-targets.ensures.slots c.targets-targets.ensures.there past enough c.loop-index.invariant))

pub returns-clause-bytes : goal.returns-clause-bytes
returns-clause-bytes c =
    let enough : c.args.count ≤ LONGEST = omega (arith, c.requires.few) in
    subst (All (λ byte. byte < 256)) (sym c.new.ensures)
    (small_counted (told_bytes c.args.what) LONGEST c.args.count c.targets-targets.result c.args.cuts.now c.args.first c.self.inside.occupants c.loop-index.index c.loop-index.bytes c.loop-index-test.false enough c.loop-index.invariant)
