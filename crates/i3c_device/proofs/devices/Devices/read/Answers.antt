-- One register more, up to the last.
use Rattle.i3c_base.specs.declared.device.TheConstants.{REGISTERS}
use Rattle.i3c_base.specs.State.{with_active}
use Rattle.i3c_device.specs.Reading.{registers_of}
use Rattle.i3c_device.proofs.ReadLaws.{read_all, read_more, read_small}
use Rattle.i3c_device.proofs.RegisterLaws.{registers_read}
use Rattle.i3c_device.proofs.SeenWalks.{read_seen, registers_blind}
use Rattle.i3c_device.proofs.devices.Devices.read.Goals as goal

pub loop-index-preserved : goal.loop-index-preserved
loop-index-preserved c =
    read_more registers_of REGISTERS c.targets-targets.result c.args.cuts.now c.args.first c.self.inside.occupants c.loop-index.index c.byte_of.result c.loop-index.byte-items c.loop-index-test.true c.byte_of.type_inv c.loop-index.invariant
    c.byte_of.ensures

pub returns-clause-read : goal.returns-clause-read
returns-clause-read c =
    read_seen registers_of registers_blind c.self.inside.enabled c.self.inside.occupants c.args.self.now REGISTERS c.args.active c.args.address c.args.cuts.now c.args.first c.loop-index.byte-items c.self.view_is
    (read_all registers_of REGISTERS (with_active c.self.inside.occupants c.args.active) c.args.address c.targets-targets.result c.args.cuts.now c.args.first c.loop-index.index c.loop-index.byte-items c.targets-targets.ensures.slots c.targets-targets.ensures.there
    c.loop-index-test.false c.loop-index.invariant)

pub returns-clause-bytes : goal.returns-clause-bytes
returns-clause-bytes c =
    read_small registers_of REGISTERS c.targets-targets.result c.args.cuts.now c.args.first c.self.inside.occupants c.loop-index.index c.loop-index.byte-items c.loop-index-test.false c.loop-index.invariant

pub returns-then-is_uncut-clause-read : goal.returns-then-is_uncut-clause-read
returns-then-is_uncut-clause-read c =
    read_seen registers_of registers_blind c.self.inside.enabled c.self.inside.occupants c.args.self.now REGISTERS c.args.active c.args.address c.args.cuts.now c.args.first c.registers_of.result c.self.view_is
    (registers_read (with_active c.self.inside.occupants c.args.active) c.args.address c.targets-targets.result c.args.cuts.now c.args.first c.registers_of.result c.targets-targets.ensures.slots c.targets-targets.ensures.there
    (c.is_uncut.ensures.0 c.if-is_uncut.true) c.registers_of.ensures.each)
