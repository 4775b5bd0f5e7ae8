use Rattle.i3c_base.specs.declared.device.TheConstants.{REGISTERS}
use Rattle.i3c_device.specs.Reading.{registers_of}
use Rattle.i3c_device.proofs.ReadLaws.{ReadSoFar}
use Rattle.i3c_device.proofs.devices.Devices.read.Given as goal

-- the registers so far are read
abbrev pub invariant-loop-index : goal.invariant-loop-index
invariant-loop-index l = ReadSoFar registers_of REGISTERS l.targets l.cuts l.first l.self-inside.occupants l.index l.byte-items
