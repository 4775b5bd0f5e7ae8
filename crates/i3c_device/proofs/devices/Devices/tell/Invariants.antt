use Rattle.i3c_base.specs.Frames.{told_bytes}
use Rattle.i3c_device.specs.declared.attached.TheConstants.{LONGEST}
use Rattle.i3c_device.proofs.ReadLaws.{ReadSoFar}
use Rattle.i3c_device.proofs.devices.Devices.tell.Given as goal

-- the bytes so far are told
abbrev pub invariant-loop-index : goal.invariant-loop-index
invariant-loop-index l = ReadSoFar (told_bytes l.fn.what) LONGEST l.targets l.cuts l.first l.self-inside.occupants l.index l.bytes
