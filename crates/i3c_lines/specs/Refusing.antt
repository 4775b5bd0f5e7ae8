-- Refusals as they are printed.
use Rattle.std.specs.Prelude.{ℕ, List, [], ◌++◌, codes}
use Rattle.i3c_step.specs.declared.replies.Refusal.{Refusal as BusRefusal}
use Rattle.i3c_legacy.specs.declared.faults.DeclareFault.{DeclareFault}
use Rattle.i3c_legacy.specs.declared.faults.LegacyFault.{LegacyFault}
use Rattle.i3c_lines.specs.declared.refusals.Refusal.{Refusal}
use Rattle.i3c_text.specs.Hex.{byte_text}

-- the name of a refused declaration of a legacy target
abbrev pub legacy_token : LegacyFault → List ℕ
legacy_token LegacyFault.LegacyAddress = codes "LegacyAddress"
legacy_token LegacyFault.LegacyTwice = codes "LegacyTwice"
legacy_token LegacyFault.TooManyLegacy = codes "TooManyLegacy"

-- the name of a refused declaration of an identity
abbrev pub declare_token : DeclareFault → List ℕ
declare_token DeclareFault.LegacyAddress = codes "LegacyAddress"
declare_token DeclareFault.LegacyTwice = codes "LegacyTwice"
declare_token DeclareFault.IdentityTwice = codes "IdentityTwice"
declare_token DeclareFault.TooManyDeclared = codes "TooManyDeclared"

-- the name of a refusal of the bus
abbrev pub bus_token : BusRefusal → List ℕ
bus_token BusRefusal.SessionOpen = codes "SessionOpen"
bus_token BusRefusal.NoSession = codes "NoSession"
bus_token BusRefusal.ActiveStays = codes "ActiveStays"
bus_token BusRefusal.SlotTaken = codes "SlotTaken"
bus_token BusRefusal.NoDevice = codes "NoDevice"
bus_token BusRefusal.IsActive = codes "IsActive"
bus_token BusRefusal.NoAddress = codes "NoAddress"
bus_token BusRefusal.HasAddress = codes "HasAddress"
bus_token BusRefusal.NotCapable = codes "NotCapable"
bus_token BusRefusal.ByteMismatch = codes "ByteMismatch"
bus_token BusRefusal.Masked = codes "Masked"
bus_token BusRefusal.Full = codes "Full"
bus_token BusRefusal.ListStale = codes "ListStale"
bus_token (BusRefusal.NoAnswer a) = codes "NoAnswer"
bus_token BusRefusal.TooLong = codes "TooLong"
bus_token (BusRefusal.BadAddress a) = codes "BadAddress"

-- the name of a refusal
abbrev pub refusal_token : Refusal → List ℕ
refusal_token Refusal.BadLine = codes "BadLine"
refusal_token Refusal.NoBus = codes "NoBus"
refusal_token Refusal.BusMade = codes "BusMade"
refusal_token Refusal.NameTaken = codes "NameTaken"
refusal_token Refusal.NoName = codes "NoName"
refusal_token (Refusal.Legacy fault) = legacy_token fault
refusal_token (Refusal.Declare fault) = declare_token fault
refusal_token (Refusal.Bus why) = bus_token why
refusal_token Refusal.NoEnd = codes "NoEnd"
refusal_token Refusal.NotActive = codes "NotActive"

-- the address that a refusal of the bus is about
abbrev pub bus_tail : BusRefusal → List ℕ
bus_tail (BusRefusal.NoAnswer a) = codes " " ++ byte_text a
bus_tail (BusRefusal.BadAddress a) = codes " " ++ byte_text a
bus_tail BusRefusal.SessionOpen = []
bus_tail BusRefusal.NoSession = []
bus_tail BusRefusal.ActiveStays = []
bus_tail BusRefusal.SlotTaken = []
bus_tail BusRefusal.NoDevice = []
bus_tail BusRefusal.IsActive = []
bus_tail BusRefusal.NoAddress = []
bus_tail BusRefusal.HasAddress = []
bus_tail BusRefusal.NotCapable = []
bus_tail BusRefusal.ByteMismatch = []
bus_tail BusRefusal.Masked = []
bus_tail BusRefusal.Full = []
bus_tail BusRefusal.ListStale = []
bus_tail BusRefusal.TooLong = []

-- the address that a refusal is about
abbrev pub refusal_tail : Refusal → List ℕ
refusal_tail (Refusal.Bus why) = bus_tail why
refusal_tail Refusal.BadLine = []
refusal_tail Refusal.NoBus = []
refusal_tail Refusal.BusMade = []
refusal_tail Refusal.NameTaken = []
refusal_tail Refusal.NoName = []
refusal_tail (Refusal.Legacy fault) = []
refusal_tail (Refusal.Declare fault) = []
refusal_tail Refusal.NoEnd = []
refusal_tail Refusal.NotActive = []

-- a refusal as it is printed
abbrev pub refusal_text : Refusal → List ℕ
refusal_text why = refusal_token why ++ refusal_tail why
