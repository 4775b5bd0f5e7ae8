-- The bytes that a frame read, as they are kept: in an array, with 00 behind them.
use Rattle.std.proofs.Common.{◌≡◌, ℕ, ◌≤◌, List, ◌++◌, ◌-◌, length, replicate, take, sym, arith}
use Rattle.std.proofs.lemmas.List.{length-take-le}
use Rattle.i3c_base.specs.declared.bytes.Bytes.TheInside.{Inside}
use Rattle.i3c_base.specs.declared.device.TheConstants.{REGISTERS}

-- a list of n bytes: these, and then 00
abbrev pub filled_up : ℕ → List ℕ → List ℕ
filled_up n bytes = bytes ++ replicate (n - length bytes) 0

as_kept : (xs ys : List ℕ) (n m : ℕ) → xs ≡ ys → n ≡ m → ◌≡◌ {A = Inside} (record { bytes = xs; count = n }) (record { bytes = ys; count = m })
as_kept xs ys n m e f = cc

-- what was read says how it is kept
pub bytes_back : (a : Inside) → (length a.bytes ≡ REGISTERS) × (a.count ≤ REGISTERS) × (a.bytes ≡ filled_up REGISTERS (take a.count a.bytes))
    → ◌≡◌ {A = Inside} (record { bytes = filled_up REGISTERS (take a.count a.bytes); count = length (take a.count a.bytes) }) a
bytes_back a h = as_kept (filled_up REGISTERS (take a.count a.bytes)) a.bytes (length (take a.count a.bytes)) a.count (sym h.2) (length-take-le a.count a.bytes (omega (arith, h.0, h.1)))
