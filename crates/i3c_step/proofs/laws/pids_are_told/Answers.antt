-- Each byte is a digit to the base 256, and the digits make up the PID.
use Rattle.std.proofs.Common.{◌<◌, ◌/◌, ◌%◌, ◌^◌, ℕ, List, [], ◌∷◌, All, arith}
use Rattle.std.proofs.lemmas.List.Elements.{All-cons, All-nil}
use Rattle.std.specs.Bool.{⊤}
use Rattle.i3c_base.specs.declared.datum.Datum.{Datum}
use Rattle.i3c_base.specs.Frames.{told_bytes}
use Rattle.i3c_step.proofs.laws.pids_are_told.Goals as goal

-- all of these are digits
abbrev AreDigits : List ℕ → Type 0
AreDigits [] = ⊤
AreDigits (digit ∷ rest) = (digit < 256) × AreDigits rest

all_digits : (digits : List ℕ) → AreDigits digits → All (λ digit. digit < 256) digits
all_digits [] _ = All-nil (λ digit. digit < 256)
all_digits (digit ∷ rest) are = All-cons (λ digit. digit < 256) digit rest are.0 (all_digits rest are.1)

digit_small : (n : ℕ) → n % 256 < 256
digit_small n = omega arith

pub returns : goal.returns
returns c d fits =
    let pid = d.identity.pid in (
      omega (arith, fits.0),
      all_digits (told_bytes Datum.Pid d)
          (digit_small (pid / 2 ^ 40), (digit_small (pid / 2 ^ 32), (digit_small (pid / 2 ^ 24), (digit_small (pid / 2 ^ 16), (digit_small (pid / 2 ^ 8), (digit_small pid, tt)))))),
    )
