-- What asking an address for a datum comes to.
use Rattle.std.specs.Prelude.{◌≡◌, ℕ, Bool, true, false, ⊤, ◌<◌, List, All, length}
use Rattle.i3c_base.specs.declared.answers.Answer.{Answer}
use Rattle.i3c_base.specs.declared.datum.Datum.{Datum}
use Rattle.i3c_base.specs.Cutting.{CutList}
use Rattle.i3c_base.specs.Frames.{told_bytes}
use Rattle.i3c_base.specs.State.{State}
use Rattle.i3c_xfer.specs.declared.answers.Get.{Get}
use Rattle.i3c_xfer.specs.Transfers.{AreDrivenBy}

-- the answer that it is
abbrev pub get_answer : ℕ → Get → Answer
get_answer to Get.Nobody = Answer.NoAnswer to
get_answer to (Get.Ended bytes) = Answer.Bytes bytes
get_answer to (Get.Torn bytes) = Answer.NoEnd

-- the header is acknowledged
abbrev pub is_get_acknowledged : Get → Bool
is_get_acknowledged Get.Nobody = false
is_get_acknowledged _ = true

-- `count` bytes of a datum as the devices at an address drive them, the first bit of all at bit `first` of the frame
abbrev pub AreTold : State → Datum → ℕ → ℕ → CutList → ℕ → List ℕ → Type 0
AreTold st what count a cuts first bytes = AreDrivenBy (told_bytes what) count st a cuts first bytes × (length bytes ≡ count) × All (λ byte. byte < 256) bytes

-- which bytes were read, if any
abbrev pub IsToldAs : State → Datum → ℕ → ℕ → CutList → ℕ → Get → Type 0
IsToldAs st what count a cuts first Get.Nobody = ⊤
IsToldAs st what count a cuts first (Get.Ended bytes) = AreTold st what count a cuts first bytes
IsToldAs st what count a cuts first (Get.Torn bytes) = AreTold st what count a cuts first bytes
