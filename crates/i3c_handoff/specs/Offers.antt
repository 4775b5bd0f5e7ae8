-- The offer of the role to an address.
use Rattle.std.specs.Prelude.{◌≡◌, ℕ, ◌+◌, ◌-◌, ◌<◌, Bool, true, false, ⊤}
use Rattle.std.specs.Int.{bit_at}
use Rattle.i3c_base.specs.Cutting.{CutList, Lost, lost_by}
use Rattle.i3c_base.specs.State.{State}
use Rattle.i3c_base.specs.Frames.{Hands, IsRefusedBits, IsWillingAt, KeepsRole, handed}
use Rattle.i3c_word.specs.Parity.{IsAddressByte}
use Rattle.i3c_handoff.specs.declared.outcome.Offer.{Offer}
use Rattle.i3c_handoff.specs.declared.outcome.Offer.TheVariants.{Nobody, Torn, Taken}

-- the bits of a handover: the code and the target's header, and after its ACK the byte
abbrev pub offer_bits : Offer → ℕ
offer_bits Nobody = 18
offer_bits (Torn byte) = 27
offer_bits (Taken s) = 27

-- the target's header is acknowledged
abbrev pub is_acknowledged : Offer → Bool
is_acknowledged Nobody = false
is_acknowledged (Torn byte) = true
is_acknowledged (Taken s) = true

-- some device that would take the role at the address isn't lost
abbrev pub SomeTakes : State → ℕ → Lost → Type 0
SomeTakes st a lost = (s : ℕ) × IsWillingAt st a s × (lost s ≡ false)

-- in a frame that loses these devices the role passes to the slot, or is kept by the active controller
abbrev pub IsOffered : State → ℕ → Lost → Offer → Type 0
IsOffered st a lost (Taken s) = Hands a lost st (handed s a st)
IsOffered st a lost (Torn byte) = KeepsRole a lost st st × IsRefusedBits st a 27
IsOffered st a lost Nobody = KeepsRole a lost st st × IsRefusedBits st a 18

-- a byte as it is read, from this bit of the frame on: the target's address byte as long as a device that would take the role
-- is left to drive it, and ones from there on
abbrev pub IsTornByte : State → ℕ → CutList → ℕ → ℕ → Type 0
IsTornByte st a cuts first byte =
    (own : ℕ) × IsAddressByte a own × (byte < 256)
    × ((k : ℕ) → k < 8 → SomeTakes st a (lost_by cuts (first + k)) → bit_at byte (7 - k) ≡ bit_at own (7 - k))
    × ((k : ℕ) → k < 8 → ¬ SomeTakes st a (lost_by cuts (first + k)) → bit_at byte (7 - k) ≡ 1)

-- the byte that was read, where it broke off
abbrev pub IsReadAs : State → ℕ → CutList → ℕ → Offer → Type 0
IsReadAs st a cuts first Nobody = ⊤
IsReadAs st a cuts first (Torn byte) = IsTornByte st a cuts first byte
IsReadAs st a cuts first (Taken s) = ⊤
