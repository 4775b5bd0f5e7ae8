-- What holds of the bits that a bus sends: their order where SCL rises, and their numbers, which are those of cuts.
use Rattle.std.specs.Prelude.{◌≡◌, ⊤, ℕ, ◌+◌, Bool, true, not, List, [], ◌∷◌, ◌++◌, Some, flat_map}
use Rattle.std.specs.List.{slice_get}
use Rattle.i3c_base.specs.declared.addresses.Addresses.{Addresses}
use Rattle.i3c_base.specs.declared.device.Setup.{Setup}
use Rattle.i3c_base.specs.declared.requests.Served.{Served}
use Rattle.i3c_base.specs.Cutting.{CutList}
use Rattle.i3c_base.specs.Serve.{IsWordBits, header_bits}
use Rattle.i3c_base.specs.State.{Board, IsStart, State}
use Rattle.i3c_frame.specs.declared.symbols.Symbol.{Symbol}
use Rattle.i3c_step.specs.declared.events.Event.{Event}
use Rattle.i3c_step.specs.declared.replies.Reply.{Reply}
use Rattle.i3c_step.specs.Sound.{IsSound}
use Rattle.i3c_bus.specs.Assigning.{Sends}
use Rattle.i3c_bus.specs.Wire.{IsHandedWire, IsOn, IsOpenWire, IsOwnWire, OfCuts}
use Rattle.i3c_wave.specs.Clocks.{at_bit, clocked_in}
use Rattle.i3c_wave.specs.Levels.{bits_of, high, wire_levels}
use Rattle.i3c_wire_laws.specs.Wires.{AreLegacies, IsSent}

-- the rest of a wire are these symbols: SDA has their bits at those of the frame from this one on
abbrev pub IsSentFrom : Bool → List Symbol → ℕ → List Symbol → Type 0
IsSentFrom sda wire first symbols = (number : ℕ) → at_bit (high sda) (wire_levels wire) (first + number) ≡ slice_get (flat_map bits_of symbols) number

-- the header that a wire begins with, behind a START or a repeated START: its answer is bit 0, and what follows comes from bit 1 on
abbrev pub BeginsAtBit0 : Bool → List Symbol → Type 0
BeginsAtBit0 sda wire = (first : Symbol) (address : ℕ) (read ack : Bool) (rest : List Symbol) → bits_of first ≡ [] → wire ≡ first ∷ Symbol.Header address read ack ∷ rest
    → (at_bit (high sda) (wire_levels wire) 0 ≡ Some (not ack)) × IsSentFrom sda wire 1 rest

-- a frame's own part, which its definition puts behind a number of bits, is sent behind that number; and so is the way to it
-- behind the mandatory word
pub record IsNumberedFrame (sda : Bool) (old : State) (cuts : CutList) (served : Served) (IsOwn : ℕ → List Symbol → Type 0) (wire : List Symbol) : Type 0 where
  pub word : ℕ
  pub on : List Symbol
  pub own : List Symbol
  pub due : IsWordBits old served word
  pub goes : IsOn old cuts served word on
  pub part : IsOwn (word + header_bits served) own
  pub way : IsSentFrom sda wire (1 + word) (on ++ own)
  pub there : IsSentFrom sda wire (1 + (word + header_bits served)) own

-- what an event sends is a numbered frame, if it is a frame with an own part
abbrev pub IsNumbered : Bool → State → Event → Reply → State → List Symbol → Type 0
IsNumbered sda old event (Reply.Framed framed) new wire = OfCuts event (λ cuts. IsNumberedFrame sda old cuts framed.served (IsOwnWire old cuts event framed.answer new) wire)
IsNumbered sda old event (Reply.Opened served) new wire = OfCuts event (λ cuts. IsNumberedFrame sda old cuts served (λ begun. IsOpenWire) wire)
IsNumbered sda old event (Reply.Handed served) new wire = OfCuts event (λ cuts. IsNumberedFrame sda old cuts served (λ begun. IsHandedWire new event) wire)
IsNumbered sda old event reply new wire = ⊤

-- the bits that are clocked in what an event of a sound bus sends are those of its symbols, one after another
abbrev pub EventsSendTheBitsInOrder : Type 0
EventsSendTheBitsInOrder = (legacies : Addresses) (sda : Bool) (old : State) (event : Event) (reply : Reply) (wire : List Symbol) (new : State)
    → IsSound old → AreLegacies old.legacy legacies.0 → Sends old event reply wire new → clocked_in (high sda) (wire_levels wire) ≡ flat_map bits_of wire

-- the bits of an event's symbols have the numbers that its definition and its cuts have for them
abbrev pub EventsSendTheBitsByNumber : Type 0
EventsSendTheBitsByNumber = (legacies : Addresses) (sda : Bool) (old : State) (event : Event) (reply : Reply) (wire : List Symbol) (new : State)
    → IsSound old → AreLegacies old.legacy legacies.0 → Sends old event reply wire new → BeginsAtBit0 sda wire × IsNumbered sda old event reply new wire

-- the bits of a legal run's symbols are clocked in order, also if a session is open at the end
abbrev pub RunsSendTheBitsInOrder : Type 0
RunsSendTheBitsInOrder = (legacies : Addresses) (main : Setup) (board : Board) (start : State) (events : List Event) (replies : List Reply) (new : State) (wire : List Symbol)
    → AreLegacies board.legacy legacies.0 → IsStart main board start → IsSent start events replies new wire → clocked_in (high true) (wire_levels wire) ≡ flat_map bits_of wire
