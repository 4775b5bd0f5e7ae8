-- The answer to a target's header on the lines, and its bit in the frame.
use Rattle.std.specs.Prelude.{◌≡◌, ◌↔◌, ⊤, ℕ, ◌+◌, Bool, true, not, List, Some}
use Rattle.i3c_base.specs.declared.addresses.Addresses.{Addresses}
use Rattle.i3c_base.specs.Cutting.{CutList, lost_by}
use Rattle.i3c_base.specs.Frames.{SomeLeftAt, SomeUnaddressedLeftAt}
use Rattle.i3c_base.specs.Serve.{IsWordBits, header_bits}
use Rattle.i3c_base.specs.State.{State}
use Rattle.i3c_handoff.specs.Offers.{SomeTakes}
use Rattle.i3c_xfer.specs.Transfers.{AnyAnswers}
use Rattle.i3c_frame.specs.declared.symbols.Symbol.{Symbol}
use Rattle.i3c_step.specs.declared.events.Event.{Event}
use Rattle.i3c_step.specs.declared.events.Event.TheVariants.{Enec, Disec, ReadFrom, WriteTo, SetStatic, SetNew, Get, SetLength, HandOver}
use Rattle.i3c_step.specs.declared.replies.Reply.{Reply}
use Rattle.i3c_step.specs.Sound.{IsSound}
use Rattle.i3c_bus.specs.Assigning.{Sends}
use Rattle.i3c_bus.specs.Wire.{OfCuts}
use Rattle.i3c_wave.specs.Clocks.{at_bit}
use Rattle.i3c_wave.specs.Levels.{high, wire_levels}
use Rattle.i3c_wire_laws.specs.Wires.{AreLegacies}

-- this bit is an answer: SDA is low there exactly if somebody gives it, and otherwise high
abbrev pub IsAnsweredAt : Bool → List Symbol → ℕ → Type 0 → Type 0
IsAnsweredAt sda wire bit Somebody = (ack : Bool) × (at_bit (high sda) (wire_levels wire) bit ≡ Some (not ack)) × ((ack ≡ true) ↔ Somebody)

-- the answer to a target's header in a frame's own part, with `begun` bits of the frame before it: a device that isn't lost
-- by its bit gives it
abbrev pub TargetAnswers : Bool → State → CutList → Event → ℕ → List Symbol → Type 0
TargetAnswers sda old cuts (Enec (Some a) kinds policy others) begun wire = IsAnsweredAt sda wire (begun + 18) (SomeLeftAt old a (lost_by cuts (begun + 18)))
TargetAnswers sda old cuts (Disec (Some a) kinds policy others) begun wire = IsAnsweredAt sda wire (begun + 18) (SomeLeftAt old a (lost_by cuts (begun + 18)))
TargetAnswers sda old cuts (SetStatic f to policy others) begun wire = IsAnsweredAt sda wire (begun + 18) (SomeUnaddressedLeftAt old f (lost_by cuts (begun + 18)))
TargetAnswers sda old cuts (SetNew a to policy others) begun wire = IsAnsweredAt sda wire (begun + 18) (SomeLeftAt old a (lost_by cuts (begun + 18)))
TargetAnswers sda old cuts (Get what a policy others) begun wire = IsAnsweredAt sda wire (begun + 18) (SomeLeftAt old a (lost_by cuts (begun + 18)))
TargetAnswers sda old cuts (SetLength way most (Some a) policy others) begun wire = IsAnsweredAt sda wire (begun + 18) (SomeLeftAt old a (lost_by cuts (begun + 18)))
TargetAnswers sda old cuts (HandOver to others) begun wire = IsAnsweredAt sda wire (begun + 18) (SomeTakes old to (lost_by cuts (begun + 18)))
TargetAnswers sda old cuts (ReadFrom a policy others) begun wire = IsAnsweredAt sda wire (begun + 9) (AnyAnswers old a (lost_by cuts (begun + 9)))
TargetAnswers sda old cuts (WriteTo a bytes policy others) begun wire = IsAnsweredAt sda wire (begun + 9) (AnyAnswers old a (lost_by cuts (begun + 9)))
TargetAnswers sda old cuts event begun wire = ⊤

-- the answer in what an event sends, if it sends a frame with a target
abbrev pub IsAnswering : Bool → State → Event → Reply → List Symbol → Type 0
IsAnswering sda old event (Reply.Framed framed) wire =
    OfCuts event (λ cuts. (word : ℕ) × IsWordBits old framed.served word × TargetAnswers sda old cuts event (word + header_bits framed.served) wire)
IsAnswering sda old event (Reply.Handed served) wire =
    OfCuts event (λ cuts. (word : ℕ) × IsWordBits old served word × TargetAnswers sda old cuts event (word + header_bits served) wire)
IsAnswering sda old event reply wire = ⊤

-- on the lines of a sound bus, the answer of each frame's target is at its bit
abbrev pub TargetsAnswerAtTheirBits : Type 0
TargetsAnswerAtTheirBits = (legacies : Addresses) (sda : Bool) (old : State) (event : Event) (reply : Reply) (wire : List Symbol) (new : State)
    → IsSound old → AreLegacies old.legacy legacies.0 → Sends old event reply wire new → IsAnswering sda old event reply wire
