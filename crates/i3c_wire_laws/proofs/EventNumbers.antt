-- The bits of what each event sends, by their numbers.
use Rattle.std.proofs.Common.{◌≡◌, Bool, List, inl, inr, ap, refl, sym, subst}
use Rattle.i3c_base.specs.State.{State}
use Rattle.i3c_frame.specs.declared.symbols.Symbol.{Symbol}
use Rattle.i3c_base.specs.declared.kinds.Change.{Change}
use Rattle.i3c_step.specs.declared.events.Event.{Event}
use Rattle.i3c_step.specs.declared.events.Event.TheVariants.{Attach, DropOff, Raise, AskJoin, AskRole, Serve, Enec, Disec, Reset, SendList, ReadFrom, WriteTo, SetStatic, SetNew, Get, SetLength, OpenDaa, Round, EndDaa, HandOver}
use Rattle.i3c_step.specs.declared.replies.Reply.{Reply}
use Rattle.i3c_step.specs.Step.{Acts, Step}
use Rattle.i3c_step.proofs.Slots.{records_rekinds}
use Rattle.i3c_step.proofs.Steps.{IsIdle, refused, short, step_cases}
use Rattle.i3c_step.proofs.Transfers.{gets_keep, lengths_keep, news_keep, reads_keep, statics_keep, writes_keep}
use Rattle.i3c_bus.specs.Wire.{IsDeclinedPart, IsGetPart, IsHandedWire, IsKindsPart, IsLengthPart, IsListPart, IsNewPart, IsOpenWire, IsReadPart, IsResetWire, IsStaticPart, IsWire, IsWritePart}
use Rattle.i3c_wave.specs.Clocks.{AreOfFrames}
use Rattle.i3c_wire_laws.specs.Numbers.{IsNumbered}
use Rattle.i3c_wire_laws.proofs.FrameNumbers.{frame_numbered}

-- what leaves the records
abbrev KeepsRecords : State → State → Type 0
KeepsRecords mid done = done.records ≡ mid.records

acts_numbered : (inside sda : Bool) (old : State) (event : Event) (reply : Reply) (new : State) (wire : List Symbol) → AreOfFrames inside wire → Acts old event reply new
    → IsWire old event reply new wire → IsNumbered sda old event reply new wire
acts_numbered inside sda old (Attach s setup) reply new wire framed h w = subst (λ r. IsNumbered sda old (Attach s setup) r new wire) (sym h.0) tt
acts_numbered inside sda old (DropOff s) reply new wire framed h w = subst (λ r. IsNumbered sda old (DropOff s) r new wire) (sym h.0) tt
acts_numbered inside sda old (Raise s byte) reply new wire framed h w = subst (λ r. IsNumbered sda old (Raise s byte) r new wire) (sym h.0) tt
acts_numbered inside sda old (AskJoin s) reply new wire framed h w = subst (λ r. IsNumbered sda old (AskJoin s) r new wire) (sym h.0) tt
acts_numbered inside sda old (AskRole s) reply new wire framed h w = subst (λ r. IsNumbered sda old (AskRole s) r new wire) (sym h.0) tt
acts_numbered inside sda old (Serve policy cuts) reply new wire framed h w = subst (λ r. IsNumbered sda old (Serve policy cuts) r new wire) (sym h.1) tt
acts_numbered inside sda old (Enec to kinds policy cuts) reply new wire framed h w =
    subst (λ r. IsNumbered sda old (Enec to kinds policy cuts) r new wire) (sym h.1)
    (frame_numbered inside sda old policy cuts h.0.served _ _ new (IsKindsPart old cuts Change.Enable to kinds h.0.answer) wire framed h.2 (records_rekinds to _ _)
    (subst (λ r. IsWire old (Enec to kinds policy cuts) r new wire) h.1 w))
acts_numbered inside sda old (Disec to kinds policy cuts) reply new wire framed h w =
    subst (λ r. IsNumbered sda old (Disec to kinds policy cuts) r new wire) (sym h.1)
    (frame_numbered inside sda old policy cuts h.0.served _ _ new (IsKindsPart old cuts Change.Disable to kinds h.0.answer) wire framed h.2 (records_rekinds to _ _)
    (subst (λ r. IsWire old (Disec to kinds policy cuts) r new wire) h.1 w))
acts_numbered inside sda old (Reset policy cuts) reply new wire framed h w =
    subst (λ r. IsNumbered sda old (Reset policy cuts) r new wire) (sym h.1)
    (frame_numbered inside sda old policy cuts h.0 _ _ new (λ bits own. IsResetWire own) wire framed h.2 (λ lost mid done e. ap (λ (st : State). st.records) e)
    (subst (λ r. IsWire old (Reset policy cuts) r new wire) h.1 w))
acts_numbered inside sda old (SendList policy cuts) reply new wire framed h w =
    subst (λ r. IsNumbered sda old (SendList policy cuts) r new wire) (sym h.1)
    (frame_numbered inside sda old policy cuts h.0 _ _ new (λ bits own. IsListPart old own) wire framed h.2 (λ lost mid done e. ap (λ (st : State). st.records) e)
    (subst (λ r. IsWire old (SendList policy cuts) r new wire) h.1 w))
acts_numbered inside sda old (ReadFrom a policy cuts) reply new wire framed h w =
    subst (λ r. IsNumbered sda old (ReadFrom a policy cuts) r new wire) (sym h.1)
    (frame_numbered inside sda old policy cuts h.0.served _ _ new (IsReadPart old cuts a h.0.answer) wire framed h.2 (reads_keep KeepsRecords (λ st. refl) a h.0.answer)
    (subst (λ r. IsWire old (ReadFrom a policy cuts) r new wire) h.1 w))
acts_numbered inside sda old (WriteTo a bytes policy cuts) reply new wire framed h w =
    subst (λ r. IsNumbered sda old (WriteTo a bytes policy cuts) r new wire) (sym h.1)
    (frame_numbered inside sda old policy cuts h.0.served _ _ new (IsWritePart old cuts a bytes.items h.0.answer) wire framed h.2 (writes_keep KeepsRecords a bytes.items (λ st. refl) (λ st. refl) h.0.answer)
    (subst (λ r. IsWire old (WriteTo a bytes policy cuts) r new wire) h.1 w))
acts_numbered inside sda old (SetStatic f to policy cuts) reply new wire framed h w =
    subst (λ r. IsNumbered sda old (SetStatic f to policy cuts) r new wire) (sym h.1)
    (frame_numbered inside sda old policy cuts h.0.served _ _ new (IsStaticPart old cuts f to h.0.answer) wire framed h.2 (statics_keep KeepsRecords f to (λ st. refl) (λ i st. refl) h.0.answer)
    (subst (λ r. IsWire old (SetStatic f to policy cuts) r new wire) h.1 w))
acts_numbered inside sda old (SetNew a to policy cuts) reply new wire framed h w =
    subst (λ r. IsNumbered sda old (SetNew a to policy cuts) r new wire) (sym h.1)
    (frame_numbered inside sda old policy cuts h.0.served _ _ new (IsNewPart old cuts a to h.0.answer) wire framed h.2 (news_keep KeepsRecords a to (λ st. refl) (λ st. refl) h.0.answer)
    (subst (λ r. IsWire old (SetNew a to policy cuts) r new wire) h.1 w))
acts_numbered inside sda old (Get what a policy cuts) reply new wire framed h w =
    subst (λ r. IsNumbered sda old (Get what a policy cuts) r new wire) (sym h.1)
    (frame_numbered inside sda old policy cuts h.0.served _ _ new (IsGetPart old cuts what a h.0.answer new) wire framed h.2 (gets_keep KeepsRecords (λ st. refl) what a h.0.answer)
    (subst (λ r. IsWire old (Get what a policy cuts) r new wire) h.1 w))
acts_numbered inside sda old (SetLength way most to policy cuts) reply new wire framed h w =
    subst (λ r. IsNumbered sda old (SetLength way most to policy cuts) r new wire) (sym h.1)
    (frame_numbered inside sda old policy cuts h.0.served _ _ new (IsLengthPart old cuts way to most h.0.answer) wire framed h.2 (lengths_keep KeepsRecords to way most (λ st. refl) (λ st. refl) h.0.answer)
    (subst (λ r. IsWire old (SetLength way most to policy cuts) r new wire) h.1 w))
acts_numbered inside sda old (OpenDaa cuts) reply new wire framed h w =
    subst (λ r. IsNumbered sda old (OpenDaa cuts) r new wire) (sym h.1)
    (frame_numbered inside sda old _ cuts h.0 _ _ new (λ bits own. IsOpenWire own) wire framed h.2 (λ lost mid done e. ap (λ (st : State). st.records) e)
    (subst (λ r. IsWire old (OpenDaa cuts) r new wire) h.1 w))
acts_numbered inside sda old (HandOver to cuts) reply new wire framed h w = elim h [
  | inl g ↦ subst (λ r. IsNumbered sda old (HandOver to cuts) r new wire) (sym g.1)
      (frame_numbered inside sda old _ cuts g.0 _ _ new (λ bits own. IsHandedWire new (HandOver to cuts) own) wire framed g.2 (λ lost mid done e. ap (λ (st : State). st.records) e.4)
      (subst (λ r. IsWire old (HandOver to cuts) r new wire) g.1 w))
  | inr g ↦ subst (λ r. IsNumbered sda old (HandOver to cuts) r new wire) (sym g.2)
      (frame_numbered inside sda old _ cuts g.0 _ _ new (IsDeclinedPart old cuts to new) wire framed g.4 (λ lost mid done e. ap (λ (st : State). st.records) e.1)
      (subst (λ r. IsWire old (HandOver to cuts) r new wire) g.2 w))
]
acts_numbered inside sda old (Round cuts) reply new wire framed h w = subst (λ r. IsNumbered sda old (Round cuts) r new wire) (sym h.1) tt
acts_numbered inside sda old EndDaa reply new wire framed h w = subst (λ r. IsNumbered sda old EndDaa r new wire) (sym h.0) tt

idle_numbered : (sda : Bool) (old : State) (event : Event) (reply : Reply) (new : State) (wire : List Symbol) → IsIdle reply → IsNumbered sda old event reply new wire
idle_numbered sda old event reply new wire (refused why r) = subst (λ x. IsNumbered sda old event x new wire) (sym r) tt
idle_numbered sda old event reply new wire (short r) = subst (λ x. IsNumbered sda old event x new wire) (sym r) tt

-- what a step sends
pub step_numbered : (inside sda : Bool) (old : State) (event : Event) (reply : Reply) (new : State) (wire : List Symbol) → AreOfFrames inside wire → Step old event reply new
    → IsWire old event reply new wire → IsNumbered sda old event reply new wire
step_numbered inside sda old event reply new wire framed h w =
    step_cases old event reply new h (λ idle e. idle_numbered sda old event reply new wire idle) (λ free acts. acts_numbered inside sda old event reply new wire framed acts w)
