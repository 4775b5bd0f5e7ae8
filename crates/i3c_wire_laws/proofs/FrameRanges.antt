-- The numbers in the beginnings of frames.
use Rattle.std.proofs.lemmas.List.{append_cancel_left}
use Rattle.std.proofs.Common.{◌≡◌, ◌∙◌, ℕ, ◌<◌, Bool, true, false, List, [], ◌∷◌, ◌++◌, Option, Some, None, arith, ap, sym, subst}
use Rattle.std.specs.Prelude.{IfSome}
use Rattle.i3c_base.specs.declared.requests.Fixed.{Fixed}
use Rattle.i3c_base.specs.declared.requests.Record.{Record}
use Rattle.i3c_base.specs.declared.requests.Request.{Request}
use Rattle.i3c_base.specs.declared.requests.Request.TheVariants.{Join, Role, Interrupt}
use Rattle.i3c_base.specs.declared.requests.Served.{Served}
use Rattle.i3c_base.specs.declared.requests.Served.TheVariants.{Quiet, Recorded, Refused, Torn, Joining, WantsRole}
use Rattle.i3c_base.specs.Cutting.{CutList, Lost}
use Rattle.i3c_base.specs.Serve.{Frame, IsFirst, Serves}
use Rattle.i3c_base.specs.State.{State}
use Rattle.i3c_frame.specs.declared.symbols.Symbol.{Symbol}
use Rattle.i3c_frame.specs.declared.symbols.Symbol.TheVariants.{Start, Stop}
use Rattle.i3c_ibi.specs.Driving.{IsByteRead}
use Rattle.i3c_ibi.specs.Wire.{byte_word, request_header}
use Rattle.i3c_step.specs.Sound.{Addresses}
use Rattle.i3c_bus.specs.Wire.{IsBegun, IsFrameWire, IsOn, IsServeWire}
use Rattle.i3c_wire_laws.proofs.Addressing.{driver_low}
use Rattle.i3c_wire_laws.proofs.OwnRanges.{AreInRange, ranges_on}

-- the header of the first request
first_fits : (st : State) (r : Request) (ack : Bool) (begun : List Symbol) → Addresses st → IsFirst st r → begun ≡ Start ∷ request_header r ack ∷ [] → AreInRange begun
first_fits st r ack begun known first e = subst AreInRange (sym e) (tt, (driver_low st r first.driven.0 known first.driven.1, tt))

-- the numbers of a read byte fit
byte_fits : (st : State) (cuts : CutList) (a : ℕ) (byte : Option ℕ) → IfSome byte (IsByteRead st cuts a) → AreInRange (byte_word byte)
byte_fits st cuts a None h = tt
byte_fits st cuts a (Some byte) h = (h.small, tt)

-- one record was appended
pub one_record : (records : List Record) (r s : Record) → records ++ r ∷ [] ≡ records ++ s ∷ [] → r ≡ s
one_record records r s e = let same : r ∷ [] ≡ s ∷ [] = append_cancel_left records (r ∷ []) (s ∷ []) e in cc

-- a frame's beginning, where a step served the request and kept the records
begun_fits : (old : State) (cuts : CutList) (policy : Fixed) (lost : Lost) (served : Served) (mid new : State) (begun : List Symbol) → Addresses old → Serves old policy lost served mid
    → new.records ≡ mid.records → IsBegun old cuts served new begun → AreInRange begun
begun_fits old cuts policy lost Quiet mid new begun known serves same h = subst AreInRange (sym h.2) (tt, (omega arith, tt))
begun_fits old cuts policy lost Refused mid new begun known serves same h = first_fits old h.0 false begun known h.1 h.2
begun_fits old cuts policy lost Joining mid new begun known serves same h = first_fits old Join true begun known serves.0 h
begun_fits old cuts policy lost (WantsRole a) mid new begun known serves same h = first_fits old (Role a) true begun known serves.0 h
begun_fits old cuts policy lost (Recorded place) mid new begun known serves same h =
    let one = one_record old.records h.0 _ (sym h.1 ∙ (same ∙ ap (λ (st : State). st.records) serves.left)) in
    let at : serves.at ≡ h.0.at = sym (ap (λ (r : Record). r.at) one) in
    let low : h.0.at < 128 = subst (λ a. a < 128) at (driver_low old (Interrupt serves.at) serves.first.driven.0 known serves.first.driven.1) in
    subst AreInRange (sym h.5) (tt, (low, byte_fits old cuts h.0.at h.0.byte h.4))
begun_fits old cuts policy lost Torn mid new begun known serves same h =
    subst AreInRange (sym h.5) (tt, (driver_low old (Interrupt h.0) h.2.driven.0 known h.2.driven.1, (h.4.small, tt)))

-- the way to its own part
on_fits : (old : State) (cuts : CutList) (served : Served) (word : ℕ) (on : List Symbol) → IsOn old cuts served word on → AreInRange on
on_fits old cuts Quiet word on h = subst AreInRange (sym h) tt
on_fits old cuts Refused word on h = subst AreInRange (sym h.2) (tt, (omega arith, tt))
on_fits old cuts Joining word on h = subst AreInRange (sym h.2) (tt, (omega arith, tt))
on_fits old cuts (WantsRole a) word on h = subst AreInRange (sym h.2) (tt, (omega arith, tt))
on_fits old cuts (Recorded place) word on h = subst AreInRange (sym h.2) (tt, (omega arith, tt))
on_fits old cuts Torn word on h = subst AreInRange (sym h.2) (tt, (omega arith, tt))

-- what a frame leaves of the records, where its own part keeps them
pub records_kept : (old : State) (policy : Fixed) (cuts : CutList) (served : Served) (rest : ℕ) (Own : Lost → State → State → Type 0) (new : State) → (f : Frame old policy cuts served rest Own new)
    → ((lost : Lost) (mid done : State) → Own lost mid done → done.records ≡ mid.records) → new.records ≡ f.mid.records
records_kept old policy cuts served rest Own new f own = ap (λ (st : State). st.records) f.left ∙ own _ f.mid f.done f.own

-- a whole frame, by its own part
pub frame_fits : (old : State) (policy : Fixed) (cuts : CutList) (served : Served) (rest : ℕ) (Own : Lost → State → State → Type 0) (new : State) (IsOwn : ℕ → List Symbol → Type 0) (wire : List Symbol)
    → Addresses old → Frame old policy cuts served rest Own new → ((lost : Lost) (mid done : State) → Own lost mid done → done.records ≡ mid.records)
    → ((bits : ℕ) (own : List Symbol) → IsOwn bits own → AreInRange own) → IsFrameWire old cuts served new IsOwn wire → AreInRange wire
frame_fits old policy cuts served rest Own new IsOwn wire known f keeps owns h =
    let begun = begun_fits old cuts policy _ served f.mid new h.0 known f.serves (records_kept old policy cuts served rest Own new f keeps) h.4 in
    subst AreInRange (sym h.8) (ranges_on (h.0 ++ h.2) h.3 (ranges_on h.0 h.2 begun (on_fits old cuts served h.1 h.2 h.6)) (owns _ h.3 h.7))

pub serve_fits : (old : State) (policy : Fixed) (cuts : CutList) (served : Served) (rest : ℕ) (Own : Lost → State → State → Type 0) (new : State) (wire : List Symbol)
    → Addresses old → Frame old policy cuts served rest Own new → ((lost : Lost) (mid done : State) → Own lost mid done → done.records ≡ mid.records)
    → IsServeWire old cuts served new wire → AreInRange wire
serve_fits old policy cuts served rest Own new wire known f keeps h =
    let begun = begun_fits old cuts policy _ served f.mid new h.0 known f.serves (records_kept old policy cuts served rest Own new f keeps) h.1 in
    subst AreInRange (sym h.2) (ranges_on h.0 (Stop ∷ []) begun (tt, tt))
