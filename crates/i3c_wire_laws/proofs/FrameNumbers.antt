-- The bits of frames by their numbers.
use Rattle.std.proofs.lemmas.List.{length-append}
use Rattle.std.proofs.lemmas.List.Concat.{flat_map-append}
use Rattle.std.proofs.Common.{◌≡◌, ◌∙◌, ℕ, zero, suc, ◌+◌, Bool, true, false, not, List, [], ◌∷◌, ◌++◌, Option, Some, None, is_some, if◌then◌else◌, append_assoc, flat_map, length, arith, ap, refl, sym, subst}
use Rattle.std.specs.List.{slice_get}
use Rattle.i3c_base.specs.declared.requests.Fixed.{Fixed}
use Rattle.i3c_base.specs.declared.requests.Record.{Record}
use Rattle.i3c_base.specs.declared.requests.Request.{Request}
use Rattle.i3c_base.specs.declared.requests.Request.TheVariants.{Join, Role, Interrupt}
use Rattle.i3c_base.specs.declared.requests.Served.{Served}
use Rattle.i3c_base.specs.declared.requests.Served.TheVariants.{Quiet, Recorded, Refused, Torn, Joining, WantsRole}
use Rattle.i3c_base.specs.Cutting.{CutList, Lost}
use Rattle.i3c_base.specs.Serve.{Frame, IsWordBits, Serves, byte_due, header_bits}
use Rattle.i3c_base.specs.State.{State, entry_at}
use Rattle.i3c_word.specs.declared.Word.{Word}
use Rattle.i3c_frame.specs.declared.symbols.Symbol.{Symbol}
use Rattle.i3c_frame.specs.declared.symbols.Symbol.TheVariants.{Start, Header}
use Rattle.i3c_header.specs.Keys.{address_of, is_read}
use Rattle.i3c_ibi.specs.Wire.{byte_word, request_header}
use Rattle.i3c_step.proofs.Uniqueness.{first_unique}
use Rattle.i3c_bus.specs.Wire.{IsBegun, IsFrameWire, IsOn}
use Rattle.i3c_wave.specs.Clocks.{AreOfFrames, at_bit}
use Rattle.i3c_wave.specs.Levels.{bits, bits_of, high, wire_levels}
use Rattle.i3c_wave.proofs.ClockLaws.{answer_first, numbered_on}
use Rattle.i3c_wire_laws.specs.Numbers.{BeginsAtBit0, IsNumberedFrame, IsSentFrom}
use Rattle.i3c_wire_laws.proofs.FrameRanges.{one_record, records_kept}

-- how many bits symbols have
bits_long : (count number : ℕ) → length (bits count number) ≡ count
unfolding bits
bits_long zero number = refl
bits_long (suc count) number = ap suc (bits_long count number)

header_long : (address : ℕ) (read ack : Bool) → length (flat_map bits_of (Header address read ack ∷ [])) ≡ 9
header_long address read ack =
    let whole = length-append (bits 7 address ++ (read ∷ not ack ∷ [])) [] in
    let parts = length-append (bits 7 address) (read ∷ not ack ∷ []) in
    omega (arith, whole, parts, bits_long 7 address)

pub word_long : (word : Word) → length (flat_map bits_of (Symbol.Word word ∷ [])) ≡ 9
word_long word =
    let whole = length-append (bits 8 word.byte ++ word.t ∷ []) [] in
    let parts = length-append (bits 8 word.byte) (word.t ∷ []) in
    omega (arith, whole, parts, bits_long 8 word.byte)

-- the mandatory byte, if there is one, has nine bits
due_long : (byte : Option ℕ) (due : Bool) (bits : ℕ) → is_some byte ≡ due → bits ≡ (if due then 9 else 0) → length (flat_map bits_of (byte_word byte)) ≡ bits
due_long None due bits e h = let same : bits ≡ 0 = subst (λ (b : Bool). bits ≡ (if b then 9 else 0)) (sym e) h in sym same
due_long (Some byte) due bits e h =
    let same : bits ≡ 9 = subst (λ (b : Bool). bits ≡ (if b then 9 else 0)) (sym e) h in word_long (record { byte = byte; t = false }) ∙ sym same

-- a frame's beginning: START, a header, and the mandatory word, together `bits` bits
record BeginsWith (begun : List Symbol) (bits : ℕ) : Type 0 where
  address : ℕ
  read : Bool
  ack : Bool
  word : List Symbol
  is : begun ≡ Start ∷ Header address read ack ∷ word
  long : length (flat_map bits_of word) ≡ bits

begins_by : (r : Request) (ack : Bool) (begun : List Symbol) (bits : ℕ) → begun ≡ Start ∷ request_header r ack ∷ [] → bits ≡ 0 → BeginsWith begun bits
begins_by r ack begun bits e none = record { address = address_of r; read = is_read r; ack = ack; word = []; is = e; long = sym none }

begins_with : (old : State) (cuts : CutList) (policy : Fixed) (lost : Lost) (served : Served) (mid new : State) (begun : List Symbol) (bits : ℕ) → Serves old policy lost served mid
    → new.records ≡ mid.records → IsBegun old cuts served new begun → IsWordBits old served bits → BeginsWith begun bits
begins_with old cuts policy lost Quiet mid new begun bits serves same h w = record { address = 0x7E; read = false; ack = h.0; word = []; is = h.2; long = sym w }
begins_with old cuts policy lost Refused mid new begun bits serves same h w = begins_by h.0 false begun bits h.2 w
begins_with old cuts policy lost Joining mid new begun bits serves same h w = begins_by Join true begun bits h w
begins_with old cuts policy lost (WantsRole a) mid new begun bits serves same h w = begins_by (Role a) true begun bits h w
begins_with old cuts policy lost (Recorded place) mid new begun bits serves same h w =
    let one = one_record old.records h.0 _ (sym h.1 ∙ (same ∙ ap (λ (st : State). st.records) serves.left)) in
    let at : h.0.at ≡ serves.at = ap (λ (r : Record). r.at) one in
    let first : Interrupt serves.at ≡ Interrupt w.0 = first_unique old (Interrupt serves.at) (Interrupt w.0) serves.first w.1 in
    let there : h.0.at ≡ w.0 = cc in
    let due : is_some h.0.byte ≡ byte_due (entry_at old w.0) = subst (λ a. is_some h.0.byte ≡ byte_due (entry_at old a)) there h.2 in
    record { address = h.0.at; read = true; ack = true; word = byte_word h.0.byte; is = h.5; long = due_long h.0.byte (byte_due (entry_at old w.0)) bits due w.2 }
begins_with old cuts policy lost Torn mid new begun bits serves same h w =
    record { address = h.0; read = true; ack = true; word = Symbol.Word (record { byte = h.1; t = true }) ∷ []; is = h.5; long = word_long (record { byte = h.1; t = true }) ∙ sym w }

-- the way to the own part has the bits of its header
on_long : (old : State) (cuts : CutList) (served : Served) (word : ℕ) (on : List Symbol) → IsOn old cuts served word on → length (flat_map bits_of on) ≡ header_bits served
on_long old cuts Quiet word on h = ap (λ symbols. length (flat_map bits_of symbols)) h
on_long old cuts Refused word on h = ap (λ symbols. length (flat_map bits_of symbols)) h.2 ∙ header_long 0x7E false h.0
on_long old cuts Joining word on h = ap (λ symbols. length (flat_map bits_of symbols)) h.2 ∙ header_long 0x7E false h.0
on_long old cuts (WantsRole a) word on h = ap (λ symbols. length (flat_map bits_of symbols)) h.2 ∙ header_long 0x7E false h.0
on_long old cuts (Recorded place) word on h = ap (λ symbols. length (flat_map bits_of symbols)) h.2 ∙ header_long 0x7E false h.0
on_long old cuts Torn word on h = ap (λ symbols. length (flat_map bits_of symbols)) h.2 ∙ header_long 0x7E false h.0

-- a bit behind others
past_front : (front more : List Bool) (i number : ℕ) → i ≡ length front + number → slice_get (front ++ more) i ≡ slice_get more number
past_front [] more i number e = let same : i ≡ number = omega (arith, e) in ap (slice_get more) same
past_front (b ∷ front) more zero number e = absurd (omega (arith, e))
past_front (b ∷ front) more (suc i) number e = past_front front more i number (omega (arith, e))

-- the symbols behind some of those that are sent
pub sent_later : (sda : Bool) (wire front more : List Symbol) (first bits to : ℕ) → IsSentFrom sda wire first (front ++ more) → length (flat_map bits_of front) ≡ bits → to ≡ first + bits
    → IsSentFrom sda wire to more
sent_later sda wire front more first bits to sent long e number =
    let same : to + number ≡ first + (bits + number) = omega (arith, e) in
    ap (at_bit (high sda) (wire_levels wire)) same ∙ sent (bits + number)
    ∙ ap (λ bs. slice_get bs (bits + number)) (flat_map-append bits_of front more)
    ∙ past_front (flat_map bits_of front) (flat_map bits_of more) (bits + number) number (omega (arith, long))

-- what a wire begins with
pub begins_at_0 : (inside sda : Bool) (wire : List Symbol) → AreOfFrames inside wire → BeginsAtBit0 sda wire
begins_at_0 inside sda wire framed first address read ack rest none e =
    let front = subst (AreOfFrames inside) e framed in (
      ap (λ symbols. at_bit (high sda) (wire_levels symbols) 0) e ∙ answer_first inside sda first address read ack rest none front,
      λ number. ap (λ symbols. at_bit (high sda) (wire_levels symbols) (1 + number)) e ∙ numbered_on inside sda first address read ack rest none front number,
    )

-- a whole frame
pub frame_numbered : (inside sda : Bool) (old : State) (policy : Fixed) (cuts : CutList) (served : Served) (rest : ℕ) (Own : Lost → State → State → Type 0) (new : State)
    (IsOwn : ℕ → List Symbol → Type 0) (wire : List Symbol)
    → AreOfFrames inside wire → Frame old policy cuts served rest Own new → ((lost : Lost) (mid done : State) → Own lost mid done → done.records ≡ mid.records)
    → IsFrameWire old cuts served new IsOwn wire → IsNumberedFrame sda old cuts served IsOwn wire
frame_numbered inside sda old policy cuts served rest Own new IsOwn wire framed f keeps h =
    let b = begins_with old cuts policy _ served f.mid new h.0 h.1 f.serves (records_kept old policy cuts served rest Own new f keeps) h.4 h.5 in
    let shape : wire ≡ Start ∷ Header b.address b.read b.ack ∷ (b.word ++ (h.2 ++ h.3)) =
    h.8 ∙ ap (λ begun. (begun ++ h.2) ++ h.3) b.is ∙ ap (λ more. Start ∷ Header b.address b.read b.ack ∷ more) (append_assoc b.word h.2 h.3) in
    let sent = (begins_at_0 inside sda wire framed Start b.address b.read b.ack (b.word ++ (h.2 ++ h.3)) refl shape).1 in
    let way : IsSentFrom sda wire (1 + h.1) (h.2 ++ h.3) = sent_later sda wire b.word (h.2 ++ h.3) 1 h.1 (1 + h.1) sent b.long refl in
    record {
      word = h.1;
      on = h.2;
      own = h.3;
      due = h.5;
      goes = h.6;
      part = h.7;
      way = way;
      there = sent_later sda wire h.2 h.3 (1 + h.1) (header_bits served) (1 + (h.1 + header_bits served)) way (on_long old cuts served h.1 h.2 h.6) (omega arith);
    }
