-- Behind records that are gone, a first request is served as without them, and so is a frame.
use Rattle.std.proofs.Common.{◌≡◌, ◌∙◌, ℕ, ◌+◌, List, length, Option, ap, refl, subst, sym}
use Rattle.i3c_base.specs.declared.device.Waiting.{Waiting}
use Rattle.i3c_base.specs.declared.requests.Fixed.{Fixed}
use Rattle.i3c_base.specs.declared.requests.Record.{Record}
use Rattle.i3c_base.specs.declared.requests.Request.{Request}
use Rattle.i3c_base.specs.declared.requests.Request.TheVariants.{Join, Role, Interrupt}
use Rattle.i3c_base.specs.declared.requests.Served.{Served}
use Rattle.i3c_base.specs.declared.requests.Served.TheVariants.{Quiet, Recorded, Refused, Torn, Joining, WantsRole}
use Rattle.i3c_base.specs.Cutting.{CutList, Lost, lost_by}
use Rattle.i3c_base.specs.Serve.{Frame, IsFirst, IsRead, IsRecorded, IsTorn, IsWordBits, Serves, each_driver, header_bits, verdict, without_front}
use Rattle.i3c_base.specs.State.{State}
use Rattle.i3c_log_laws.specs.Behind.{behind, counted_from}
use Rattle.i3c_log_laws.proofs.Behind.{behind-recorded, header_bits-counted_from, placed_behind}

-- the same request is first
first_behind : (gone : List Record) (st : State) (r : Request) → IsFirst st r → IsFirst (behind gone st) r
first_behind gone st r h = record { driven = h.driven; first = h.first }

-- the policy decides alike
verdict_behind : (gone : List Record) (st : State) (policy : Fixed) (r : Request) → verdict (behind gone st) policy r ≡ verdict st policy r
verdict_behind gone st policy Join = refl
verdict_behind gone st policy (Role a) = refl
verdict_behind gone st policy (Interrupt a) = refl

-- the same byte is read
read_behind : (gone : List Record) (st : State) (lost : Lost) (r : Request) (s : ℕ) (w : Waiting) (byte : Option ℕ) → IsRead st lost r s w byte → IsRead (behind gone st) lost r s w byte
read_behind gone st lost r s w byte h = record { alone = h.alone; together = h.together; present = h.present }

-- an interrupt is recorded at a later place
recorded_behind : (gone : List Record) (st : State) (policy : Fixed) (lost : Lost) (place : ℕ) (new : State)
    → IsRecorded st policy lost place new → IsRecorded (behind gone st) policy lost (place + length gone) (behind gone new)
recorded_behind gone st policy lost place new h =
    let last : Record = record { slot = h.slot; number = h.front.number; at = h.at; byte = h.byte } in record {
      at = h.at;
      slot = h.slot;
      front = h.front;
      byte = h.byte;
      first = first_behind gone st (Interrupt h.at) h.first;
      accepted = h.accepted;
      lowest = h.lowest;
      fronted = h.fronted;
      read = read_behind gone st lost (Interrupt h.at) h.slot h.front h.byte h.read;
      placed = placed_behind gone st.records place h.placed;
      left = ap (behind gone) h.left ∙ behind-recorded gone last (each_driver (Interrupt h.at) without_front st);
    }

-- a torn one is torn
torn_behind : (gone : List Record) (st : State) (policy : Fixed) (lost : Lost) (new : State) → IsTorn st policy lost new → IsTorn (behind gone st) policy lost (behind gone new)
torn_behind gone st policy lost new h = record {
  at = h.at;
  first = first_behind gone st (Interrupt h.at) h.first;
  accepted = h.accepted;
  due = h.due;
  gone = h.gone;
  left = ap (behind gone) h.left;
}

-- each answer comes where it came
serves_behind : (gone : List Record) (st : State) (policy : Fixed) (lost : Lost) (served : Served) (new : State)
    → Serves st policy lost served new → Serves (behind gone st) policy lost (counted_from (length gone) served) (behind gone new)
serves_behind gone st policy lost Quiet new h = (h.0, ap (behind gone) h.1)
serves_behind gone st policy lost Refused new h =
    ((h.0.0, first_behind gone st h.0.0 h.0.1, verdict_behind gone st policy h.0.0 ∙ h.0.2), ap (behind gone) h.1)
serves_behind gone st policy lost Joining new h = (first_behind gone st Join h.0, h.1, ap (behind gone) h.2)
serves_behind gone st policy lost (WantsRole a) new h = (first_behind gone st (Role a) h.0, h.1, ap (behind gone) h.2)
serves_behind gone st policy lost (Recorded place) new h = recorded_behind gone st policy lost place new h
serves_behind gone st policy lost Torn new h = torn_behind gone st policy lost new h

-- the mandatory word has as many bits
word_behind : (gone : List Record) (st : State) (served : Served) (bits : ℕ) → IsWordBits st served bits → IsWordBits (behind gone st) (counted_from (length gone) served) bits
word_behind gone st (Recorded place) bits h = (h.0, first_behind gone st (Interrupt h.0) h.1, h.2)
word_behind gone st Torn bits h = h
word_behind gone st Quiet bits h = h
word_behind gone st Refused bits h = h
word_behind gone st Joining bits h = h
word_behind gone st (WantsRole a) bits h = h

-- an own part of a frame that goes on alike behind these records
abbrev pub GoesOn : List Record → (Lost → State → State → Type 0) → Type 0
GoesOn gone Own = (lost : Lost) (mid done : State) → Own lost mid done → Own lost (behind gone mid) (behind gone done)

-- a frame goes on alike if its own part does
pub frame_behind : (gone : List Record) (old : State) (policy : Fixed) (cuts : CutList) (served : Served) (rest : ℕ) (Own : Lost → State → State → Type 0) (new : State)
    → GoesOn gone Own → Frame old policy cuts served rest Own new → Frame (behind gone old) policy cuts (counted_from (length gone) served) rest Own (behind gone new)
frame_behind gone old policy cuts served rest Own new alike h = record {
  word = h.word;
  mid = behind gone h.mid;
  done = behind gone h.done;
  sent = word_behind gone old served h.word h.sent;
  serves = serves_behind gone old policy (lost_by cuts (h.word + rest)) served h.mid h.serves;
  own = alike (lost_by cuts (h.word + rest)) h.mid h.done h.own;
  left = ap (behind gone) h.left;
}

-- the same of one with a header after its request
pub asking_behind : (gone : List Record) (old : State) (policy : Fixed) (cuts : CutList) (served : Served) (bits : ℕ) (Own : Lost → State → State → Type 0) (new : State)
    → GoesOn gone Own → Frame old policy cuts served (header_bits served + bits) Own new
    → Frame (behind gone old) policy cuts (counted_from (length gone) served) (header_bits (counted_from (length gone) served) + bits) Own (behind gone new)
asking_behind gone old policy cuts served bits Own new alike h =
    subst (λ (header : ℕ). Frame (behind gone old) policy cuts (counted_from (length gone) served) (header + bits) Own (behind gone new))
    (sym (header_bits-counted_from (length gone) served)) (frame_behind gone old policy cuts served (header_bits served + bits) Own new alike h)
