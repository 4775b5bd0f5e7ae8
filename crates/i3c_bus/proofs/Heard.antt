-- The devices that acknowledge a broadcast.
use Rattle.std.proofs.lemmas.Bool.{false≢true}
use Rattle.std.proofs.Common.{◌≡◌, ℕ, ◌+◌, Bool, true, false, List, [], ◌∷◌, Option, Some, None, Result, Ok, Err, IsOk, option_map, if◌then◌else◌, ◌↔◌, sym, ap, ◌∙◌, subst, refl}
use Rattle.i3c_base.specs.declared.answers.Answer.{Answer}
use Rattle.i3c_base.specs.declared.requests.Fixed.{Fixed}
use Rattle.i3c_base.specs.declared.requests.Request.TheVariants.{Join, Role, Interrupt}
use Rattle.i3c_base.specs.declared.requests.Served.{Served}
use Rattle.i3c_base.specs.declared.requests.Served.TheVariants.{Quiet, Recorded, Refused, Torn, Joining, WantsRole}
use Rattle.i3c_base.specs.Cutting.{CutList, Lost, lost_by}
use Rattle.i3c_base.specs.Frames.{AnyLeft, SomeLeftAt}
use Rattle.i3c_base.specs.Serve.{Serves, drives, header_bits, without_front, without_join, without_role}
use Rattle.i3c_base.specs.State.{Device, State, each}
use Rattle.i3c_base.proofs.Lookups.{each_at, each_from}
use Rattle.i3c_events.specs.Hearing.{answer_of}
use Rattle.i3c_events.specs.declared.hearing.NoAnswer.{NoAnswer}
use Rattle.i3c_frame.specs.declared.symbols.Symbol.{Symbol}
use Rattle.i3c_frame.specs.declared.symbols.Symbol.TheVariants.{Header, Repeated}
use Rattle.i3c_bus.specs.Wire.{IsAck, IsAnswered, IsOn}

-- a change of each device leaves the devices that are there
left_each : (f : ℕ → Device → Device) (st : State) (lost : Lost) → AnyLeft (each f st) lost ↔ AnyLeft st lost
left_each f st lost = (
  λ l. let x = each_from f st l.0 l.1.0 l.1.1 in (l.0, (x.0, x.1), l.2, l.3),
  λ l. (l.0, (f l.0 l.1.0, each_at f st l.0 ∙ ap (option_map (f l.0)) l.1.1), l.2, l.3),
)

-- serving leaves the devices that are there
pub left_serves : (st : State) (policy : Fixed) (gone lost : Lost) (served : Served) (new : State) → Serves st policy gone served new → AnyLeft new lost ↔ AnyLeft st lost
left_serves st policy gone lost Quiet new h = subst (λ (x : State). AnyLeft x lost ↔ AnyLeft st lost) (sym h.1) (λ l. l, λ l. l)
left_serves st policy gone lost Refused new h = subst (λ (x : State). AnyLeft x lost ↔ AnyLeft st lost) (sym h.1) (λ l. l, λ l. l)
left_serves st policy gone lost Joining new h = subst (λ (x : State). AnyLeft x lost ↔ AnyLeft st lost) (sym h.2) (left_each (λ s d. if drives st Join s then without_join d else d) st lost)
left_serves st policy gone lost (WantsRole a) new h = subst (λ (x : State). AnyLeft x lost ↔ AnyLeft st lost) (sym h.2) (left_each (λ s d. if drives st (Role a) s then without_role d else d) st lost)
left_serves st policy gone lost (Recorded place) new h = subst (λ (x : State). AnyLeft x lost ↔ AnyLeft st lost) (sym h.left) (left_each (λ s d. if drives st (Interrupt h.at) s then without_front d else d) st lost)
left_serves st policy gone lost Torn new h = subst (λ (x : State). AnyLeft x lost ↔ AnyLeft st lost) (sym h.left) (left_each (λ s d. if drives st (Interrupt h.at) s then without_front d else d) st lost)

-- a change that keeps addresses leaves the devices at one
address_if : (b : Bool) (d e : Device) → e.address ≡ d.address → (if b then e else d).address ≡ d.address
address_if true d e h = h
address_if false d e h = refl

left_at_each : (f : ℕ → Device → Device) (st : State) (a : ℕ) (lost : Lost) → ((s : ℕ) (d : Device) → (f s d).address ≡ d.address) → SomeLeftAt (each f st) a lost ↔ SomeLeftAt st a lost
left_at_each f st a lost keeps = (
  λ l. let x = each_from f st l.0 l.1 l.2.0 in
      (l.0, x.0, (x.1, sym (keeps l.0 x.0) ∙ (ap (λ (d : Device). d.address) x.2 ∙ l.2.1), l.2.2), l.3),
  λ l. (l.0, f l.0 l.1, (each_at f st l.0 ∙ ap (option_map (f l.0)) l.2.0, keeps l.0 l.1 ∙ l.2.1, l.2.2), l.3),
)

-- serving leaves the devices at an address
pub left_at_serves : (st : State) (policy : Fixed) (gone lost : Lost) (a : ℕ) (served : Served) (new : State) → Serves st policy gone served new → SomeLeftAt new a lost ↔ SomeLeftAt st a lost
left_at_serves st policy gone lost a Quiet new h = subst (λ (x : State). SomeLeftAt x a lost ↔ SomeLeftAt st a lost) (sym h.1) (λ l. l, λ l. l)
left_at_serves st policy gone lost a Refused new h = subst (λ (x : State). SomeLeftAt x a lost ↔ SomeLeftAt st a lost) (sym h.1) (λ l. l, λ l. l)
left_at_serves st policy gone lost a Joining new h = subst (λ (x : State). SomeLeftAt x a lost ↔ SomeLeftAt st a lost) (sym h.2)
    (left_at_each (λ s d. if drives st Join s then without_join d else d) st a lost (λ s d. address_if (drives st Join s) d (without_join d) refl))
left_at_serves st policy gone lost a (WantsRole b) new h = subst (λ (x : State). SomeLeftAt x a lost ↔ SomeLeftAt st a lost) (sym h.2)
    (left_at_each (λ s d. if drives st (Role b) s then without_role d else d) st a lost (λ s d. address_if (drives st (Role b) s) d (without_role d) refl))
left_at_serves st policy gone lost a (Recorded place) new h = subst (λ (x : State). SomeLeftAt x a lost ↔ SomeLeftAt st a lost) (sym h.left)
    (left_at_each (λ s d. if drives st (Interrupt h.at) s then without_front d else d) st a lost (λ s d. address_if (drives st (Interrupt h.at) s) d (without_front d) refl))
left_at_serves st policy gone lost a Torn new h = subst (λ (x : State). SomeLeftAt x a lost ↔ SomeLeftAt st a lost) (sym h.left)
    (left_at_each (λ s d. if drives st (Interrupt h.at) s then without_front d else d) st a lost (λ s d. address_if (drives st (Interrupt h.at) s) d (without_front d) refl))

-- so a command after it is answered as one before
pub answered_before : (st : State) (policy : Fixed) (gone : Lost) (served : Served) (new : State) (cuts : CutList) (to : Option ℕ) (begun : ℕ) (answer : Answer) → Serves st policy gone served new
    → IsAnswered new cuts to begun answer → IsAnswered st cuts to begun answer
answered_before st policy gone served new cuts None begun answer h a = tt
answered_before st policy gone served new cuts (Some at) begun answer h a =
    let same = left_at_serves st policy gone (lost_by cuts (begun + 18)) at served new h in
    (λ e. same.0 (a.0 e), λ l. a.1 (same.1 l))

-- the answer to a command says which devices were left
pub answered_by : (st : State) (cuts : CutList) (to : Option ℕ) (begun : ℕ) (heard : Result (Unit {0}) NoAnswer)
    → ((a : ℕ) → to ≡ Some a → IsOk heard ↔ SomeLeftAt st a (lost_by cuts (begun + 18))) → IsAnswered st cuts to begun (answer_of heard)
answered_by st cuts None begun heard h = tt
answered_by st cuts (Some a) begun (Ok done) h = (λ e. (h a refl).0 refl, λ l. refl)
answered_by st cuts (Some a) begun (Err none) h = (λ e. cc, λ l. absurd (false≢true ((h a refl).1 l)))

-- so a broadcast after it is acknowledged as one before
pub ack_before : (st : State) (policy : Fixed) (gone : Lost) (served : Served) (new : State) (cuts : CutList) (bit : ℕ) (ack : Bool) → Serves st policy gone served new → IsAck new cuts bit ack → IsAck st cuts bit ack
ack_before st policy gone served new cuts bit ack h a =
    let same = left_serves st policy gone (lost_by cuts bit) served new h in
    (λ e. same.0 (a.0 e), λ l. a.1 (same.1 l))

-- a header goes on with a frame after each request
pub after_header : (served : Served) → (served ≡ Quiet → ⊥) → header_bits served ≡ 9
after_header Quiet h = absurd (h refl)
after_header Refused h = refl
after_header Joining h = refl
after_header (WantsRole a) h = refl
after_header (Recorded place) h = refl
after_header Torn h = refl

pub on_is : (st : State) (cuts : CutList) (served : Served) (word : ℕ) (ack : Bool) → (served ≡ Quiet → ⊥) → IsAck st cuts (word + 9) ack → IsOn st cuts served word (Repeated ∷ Header 0x7E false ack ∷ [])
on_is st cuts Quiet word ack h acked = absurd (h refl)
on_is st cuts Refused word ack h acked = (ack, acked, refl)
on_is st cuts Joining word ack h acked = (ack, acked, refl)
on_is st cuts (WantsRole a) word ack h acked = (ack, acked, refl)
on_is st cuts (Recorded place) word ack h acked = (ack, acked, refl)
on_is st cuts Torn word ack h acked = (ack, acked, refl)

-- what goes on after serving is seen as before it
pub on_before : (st : State) (policy : Fixed) (gone : Lost) (served : Served) (new : State) (cuts : CutList) (word : ℕ) (wire : List Symbol) → Serves st policy gone served new → IsOn new cuts served word wire
    → IsOn st cuts served word wire
on_before st policy gone Quiet new cuts word wire h on = on
on_before st policy gone Refused new cuts word wire h on = (on.0, ack_before st policy gone Refused new cuts (word + 9) on.0 h on.1, on.2)
on_before st policy gone Joining new cuts word wire h on = (on.0, ack_before st policy gone Joining new cuts (word + 9) on.0 h on.1, on.2)
on_before st policy gone (WantsRole a) new cuts word wire h on = (on.0, ack_before st policy gone (WantsRole a) new cuts (word + 9) on.0 h on.1, on.2)
on_before st policy gone (Recorded place) new cuts word wire h on = (on.0, ack_before st policy gone (Recorded place) new cuts (word + 9) on.0 h on.1, on.2)
on_before st policy gone Torn new cuts word wire h on = (on.0, ack_before st policy gone Torn new cuts (word + 9) on.0 h on.1, on.2)
