-- The answers of targets by their numbers.
use Rattle.std.proofs.lemmas.Bool.{false≢true}
use Rattle.std.proofs.Common.{◌≡◌, ◌∙◌, ◌⊎◌, ◌↔◌, ℕ, ◌+◌, Bool, true, false, not, List, [], ◌∷◌, Some, append_assoc, flat_map, arith, inl, inr, ap, refl, subst}
use Rattle.std.specs.List.{slice_get}
use Rattle.i3c_base.specs.declared.answers.Answer.{Answer}
use Rattle.i3c_base.specs.declared.datum.Datum.{Datum}
use Rattle.i3c_base.specs.declared.datum.Direction.{Direction}
use Rattle.i3c_base.specs.declared.kinds.Change.{Change}
use Rattle.i3c_base.specs.declared.kinds.Kinds.{Kinds}
use Rattle.i3c_base.specs.Cutting.{CutList, lost_by}
use Rattle.i3c_base.specs.Frames.{SomeLeftAt}
use Rattle.i3c_base.specs.State.{State}
use Rattle.i3c_word.specs.declared.Word.{Word}
use Rattle.i3c_frame.specs.declared.symbols.Symbol.{Symbol}
use Rattle.i3c_frame.specs.declared.symbols.Symbol.TheVariants.{Repeated, Header}
use Rattle.i3c_events.specs.Wire.{IsKindsWire, IsLengthWire, IsSettingWire}
use Rattle.i3c_handoff.specs.declared.outcome.Offer.{Offer}
use Rattle.i3c_handoff.specs.Offers.{SomeTakes, is_acknowledged}
use Rattle.i3c_handoff.specs.Wire.{IsOfferWire}
use Rattle.i3c_xfer.specs.declared.answers.Get.{Get as Told}
use Rattle.i3c_xfer.specs.declared.answers.Read.{Read}
use Rattle.i3c_xfer.specs.declared.answers.Write.{Write}
use Rattle.i3c_xfer.specs.Getting.{is_get_acknowledged}
use Rattle.i3c_xfer.specs.Wire.{IsGetWire, IsReadWire, IsWriteWire}
use Rattle.i3c_xfer.specs.Transfers.{AnyAnswers, is_read_acknowledged, is_write_acknowledged}
use Rattle.i3c_bus.specs.Wire.{IsDeclinedPart, IsGetPart, IsReadPart, IsUntaken, IsWritePart}
use Rattle.i3c_wave.specs.Clocks.{at_bit}
use Rattle.i3c_wave.specs.Levels.{bits, bits_of, high, wire_levels}
use Rattle.i3c_wave.proofs.LevelLaws.{behind_at}
use Rattle.i3c_wire_laws.specs.Answering.{IsAnsweredAt}
use Rattle.i3c_wire_laws.specs.Numbers.{IsSentFrom}
use Rattle.i3c_wire_laws.proofs.FrameNumbers.{sent_later, word_long}

-- the ninth bit of a header
ninth : (address : ℕ) (read ack : Bool) (rest : List Symbol) → slice_get (flat_map bits_of (Repeated ∷ Header address read ack ∷ rest)) 8 ≡ Some (not ack)
ninth address read ack rest =
    ap (λ bs. slice_get bs 8) (append_assoc (bits 7 address) (read ∷ not ack ∷ []) (flat_map bits_of rest))
    ∙ behind_at 7 address (read ∷ not ack ∷ flat_map bits_of rest) 8 1 refl

-- the answer to a transfer, whose own part begins with its header
transfer_at : (sda : Bool) (wire : List Symbol) (begun : ℕ) (own : List Symbol) (address : ℕ) (read ack : Bool) (rest : List Symbol)
    → IsSentFrom sda wire (1 + begun) own → own ≡ Repeated ∷ Header address read ack ∷ rest → at_bit (high sda) (wire_levels wire) (begun + 9) ≡ Some (not ack)
transfer_at sda wire begun own address read ack rest sent e =
    let same : begun + 9 ≡ 1 + begun + 8 = omega arith in
    ap (at_bit (high sda) (wire_levels wire)) same ∙ sent 8 ∙ ap (λ symbols. slice_get (flat_map bits_of symbols) 8) e ∙ ninth address read ack rest

-- the answer to a command, whose own part begins with its code
pub command_at : (sda : Bool) (wire : List Symbol) (begun : ℕ) (own : List Symbol) (code : Word) (address : ℕ) (read ack : Bool) (rest : List Symbol)
    → IsSentFrom sda wire (1 + begun) own → own ≡ Symbol.Word code ∷ Repeated ∷ Header address read ack ∷ rest → at_bit (high sda) (wire_levels wire) (begun + 18) ≡ Some (not ack)
command_at sda wire begun own code address read ack rest sent e =
    let whole : IsSentFrom sda wire (1 + begun) (Symbol.Word code ∷ Repeated ∷ Header address read ack ∷ rest) = subst (IsSentFrom sda wire (1 + begun)) e sent in
    let later = sent_later sda wire (Symbol.Word code ∷ []) (Repeated ∷ Header address read ack ∷ rest) (1 + begun) 9 (1 + (begun + 9)) whole (word_long code) (omega arith) in
    let same : begun + 18 ≡ begun + 9 + 9 = omega arith in
    ap (at_bit (high sda) (wire_levels wire)) same
    ∙ transfer_at sda wire (begun + 9) (Repeated ∷ Header address read ack ∷ rest) address read ack rest later refl

-- an answer that the reply tells
acked : (answer : Answer) (Somebody : Type 0) → (answer ≡ Answer.Done) ↔ Somebody → answer ≡ Answer.Done → (true ≡ true) ↔ Somebody
acked answer Somebody iff done = (λ e. iff.0 done, λ some. refl)

nacked : (answer : Answer) (b : ℕ) (Somebody : Type 0) → (answer ≡ Answer.Done) ↔ Somebody → answer ≡ Answer.NoAnswer b → (false ≡ true) ↔ Somebody
nacked answer b Somebody iff none = (λ e. absurd (false≢true e), λ some. let done : answer ≡ Answer.Done = iff.1 some in cc)

-- the answer to ENEC and DISEC
pub kinds_answered : (sda : Bool) (wire : List Symbol) (begun : ℕ) (change : Change) (a : ℕ) (kinds : Kinds) (answer : Answer) (own : List Symbol) (Somebody : Type 0)
    → IsSentFrom sda wire (1 + begun) own → IsKindsWire change (Some a) kinds answer own → (answer ≡ Answer.Done) ↔ Somebody → (answer ≡ Answer.Done) ⊎ (answer ≡ Answer.NoAnswer a)
    → IsAnsweredAt sda wire (begun + 18) Somebody
kinds_answered sda wire begun change a kinds answer own Somebody sent k iff is = elim is [
  | inl done ↦
      let h : IsKindsWire change (Some a) kinds Answer.Done own = subst (λ x. IsKindsWire change (Some a) kinds x own) done k in
      (true, command_at sda wire begun own h.0 a false true _ sent h.4, acked answer Somebody iff done)
  | inr none ↦
      let h : IsKindsWire change (Some a) kinds (Answer.NoAnswer a) own = subst (λ x. IsKindsWire change (Some a) kinds x own) none k in
      (false, command_at sda wire begun own h.0 a false false _ sent h.2, nacked answer a Somebody iff none)
]

-- the answer to SETMWL and SETMRL
pub length_answered : (sda : Bool) (wire : List Symbol) (begun : ℕ) (way : Direction) (a most : ℕ) (answer : Answer) (own : List Symbol) (Somebody : Type 0)
    → IsSentFrom sda wire (1 + begun) own → IsLengthWire way (Some a) most answer own → (answer ≡ Answer.Done) ↔ Somebody → (answer ≡ Answer.Done) ⊎ (answer ≡ Answer.NoAnswer a)
    → IsAnsweredAt sda wire (begun + 18) Somebody
length_answered sda wire begun way a most answer own Somebody sent k iff is = elim is [
  | inl done ↦
      let h : IsLengthWire way (Some a) most Answer.Done own = subst (λ x. IsLengthWire way (Some a) most x own) done k in
      (true, command_at sda wire begun own h.0 a false true _ sent h.6, acked answer Somebody iff done)
  | inr none ↦
      let h : IsLengthWire way (Some a) most (Answer.NoAnswer a) own = subst (λ x. IsLengthWire way (Some a) most x own) none k in
      (false, command_at sda wire begun own h.0 a false false _ sent h.2, nacked answer a Somebody iff none)
]

-- the answer to SETDASA and SETNEWDA
pub setting_answered : (sda : Bool) (wire : List Symbol) (begun : ℕ) (code a to : ℕ) (answer : Answer) (own : List Symbol) (Somebody : Type 0)
    → IsSentFrom sda wire (1 + begun) own → IsSettingWire code a to answer own → (answer ≡ Answer.Done) ↔ Somebody → (answer ≡ Answer.Done) ⊎ (answer ≡ Answer.NoAnswer a)
    → IsAnsweredAt sda wire (begun + 18) Somebody
setting_answered sda wire begun code a to answer own Somebody sent k iff is = elim is [
  | inl done ↦
      let h : IsSettingWire code a to Answer.Done own = subst (λ x. IsSettingWire code a to x own) done k in
      (true, command_at sda wire begun own h.0 a false true _ sent h.4, acked answer Somebody iff done)
  | inr none ↦
      let h : IsSettingWire code a to (Answer.NoAnswer a) own = subst (λ x. IsSettingWire code a to x own) none k in
      (false, command_at sda wire begun own h.0 a false false _ sent h.2, nacked answer a Somebody iff none)
]

-- the answer to a read of a datum
get_at : (sda : Bool) (wire : List Symbol) (begun : ℕ) (what : Datum) (a : ℕ) (get : Told) (own : List Symbol) → IsSentFrom sda wire (1 + begun) own → IsGetWire what a get own
    → at_bit (high sda) (wire_levels wire) (begun + 18) ≡ Some (not (is_get_acknowledged get))
get_at sda wire begun what a Told.Nobody own sent h = command_at sda wire begun own h.0 a true false _ sent (h.4 ∙ ap (λ told. Symbol.Word h.0 ∷ told) h.3)
get_at sda wire begun what a (Told.Ended bytes) own sent h = command_at sda wire begun own h.0 a true true _ sent (h.4 ∙ ap (λ told. Symbol.Word h.0 ∷ told) h.3)
get_at sda wire begun what a (Told.Torn bytes) own sent h = command_at sda wire begun own h.0 a true true _ sent (h.4 ∙ ap (λ told. Symbol.Word h.0 ∷ told) h.3)

pub get_answered : (sda : Bool) (old : State) (cuts : CutList) (wire : List Symbol) (begun : ℕ) (what : Datum) (a : ℕ) (answer : Answer) (new : State) (own : List Symbol)
    → IsSentFrom sda wire (1 + begun) own → IsGetPart old cuts what a answer new begun own → IsAnsweredAt sda wire (begun + 18) (SomeLeftAt old a (lost_by cuts (begun + 18)))
get_answered sda old cuts wire begun what a answer new own sent h = (is_get_acknowledged h.1, get_at sda wire begun what a h.1 own sent h.6, h.4)

-- the answer to an offer that nobody took
offer_at : (sda : Bool) (wire : List Symbol) (begun to : ℕ) (offer : Offer) (own : List Symbol) → IsSentFrom sda wire (1 + begun) own → IsUntaken offer → IsOfferWire to offer own
    → at_bit (high sda) (wire_levels wire) (begun + 18) ≡ Some (not (is_acknowledged offer))
offer_at sda wire begun to Offer.Nobody own sent un h = command_at sda wire begun own h.0 to true false _ sent h.2
offer_at sda wire begun to (Offer.Torn byte) own sent un h = command_at sda wire begun own h.0 to true true _ sent h.2
offer_at sda wire begun to (Offer.Taken s) own sent un h = absurd un

pub declined_answered : (sda : Bool) (old : State) (cuts : CutList) (wire : List Symbol) (begun to : ℕ) (new : State) (own : List Symbol) → IsSentFrom sda wire (1 + begun) own
    → IsDeclinedPart old cuts to new begun own → IsAnsweredAt sda wire (begun + 18) (SomeTakes old to (lost_by cuts (begun + 18)))
declined_answered sda old cuts wire begun to new own sent h = (is_acknowledged h.0, offer_at sda wire begun to h.0 own sent h.1 h.5, h.2)

read_at : (sda : Bool) (wire : List Symbol) (begun a : ℕ) (read : Read) (own : List Symbol) → IsSentFrom sda wire (1 + begun) own → IsReadWire a read own
    → at_bit (high sda) (wire_levels wire) (begun + 9) ≡ Some (not (is_read_acknowledged read))
read_at sda wire begun a Read.Nobody own sent h = transfer_at sda wire begun own a true false _ sent h
read_at sda wire begun a (Read.Legacy bytes) own sent h = transfer_at sda wire begun own a true true _ sent h
read_at sda wire begun a (Read.Ended bytes) own sent h = transfer_at sda wire begun own a true true _ sent h
read_at sda wire begun a (Read.Torn bytes) own sent h = transfer_at sda wire begun own a true true _ sent h

pub read_answered : (sda : Bool) (old : State) (cuts : CutList) (wire : List Symbol) (begun a : ℕ) (answer : Answer) (own : List Symbol) → IsSentFrom sda wire (1 + begun) own
    → IsReadPart old cuts a answer begun own → IsAnsweredAt sda wire (begun + 9) (AnyAnswers old a (lost_by cuts (begun + 9)))
read_answered sda old cuts wire begun a answer own sent h = (is_read_acknowledged h.0, read_at sda wire begun a h.0 own sent h.4, h.2)

write_at : (sda : Bool) (wire : List Symbol) (begun a : ℕ) (bytes : List ℕ) (write : Write) (own : List Symbol) → IsSentFrom sda wire (1 + begun) own → IsWriteWire a bytes write own
    → at_bit (high sda) (wire_levels wire) (begun + 9) ≡ Some (not (is_write_acknowledged write))
write_at sda wire begun a bytes Write.Nobody own sent h = transfer_at sda wire begun own a false false _ sent h
write_at sda wire begun a bytes Write.Legacy own sent h = transfer_at sda wire begun own a false true _ sent h.2
write_at sda wire begun a bytes Write.Devices own sent h = transfer_at sda wire begun own a false true _ sent h.2

pub write_answered : (sda : Bool) (old : State) (cuts : CutList) (wire : List Symbol) (begun a : ℕ) (bytes : List ℕ) (answer : Answer) (own : List Symbol) → IsSentFrom sda wire (1 + begun) own
    → IsWritePart old cuts a bytes answer begun own → IsAnsweredAt sda wire (begun + 9) (AnyAnswers old a (lost_by cuts (begun + 9)))
write_answered sda old cuts wire begun a bytes answer own sent h = (is_write_acknowledged h.0, write_at sda wire begun a bytes h.0 own sent h.4, h.2)
