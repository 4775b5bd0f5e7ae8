-- The numbers in what each event sends.
use Rattle.std.proofs.lemmas.Bool.{and_parts, not-false, or_cases, or_parts, true≢false, false≢true}
use Rattle.std.proofs.lemmas.List.Elements.{All-cons, All-nil}
use Rattle.std.proofs.Common.{◌≡◌, ℕ, ◌+◌, ◌<◌, ◌^◌, true, false, ◌||◌, ◌&&◌, List, [], ◌∷◌, All, Option, Some, None, is_none, arith, inl, inr, ap, refl, sym, subst}
use Rattle.i3c_base.specs.declared.datum.Datum.{Datum}
use Rattle.i3c_base.specs.declared.device.LegacyTarget.{LegacyTarget}
use Rattle.i3c_base.specs.declared.identity.Identity.{Identity}
use Rattle.i3c_base.specs.declared.kinds.Change.{Change}
use Rattle.i3c_base.specs.Cutting.{CutList}
use Rattle.i3c_base.specs.Frames.{active_has}
use Rattle.i3c_base.specs.State.{Entry, State, declared_at, entry_at, is_usable, known_in, legacy_target_at}
use Rattle.i3c_base.proofs.StaticLaws.{is_the-true, kept_at_known}
use Rattle.i3c_word.specs.declared.Word.{Word}
use Rattle.i3c_frame.specs.declared.symbols.Symbol.{Symbol}
use Rattle.i3c_frame.specs.declared.symbols.Symbol.TheVariants.{Stop}
use Rattle.i3c_frame.specs.Texts.{IsInRange}
use Rattle.i3c_entdaa.specs.declared.outcome.Round.{Round as RoundValue}
use Rattle.i3c_entdaa.specs.Rounds.{IsRead}
use Rattle.i3c_handoff.specs.declared.outcome.Offer.{Offer}
use Rattle.i3c_handoff.specs.Offers.{IsReadAs as IsOfferReadAs}
use Rattle.i3c_xfer.specs.declared.answers.Get.{Get as Told}
use Rattle.i3c_xfer.specs.declared.answers.Read.{Read}
use Rattle.i3c_xfer.specs.Getting.{IsToldAs}
use Rattle.i3c_xfer.specs.Transfers.{IsReadAs}
use Rattle.i3c_step.specs.declared.events.Event.{Event}
use Rattle.i3c_step.specs.declared.events.Event.TheVariants.{Attach, DropOff, Raise, AskJoin, AskRole, Serve, Enec, Disec, Reset, SendList, ReadFrom, WriteTo, SetStatic, SetNew, Get, SetLength, OpenDaa, Round, EndDaa, HandOver}
use Rattle.i3c_step.specs.declared.replies.Reply.{Reply}
use Rattle.i3c_step.specs.Sound.{Addresses, IsSound}
use Rattle.i3c_step.specs.Step.{Acts, Step, checks, first_refusal, is_kept_for, is_no_controller, is_no_partner, is_no_target, is_pickable}
use Rattle.i3c_step.proofs.Slots.{records_rekinds}
use Rattle.i3c_step.proofs.Steps.{IsIdle, no_test, refused, short, step_cases}
use Rattle.i3c_step.proofs.Transfers.{gets_keep, lengths_keep, news_keep, reads_keep, statics_keep, writes_keep}
use Rattle.i3c_bus.specs.Wire.{IsDeclinedPart, IsGetPart, IsKindsPart, IsLengthPart, IsListPart, IsNewPart, IsOpenWire, IsReadPart, IsResetWire, IsStaticPart, IsWire, IsWritePart}
use Rattle.i3c_wire_laws.specs.Fitting.{EventFits, Fits, IsByte}
use Rattle.i3c_wire_laws.proofs.Addressing.{entry_low, kept_low, static_low, usable_low, winner_low}
use Rattle.i3c_wire_laws.proofs.FrameRanges.{frame_fits, serve_fits}
use Rattle.i3c_wire_laws.proofs.ListRanges.{list_fits}
use Rattle.i3c_wire_laws.proofs.OwnRanges.{AreBytes, AreInRange, BytesOfGet, BytesOfRead, IsSentBy, bytes_from, get_fits, kinds_fit, length_fits, offer_fits, ranges_on, read_fits, round_fits, setting_fits, write_fits}

-- the address of a command that isn't refused
target_low : (st : State) (a : ℕ) → Addresses st → is_no_target st a ≡ false → a < 128
target_low st a known h = go (entry_at st a) refl (or_parts (is_none (entry_at st a)) (active_has st a) h).0
  where
    go : (o : Option Entry) → entry_at st a ≡ o → is_none o ≡ false → a < 128
    go None e h = absurd (true≢false h)
    go (Some entry) e h = entry_low st a entry known e

-- the address of a handover
controller_low : (st : State) (a : ℕ) → Addresses st → is_no_controller (entry_at st a) ≡ false → a < 128
controller_low st a known h = go (entry_at st a) refl h
  where
    go : (o : Option Entry) → entry_at st a ≡ o → is_no_controller o ≡ false → a < 128
    go None e h = absurd (true≢false h)
    go (Some entry) e h = entry_low st a entry known e

-- the address of a transfer
partner_low : (st : State) (a : ℕ) → Fits st → Addresses st → is_no_partner st a ≡ false → a < 128
partner_low st a fits known h = go (legacy_target_at st a) refl h
  where
    go : (o : Option LegacyTarget) → legacy_target_at st a ≡ o → (is_none o && is_no_target st a) ≡ false → a < 128
    go None e h = target_low st a known h
    go (Some target) e h = let low = static_low a (fits.targets a target e).static in omega (arith, low)

-- a static address at which an identity is declared
declared_low : (st : State) (f : ℕ) → Fits st → is_none (declared_at st f) ≡ false → f < 128
declared_low st f fits h = go (declared_at st f) refl h
  where
    go : (o : Option Identity) → declared_at st f ≡ o → is_none o ≡ false → f < 128
    go None e h = absurd (true≢false h)
    go (Some i) e h = let low = static_low f (fits.declared f i e).0 in omega (arith, low)

-- an address that may be picked, and one that is kept
pickable_low : (st : State) (a : ℕ) → is_pickable st a ≡ true → a < 128
pickable_low st a h = usable_low a (and_parts (is_usable a) _ h).0

settable_low : (st : State) (o : Option Identity) (a : ℕ) → Addresses st → (is_pickable st a || is_kept_for st o a) ≡ true → a < 128
settable_low st None a known h = elim (or_cases (is_pickable st a) false h) [ inl p ↦ pickable_low st a p | inr k ↦ absurd (false≢true k) ]
settable_low st (Some i) a known h = elim (or_cases (is_pickable st a) (is_kept_for st (Some i) a) h) [
  | inl p ↦ pickable_low st a p
  | inr k ↦ kept_low st a i known (kept_at_known st.given i a (is_the-true a (known_in st.given i) k))
]

-- RSTDAA and ENTDAA
code_fits : (word : Word) (code : ℕ) → word.byte ≡ code → IsByte code → IsByte word.byte
code_fits word code e small = subst IsByte (sym e) small

reset_fits : (wire : List Symbol) → IsResetWire wire → AreInRange wire
reset_fits wire h = subst AreInRange (sym h.2) (code_fits h.0 6 h.1.0 (omega arith), (tt, tt))

open_fits : (wire : List Symbol) → IsOpenWire wire → AreInRange wire
open_fits wire h = subst AreInRange (sym h.2) (code_fits h.0 7 h.1.0 (omega arith), tt)

-- DEFTGTS
list_part_fits : (st : State) (wire : List Symbol) → Fits st → Addresses st → IsListPart st wire → AreInRange wire
list_part_fits st wire fits known h =
    let code = h.2.0 in
    subst AreInRange (sym h.2.2) (code_fits code 8 h.2.1.0 (omega arith), ranges_on _ (Stop ∷ []) (list_fits st h.1.0 h.0 fits known h.1.2) (tt, tt))

-- the bytes of a private read
read_bytes : (st : State) (a : ℕ) (cuts : CutList) (first : ℕ) (read : Read) → Fits st → IsReadAs st a cuts first read → BytesOfRead read
read_bytes st a cuts first Read.Nobody fits h = tt
read_bytes st a cuts first (Read.Legacy bytes) fits h = subst AreBytes (sym h.2) (bytes_from h.0.registers (fits.targets a h.0 h.1).registers)
read_bytes st a cuts first (Read.Ended bytes) fits h = bytes_from bytes h.1.2
read_bytes st a cuts first (Read.Torn bytes) fits h = bytes_from bytes h.1.2

-- those that are told of a datum
get_bytes : (st : State) (what : Datum) (count a : ℕ) (cuts : CutList) (first : ℕ) (get : Told) → IsToldAs st what count a cuts first get → BytesOfGet get
get_bytes st what count a cuts first Told.Nobody h = tt
get_bytes st what count a cuts first (Told.Ended bytes) h = bytes_from bytes h.2
get_bytes st what count a cuts first (Told.Torn bytes) h = bytes_from bytes h.2

-- an offer that nobody took
declined_fits : (old : State) (cuts : CutList) (to : ℕ) (new : State) (begun : ℕ) (wire : List Symbol) → to < 128 → IsDeclinedPart old cuts to new begun wire → AreInRange wire
declined_fits old cuts to new begun wire low h =
    offer_fits to h.0 wire low (λ byte e. let torn = subst (λ o. IsOfferReadAs old to cuts (begun + 19) o) e h.3 in torn.2) h.5

-- the bits that a round reads, and the address that it sends
round_sent : (st : State) (cuts : CutList) (round : RoundValue) → Addresses st → IsRead st cuts round → (bits a : ℕ) → IsSentBy round bits a → (bits < 2 ^ 64) × (a < 128)
round_sent st cuts RoundValue.NoAddress known h bits a is = absurd is
round_sent st cuts RoundValue.Done known h bits a is = absurd is
round_sent st cuts (RoundValue.Nobody read sent) known h bits a is =
    (subst (λ n. n < 2 ^ 64) is.0 h.0.0, subst (λ n. n < 128) is.1 (winner_low st h.1.0 sent known h.1.3))
round_sent st cuts (RoundValue.Assigned read sent i) known h bits a is =
    (subst (λ n. n < 2 ^ 64) is.0 h.0.0, subst (λ n. n < 128) is.1 (winner_low st h.1.0 sent known h.1.3))

-- what leaves the records
abbrev KeepsRecords : State → State → Type 0
KeepsRecords mid done = done.records ≡ mid.records

acts_fit : (old : State) (event : Event) (reply : Reply) (new : State) (wire : List Symbol) → Fits old → EventFits event → Addresses old
    → first_refusal (checks old event) ≡ None → Acts old event reply new → IsWire old event reply new wire → AreInRange wire
acts_fit old (Attach s setup) reply new wire fits brings known free h w = subst AreInRange (sym (subst (λ r. IsWire old (Attach s setup) r new wire) h.0 w)) tt
acts_fit old (DropOff s) reply new wire fits brings known free h w = subst AreInRange (sym (subst (λ r. IsWire old (DropOff s) r new wire) h.0 w)) tt
acts_fit old (Raise s byte) reply new wire fits brings known free h w = subst AreInRange (sym (subst (λ r. IsWire old (Raise s byte) r new wire) h.0 w)) tt
acts_fit old (AskJoin s) reply new wire fits brings known free h w = subst AreInRange (sym (subst (λ r. IsWire old (AskJoin s) r new wire) h.0 w)) tt
acts_fit old (AskRole s) reply new wire fits brings known free h w = subst AreInRange (sym (subst (λ r. IsWire old (AskRole s) r new wire) h.0 w)) tt
acts_fit old (Serve policy cuts) reply new wire fits brings known free h w =
    serve_fits old policy cuts h.0 _ _ new wire known h.2 (λ lost mid done e. ap (λ (st : State). st.records) e) (subst (λ r. IsWire old (Serve policy cuts) r new wire) h.1 w)
acts_fit old (Enec to kinds policy cuts) reply new wire fits brings known free h w =
    frame_fits old policy cuts h.0.served _ _ new (IsKindsPart old cuts Change.Enable to kinds h.0.answer) wire known h.2 (records_rekinds to _ _)
    (λ bits own k. kinds_fit Change.Enable to kinds h.0.answer own
    (λ a e. target_low old a known (no_test 2 (checks old (Enec (Some a) kinds policy cuts)) (subst (λ t. first_refusal (checks old (Enec t kinds policy cuts)) ≡ None) e free))) k.0)
    (subst (λ r. IsWire old (Enec to kinds policy cuts) r new wire) h.1 w)
acts_fit old (Disec to kinds policy cuts) reply new wire fits brings known free h w =
    frame_fits old policy cuts h.0.served _ _ new (IsKindsPart old cuts Change.Disable to kinds h.0.answer) wire known h.2 (records_rekinds to _ _)
    (λ bits own k. kinds_fit Change.Disable to kinds h.0.answer own
    (λ a e. target_low old a known (no_test 2 (checks old (Disec (Some a) kinds policy cuts)) (subst (λ t. first_refusal (checks old (Disec t kinds policy cuts)) ≡ None) e free))) k.0)
    (subst (λ r. IsWire old (Disec to kinds policy cuts) r new wire) h.1 w)
acts_fit old (Reset policy cuts) reply new wire fits brings known free h w =
    frame_fits old policy cuts h.0 _ _ new (λ bits own. IsResetWire own) wire known h.2 (λ lost mid done e. ap (λ (st : State). st.records) e) (λ bits own k. reset_fits own k)
    (subst (λ r. IsWire old (Reset policy cuts) r new wire) h.1 w)
acts_fit old (SendList policy cuts) reply new wire fits brings known free h w =
    frame_fits old policy cuts h.0 _ _ new (λ bits own. IsListPart old own) wire known h.2 (λ lost mid done e. ap (λ (st : State). st.records) e) (λ bits own k. list_part_fits old own fits known k)
    (subst (λ r. IsWire old (SendList policy cuts) r new wire) h.1 w)
acts_fit old (ReadFrom a policy cuts) reply new wire fits brings known free h w =
    frame_fits old policy cuts h.0.served _ _ new (IsReadPart old cuts a h.0.answer) wire known h.2 (reads_keep KeepsRecords (λ st. refl) a h.0.answer)
    (λ bits own k. read_fits a k.0 own (partner_low old a fits known (no_test 2 (checks old (ReadFrom a policy cuts)) free)) (read_bytes old a cuts _ k.0 fits k.3) k.4)
    (subst (λ r. IsWire old (ReadFrom a policy cuts) r new wire) h.1 w)
acts_fit old (WriteTo a bytes policy cuts) reply new wire fits brings known free h w =
    frame_fits old policy cuts h.0.served _ _ new (IsWritePart old cuts a bytes.items h.0.answer) wire known h.2 (writes_keep KeepsRecords a bytes.items (λ st. refl) (λ st. refl) h.0.answer)
    (λ bits own k. write_fits a bytes.items k.0 own (partner_low old a fits known (no_test 3 (checks old (WriteTo a bytes policy cuts)) free)) (bytes_from bytes.items brings) k.4)
    (subst (λ r. IsWire old (WriteTo a bytes policy cuts) r new wire) h.1 w)
acts_fit old (SetStatic f to policy cuts) reply new wire fits brings known free h w =
    frame_fits old policy cuts h.0.served _ _ new (IsStaticPart old cuts f to h.0.answer) wire known h.2 (statics_keep KeepsRecords f to (λ st. refl) (λ i st. refl) h.0.answer)
    (λ bits own k. setting_fits 0x87 f to h.0.answer own (omega arith) (declared_low old f fits (no_test 2 (checks old (SetStatic f to policy cuts)) free))
    (settable_low old (declared_at old f) to known (not-false _ (no_test 3 (checks old (SetStatic f to policy cuts)) free))) k.0)
    (subst (λ r. IsWire old (SetStatic f to policy cuts) r new wire) h.1 w)
acts_fit old (SetNew a to policy cuts) reply new wire fits brings known free h w =
    frame_fits old policy cuts h.0.served _ _ new (IsNewPart old cuts a to h.0.answer) wire known h.2 (news_keep KeepsRecords a to (λ st. refl) (λ st. refl) h.0.answer)
    (λ bits own k. setting_fits 0x88 a to h.0.answer own (omega arith) (target_low old a known (no_test 2 (checks old (SetNew a to policy cuts)) free))
    (pickable_low old to (not-false _ (no_test 3 (checks old (SetNew a to policy cuts)) free))) k.0)
    (subst (λ r. IsWire old (SetNew a to policy cuts) r new wire) h.1 w)
acts_fit old (Get what a policy cuts) reply new wire fits brings known free h w =
    frame_fits old policy cuts h.0.served _ _ new (IsGetPart old cuts what a h.0.answer new) wire known h.2 (gets_keep KeepsRecords (λ st. refl) what a h.0.answer)
    (λ bits own k. get_fits what a k.1 own (target_low old a known (no_test 2 (checks old (Get what a policy cuts)) free)) (get_bytes k.0 what _ a cuts _ k.1 k.5) k.6)
    (subst (λ r. IsWire old (Get what a policy cuts) r new wire) h.1 w)
acts_fit old (SetLength way most to policy cuts) reply new wire fits brings known free h w =
    frame_fits old policy cuts h.0.served _ _ new (IsLengthPart old cuts way to most h.0.answer) wire known h.2 (lengths_keep KeepsRecords to way most (λ st. refl) (λ st. refl) h.0.answer)
    (λ bits own k. length_fits way to most h.0.answer own
    (λ a e. target_low old a known (no_test 2 (checks old (SetLength way most (Some a) policy cuts)) (subst (λ t. first_refusal (checks old (SetLength way most t policy cuts)) ≡ None) e free))) brings k.0)
    (subst (λ r. IsWire old (SetLength way most to policy cuts) r new wire) h.1 w)
acts_fit old (OpenDaa cuts) reply new wire fits brings known free h w =
    frame_fits old _ cuts h.0 _ _ new (λ bits own. IsOpenWire own) wire known h.2 (λ lost mid done e. ap (λ (st : State). st.records) e) (λ bits own k. open_fits own k)
    (subst (λ r. IsWire old (OpenDaa cuts) r new wire) h.1 w)
acts_fit old (HandOver to cuts) reply new wire fits brings known free h w =
    let low = controller_low old to known (no_test 3 (checks old (HandOver to cuts)) free) in
    elim h [
      | inl g ↦ frame_fits old _ cuts g.0 _ _ new _ wire known g.2 (λ lost mid done e. ap (λ (st : State). st.records) e.4) (λ bits own k. offer_fits to (Offer.Taken new.active) own low (λ byte e. cc) k)
          (subst (λ r. IsWire old (HandOver to cuts) r new wire) g.1 w)
      | inr g ↦ frame_fits old _ cuts g.0 _ _ new (IsDeclinedPart old cuts to new) wire known g.4 (λ lost mid done e. ap (λ (st : State). st.records) e.1) (λ bits own k. declined_fits old cuts to new bits own low k)
          (subst (λ r. IsWire old (HandOver to cuts) r new wire) g.2 w)
    ]
acts_fit old (Round cuts) reply new wire fits brings known free h w =
    let sent = subst (λ r. IsWire old (Round cuts) r new wire) h.1 w in
    round_fits sent.0 wire (round_sent old cuts sent.0 known sent.2) sent.4
acts_fit old EndDaa reply new wire fits brings known free h w = subst AreInRange (sym (subst (λ r. IsWire old EndDaa r new wire) h.0 w)) (tt, tt)

idle_fits : (old : State) (event : Event) (reply : Reply) (new : State) (wire : List Symbol) → IsIdle reply → IsWire old event reply new wire → AreInRange wire
idle_fits old event reply new wire (refused why r) w = subst AreInRange (sym (subst (λ x. IsWire old event x new wire) r w)) tt
idle_fits old event reply new wire (short r) w = subst AreInRange (sym (subst (λ x. IsWire old event x new wire) r w)) tt

-- what a step sends
pub step_fits : (old : State) (event : Event) (reply : Reply) (new : State) (wire : List Symbol) → IsSound old → Fits old → EventFits event → Step old event reply new → IsWire old event reply new wire
    → AreInRange wire
step_fits old event reply new wire sound fits brings h w =
    step_cases old event reply new h (λ idle e. idle_fits old event reply new wire idle w) (λ free acts. acts_fit old event reply new wire fits brings sound.addresses free acts w)

-- one by one, and so all
pub all_fit : (wire : List Symbol) → AreInRange wire → All IsInRange wire
all_fit [] h = All-nil IsInRange
all_fit (symbol ∷ rest) h = All-cons IsInRange symbol rest h.0 (all_fit rest h.1)
