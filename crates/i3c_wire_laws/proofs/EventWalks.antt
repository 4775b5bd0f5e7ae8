-- What each event sends.
use Rattle.std.proofs.lemmas.Bool.{not-false, or_parts, true≢false}
use Rattle.std.proofs.Common.{◌≡◌, ◌∙◌, ℕ, ◌==◌, Bool, true, false, List, [], ◌∷◌, Option, Some, None, is_none, is_some, if◌then◌else◌, inl, inr, ap, refl, sym, subst}
use Rattle.i3c_base.specs.declared.identity.Identity.{Identity}
use Rattle.i3c_base.specs.declared.kinds.Change.{Change}
use Rattle.i3c_base.specs.Cutting.{CutList}
use Rattle.i3c_base.specs.Sets.{is_in}
use Rattle.i3c_base.specs.State.{Entry, State, declared_at, entry_at}
use Rattle.i3c_base.specs.Frames.{active_has}
use Rattle.i3c_word.specs.declared.Word.{Word}
use Rattle.i3c_frame.specs.declared.symbols.Symbol.{Symbol}
use Rattle.i3c_handoff.specs.declared.outcome.Offer.{Offer}
use Rattle.i3c_step.specs.declared.events.Event.{Event}
use Rattle.i3c_step.specs.declared.events.Event.TheVariants.{Attach, DropOff, Raise, AskJoin, AskRole, Serve, Enec, Disec, Reset, SendList, ReadFrom, WriteTo, SetStatic, SetNew, Get, SetLength, OpenDaa, Round, EndDaa, HandOver}
use Rattle.i3c_step.specs.declared.replies.Reply.{Reply}
use Rattle.i3c_step.specs.Slots.{session_after}
use Rattle.i3c_step.specs.Sound.{Addresses, IsSound}
use Rattle.i3c_step.specs.Step.{Acts, Step, checks, first_refusal, is_no_controller, is_no_target}
use Rattle.i3c_step.proofs.SlotLaws.{slots_kept}
use Rattle.i3c_step.proofs.Steps.{IsIdle, no_test, refused, short, step_cases}
use Rattle.i3c_bus.specs.Wire.{IsDeclinedPart, IsGetPart, IsKindsPart, IsLengthPart, IsListPart, IsListWire, IsNewPart, IsOpenWire, IsReadPart, IsResetWire, IsStaticPart, IsWire, IsWritePart}
use Rattle.i3c_wave.specs.declared.awaited.Awaited.{Awaited}
use Rattle.i3c_wire_laws.specs.Wires.{AreLegacies, Leads, place_behind, place_in}
use Rattle.i3c_wire_laws.proofs.FrameWalks.{entry_apart, frame_leads, serve_leads}
use Rattle.i3c_wire_laws.proofs.OwnWalks.{get_leads, kinds_lead, length_leads, offer_leads, read_leads, round_leads, setting_leads, write_leads}
use Rattle.i3c_wire_laws.proofs.Walks.{words_stop}

-- the address of a command that isn't refused is no legacy target's
target_apart : (legacies : ℕ) (st : State) (a : ℕ) → AreLegacies st.legacy legacies → Addresses st → is_no_target st a ≡ false → is_in legacies a ≡ false
target_apart legacies st a are known h = go (entry_at st a) refl (or_parts (is_none (entry_at st a)) (active_has st a) h).0
  where
    go : (o : Option Entry) → entry_at st a ≡ o → is_none o ≡ false → is_in legacies a ≡ false
    go None e h = absurd (true≢false h)
    go (Some entry) e h = entry_apart legacies st a entry are known e

-- the address of a handover that isn't refused is no legacy target's
controller_apart : (legacies : ℕ) (st : State) (a : ℕ) → AreLegacies st.legacy legacies → Addresses st → is_no_controller (entry_at st a) ≡ false → is_in legacies a ≡ false
controller_apart legacies st a are known h = go (entry_at st a) refl h
  where
    go : (o : Option Entry) → entry_at st a ≡ o → is_no_controller o ≡ false → is_in legacies a ≡ false
    go None e h = absurd (true≢false h)
    go (Some entry) e h = entry_apart legacies st a entry are known e

-- a static address at which an identity is declared is no legacy target's
static_apart : (legacies : ℕ) (st : State) (f : ℕ) → AreLegacies st.legacy legacies → Addresses st → is_none (declared_at st f) ≡ false → is_in legacies f ≡ false
static_apart legacies st f are known h = go (declared_at st f) refl h
  where
    go : (o : Option Identity) → declared_at st f ≡ o → is_none o ≡ false → is_in legacies f ≡ false
    go None e h = absurd (true≢false h)
    go (Some i) e h = are.same f ∙ ap is_some (known.lone f i e)

-- RSTDAA, DEFTGTS and ENTDAA
reset_leads : (legacies : ℕ) (wire : List Symbol) → IsResetWire wire → Leads legacies (Some Awaited.Code) wire None
reset_leads legacies wire h = ap (place_behind legacies (Some Awaited.Code)) h.2 ∙ words_stop legacies Awaited.Code (h.0 ∷ []) tt

list_leads : (legacies : ℕ) (words : List Word) (wire : List Symbol) → IsListWire words wire → Leads legacies (Some Awaited.Code) wire None
list_leads legacies words wire h = ap (place_behind legacies (Some Awaited.Code)) h.2 ∙ words_stop legacies Awaited.Code (h.0 ∷ words) tt

open_leads : (legacies : ℕ) (wire : List Symbol) → IsOpenWire wire → Leads legacies (Some Awaited.Code) wire (Some (Awaited.Word true))
open_leads legacies wire h = ap (place_behind legacies (Some Awaited.Code)) h.2 ∙ ap (λ byte. Some (Some (Awaited.Word (byte == 7)))) h.1.0

-- an offer that nobody took
declined_leads : (legacies : ℕ) (old : State) (cuts : CutList) (to : ℕ) (new : State) (begun : ℕ) (wire : List Symbol) → is_in legacies to ≡ false
    → IsDeclinedPart old cuts to new begun wire → Leads legacies (Some Awaited.Code) wire None
declined_leads legacies old cuts to new begun wire apart h = offer_leads legacies to h.0 wire apart h.5

-- the place with a session, or without one
abbrev place_by : Bool → Option Awaited
place_by busy = if busy then Some (Awaited.Word true) else None

-- from a state with this session, by an answer that leaves that one
abbrev Between : ℕ → Bool → List Symbol → Bool → Type 0
Between legacies was wire is = Leads legacies (place_by was) wire (place_by is)

placed : (legacies : ℕ) (was is before after : Bool) (wire : List Symbol) → before ≡ was → after ≡ is → Between legacies was wire is → Between legacies before wire after
placed legacies was is before after wire e f h = subst (λ b. Between legacies b wire after) (sym e) (subst (λ a. Between legacies was wire a) (sym f) h)

-- an event that sends nothing and leaves the session
silent : (legacies : ℕ) (was after : Bool) (wire : List Symbol) → wire ≡ [] → after ≡ was → Between legacies was wire after
silent legacies was after wire e f = ap (place_behind legacies (place_by was)) e ∙ sym (ap (λ b. Some (place_by b)) f)

-- a frame outside a session, which opens none
closed : (legacies : ℕ) (was after : Bool) (wire : List Symbol) → was ≡ false → after ≡ was → Leads legacies None wire None → Between legacies was wire after
closed legacies was after wire e f h = placed legacies false false was after wire e (f ∙ e) h

acts_lead : (legacies : ℕ) (old : State) (event : Event) (reply : Reply) (new : State) (wire : List Symbol) → AreLegacies old.legacy legacies → Addresses old
    → first_refusal (checks old event) ≡ None → Acts old event reply new → new.in_session ≡ session_after reply old.in_session → IsWire old event reply new wire
    → Between legacies old.in_session wire new.in_session
acts_lead legacies old (Attach s setup) reply new wire are known free h session w =
    silent legacies old.in_session new.in_session wire (subst (λ r. IsWire old (Attach s setup) r new wire) h.0 w) (session ∙ ap (λ r. session_after r old.in_session) h.0)
acts_lead legacies old (DropOff s) reply new wire are known free h session w =
    silent legacies old.in_session new.in_session wire (subst (λ r. IsWire old (DropOff s) r new wire) h.0 w) (session ∙ ap (λ r. session_after r old.in_session) h.0)
acts_lead legacies old (Raise s byte) reply new wire are known free h session w =
    silent legacies old.in_session new.in_session wire (subst (λ r. IsWire old (Raise s byte) r new wire) h.0 w) (session ∙ ap (λ r. session_after r old.in_session) h.0)
acts_lead legacies old (AskJoin s) reply new wire are known free h session w =
    silent legacies old.in_session new.in_session wire (subst (λ r. IsWire old (AskJoin s) r new wire) h.0 w) (session ∙ ap (λ r. session_after r old.in_session) h.0)
acts_lead legacies old (AskRole s) reply new wire are known free h session w =
    silent legacies old.in_session new.in_session wire (subst (λ r. IsWire old (AskRole s) r new wire) h.0 w) (session ∙ ap (λ r. session_after r old.in_session) h.0)
acts_lead legacies old (Serve policy cuts) reply new wire are known free h session w =
    closed legacies old.in_session new.in_session wire (no_test 0 (checks old (Serve policy cuts)) free) (session ∙ ap (λ r. session_after r old.in_session) h.1)
    (serve_leads legacies old cuts h.0 new wire are known (subst (λ r. IsWire old (Serve policy cuts) r new wire) h.1 w))
acts_lead legacies old (Enec to kinds policy cuts) reply new wire are known free h session w =
    closed legacies old.in_session new.in_session wire (no_test 0 (checks old (Enec to kinds policy cuts)) free) (session ∙ ap (λ r. session_after r old.in_session) h.1)
    (frame_leads legacies old cuts h.0.served new (IsKindsPart old cuts Change.Enable to kinds h.0.answer) wire None are known
    (λ bits own k. kinds_lead legacies Change.Enable to kinds h.0.answer own
    (λ a e. target_apart legacies old a are known (no_test 2 (checks old (Enec (Some a) kinds policy cuts)) (subst (λ t. first_refusal (checks old (Enec t kinds policy cuts)) ≡ None) e free))) k.0)
    (subst (λ r. IsWire old (Enec to kinds policy cuts) r new wire) h.1 w))
acts_lead legacies old (Disec to kinds policy cuts) reply new wire are known free h session w =
    closed legacies old.in_session new.in_session wire (no_test 0 (checks old (Disec to kinds policy cuts)) free) (session ∙ ap (λ r. session_after r old.in_session) h.1)
    (frame_leads legacies old cuts h.0.served new (IsKindsPart old cuts Change.Disable to kinds h.0.answer) wire None are known
    (λ bits own k. kinds_lead legacies Change.Disable to kinds h.0.answer own
    (λ a e. target_apart legacies old a are known (no_test 2 (checks old (Disec (Some a) kinds policy cuts)) (subst (λ t. first_refusal (checks old (Disec t kinds policy cuts)) ≡ None) e free))) k.0)
    (subst (λ r. IsWire old (Disec to kinds policy cuts) r new wire) h.1 w))
acts_lead legacies old (Reset policy cuts) reply new wire are known free h session w =
    closed legacies old.in_session new.in_session wire (no_test 0 (checks old (Reset policy cuts)) free) (session ∙ ap (λ r. session_after r old.in_session) h.1)
    (frame_leads legacies old cuts h.0 new _ wire None are known (λ bits own k. reset_leads legacies own k) (subst (λ r. IsWire old (Reset policy cuts) r new wire) h.1 w))
acts_lead legacies old (SendList policy cuts) reply new wire are known free h session w =
    closed legacies old.in_session new.in_session wire (no_test 0 (checks old (SendList policy cuts)) free) (session ∙ ap (λ r. session_after r old.in_session) h.1)
    (frame_leads legacies old cuts h.0 new (λ bits own. IsListPart old own) wire None are known (λ bits own k. list_leads legacies k.0 own k.2) (subst (λ r. IsWire old (SendList policy cuts) r new wire) h.1 w))
acts_lead legacies old (ReadFrom a policy cuts) reply new wire are known free h session w =
    closed legacies old.in_session new.in_session wire (no_test 0 (checks old (ReadFrom a policy cuts)) free) (session ∙ ap (λ r. session_after r old.in_session) h.1)
    (frame_leads legacies old cuts h.0.served new (IsReadPart old cuts a h.0.answer) wire None are known (λ bits own k. read_leads legacies old a cuts _ k.0 own are k.3 k.4)
    (subst (λ r. IsWire old (ReadFrom a policy cuts) r new wire) h.1 w))
acts_lead legacies old (WriteTo a bytes policy cuts) reply new wire are known free h session w =
    closed legacies old.in_session new.in_session wire (no_test 0 (checks old (WriteTo a bytes policy cuts)) free) (session ∙ ap (λ r. session_after r old.in_session) h.1)
    (frame_leads legacies old cuts h.0.served new (IsWritePart old cuts a bytes.items h.0.answer) wire None are known (λ bits own k. write_leads legacies old a bytes.items k.0 own are k.3 k.4)
    (subst (λ r. IsWire old (WriteTo a bytes policy cuts) r new wire) h.1 w))
acts_lead legacies old (SetStatic f to policy cuts) reply new wire are known free h session w =
    closed legacies old.in_session new.in_session wire (no_test 0 (checks old (SetStatic f to policy cuts)) free) (session ∙ ap (λ r. session_after r old.in_session) h.1)
    (frame_leads legacies old cuts h.0.served new (IsStaticPart old cuts f to h.0.answer) wire None are known
    (λ bits own k. setting_leads legacies 0x87 f to h.0.answer own refl (static_apart legacies old f are known (no_test 2 (checks old (SetStatic f to policy cuts)) free)) k.0)
    (subst (λ r. IsWire old (SetStatic f to policy cuts) r new wire) h.1 w))
acts_lead legacies old (SetNew a to policy cuts) reply new wire are known free h session w =
    closed legacies old.in_session new.in_session wire (no_test 0 (checks old (SetNew a to policy cuts)) free) (session ∙ ap (λ r. session_after r old.in_session) h.1)
    (frame_leads legacies old cuts h.0.served new (IsNewPart old cuts a to h.0.answer) wire None are known
    (λ bits own k. setting_leads legacies 0x88 a to h.0.answer own refl (target_apart legacies old a are known (no_test 2 (checks old (SetNew a to policy cuts)) free)) k.0)
    (subst (λ r. IsWire old (SetNew a to policy cuts) r new wire) h.1 w))
acts_lead legacies old (Get what a policy cuts) reply new wire are known free h session w =
    closed legacies old.in_session new.in_session wire (no_test 0 (checks old (Get what a policy cuts)) free) (session ∙ ap (λ r. session_after r old.in_session) h.1)
    (frame_leads legacies old cuts h.0.served new (IsGetPart old cuts what a h.0.answer new) wire None are known
    (λ bits own k. get_leads legacies what a k.1 own (target_apart legacies old a are known (no_test 2 (checks old (Get what a policy cuts)) free)) k.6)
    (subst (λ r. IsWire old (Get what a policy cuts) r new wire) h.1 w))
acts_lead legacies old (SetLength way most to policy cuts) reply new wire are known free h session w =
    closed legacies old.in_session new.in_session wire (no_test 0 (checks old (SetLength way most to policy cuts)) free) (session ∙ ap (λ r. session_after r old.in_session) h.1)
    (frame_leads legacies old cuts h.0.served new (IsLengthPart old cuts way to most h.0.answer) wire None are known
    (λ bits own k. length_leads legacies way to most h.0.answer own
    (λ a e. target_apart legacies old a are known (no_test 2 (checks old (SetLength way most (Some a) policy cuts)) (subst (λ t. first_refusal (checks old (SetLength way most t policy cuts)) ≡ None) e free))) k.0)
    (subst (λ r. IsWire old (SetLength way most to policy cuts) r new wire) h.1 w))
acts_lead legacies old (OpenDaa cuts) reply new wire are known free h session w =
    placed legacies false true old.in_session new.in_session wire (no_test 0 (checks old (OpenDaa cuts)) free) (session ∙ ap (λ r. session_after r old.in_session) h.1)
    (frame_leads legacies old cuts h.0 new _ wire (Some (Awaited.Word true)) are known (λ bits own k. open_leads legacies own k) (subst (λ r. IsWire old (OpenDaa cuts) r new wire) h.1 w))
acts_lead legacies old (HandOver to cuts) reply new wire are known free h session w =
    let apart = controller_apart legacies old to are known (no_test 3 (checks old (HandOver to cuts)) free) in
    let outside = no_test 0 (checks old (HandOver to cuts)) free in
    elim h [
      | inl g ↦ closed legacies old.in_session new.in_session wire outside (session ∙ ap (λ r. session_after r old.in_session) g.1)
          (frame_leads legacies old cuts g.0 new _ wire None are known (λ bits own k. offer_leads legacies to (Offer.Taken new.active) own apart k) (subst (λ r. IsWire old (HandOver to cuts) r new wire) g.1 w))
      | inr g ↦ closed legacies old.in_session new.in_session wire outside (session ∙ ap (λ r. session_after r old.in_session) g.2)
          (frame_leads legacies old cuts g.0 new _ wire None are known (λ bits own k. declined_leads legacies old cuts to new bits own apart k) (subst (λ r. IsWire old (HandOver to cuts) r new wire) g.2 w))
    ]
acts_lead legacies old (Round cuts) reply new wire are known free h session w =
    let inside : old.in_session ≡ true = not-false old.in_session (no_test 0 (checks old (Round cuts)) free) in
    let sent = subst (λ r. IsWire old (Round cuts) r new wire) h.1 w in
    placed legacies true true old.in_session new.in_session wire inside (session ∙ ap (λ r. session_after r old.in_session) h.1 ∙ inside) (round_leads legacies sent.0 wire are.others sent.4)
acts_lead legacies old EndDaa reply new wire are known free h session w =
    placed legacies true false old.in_session new.in_session wire (not-false old.in_session (no_test 0 (checks old EndDaa) free)) (session ∙ ap (λ r. session_after r old.in_session) h.0)
    (ap (place_behind legacies (Some (Awaited.Word true))) (subst (λ r. IsWire old EndDaa r new wire) h.0 w))

idle_leads : (legacies : ℕ) (old : State) (event : Event) (reply : Reply) (new : State) (wire : List Symbol) → IsIdle reply → new ≡ old → IsWire old event reply new wire
    → Between legacies old.in_session wire new.in_session
idle_leads legacies old event reply new wire (refused why r) e w = silent legacies old.in_session new.in_session wire (subst (λ x. IsWire old event x new wire) r w) (ap (λ (st : State). st.in_session) e)
idle_leads legacies old event reply new wire (short r) e w = silent legacies old.in_session new.in_session wire (subst (λ x. IsWire old event x new wire) r w) (ap (λ (st : State). st.in_session) e)

-- what a step sends leads from the place before it to the one after it
pub step_leads : (legacies : ℕ) (old : State) (event : Event) (reply : Reply) (new : State) (wire : List Symbol) → IsSound old → AreLegacies old.legacy legacies
    → Step old event reply new → IsWire old event reply new wire → Leads legacies (place_in old) wire (place_in new)
step_leads legacies old event reply new wire sound are h w =
    step_cases old event reply new h (λ idle e. idle_leads legacies old event reply new wire idle e w)
    (λ free acts. acts_lead legacies old event reply new wire are sound.addresses free acts (slots_kept old event reply new h).session w)
