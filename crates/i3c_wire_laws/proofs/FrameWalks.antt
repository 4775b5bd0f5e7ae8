-- How a frame begins, and goes on to its own part.
use Rattle.std.proofs.lemmas.Bool.{false≢true}
use Rattle.std.proofs.Common.{◌≡◌, ◌∙◌, ℕ, Bool, true, false, List, [], ◌∷◌, ◌++◌, Option, Some, None, is_some, ap, refl, sym}
use Rattle.i3c_base.specs.declared.requests.Request.{Request}
use Rattle.i3c_base.specs.declared.requests.Request.TheVariants.{Join, Role, Interrupt}
use Rattle.i3c_base.specs.declared.requests.Served.{Served}
use Rattle.i3c_base.specs.declared.requests.Served.TheVariants.{Quiet, Recorded, Refused, Torn, Joining, WantsRole}
use Rattle.i3c_base.specs.Cutting.{CutList}
use Rattle.i3c_base.specs.Serve.{IsFirst, byte_due}
use Rattle.i3c_base.specs.Sets.{is_in}
use Rattle.i3c_base.specs.State.{Entry, State, entry_at}
use Rattle.i3c_frame.specs.declared.symbols.Symbol.{Symbol}
use Rattle.i3c_frame.specs.declared.symbols.Symbol.TheVariants.{Start, Repeated, Stop, Header}
use Rattle.i3c_header.specs.Keys.{address_of, is_read}
use Rattle.i3c_ibi.specs.Wire.{byte_word, request_header}
use Rattle.i3c_step.specs.Sound.{Addresses}
use Rattle.i3c_step.proofs.Drivers.{Drives-from}
use Rattle.i3c_bus.specs.Wire.{IsBegun, IsFrameWire, IsOn, IsServeWire}
use Rattle.i3c_wave.specs.declared.awaited.Awaited.{Awaited}
use Rattle.i3c_wave.specs.Awaited.{awaited_behind, was_assigning}
use Rattle.i3c_wire_laws.specs.Wires.{AreLegacies, Leads, place_behind}
use Rattle.i3c_wire_laws.proofs.Walks.{IsBehindHeader, behind_header, code_behind, lead_first, lead_on, read_behind, stop_behind}

-- an address of the table is no legacy target's
pub entry_apart : (legacies : ℕ) (st : State) (a : ℕ) (e : Entry) → AreLegacies st.legacy legacies → Addresses st → entry_at st a ≡ Some e → is_in legacies a ≡ false
entry_apart legacies st a e are known h = are.same a ∙ ap is_some (known.free a e h)

-- an address whose interrupts have a mandatory byte is no legacy target's
due_apart : (legacies : ℕ) (st : State) (a : ℕ) → AreLegacies st.legacy legacies → Addresses st → byte_due (entry_at st a) ≡ true → is_in legacies a ≡ false
due_apart legacies st a are known h = go (entry_at st a) refl h
  where
    go : (o : Option Entry) → entry_at st a ≡ o → byte_due o ≡ true → is_in legacies a ≡ false
    go None e h = absurd (false≢true h)
    go (Some entry) e h = entry_apart legacies st a entry are known e

-- an address whose device drives an interrupt is no legacy target's
driven_apart : (legacies : ℕ) (st : State) (a : ℕ) → AreLegacies st.legacy legacies → Addresses st → IsFirst st (Interrupt a) → is_in legacies a ≡ false
driven_apart legacies st a are known first =
    let s = first.driven.0 in
    let d = Drives-from st a s first.driven.1 in
    let e = known.used s a d.device d.there d.address in
    entry_apart legacies st a e.0 are known e.1

-- where the wire is behind a frame's beginning: behind its first header, which is the broadcast where nobody asks
pub record Begins (legacies : ℕ) (served : Served) (begun : List Symbol) : Type 0 where
  pub place : Awaited
  pub leads : Leads legacies None begun (Some place)
  pub behind : IsBehindHeader place
  pub quiet : served ≡ Quiet → place ≡ Awaited.Code

-- the header of a request alone
begins_by : (legacies : ℕ) (served : Served) (r : Request) (ack : Bool) (begun : List Symbol) → (served ≡ Quiet → ⊥) → begun ≡ Start ∷ request_header r ack ∷ [] → Begins legacies served begun
begins_by legacies served r ack begun other e = record {
  place = awaited_behind legacies false (address_of r) (is_read r) ack;
  leads = ap (place_behind legacies None) e;
  behind = behind_header legacies (address_of r) (is_read r) ack;
  quiet = λ q. absurd (other q);
}

-- the header of an interrupt, and a word
begins_with_word : (legacies : ℕ) (served : Served) (a byte : ℕ) (t : Bool) (begun : List Symbol) → (served ≡ Quiet → ⊥) → is_in legacies a ≡ false
    → begun ≡ Start ∷ request_header (Interrupt a) true ∷ Symbol.Word (record { byte = byte; t = t }) ∷ [] → Begins legacies served begun
begins_with_word legacies served a byte t begun other apart e = record {
  place = Awaited.Word false;
  leads = ap (place_behind legacies None) e ∙ ap (λ p. place_behind legacies (Some p) (Symbol.Word (record { byte = byte; t = t }) ∷ [])) (read_behind legacies a true apart);
  behind = record { opens = λ next. refl; plain = refl };
  quiet = λ q. absurd (other q);
}

-- the header of an interrupt, and its byte if there is one
begins_recorded : (legacies place : ℕ) (a : ℕ) (byte : Option ℕ) (begun : List Symbol) → (is_some byte ≡ true → is_in legacies a ≡ false)
    → begun ≡ Start ∷ request_header (Interrupt a) true ∷ byte_word byte → Begins legacies (Recorded place) begun
begins_recorded legacies place a None begun apart e = begins_by legacies (Recorded place) (Interrupt a) true begun (λ q. cc) e
begins_recorded legacies place a (Some byte) begun apart e = begins_with_word legacies (Recorded place) a byte false begun (λ q. cc) (apart refl) e

pub begins : (legacies : ℕ) (old : State) (cuts : CutList) (served : Served) (new : State) (begun : List Symbol) → AreLegacies old.legacy legacies → Addresses old
    → IsBegun old cuts served new begun → Begins legacies served begun
begins legacies old cuts Quiet new begun are known h = record {
  place = Awaited.Code;
  leads = ap (place_behind legacies None) h.2 ∙ ap (λ p. Some (Some p)) (code_behind legacies false h.0 are.others);
  behind = record { opens = λ next. refl; plain = refl };
  quiet = λ q. refl;
}
begins legacies old cuts Refused new begun are known h = begins_by legacies Refused h.0 false begun (λ q. cc) h.2
begins legacies old cuts Joining new begun are known h = begins_by legacies Joining Join true begun (λ q. cc) h
begins legacies old cuts (WantsRole a) new begun are known h = begins_by legacies (WantsRole a) (Role a) true begun (λ q. cc) h
begins legacies old cuts (Recorded place) new begun are known h =
    begins_recorded legacies place h.0.at h.0.byte begun (λ some. due_apart legacies old h.0.at are known (sym h.2 ∙ some)) h.5
begins legacies old cuts Torn new begun are known h =
    begins_with_word legacies Torn h.0 h.1 true begun (λ q. cc) (driven_apart legacies old h.0 are known h.2) h.5

-- a repeated START and the broadcast header
again : (legacies : ℕ) (place : Awaited) (ack : Bool) (on : List Symbol) → is_in legacies 126 ≡ false → IsBehindHeader place → on ≡ Repeated ∷ Header 0x7E false ack ∷ []
    → Leads legacies (Some place) on (Some Awaited.Code)
again legacies place ack on none h e =
    ap (place_behind legacies (Some place)) e
    ∙ lead_first legacies (Some place) (Some (Awaited.Header (was_assigning place))) (Some Awaited.Code) Repeated (Header 0x7E false ack ∷ []) (h.opens _)
    (ap (λ p. Some (Some p)) (code_behind legacies (was_assigning place) ack none))

-- a frame goes on to its own part
goes_on_by : (legacies : ℕ) (old : State) (cuts : CutList) (served : Served) (word : ℕ) (begun on : List Symbol) → is_in legacies 126 ≡ false → (b : Begins legacies served begun)
    → IsOn old cuts served word on → Leads legacies (Some b.place) on (Some Awaited.Code)
goes_on_by legacies old cuts Quiet word begun on none b h =
    ap (place_behind legacies (Some b.place)) h ∙ ap (λ p. Some (Some p)) (b.quiet refl)
goes_on_by legacies old cuts Refused word begun on none b h = again legacies b.place h.0 on none b.behind h.2
goes_on_by legacies old cuts Joining word begun on none b h = again legacies b.place h.0 on none b.behind h.2
goes_on_by legacies old cuts (WantsRole a) word begun on none b h = again legacies b.place h.0 on none b.behind h.2
goes_on_by legacies old cuts (Recorded place) word begun on none b h = again legacies b.place h.0 on none b.behind h.2
goes_on_by legacies old cuts Torn word begun on none b h = again legacies b.place h.0 on none b.behind h.2

-- a whole frame, by its own part
pub frame_leads : (legacies : ℕ) (old : State) (cuts : CutList) (served : Served) (new : State) (IsOwn : ℕ → List Symbol → Type 0) (wire : List Symbol) (next : Option Awaited)
    → AreLegacies old.legacy legacies → Addresses old → ((bits : ℕ) (own : List Symbol) → IsOwn bits own → Leads legacies (Some Awaited.Code) own next)
    → IsFrameWire old cuts served new IsOwn wire → Leads legacies None wire next
frame_leads legacies old cuts served new IsOwn wire next are known owns h =
    let b = begins legacies old cuts served new h.0 are known h.4 in
    let way = goes_on_by legacies old cuts served h.1 h.0 h.2 are.others b h.6 in
    ap (place_behind legacies None) h.8
    ∙ lead_on legacies None (Some Awaited.Code) next (h.0 ++ h.2) h.3 (lead_on legacies None (Some b.place) (Some Awaited.Code) h.0 h.2 b.leads way) (owns _ h.3 h.7)

pub serve_leads : (legacies : ℕ) (old : State) (cuts : CutList) (served : Served) (new : State) (wire : List Symbol) → AreLegacies old.legacy legacies → Addresses old
    → IsServeWire old cuts served new wire → Leads legacies None wire None
serve_leads legacies old cuts served new wire are known h =
    let b = begins legacies old cuts served new h.0 are known h.1 in
    ap (place_behind legacies None) h.2 ∙ lead_on legacies None (Some b.place) None h.0 (Stop ∷ []) b.leads (stop_behind legacies b.place b.behind)
