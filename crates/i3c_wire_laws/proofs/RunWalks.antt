-- What whole runs send.
use Rattle.std.proofs.lemmas.Option.{none-some, same_Some}
use Rattle.std.proofs.lemmas.List.Elements.{All-head, All-tail}
use Rattle.std.proofs.Common.{◌≡◌, ◌∙◌, ℕ, zero, suc, Bool, true, false, List, [], ◌∷◌, All, map, Option, Some, None, is_some, option_and_then, get_or, if◌then◌else◌, ap, refl, sym}
use Rattle.i3c_base.specs.declared.addresses.Addresses.{Addresses}
use Rattle.i3c_base.specs.declared.device.Setup.{Setup}
use Rattle.i3c_base.specs.declared.identity.Lvr.{Lvr}
use Rattle.i3c_base.specs.State.{Board, IsStart, State, legacy_target_at, legacy_targets_of}
use Rattle.i3c_frame.specs.declared.symbols.Symbol.{Symbol}
use Rattle.i3c_frame.specs.Texts.{IsInRange}
use Rattle.i3c_step.specs.declared.events.Event.{Event}
use Rattle.i3c_step.specs.declared.replies.Reply.{Reply}
use Rattle.i3c_step.specs.Sound.{IsSound}
use Rattle.i3c_step.proofs.Soundness.{sound_start, sound_step}
use Rattle.i3c_wave.specs.declared.awaited.Awaited.{Awaited}
use Rattle.i3c_wave.specs.declared.reader.Reading.{Reading}
use Rattle.i3c_wave.specs.Awaited.{IsWireFrom, next_place}
use Rattle.i3c_wave.specs.Edges.{free_lines, marks_heard}
use Rattle.i3c_wave.specs.Levels.{wire_levels}
use Rattle.i3c_wave.specs.Reading.{awaiting, read_from}
use Rattle.i3c_wave.proofs.ReadBack.{read_back}
use Rattle.i3c_wire_laws.specs.Fitting.{EventFits, StartFits}
use Rattle.i3c_wire_laws.specs.Wires.{AreLegacies, IsSent, Leads, place_behind, place_in}
use Rattle.i3c_wire_laws.proofs.EventRanges.{all_fit}
use Rattle.i3c_wire_laws.proofs.EventWalks.{step_leads}
use Rattle.i3c_wire_laws.proofs.RunRanges.{legal_fits}
use Rattle.i3c_wire_laws.proofs.Targets.{KeepsTargets, keeps_step}
use Rattle.i3c_wire_laws.proofs.Walks.{lead_on}

-- legacy targets at the same addresses have one set
pub still_legacies : (legacies : ℕ) (old new : State) → KeepsTargets old new → AreLegacies old.legacy legacies → AreLegacies new.legacy legacies
still_legacies legacies old new keeps are = record { same = λ a. are.same a ∙ sym (keeps a); others = are.others }

-- what a run sends, from a sound bus on
run_leads : (legacies : ℕ) (old : State) (events : List Event) (replies : List Reply) (new : State) (wire : List Symbol) → IsSound old → AreLegacies old.legacy legacies
    → IsSent old events replies new wire → Leads legacies (place_in old) wire (place_in new)
run_leads legacies old [] [] new wire sound are h = ap (place_behind legacies (place_in old)) h.1 ∙ sym (ap (λ st. Some (place_in st)) h.0)
run_leads legacies old (event ∷ events) (reply ∷ replies) new wire sound are h =
    let later = run_leads legacies h.0 events replies new h.2 (sound_step old event reply h.0 h.3.0 sound) (still_legacies legacies old h.0 (keeps_step old event reply h.0 h.3.0) are) h.4 in
    ap (place_behind legacies (place_in old)) h.5
    ∙ lead_on legacies (place_in old) (place_in h.0) (place_in new) h.1 h.2 (step_leads legacies old event reply h.0 h.1 sound are h.3.0 h.3.1) later
run_leads legacies old [] (reply ∷ replies) new wire sound are h = absurd h
run_leads legacies old (event ∷ events) [] new wire sound are h = absurd h

-- a bus starts with the legacy targets of its board
started : (lvrs : List (Option Lvr)) (a : ℕ) → is_some (get_or (legacy_targets_of lvrs) a None) ≡ is_some (get_or lvrs a None)
started [] a = refl
started (None ∷ rest) zero = refl
started (Some lvr ∷ rest) zero = refl
started (lvr ∷ rest) (suc a) = started rest a

starts_with : (legacies : ℕ) (main : Setup) (board : Board) (start : State) → IsStart main board start → AreLegacies board.legacy legacies → AreLegacies start.legacy legacies
starts_with legacies main board start h are = record {
  same = λ a. are.same a ∙ (sym (started board.legacy a) ∙ sym (ap (λ (st : State). is_some (legacy_target_at st a)) h.2));
  others = are.others;
}

pub legal_leads : (legacies : ℕ) (main : Setup) (board : Board) (start : State) (events : List Event) (replies : List Reply) (new : State) (wire : List Symbol)
    → AreLegacies board.legacy legacies → IsStart main board start → IsSent start events replies new wire → Leads legacies None wire (place_in new)
legal_leads legacies main board start events replies new wire are begins h =
    ap (λ (st : State). place_behind legacies (place_in st) wire) (sym begins.2)
    ∙ run_leads legacies start events replies new wire (sound_start main board start begins) (starts_with legacies main board start begins are) h

-- an allowed symbol, and a wire behind it
whole_by : (legacies : ℕ) (place : Option Awaited) (symbol : Symbol) (rest : List Symbol) (o : Option (Option Awaited)) → IsInRange symbol → ((next : Option Awaited) → Leads legacies next rest None → IsWireFrom legacies next rest)
    → next_place legacies place symbol ≡ o → option_and_then (λ n. place_behind legacies n rest) o ≡ Some None → IsWireFrom legacies place (symbol ∷ rest)
whole_by legacies place symbol rest None range later e h = absurd (none-some None h)
whole_by legacies place symbol rest (Some next) range later e h = (next, e, range, later next h)

-- symbols that lead to the end of a frame, and whose numbers fit their types, are a wire
whole : (legacies : ℕ) (place : Option Awaited) (symbols : List Symbol) → Leads legacies place symbols None → All IsInRange symbols → IsWireFrom legacies place symbols
whole legacies place [] h ranges = same_Some place None h
whole legacies place (symbol ∷ rest) h ranges =
    whole_by legacies place symbol rest (next_place legacies place symbol) (All-head IsInRange symbol rest ranges)
    (λ next lead. whole legacies next rest lead (All-tail IsInRange symbol rest ranges)) refl h

-- what a legal run sends, where no session is open at the end
pub run_wire : (legacies : ℕ) (main : Setup) (board : Board) (start : State) (events : List Event) (replies : List Reply) (new : State) (wire : List Symbol)
    → AreLegacies board.legacy legacies → StartFits main board → All EventFits events → IsStart main board start → IsSent start events replies new wire → new.in_session ≡ false
    → IsWireFrom legacies None wire
run_wire legacies main board start events replies new wire are fits brings begins h outside =
    let leads = legal_leads legacies main board start events replies new wire are begins h in
    let ends : Leads legacies None wire None = leads ∙ ap (λ (b : Bool). Some (if b then Some (Awaited.Word true) else None)) outside in
    whole legacies None wire ends (all_fit wire (legal_fits main board start events replies new wire fits brings begins h))

pub run_read_back : (legacies : Addresses) (main : Setup) (board : Board) (start : State) (events : List Event) (replies : List Reply) (new : State) (wire : List Symbol)
    → AreLegacies board.legacy legacies.0 → StartFits main board → All EventFits events → IsStart main board start → IsSent start events replies new wire → new.in_session ≡ false
    → read_from (awaiting legacies None) (marks_heard free_lines (wire_levels wire)) ≡ map Reading.Symbol wire
run_read_back legacies main board start events replies new wire are fits brings begins h outside =
    read_back legacies wire (run_wire legacies.0 main board start events replies new wire are fits brings begins h outside)
