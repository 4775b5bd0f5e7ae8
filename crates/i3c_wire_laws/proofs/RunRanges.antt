-- The numbers in what whole runs send.
use Rattle.std.proofs.lemmas.List.Elements.{All-head, All-replicate, All-tail}
use Rattle.std.proofs.lemmas.Option.{none-some, same_Some}
use Rattle.std.proofs.Common.{◌≡◌, ◌∙◌, ℕ, zero, suc, true, List, [], ◌∷◌, All, Option, Some, None, replicate, get_or, arith, ap, sym, subst}
use Rattle.i3c_base.specs.declared.device.LegacyTarget.{LegacyTarget}
use Rattle.i3c_base.specs.declared.device.TheConstants.{REGISTERS}
use Rattle.i3c_base.specs.declared.device.Setup.{Setup}
use Rattle.i3c_base.specs.declared.identity.Identity.{Identity}
use Rattle.i3c_base.specs.declared.identity.Lvr.{Lvr}
use Rattle.i3c_base.specs.Numbers.{IsInRange}
use Rattle.i3c_base.specs.State.{Board, Device, Entry, IsStart, State, declared_in, entry_of, is_static, legacy_target_of, legacy_targets_of, no_entries}
use Rattle.i3c_base.proofs.Lookups.{no_entries_at, option_map_from}
use Rattle.i3c_base.proofs.StaticLaws.{declared_at_fixed}
use Rattle.i3c_frame.specs.declared.symbols.Symbol.{Symbol}
use Rattle.i3c_step.specs.declared.events.Event.{Event}
use Rattle.i3c_step.specs.declared.replies.Reply.{Reply}
use Rattle.i3c_step.specs.Sound.{IsSound}
use Rattle.i3c_step.proofs.Addresses.{start_device}
use Rattle.i3c_step.proofs.Soundness.{sound_start, sound_step}
use Rattle.i3c_wire_laws.specs.Fitting.{EntryFits, EventFits, Fits, IsByte, StartFits, TargetFits}
use Rattle.i3c_wire_laws.specs.Wires.{IsSent}
use Rattle.i3c_wire_laws.proofs.Addressing.{static_low}
use Rattle.i3c_wire_laws.proofs.EventRanges.{step_fits}
use Rattle.i3c_wire_laws.proofs.FitsKept.{fits_step, given_set}
use Rattle.i3c_wire_laws.proofs.OwnRanges.{AreInRange, ranges_on}

-- a run from a bus whose numbers fit
run_fits : (old : State) (events : List Event) (replies : List Reply) (new : State) (wire : List Symbol) → IsSound old → Fits old → All EventFits events → IsSent old events replies new wire → AreInRange wire
run_fits old [] [] new wire sound fits brings h = subst AreInRange (sym h.1) tt
run_fits old (event ∷ events) (reply ∷ replies) new wire sound fits brings h =
    let brought = All-head EventFits event events brings in
    let first = step_fits old event reply h.0 h.1 sound fits brought h.3.0 h.3.1 in
    let later = run_fits h.0 events replies new h.2 (sound_step old event reply h.0 h.3.0 sound) (fits_step old event reply h.0 brought h.3.0 fits) (All-tail EventFits event events brings) h.4 in
    subst AreInRange (sym h.5) (ranges_on h.1 h.2 first later)
run_fits old [] (reply ∷ replies) new wire sound fits brings h = absurd h
run_fits old (event ∷ events) [] new wire sound fits brings h = absurd h

-- the legacy target at a place has its LVR
target_from : (lvrs : List (Option Lvr)) (a : ℕ) (target : LegacyTarget) → get_or (legacy_targets_of lvrs) a None ≡ Some target
    → (lvr : Lvr) × (get_or lvrs a None ≡ Some lvr) × (legacy_target_of lvr ≡ target)
target_from [] a target h = absurd (none-some target h)
target_from (place ∷ rest) zero target h = option_map_from legacy_target_of place target h
target_from (place ∷ rest) (suc a) target h = target_from rest a target h

-- a legacy target at the start
cleared : (n : ℕ) → All IsByte (replicate n 0)
cleared n = All-replicate IsByte n 0 (omega arith)

target_fits : (main : Setup) (board : Board) (a : ℕ) (target : LegacyTarget) → StartFits main board → get_or (legacy_targets_of board.legacy) a None ≡ Some target → TargetFits a target
target_fits main board a target fits h =
    let t = target_from board.legacy a target h in
    let f = fits.targets a t.0 t.1 in
    subst (TargetFits a) t.2 (record { static = f.0; lvr = f.1; registers = cleared REGISTERS })

-- the first entry
first_fits : (declared : List (Option Identity)) (i : Identity) (e : Entry) → IsInRange i → ((f : ℕ) (j : Identity) → declared_in declared f ≡ Some j → is_static f ≡ true)
    → Some (entry_of declared i) ≡ Some e → EntryFits e
first_fits declared i e range static h = subst EntryFits (same_Some (entry_of declared i) e h) (record {
  bcr = range.1;
  dcr = range.2;
  fixed = λ f k. let low = static_low f (static f i (declared_at_fixed declared i f k)) in omega (arith, low);
})

-- a bus at its start
start_fits : (main : Setup) (board : Board) (start : State) → StartFits main board → IsStart main board start → Fits start
start_fits main board start fits h = subst Fits (sym h.2) (record {
  devices = λ s d p. subst IsInRange (sym (ap (λ (x : Device). x.identity) (start_device main board h.0 s d p).1)) fits.identity;
  entries = given_set no_entries h.0 (Some (entry_of board.declared main.identity)) (λ e k. first_fits board.declared main.identity e fits.identity h.3.static k) (λ a e k. absurd (none-some e (sym (no_entries_at a) ∙ k)));
  targets = λ a target k. target_fits main board a target fits k;
  declared = λ a i k. (h.3.static a i k, fits.declared a i k);
})

-- what a legal run sends
pub legal_fits : (main : Setup) (board : Board) (start : State) (events : List Event) (replies : List Reply) (new : State) (wire : List Symbol)
    → StartFits main board → All EventFits events → IsStart main board start → IsSent start events replies new wire → AreInRange wire
legal_fits main board start events replies new wire fits brings begins h =
    run_fits start events replies new wire (sound_start main board start begins) (start_fits main board start fits begins) brings h
