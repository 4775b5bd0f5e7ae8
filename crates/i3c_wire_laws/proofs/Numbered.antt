-- Bits that are sent, by the rising edges of SCL.
use Rattle.std.proofs.Common.{◌≡◌, ℕ, Bool, true, false, List, [], ◌∷◌, Option, Some, None, flat_map, option_and_then, refl, subst}
use Rattle.i3c_frame.specs.declared.symbols.Symbol.{Symbol}
use Rattle.i3c_wave.specs.declared.awaited.Awaited.{Awaited}
use Rattle.i3c_wave.specs.Awaited.{goes_on, next_awaited, next_place, open_place}
use Rattle.i3c_wave.specs.Clocks.{AreOfFrames, clocked_in}
use Rattle.i3c_wave.specs.Levels.{bits_of, high, wire_levels}
use Rattle.i3c_wave.proofs.ClockLaws.{frames_clocked}
use Rattle.i3c_wire_laws.specs.Wires.{Leads, place_behind}

-- a place is inside a frame
abbrev pub is_inside : Option Awaited → Bool
is_inside None = false
is_inside (Some awaited) = true

-- symbols that lead on from where a symbol does
record Follows (legacies : ℕ) (place : Option Awaited) (symbol : Symbol) (rest : List Symbol) (next : Option Awaited) : Type 0 where
  mid : Option Awaited
  may : next_place legacies place symbol ≡ Some mid
  leads : Leads legacies mid rest next

follows : (legacies : ℕ) (place : Option Awaited) (symbol : Symbol) (rest : List Symbol) (next : Option Awaited) → Leads legacies place (symbol ∷ rest) next → Follows legacies place symbol rest next
follows legacies place symbol rest next h = go (next_place legacies place symbol) refl h
  where
    go : (o : Option (Option Awaited)) → next_place legacies place symbol ≡ o → option_and_then (λ mid. place_behind legacies mid rest) o ≡ Some next → Follows legacies place symbol rest next
    go None e h = cc
    go (Some mid) e h = record { mid = mid; may = e; leads = h }

-- behind a symbol of bits the frame goes on
on_inside : (next : Option Awaited) (symbols : List Symbol) (awaited : Option Awaited) → goes_on awaited ≡ Some next → AreOfFrames (is_inside next) symbols → AreOfFrames true symbols
on_inside next symbols None e framed = cc
on_inside next symbols (Some awaited) e framed = let same : next ≡ Some awaited = cc in subst (λ next. AreOfFrames (is_inside next) symbols) same framed

opened_to : (next to : Option Awaited) (symbols : List Symbol) (awaited : Awaited) → open_place awaited to ≡ Some next → AreOfFrames (is_inside next) symbols → AreOfFrames (is_inside to) symbols
opened_to next to symbols (Awaited.Header assigning) e framed = cc
opened_to next to symbols awaited e framed = let same : next ≡ to = cc in subst (λ next. AreOfFrames (is_inside next) symbols) same framed

-- symbols that lead from place to place are of frames
pub leads_framed : (legacies : ℕ) (place : Option Awaited) (symbols : List Symbol) (next : Option Awaited) → Leads legacies place symbols next → AreOfFrames (is_inside place) symbols
leads_framed legacies place [] next h = tt
leads_framed legacies None (Symbol.Start ∷ rest) next h =
    let f = follows legacies None Symbol.Start rest next h in
    let may = f.may in
    let same : f.mid ≡ Some (Awaited.Header false) = cc in
    subst (λ mid. AreOfFrames (is_inside mid) rest) same (leads_framed legacies f.mid rest next f.leads)
leads_framed legacies None (symbol ∷ rest) next h = let e = (follows legacies None symbol rest next h).may in cc
leads_framed legacies (Some awaited) (Symbol.Start ∷ rest) next h = let e = (follows legacies (Some awaited) Symbol.Start rest next h).may in cc
leads_framed legacies (Some awaited) (Symbol.Stop ∷ rest) next h =
    let f = follows legacies (Some awaited) Symbol.Stop rest next h in
    opened_to f.mid None rest awaited f.may (leads_framed legacies f.mid rest next f.leads)
leads_framed legacies (Some awaited) (Symbol.Repeated ∷ rest) next h =
    let f = follows legacies (Some awaited) Symbol.Repeated rest next h in
    opened_to f.mid (Some _) rest awaited f.may (leads_framed legacies f.mid rest next f.leads)
leads_framed legacies (Some awaited) (symbol ∷ rest) next h =
    let f = follows legacies (Some awaited) symbol rest next h in
    on_inside f.mid rest (next_awaited legacies awaited symbol) f.may (leads_framed legacies f.mid rest next f.leads)

pub leads_clocked : (legacies : ℕ) (sda : Bool) (place : Option Awaited) (symbols : List Symbol) (next : Option Awaited) → Leads legacies place symbols next
    → clocked_in (high sda) (wire_levels symbols) ≡ flat_map bits_of symbols
leads_clocked legacies sda place symbols next h = frames_clocked (is_inside place) sda symbols (leads_framed legacies place symbols next h)
