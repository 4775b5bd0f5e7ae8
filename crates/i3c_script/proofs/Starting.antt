-- Lines before the bus.
use Rattle.std.proofs.Common.{◌≡◌, List, [], ◌∷◌, None, MatchOption, refl, subst, sym}
use Rattle.i3c_base.specs.declared.device.Setup.{Setup}
use Rattle.i3c_base.specs.State.{Board, device_at}
use Rattle.i3c_bus.specs.Readings.{address_of}
use Rattle.i3c_lines.specs.declared.command.Command.{Command}
use Rattle.i3c_lines.specs.declared.names.Name.{Name}
use Rattle.i3c_lines.specs.declared.names.Names.{Names}
use Rattle.i3c_script.specs.declared.piece.Piece.{Piece}
use Rattle.i3c_script.specs.declared.stage.Stage.{Stage}
use Rattle.i3c_script.specs.Hearing.{all_heard}
use Rattle.i3c_script.specs.Obeying.{ComesTo, IsDone, IsRefused, Starts, main_refusal, script}
use Rattle.i3c_script.specs.Situations.{Situation, Told}

-- a bus is made, and its main controller is heard of
pub began : {L : Type 0} (heard : L → Piece → L) (stage : Stage) (board : Board) (names named : Names) (name : Name) (setup : Setup) (new : Stage) (begun : Situation Told) (before after : L) → stage ≡ Stage.Before board → main_refusal names name setup.identity.bcr ≡ None
    → Starts board names name setup begun (script new named) → after ≡ heard before (Piece.Main name (address_of (device_at begun.state 0)))
    → (pieces : List Piece) × (after ≡ all_heard heard before pieces) × ComesTo stage names (Command.Main name setup) pieces None (script new named)
began heard stage board names named name setup new begun before after is unrefused starts told =
    let pieces = Piece.Main name (address_of (device_at begun.state 0)) ∷ [] in (
      pieces,
      told,
      subst (λ at. ComesTo at names (Command.Main name setup) pieces None (script new named)) (sym is)
          (subst (λ why. MatchOption why ((r : Situation Told) × Starts board names name setup r (script new named) × IsDone (Piece.Main name (address_of (device_at r.state 0)) ∷ []) pieces None)
          (λ one. (script new named ≡ script (Stage.Before board) names) × IsRefused one pieces None)) (sym unrefused) (begun, starts, (refl, refl))),
    )
