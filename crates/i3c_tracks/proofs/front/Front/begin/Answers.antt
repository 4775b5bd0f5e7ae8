-- The bus begins.
use Rattle.std.proofs.Common.{rules, ◌≡◌, ◌∷◌, [], ◌++◌, false, true, subst}
use Rattle.std.specs.Option.{is_some}
use Rattle.i3c_base.specs.Numbers.{is_capable}
use Rattle.i3c_base.specs.State.{Board, IsStart}
use Rattle.i3c_lines.specs.declared.names.Place.{Place}
use Rattle.i3c_scene.specs.Scenes.{place_in}
use Rattle.i3c_tracks.specs.Planning.{named}
use Rattle.i3c_tracks.proofs.Reading.{begun_by}
use Rattle.i3c_tracks.proofs.front.Front.begin.Goals as goal

pub returns-in-Ok : goal.returns-in-Ok
returns-in-Ok c =
    let old = c.args.self.now in
    let setup = c.args.setup in
    let name = c.args.name.now in
    let start = c.in-Ok.ensures in
    let scene = c.in-Ok.scene in
    let zero : c.default.result ≡ 0 = search rules in
    let names : scene.names ≡ old.names.items ++ named name (Place.Slot 0) ∷ [] = cc (zero, c.in_ok-push.ensures.items) in
    let board : c.replace-legacies.result ≡ old.legacies = cc in
    let given : is_some (place_in old.names.items name) ≡ false = cc in
    let capable : is_capable setup.identity.bcr ≡ true = search rules in (
      record { main = setup; board = old.legacies; names = old.names.items ++ named name (Place.Slot 0) ∷ []; before = []; refused = []; blocks = []; opened = []; rules = []; risky = false },
      record { state = subst (λ (b : Board). IsStart setup b scene.state) board start.start; settings = start.settings; cuts = start.cuts; names = names },
      λ before rest. begun_by old.legacies old.names.items name setup c.args.number before old.refused.items rest given capable,
    )
