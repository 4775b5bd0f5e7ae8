use Rattle.std.proofs.Common.{◌≡◌, ◌+◌, ◌-◌, ◌<◌, ◌∙◌, ◌∷◌, ◌++◌, ℕ, List, Some, ap, drop, length, slice_get, subst, sym, take}
use Rattle.i3c_drive.proofs.Inputs.{left_behind}
use Rattle.i3c_drive.proofs.input.Input.take_front.Goals as goal

pub returns-in-Some : goal.returns-in-Some
returns-in-Some c =
    let input = c.args.self.now in
    let part : List ℕ → List ℕ = λ bytes. take (input.end - input.next) (drop input.next bytes) in
    let at = c.in-Some.length in
    let found = c.in-Some.ensures in
    let is = c.deref.ensures.value in
    let inside : at < length (part input.piece.items) = subst (λ l. at < length (part l)) is found.0 in
    let feed : slice_get (part input.piece.items) at ≡ Some 10 = subst (λ l. slice_get (part l) at ≡ Some 10) is found.1 in
    let behind = take (input.end - (input.next + (at + 1))) (drop (input.next + (at + 1)) input.piece.items) in (
      take at (part c.deref.result.now),
      found.2,
      left_behind input.piece.items input.next input.end at input.ordered input.within inside feed ∙ ap (λ l. take at (part l) ++ 10 ∷ behind) (sym is),
      c.extend.ensures,
    )
