-- A name is the same with its letters, and so is what it stands for.
use Rattle.std.proofs.Common.{◌≡◌, rules}
use Rattle.i3c_scene.proofs.named.is_same.Goals as goal

pub returns-then-is_same : goal.returns-then-is_same
returns-then-is_same c held =
    let one = c.args.one.now in
    let other = c.args.other.now in
    let names : one.name ≡ other.name = c.is_same.ensures.0 c.if-is_same.true in
    let places : one.place ≡ other.place = search rules in
    λ i. record { name = names i; place = places i }
