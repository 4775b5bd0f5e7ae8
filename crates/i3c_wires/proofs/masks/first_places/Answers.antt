-- Ones shifted down.
use Rattle.std.proofs.Common.{◌≡◌, ◌-◌, ◌^◌, ap, ◌∙◌, arith}
use Rattle.std.proofs.lemmas.Nat.Bits.{ones_shr}
use Rattle.i3c_wires.proofs.masks.first_places.Goals as goal

pub returns-else-count-eq0 : goal.returns-else-count-eq0
returns-else-count-eq0 c =
    let same : 64 - (64 - c.args.count) ≡ c.args.count = omega arith in
    ones_shr 64 (64 - c.args.count) (omega arith) ∙ ap (λ k. 2 ^ k - 1) same
