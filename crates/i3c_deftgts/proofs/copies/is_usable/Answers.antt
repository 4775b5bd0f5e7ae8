use Rattle.std.proofs.Common.{◌≡◌, ◌∙◌, Bool, true, false, refl, sym}
use Rattle.i3c_base.specs.State.{is_usable}
use Rattle.i3c_deftgts.proofs.CopyLaws.{usable}
use Rattle.i3c_deftgts.proofs.CopyOfLaws.{is_usable-true}
use Rattle.i3c_deftgts.proofs.copies.is_usable.Goals as goal

-- two truth values, each of which is true if the other is
same : (a b : Bool) → (a ≡ true → b ≡ true) → (b ≡ true → a ≡ true) → a ≡ b
same true b to from = sym (to refl)
same false true to from = from refl
same false false to from = refl

pub returns : goal.returns
returns c =
    same c.has.result (is_usable c.args.address) (λ has. is_usable-true c.args.address ((c.usable.ensures c.args.address).0 (sym c.has.ensures ∙ has)))
    (λ may. c.has.ensures ∙ (c.usable.ensures c.args.address).1 (usable c.args.address may))
