use Rattle.std.proofs.Common.{◌≡◌, ◌∙◌, ap, arith, length, refl, subst, suc, sym, true}
use Rattle.i3c_program.specs.Choosing.{Takes, run_in}
use Rattle.i3c_program.proofs.Newest.{number_at_place}
use Rattle.i3c_program.proofs.selection.take.Goals as goal

pub returns-in-Some-number_at : goal.returns-in-Some-number_at
returns-in-Some-number_at g c =
    let orders = c.args.orders.now in
    let numbers = c.args.numbers.now in
    let place = c.in-Some.place in
    let long : length (run_in orders) ≡ suc place = omega (arith, c.in-Some.ensures, ap length c.choices.ensures) in
    subst (λ o. Takes o orders c.choose.result c.choose.new.self) (c.in-Some-number_at.ensures ∙ sym (number_at_place numbers (run_in orders) place long)) c.choose.ensures

pub returns-in-None : goal.returns-in-None
returns-in-None g c =
    let orders = c.args.orders.now in
    let numbers = c.args.numbers.now in
    let place = c.in-Some.place in
    let long : length (run_in orders) ≡ suc place = omega (arith, c.in-Some.ensures, ap length c.choices.ensures) in
    subst (λ o. Takes o orders true orders) (c.in-None.ensures ∙ sym (number_at_place numbers (run_in orders) place long)) (refl, refl)
