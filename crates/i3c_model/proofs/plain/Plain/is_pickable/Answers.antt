use Rattle.std.proofs.Common.{◌↔◌, IsTrue, false, sym, ap, is_some, ◌∙◌}
use Rattle.std.proofs.lemmas.Bool.{false≢true}
use Rattle.i3c_base.specs.State.{IsPickable}
use Rattle.i3c_model.proofs.States.{declared_there, target_there}
use Rattle.i3c_model.proofs.Stepping.{declared_not_pickable, given_not_pickable, legacy_not_pickable, pickable_if_usable, pickable_test}
use Rattle.i3c_model.proofs.plain.Plain.is_pickable.Goals as goal

pub returns-then-is_given : goal.returns-then-is_given
returns-then-is_given c =
    let may : IsTrue false ↔ IsPickable c.args.self.now c.args.address =
    ((λ h. absurd (false≢true h)), λ p. absurd (given_not_pickable c.args.self.now c.args.address (sym c.is_given.ensures ∙ c.if-is_given.true) p)) in
    record { may = may; test = pickable_test c.args.self.now c.args.address false may }

pub returns-then-contains_key : goal.returns-then-contains_key
returns-then-contains_key c =
    let legacy = ap is_some (target_there c.self.inside c.args.self.now c.self.view_is c.self.invariant c.args.address) in
    let may : IsTrue false ↔ IsPickable c.args.self.now c.args.address =
    ((λ h. absurd (false≢true h)), λ p. absurd (legacy_not_pickable c.args.self.now c.args.address (legacy ∙ (sym c.contains_key.ensures ∙ c.if-contains_key.true)) p)) in
    record { may = may; test = pickable_test c.args.self.now c.args.address false may }

pub returns-then-contains_key-2 : goal.returns-then-contains_key-2
returns-then-contains_key-2 c =
    let declared = ap is_some (declared_there c.self.inside c.args.self.now c.self.view_is c.self.invariant c.args.address) in
    let may : IsTrue false ↔ IsPickable c.args.self.now c.args.address =
    ((λ h. absurd (false≢true h)), λ p. absurd (declared_not_pickable c.args.self.now c.args.address (declared ∙ (sym c.contains_key-2.ensures ∙ c.if-contains_key-2.true)) p)) in
    record { may = may; test = pickable_test c.args.self.now c.args.address false may }

pub returns : goal.returns
returns c =
    let legacy = ap is_some (target_there c.self.inside c.args.self.now c.self.view_is c.self.invariant c.args.address) in
    let declared = ap is_some (declared_there c.self.inside c.args.self.now c.self.view_is c.self.invariant c.args.address) in
    let may = pickable_if_usable c.args.self.now c.args.address c.is_usable.result c.is_usable.ensures (sym c.is_given.ensures ∙ c.if-is_given.false)
    (legacy ∙ (sym c.contains_key.ensures ∙ c.if-contains_key.false)) (declared ∙ (sym c.contains_key-2.ensures ∙ c.if-contains_key-2.false)) in
    record { may = may; test = pickable_test c.args.self.now c.args.address c.is_usable.result may }
