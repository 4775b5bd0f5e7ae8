use Rattle.std.proofs.Common.{false, rules, refl}
use Rattle.std.proofs.lemmas.Map.Made.{map_same_pairs}
use Rattle.i3c_base.specs.Round.{unhearing}
use Rattle.i3c_model.proofs.States.{each_there, within_fewer}
use Rattle.i3c_model.proofs.plain.Plain.end_daa.Goals as goal

pub invariant_of-self : goal.invariant_of-self
invariant_of-self c = within_fewer c.self.inside _ (refl, refl) c.retain.ensures.no_new_key (λ k h. h) c.self.invariant

pub returns : goal.returns
returns c =
    let each = map_same_pairs _ unhearing _ (λ k v b w f q. search rules) _ _ c.retain.ensures.filtered in
    let e = each_there c.self.inside c.args.self.now c.self.view_is c.self.invariant c.retain.new.self (λ s. unhearing) (λ s. unhearing) (λ s d at. refl) each in
    λ t. record (c.self.view_is t) { devices = e t; in_session = false }
