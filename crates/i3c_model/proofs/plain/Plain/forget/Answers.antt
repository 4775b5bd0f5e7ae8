use Rattle.std.proofs.Common.{rules, refl}
use Rattle.std.proofs.lemmas.Map.Made.{map_same_pairs}
use Rattle.i3c_base.specs.State.{unkept}
use Rattle.i3c_model.proofs.Clearing.{forgotten_there}
use Rattle.i3c_model.proofs.States.{within_fewer}
use Rattle.i3c_model.proofs.plain.Plain.forget.Goals as goal

pub invariant_of-self : goal.invariant_of-self
invariant_of-self c = within_fewer c.self.inside _ (refl, refl) (λ k h. h) c.retain.ensures.no_new_key c.self.invariant

pub returns : goal.returns
returns c =
    let each = map_same_pairs _ unkept _ (λ k v b w f q. search rules) _ _ c.retain.ensures.filtered in
    forgotten_there c.self.inside c.args.self.now c.self.view_is c.self.invariant c.retain.new.self each
