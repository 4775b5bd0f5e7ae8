use borrow.Author.Tests.{tests}
use Rattle.std.proofs.Common.{ℕ, rules, refl, ◌∙◌}
use Rattle.std.proofs.lemmas.Map.Made.{filter_same_pairs}
use Rattle.i3c_base.specs.State.{Entry, is_the}
use Rattle.i3c_model.proofs.Clearing.{cleared_there, clearing}
use Rattle.i3c_model.proofs.PlaceLaws.{map_keyed_pairs}
use Rattle.i3c_model.proofs.States.{within_fewer}
use Rattle.i3c_model.proofs.plain.Plain.clear.Goals as goal

pub invariant_of-self : goal.invariant_of-self
invariant_of-self c = within_fewer c.self.inside _ (refl, refl) c.retain.ensures.no_new_key c.retain-2.ensures.no_new_key c.self.invariant

pub returns : goal.returns
returns c =
    let each = map_keyed_pairs _ (clearing c.self.inside.active) _ (λ k v b w f q. search (rules, tests)) _ _ c.retain.ensures.filtered in
    let left = filter_same_pairs _ (λ (e : ℕ × Entry). is_the e.0 c.address-own.result) _ (λ k v b w f q. search (rules, tests)) _ _ c.retain-2.ensures.filtered in
    c.forget.ensures ∙ cleared_there c.self.inside c.args.self.now c.self.view_is c.self.invariant c.retain.new.self c.retain-2.new.self c.address-own.result c.address-own.ensures each left
