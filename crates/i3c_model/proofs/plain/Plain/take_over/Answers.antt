use borrow.Author.Tests.{tests}
use Rattle.std.proofs.Common.{ℕ, None, get_or, rules, refl}
use Rattle.i3c_base.specs.State.{Entry}
use Rattle.i3c_model.proofs.Clearing.{taken_over_there}
use Rattle.i3c_model.proofs.PlaceLaws.{map_keyed_pairs}
use Rattle.i3c_model.proofs.States.{within_fewer}
use Rattle.i3c_model.proofs.plain.Plain.take_over.Goals as goal

pub invariant_of-self : goal.invariant_of-self
invariant_of-self c = within_fewer c.self.inside _ (refl, refl) (λ k h. h) c.retain.ensures.no_new_key c.self.invariant

pub returns : goal.returns
returns c =
    let kept = c.all_kept_again-kept.result in
    let each = map_keyed_pairs _ (λ (k : ℕ) (x : Entry). record x { kept = get_or kept k None }) _ (λ k v b w f q. search (rules, tests)) _ _ c.retain.ensures.filtered in
    taken_over_there c.self.inside c.args.self.now c.self.view_is c.self.invariant c.retain.new.self c.args.own kept c.all_kept_again-kept.ensures each
