use Rattle.std.proofs.Common.{ℕ, not, rules, refl}
use Rattle.std.proofs.lemmas.Map.Made.{filter_same_pairs}
use Rattle.i3c_base.specs.Cutting.{lost_by}
use Rattle.i3c_base.specs.State.{Device}
use Rattle.i3c_model.proofs.States.{emptied_there, within_fewer}
use Rattle.i3c_model.proofs.plain.Plain.empty.Goals as goal

pub invariant_of-self : goal.invariant_of-self
invariant_of-self c = within_fewer c.self.inside _ (refl, refl) c.retain.ensures.no_new_key (λ k h. h) c.self.invariant

pub returns : goal.returns
returns c =
    let left = filter_same_pairs _ (λ (e : ℕ × Device). not (lost_by c.args.cuts.now c.args.last e.0)) _ (λ k v b w f q. search rules) _ _ c.retain.ensures.filtered in
    emptied_there c.self.inside c.args.self.now c.self.view_is c.self.invariant c.retain.new.self (lost_by c.args.cuts.now c.args.last) left
