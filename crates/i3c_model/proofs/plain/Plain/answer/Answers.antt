use borrow.Author.Tests.{tests}
use Rattle.std.proofs.Common.{ℕ, rules, not, ◌&&◌, ◌==◌, if◌then◌else◌, ap, refl, sym}
use Rattle.i3c_base.specs.declared.requests.Request.{Request}
use Rattle.i3c_base.specs.State.{Device}
use Rattle.i3c_base.specs.Serve.{asks, without}
use Rattle.i3c_model.proofs.PlaceLaws.{map_keyed_pairs}
use Rattle.i3c_model.proofs.States.{drives_there, retained_there, within_fewer}
use Rattle.i3c_model.proofs.plain.Plain.answer.Goals as goal

-- a device that drives the request loses it
abbrev losing : ℕ → Request → ℕ → Device → Device
losing active r s d = if not (s == active) && asks d r then without r d else d

pub invariant_of-self : goal.invariant_of-self
invariant_of-self c = within_fewer c.self.inside _ (refl, refl) c.retain.ensures.no_new_key (λ k h. h) c.self.invariant

pub returns : goal.returns
returns c =
    let each = map_keyed_pairs _ (losing c.self.inside.active c.args.request.now) _ (λ k v b w f q. search (rules, tests)) _ _ c.retain.ensures.filtered in
    retained_there c.self.inside c.args.self.now c.self.view_is c.self.invariant c.retain.new.self (losing c.self.inside.active c.args.request.now) _
    (λ s d at. ap (λ b. if b then without c.args.request.now d else d) (sym (drives_there c.self.inside c.args.self.now c.self.view_is c.self.invariant s d c.args.request.now at))) each
