use borrow.Author.Tests.{tests}
use Rattle.std.proofs.Common.{◌≡◌, false, set, ℕ, rules, if◌then◌else◌, refl, ap, ◌∙◌, Some}
use Rattle.i3c_base.specs.declared.range.TheConstants.{ADDRESSES}
use Rattle.i3c_base.specs.declared.identity.Identity.{Identity}
use Rattle.i3c_base.specs.Cutting.{Lost, lost_by}
use Rattle.i3c_base.specs.Round.{winner, wins}
use Rattle.i3c_base.specs.State.{Device, State, kept_entry_of}
use Rattle.i3c_model.proofs.PlaceLaws.{below_put, map_keyed_pairs, places_put}
use Rattle.i3c_model.proofs.States.{after_error, each_there, same_entries}
use Rattle.i3c_model.proofs.plain.Plain.assign.Goals as goal

-- a device takes the address if it wins
abbrev taking : Lost → Identity → ℕ → ℕ → Device → Device
taking lost i a s d = if wins lost i s d then winner a d else d

pub returns-in_err-insert-clause-unchanged : goal.returns-in_err-insert-clause-unchanged
returns-in_err-insert-clause-unchanged c = after_error _ (same_entries c.self.inside c.args.self.now c.self.view_is c.self.invariant c.insert.new.self c.in_err-insert.ensures.err)

pub invariant_of-self-2 : goal.invariant_of-self-2
invariant_of-self-2 c = record {
  slots = λ k h. c.self.invariant.slots k (c.retain.ensures.no_new_key k h);
  statics = c.self.invariant.statics;
  declarations = c.self.invariant.declarations;
  addresses = below_put ADDRESSES c.self.inside.given c.insert.new.self c.args.address _ c.self.invariant.addresses c.requires c.in_ok-insert.ensures.updates;
}

pub returns-clause-done : goal.returns-clause-done
returns-clause-done c =
    let lost : Lost = lost_by c.args.cuts.now 73 in
    let each = map_keyed_pairs _ (taking lost c.args.identity.now c.args.address) _ (λ k v b w f q. search (rules, tests)) _ _ c.retain.ensures.filtered in
    let devices_are = each_there c.self.inside c.args.self.now c.self.view_is c.self.invariant c.retain.new.self (taking lost c.args.identity.now c.args.address) (taking lost c.args.identity.now c.args.address) (λ s d at. refl) each in
    let declared = c.args.self.now.declared in
    let entry : c.kept-entry.result ≡ kept_entry_of declared c.args.identity.now = c.kept-entry.ensures ∙ (λ t. record (kept_entry_of declared c.args.identity.now) { fixed = c.fixed_of.ensures t }) in
    let put = rw entry at c.in_ok-insert.ensures.updates in
    let given_are = places_put ADDRESSES c.self.inside.given c.insert.new.self c.args.address (Some (kept_entry_of declared c.args.identity.now)) c.requires put.1 put.2 in
    λ t. record (c.self.view_is t) { devices = devices_are t; given = (given_are ∙ ap (λ (st : State). set st.given c.args.address (Some (kept_entry_of declared c.args.identity.now))) c.self.view_is) t; listed = false }
