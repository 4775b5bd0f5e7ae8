use borrow.Author.Tests.{tests}
use Rattle.std.proofs.Common.{ℕ, Bool, not, ◌&&◌, ◌==◌, is_none, ap, rules}
use Rattle.std.proofs.lemmas.Iterator.Consumers.{YieldsList-from_rest}
use Rattle.std.proofs.lemmas.Iterator.Search.{any_from_yields_List}
use Rattle.i3c_base.specs.Cutting.{lost_by}
use Rattle.i3c_base.specs.State.{Device, State, is_the}
use Rattle.i3c_model.proofs.Entries.{any_there, bare_left}
use Rattle.i3c_model.proofs.plain.Plain.is_any_unaddressed_left.Goals as goal

pub returns : goal.returns
returns c =
    let test : ℕ × Device → Bool = λ e. not (e.0 == c.self.inside.active) && ((is_none e.1.address && is_the c.args.fixed e.1.fixed) && not (lost_by c.args.cuts.now c.args.last e.0)) in
    let found = any_from_yields_List test _ _ c.any.result c.any.ensures.ran (YieldsList-from_rest c.self.inside.devices.entries c.iter.ensures.rest) (λ x b q k. search (rules, tests)) in
    let there = any_there c.self.inside c.args.self.now c.self.view_is c.self.invariant c.iter.ensures.ordered test c.any.result found in
    let means = bare_left c.args.self.now c.args.fixed (lost_by c.args.cuts.now c.args.last) c.self.inside.active (ap (λ (st : State). st.active) c.self.view_is) in
    ((λ h. means.0 (there.0 h)), (λ h. there.1 (means.1 h)))
