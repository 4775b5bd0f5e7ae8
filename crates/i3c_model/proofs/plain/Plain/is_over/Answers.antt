use borrow.Author.Tests.{tests}
use Rattle.std.proofs.Common.{ℕ, Bool, not, ◌&&◌, rules}
use Rattle.std.proofs.lemmas.Iterator.Consumers.{YieldsList-from_rest}
use Rattle.std.proofs.lemmas.Iterator.Search.{any_from_yields_List}
use Rattle.i3c_base.specs.Cutting.{lost_by}
use Rattle.i3c_base.specs.State.{Device}
use Rattle.i3c_model.proofs.Entries.{any_there}
use Rattle.i3c_model.proofs.Stepping.{over_chosen, over_is}
use Rattle.i3c_model.proofs.plain.Plain.is_over.Goals as goal

pub returns : goal.returns
returns c =
    let test : ℕ × Device → Bool = λ e. e.1.hearing && not (c.eq-may_be_silent.result && lost_by c.args.cuts.now 0 e.0) in
    let found = any_from_yields_List test _ _ c.any.result c.any.ensures.ran (YieldsList-from_rest c.self.inside.devices.entries c.iter.ensures.rest) (λ x b q k. search (rules, tests)) in
    let there = any_there c.self.inside c.args.self.now c.self.view_is c.self.invariant c.iter.ensures.ordered test c.any.result found in
    record {
      lawful = over_is c.args.self.now (lost_by c.args.cuts.now 0) c.eq-may_be_silent.result c.any.result there;
      chosen = over_chosen c.args.self.now (lost_by c.args.cuts.now 0) c.args.choice c.eq-may_be_silent.result c.any.result c.eq-may_be_silent.ensures there;
    }
