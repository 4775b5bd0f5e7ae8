use borrow.Author.Tests.{tests}
use Rattle.std.proofs.Common.{ℕ, Bool, Option, not, ◌&&◌, ◌==◌, rules, sym, ◌∙◌}
use Rattle.std.specs.List.{find, range_with_len}
use Rattle.std.specs.Map.Iter.{deref_pair}
use Rattle.std.proofs.lemmas.Iterator.{first_from_find}
use Rattle.std.proofs.lemmas.Iterator.Consumers.{YieldsList-from_rest}
use Rattle.i3c_base.specs.declared.range.TheConstants.{ADDRESSES}
use Rattle.i3c_base.specs.State.{Entry, has_fixed}
use Rattle.i3c_model.proofs.FirstLaws.{Fails, Passes, and_none, first_is}
use Rattle.i3c_model.proofs.States.{entry_there}
use Rattle.i3c_model.proofs.plain.Plain.home.Goals as goal

-- the entry of another address has the static address
abbrev homes : ℕ → ℕ → ℕ → Option Entry → Bool
homes own f a entry = not (a == own) && has_fixed f entry

pub returns : goal.returns
returns c =
    let test = homes c.args.own c.args.fixed in
    let found = first_from_find _ _ c.find.result (Passes test) (Fails test) c.find.ensures.ran
    (YieldsList-from_rest c.self.inside.given.entries c.iter.ensures.rest) (λ x q k. search (rules, tests)) (λ x q k. search (rules, tests)) in
    first_is c.self.inside.given c.iter.ensures.ordered c.self.invariant.addresses test (λ a. and_none (not (a == c.args.own))) deref_pair c.find.result c.map.result _ found c.map.ensures.cases (λ x a k. search rules)
    ∙ (λ t. find (λ a. test a (sym (entry_there c.self.inside c.args.self.now c.self.view_is c.self.invariant a) t)) (range_with_len 0 ADDRESSES))
