use borrow.Author.Tests.{tests}
use Rattle.std.proofs.Common.{ℕ, Bool, Option, rules, refl, sym, ◌∙◌}
use Rattle.std.specs.List.{find, range_with_len}
use Rattle.std.specs.Map.Iter.{deref_pair}
use Rattle.std.proofs.lemmas.Iterator.{first_from_find}
use Rattle.std.proofs.lemmas.Iterator.Consumers.{YieldsList-from_rest}
use Rattle.i3c_base.specs.declared.identity.Identity.{Identity}
use Rattle.i3c_base.specs.declared.range.TheConstants.{ADDRESSES}
use Rattle.i3c_base.specs.State.{is_identity}
use Rattle.i3c_model.proofs.FirstLaws.{Fails, Passes, first_is}
use Rattle.i3c_model.proofs.States.{declared_there}
use Rattle.i3c_model.proofs.plain.Plain.fixed_of.Goals as goal

-- the identity is declared there
abbrev stands_for : Identity → ℕ → Option Identity → Bool
stands_for i a declared = is_identity i declared

pub returns : goal.returns
returns c =
    let test = stands_for c.args.identity.now in
    let found = first_from_find _ _ c.find.result (Passes test) (Fails test) c.find.ensures.ran
    (YieldsList-from_rest c.self.inside.declared.entries c.iter.ensures.rest) (λ x q k. search (rules, tests)) (λ x q k. search (rules, tests)) in
    first_is c.self.inside.declared c.iter.ensures.ordered c.self.invariant.declarations test (λ a. refl) deref_pair c.find.result c.map.result _ found c.map.ensures.cases (λ x a k. search rules)
    ∙ (λ t. find (λ a. test a (sym (declared_there c.self.inside c.args.self.now c.self.view_is c.self.invariant a) t)) (range_with_len 0 ADDRESSES))
