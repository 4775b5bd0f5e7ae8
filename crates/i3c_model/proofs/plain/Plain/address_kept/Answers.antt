use borrow.Author.Tests.{tests}
use Rattle.std.proofs.Common.{ℕ, Bool, Option, rules, refl, sym, ◌∙◌}
use Rattle.std.specs.List.{find, range_with_len}
use Rattle.std.specs.Map.Iter.{deref_pair}
use Rattle.std.proofs.lemmas.Iterator.{first_from_find}
use Rattle.std.proofs.lemmas.Iterator.Consumers.{YieldsList-from_rest}
use Rattle.i3c_base.specs.declared.identity.Identity.{Identity}
use Rattle.i3c_base.specs.declared.range.TheConstants.{ADDRESSES}
use Rattle.i3c_base.specs.State.{Entry, is_identity, kept_of}
use Rattle.i3c_model.proofs.FirstLaws.{Fails, Passes, first_is}
use Rattle.i3c_model.proofs.KeptLaws.{Keeps, Spares, kept_first}
use Rattle.i3c_model.proofs.States.{entry_there}
use Rattle.i3c_model.proofs.plain.Plain.address_kept.Goals as goal

-- the entry is kept for the identity
abbrev keeps_for : Identity → ℕ → Option Entry → Bool
keeps_for i a entry = is_identity i (kept_of entry)

pub returns-clause-kept : goal.returns-clause-kept
returns-clause-kept c =
    let found = first_from_find _ _ c.find.result (Keeps c.args.identity.now) (Spares c.args.identity.now) c.find.ensures.ran
    (YieldsList-from_rest c.self.inside.given.entries c.iter.ensures.rest) (λ x q k. search (rules, tests)) (λ x q k. search (rules, tests)) in
    kept_first c.self.inside c.args.self.now c.self.view_is c.self.invariant c.iter.ensures.ordered c.args.identity.now deref_pair c.find.result c.map.result _ found c.map.ensures.cases (λ x a k. search rules)

pub returns-clause-known : goal.returns-clause-known
returns-clause-known c =
    let test = keeps_for c.args.identity.now in
    let found = first_from_find _ _ c.find.result (Passes test) (Fails test) c.find.ensures.ran
    (YieldsList-from_rest c.self.inside.given.entries c.iter.ensures.rest) (λ x q k. search (rules, tests)) (λ x q k. search (rules, tests)) in
    first_is c.self.inside.given c.iter.ensures.ordered c.self.invariant.addresses test (λ a. refl) deref_pair c.find.result c.map.result _ found c.map.ensures.cases (λ x a k. search rules)
    ∙ (λ t. find (λ a. test a (sym (entry_there c.self.inside c.args.self.now c.self.view_is c.self.invariant a) t)) (range_with_len 0 ADDRESSES))
