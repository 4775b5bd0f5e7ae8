-- An address that is kept stands in the order, and so was compared.
use Rattle.std.proofs.Common.{◌≡◌, ◌∙◌, ℕ, true, ap, get_or, is_some, sym, subst}
use Rattle.std.proofs.lemmas.List.{get_or_default}
use Rattle.std.proofs.lemmas.List.Elements.{Contains-get_or}
use Rattle.i3c_base.specs.Sets.{is_in}
use Rattle.i3c_base.specs.State.{entry_in, kept_of}
use Rattle.i3c_table.specs.Stored.{IsStoredAlike, stored_at}
use Rattle.i3c_table.proofs.Alike.{kept_alike, kept_in, stored_alike}
use Rattle.i3c_table.proofs.AtRest.{small_reaching}
use Rattle.i3c_table.proofs.StoredLaws.{entry_stored}
use Rattle.i3c_table.proofs.rows.Rows.keeps_same.Goals as goal
use Rattle.i3c_table.proofs.rows.Rows.keeps_same.Goals.{After-are_stored_alike}

ours : (c : After-are_stored_alike) (a : ℕ) → entry_in c.args.self.now a ≡ stored_at c.self.inside.held.0 c.self.inside.kept.0 c.self.inside.registers.now c.self.inside.numbers.now a
ours c a = ap (λ g. entry_in g a) (sym c.self.view_is) ∙ entry_stored c.self.inside.held.0 c.self.inside.kept.0 c.self.inside.registers.now c.self.inside.numbers.now a (small_reaching _ _ _ c.self.invariant.reaching)

theirs : (c : After-are_stored_alike) (a : ℕ) → entry_in c.args.others.now a ≡ stored_at c.others.inside.held.0 c.others.inside.kept.0 c.others.inside.registers.now c.others.inside.numbers.now a
theirs c a = ap (λ g. entry_in g a) (sym c.others.view_is) ∙ entry_stored c.others.inside.held.0 c.others.inside.kept.0 c.others.inside.registers.now c.others.inside.numbers.now a (small_reaching _ _ _ c.others.invariant.reaching)

pub are_stored_alike-requires : goal.are_stored_alike-requires
are_stored_alike-requires c k l =
    let a : ℕ = get_or c.self.inside.order.now k 0 in
    let keeps : is_in c.self.inside.kept.0 a ≡ true = c.self.invariant.alone a (Contains-get_or c.self.inside.order.now k 0 l) in
    let keeps_too : is_in c.others.inside.kept.0 a ≡ true = sym (c.are_same.ensures.0 c.if-are_same.true a) ∙ keeps in
    let here = c.self.invariant.reaching.reached a (c.self.invariant.among a keeps) in
    let there = c.others.invariant.reaching.reached a (c.others.invariant.among a keeps_too) in
    (here.0, here.1, there.0, there.1)

pub returns-then-are_same : goal.returns-then-are_same
returns-then-are_same c t a some =
    let k = (goal.at.returns-then-are_same c).After-are_stored_alike in
    let keeps : is_in c.self.inside.kept.0 a ≡ true = kept_in c.self.inside.held.0 c.self.inside.kept.0 c.self.inside.registers.now c.self.inside.numbers.now a (ap (λ e. is_some (kept_of e)) (sym (ours k a)) ∙ some) in
    let keeps_too : is_in c.others.inside.kept.0 a ≡ true = sym (c.are_same.ensures.0 c.if-are_same.true a) ∙ keeps in
    let at = c.self.invariant.all a keeps in
    let like = c.are_stored_alike.ensures t at.0 at.1 in
    let same : IsStoredAlike c.self.inside.registers.now c.self.inside.numbers.now c.others.inside.registers.now c.others.inside.numbers.now a =
    subst (λ b. IsStoredAlike c.self.inside.registers.now c.self.inside.numbers.now c.others.inside.registers.now c.others.inside.numbers.now b) (get_or_default _ at.0 0 a at.1 ∙ at.2) like in
    ours k a
    ∙ (stored_alike c.self.inside.held.0 c.self.inside.kept.0 c.self.inside.registers.now c.self.inside.numbers.now c.others.inside.held.0 c.others.inside.kept.0 c.others.inside.registers.now c.others.inside.numbers.now a
    (c.self.invariant.among a keeps) (c.others.invariant.among a keeps_too) same.0 (kept_alike c.self.inside.kept.0 c.self.inside.numbers.now c.others.inside.kept.0 c.others.inside.numbers.now a keeps keeps_too same.1)
    ∙ sym (theirs k a))
