-- An address that was given in both has the same registers, and is kept for the same identity.
use Rattle.std.proofs.Common.{◌≡◌, ◌∙◌, Bool, false, true, not, ap, arith, get_or, refl, sym}
use Rattle.std.proofs.lemmas.Bool.{both_ways, false≢true}
use Rattle.std.proofs.lemmas.List.{get_or_default}
use Rattle.i3c_base.specs.State.{entry_in}
use Rattle.i3c_table.specs.Stored.{no_registers, stored_at}
use Rattle.i3c_table.proofs.Alike.{stored_alike, stored_parts}
use Rattle.i3c_table.proofs.AtRest.{small_reaching}
use Rattle.i3c_table.proofs.Same.{none_at, out_at}
use Rattle.i3c_table.proofs.StoredLaws.{entry_stored}
use Rattle.i3c_table.proofs.rows.Rows.has_same_row.Goals as goal
use Rattle.i3c_table.proofs.rows.Rows.has_same_row.Goals.{After-is_same}

ours : (c : After-is_same) → entry_in c.args.self.now c.args.address ≡ stored_at c.self.inside.held.0 c.self.inside.kept.0 c.self.inside.registers.now c.self.inside.numbers.now c.args.address
ours c = ap (λ g. entry_in g c.args.address) (sym c.self.view_is) ∙ entry_stored c.self.inside.held.0 c.self.inside.kept.0 c.self.inside.registers.now c.self.inside.numbers.now c.args.address (small_reaching _ _ _ c.self.invariant.reaching)

theirs : (c : After-is_same) → entry_in c.args.others.now c.args.address ≡ stored_at c.others.inside.held.0 c.others.inside.kept.0 c.others.inside.registers.now c.others.inside.numbers.now c.args.address
theirs c = ap (λ g. entry_in g c.args.address) (sym c.others.view_is) ∙ entry_stored c.others.inside.held.0 c.others.inside.kept.0 c.others.inside.registers.now c.others.inside.numbers.now c.args.address (small_reaching _ _ _ c.others.invariant.reaching)

one : (c : After-is_same) → get_or c.self.inside.registers.now c.args.address no_registers ≡ get_or c.self.inside.registers.now c.get-index.result c.index-self-index.result
one c =
    ap (λ k. get_or c.self.inside.registers.now k no_registers) (sym c.get-index.ensures.same)
    ∙ get_or_default c.self.inside.registers.now c.get-index.result no_registers c.index-self-index.result (let there = (c.self.invariant.reaching.reached c.args.address (sym c.if-not-has.ensures)).0 in omega (arith, there, c.get-index.ensures.same))

two : (c : After-is_same) → get_or c.others.inside.registers.now c.args.address no_registers ≡ get_or c.others.inside.registers.now c.get-index.result c.index-others-index.result
two c =
    ap (λ k. get_or c.others.inside.registers.now k no_registers) (sym c.get-index.ensures.same)
    ∙ get_or_default c.others.inside.registers.now c.get-index.result no_registers c.index-others-index.result (let there = (c.others.invariant.reaching.reached c.args.address (sym c.if-not-has-2.ensures)).0 in omega (arith, there, c.get-index.ensures.same))

pub returns-then-not-has : goal.returns-then-not-has
returns-then-not-has c =
    let out = sym c.if-not-has.ensures in
    let here = none_at _ _ _ _ c.args.self.now c.self.view_is (small_reaching _ _ _ c.self.invariant.reaching) c.args.address out in (
      λ t. here ∙ sym (none_at _ _ _ _ c.args.others.now c.others.view_is (small_reaching _ _ _ c.others.invariant.reaching) c.args.address (sym c.has-then-not-has.ensures ∙ negated c.has-then-not-has.result t)),
      λ same. ap not (c.has-then-not-has.ensures ∙ out_at _ _ _ _ c.args.others.now c.others.view_is (small_reaching _ _ _ c.others.invariant.reaching) c.args.address (sym same ∙ here)),
    )
  where
    negated : (b : Bool) → not b ≡ true → b ≡ false
    negated false e = refl
    negated true e = sym e

pub returns-then-not-has-2 : goal.returns-then-not-has-2
returns-then-not-has-2 c = (
  λ t. absurd (false≢true t),
  λ same. absurd (both_ways _ (out_at _ _ _ _ c.args.self.now c.self.view_is (small_reaching _ _ _ c.self.invariant.reaching) c.args.address
      (same ∙ none_at _ _ _ _ c.args.others.now c.others.view_is (small_reaching _ _ _ c.others.invariant.reaching) c.args.address (sym c.if-not-has-2.ensures))) (sym c.if-not-has.ensures)),
)

pub returns-then-is_same : goal.returns-then-is_same
returns-then-is_same c =
    let k = (goal.at.returns-then-is_same c).After-is_same in
    let has = sym c.if-not-has.ensures in let too = sym c.if-not-has-2.ensures in (
      λ t. ours k
          ∙ (stored_alike c.self.inside.held.0 c.self.inside.kept.0 c.self.inside.registers.now c.self.inside.numbers.now c.others.inside.held.0 c.others.inside.kept.0 c.others.inside.registers.now c.others.inside.numbers.now c.args.address has too
          (one k ∙ (c.is_same.ensures.0 c.if-is_same.true ∙ sym (two k))) (c.are_kept_alike.ensures.0 t)
          ∙ sym (theirs k)),
      λ same. c.are_kept_alike.ensures.1 (stored_parts c.self.inside.held.0 c.self.inside.kept.0 c.self.inside.registers.now c.self.inside.numbers.now c.others.inside.held.0 c.others.inside.kept.0 c.others.inside.registers.now c.others.inside.numbers.now c.args.address has too (sym (ours k) ∙ (same ∙ theirs k))).1,
    )

pub returns-else-is_same : goal.returns-else-is_same
returns-else-is_same c =
    let k = (goal.at.returns-else-is_same c).After-is_same in
    let has = sym c.if-not-has.ensures in let too = sym c.if-not-has-2.ensures in (
      λ t. absurd (both_ways _ c.if-is_same.false t),
      λ same. c.is_same.ensures.1
          (sym (one k) ∙ ((stored_parts c.self.inside.held.0 c.self.inside.kept.0 c.self.inside.registers.now c.self.inside.numbers.now c.others.inside.held.0 c.others.inside.kept.0 c.others.inside.registers.now c.others.inside.numbers.now c.args.address has too (sym (ours k) ∙ (same ∙ theirs k))).0
          ∙ two k)),
    )
