-- An identity's number is written at the address, and then the address gets its place; or nothing is kept there.
use Rattle.std.proofs.Common.{◌≡◌, ℕ, ◌∙◌, List, MatchOption, None, Some, ap, arith, false, get_or, inl, inr, refl, set, subst, sym, true}
use Rattle.std.proofs.lemmas.Bool.{cases_eq, cond-false, cond-true}
use Rattle.std.proofs.lemmas.List.{get_or-set_other, get_or-set_same}
use Rattle.i3c_base.specs.Numbers.{number_of}
use Rattle.i3c_base.specs.Sets.{is_in}
use Rattle.i3c_table.specs.Stored.{identity_of, IsInOrder}
use Rattle.i3c_table.proofs.Ordering.{order_numbered, order_same}
use Rattle.i3c_table.proofs.StoredLaws.{identity_again}
use Rattle.i3c_table.proofs.keeping.keep_for.Goals as goal

pub keep-requires : goal.keep-requires
keep-requires c =
    let kept = c.args.kept.0 in
    let a = c.args.address in
    let numbers = c.args.numbers.now in
    let its = subst (λ i. MatchOption i (is_in kept a ≡ false) (λ i. is_in kept a ≡ true → get_or numbers a 0 ≡ number_of i)) c.in-Some.is c.requires.same in
    subst (λ place. IsInOrder kept (set numbers place c.number.result) c.args.order.now) (sym c.get.ensures.same)
    (order_numbered kept a c.number.result numbers c.args.order.now c.requires.ordered (omega arith) (λ has. its has ∙ sym c.number.ensures.same))

pub returns-in-Some : goal.returns-in-Some
returns-in-Some c =
    let a = c.args.address in
    let numbers : List ℕ = set c.args.numbers.now c.get.result c.number.result in
    let number : get_or numbers a 0 ≡ c.number.result =
    ap (λ place. get_or (set c.args.numbers.now place c.number.result) a 0) c.get.ensures.same ∙ get_or-set_same c.args.numbers.now a c.number.result 0 (omega arith) in
    record {
      ordered = c.keep.ensures c.with.result.0 c.with.ensures.in_it c.with.ensures.others;
      its =
          cond-true (is_in c.with.result.0 a) (Some (identity_of (get_or numbers a 0))) None c.with.ensures.in_it
          ∙ (ap (λ n. Some (identity_of n)) (number ∙ c.number.ensures.same) ∙ (ap Some (identity_again c.in-Some.identity c.number.ensures.in_range) ∙ sym c.in-Some.is));
      others = c.with.ensures.others;
      other_numbers = λ k other.
          ap (λ place. get_or (set c.args.numbers.now place c.number.result) k 0) c.get.ensures.same ∙ get_or-set_other c.args.numbers.now a k c.number.result 0 other;
    }

pub returns-in-None : goal.returns-in-None
returns-in-None c =
    let kept = c.args.kept.0 in
    let a = c.args.address in
    let numbers = c.args.numbers.now in
    let was_free : is_in kept a ≡ false = subst (λ i. MatchOption i (is_in kept a ≡ false) (λ i. is_in kept a ≡ true → get_or numbers a 0 ≡ number_of i)) c.in-None.is c.requires.same in
    record {
      ordered = order_same kept c.without.result.0 numbers c.args.order.now c.requires.ordered (λ k. elim (cases_eq k a) [
        | inl e ↦ ap (is_in c.without.result.0) e ∙ (c.without.ensures.not_in_it ∙ sym (ap (is_in kept) e ∙ was_free))
        | inr other ↦ c.without.ensures.others k other
      ]);
      its = cond-false (is_in c.without.result.0 a) (Some (identity_of (get_or numbers a 0))) None c.without.ensures.not_in_it ∙ sym c.in-None.is;
      others = c.without.ensures.others;
      other_numbers = λ k other. refl;
    }
