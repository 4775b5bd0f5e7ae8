-- Both were given the same addresses, and have the same at each of them.
use Rattle.std.proofs.Common.{◌∙◌, refl, sym}
use Rattle.std.proofs.lemmas.Bool.{false≢true}
use Rattle.i3c_table.proofs.AtRest.{small_reaching}
use Rattle.i3c_table.proofs.Same.{left_alike, length-given, none_at, same_all, same_in}
use Rattle.i3c_table.proofs.rows.Rows.are_same.Goals as goal

pub returns-then-not-are_same : goal.returns-then-not-are_same
returns-then-not-are_same c = (
  λ t. absurd (false≢true t),
  λ same. c.if-not-are_same.ensures.1
      (same_in c.self.inside.held.0 _ _ _ c.others.inside.held.0 _ _ _ c.args.self.now c.args.others.now c.self.view_is c.others.view_is (small_reaching _ _ _ c.self.invariant.reaching)
      (small_reaching _ _ _ c.others.invariant.reaching) same),
)

pub loop-address-init : goal.loop-address-init
loop-address-init c a out =
    left_alike c.self.inside.held.0 c.self.inside.kept.0 c.self.inside.registers.now c.self.inside.numbers.now c.args.self.now c.args.others.now c.without_if-left.result.0 c.keeps_same.result a c.self.view_is
    (small_reaching _ _ _ c.self.invariant.reaching) (c.without_if-left.ensures a) c.keeps_same.ensures
    (λ free.
    none_at _ _ _ _ c.args.self.now c.self.view_is (small_reaching _ _ _ c.self.invariant.reaching) a free
    ∙ sym (none_at _ _ _ _ c.args.others.now c.others.view_is (small_reaching _ _ _ c.others.invariant.reaching) a (sym (c.if-not-are_same.ensures.0 refl a) ∙ free)))
    out

pub returns : goal.returns
returns c = (
  λ _. same_all c.loop-address.left.0 c.args.self.now c.args.others.now (length-given _ _ _ _ c.args.self.now c.self.view_is (small_reaching _ _ _ c.self.invariant.reaching))
      (length-given _ _ _ _ c.args.others.now c.others.view_is (small_reaching _ _ _ c.others.invariant.reaching)) c.loop-address.invariant c.in_default.ensures,
  λ _. refl,
)
