-- All bits that differ are gathered: none, if all numbers are the same.
use Rattle.std.proofs.Common.{◌≡◌, ◌<◌, ◌∙◌, ℕ, List, ap, arith, eq-eqb, eqb-true, get_or, sym}
use Rattle.i3c_bus.proofs.Differing.{gathered_more, same_spanned}
use Rattle.i3c_bus.proofs.raises.Raises.is_same.Goals as goal

pub loop-index-preserved : goal.loop-index-preserved
loop-index-preserved c = gathered_more c.self.inside.numbers c.other.inside.numbers c.loop-index.index c.loop-index.differing c.loop-index.invariant

pub returns : goal.returns
returns c =
    let s = c.self.inside in
    let o = c.other.inside in
    let alike : c.loop-index.differing ≡ 0 → (k : ℕ) → k < c.max-span.result → get_or s.numbers k 0 ≡ get_or o.numbers k 0 = λ none k lt. c.loop-index.invariant.0 none k (omega (arith, lt, c.loop-index-test.false)) in (
      λ none. sym c.self.view_is
          ∙ same_spanned s.numbers o.numbers s.span o.span c.max-span.result c.self.invariant c.other.invariant (omega (arith, c.max-span.ensures)) (omega (arith, c.max-span.ensures)) (alike (eqb-true c.loop-index.differing 0 none))
          ∙ c.other.view_is,
      λ same. eq-eqb c.loop-index.differing 0 (c.loop-index.invariant.1 (λ k lt. ap (λ (list : List ℕ). get_or list k 0) (c.self.view_is ∙ same ∙ sym c.other.view_is))),
    )
