-- Nothing is left where no track has a next line.
use Rattle.std.proofs.Common.{arith}
use Rattle.std.proofs.lemmas.Bool.Decides.{eqb_tells, leb_tells}
use Rattle.std.proofs.Common.{inl, inr, ◌+◌, subst, ℕ}
use Rattle.i3c_explore.specs.Layers.{IsNextAt}
use Rattle.i3c_explore.specs.Orders.{track}
use Rattle.i3c_every.proofs.Closed.{has_none, has_one, none_behind}
use Rattle.i3c_every.proofs.closing.are_done.Goals as goal

pub returns-then-has_next-clause-some : goal.returns-then-has_next-clause-some
returns-then-has_next-clause-some g c = λ same done.
    has_one c.args.tracks.now c.args.places.now c.loop-t.t c.index-tracks-t.result c.deref.result.now c.has_next.result c.loop-t-test.true c.index-tracks-t.is c.deref.ensures.value c.has_next.ensures c.if-has_next.true done

pub loop-t-preserved : goal.loop-t-preserved
loop-t-preserved g c = λ t line few next. elim (eqb_tells t c.loop-t.t) [
  | inl (_, same) ↦
      has_none c.args.tracks.now c.args.places.now c.loop-t.t c.index-tracks-t.result c.deref.result.now c.has_next.result line c.loop-t-test.true c.index-tracks-t.is c.deref.ensures.value c.has_next.ensures c.if-has_next.false
      (subst (λ (n : ℕ). IsNextAt (track c.args.tracks.now) c.args.places.now n line) same next)
  | inr (_, other) ↦ c.loop-t.invariant t line (omega (arith, few, other)) next
]

pub returns-clause-all : goal.returns-clause-all
returns-clause-all g c = λ same t line next. elim (leb_tells (t + 1) c.loop-t.t) [
  | inl (_, below) ↦ c.loop-t.invariant t line (omega (arith, below)) next
  | inr (_, past) ↦ none_behind c.args.tracks.now c.args.places.now t line (omega (arith, past, c.loop-t-test.false)) next
]
