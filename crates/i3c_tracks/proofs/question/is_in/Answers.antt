-- No line so far gives the name, or one does.
use Rattle.std.proofs.Common.{ℕ, refl, subst, sym}
use Rattle.std.specs.Global.{Vec}
use Rattle.std.specs.Prelude.{All}
use Rattle.std.proofs.lemmas.List.Elements.{All-contains, All-more}
use Rattle.std.proofs.lemmas.List.{take_all}
use Rattle.std.proofs.lemmas.Bool.{false≢true}
use Rattle.i3c_tracks.specs.Questions.{Gives}
use Rattle.i3c_tracks.proofs.question.is_in.Goals as goal

pub returns-then-gives : goal.returns-then-gives
returns-then-gives c = (
  λ _. (
    c.index-lines-index.result,
    (c.loop-index.index, c.loop-index-test.true, sym c.index-lines-index.is),
    subst (λ line. Gives line c.args.name.now) c.as_slice.ensures.value (c.if-gives.ensures.0 refl),
  ),
  λ _. refl,
)

pub loop-index-preserved : goal.loop-index-preserved
loop-index-preserved c =
    All-more (λ (line : Vec ℕ). Gives line.items c.args.name.now → ⊥) c.args.lines.now c.loop-index.index c.index-lines-index.result c.loop-index-test.true c.loop-index.invariant
    (λ gives. false≢true (c.if-gives.ensures.1 (subst (λ line. Gives line c.args.name.now) (sym c.as_slice.ensures.value) (subst (λ (line : Vec ℕ). Gives line.items c.args.name.now) (sym c.index-lines-index.is) gives))))

pub returns : goal.returns
returns c =
    let none = subst (All (λ (line : Vec ℕ). Gives line.items c.args.name.now → ⊥)) (take_all c.loop-index.index c.args.lines.now c.loop-index-test.false) c.loop-index.invariant in
    (λ yes. absurd (false≢true yes), λ given. let (line, there, gives) = given in absurd (All-contains (λ (line : Vec ℕ). Gives line.items c.args.name.now → ⊥) c.args.lines.now line none there gives))
