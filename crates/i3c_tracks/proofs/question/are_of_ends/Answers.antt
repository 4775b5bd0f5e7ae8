-- No claim so far is about the line before.
use Rattle.std.proofs.Common.{◌≡◌, false, refl, subst, sym}
use Rattle.std.proofs.lemmas.List.Elements.{All-more}
use Rattle.std.proofs.lemmas.List.{take_all}
use Rattle.i3c_facts.specs.declared.facts.Claim.{Claim}
use Rattle.i3c_tracks.specs.Questions.{AreOfEnds, is_of_line}
use Rattle.i3c_tracks.proofs.question.are_of_ends.Goals as goal

pub loop-index-preserved : goal.loop-index-preserved
loop-index-preserved c =
    All-more (λ (claim : Claim). is_of_line claim.fact ≡ false) c.args.claims.now c.loop-index.index c.index-claims-index.result c.loop-index-test.true c.loop-index.invariant
    (sym c.if-is_of_line.ensures)

pub returns : goal.returns
returns c = (λ _. subst AreOfEnds (take_all c.loop-index.index c.args.claims.now c.loop-index-test.false) c.loop-index.invariant, λ _. refl)
