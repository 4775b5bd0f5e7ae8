-- A text that isn't expected asks nothing, and no more does one about the line before.
use Rattle.std.proofs.Common.{◌≡◌, ◌∙◌, arith, false, rules, subst, sym}
use Rattle.std.proofs.lemmas.Bool.{false≢true}
use Rattle.i3c_tracks.specs.Questions.{AreOfEnds}
use Rattle.i3c_tracks.proofs.QuestionLaws.{not_of_ends}
use Rattle.i3c_tracks.proofs.question.Question.of.Goals as goal

pub returns-in_default : goal.returns-in_default
returns-in_default c claims asked =
    let none = rw c.in_default.is at c.in_ok-facts.ensures in
    none claims asked.0

pub returns-then-not-are_of_ends : goal.returns-then-not-are_of_ends
returns-then-not-are_of_ends c =
    let there = rw c.in-Some.is at c.in_ok-facts.ensures in
    let no : c.are_of_ends.result ≡ false = first_of (cc, search rules, grind arith) in
    not_of_ends c.args.text.now c.in-Some.facts there (λ all. false≢true (sym no ∙ c.are_of_ends.ensures.1 (subst AreOfEnds (sym c.claims.ensures) all)))
