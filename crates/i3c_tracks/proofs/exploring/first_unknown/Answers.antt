-- A question has a name that no line gives, or none has.
use Rattle.std.proofs.Common.{◌≡◌, ◌∙◌, arith, false, length, refl, rules, subst, sym}
use Rattle.std.proofs.lemmas.Bool.{false≢true}
use Rattle.std.proofs.lemmas.List.{take_all}
use Rattle.std.proofs.lemmas.Option.{slice_get_read}
use Rattle.i3c_tracks.specs.Questions.{AreKnown}
use Rattle.i3c_tracks.proofs.exploring.first_unknown.Goals as goal

pub returns-then-not-is_of : goal.returns-then-not-is_of
returns-then-not-is_of c =
    let no : c.is_of.result ≡ false = first_of (cc, search rules, grind arith) in
    (c.index-questions-index.result, slice_get_read c.args.questions.now (length c.args.questions.now) c.loop-index.index c.index-questions-index.result refl c.loop-index-test.true c.index-questions-index.is, λ given. false≢true (sym no ∙ c.is_of.ensures.1 given))

pub returns : goal.returns
returns c = subst (AreKnown c.args.lines.now) (take_all c.loop-index.index c.args.questions.now c.loop-index-test.false) c.loop-index.invariant
