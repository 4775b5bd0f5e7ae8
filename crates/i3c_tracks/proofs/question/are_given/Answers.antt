-- Each name so far is given by a line of the file.
use Rattle.std.proofs.Common.{◌≡◌, Option, arith, refl, rules, subst, true}
use Rattle.std.specs.Prelude.{IfSome}
use Rattle.std.proofs.lemmas.List.{take_all}
use Rattle.std.proofs.lemmas.List.Elements.{All-more}
use Rattle.i3c_facts.specs.declared.facts.Claim.{Claim}
use Rattle.i3c_facts.specs.Holding.{name_of}
use Rattle.i3c_lines.specs.declared.names.Name.{Name}
use Rattle.i3c_tracks.specs.Questions.{AreGiven, IsGiven}
use Rattle.i3c_tracks.proofs.question.are_given.Goals as goal

pub loop-index-preserved : goal.loop-index-preserved
loop-index-preserved c =
    let yes : c.is_known.result ≡ true = first_of (cc, search rules, grind arith) in
    let known = subst (λ (name : Option Name). IfSome name (IsGiven c.args.lines.now)) c.name.ensures (c.is_known.ensures.0 yes) in
    All-more (λ (claim : Claim). IfSome (name_of claim.fact) (IsGiven c.args.lines.now)) c.args.claims.now c.loop-index.index c.index-claims-index.result c.loop-index-test.true c.loop-index.invariant known

pub returns : goal.returns
returns c = (λ _. subst (AreGiven c.args.lines.now) (take_all c.loop-index.index c.args.claims.now c.loop-index-test.false) c.loop-index.invariant, λ _. refl)
