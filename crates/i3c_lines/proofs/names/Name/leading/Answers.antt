use Rattle.std.proofs.Common.{◌∙◌, arith, below_more, get_or, length-set, refl, rules}
use Rattle.std.proofs.lemmas.Grind.{common_steps}
use Rattle.i3c_lines.specs.Tokens.{IsNameLetter}
use Rattle.i3c_lines.proofs.NameLaws.{letter_put, letters_put}
use Rattle.i3c_lines.proofs.names.Name.leading.Goals as goal

pub loop-place-preserved : goal.loop-place-preserved
loop-place-preserved c =
    let so_far = c.loop-place.invariant in
    let put = letter_put c.loop-place.bytes c.args.line.now c.loop-place.place _ so_far.long (grind (arith, common_steps)) (grind (arith, common_steps)) refl so_far.first so_far.rest in
    record {
      long = length-set c.loop-place.bytes c.loop-place.place _ ∙ so_far.long;
      first = put.0;
      rest = put.1;
      letters = below_more (λ k. IsNameLetter (get_or c.args.line.now k 0)) _ so_far.letters (c.is_letter.ensures.0 (search rules));
    }

pub returns-clause-letters : goal.returns-clause-letters
returns-clause-letters c = letters_put c.loop-place.bytes c.args.line.now c.loop-place.place _ (omega arith) (grind (arith, common_steps)) c.loop-place.invariant.first c.loop-place.invariant.letters
