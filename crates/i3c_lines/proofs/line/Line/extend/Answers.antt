use Rattle.std.proofs.Common.{◌≡◌, ◌∙◌, ◌++◌, ◌≤◌, ℕ, List, length, take, ap, sym, rules, arith}
use Rattle.std.proofs.lemmas.Grind.{common_steps}
use Rattle.i3c_lines.specs.declared.line.TheConstants.{TELLING_LENGTH}
use Rattle.i3c_lines.specs.Gathering.{gathered}
use Rattle.i3c_lines.proofs.PieceLaws.{first_of_piece, whole_piece}
use Rattle.i3c_lines.proofs.line.Line.extend.Goals as goal
use Rattle.i3c_lines.proofs.line.Line.extend.Goals.{then-more-room, else-more-room}

pub returns : goal.returns
returns c =
    let old = gathered c.args.self.now in
    let short : length old ≤ TELLING_LENGTH = grind (arith, common_steps) in
    let kept : c.try_extend_from_slice.new.self.items ≡ old ++ c.if-more-room.told.now = c.in-Ok.ensures.ok in
    let told : take TELLING_LENGTH (old ++ c.args.more.now) ≡ old ++ c.if-more-room.told.now = elim c.if-more-room.branch [
      | then-more-room w ↦ whole_piece TELLING_LENGTH old c.args.more.now (grind (arith, common_steps)) short ∙ ap (λ (t : List ℕ). old ++ t) (search rules)
      | else-more-room w ↦ first_of_piece TELLING_LENGTH old c.args.more.now short ∙ ap (λ (t : List ℕ). old ++ t) (search rules)
    ] in
    kept ∙ sym told
