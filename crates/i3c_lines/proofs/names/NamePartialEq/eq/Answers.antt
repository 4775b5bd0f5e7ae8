-- A name is known by its letters.
use Rattle.std.proofs.Common.{nat_eq, ap, refl, sym}
use Rattle.std.specs.Cmp.{both_ways}
use Rattle.std.specs.Cmp.Lexicographic.{same_text}
use Rattle.std.proofs.lemmas.Bool.Decides.{Decides-eqb}
use Rattle.std.proofs.lemmas.Slice.Eq.{slice_eq-Decides}
use Rattle.i3c_lines.specs.Naming.{is_same, letters}
use Rattle.i3c_lines.proofs.Meanings.{same_name}
use Rattle.i3c_lines.proofs.names.NamePartialEq.eq.Goals as goal

pub returns : goal.returns
returns c =
    let one = c.args.self.now in
    let other = c.args.other.now in
    both_ways c.is_same.result (is_same one other)
    (λ t. (slice_eq-Decides {E = nat_eq} Decides-eqb (letters one) (letters other) (is_same one other) refl).1 (ap letters (c.is_same.ensures.0 t)))
    (λ t. c.is_same.ensures.1 (same_name one other (same_text (letters one) (letters other) (sym t))))
