use Rattle.std.proofs.Common.{◌∙◌, ◌++◌, ap, refl, subst, sym}
use Rattle.i3c_program.specs.Sessions.{Finds}
use Rattle.i3c_program.proofs.trial.Trial.break_behind.Goals as goal

pub returns : goal.returns
returns c =
    let (found, finds, put) = c.in_ok-number.ensures in
    let there = put ∙ ap (λ t. t ++ found) c.new-there.ensures in (
      refl,
      record {
        broken = record { behind = c.args.behind; number = c.in_ok-number.number; there = c.unmet.new.there };
        stands = refl;
        turns = refl;
        found = subst (λ t. Finds c.args.self.now c.args.behind.items c.in_ok-number.number t) (sym there) (subst (λ turns. Finds c.args.self.now turns c.in_ok-number.number found) c.deref.ensures.value finds);
        run = refl;
        kept = ((refl, refl, refl, (refl, refl)), refl, refl);
      },
    )
