use Rattle.std.proofs.Common.{◌||◌, ap, refl, subst}
use Rattle.i3c_program.specs.Sessions.{Answers}
use Rattle.i3c_program.proofs.Written.{on_ok}
use Rattle.i3c_program.proofs.session.SessionAnswerer.answer.Goals as goal

pub returns : goal.returns
returns c =
    let (word, is, comes) = c.in_ok-came.ensures in
    on_ok c.push.result
    (λ answers. record {
      word = word;
      is = is;
      came = c.in_ok-came.came;
      comes = comes;
      answers = subst (λ old. Answers c.args.self.now.form c.args.number c.in_ok-came.came c.advance.new.self old c.push.new.text) c.requires.empty answers;
      form = refl;
      wrong = ap (λ b. c.args.self.now.wrong || b) c.is_wrong.ensures;
    }) c.push.ensures
