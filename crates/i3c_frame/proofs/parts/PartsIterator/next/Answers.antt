use Rattle.std.proofs.Common.{◌≡◌, ◌∷◌, ap, length, rules, sym}
use Rattle.i3c_frame.specs.Parts.{parts}
use Rattle.i3c_frame.proofs.PartLaws.{parts_cut, parts_end}
use Rattle.i3c_frame.proofs.parts.PartsIterator.next.Goals as goal

pub returns-in_err-start-clause-steps : goal.returns-in_err-start-clause-steps
returns-in_err-start-clause-steps c = let none = parts_end c.args.self.now.text.now (sym c.in_err-start.ensures) in search rules

cut : (c : goal.After-rest-2-1) → parts c.args.self.now.text.now ≡ c.split_at.result.0.now ∷ parts c.split_at.result.1.now
cut c = parts_cut _ _ _ c.in_ok-start.start c.unwrap_or-end.result (sym c.in_ok-start.ensures) (rw c.end_of.ensures at c.unwrap_or-end.ensures) c.split_at.ensures.front c.split_at.ensures.back

pub returns-clause-steps : goal.returns-clause-steps
returns-clause-steps c = cut c

pub returns-clause-goes : goal.returns-clause-goes
returns-clause-goes c = let fewer = ap length (cut c) in search rules
