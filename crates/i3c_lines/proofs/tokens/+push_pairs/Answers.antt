use Rattle.std.proofs.Common.{rules, ◌≡◌, ◌-◌, ◌<◌, ◌++◌, [], ◌∷◌, arith, length, take}
use Rattle.std.proofs.lemmas.Grind.{common_steps}
use Rattle.std.specs.Str.Parse.{digits_value}
use Rattle.i3c_lines.proofs.PairLaws.{kept, no_pairs, pushed_if}
use Rattle.i3c_lines.proofs.tokens.+push_pairs.Goals as goal

pub returns-in_default-clause-value : goal.returns-in_default-clause-value
returns-in_default-clause-value t c = no_pairs _ c.args.bytes.now.items c.args.digits.now c.in_default.ensures.cases

pub returns-clause-value : goal.returns-clause-value
returns-clause-value t c =
    let had = c.args.bytes.now.items in
    let byte = c.in_ok-byte.byte in
    let shape : c.args.digits.now ≡ c.in-Some.high.now ∷ (c.in_ok-low.low.now ∷ c.in_ok-low.rest.now) = grind (arith, common_steps) in
    let value : byte ≡ digits_value 16 (c.in-Some.high.now ∷ c.in_ok-low.low.now ∷ []) = c.in_ok-byte.ensures.value in
    let room : length had < 17 = grind (arith, common_steps) in
    let grown : c.push.new.self.items ≡ had ++ take (17 - length had) (byte ∷ []) = kept 17 had c.push.new.self.items byte room c.push.ensures.items in
    pushed_if c.push_pairs.result 17 had c.push.new.self.items c.push_pairs.new.bytes.items c.args.digits.now c.in_ok-low.rest.now c.in-Some.high.now c.in_ok-low.low.now _ shape value grown c.push_pairs.ensures.value

pub returns-then-is_full-clause-form : goal.returns-then-is_full-clause-form
returns-then-is_full-clause-form t c = search rules
