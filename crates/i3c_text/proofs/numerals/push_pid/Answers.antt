use Rattle.std.proofs.Common.{◌≡◌, ◌∙◌, ◌++◌, List, ℕ, OnOk, ap, arith, drop, rules, subst, take}
use Rattle.i3c_text.specs.Hex.{hex_text}
use Rattle.i3c_text.proofs.HexTexts.{last_digits}
use Rattle.i3c_text.proofs.numerals.push_pid.Goals as goal

pub returns : goal.returns
returns c =
    let part : List ℕ → List ℕ = λ digits. take 12 (drop 4 digits) in
    let added : OnOk c.extend_from_slice.result (c.extend_from_slice.new.self.items ≡ c.args.text.now.items ++ part c.hex_digits-digits.result) = search rules in
    subst (λ digits. OnOk c.extend_from_slice.result (c.extend_from_slice.new.self.items ≡ c.args.text.now.items ++ digits)) (ap part c.hex_digits-digits.ensures ∙ last_digits 12 c.get.result (omega arith) ∙ ap (hex_text 12) c.get.ensures.same) added
