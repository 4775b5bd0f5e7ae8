use Rattle.std.proofs.Common.{◌<◌, ◌^◌, sym, subst, rules, arith}
use Rattle.std.proofs.lemmas.Grind.{common_steps}
use Rattle.std.specs.Option.{IsSome}
use Rattle.std.specs.Str.Parse.{ParsesUnsigned, digits_value}
use Rattle.i3c_lines.specs.Tokens.{IsDecimal}
use Rattle.i3c_lines.proofs.DecimalLaws.{Writes, decimal_is_text, decimal_parses, short_is_some, some_is_short}
use Rattle.i3c_lines.proofs.tokens.decimal.Goals as goal

pub unreachable-requires : goal.unreachable-requires
unreachable-requires c = c.in_default.ensures.cases.0 (decimal_is_text c.args.token.now (grind (arith, common_steps), c.is_decimal.ensures.0 (search rules)))

pub returns-clause-form : goal.returns-clause-form
returns-clause-form c =
    let given : IsDecimal c.args.token.now = (grind (arith, common_steps), c.is_decimal.ensures.0 (search rules)) in
    let parses : ParsesUnsigned 64 10 c.args.token.now c.from_str_radix.result = subst (λ w. ParsesUnsigned 64 10 w c.from_str_radix.result) c.in-Ok.ensures.cases.0 c.from_str_radix.ensures.value in
    let writes : Writes c.args.token.now c.from_str_radix.result = decimal_parses c.args.token.now c.from_str_radix.result given parses in
    let short : IsSome c.ok.result → digits_value 10 c.args.token.now < 2 ^ 64 = λ some. some_is_short c.args.token.now c.from_str_radix.result writes (subst IsSome c.ok.ensures.value some) in
    (λ some. (given, short some), λ h. subst IsSome (sym c.ok.ensures.value) (short_is_some c.args.token.now c.from_str_radix.result writes h.0 h.1))
