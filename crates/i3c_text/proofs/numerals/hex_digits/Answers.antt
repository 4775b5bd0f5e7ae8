use Rattle.std.proofs.Common.{◌∙◌, ap}
use Rattle.i3c_text.specs.Hex.{bytes_text}
use Rattle.i3c_text.proofs.HexTexts.{sixteen_digits}
use Rattle.i3c_text.proofs.numerals.hex_digits.Goals as goal

pub returns : goal.returns
returns c = c.write_pairs.ensures ∙ ap bytes_text c.to_be_bytes.ensures ∙ sixteen_digits c.args.number
