use Rattle.std.proofs.Common.{◌∙◌, arith, refl, subst, sym}
use Rattle.std.proofs.lemmas.Grind.{common_steps}
use Rattle.i3c_facts.specs.Forms.{WritesBytes}
use Rattle.i3c_facts.proofs.BytesLaws.{bytes_are, no_bytes, too_many}
use Rattle.i3c_facts.proofs.fact_tokens.written_bytes.Goals.{then-is_empty-via-then-is_empty, then-is_empty-via-else-is_empty+then-len-gt-REGISTERS}
use Rattle.i3c_facts.proofs.fact_tokens.written_bytes.Goals as goal

pub returns-then-is_empty : goal.returns-then-is_empty
returns-then-is_empty c = λ bytes writes. elim c.then-is_empty.branch [
  | then-is_empty-via-then-is_empty w ↦ no_bytes c.args.token.now c.in_ok-bytes.bytes.items bytes c.in_ok-bytes.ensures.value (grind (arith, common_steps)) writes
  | then-is_empty-via-else-is_empty+then-len-gt-REGISTERS w ↦ too_many c.args.token.now c.in_ok-bytes.bytes.items bytes c.in_ok-bytes.ensures.value (grind (arith, common_steps)) writes
]

pub returns : goal.returns
returns c =
    subst (λ bytes. WritesBytes c.args.token.now bytes) (sym (c.new.ensures ∙ c.as_slice.ensures.value))
    (bytes_are c.args.token.now c.in_ok-bytes.bytes.items (c.in_ok-bytes.ensures.form.0 refl) c.in_ok-bytes.ensures.value (grind (arith, common_steps)) (grind (arith, common_steps)))
