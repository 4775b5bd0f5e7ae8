use Rattle.std.proofs.Common.{◌≡◌, ◌∙◌, ◌+◌, ◌-◌, ◌<◌, ◌≤◌, ap, arith, length, sym, take}
use Rattle.std.proofs.lemmas.Grind.{common_steps}
use Rattle.serde_json.specs.View.{members_view}
use Rattle.i3c_json.specs.Fields.{put_fields}
use Rattle.i3c_json.proofs.Putting.{field_more}
use Rattle.i3c_json.proofs.fields.put_fields.Goals as goal

pub loop-left-preserved : goal.loop-left-preserved
loop-left-preserved c =
    let pieces = c.args.pieces.now in
    let before = members_view c.loop-left.fields.entries in
    let left = c.loop-left.left - 1 in
    let (same, within) = c.loop-left.invariant in
    let next : left + 1 ≡ c.loop-left.left = grind (arith, common_steps) in
    let inside : left < length pieces = omega (arith, next, within) in
    let less : left ≤ length pieces = omega (arith, inside) in (
      ap (put_fields (take left pieces)) c.in_ok-put_field.ensures ∙ sym (field_more pieces left c.index-pieces-left.result before inside (sym c.index-pieces-left.is)) ∙ ap (λ n. put_fields (take n pieces) before) next ∙ same,
      less,
    )
