use Rattle.std.proofs.Common.{◌∙◌, sym, ap, rules, arith, append_assoc, ◌++◌, ◌∷◌, [], ◌+◌}
use Rattle.std.proofs.lemmas.List.{length-append}
use Rattle.rtrb.specs.Ring.{known_items}
use Rattle.i3c_shared.proofs.Taken.{adds_post}
use Rattle.i3c_shared.proofs.intake.drain_known.Goals as goal

pub loop-preserved : goal.loop-preserved
loop-preserved c =
    let inv = c.loop.invariant in
    let byte = c.pop_known-byte.result in (
      inv.0 ++ byte ∷ [],
      length-append inv.0 (byte ∷ []) ∙ ap (λ n. n + 1) inv.1,
      inv.2 ∙ ap (λ l. inv.0 ++ l) c.pop_known-byte.ensures.received.1 ∙ sym (append_assoc inv.0 (byte ∷ []) (known_items c.pop_known-byte.new.self)),
      c.pop_known-byte.ensures.received.0 ∙ ap (λ l. l ++ byte ∷ []) inv.3 ∙ append_assoc _ inv.0 (byte ∷ []),
      search rules,
      c.raise.ensures.room,
      omega (arith, c.raise.ensures.spare, inv.6),
      adds_post c.args.slot inv.0 byte _ _ _ inv.7 c.raise.ensures.added,
    )
