use Rattle.std.proofs.Common.{rules, ◌≡◌, ◌≤◌, ℕ, ◌+◌, ◌-◌, arith, drop, length, subst, sym, take}
use Rattle.std.proofs.lemmas.List.{length-drop, take_all}
use Rattle.std.specs.Io.KnownBytes.{Appends}
use Rattle.i3c_streams.proofs.Written.{more_written, still_written}
use Rattle.i3c_streams.proofs.output.write_out.Goals as goal
use Rattle.i3c_streams.proofs.output.write_out.Goals.{in-Ok, in-Err}

pub loop-preserved : goal.loop-preserved
loop-preserved g c =
    let text = c.args.text.now in
    let before = g.W.Write.contents c.args.out.now in
    let now = g.W.Write.contents c.loop.out in
    let after = g.W.Write.contents c.write.new.self in
    let Kept : ℕ → Type 0 = λ (n : ℕ). (n ≤ length text) × Appends before after (take n text) in
    elim c.match-write.branch [
      | in-Ok w ↦
          let rest : take (length text - c.loop.written) (drop c.loop.written text) ≡ drop c.loop.written text = take_all (length text - c.loop.written) (drop c.loop.written text) (omega (arith, length-drop c.loop.written text)) in
          let bound : w.in-Ok.count ≤ length (drop c.loop.written text) = subst (λ bytes. w.in-Ok.count ≤ length bytes) rest w.in-Ok.ensures.bound in
          let bytes : Appends now after (take w.in-Ok.count (drop c.loop.written text)) = subst (λ bytes. Appends now after (take w.in-Ok.count bytes)) rest w.in-Ok.ensures.bytes in
          let within : c.loop.written + w.in-Ok.count ≤ length text = omega (arith, c.loop.invariant.0, bound, length-drop c.loop.written text) in
          subst Kept (sym w.written-is) (within, more_written before now after text c.loop.written w.in-Ok.count c.loop.invariant.1 bytes)
      | in-Err w ↦ subst Kept (sym w.written-is) (c.loop.invariant.0, still_written before now after (take c.loop.written text) c.loop.invariant.1 w.in-Err.ensures.bytes)
    ]

pub returns-in-Err-2 : goal.returns-in-Err-2
returns-in-Err-2 g c = search rules
