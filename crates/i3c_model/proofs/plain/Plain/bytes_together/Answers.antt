use Rattle.std.proofs.Common.{ℕ, refl, arith}
use Rattle.std.proofs.lemmas.Option.{none-some}
use Rattle.i3c_base.specs.declared.requests.Request.TheVariants.{Interrupt}
use Rattle.i3c_base.specs.Serve.{DrivesByte}
use Rattle.i3c_model.proofs.Readings.{one_byte}
use Rattle.i3c_model.proofs.Requests.{drives_in}
use Rattle.i3c_model.proofs.Together.{and_past, and_start, and_whole, and_with}
use Rattle.i3c_model.proofs.plain.Plain.bytes_together.Goals.{in-Some, in_default}
use Rattle.i3c_model.proofs.plain.Plain.bytes_together.Goals as goal

pub loop-index-init : goal.loop-index-init
loop-index-init c = and_start (DrivesByte c.args.self.now (Interrupt c.args.at))

pub loop-index-preserved : goal.loop-index-preserved
loop-index-preserved c =
    let D : ℕ → ℕ → Type 0 = DrivesByte c.args.self.now (Interrupt c.args.at) in
    elim c.match-byte_driven.branch [
      | in-Some w ↦
          let driven = rw c.from_index.ensures at ((w.in-Some.ensures.driven w.in-Some.byte).0 refl) in
          rw w.both-is (and_with D c.loop-index.index c.loop-index.both w.in-Some.byte c.loop-index.invariant driven (λ v d. one_byte c.args.self.now c.args.at c.loop-index.index w.in-Some.byte v driven d))
      | in_default w ↦ rw w.both-is (and_past D c.loop-index.index c.loop-index.both c.loop-index.invariant (λ v d. none-some v ((w.in_default.ensures.driven v).1 (rw c.from_index.ensures d))))
    ]

pub returns : goal.returns
returns c = and_whole (DrivesByte c.args.self.now (Interrupt c.args.at)) c.loop-index.index c.loop-index.both
    (λ s v d. let l = drives_in c.args.self.now (Interrupt c.args.at) s d.0 in omega (arith, l, c.loop-index-test.false, c.slots-index-end.ensures.all)) c.loop-index.invariant
