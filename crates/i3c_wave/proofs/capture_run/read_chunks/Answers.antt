use Rattle.std.proofs.Common.{◌≡◌, ◌⊎◌, ◌∙◌, ◌<◌, ◌++◌, Err, Ok, IfSome, MatchResult, arith, length, subst, sym, take}
use Rattle.std.specs.Io.KnownBytes.{Consumes}
use Rattle.i3c_wave.specs.declared.captured.Captured.{Captured}
use Rattle.i3c_wave.specs.Found.{found_in}
use Rattle.i3c_wave.specs.CaptureTexts.{IsFound, IsOfReading, TellsRead, new_input, text_read}
use Rattle.i3c_wave.proofs.CaptureLaws.{all_read, bytes_on, chunk_fault, end_fault, ended_with, more_read}
use Rattle.i3c_wave.proofs.TextFaults.{of_chunk, of_ending, tells_other}
use Rattle.i3c_wave.proofs.capture_run.read_chunks.Goals as goal
use Rattle.i3c_wave.proofs.capture_run.read_chunks.Goals.{in-Ok-end_text, in-Err}

pub returns-then-count-eq0-clause-found : goal.returns-then-count-eq0-clause-found
returns-then-count-eq0-clause-found g c =
    let first = g.R.Read.remaining c.args.source.now.reader in
    let old = g.R.Read.remaining c.loop.source.reader in
    let new = g.R.Read.remaining c.read.new.self.reader in
    let legacies = c.args.legacies in
    let scl = c.args.scl.now in
    let sda = c.args.sda.now in
    let inv = c.loop.invariant.1 in
    let none : c.in-Ok.count ≡ 0 = omega (arith, c.if-count-eq0.true) in
    let room : 0 < length c.read.new.chunk = omega (arith, c.read.auto.chunk, c.loop.invariant.0) in
    let two = subst (λ n. Consumes old new (take n c.read.new.chunk)) none c.in-Ok.ensures.bytes.0 in
    let end = c.in-Ok.ensures.bytes.1 none room in
    elim c.match-end_text.branch [
      | in-Ok-end_text w ↦
          subst (λ r. MatchResult r (λ captured. IfSome first (λ text. IsFound legacies scl sda text captured)) (λ fault. IsOfReading fault ⊎ IfSome first (λ text. text_read legacies scl sda text ≡ Err fault))) (sym w.result-is)
          (all_read first old new inv.0 (λ text. IsFound legacies scl sda text c.end_text.new.captured) inv.1 two end (ended_with legacies scl sda inv.0 (record { reached = c.loop.reached; word = c.loop.word; found = found_in c.loop.captured }) c.end_text.new.captured inv.2 w.in-Ok-end_text.ensures))
      | in-Err w ↦
          subst (λ r. MatchResult r (λ captured. IfSome first (λ text. IsFound legacies scl sda text captured)) (λ fault. IsOfReading fault ⊎ IfSome first (λ text. text_read legacies scl sda text ≡ Err fault))) (sym w.result-is)
          (end_fault first old new legacies scl sda inv.0 (record { reached = c.loop.reached; word = c.loop.word; found = found_in c.loop.captured }) w.in-Err.fault inv.1 two end inv.2 w.in-Err.ensures)
    ]

pub returns-in-Err-take_bytes-clause-found : goal.returns-in-Err-take_bytes-clause-found
returns-in-Err-take_bytes-clause-found g c =
    let first = g.R.Read.remaining c.args.source.now.reader in
    let old = g.R.Read.remaining c.loop.source.reader in
    let new = g.R.Read.remaining c.read.new.self.reader in
    let inv = c.loop.invariant.1 in
    let piece = take c.in-Ok.count c.read.new.chunk in
    chunk_fault first new c.args.legacies c.args.scl.now c.args.sda.now inv.0 piece (record { reached = c.loop.reached; word = c.loop.word; found = found_in c.loop.captured }) c.in-Err-take_bytes.fault (more_read first old new inv.0 piece inv.1 c.in-Ok.ensures.bytes.0) inv.2 c.in-Err-take_bytes.ensures

pub loop-preserved : goal.loop-preserved
loop-preserved g c =
    let first = g.R.Read.remaining c.args.source.now.reader in
    let old = g.R.Read.remaining c.loop.source.reader in
    let new = g.R.Read.remaining c.read.new.self.reader in
    let inv = c.loop.invariant.1 in
    let piece = take c.in-Ok.count c.read.new.chunk in (
      omega (arith, c.read.auto.chunk, c.loop.invariant.0),
      (inv.0 ++ piece, more_read first old new inv.0 piece inv.1 c.in-Ok.ensures.bytes.0, bytes_on c.args.scl.now c.args.sda.now inv.0 piece (new_input c.args.legacies) (record { reached = c.loop.reached; word = c.loop.word; found = found_in c.loop.captured }) (Ok (record { reached = c.take_bytes.new.reached; word = c.take_bytes.new.word; found = found_in c.take_bytes.new.captured })) inv.2 c.in-Ok-take_bytes.ensures),
      c.in-Ok.ensures.failed ∙ c.loop.invariant.2,
    )

pub returns-then-count-eq0-clause-read : goal.returns-then-count-eq0-clause-read
returns-then-count-eq0-clause-read g c =
    let old = c.args.source.now.has_failed in
    let new = c.read.new.self.has_failed in
    let same : new ≡ old = c.in-Ok.ensures.failed ∙ c.loop.invariant.2 in
    elim c.match-end_text.branch [
      | in-Ok-end_text w ↦ subst (λ r. TellsRead old new r) (sym w.result-is) same
      | in-Err w ↦
          subst (λ r. TellsRead old new r) (sym w.result-is)
          (tells_other Captured old new w.in-Err.fault same (of_ending c.args.scl.now c.args.sda.now (record { reached = c.loop.reached; word = c.loop.word; found = found_in c.loop.captured }) w.in-Err.fault w.in-Err.ensures))
    ]

pub returns-in-Err-take_bytes-clause-read : goal.returns-in-Err-take_bytes-clause-read
returns-in-Err-take_bytes-clause-read g c =
    let same = c.in-Ok.ensures.failed ∙ c.loop.invariant.2 in
    let piece = take c.in-Ok.count c.read.new.chunk in
    let other = of_chunk c.args.scl.now c.args.sda.now (record { reached = c.loop.reached; word = c.loop.word; found = found_in c.loop.captured }) piece c.in-Err-take_bytes.fault c.in-Err-take_bytes.ensures in
    tells_other Captured c.args.source.now.has_failed c.read.new.self.has_failed c.in-Err-take_bytes.fault same other
