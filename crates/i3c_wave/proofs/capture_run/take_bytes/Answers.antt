use Rattle.std.proofs.Common.{◌≡◌, ◌∙◌, ◌+◌, ◌-◌, ◌<◌, ◌≤◌, Ok, ap, arith, drop, get_or, length, length-drop, subst, sym, take, take_all}
use Rattle.i3c_wave.specs.CaptureTexts.{Reads, bytes_read, goes_on, input, part_read}
use Rattle.i3c_wave.specs.Found.{found_in}
use Rattle.i3c_wave.proofs.PartLaws.{front_read, open_read, part_fault}
use Rattle.i3c_wave.proofs.capture_run.take_bytes.Goals as goal

pub returns-in-Err : goal.returns-in-Err
returns-in-Err c =
    let rest = c.loop-count.rest.now in
    let from = input c.loop-count.reached c.loop-count.word (found_in c.loop-count.captured) in
    let within : c.loop-count.count < length rest = omega (arith, c.loop-count-test.true) in
    part_fault c.args.scl.now c.args.sda.now rest (part_read c.args.scl.now c.args.sda.now from (take c.loop-count.count rest) (get_or rest c.loop-count.count 0)) c.in-Err.fault _ (drop (c.loop-count.count + 1) rest)
    (c.loop-count.invariant.read ∙ front_read c.args.scl.now c.args.sda.now rest c.loop-count.count from c.loop-count.invariant.count within) c.in-Err.ensures

pub loop-count-preserved : goal.loop-count-preserved
loop-count-preserved c =
    let scl = c.args.scl.now in
    let sda = c.args.sda.now in
    let rest = c.loop-count.rest.now in
    let count = c.loop-count.count in
    let more = drop (count + 1) rest in
    let from = input c.loop-count.reached c.loop-count.word (found_in c.loop-count.captured) in
    let to = input c.take_part.new.self c.take_part.new.word (found_in c.take_part.new.captured) in
    let within : count < length rest = omega (arith, c.loop-count-test.true) in
    let part : part_read scl sda from (take count rest) (get_or rest count 0) ≡ Ok to = c.in-Ok.ensures in
    let left : take (length rest - (count + 1)) more ≡ more = take_all (length rest - (count + 1)) more (omega (arith, length-drop (count + 1) rest)) in record {
      count = c.letters_in-count-in-loop-count.ensures;
      read = c.loop-count.invariant.read ∙ front_read scl sda rest count from c.loop-count.invariant.count within ∙ ap (λ step. goes_on step (λ next. bytes_read scl sda next more)) part ∙ ap (bytes_read scl sda to) (sym left);
    }

pub returns : goal.returns
returns c =
    let scl = c.args.scl.now in
    let sda = c.args.sda.now in
    let rest = c.loop-count.rest.now in
    let from = input c.loop-count.reached c.loop-count.word (found_in c.loop-count.captured) in
    let past : length rest ≤ c.loop-count.count = omega (arith, c.loop-count-test.false) in
    let same = c.loop-count.invariant.read ∙ open_read scl sda rest c.loop-count.count from c.loop-count.invariant.count past in
    subst (λ outcome. Reads outcome c.loop-count.reached c.keep_letters.new.word (found_in c.loop-count.captured) c.keep_letters.result) (sym same) (c.keep_letters.ensures (found_in c.loop-count.captured))
