use Rattle.std.proofs.Common.{◌∙◌, ◌++◌, ap, refl}
use Rattle.std.specs.Prelude.{codes}
use Rattle.i3c_frame.specs.Texts.{text_of}
use Rattle.i3c_wave.specs.declared.levels.Line.{Line}
use Rattle.i3c_draw.specs.Driving.{answer_by, bits_by}
use Rattle.i3c_draw.specs.Rows.{boxes_text}
use Rattle.i3c_draw.specs.Traces.{symbol_width, trace_text}
use Rattle.i3c_draw.proofs.Appended.{last_part, one_part}
use Rattle.i3c_draw.proofs.pen.Pen.push_drawn.Goals as goal

pub returns : goal.returns
returns c =
    let old = c.args.text.now in
    let boxes =
    c.in_ok-push_boxes.ensures
    ∙ ap (λ bits. old ++ boxes_text bits c.answer_by-answer.result c.symbol_width.result) c.bits_by-bits.ensures
    ∙ ap (λ answer. old ++ boxes_text (bits_by c.args.self.turn c.args.symbol) answer c.symbol_width.result) c.answer_by-answer.ensures
    ∙ ap (λ width. old ++ boxes_text (bits_by c.args.self.turn c.args.symbol) (answer_by c.args.self.turn c.args.symbol) width) c.symbol_width.ensures in
    let rest-5 = trace_text Line.Sda c.args.self.level c.args.symbol in
    let rest-4 = trace_text Line.Scl c.args.self.level c.args.symbol ++ rest-5 in
    let rest-3 = codes "</text>" ++ rest-4 in
    let rest-2 = text_of c.args.symbol ++ rest-3 in
    let rest-1 = codes "<text x='3' y='12'>" ++ rest-2 in
    let rest-0 = boxes_text (bits_by c.args.self.turn c.args.symbol) (answer_by c.args.self.turn c.args.symbol) (symbol_width c.args.symbol) ++ rest-1 in
    let whole = old ++ rest-0 in
    let part-1 = one_part whole old c.push_boxes.new.text (boxes_text (bits_by c.args.self.turn c.args.symbol) (answer_by c.args.self.turn c.args.symbol) (symbol_width c.args.symbol)) rest-1 refl boxes in
    let part-2 = one_part whole c.push_boxes.new.text c.push.new.self (codes "<text x='3' y='12'>") rest-2 part-1 c.in_ok-push.ensures.appended in
    let part-3 = one_part whole c.push.new.self c.push-2.new.text (text_of c.args.symbol) rest-3 part-2 c.in_ok-push-2.ensures in
    let part-4 = one_part whole c.push-2.new.text c.push-3.new.self (codes "</text>") rest-4 part-3 c.in_ok-push-3.ensures.appended in
    let part-5 = one_part whole c.push-3.new.self c.push_trace.new.text (trace_text Line.Scl c.args.self.level c.args.symbol) rest-5 part-4 c.in_ok-push_trace.ensures in
    last_part c.push_trace-2.result whole c.push_trace.new.text c.push_trace-2.new.text rest-5 part-5 c.push_trace-2.ensures
