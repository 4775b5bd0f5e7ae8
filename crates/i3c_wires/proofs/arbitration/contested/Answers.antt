-- From turn to turn; and what was read in the end.
use Rattle.std.proofs.Common.{◌≡◌, ◌≤◌, ◌-◌, ℕ, List, suc, length, sym, ◌∙◌, ap, arith, option_copied, refl, ◌^◌}
use Rattle.i3c_base.specs.Cutting.{CutList, cut_of}
use Rattle.i3c_wires.specs.Contest.{cuts_in}
use Rattle.i3c_wires.specs.Masks.{is_at, mask_of}
use Rattle.i3c_wires.proofs.Reading.{read_each, read_idle, read_in_width, read_least, read_none}
use Rattle.i3c_wires.proofs.TurnLaws.{IsTop, first_of, none_contend, none_of, turn_less, turning_driving, turning_first, turning_last, turning_one, turning_places, turning_unheard, turning_within, turning_zero}
use Rattle.i3c_wires.proofs.arbitration.contested.Goals as goal
use Rattle.i3c_wires.proofs.arbitration.contested.Goals.{then-low-eq0, else-low-eq0}

-- the contenders that are cut at a bit, by the bits that follow it
cut_there : (cuts : CutList) (keys : List (ℕ × ℕ)) (width t drop : ℕ) → drop ≡ mask_of (λ (e : ℕ × ℕ). is_at (width - 1 - t) (cut_of cuts e.0)) keys → drop ≡ mask_of (λ (e : ℕ × ℕ). is_at (width - suc t) (cut_of cuts e.0)) keys
cut_there cuts keys width t drop e =
    let same : width - 1 - t ≡ width - suc t = omega arith in
    e ∙ ap (λ k. mask_of (λ (e : ℕ × ℕ). is_at k (cut_of cuts e.0)) keys) same

pub returns-in_default : goal.returns-in_default
returns-in_default c =
    let cuts = cuts_in (option_copied c.args.cuts) in
    let keys = c.args.keys.now in
    let last = none_contend cuts keys c.args.width _ c.requires.some_bits c.requires.few_bits (none_of keys c.in_default.ensures.value) refl in
    record {
      winners = c.new.ensures ∙ last.0;
      least = read_least cuts keys c.args.width _ last.1;
      none = λ none. read_none cuts keys c.args.width _ last.1 (sym last.0);
      each_bit = read_each cuts keys c.args.width _ last.1;
      idle = read_idle cuts keys c.args.width _ last.1;
      in_width = read_in_width cuts keys c.args.width _ last.1;
    }

pub loop-turns-init : goal.loop-turns-init
loop-turns-init c =
    let keys = c.args.keys.now in
    let first = first_of keys c.in-Some.first.now c.in-Some.ensures.value in
    turning_first (cuts_in (option_copied c.args.cuts)) keys c.args.width c.in-Some.first.now.1 c.turns_of-turns.result c.first_places-still.result first.0 c.requires.fit
    (omega (arith, ap (λ (e : ℕ × ℕ). e.1) first.1, c.requires.fit 0 c.in-Some.first.now first.0)) (c.first_places-still.ensures ∙ ap (λ n. 2 ^ n - 1) refl)
    c.turns_of-turns.ensures.quiet c.turns_of-turns.ensures.within

pub overflow_sub-width-in-loop-turns : goal.overflow_sub-width-in-loop-turns
overflow_sub-width-in-loop-turns c =
    let top : IsTop c.loop-turns.turns c.ilog2-left.result = record { low = c.ilog2-left.ensures.power_le; high = c.ilog2-left.ensures.next_power_gt; fits = c.ilog2-left.ensures.bound } in
    omega (arith, turning_within (cuts_in (option_copied c.args.cuts)) c.args.keys.now c.args.width c.loop-turns.turns c.loop-turns.bits c.loop-turns.still c.ilog2-left.result c.loop-turns.invariant top)

pub returns-then-still-eq0 : goal.returns-then-still-eq0
returns-then-still-eq0 c =
    let cuts = cuts_in (option_copied c.args.cuts) in
    let keys = c.args.keys.now in
    let top : IsTop c.loop-turns.turns c.ilog2-left.result = record { low = c.ilog2-left.ensures.power_le; high = c.ilog2-left.ensures.next_power_gt; fits = c.ilog2-left.ensures.bound } in
    let last = turning_unheard cuts keys c.args.width c.loop-turns.turns c.loop-turns.bits c.loop-turns.still c.ilog2-left.result c.cut_at.result c.unheard.result.bits
    c.requires.some_bits (omega (arith, c.requires.few)) c.loop-turns.invariant top (cut_there cuts keys c.args.width c.ilog2-left.result c.cut_at.result c.cut_at.ensures)
    c.if-still-eq0.true c.unheard.ensures.above c.unheard.ensures.ones in
    record {
      winners = c.unheard.ensures.nobody ∙ last.0;
      least = read_least cuts keys c.args.width c.unheard.result.bits last.1;
      none = λ none. read_none cuts keys c.args.width c.unheard.result.bits last.1 (sym last.0);
      each_bit = read_each cuts keys c.args.width c.unheard.result.bits last.1;
      idle = read_idle cuts keys c.args.width c.unheard.result.bits last.1;
      in_width = read_in_width cuts keys c.args.width c.unheard.result.bits last.1;
    }

pub zeros_among-low-requires-clause-places : goal.zeros_among-low-requires-clause-places
zeros_among-low-requires-clause-places c =
    let cuts = cuts_in (option_copied c.args.cuts) in
    let keys = c.args.keys.now in
    let top : IsTop c.loop-turns.turns c.ilog2-left.result = record { low = c.ilog2-left.ensures.power_le; high = c.ilog2-left.ensures.next_power_gt; fits = c.ilog2-left.ensures.bound } in
    turning_driving cuts keys c.args.width c.loop-turns.turns c.loop-turns.bits c.loop-turns.still c.ilog2-left.result c.cut_at.result (omega (arith, c.requires.few)) c.loop-turns.invariant top
    (cut_there cuts keys c.args.width c.ilog2-left.result c.cut_at.result c.cut_at.ensures)

pub loop-turns-smaller : goal.loop-turns-smaller
loop-turns-smaller c = turn_less c.loop-turns.turns c.ilog2-left.result (record { low = c.ilog2-left.ensures.power_le; high = c.ilog2-left.ensures.next_power_gt; fits = c.ilog2-left.ensures.bound })

pub loop-turns-preserved : goal.loop-turns-preserved
loop-turns-preserved c =
    let cuts = cuts_in (option_copied c.args.cuts) in
    let keys = c.args.keys.now in
    let t = c.ilog2-left.result in
    let top : IsTop c.loop-turns.turns t = record { low = c.ilog2-left.ensures.power_le; high = c.ilog2-left.ensures.next_power_gt; fits = c.ilog2-left.ensures.bound } in
    let cut = cut_there cuts keys c.args.width t c.cut_at.result c.cut_at.ensures in
    let few : length keys ≤ 64 = omega (arith, c.requires.few) in
    elim c.if-low-eq0.branch [
      | then-low-eq0 w ↦ rw (w.bits-is, w.still-is)
          (turning_one cuts keys c.args.width c.loop-turns.turns c.loop-turns.bits c.loop-turns.still t c.cut_at.result _ few (omega arith) (omega arith) c.loop-turns.invariant top cut
          refl c.if-still-eq0.false (sym c.zeros_among-low.ensures ∙ w.if-low-eq0.true))
      | else-low-eq0 w ↦ rw (w.bits-is, w.still-is, c.zeros_among-low.ensures)
          (turning_zero cuts keys c.args.width c.loop-turns.turns c.loop-turns.bits c.loop-turns.still t c.cut_at.result _ few (omega arith) (omega arith) c.loop-turns.invariant top cut
          refl (λ none. w.if-low-eq0.false (c.zeros_among-low.ensures ∙ none)))
    ]

pub slots_at-winners-requires-clause-places : goal.slots_at-winners-requires-clause-places
slots_at-winners-requires-clause-places c = turning_places (cuts_in (option_copied c.args.cuts)) c.args.keys.now c.args.width c.loop-turns.turns c.loop-turns.bits c.loop-turns.still c.loop-turns.invariant

pub returns : goal.returns
returns c =
    let cuts = cuts_in (option_copied c.args.cuts) in
    let keys = c.args.keys.now in
    let last = turning_last cuts keys c.args.width c.loop-turns.bits c.loop-turns.still c.slots_at-winners.result.items c.requires.some_bits
    (rw c.loop-turns-test.false at c.loop-turns.invariant) c.slots_at-winners.ensures in
    record {
      winners = last.0;
      least = read_least cuts keys c.args.width c.loop-turns.bits last.1;
      none = λ none. read_none cuts keys c.args.width c.loop-turns.bits last.1 (sym last.0 ∙ none);
      each_bit = read_each cuts keys c.args.width c.loop-turns.bits last.1;
      idle = read_idle cuts keys c.args.width c.loop-turns.bits last.1;
      in_width = read_in_width cuts keys c.args.width c.loop-turns.bits last.1;
    }
