use Rattle.std.proofs.Common.{◌≡◌, ◌-◌, ◌∷◌, ◌++◌, [], length, sym, arith, ap, ◌∙◌}
use Rattle.i3c_deftgts.specs.Layout.{list_bytes, Carry}
use Rattle.i3c_deftgts.proofs.LayoutLaws.{carried_all, carried_next, carried_room, carry_one, length-carried, length-flat_bytes}
use Rattle.i3c_deftgts.proofs.writing.write_list.Goals as goal

pub push_entry-requires : goal.push_entry-requires
push_entry-requires c =
    let room = carried_room (length c.entries-entry-items.result.now - 1) c.entries-entry-items.result.now c.loop-entry.entry-index c.loop-entry.words.items c.loop-entry-test.true c.loop-entry.invariant in
    let same = ap length c.entries-entry-items.ensures.same in
    let below = c.loop-entry-test.true in
    omega (arith, room, same, below, c.rewrite.ensures.few)

pub loop-entry-init : goal.loop-entry-init
loop-entry-init c =
    let count : c.count_word.result.byte ≡ length c.entries-entry-items.result.now - 1 = c.count_word.ensures.count ∙ ap (λ es. length es - 1) (sym c.entries-entry-items.ensures.same) in
    let one : c.push.new.self.items ≡ c.count_word.result ∷ [] = c.push.ensures.items ∙ ap (λ ws. ws ++ c.count_word.result ∷ []) c.new-words.ensures in
    rw one (carry_one (length c.entries-entry-items.result.now - 1) c.count_word.result count c.count_word.ensures.odd)

pub loop-entry-preserved : goal.loop-entry-preserved
loop-entry-preserved c =
    carried_next (length c.entries-entry-items.result.now - 1) c.entries-entry-items.result.now c.loop-entry.entry-index c.entry-item.result c.push_entry.new.words.items c.loop-entry-test.true c.entry-item.is
    (c.push_entry.ensures _ c.loop-entry.invariant)

carried : (c : goal.After-loop-entry) → Carry (list_bytes c.rewrite.new.self) c.loop-entry.words.items
carried c = carried_all c.entries-entry-items.result.now c.rewrite.new.self c.loop-entry.entry-index c.loop-entry.words.items c.loop-entry-test.false c.entries-entry-items.ensures.same c.loop-entry.invariant

pub returns-clause-words : goal.returns-clause-words
returns-clause-words c = rw (sym c.rewrite.ensures.entries) (carried c)

pub returns-clause-long : goal.returns-clause-long
returns-clause-long c =
    let all = length-carried (list_bytes c.rewrite.new.self) c.loop-entry.words.items (carried c) in
    omega (arith, all, length-flat_bytes c.rewrite.new.self, c.rewrite.ensures.long)

pub returns-clause-read : goal.returns-clause-read
returns-clause-read c told = rw (sym c.rewrite.ensures.entries) (c.rewrite.ensures.read told c.loop-entry.words.items (carried c))

pub returns-clause-copied : goal.returns-clause-copied
returns-clause-copied c = rw (sym c.rewrite.ensures.entries) c.rewrite.ensures.copied
