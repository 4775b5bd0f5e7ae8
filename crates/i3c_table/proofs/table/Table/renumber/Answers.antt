use Rattle.std.proofs.Common.{◌≡◌, ◌≢◌, ℕ, ◌∙◌, List, Option, IsSome, Bool, ap, arith, false, get_or, set, subst, sym, true}
use Rattle.std.proofs.lemmas.Bool.{false≢true}
use Rattle.std.proofs.lemmas.List.{get_or_default, get_or-set_other, get_or-set_same}
use Rattle.i3c_base.specs.Covered.{Table}
use Rattle.i3c_base.specs.Frames.{moved}
use Rattle.i3c_base.specs.Sets.{is_in}
use Rattle.i3c_base.specs.State.{Board, Entry, IsFree, entry_in}
use Rattle.i3c_table.specs.declared.registers.Registers.{Registers}
use Rattle.i3c_table.specs.Stored.{no_registers, stored}
use Rattle.i3c_table.proofs.Moving.{IsMoved, moved_stored, whole_moved}
use Rattle.i3c_table.proofs.StoredLaws.{free_stored, small_whole}
use Rattle.i3c_table.proofs.table.Table.renumber.Goals as goal

-- an address that was given isn't one that may be picked
given_apart : (given : List (Option Entry)) (old new : ℕ) → IsSome (entry_in given old) → IsFree given new → old ≢ new
given_apart given old new stands free e = let no : ◌≡◌ {A = Bool} false true = rw (ap (entry_in given) e ∙ free) at stands in false≢true no

pub invariant_of-self : goal.invariant_of-self
invariant_of-self c =
    let inside = c.self.inside in
    let old = c.args.old in
    let new = c.args.new in
    let held = c.with_moved-self-inside in
    let kept = c.with_moved-self-inside-2 in
    let view = ap (λ (t : Table). t.given) c.self.view_is in
    let fits = small_whole _ _ _ c.self.invariant.0 in
    let apart : old ≢ new = given_apart c.args.self.now.given old new c.requires.given c.requires.pickable.1 in
    let free : is_in inside.held.0 new ≡ false = free_stored inside.held.0 inside.kept.0 inside.registers inside.numbers new fits (subst (λ g. IsFree g new) (sym view) c.requires.pickable.1) in
    let gave : IsMoved old new inside.held.0 held.result.0 = record { here = held.ensures.here; gone = held.ensures.gone apart; others = held.ensures.others } in
    let keeps : IsMoved old new inside.kept.0 kept.result.0 = record { here = kept.ensures.here; gone = kept.ensures.gone apart; others = kept.ensures.others } in
    let board : Board = inside.legacies in
    let lone : IsFree board.legacy new = subst (λ (t : Table). IsFree t.legacy new) (sym c.self.view_is) c.requires.pickable.2 in
    let undeclared : IsFree board.declared new = subst (λ (t : Table). IsFree t.declared new) (sym c.self.view_is) c.requires.pickable.3 in
    let whole = whole_moved inside.held.0 inside.kept.0 held.result.0 kept.result.0 old new inside.registers inside.numbers board c.self.invariant.0 apart gave keeps free c.requires.pickable.0 lone undeclared in
    let r : Registers = get_or inside.registers c.get-from.result c.index-self-from.result in
    let read : r ≡ get_or inside.registers old no_registers =
    ap (λ i. get_or inside.registers i c.index-self-from.result) c.get-from.ensures.same ∙ get_or_default inside.registers old c.index-self-from.result no_registers (omega arith) in (
      whole,
      c.of-self-inside.ensures,
    )

pub returns : goal.returns
returns c =
    let inside = c.self.inside in
    let old = c.args.old in
    let new = c.args.new in
    let held = c.with_moved-self-inside in
    let kept = c.with_moved-self-inside-2 in
    let view = ap (λ (t : Table). t.given) c.self.view_is in
    let fits = small_whole _ _ _ c.self.invariant.0 in
    let apart : old ≢ new = given_apart c.args.self.now.given old new c.requires.given c.requires.pickable.1 in
    let free : is_in inside.held.0 new ≡ false = free_stored inside.held.0 inside.kept.0 inside.registers inside.numbers new fits (subst (λ g. IsFree g new) (sym view) c.requires.pickable.1) in
    let gave : IsMoved old new inside.held.0 held.result.0 = record { here = held.ensures.here; gone = held.ensures.gone apart; others = held.ensures.others } in
    let keeps : IsMoved old new inside.kept.0 kept.result.0 = record { here = kept.ensures.here; gone = kept.ensures.gone apart; others = kept.ensures.others } in
    let board : Board = inside.legacies in
    let lone : IsFree board.legacy new = subst (λ (t : Table). IsFree t.legacy new) (sym c.self.view_is) c.requires.pickable.2 in
    let undeclared : IsFree board.declared new = subst (λ (t : Table). IsFree t.declared new) (sym c.self.view_is) c.requires.pickable.3 in
    let whole = whole_moved inside.held.0 inside.kept.0 held.result.0 kept.result.0 old new inside.registers inside.numbers board c.self.invariant.0 apart gave keeps free c.requires.pickable.0 lone undeclared in
    let r : Registers = get_or inside.registers c.get-from.result c.index-self-from.result in
    let read : r ≡ get_or inside.registers old no_registers =
    ap (λ i. get_or inside.registers i c.index-self-from.result) c.get-from.ensures.same ∙ get_or_default inside.registers old c.index-self-from.result no_registers (omega arith) in
    let n : ℕ = get_or inside.numbers c.get-from.result 0 in
    let number : n ≡ get_or inside.numbers old 0 = ap (λ i. get_or inside.numbers i 0) c.get-from.ensures.same in
    ap (λ place. record { given = stored held.result.0 kept.result.0 (set inside.registers place r) (set inside.numbers place n); legacy = inside.legacies.legacy; declared = inside.legacies.declared; listed = false }) c.get-to.ensures.same
    ∙ (ap (λ g. record { given = g; legacy = inside.legacies.legacy; declared = inside.legacies.declared; listed = false })
    (moved_stored inside.held.0 inside.kept.0 held.result.0 kept.result.0 old new inside.registers inside.numbers board c.self.invariant.0 apart gave keeps free (set inside.registers new r) (set inside.numbers new n) (small_whole held.result.0 kept.result.0 board whole) (omega arith)
    (get_or-set_same inside.registers new r no_registers (omega arith) ∙ read) (λ b other. get_or-set_other inside.registers new b r no_registers other) (get_or-set_same inside.numbers new n 0 (omega arith) ∙ number)
    (λ b other. get_or-set_other inside.numbers new b n 0 other))
    ∙ ap (λ (t : Table). record t { given = moved old new t.given; listed = false }) c.self.view_is)
