-- A round that nobody hears: the header alone.
use Rattle.std.proofs.Common.{List, [], ◌∷◌, true, false, refl, subst, sym}
use Rattle.i3c_entdaa.specs.declared.outcome.Round.{Round}
use Rattle.i3c_frame.specs.declared.symbols.Symbol.{Symbol}
use Rattle.i3c_entdaa.specs.Wire.{IsRoundWire}
use Rattle.i3c_entdaa.proofs.wire.tell_round.Goals as goal

pub returns-in-Done : goal.returns-in-Done
returns-in-Done g c =
    let header = subst (λ (s : Symbol). g.T.Tap.note_gives c.note.new.self s c.note-in-Done.new.self) c.broadcast.ensures c.note-in-Done.ensures in
    let wire : List Symbol = Symbol.Repeated ∷ Symbol.Header 0x7E true false ∷ [] in
    (wire, (c.note.new.self, c.note.ensures, (c.note-in-Done.new.self, header, refl)), subst (λ (r : Round). IsRoundWire r wire) (sym c.in-Done.is) refl)
