-- Lines that were heard, as facts know them.
use Rattle.std.proofs.Common.{◌≡◌, ◌∙◌, List, Option, Some, None, Result, Ok, Err, ap}
use Rattle.i3c_facts.specs.declared.before.Before.{Before}
use Rattle.i3c_facts.specs.declared.before.Heard.{Heard}
use Rattle.i3c_facts.specs.declared.before.LineResult.{LineResult}
use Rattle.i3c_facts.specs.Hearing.{came_to, heard_with, nothing_heard, result_of}
use Rattle.i3c_lines.specs.declared.refusals.Refusal.{Refusal}
use Rattle.i3c_script.specs.declared.piece.Piece.{Piece}
use Rattle.i3c_script.specs.Hearing.{Hears, all_heard}
use Rattle.i3c_text.specs.declared.line_error.LineError.{LineError}
use Rattle.i3c_scene.specs.Trying.{IsEndOf}

-- what facts know of a line that ended so, and whose pieces told this
abbrev pub known : LineResult → Heard → Before
known ended heard = record { result = ended; heard = heard }

-- it is what they know of its pieces and its refusal
pub heard_so : (Is : List Piece → Option Refusal → Type 0) (outcome : Result (Unit {0}) (LineError Refusal)) (ended : LineResult) (old heard : Heard) → old ≡ nothing_heard → Hears heard_with Is old heard outcome → IsEndOf outcome ended
    → (pieces : List Piece) × (refused : Option Refusal) × Is pieces refused × (known ended heard ≡ came_to pieces refused)
heard_so Is (Ok done) ended old heard none (pieces, told, is) same = (pieces, None, is, λ i. known (same i) ((told ∙ ap (λ h. all_heard heard_with h pieces) none) i))
heard_so Is (Err (LineError.Refused why)) ended old heard none (pieces, told, is) same = (pieces, Some why, is, λ i. known (same i) ((told ∙ ap (λ h. all_heard heard_with h pieces) none) i))
heard_so Is (Err LineError.Memory) ended old heard none told same = absurd same

-- nobody heard a line that ended so: how it ended says whether it was refused
pub unheard_so : {L : Type 0} (hears : L → Piece → L) (Is : List Piece → Option Refusal → Type 0) (outcome : Result (Unit {0}) (LineError Refusal)) (ended : LineResult) (start heard : L) → Hears hears Is start heard outcome → IsEndOf outcome ended
    → (pieces : List Piece) × (refused : Option Refusal) × Is pieces refused × (ended ≡ result_of refused)
unheard_so hears Is (Ok done) ended start heard (pieces, told, is) same = (pieces, None, is, same)
unheard_so hears Is (Err (LineError.Refused why)) ended start heard (pieces, told, is) same = (pieces, Some why, is, same)
unheard_so hears Is (Err LineError.Memory) ended start heard told same = absurd same
