-- Lines that were refused in some order, with nothing expected of them.
use Rattle.std.specs.Prelude.{ℕ, Bool, true, false, List, [], ◌∷◌, ◌++◌, codes, length, take}
use Rattle.std.specs.Fmt.{decimal}
use Rattle.std.specs.Global.{Vec}
use Rattle.i3c_scene.specs.declared.line.Line.{Line}
use Rattle.i3c_tracks.specs.declared.plan.Plan.{Plan}
use Rattle.i3c_tracks.specs.declared.showing.Showing.{Showing}
use Rattle.i3c_tracks.specs.Ends.{count_text}
use Rattle.i3c_tracks.specs.Telling.{line_at}

-- the numbers of the lines of a track that are marked
abbrev pub marked_lines : List Line → List Bool → List ℕ
marked_lines (line ∷ lines) (true ∷ marks) = line.number ∷ marked_lines lines marks
marked_lines (line ∷ lines) (false ∷ marks) = marked_lines lines marks
marked_lines lines marks = []

-- the same of a block's tracks
abbrev pub marked_tracks : List (Vec Line) → List (Vec Bool) → List ℕ
marked_tracks (track ∷ tracks) (own ∷ marks) = marked_lines track.items own.items ++ marked_tracks tracks marks
marked_tracks tracks marks = []

-- the same of all blocks
abbrev pub marked_blocks : List (Vec (Vec Line)) → List (Vec (Vec Bool)) → List ℕ
marked_blocks (block ∷ blocks) (own ∷ marks) = marked_tracks block.items own.items ++ marked_blocks blocks marks
marked_blocks blocks marks = []

-- the lines before the bus that are refused, and those behind it that are marked
abbrev pub refused_lines : Plan → List (Vec (Vec Bool)) → List ℕ
refused_lines plan marks = plan.refused.items ++ marked_blocks plan.blocks.items marks

-- the line of this number was refused
abbrev pub refusal_text : List (Vec ℕ) → ℕ → List ℕ
refusal_text lines number = codes "refusal " ++ (decimal number ++ (codes " " ++ (line_at lines number ++ 10 ∷ [])))

abbrev pub refusals_text : List (Vec ℕ) → List ℕ → List ℕ
refusals_text lines [] = []
refusals_text lines (number ∷ rest) = refusal_text lines number ++ refusals_text lines rest

-- how many lines were refused with nothing expected of them, and the first five of these, unless the numbers alone are shown
abbrev pub unexpected_text : Showing → List (Vec ℕ) → List ℕ → List ℕ
unexpected_text Showing.Ends lines numbers = count_text (codes "refusals ") (length numbers) ++ refusals_text lines (take 5 numbers)
unexpected_text Showing.Numbers lines numbers = count_text (codes "refusals ") (length numbers)
