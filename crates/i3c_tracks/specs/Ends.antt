-- What is printed where all holds.
use Rattle.std.specs.Prelude.{◌≡◌, ℕ, Bool, List, [], ◌∷◌, ◌++◌, Option, Some, codes, slice_get, suc, zero}
use Rattle.std.specs.Fmt.{decimal}
use Rattle.std.specs.Global.{Vec}
use Rattle.i3c_explore.specs.declared.node.Node.{Node}
use Rattle.i3c_scene.specs.declared.line.Line.{Line}
use Rattle.i3c_scene.specs.Scenes.{Seen}
use Rattle.i3c_scene.specs.Shown.{shown_text}
use Rattle.i3c_tracks.specs.declared.course.Run.{Run}
use Rattle.i3c_tracks.specs.Courses.{AreRunsOf}
use Rattle.i3c_tracks.specs.Telling.{head_text, like_text, orders_text}

-- an end: its number and its orders, the bus as `show` prints it, and the lines of the first order that leads there
abbrev pub IsEndText : List (Vec ℕ) → List (Vec (Vec Line)) → List Bool → Bool → ℕ → Node Seen → List ℕ → Type 0
IsEndText lines blocks opened counted number end text =
    (runs : List Run) × AreRunsOf blocks opened end.order.items runs
    × (text ≡ head_text number end.orders counted ++ (shown_text end.state ++ like_text lines runs))

-- the texts of the first `count` ends
abbrev pub AreEndTexts : List (Vec ℕ) → List (Vec (Vec Line)) → List Bool → Bool → List (Node Seen) → ℕ → List ℕ → Type 0
AreEndTexts lines blocks opened counted ends zero text = text ≡ []
AreEndTexts lines blocks opened counted ends (suc k) text =
    (earlier : List ℕ) × (own : List ℕ) × (end : Node Seen) × AreEndTexts lines blocks opened counted ends k earlier × (slice_get ends k ≡ Some end)
    × IsEndText lines blocks opened counted (suc k) end own × (text ≡ earlier ++ own)

-- a line of some tokens and a number
abbrev pub count_text : List ℕ → ℕ → List ℕ
count_text tokens count = tokens ++ (decimal count ++ 10 ∷ [])

-- the number of orders, of lines that were run, and of ends
abbrev pub numbers_text : Option ℕ → ℕ → ℕ → List ℕ
numbers_text orders steps ends = codes "orders " ++ (orders_text orders ++ (10 ∷ (count_text (codes "steps ") steps ++ count_text (codes "ends ") ends)))
