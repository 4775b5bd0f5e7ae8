-- Lines that are marked, one after another.
use Rattle.std.proofs.Common.{◌≡◌, ◌∙◌, ◌<◌, ◌≤◌, ◌+◌, ℕ, suc, zero, Bool, false, true, List, [], ◌∷◌, ap, arith, drop, get_or, length, min, refl, sym}
use Rattle.std.specs.Global.{Vec}
use Rattle.std.proofs.lemmas.List.{drop_more, length-drop}
use Rattle.i3c_scene.specs.declared.line.Line.{Line}
use Rattle.i3c_tracks.specs.Unexpected.{marked_blocks, marked_lines, marked_tracks}

-- no line is left, or no mark
pub no_lines : (lines : List Line) (marks : List Bool) (i : ℕ) → min (length lines) (length marks) ≤ i → marked_lines (drop i lines) (drop i marks) ≡ []
no_lines lines marks i few = go (drop i lines) (drop i marks) (omega (arith, length-drop {A = Line}, length-drop {A = Bool}))
  where
    go : (ls : List Line) (ms : List Bool) → min (length ls) (length ms) ≡ 0 → marked_lines ls ms ≡ []
    go [] ms none = refl
    go (l ∷ ls) [] none = refl
    go (l ∷ ls) (m ∷ ms) none = absurd (omega (arith, none))

pub no_tracks : (tracks : List (Vec Line)) (marks : List (Vec Bool)) (i : ℕ) → min (length tracks) (length marks) ≤ i → marked_tracks (drop i tracks) (drop i marks) ≡ []
no_tracks tracks marks i few = go (drop i tracks) (drop i marks) (omega (arith, length-drop {A = Vec Line}, length-drop {A = Vec Bool}))
  where
    go : (ts : List (Vec Line)) (ms : List (Vec Bool)) → min (length ts) (length ms) ≡ 0 → marked_tracks ts ms ≡ []
    go [] ms none = refl
    go (t ∷ ts) [] none = refl
    go (t ∷ ts) (m ∷ ms) none = absurd (omega (arith, none))

pub no_blocks : (blocks : List (Vec (Vec Line))) (marks : List (Vec (Vec Bool))) (i : ℕ) → min (length blocks) (length marks) ≤ i → marked_blocks (drop i blocks) (drop i marks) ≡ []
no_blocks blocks marks i few = go (drop i blocks) (drop i marks) (omega (arith, length-drop {A = Vec (Vec Line)}, length-drop {A = Vec (Vec Bool)}))
  where
    go : (bs : List (Vec (Vec Line))) (ms : List (Vec (Vec Bool))) → min (length bs) (length ms) ≡ 0 → marked_blocks bs ms ≡ []
    go [] ms none = refl
    go (b ∷ bs) [] none = refl
    go (b ∷ bs) (m ∷ ms) none = absurd (omega (arith, none))

-- the next line is marked or isn't
here : (lines : List Line) (marks : List Bool) (i : ℕ) (line : Line) (mark : Bool) → i < length lines → i < length marks → line ≡ get_or lines i line → mark ≡ get_or marks i false
    → marked_lines (drop i lines) (drop i marks) ≡ marked_lines (line ∷ drop (i + 1) lines) (mark ∷ drop (i + 1) marks)
here lines marks i line mark lt lt' is is' =
    ap (λ (ls : List Line). marked_lines ls (drop i marks)) (drop_more lines i line lt ∙ ap (λ (l : Line). l ∷ drop (i + 1) lines) (sym is))
    ∙ ap (λ (ms : List Bool). marked_lines (line ∷ drop (i + 1) lines) ms) (drop_more marks i false lt' ∙ ap (λ (m : Bool). m ∷ drop (i + 1) marks) (sym is'))

-- there is one
there : (lines : List Line) (i : ℕ) → i < length lines → (line : Line) × (line ≡ get_or lines i line)
there [] i lt = absurd (omega (arith, lt))
there (line ∷ lines) zero lt = (line, refl)
there (line ∷ lines) (suc i) lt = there lines i (omega (arith, lt))

pub marked_here : (lines : List Line) (marks : List Bool) (i : ℕ) (line : Line) → i < length lines → i < length marks → line ≡ get_or lines i line → true ≡ get_or marks i false
    → marked_lines (drop i lines) (drop i marks) ≡ line.number ∷ marked_lines (drop (i + 1) lines) (drop (i + 1) marks)
marked_here lines marks i line lt lt' is is' = here lines marks i line true lt lt' is is'

pub unmarked_here : (lines : List Line) (marks : List Bool) (i : ℕ) → i < length lines → i < length marks → false ≡ get_or marks i false
    → marked_lines (drop i lines) (drop i marks) ≡ marked_lines (drop (i + 1) lines) (drop (i + 1) marks)
unmarked_here lines marks i lt lt' is' =
    let (line, is) = there lines i lt in here lines marks i line false lt lt' is is'
