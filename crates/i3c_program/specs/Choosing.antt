-- How those orders are chosen that are tried.
use Rattle.std.specs.Prelude.{◌≡◌, ◌⊎◌, ◌<◌, ◌≤◌, ◌∷◌, ℕ, suc, Bool, true, false, List, [], Option, None, Some, Result, Ok, Err, length, slice_get, take}
use Rattle.i3c_orders.specs.declared.choice.Choice.{Choice}
use Rattle.i3c_orders.specs.declared.orders.Unfinished.{Unfinished}
use Rattle.i3c_orders.specs.declared.share.Share.{Share}
use Rattle.i3c_orders.specs.declared.which.Which.{Which}
use Rattle.i3c_orders.specs.Paths.{Chooses, Ends, Tree, tree}
use Rattle.i3c_orders.specs.Portions.{whole}
use Rattle.i3c_orders.specs.Shares.{IsShare}
use Rattle.i3c_program.specs.declared.selection.Drawing.{Drawing}
use Rattle.i3c_program.specs.declared.selection.Parted.{Parted}
use Rattle.i3c_program.specs.declared.selection.Sharing.{Sharing}
use Rattle.i3c_program.specs.declared.selection.Selection.{Selection}

-- the lines of a run so far
abbrev pub run_in : {L S A : Type 0} → Tree L S A → List (Choice L S A)
run_in orders = take orders.at orders.path

-- how many answers are left for the last line of a path, the one that it took counted
abbrev pub ways_in : {L S A : Type 0} → List (Choice L S A) → ℕ
ways_in [] = 0
ways_in (choice ∷ []) = suc (length choice.left.items)
ways_in (choice ∷ next ∷ path) = ways_in (next ∷ path)

-- of these orders none is tried yet
abbrev pub StartsAs : Which → Selection → Type 0
StartsAs Which.All selection = selection ≡ Selection.All
StartsAs (Which.Part part) selection = selection ≡ Selection.Part (record { behind = part; last = None })
StartsAs (Which.One numbers) selection = selection ≡ Selection.One numbers
StartsAs (Which.Drawn count seed) selection = (drawing : Drawing) × (selection ≡ Selection.Drawn drawing) × (drawing.left ≡ count)

-- the part's share of the answers to a run's newest line is left, the last of them first
pub record IsParted {L S A : Type 0} (old : Sharing) (orders : Tree L S A) (found : Bool) (new : Sharing) (chosen : Tree L S A) : Type 0 where
  pub share : Share
  pub is : IsShare old.behind (ways_in (run_in orders)) share
  pub takes : Chooses orders share.most found chosen
  pub behind : new.behind ≡ share.behind
  pub parted : Parted
  pub last : new.last ≡ Some parted
  pub place : suc parted.place ≡ length (run_in orders)
  pub least : parted.least ≡ share.least

-- a part is chosen line by line, until what is behind is the part's
abbrev pub Parts : {L S A : Type 0} → Sharing → Tree L S A → Bool → Sharing → Tree L S A → Type 0
Parts old orders found new chosen =
    (((run_in orders ≡ []) ⊎ (old.behind ≡ whole)) × (found ≡ true) × (new ≡ old) × (chosen ≡ orders)) ⊎ IsParted old orders found new chosen

-- the number that stands at the place of a run's newest line
abbrev pub number_for : {L S A : Type 0} → List ℕ → List (Choice L S A) → Option ℕ
number_for numbers [] = None
number_for numbers (choice ∷ run) = slice_get numbers (length run)

-- a run's newest line takes the answer of this number, or the next one where none is named
abbrev pub Takes : {L S A : Type 0} → Option ℕ → Tree L S A → Bool → Tree L S A → Type 0
Takes None orders found chosen = (found ≡ true) × (chosen ≡ orders)
Takes (Some number) orders found chosen = Chooses orders number found chosen

-- a run's newest line takes one of its answers
abbrev pub Draws : {L S A : Type 0} → Drawing → Tree L S A → Bool → Drawing → Tree L S A → Type 0
Draws old orders found new chosen =
    (new.left ≡ old.left) × (((run_in orders ≡ []) × (found ≡ true) × (chosen ≡ orders)) ⊎ ((number : ℕ) × (number < ways_in (run_in orders)) × Chooses orders number found chosen))

-- whatever is behind an order that is tried is tried too, by this part at least
abbrev pub TriesWhole : Selection → Type 0
TriesWhole Selection.All = Unit {0}
TriesWhole (Selection.Part sharing) = Unit {0}
TriesWhole (Selection.One numbers) = ⊥
TriesWhole (Selection.Drawn drawing) = ⊥

-- the answer to a run's newest line is chosen, which no run before has sent; or there is none of the number that is named
abbrev pub Selects : {L S A : Type 0} → Selection → Tree L S A → Bool → Selection → Tree L S A → Type 0
Selects Selection.All orders found new chosen = (found ≡ true) × (new ≡ Selection.All) × (chosen ≡ orders)
Selects (Selection.Part old) orders found new chosen = (sharing : Sharing) × (new ≡ Selection.Part sharing) × Parts old orders found sharing chosen
Selects (Selection.One numbers) orders found new chosen = (new ≡ Selection.One numbers) × Takes (number_for numbers.items (run_in orders)) orders found chosen
Selects (Selection.Drawn old) orders found new chosen = (drawing : Drawing) × (new ≡ Selection.Drawn drawing) × Draws old orders found drawing chosen

-- a path is behind all orders of a part: it turns before the last line that was shared out, or there to an answer below the part's least
abbrev pub IsPassed : {L S A : Type 0} → Option Parted → List (Choice L S A) → Type 0
IsPassed None path = ⊥
IsPassed (Some parted) path = (length path ≤ parted.place) ⊎ ((length path ≡ suc parted.place) × (ways_in path ≤ parted.least))

-- whether a path is one of the part's
abbrev pub HasMore : {L S A : Type 0} → Option Parted → List (Choice L S A) → Bool → Type 0
HasMore last path true = IsPassed last path → ⊥
HasMore last path false = IsPassed last path

-- the next order of a part begins, if there is one
abbrev pub PartGoesTo : {L S A : Type 0} → Option Parted → Tree L S A → Result Bool Unfinished → Tree L S A → Type 0
PartGoesTo last old (Err unfinished) new = Ends old (Err unfinished) new
PartGoesTo last old (Ok more) new = (Ends old (Ok false) new × (more ≡ false)) ⊎ (Ends old (Ok true) new × HasMore last new.path more)

-- another order is drawn from the start, if one is left
abbrev pub DrawingGoesTo : {L S A : Type 0} → Drawing → Tree L S A → Bool → Drawing → Tree L S A → Type 0
DrawingGoesTo old orders true drawing new = (suc drawing.left ≡ old.left) × (1 ≤ drawing.left) × (new ≡ tree orders.start [] 0)
DrawingGoesTo old orders false drawing new = (old.left ≤ 1) × (drawing ≡ old) × (new ≡ orders)

-- the next order of those that are tried begins, if there is one
abbrev pub GoesTo : {L S A : Type 0} → Selection → Tree L S A → Result Bool Unfinished → Selection → Tree L S A → Type 0
GoesTo Selection.All old result selection new = (selection ≡ Selection.All) × Ends old result new
GoesTo (Selection.Part sharing) old result selection new = (selection ≡ Selection.Part sharing) × PartGoesTo sharing.last old result new
GoesTo (Selection.One numbers) old result selection new = (selection ≡ Selection.One numbers) × (result ≡ Ok false) × (new ≡ old)
GoesTo (Selection.Drawn before) old result selection new =
    (drawing : Drawing) × (selection ≡ Selection.Drawn drawing) × ((more : Bool) × (result ≡ Ok more) × DrawingGoesTo before old more drawing new)
