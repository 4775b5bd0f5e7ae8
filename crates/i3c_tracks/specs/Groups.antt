-- Ends in groups, by the facts that hold there.
use Rattle.std.specs.Prelude.{◌≡◌, ℕ, Bool, true, false, not, List, [], ◌∷◌, ◌++◌, Option, Some, codes, filter, if◌then◌else◌, length, map, slice_get, slice_index_or, suc, take, zero}
use Rattle.std.specs.Fmt.{decimal}
use Rattle.std.specs.Global.{Vec}
use Rattle.std.specs.List.{list_any}
use Rattle.i3c_explore.specs.Numbers.{IsSum}
use Rattle.i3c_explore.specs.declared.node.Node.{Node}
use Rattle.i3c_facts.specs.Hearing.{no_line}
use Rattle.i3c_facts.specs.Holding.{claims_hold}
use Rattle.i3c_scene.specs.Scenes.{Seen, place_in}
use Rattle.i3c_tracks.specs.declared.plan.Plan.{Plan}
use Rattle.i3c_tracks.specs.declared.question.Question.{Question}
use Rattle.i3c_tracks.specs.declared.showing.Showing.{Showing}
use Rattle.i3c_tracks.specs.Ends.{IsEndText, count_text}
use Rattle.i3c_tracks.specs.Telling.{orders_text}

-- whether what is asked holds in a state, with no line before it
abbrev pub holds_in : Seen → Question → Bool
holds_in scene question = claims_hold scene.state (place_in scene.names) no_line question.facts

-- which of the questions hold at an end: its key
abbrev pub key_of : List Question → Node Seen → List Bool
key_of questions end = map (holds_in end.state) questions

-- the key of each end
abbrev pub keys_of : List Question → List (Node Seen) → List (List Bool)
keys_of questions ends = map (key_of questions) ends

-- whether two keys are the same
abbrev pub are_alike : List Bool → List Bool → Bool
are_alike [] [] = true
are_alike (true ∷ one) (true ∷ other) = are_alike one other
are_alike (false ∷ one) (false ∷ other) = are_alike one other
are_alike one other = false

-- the ends with this key, which are one group: each end is in the group of its own key, and in no other
abbrev pub group_of : List Question → List Bool → List (Node Seen) → List (Node Seen)
group_of questions key ends = filter (λ (end : Node Seen). are_alike (key_of questions end) key) ends

-- whether a group begins at this place: no end before it has the same key
abbrev pub begins_at : List (List Bool) → ℕ → Bool
begins_at keys k = not (list_any (λ (key : List Bool). are_alike key (slice_index_or keys k [])) (take k keys))

-- how many groups begin at the first `count` ends
abbrev pub groups_in : List (List Bool) → ℕ → ℕ
groups_in keys zero = 0
groups_in keys (suc k) = if begins_at keys k then suc (groups_in keys k) else groups_in keys k

-- how many orders lead to some ends, all together
abbrev pub LeadTo : List (Node Seen) → Option ℕ → Type 0
LeadTo [] orders = orders ≡ Some 0
LeadTo (end ∷ ends) orders = (others : Option ℕ) × LeadTo ends others × IsSum end.orders others orders

-- the orders that lead to a group's ends are told if each interleaving leads to one end
abbrev pub led_text : Option ℕ → Bool → List ℕ
led_text orders true = codes " ends of " ++ (orders_text orders ++ (codes " orders" ++ 10 ∷ []))
led_text orders false = codes " ends" ++ 10 ∷ []

-- the first line of a group: its number, how many ends it has, and how many orders lead to them
abbrev pub group_head : ℕ → ℕ → Option ℕ → Bool → List ℕ
group_head number size orders counted = codes "group " ++ (decimal number ++ (codes " of " ++ (decimal size ++ led_text orders counted)))

-- the line of a question: whether it holds at the group's ends
abbrev pub answer_text : Question → Bool → List ℕ
answer_text question true = codes "holds " ++ (question.text.items ++ 10 ∷ [])
answer_text question false = codes "fails " ++ (question.text.items ++ 10 ∷ [])

-- the lines of all questions
abbrev pub answers_text : List Question → List Bool → List ℕ
answers_text (question ∷ questions) (held ∷ rest) = answer_text question held ++ answers_text questions rest
answers_text questions key = []

-- the example of a group: its first end, unless no end is shown
abbrev pub IsExample : Showing → List (Vec ℕ) → Plan → ℕ → Node Seen → List ℕ → Type 0
IsExample Showing.Ends lines plan number end text = IsEndText lines plan.blocks.items plan.opened.items (not plan.risky) number end text
IsExample Showing.Numbers lines plan number end text = text ≡ []

-- the text of the group of this number that begins at an end: its head, whether each question holds there, and its example
abbrev pub IsGroupText : Showing → List (Vec ℕ) → Plan → List Question → List (Node Seen) → ℕ → ℕ → Node Seen → List ℕ → Type 0
IsGroupText showing lines plan questions ends group number end text =
    (orders : Option ℕ) × (example : List ℕ) × LeadTo (group_of questions (key_of questions end) ends) orders × IsExample showing lines plan number end example
    × (text ≡ group_head group (length (group_of questions (key_of questions end) ends)) orders (not plan.risky) ++ (answers_text questions (key_of questions end) ++ example))

-- what one more end adds: the text of its group, if this begins there
abbrev pub Adds : Bool → Showing → List (Vec ℕ) → Plan → List Question → List (Node Seen) → ℕ → ℕ → Node Seen → List ℕ → Type 0
Adds true showing lines plan questions ends group number end own = IsGroupText showing lines plan questions ends group number end own
Adds false showing lines plan questions ends group number end own = own ≡ []

-- the texts of the groups that begin at the first `count` ends
abbrev pub AreGroupTexts : Showing → List (Vec ℕ) → Plan → List Question → List (Node Seen) → ℕ → List ℕ → Type 0
AreGroupTexts showing lines plan questions ends zero text = text ≡ []
AreGroupTexts showing lines plan questions ends (suc k) text =
    (earlier : List ℕ) × (own : List ℕ) × (end : Node Seen) × AreGroupTexts showing lines plan questions ends k earlier × (slice_get ends k ≡ Some end)
    × Adds (begins_at (keys_of questions ends) k) showing lines plan questions ends (suc (groups_in (keys_of questions ends) k)) (suc k) end own × (text ≡ earlier ++ own)

-- the number of groups, and each group
abbrev pub AreGroups : Showing → List (Vec ℕ) → Plan → List Question → List (Node Seen) → List ℕ → Type 0
AreGroups showing lines plan questions ends text =
    (told : List ℕ) × AreGroupTexts showing lines plan questions ends (length ends) told
    × (text ≡ count_text (codes "groups ") (groups_in (keys_of questions ends) (length ends)) ++ told)
