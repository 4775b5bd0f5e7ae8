-- Marks of lines that are noted.
use Rattle.std.proofs.Common.{◌≡◌, ◌⊎◌, ◌∙◌, ◌<◌, ◌≤◌, ◌==◌, ◌+◌, ℕ, suc, Bool, true, List, [], None, Some, Err, IfOk, Ok, Result, ap, arith, get_or, inl, inr, length, refl, subst, sym}
use Rattle.std.specs.Global.{Vec}
use Rattle.std.specs.List.{slice_get}
use Rattle.std.proofs.lemmas.Bool.Decides.{eqb_tells, leb_tells}
use Rattle.std.proofs.lemmas.Option.{same_Some, slice_get_past, slice_get_within}
use Rattle.i3c_explore.specs.declared.layer.Layer.{Layer}
use Rattle.i3c_explore.specs.declared.node.Node.{Node}
use Rattle.i3c_explore.specs.declared.owners.Owners.{Owners}
use Rattle.i3c_explore.specs.declared.stop.Stop.{Stop}
use Rattle.i3c_explore.specs.Layers.{IsNextAt}
use Rattle.i3c_explore.specs.Notes.{Adds, AreMarks, HasShape, IsMarked, IsNoted, IsNotedBehind, IsQuiet, IsQuietBehind, IsUnmarked, Marks}
use Rattle.i3c_explore.specs.Orders.{lines_in, track}
use Rattle.i3c_explore.specs.Owners.{own, owner}
use Rattle.i3c_explore.specs.Parts.{Part, opening}
use Rattle.i3c_explore.proofs.NextLines.{next_once}
use Rattle.i3c_explore.proofs.Opening.{opened}
use Rattle.i3c_explore.proofs.Owning.{chosen, line_as, no_line, not_chosen}

pub marks_none : (Noted Quiet : ℕ → ℕ → Type 0) (marks : List (Vec Bool)) → ((t k : ℕ) → Quiet t k) → Marks Noted Quiet marks marks
marks_none Noted Quiet marks quiet = record {
  sized = refl;
  shaped = λ t. refl;
  kept = λ t k is. is;
  from = λ t k is. inl is;
  unmarked = λ t k lt un. quiet t k;
}

-- marks of lines, and then of others
pub marks_both : (One Other Both QuietOne QuietOther QuietBoth : ℕ → ℕ → Type 0) (old mid new : List (Vec Bool)) → ((t k : ℕ) → One t k → Both t k) → ((t k : ℕ) → Other t k → Both t k) → ((t k : ℕ) → QuietOne t k → QuietOther t k → QuietBoth t k)
    → Marks One QuietOne old mid → Marks Other QuietOther mid new → Marks Both QuietBoth old new
marks_both One Other Both QuietOne QuietOther QuietBoth old mid new one other quiet first second = record {
  sized = second.sized ∙ first.sized;
  shaped = λ t. second.shaped t ∙ first.shaped t;
  kept = λ t k is. second.kept t k (first.kept t k is);
  from = λ t k is. elim (second.from t k is) [
    | inl before ↦ elim (first.from t k before) [
      | inl was ↦ inl was
      | inr here ↦ inr (one t k here)
    ]
    | inr there ↦ inr (other t k there)
  ];
  unmarked = λ t k lt un. quiet t k (first.unmarked t k lt (λ is. un (second.kept t k is))) (second.unmarked t k (let e = first.shaped t in omega arith) un);
}

-- marks of the same lines
pub marks_as : (One Other QuietOne QuietOther : ℕ → ℕ → Type 0) (old new : List (Vec Bool)) → ((t k : ℕ) → One t k → Other t k) → ((t k : ℕ) → QuietOne t k → QuietOther t k) → Marks One QuietOne old new → Marks Other QuietOther old new
marks_as One Other QuietOne QuietOther old new to quiet marks = record {
  sized = marks.sized;
  shaped = marks.shaped;
  kept = marks.kept;
  from = λ t k is. elim (marks.from t k is) [
    | inl was ↦ inl was
    | inr here ↦ inr (to t k here)
  ];
  unmarked = λ t k lt un. quiet t k (marks.unmarked t k lt un);
}

-- marks that are added, and then others
pub adds_both : (One Other Both : ℕ → ℕ → Type 0) (old mid new : List (Vec Bool)) → ((t k : ℕ) → Both t k → One t k ⊎ Other t k) → ((t k : ℕ) → One t k → Both t k) → ((t k : ℕ) → Other t k → Both t k)
    → Adds One old mid → Adds Other mid new → Adds Both old new
adds_both One Other Both old mid new split one other first second =
    marks_both One Other Both (λ t k. One t k → ⊥) (λ t k. Other t k → ⊥) (λ t k. Both t k → ⊥) old mid new one other
    (λ t k never neither is. elim (split t k is) [
      | inl here ↦ never here
      | inr there ↦ neither there
    ])
    first second

pub adds_none : (Noted : ℕ → ℕ → Type 0) (marks : List (Vec Bool)) → ((t k : ℕ) → Noted t k → ⊥) → Adds Noted marks marks
adds_none Noted marks none = marks_none Noted (λ t k. Noted t k → ⊥) marks none

pub adds_as : (One Other : ℕ → ℕ → Type 0) (old new : List (Vec Bool)) → ((t k : ℕ) → One t k → Other t k) → ((t k : ℕ) → Other t k → One t k) → Adds One old new → Adds Other old new
adds_as One Other old new to back marks = marks_as One Other (λ t k. One t k → ⊥) (λ t k. Other t k → ⊥) old new to (λ t k never is. never (back t k is)) marks

-- marks that were made of none
pub marks_first : {L : Type 0} (tracks : List (Vec L)) (Noted Quiet : ℕ → ℕ → Type 0) (old new : List (Vec Bool)) → HasShape tracks old → IsUnmarked old → Marks Noted Quiet old new → AreMarks tracks Noted Quiet new
marks_first tracks Noted Quiet old new (sized, shaped) none marks = record {
  shape = (marks.sized ∙ sized, λ t. marks.shaped t ∙ shaped t);
  only = λ t k is. elim (marks.from t k is) [
    | inl was ↦ absurd (none t k was)
    | inr here ↦ here
  ];
  unmarked = λ t k lt un. marks.unmarked t k (let e = shaped t in omega arith) un;
}

-- marks of the tracks below one, and then of that one
pub tracks_next : (Noted Quiet : ℕ → ℕ → Type 0) (at : ℕ) (old mid new : List (Vec Bool)) → Marks (λ (t k : ℕ). (t < at) × Noted t k) (λ (t k : ℕ). t < at → Quiet t k) old mid
    → Marks (λ (t k : ℕ). (t ≡ at) × Noted t k) (λ (t k : ℕ). t ≡ at → Quiet t k) mid new → Marks (λ (t k : ℕ). (t < at + 1) × Noted t k) (λ (t k : ℕ). t < at + 1 → Quiet t k) old new
tracks_next Noted Quiet at old mid new first second =
    marks_both (λ (t k : ℕ). (t < at) × Noted t k) (λ (t k : ℕ). (t ≡ at) × Noted t k) (λ (t k : ℕ). (t < at + 1) × Noted t k) (λ (t k : ℕ). t < at → Quiet t k) (λ (t k : ℕ). t ≡ at → Quiet t k) (λ (t k : ℕ). t < at + 1 → Quiet t k) old mid new
    (λ t k (lt, noted). (omega arith, noted)) (λ t k (same, noted). (omega arith, noted))
    (λ t k below here lt. elim (eqb_tells t at) [ inl (_, same) ↦ here same | inr (_, other) ↦ below (omega arith) ]) first second

pub tracks_none : (Noted Quiet : ℕ → ℕ → Type 0) (marks : List (Vec Bool)) → Marks (λ (t k : ℕ). (t < 0) × Noted t k) (λ (t k : ℕ). t < 0 → Quiet t k) marks marks
tracks_none Noted Quiet marks = marks_none (λ (t k : ℕ). (t < 0) × Noted t k) (λ (t k : ℕ). t < 0 → Quiet t k) marks (λ t k lt. absurd (omega arith))

pub tracks_all : (Noted Quiet : ℕ → ℕ → Type 0) (count : ℕ) (old new : List (Vec Bool)) → ((t k : ℕ) → (t < count → Quiet t k) → Quiet t k) → Marks (λ (t k : ℕ). (t < count) × Noted t k) (λ (t k : ℕ). t < count → Quiet t k) old new → Marks Noted Quiet old new
tracks_all Noted Quiet count old new within marks = marks_as (λ (t k : ℕ). (t < count) × Noted t k) Noted (λ (t k : ℕ). t < count → Quiet t k) Quiet old new (λ t k (lt, noted). noted) within marks

-- a track that isn't there has no line
pub within_tracks : {L : Type 0} (tracks : List (Vec L)) (t k : ℕ) (line : L) → slice_get (track tracks t) k ≡ Some line → t < length tracks
within_tracks {L} tracks t k line is = elim (leb_tells (suc t) (length tracks)) [
  | inl (_, lt) ↦ lt
  | inr (_, past) ↦ (
      let none : slice_get [] k ≡ Some line = subst (λ (l : List L). slice_get l k ≡ Some line) (ap lines_in (slice_get_past tracks t (omega arith))) is in
      let lt = slice_get_within [] k line none in absurd (omega arith)
      )
]

-- the marks of one more track are added
pub added_next : (more : List (Vec Bool)) (line : Vec Bool) (at : ℕ) (old mid new : List (Vec Bool)) → slice_get more at ≡ Some line
    → Adds (λ (t k : ℕ). (t < at) × IsMarked more t k) old mid → Adds (λ (t k : ℕ). (t ≡ at) × (slice_get line.items k ≡ Some true)) mid new → Adds (λ (t k : ℕ). (t < at + 1) × IsMarked more t k) old new
added_next more line at old mid new is first second =
    let here : (t : ℕ) → t ≡ at → line.items ≡ track more t = λ t same. sym (ap (λ (u : ℕ). track more u) same ∙ ap lines_in is) in
    adds_both (λ (t k : ℕ). (t < at) × IsMarked more t k) (λ (t k : ℕ). (t ≡ at) × (slice_get line.items k ≡ Some true)) (λ (t k : ℕ). (t < at + 1) × IsMarked more t k) old mid new
    (λ t k (lt, marked). elim (eqb_tells t at) [
      | inl (_, same) ↦ inr (same, subst (λ (l : List Bool). slice_get l k ≡ Some true) (sym (here t same)) marked)
      | inr (_, other) ↦ inl (omega arith, marked)
    ])
    (λ t k (lt, marked). (omega arith, marked)) (λ t k (same, marked). (omega arith, subst (λ (l : List Bool). slice_get l k ≡ Some true) (here t same) marked)) first second

-- the marks of all tracks are added
pub added_all : (more : List (Vec Bool)) (count : ℕ) (old new : List (Vec Bool)) → length more ≤ count → Adds (λ (t k : ℕ). (t < count) × IsMarked more t k) old new → Adds (IsMarked more) old new
added_all more count old new all marks =
    adds_as (λ (t k : ℕ). (t < count) × IsMarked more t k) (IsMarked more) old new (λ t k (lt, marked). marked) (λ t k marked. let lt = within_tracks more t k true marked in (omega arith, marked)) marks

-- a line that ran in one more way
pub ways_next : (track place : ℕ) (Noted Quiet : ℕ → Type 0) (way : ℕ) (old mid new : List (Vec Bool)) → Marks (λ (t k : ℕ). (t ≡ track) × (place ≡ k) × ((w : ℕ) × (w < way) × Noted w)) (λ (t k : ℕ). t ≡ track → place ≡ k → (w : ℕ) → w < way → Quiet w) old mid
    → Marks (λ (t k : ℕ). (t ≡ track) × (place ≡ k) × Noted way) (λ (t k : ℕ). t ≡ track → place ≡ k → Quiet way) mid new
    → Marks (λ (t k : ℕ). (t ≡ track) × (place ≡ k) × ((w : ℕ) × (w < way + 1) × Noted w)) (λ (t k : ℕ). t ≡ track → place ≡ k → (w : ℕ) → w < way + 1 → Quiet w) old new
ways_next track place Noted Quiet way old mid new first second =
    marks_both (λ (t k : ℕ). (t ≡ track) × (place ≡ k) × ((w : ℕ) × (w < way) × Noted w)) (λ (t k : ℕ). (t ≡ track) × (place ≡ k) × Noted way) (λ (t k : ℕ). (t ≡ track) × (place ≡ k) × ((w : ℕ) × (w < way + 1) × Noted w))
    (λ (t k : ℕ). t ≡ track → place ≡ k → (w : ℕ) → w < way → Quiet w) (λ (t k : ℕ). t ≡ track → place ≡ k → Quiet way) (λ (t k : ℕ). t ≡ track → place ≡ k → (w : ℕ) → w < way + 1 → Quiet w) old mid new
    (λ t k (same, at, (w, lt, noted)). (same, at, (w, omega arith, noted))) (λ t k (same, at, noted). (same, at, (way, omega arith, noted)))
    (λ t k before now same at w lt. elim (eqb_tells w way) [
      | inl (_, here) ↦ subst Quiet (sym here) (now same at)
      | inr (_, other) ↦ before same at w (omega arith)
    ])
    first second

pub ways_none : (track place : ℕ) (Noted Quiet : ℕ → Type 0) (marks : List (Vec Bool))
    → Marks (λ (t k : ℕ). (t ≡ track) × (place ≡ k) × ((w : ℕ) × (w < 0) × Noted w)) (λ (t k : ℕ). t ≡ track → place ≡ k → (w : ℕ) → w < 0 → Quiet w) marks marks
ways_none track place Noted Quiet marks =
    marks_none (λ (t k : ℕ). (t ≡ track) × (place ≡ k) × ((w : ℕ) × (w < 0) × Noted w)) (λ (t k : ℕ). t ≡ track → place ≡ k → (w : ℕ) → w < 0 → Quiet w) marks (λ t k same at w lt. absurd (omega arith))

-- a line that ran in each way which tells of another one
pub ways_all : {S L : Type 0} (notes quiet : S → L → ℕ → Type 0) (lines : ℕ → List L) (node : Node S) (at way : ℕ) (line : L) (old new : List (Vec Bool)) → IsNextAt lines node.places.items at line
    → ((w : ℕ) → (tried : ℕ) × (tried < way) × (quiet node.state line tried → quiet node.state line w))
    → Marks (λ (t k : ℕ). (t ≡ at) × (get_or node.places.items at 0 ≡ k) × ((w : ℕ) × (w < way) × notes node.state line w)) (λ (t k : ℕ). t ≡ at → get_or node.places.items at 0 ≡ k → (w : ℕ) → w < way → quiet node.state line w) old new
    → Marks (λ (t k : ℕ). (t ≡ at) × IsNoted notes lines node t k) (λ (t k : ℕ). t ≡ at → IsQuiet quiet lines node t k) old new
ways_all {S} {L} notes quiet lines node at way line old new next each marks =
    marks_as (λ (t k : ℕ). (t ≡ at) × (get_or node.places.items at 0 ≡ k) × ((w : ℕ) × (w < way) × notes node.state line w)) (λ (t k : ℕ). (t ≡ at) × IsNoted notes lines node t k)
    (λ (t k : ℕ). t ≡ at → get_or node.places.items at 0 ≡ k → (w : ℕ) → w < way → quiet node.state line w) (λ (t k : ℕ). t ≡ at → IsQuiet quiet lines node t k) old new
    (λ t k (same, place, (w, lt, noted)). (same, subst (λ (u : ℕ). IsNoted notes lines node u k) (sym same) (place, line, next, (w, noted))))
    (λ t k went same. subst (λ (u : ℕ). IsQuiet quiet lines node u k) (sym same)
    (λ place other here w.
    let alike : other ≡ line = next_once lines node.places.items at other line here next in
    let (tried, lt, so) = each w in subst (λ (l : L). quiet node.state l w) (sym alike) (so (went same place tried lt))))
    marks

-- a track that has no line to run
pub ways_no_line : {S L : Type 0} (notes quiet : S → L → ℕ → Type 0) (lines : ℕ → List L) (node : Node S) (at : ℕ) (marks : List (Vec Bool)) → slice_get (lines at) (get_or node.places.items at 0) ≡ None
    → Marks (λ (t k : ℕ). (t ≡ at) × IsNoted notes lines node t k) (λ (t k : ℕ). t ≡ at → IsQuiet quiet lines node t k) marks marks
ways_no_line {S} {L} notes quiet lines node at marks none =
    marks_none (λ (t k : ℕ). (t ≡ at) × IsNoted notes lines node t k) (λ (t k : ℕ). t ≡ at → IsQuiet quiet lines node t k) marks (λ t k same. subst (λ (u : ℕ). IsQuiet quiet lines node u k) (sym same) (λ place line here way. absurd (cc)))

-- the same by other lines
noted_as : {S L : Type 0} (notes : S → L → ℕ → Type 0) (lines others : ℕ → List L) (node : Node S) (t k : ℕ) → lines t ≡ others t → IsNoted notes lines node t k → IsNoted notes others node t k
noted_as notes lines others node t k same (place, line, next, noted) = (place, line, line_as lines others node.places.items t line same next, noted)

quiet_as : {S L : Type 0} (quiet : S → L → ℕ → Type 0) (lines others : ℕ → List L) (node : Node S) (t k : ℕ) → lines t ≡ others t → IsQuiet quiet lines node t k → IsQuiet quiet others node t k
quiet_as quiet lines others node t k same went place line next = went place line (line_as others lines node.places.items t line (sym same) next)

pub turn_as : {S L : Type 0} (notes quiet : S → L → ℕ → Type 0) (lines others : ℕ → List L) (node : Node S) (at : ℕ) (old new : List (Vec Bool)) → lines at ≡ others at
    → Marks (λ (t k : ℕ). (t ≡ at) × IsNoted notes lines node t k) (λ (t k : ℕ). t ≡ at → IsQuiet quiet lines node t k) old new
    → Marks (λ (t k : ℕ). (t ≡ at) × IsNoted notes others node t k) (λ (t k : ℕ). t ≡ at → IsQuiet quiet others node t k) old new
turn_as {S} {L} notes quiet lines others node at old new is marks =
    marks_as (λ (t k : ℕ). (t ≡ at) × IsNoted notes lines node t k) (λ (t k : ℕ). (t ≡ at) × IsNoted notes others node t k) (λ (t k : ℕ). t ≡ at → IsQuiet quiet lines node t k) (λ (t k : ℕ). t ≡ at → IsQuiet quiet others node t k) old new
    (λ t k (same, noted). (same, noted_as notes lines others node t k (subst (λ (u : ℕ). lines u ≡ others u) (sym same) is) noted))
    (λ t k went same. quiet_as quiet lines others node t k (subst (λ (u : ℕ). lines u ≡ others u) (sym same) is) (went same)) marks

-- from marks that are those before
pub turn_from : {S L : Type 0} (notes quiet : S → L → ℕ → Type 0) (lines others : ℕ → List L) (node : Node S) (at : ℕ) (old first : Vec (Vec Bool)) (new : List (Vec Bool)) → first ≡ old → lines at ≡ others at
    → Marks (λ (t k : ℕ). (t ≡ at) × IsNoted notes lines node t k) (λ (t k : ℕ). t ≡ at → IsQuiet quiet lines node t k) first.items new
    → Marks (λ (t k : ℕ). (t ≡ at) × IsNoted notes others node t k) (λ (t k : ℕ). t ≡ at → IsQuiet quiet others node t k) old.items new
turn_from {S} {L} notes quiet lines others node at old first new same is marks =
    turn_as notes quiet lines others node at old.items new is
    (subst (λ (v : Vec (Vec Bool)). Marks (λ (t k : ℕ). (t ≡ at) × IsNoted notes lines node t k) (λ (t k : ℕ). t ≡ at → IsQuiet quiet lines node t k) v.items new) same marks)

-- a track of which a job has no line
pub turn_idle : {S L : Type 0} (notes quiet : S → L → ℕ → Type 0) (lines : ℕ → List L) (node : Node S) (at : ℕ) (marks : List (Vec Bool)) → lines at ≡ []
    → Marks (λ (t k : ℕ). (t ≡ at) × IsNoted notes lines node t k) (λ (t k : ℕ). t ≡ at → IsQuiet quiet lines node t k) marks marks
turn_idle {S} {L} notes quiet lines node at marks none =
    marks_none (λ (t k : ℕ). (t ≡ at) × IsNoted notes lines node t k) (λ (t k : ℕ). t ≡ at → IsQuiet quiet lines node t k) marks
    (λ t k same place line next way. absurd (no_line lines node.places.items t line (subst (λ (u : ℕ). lines u ≡ []) (sym same) none) next))

-- a line that a job runs is one of the tracks
own_within : {S L : Type 0} (owners : Owners) (count job index : ℕ) (part : Part) (tracks : List (Vec L)) (node : Node S) (t : ℕ) (line : L) → IsNextAt (own owners count job (opening part tracks) index) node.places.items t line → t < length tracks
own_within owners count job index part tracks node t line next =
    let mine = own owners count job (opening part tracks) index in
    let takes = owner owners count index t == job in
    elim (eqb_tells (owner owners count index t) job) [
      | inl (is, _) ↦ within_tracks tracks t (get_or node.places.items t 0) line (opened part tracks node.places.items t line (line_as mine (opening part tracks) node.places.items t line (chosen takes (opening part tracks t) is) next)).1
      | inr (other, _) ↦ absurd (no_line mine node.places.items t line (not_chosen takes (opening part tracks t) other) next)
    ]

-- a line that is quiet wherever there is a track
pub own_quiet : {S L : Type 0} (quiet : S → L → ℕ → Type 0) (owners : Owners) (count job index : ℕ) (part : Part) (tracks : List (Vec L)) (node : Node S) (all t k : ℕ) → length tracks ≤ all
    → (t < all → IsQuiet quiet (own owners count job (opening part tracks) index) node t k) → IsQuiet quiet (own owners count job (opening part tracks) index) node t k
own_quiet quiet owners count job index part tracks node all t k le went place line next = let lt = own_within owners count job index part tracks node t line next in went (omega arith) place line next

-- one more node
pub nodes_next : {S L : Type 0} (notes quiet : S → L → ℕ → Type 0) (ran : ℕ → ℕ → List L) (layer : List (Node S)) (index : ℕ) (node : Node S) (old mid new : List (Vec Bool)) → slice_get layer index ≡ Some node
    → Marks (IsNotedBehind notes ran layer index) (IsQuietBehind quiet ran layer index) old mid → Marks (IsNoted notes (ran index) node) (IsQuiet quiet (ran index) node) mid new
    → Marks (IsNotedBehind notes ran layer (index + 1)) (IsQuietBehind quiet ran layer (index + 1)) old new
nodes_next {S} {L} notes quiet ran layer index node old mid new is first second =
    marks_both (IsNotedBehind notes ran layer index) (IsNoted notes (ran index) node) (IsNotedBehind notes ran layer (index + 1)) (IsQuietBehind quiet ran layer index) (IsQuiet quiet (ran index) node) (IsQuietBehind quiet ran layer (index + 1)) old mid new
    (λ t k (i, lt, more). (i, omega arith, more)) (λ t k noted. (index, omega arith, (node, is, noted)))
    (λ t k before here i lt n at. elim (eqb_tells i index) [
      | inl (_, same) ↦ (
          let alike : n ≡ node = same_Some n node (sym at ∙ subst (λ (j : ℕ). slice_get layer j ≡ Some node) (sym same) is) in
          subst (λ (j : ℕ). IsQuiet quiet (ran j) n t k) (sym same) (subst (λ (m : Node S). IsQuiet quiet (ran index) m t k) (sym alike) here)
          )
      | inr (_, other) ↦ before i (omega arith) n at
    ])
    first second

pub nodes_none : {S L : Type 0} (notes quiet : S → L → ℕ → Type 0) (ran : ℕ → ℕ → List L) (layer : List (Node S)) (marks : List (Vec Bool)) → Marks (IsNotedBehind notes ran layer 0) (IsQuietBehind quiet ran layer 0) marks marks
nodes_none notes quiet ran layer marks = marks_none (IsNotedBehind notes ran layer 0) (IsQuietBehind quiet ran layer 0) marks (λ t k i lt n is. absurd (omega arith))

behind_as : {S L : Type 0} (notes : S → L → ℕ → Type 0) (one other : ℕ → ℕ → List L) (layer : List (Node S)) (count t k : ℕ) → ((i u : ℕ) → one i u ≡ other i u) → IsNotedBehind notes one layer count t k → IsNotedBehind notes other layer count t k
behind_as notes one other layer count t k same (i, lt, (n, is, noted)) = (i, lt, (n, is, noted_as notes (one i) (other i) n t k (same i t) noted))

pub marks_alike : {S L : Type 0} (notes quiet : S → L → ℕ → Type 0) (one other : ℕ → ℕ → List L) (layer : List (Node S)) (count : ℕ) (old new : List (Vec Bool)) → ((i u : ℕ) → one i u ≡ other i u)
    → Marks (IsNotedBehind notes one layer count) (IsQuietBehind quiet one layer count) old new → Marks (IsNotedBehind notes other layer count) (IsQuietBehind quiet other layer count) old new
marks_alike notes quiet one other layer count old new same marks =
    marks_as (IsNotedBehind notes one layer count) (IsNotedBehind notes other layer count) (IsQuietBehind quiet one layer count) (IsQuietBehind quiet other layer count) old new
    (λ t k noted. behind_as notes one other layer count t k same noted) (λ t k went i lt n is. quiet_as quiet (one i) (other i) n t k (same i t) (went i lt n is)) marks

pub alike_ok : {S L : Type 0} (notes quiet : S → L → ℕ → Type 0) (one other : ℕ → ℕ → List L) (layer : List (Node S)) (count : ℕ) (old : List (Vec Bool)) (result : Result (Layer S) Stop) → ((i u : ℕ) → one i u ≡ other i u)
    → IfOk result (λ (next : Layer S). Marks (IsNotedBehind notes one layer count) (IsQuietBehind quiet one layer count) old next.noted.items)
    → IfOk result (λ (next : Layer S). Marks (IsNotedBehind notes other layer count) (IsQuietBehind quiet other layer count) old next.noted.items)
alike_ok notes quiet one other layer count old (Ok next) same marks = marks_alike notes quiet one other layer count old next.noted.items same marks
alike_ok notes quiet one other layer count old (Err stop) same marks = tt

-- the marks of jobs are added to those before: a line that runs behind the layer has a mark
pub marks_joined : {S L : Type 0} (notes quiet : S → L → ℕ → Type 0) (part : Part) (tracks : List (Vec L)) (layer : List (Node S)) (count : ℕ) (made old new : List (Vec Bool))
    → AreMarks tracks (IsNotedBehind notes (λ _. opening part tracks) layer count) (IsQuietBehind quiet (λ _. opening part tracks) layer count) made
    → Adds (IsMarked made) old new → Marks (IsNotedBehind notes (λ _. opening part tracks) layer count) (IsQuietBehind quiet (λ _. opening part tracks) layer count) old new
marks_joined notes quiet part tracks layer count made old new are marks =
    marks_as (IsMarked made) (IsNotedBehind notes (λ _. opening part tracks) layer count) (λ t k. IsMarked made t k → ⊥) (IsQuietBehind quiet (λ _. opening part tracks) layer count) old new are.only
    (λ t k un i lt n is place line next.
    let within = slice_get_within (track tracks t) (get_or n.places.items t 0) line (opened part tracks n.places.items t line next).1 in
    are.unmarked t k (omega arith) un i lt n is place line next)
    marks

-- of the same layer, by the same part
pub marks_of : {S L : Type 0} (notes quiet : S → L → ℕ → Type 0) (tracks : List (Vec L)) (chosen_part part : Part) (slice layer : List (Node S)) (old new : List (Vec Bool)) → chosen_part ≡ part → slice ≡ layer
    → Marks (IsNotedBehind notes (λ _. opening chosen_part tracks) slice (length slice)) (IsQuietBehind quiet (λ _. opening chosen_part tracks) slice (length slice)) old new
    → Marks (IsNotedBehind notes (λ _. opening part tracks) layer (length layer)) (IsQuietBehind quiet (λ _. opening part tracks) layer (length layer)) old new
marks_of {S} notes quiet tracks chosen_part part slice layer old new is same marks =
    subst (λ (l : List (Node S)). Marks (IsNotedBehind notes (λ _. opening part tracks) l (length l)) (IsQuietBehind quiet (λ _. opening part tracks) l (length l)) old new) same
    (subst (λ (p : Part). Marks (IsNotedBehind notes (λ _. opening p tracks) slice (length slice)) (IsQuietBehind quiet (λ _. opening p tracks) slice (length slice)) old new) is marks)
