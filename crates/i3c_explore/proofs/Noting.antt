-- The marks of a block, layer by layer, and those of all blocks.
use Rattle.std.proofs.Common.{◌≡◌, ◌∙◌, ◌<◌, ◌≤◌, ◌+◌, ℕ, suc, zero, Bool, true, List, [], ◌∷◌, ◌++◌, Some, ap, arith, get_or, inl, inr, length, length-append, refl, subst, sym}
use Rattle.std.specs.Global.{Vec}
use Rattle.std.specs.List.{Contains, slice_get}
use Rattle.std.proofs.lemmas.Bool.Decides.{eqb_tells, leb_tells}
use Rattle.std.proofs.lemmas.Option.{slice_get_past, slice_get_within}
use Rattle.i3c_explore.specs.declared.layer.Layer.{Layer}
use Rattle.i3c_explore.specs.declared.limits.Limits.{Limits}
use Rattle.i3c_explore.specs.declared.node.Node.{Node}
use Rattle.i3c_explore.specs.declared.turn.Turn.{Turn}
use Rattle.i3c_explore.specs.Blocks.{IsBegun, block, tracks_in}
use Rattle.i3c_explore.specs.Explorations.{IsMadeBy}
use Rattle.i3c_explore.specs.Layers.{IsNextAt}
use Rattle.i3c_explore.specs.Notes.{BlockIsNoted, EndsAt, EndsIn, HasShape, IsMarked, IsNoted, IsNotedBehind, IsNotedIn, IsQuietBehind, IsQuietIn, IsTold, IsUnmarked, Marks, Notes, NotesOn, Quiets, QuietsOn}
use Rattle.i3c_explore.specs.Orders.{IsNext, IsPrefix, track, turns_of}
use Rattle.i3c_explore.specs.Parts.{BeginsIn, Part, block_part, fork, opening, part_at}
use Rattle.i3c_explore.proofs.Blocks.{AreHeld, AreReached, no_more}
use Rattle.i3c_explore.proofs.Courses.{HoldCourses, ReachCourses}
use Rattle.i3c_explore.proofs.Lists.{contains_get, get_below, get_contains, get_push}
use Rattle.i3c_explore.proofs.Opening.{InPart, in_block, in_part_before, of_block, opened, opened_in_part, opening_has, opens}
use Rattle.i3c_explore.proofs.Turns.{breaks_prefix, prefix_before, room_for}
use Rattle.i3c_explore.proofs.Underway.{IsUnderway, held_by}

-- the marks of a block tell of each line whether it is noted in orders of a part with at most `count` turns, or can run without a note there
pub record AreNotedSo {S L : Type 0} (steps : S → L → ℕ → S → Type 0) (notes quiet : S → L → ℕ → Type 0) (part : Part) (tracks : List (Vec L)) (starts : List (Node S)) (count : ℕ) (marks : List (Vec Bool)) : Type 0 where
  pub shape : HasShape tracks marks
  pub only : (t k : ℕ) → IsMarked marks t k → IsNotedIn steps notes part tracks starts t k
  pub each : (s : Node S) → Contains starts s → (order : List Turn) → length order ≤ count → IsPrefix tracks order → InPart part order → (t k : ℕ) → EndsAt t k order → (IsMarked marks t k → ⊥) → Quiets steps quiet tracks s.state order

none_so : (order : List Turn) (t k : ℕ) → length order ≤ 0 → EndsAt t k order → ⊥
none_so [] t k le ends = ends
none_so (turn ∷ before) t k le ends = omega arith

pub noted_first : {S L : Type 0} (steps : S → L → ℕ → S → Type 0) (notes quiet : S → L → ℕ → Type 0) (part : Part) (tracks : List (Vec L)) (starts : List (Node S)) (marks : List (Vec Bool))
    → HasShape tracks marks → IsUnmarked marks → AreNotedSo steps notes quiet part tracks starts 0 marks
noted_first steps notes quiet part tracks starts marks shape none = record {
  shape = shape;
  only = λ t k is. absurd (none t k is);
  each = λ s at order le prefix fits t k ends un. absurd (none_so order t k le ends);
}

-- a line that is noted behind a node is noted in an order
noted_here : {S L : Type 0} (steps : S → L → ℕ → S → Type 0) (notes : S → L → ℕ → Type 0) (part : Part) (tracks : List (Vec L)) (starts layer : List (Node S)) (count : ℕ) (n : Node S) (t k : ℕ)
    → AreReached steps part tracks starts count layer → Contains layer n → IsNoted notes (opening (part_at part count) tracks) n t k → IsNotedIn steps notes part tracks starts t k
noted_here {S} {L} steps notes part tracks starts layer count n t k reached c (place, line, next, (way, noted)) =
    let (s, at, (r, len, fits)) = reached n c in
    let turn : Turn = record { track = t; way = way } in
    let (is_begun, here) = opened (part_at part count) tracks n.places.items t line next in
    let next_here : IsNext tracks r.turns t line = subst (λ (j : ℕ). slice_get (track tracks t) j ≡ Some line) (sym (r.placed t)) here in
    let prefix = breaks_prefix steps notes tracks s.state (turn ∷ r.turns) (n.state, line, r.led, next_here, noted) in
    (s, at, (turn ∷ r.turns, prefix, opened_in_part part turn r.turns count len fits is_begun, (refl, r.placed t ∙ place), (n.state, line, r.led, next_here, noted)))

-- a line that is quiet behind each node can run without a note in an order that it ends
quiet_there : {S L : Type 0} (steps : S → L → ℕ → S → Type 0) (quiet : S → L → ℕ → Type 0) (part : Part) (tracks : List (Vec L)) (starts layer : List (Node S)) (count : ℕ) (s : Node S) (turn : Turn) (before : List Turn)
    → AreHeld steps part tracks starts count layer → Contains starts s → length before ≡ count → IsPrefix tracks (turn ∷ before) → InPart part (turn ∷ before)
    → IsQuietBehind quiet (λ _. opening (part_at part count) tracks) layer (length layer) turn.track (turns_of turn.track before) → Quiets steps quiet tracks s.state (turn ∷ before)
quiet_there {S} {L} steps quiet part tracks starts layer count s turn before held at len prefix fits behind =
    let t = turn.track in let lines = opening (part_at part count) tracks in
    let (n, c, placed, leads) = held s at before len (prefix_before tracks turn before prefix) (in_part_before part turn before fits) in
    let (i, is) = contains_get layer n c in
    let (line, next) = get_below (track tracks t) (turns_of t before) (room_for tracks turn before prefix) in
    let same : lines t ≡ track tracks t = opening_has (part_at part count) tracks t (opens part turn before count len fits) in
    let here : slice_get (track tracks t) (get_or n.places.items t 0) ≡ Some line = subst (λ (j : ℕ). slice_get (track tracks t) j ≡ Some line) (placed t) next in
    let next_here : IsNextAt lines n.places.items t line = subst (λ (l : List L). slice_get l (get_or n.places.items t 0) ≡ Some line) (sym same) here in
    (n.state, line, leads, next, behind i (slice_get_within layer i n is) n is (sym (placed t)) line next_here turn.way)

-- a line that isn't marked can run without a note in an order with one more turn
newly : {S L : Type 0} (steps : S → L → ℕ → S → Type 0) (notes quiet : S → L → ℕ → Type 0) (part : Part) (tracks : List (Vec L)) (starts layer : List (Node S)) (count : ℕ) (old new : List (Vec Bool)) (s : Node S) (order : List Turn) (t k : ℕ)
    → AreHeld steps part tracks starts count layer → HasShape tracks old → Marks (IsNotedBehind notes (λ _. opening (part_at part count) tracks) layer (length layer)) (IsQuietBehind quiet (λ _. opening (part_at part count) tracks) layer (length layer)) old new
    → Contains starts s → length order ≡ suc count → IsPrefix tracks order → InPart part order → EndsAt t k order → (IsMarked new t k → ⊥) → Quiets steps quiet tracks s.state order
newly steps notes quiet part tracks starts layer count old new s [] t k held shape marks at len prefix fits ends un = absurd ends
newly steps notes quiet part tracks starts layer count old new s (turn ∷ before) t k held (sized, shaped) marks at len prefix fits (same, place) un =
    let within = room_for tracks turn before prefix in
    let never : IsMarked new turn.track (turns_of turn.track before) → ⊥ = λ marked. un (subst (λ (j : ℕ). IsMarked new t j) place (subst (λ (u : ℕ). IsMarked new u (turns_of u before)) same marked)) in
    quiet_there steps quiet part tracks starts layer count s turn before held at (omega arith) prefix fits
    (marks.unmarked turn.track (turns_of turn.track before) (let e = shaped turn.track in omega arith) never)

-- the marks behind one more layer
pub noted_next : {S L : Type 0} (steps : S → L → ℕ → S → Type 0) (notes quiet : S → L → ℕ → Type 0) (part : Part) (tracks : List (Vec L)) (starts layer : List (Node S)) (count : ℕ) (old new : List (Vec Bool))
    → AreReached steps part tracks starts count layer → AreHeld steps part tracks starts count layer
    → Marks (IsNotedBehind notes (λ _. opening (part_at part count) tracks) layer (length layer)) (IsQuietBehind quiet (λ _. opening (part_at part count) tracks) layer (length layer)) old new
    → AreNotedSo steps notes quiet part tracks starts count old → AreNotedSo steps notes quiet part tracks starts (suc count) new
noted_next steps notes quiet part tracks starts layer count old new reached held marks was = record {
  shape = (marks.sized ∙ was.shape.0, λ t. marks.shaped t ∙ was.shape.1 t);
  only = λ t k is. elim (marks.from t k is) [
    | inl before ↦ was.only t k before
    | inr (i, lt, (n, at, here)) ↦ noted_here steps notes part tracks starts layer count n t k reached (get_contains layer i n at) here
  ];
  each = λ s at order le prefix fits t k ends un. elim (eqb_tells (length order) (suc count)) [
    | inl (_, same) ↦ newly steps notes quiet part tracks starts layer count old new s order t k held was.shape marks at same prefix fits ends un
    | inr (_, other) ↦ was.each s at order (omega arith) prefix fits t k ends (λ is. un (marks.kept t k is))
  ];
}

-- the marks of the whole block, behind which there is no layer
pub noted_over : {S L : Type 0} (steps : S → L → ℕ → S → Type 0) (notes quiet : S → L → ℕ → Type 0) (part : Part) (tracks : List (Vec L)) (starts next : List (Node S)) (count : ℕ) (marks : List (Vec Bool))
    → AreHeld steps part tracks starts (suc count) next → length next ≡ 0 → AreNotedSo steps notes quiet part tracks starts (suc count) marks → BlockIsNoted steps notes quiet part tracks starts marks
noted_over steps notes quiet part tracks starts next count marks held empty was = record {
  shape = was.shape;
  only = was.only;
  each = λ t k un s at order prefix fits ends.
      let most = no_more steps part tracks starts next count s at held empty order prefix fits in
      was.each s at order (omega arith) prefix fits t k ends un;
}

-- the marks of the first blocks tell of each line whether it is noted in courses of a part, or can run without a note there
pub record AreTold {S L : Type 0} (steps : S → L → ℕ → S → Type 0) (notes quiet : S → L → ℕ → Type 0) (part : Part) (blocks : List (Vec (Vec L))) (start : S) (count : ℕ) (noted : List (Vec (Vec Bool))) : Type 0 where
  pub sized : length noted ≡ count
  pub shape : (b : ℕ) → b < count → HasShape (block blocks b) (block noted b)
  pub only : (b t k : ℕ) → IsTold noted b t k → (course : List (List Turn)) × IsBegun blocks course × BeginsIn part (fork blocks) course × EndsIn b t k course × NotesOn steps notes blocks start course
  pub each : (course : List (List Turn)) → IsBegun blocks course → BeginsIn part (fork blocks) course → (b t k : ℕ) → EndsIn b t k course → b < count → (IsTold noted b t k → ⊥) → QuietsOn steps quiet blocks start course

none_marked : (marks : List (Vec Bool)) (t k : ℕ) → length marks ≡ 0 → IsMarked marks t k → ⊥
none_marked [] t k none is = let lt = slice_get_within [] k true is in omega arith
none_marked (m ∷ marks) t k none is = omega arith

none_told : (noted : List (Vec (Vec Bool))) (b t k : ℕ) → length noted ≤ b → IsTold noted b t k → ⊥
none_told noted b t k past is = none_marked (block noted b) t k (ap (λ (o : List (Vec Bool)). length o) (ap tracks_in (slice_get_past noted b past))) is

pub told_first : {S L : Type 0} (steps : S → L → ℕ → S → Type 0) (notes quiet : S → L → ℕ → Type 0) (part : Part) (blocks : List (Vec (Vec L))) (start : S) (noted : List (Vec (Vec Bool))) → noted ≡ [] → AreTold steps notes quiet part blocks start 0 noted
told_first steps notes quiet part blocks start noted none =
    let empty = ap length none in record {
      sized = empty;
      shape = λ b lt. absurd (omega arith);
      only = λ b t k is. absurd (none_told noted b t k (omega arith) is);
      each = λ course begun fits b t k ends lt un. absurd (omega arith);
    }

before_push : {A : Type 0} (xs : List A) (y : A) (k : ℕ) → k < length xs → slice_get (xs ++ y ∷ []) k ≡ slice_get xs k
before_push [] y k lt = absurd (omega arith)
before_push (x ∷ xs) y zero lt = refl
before_push (x ∷ xs) y (suc k) lt = before_push xs y k (omega arith)

-- the marks of the newest block, and of the ones before it
block_here : (noted : List (Vec (Vec Bool))) (marks : Vec (Vec Bool)) (b : ℕ) → b ≡ length noted → block (noted ++ marks ∷ []) b ≡ marks.items
block_here noted marks b same = ap (λ (k : ℕ). block (noted ++ marks ∷ []) k) same ∙ ap tracks_in (get_push noted marks)

block_before : (noted : List (Vec (Vec Bool))) (marks : Vec (Vec Bool)) (b : ℕ) → b < length noted → block (noted ++ marks ∷ []) b ≡ block noted b
block_before noted marks b lt = ap tracks_in (before_push noted marks b lt)

-- a line that is told of the newest block is noted in a course
told_here : {S L : Type 0} (steps : S → L → ℕ → S → Type 0) (notes : S → L → ℕ → Type 0) (part : Part) (blocks : List (Vec (Vec L))) (start : S) (count : ℕ) (layer : List (Node S)) (t k : ℕ) → count < length blocks
    → ReachCourses steps part (fork blocks) blocks start count layer → IsNotedIn steps notes (block_part part (fork blocks) count) (block blocks count) layer t k
    → (course : List (List Turn)) × IsBegun blocks course × BeginsIn part (fork blocks) course × EndsIn count t k course × NotesOn steps notes blocks start course
told_here {S} {L} steps notes part blocks start count layer t k lt reached (s, at, (order, prefix, fits, ends, noted)) =
    let (course, was, earlier, len, _, led) = reached s at in (
      order ∷ course,
      (was, omega arith, subst (λ (b : ℕ). IsPrefix (block blocks b) order) (sym len) prefix),
      (earlier, λ here. of_block part (fork blocks) count order fits (sym len ∙ here)),
      (len, ends),
      (s.state, led, subst (λ (b : ℕ). Notes steps notes (block blocks b) s.state order) (sym len) noted),
    )

-- a line that can run without a note in an order of its block can do so in a course that it ends
quiet_by : {S L : Type 0} (steps : S → L → ℕ → S → Type 0) (quiet : S → L → ℕ → Type 0) (part : Part) (blocks : List (Vec (Vec L))) (start : S) (count : ℕ) (layer : List (Node S)) (course : List (List Turn)) (b t k : ℕ)
    → HoldCourses steps part (fork blocks) blocks start count layer → IsBegun blocks course → BeginsIn part (fork blocks) course → EndsIn b t k course → b ≡ count
    → IsQuietIn steps quiet (block_part part (fork blocks) count) (block blocks count) layer t k → QuietsOn steps quiet blocks start course
quiet_by steps quiet part blocks start count layer [] b t k held begun fits ends same went = absurd ends
quiet_by {S} {L} steps quiet part blocks start count layer (order ∷ before) b t k held (course, lt, prefix) (earlier, fits) (at, ends) same went =
    let len : length before ≡ count = at ∙ same in
    let (n, c, leads) = held before course earlier len in (
      n.state,
      leads,
      subst (λ (j : ℕ). Quiets steps quiet (block blocks j) n.state order) (sym len)
          (went n c order (subst (λ (j : ℕ). IsPrefix (block blocks j) order) len prefix) (in_block part (fork blocks) count order (λ here. fits (len ∙ here))) ends),
    )

-- one more block
pub told_next : {S L : Type 0} (steps : S → L → ℕ → S → Type 0) (notes quiet : S → L → ℕ → Type 0) (part : Part) (blocks : List (Vec (Vec L))) (start : S) (count : ℕ) (layer : List (Node S)) (noted : List (Vec (Vec Bool))) (marks : Vec (Vec Bool)) → count < length blocks
    → ReachCourses steps part (fork blocks) blocks start count layer → HoldCourses steps part (fork blocks) blocks start count layer → BlockIsNoted steps notes quiet (block_part part (fork blocks) count) (block blocks count) layer marks.items
    → AreTold steps notes quiet part blocks start count noted → AreTold steps notes quiet part blocks start (suc count) (noted ++ marks ∷ [])
told_next {S} {L} steps notes quiet part blocks start count layer noted marks lt reached held done was =
    let all = noted ++ marks ∷ [] in let len = was.sized in let longer = length-append noted (marks ∷ []) in record {
      sized = omega arith;
      shape = λ b below. elim (eqb_tells b count) [
        | inl (_, same) ↦ subst (λ (m : List (Vec Bool)). HasShape (block blocks b) m) (sym (block_here noted marks b (omega arith))) (subst (λ (j : ℕ). HasShape (block blocks j) marks.items) (sym same) done.shape)
        | inr (_, other) ↦ subst (λ (m : List (Vec Bool)). HasShape (block blocks b) m) (sym (block_before noted marks b (omega arith))) (was.shape b (omega arith))
      ];
      only = λ b t k is. elim (eqb_tells b count) [
        | inl (_, same) ↦ (
            let (course, begun, fits, ends, led) = told_here steps notes part blocks start count layer t k lt reached (done.only t k (subst (λ (m : List (Vec Bool)). IsMarked m t k) (block_here noted marks b (omega arith)) is)) in
            (course, begun, fits, subst (λ (j : ℕ). EndsIn j t k course) (sym same) ends, led)
            )
        | inr (_, other) ↦ elim (leb_tells (suc b) count) [
          | inl (_, below) ↦ was.only b t k (subst (λ (m : List (Vec Bool)). IsMarked m t k) (block_before noted marks b (omega arith)) is)
          | inr (_, above) ↦ absurd (none_told all b t k (omega arith) is)
        ]
      ];
      each = λ course begun fits b t k ends below un. elim (eqb_tells b count) [
        | inl (_, same) ↦ quiet_by steps quiet part blocks start count layer course b t k held begun fits ends same
            (done.each t k (λ marked. un (subst (λ (m : List (Vec Bool)). IsMarked m t k) (sym (block_here noted marks b (omega arith))) marked)))
        | inr (_, other) ↦ was.each course begun fits b t k ends (omega arith) (λ marked. un (subst (λ (m : List (Vec Bool)). IsMarked m t k) (sym (block_before noted marks b (omega arith))) marked))
      ];
    }

-- the newest line of a course is in one of the blocks
pub ends_within : {L : Type 0} (blocks : List (Vec (Vec L))) (course : List (List Turn)) (b t k : ℕ) → IsBegun blocks course → EndsIn b t k course → b < length blocks
ends_within blocks [] b t k begun ends = absurd ends
ends_within blocks (order ∷ before) b t k (course, lt, prefix) (at, ends) = omega arith

-- the marks of all blocks have their shape
pub shape_all : {L : Type 0} (blocks : List (Vec (Vec L))) (noted : List (Vec (Vec Bool))) → length noted ≡ length blocks → ((b : ℕ) → b < length blocks → HasShape (block blocks b) (block noted b)) → (b : ℕ) → HasShape (block blocks b) (block noted b)
shape_all {L} blocks noted sized shape b = elim (leb_tells (suc b) (length blocks)) [
  | inl (_, lt) ↦ shape b lt
  | inr (_, past) ↦
      subst (λ (m : List (Vec Bool)). HasShape (block blocks b) m) (sym (ap tracks_in (slice_get_past noted b (omega arith))))
      (subst (λ (m : List (Vec L)). HasShape m []) (sym (ap tracks_in (slice_get_past blocks b (omega arith)))) (refl, λ t. refl))
]

-- one more layer of a block that is underway
pub noted_on : {S L : Type 0} (steps : S → L → ℕ → S → Type 0) (last : S → L → ℕ) (notes quiet : S → L → ℕ → Type 0) (part : Part) (tracks : List (Vec L)) (starts : Layer S) (count : ℕ) (layer : List (Node S)) (left : Limits) (old first made new : Vec (Vec Bool))
    → IsUnderway steps last part tracks starts count layer left → first ≡ old → new ≡ made → Marks (IsNotedBehind notes (λ _. opening (part_at part count) tracks) layer (length layer)) (IsQuietBehind quiet (λ _. opening (part_at part count) tracks) layer (length layer)) first.items made.items
    → AreNotedSo steps notes quiet part tracks starts.nodes.items count old.items → AreNotedSo steps notes quiet part tracks starts.nodes.items (count + 1) new.items
noted_on {S} {L} steps last notes quiet part tracks starts count layer left old first made new underway begun kept marks was =
    let same : suc count ≡ count + 1 = omega arith in
    let from = subst (λ (v : Vec (Vec Bool)). Marks (IsNotedBehind notes (λ _. opening (part_at part count) tracks) layer (length layer)) (IsQuietBehind quiet (λ _. opening (part_at part count) tracks) layer (length layer)) v.items made.items) begun marks in
    subst (λ (v : Vec (Vec Bool)). AreNotedSo steps notes quiet part tracks starts.nodes.items (count + 1) v.items) (sym kept)
    (subst (λ (k : ℕ). AreNotedSo steps notes quiet part tracks starts.nodes.items k made.items) same (noted_next steps notes quiet part tracks starts.nodes.items layer count old.items made.items underway.reached underway.held from was))

-- the last layer of a block
pub noted_end : {S L : Type 0} (steps : S → L → ℕ → S → Type 0) (last : S → L → ℕ) (notes quiet : S → L → ℕ → Type 0) (part : Part) (tracks : List (Vec L)) (starts : Layer S) (count : ℕ) (layer : List (Node S)) (left : Limits) (next : Layer S) (old first : Vec (Vec Bool))
    → IsUnderway steps last part tracks starts count layer left → IsMadeBy steps last tracks (part_at part count) (λ _. opening (part_at part count) tracks) layer left next → length next.nodes.items ≡ 0
    → first ≡ old → Marks (IsNotedBehind notes (λ _. opening (part_at part count) tracks) layer (length layer)) (IsQuietBehind quiet (λ _. opening (part_at part count) tracks) layer (length layer)) first.items next.noted.items
    → AreNotedSo steps notes quiet part tracks starts.nodes.items count old.items → BlockIsNoted steps notes quiet part tracks starts.nodes.items next.noted.items
noted_end {S} {L} steps last notes quiet part tracks starts count layer left next old first underway made empty begun marks was =
    let same : count + 1 ≡ suc count = omega arith in
    noted_over steps notes quiet part tracks starts.nodes.items next.nodes.items count next.noted.items (held_by steps last part tracks starts count layer left next underway made) empty
    (subst (λ (k : ℕ). AreNotedSo steps notes quiet part tracks starts.nodes.items k next.noted.items) same
    (noted_on steps last notes quiet part tracks starts count layer left old first next.noted next.noted underway begun refl marks was))
