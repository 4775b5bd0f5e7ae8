-- The parts together have each order once.
use Rattle.std.proofs.Common.{◌≡◌, ◌↔◌, ◌<◌, ◌≤◌, ℕ, Bool, if◌then◌else◌, suc, zero, List, [], ◌∷◌, ◌++◌, Some, ap, arith, inl, inr, length, length-append, refl, subst, sym}
use Rattle.std.specs.Global.{Vec}
use Rattle.std.specs.List.{Contains}
use Rattle.std.proofs.lemmas.Bool.Decides.{eqb_tells, leb_tells}
use Rattle.std.proofs.lemmas.List.Elements.{Contains-append_cases, Contains-append_left, Contains-append_right}
use Rattle.i3c_explore.specs.declared.node.Node.{Node}
use Rattle.i3c_explore.specs.declared.turn.Turn.{Turn}
use Rattle.i3c_explore.specs.Blocks.{IsCourse, IsWhole, PartIsCounted, block, plain_course}
use Rattle.i3c_explore.specs.Counts.{AllDistinct}
use Rattle.i3c_explore.specs.Numbers.{IsNumber}
use Rattle.i3c_explore.specs.Orders.{IsOrder}
use Rattle.i3c_explore.specs.Parts.{BeginsIn, HasLine, IsOfPart, Part, busy, fork}
use Rattle.i3c_explore.proofs.Parting.{of_whole}
use Rattle.i3c_explore.specs.Sums.{IsOfOnePart, PartsAddUp, part_of, sum_below}
use Rattle.i3c_explore.proofs.Opening.{InPart}
use Rattle.i3c_explore.proofs.Parting.{fork_line}
use Rattle.i3c_explore.proofs.Sharing.{contains_here, contains_there, distinct_append}
use Rattle.i3c_explore.proofs.Splitting.{one_part}

-- an element parts a list
contains_parts : {A : Type 0} (xs : List A) (x : A) → Contains xs x → (before : List A) × (behind : List A) × (xs ≡ before ++ x ∷ behind)
contains_parts [] x (k, lt, is) = absurd (omega arith)
contains_parts {A} (y ∷ xs) x (zero, lt, is) = ([], xs, ap (λ (z : A). z ∷ xs) is)
contains_parts {A} (y ∷ xs) x (suc k, lt, is) = let (before, behind, same) = contains_parts xs x (k, omega arith, is) in (y ∷ before, behind, ap (λ (zs : List A). y ∷ zs) same)

-- what isn't that element stays when it is taken away
contains_left : {A : Type 0} (before behind : List A) (x y : A) → (x ≡ y → ⊥) → Contains (before ++ x ∷ behind) y → Contains (before ++ behind) y
contains_left before behind x y other c = elim (Contains-append_cases before (x ∷ behind) y c) [
  | inl d ↦ Contains-append_left before behind y d
  | inr (zero, lt, is) ↦ absurd (other is)
  | inr (suc k, lt, is) ↦ Contains-append_right before behind y (k, omega arith, is)
]

-- distinct elements of a list are at most as many as its elements
distinct_within : {A : Type 0} (xs ys : List A) → AllDistinct xs → ((x : A) → Contains xs x → Contains ys x) → length xs ≤ length ys
distinct_within [] ys distinct within = omega arith
distinct_within {A} (x ∷ xs) ys (absent, distinct) within =
    let (before, behind, same) = contains_parts ys x (within x (contains_here x xs)) in
    let rest = distinct_within xs (before ++ behind) distinct (λ y c.
    contains_left before behind x y (λ e. absent (subst (λ (z : A). Contains xs z) (sym e) c)) (subst (λ (zs : List A). Contains zs y) same (within y (contains_there x y xs c)))) in
    let long = ap (λ (zs : List A). length zs) same in
    omega (arith, length-append before (x ∷ behind), length-append before behind)

-- before the parted block, a course is of each part
begins_early : (part : Part) (split : ℕ) (course : List (List Turn)) → length course ≤ split → BeginsIn part split course
begins_early part split [] le = tt
begins_early part split (order ∷ before) le = (begins_early part split before (omega arith), λ at. absurd (omega arith))

-- behind it, it is of the parts of the block's order
order_at : {L : Type 0} (blocks : List (Vec (Vec L))) (split : ℕ) (course : List (List Turn)) → IsCourse blocks course → split < length course
    → (order : List Turn) × IsOrder (block blocks split) order × ((part : Part) → BeginsIn part split course ↔ InPart part order)
order_at blocks split [] is lt = absurd (omega arith)
order_at {L} blocks split (order ∷ before) (is, within, whole) lt = elim (eqb_tells (length before) split) [
  | inl (_, same) ↦ (
    order,
    subst (λ (k : ℕ). IsOrder (block blocks k) order) same whole,
    λ part. ((λ (_, fits). fits same), (λ fits. (begins_early part split before (omega arith), λ at. fits))),
  )
  | inr (_, other) ↦ (let (earlier, is_order, fits) = order_at blocks split before is (omega arith) in (
    earlier,
    is_order,
    λ part. ((λ (begins, _). (fits part).0 begins), (λ here. ((fits part).1 here, λ at. absurd (other at)))),
  ))
]

fork_within : {L : Type 0} (blocks : List (Vec (Vec L))) → fork blocks ≤ length blocks
fork_within [] = omega arith
fork_within {L} (tracks ∷ rest) = elim (leb_tells 2 (busy tracks.items)) [
  | inl (is, _) ↦ (let here : fork (tracks ∷ rest) ≡ 0 = ap (λ (b : Bool). if b then 0 else suc (fork rest)) is in omega arith)
  | inr (is, _) ↦ (let here : fork (tracks ∷ rest) ≡ suc (fork rest) = ap (λ (b : Bool). if b then 0 else suc (fork rest)) is in let le = fork_within rest in omega arith)
]

-- an order of a block with a line has a turn
some_turn : {L : Type 0} (tracks : List (Vec L)) (order : List Turn) → HasLine tracks → IsOrder tracks order → 0 < length order
some_turn tracks [] (t, lt) whole = absurd (let e = whole t in omega arith)
some_turn tracks (turn ∷ order) has whole = omega arith

pub one_of_parts : {L : Type 0} (parts : ℕ) (blocks : List (Vec (Vec L))) (course : List (List Turn)) → 0 < parts → IsWhole blocks course → IsOfOnePart parts blocks course
one_of_parts {L} parts blocks course some (is, len) = elim (eqb_tells (fork blocks) (length blocks)) [
  | inl (_, none) ↦ (0, some, (begins_early (part_of 0 parts) (fork blocks) course (omega arith), λ e. refl), (λ other (_, first). first none))
  | inr (_, other) ↦ (
      let most = fork_within blocks in
      let (order, whole, fits) = order_at blocks (fork blocks) course is (omega arith) in
      let turns = some_turn (block blocks (fork blocks)) order (fork_line blocks (omega arith)) whole in
      let (k, lt, in_k, once) = one_part parts order some turns in
      (k, lt, ((fits (part_of k parts)).1 in_k, λ none. absurd (other none)), (λ j (begins, _). once j ((fits (part_of j parts)).0 begins)))
      )
]

-- the interleavings of the first parts, one after another
record Joined {S L : Type 0} (steps : S → L → ℕ → S → Type 0) (blocks : List (Vec (Vec L))) (parts : ℕ) (told : ℕ → ℕ) (count : ℕ) : Type 0 where
  list : List (List (List ℕ))
  distinct : AllDistinct list
  each : (h : List (List ℕ)) (k : ℕ) → k < count → IsWhole blocks (plain_course h) → IsOfPart (part_of k parts) blocks (plain_course h) → Contains list h
  only : (h : List (List ℕ)) → Contains list h → IsWhole blocks (plain_course h) × ((k : ℕ) × (k < count) × IsOfPart (part_of k parts) blocks (plain_course h))
  number : length list ≡ sum_below told count

join_parts : {S L : Type 0} (steps : S → L → ℕ → S → Type 0) (blocks : List (Vec (Vec L))) (start : S) (parts : ℕ) (ends : ℕ → List (Node S)) (told : ℕ → ℕ) → 0 < parts
    → ((k : ℕ) → k < parts → PartIsCounted steps (part_of k parts) blocks start (ends k) (Some (told k))) → (count : ℕ) → count ≤ parts → Joined steps blocks parts told count
join_parts steps blocks start parts ends told some counted zero le = record {
  list = [];
  distinct = tt;
  each = λ h k lt. absurd (omega arith);
  only = λ h (k, lt, is). absurd (omega arith);
  number = refl;
}
join_parts {S} {L} steps blocks start parts ends told some counted (suc count) le =
    let was = join_parts steps blocks start parts ends told some counted count (omega arith) in
    let more = counted count (omega arith) in record {
      list = was.list ++ more.all;
      distinct = distinct_append was.list more.all was.distinct more.distinct (λ h c d.
          let (whole, (k, lt, of_k)) = was.only h c in
          let (_, of_count) = more.only h d in
          let (_, _, _, once) = one_of_parts parts blocks (plain_course h) some whole in
          let a = once k of_k in let b = once count of_count in omega arith);
      each = λ h k lt whole of_k. elim (eqb_tells k count) [
        | inl (_, same) ↦ Contains-append_right was.list more.all h (more.each h whole (subst (λ (j : ℕ). IsOfPart (part_of j parts) blocks (plain_course h)) same of_k))
        | inr (_, other) ↦ Contains-append_left was.list more.all h (was.each h k (omega arith) whole of_k)
      ];
      only = λ h c. elim (Contains-append_cases was.list more.all h c) [
        | inl d ↦ (let (whole, (k, lt, of_k)) = was.only h d in (whole, (k, omega arith, of_k)))
        | inr d ↦ (let (whole, of_count) = more.only h d in (whole, (count, omega arith, of_count)))
      ];
      number = (let a = was.number in let b : told count ≡ length more.all = more.number in omega (arith, length-append was.list more.all));
    }

pub parts_add_up : {S L : Type 0} (steps : S → L → ℕ → S → Type 0) (blocks : List (Vec (Vec L))) (start : S) → PartsAddUp steps blocks start
parts_add_up {S} {L} steps blocks start parts part_ends told ends total some counted all =
    let joined = join_parts steps blocks start parts part_ends told some counted parts (omega arith) in
    let le = distinct_within joined.list all.all joined.distinct (λ h c. all.each h (joined.only h c).0 (of_whole blocks (plain_course h))) in
    let ge = distinct_within all.all joined.list all.distinct (λ h c.
    let (whole, _) = all.only h c in
    let (k, lt, of_k, _) = one_of_parts parts blocks (plain_course h) some whole in joined.each h k lt whole of_k) in
    let same : length all.all ≡ sum_below told parts = (let a = joined.number in omega arith) in
    subst (λ (n : ℕ). IsNumber total n) same all.number
