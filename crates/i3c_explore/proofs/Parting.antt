-- The courses of a part, and those of the whole.
use Rattle.std.proofs.Common.{◌≡◌, ◌⊎◌, ◌<◌, ℕ, Bool, suc, List, [], ◌∷◌, Option, Some, ap, arith, if◌then◌else◌, inl, inr, length, refl, subst, sym}
use Rattle.std.specs.Global.{Vec}
use Rattle.std.proofs.lemmas.Bool.Decides.{eqb_tells, leb_tells}
use Rattle.std.proofs.lemmas.Option.{slice_get_within}
use Rattle.i3c_explore.specs.declared.node.Node.{Node}
use Rattle.i3c_explore.specs.Numbers.{IsNumber}
use Rattle.i3c_explore.specs.declared.turn.Turn.{Turn}
use Rattle.i3c_explore.specs.Blocks.{PartIsCounted, block}
use Rattle.i3c_explore.specs.Parts.{BeginsIn, HasLine, IsOfPart, Part, block_part, busy, fork, whole}
use Rattle.i3c_explore.proofs.Opening.{whole_has}

-- each course is of the whole
begins_in_whole : (split : ℕ) (course : List (List Turn)) → BeginsIn whole split course
begins_in_whole split [] = tt
begins_in_whole split (order ∷ before) = (begins_in_whole split before, λ at. whole_has order)

pub of_whole : {L : Type 0} (blocks : List (Vec (Vec L))) (course : List (List Turn)) → IsOfPart whole blocks course
of_whole blocks course = (begins_in_whole (fork blocks) course, λ none. refl)

-- where no block is parted, a part behind the first has no course
pub none_counted : {S L : Type 0} (steps : S → L → ℕ → S → Type 0) (part : Part) (blocks : List (Vec (Vec L))) (start : S) (ends : List (Node S)) (total : Option ℕ) → fork blocks ≡ length blocks → (part.index ≡ 0 → ⊥)
    → length ends ≡ 0 → total ≡ Some 0 → PartIsCounted steps part blocks start ends total
none_counted {S} steps part blocks start ends total none later empty zero_ = record {
  share = λ k. [];
  shared = record {
    number = λ k n found. absurd (let lt = slice_get_within ends k n found in omega arith);
    distinct = λ k. tt;
    apart = λ i j o (k, lt, is). absurd (omega arith);
    within = λ k o (i, lt, is). absurd (omega arith);
  };
  led = λ k h (i, lt, is). absurd (omega arith);
  all = [];
  distinct = tt;
  each = λ h is (_, first). absurd (later (first none));
  only = λ h (i, lt, is). absurd (omega arith);
  placed = λ h (i, lt, is). absurd (omega arith);
  number = subst (λ (o : Option ℕ). IsNumber o 0) (sym zero_) refl;
}

-- a block that is parted has a line
busy_line : {L : Type 0} (tracks : List (Vec L)) → 0 < busy tracks → HasLine tracks
busy_line [] some = absurd (omega arith)
busy_line (track ∷ rest) some = elim (leb_tells 1 (length track.items)) [
  | inl (_, line) ↦ (0, line)
  | inr (_, none) ↦ (let (t, lt) = busy_line rest (omega arith) in (suc t, lt))
]

pub fork_line : {L : Type 0} (blocks : List (Vec (Vec L))) → fork blocks < length blocks → HasLine (block blocks (fork blocks))
fork_line [] lt = absurd (omega arith)
fork_line {L} (tracks ∷ rest) lt = elim (leb_tells 2 (busy tracks.items)) [
  | inl (is, two) ↦ (
      let here : fork (tracks ∷ rest) ≡ 0 = ap (λ (b : Bool). if b then 0 else suc (fork rest)) is in
      subst (λ (k : ℕ). HasLine (block (tracks ∷ rest) k)) (sym here) (busy_line tracks.items (omega arith))
      )
  | inr (is, fewer) ↦ (
      let here : fork (tracks ∷ rest) ≡ suc (fork rest) = ap (λ (b : Bool). if b then 0 else suc (fork rest)) is in
      subst (λ (k : ℕ). HasLine (block (tracks ∷ rest) k)) (sym here) (fork_line rest (omega arith))
      )
]

pub block_ready : {L : Type 0} (part : Part) (blocks : List (Vec (Vec L))) (index : ℕ) (tracks : List (Vec L)) → tracks ≡ block blocks index → index < length blocks
    → (block_part part (fork blocks) index ≡ whole) ⊎ HasLine tracks
block_ready {L} part blocks index tracks is lt = elim (eqb_tells index (fork blocks)) [
  | inl (_, same) ↦ inr (
      let line : HasLine (block blocks (fork blocks)) = fork_line blocks (omega arith) in
      subst (λ (t : List (Vec L)). HasLine t) (sym is) (subst (λ (k : ℕ). HasLine (block blocks k)) (sym same) line)
      )
  | inr (is_not, _) ↦ inl (ap (λ (b : Bool). if b then part else whole) is_not)
]
