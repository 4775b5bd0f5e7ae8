-- The lines of an input, piece by piece.
use Rattle.std.proofs.Common.{true, ◌≡◌, ◌≢◌, ◌<◌, ◌≤◌, ◌∙◌, ℕ, ◌+◌, ◌-◌, List, [], ◌∷◌, ◌++◌, length, take, drop, arith, slice_get, Option, Some, ap, append_assoc, append-nil, refl, subst, sym}
use Rattle.std.proofs.lemmas.List.{drop-drop, drop-take, length-drop, length-take, take_all}
use Rattle.std.specs.Io.KnownBytes.{Consumes, IsAtEnd}
use Rattle.i3c_drive.specs.declared.input.Input.{Input}
use Rattle.i3c_drive.specs.Inputs.{EndsFront, HasFront, IsInHand, Takes, pending}
use Rattle.i3c_lines.specs.Gathering.{gathered}
use Rattle.i3c_streams.specs.Outcomes.{HasNoFeed}
use Rattle.i3c_streams.proofs.BytesRead.{more_read, none_read}
use Rattle.i3c_runner.proofs.ScriptRuns.{first_line, no_feed_in_both, no_feed_in_none, take_both}

-- what is left of a piece behind the first feed
pub left_behind : (piece : List ℕ) (next end at : ℕ) → next ≤ end → end ≤ length piece
    → at < length (take (end - next) (drop next piece)) → slice_get (take (end - next) (drop next piece)) at ≡ Some 10
    → take (end - next) (drop next piece) ≡ take at (take (end - next) (drop next piece)) ++ 10 ∷ take (end - (next + (at + 1))) (drop (next + (at + 1)) piece)
left_behind piece next end at ordered within inside feed =
    let rest = drop next piece in
    let left = take (end - next) rest in
    let count = end - (next + (at + 1)) in
    let long : length left ≡ end - next = omega (arith, length-take (end - next) rest, length-drop next piece, ordered, within) in
    let size : end - next ≡ at + 1 + count = omega (arith, long, inside, ordered) in
    let many : length left - (at + 1) ≡ count = omega (arith, long, size) in
    let behind : drop (at + 1) left ≡ take count (drop (next + (at + 1)) piece) =
    ap (λ n. drop (at + 1) (take n rest)) size ∙ drop-take (at + 1) count rest ∙ ap (take count) (drop-drop (at + 1) next piece) in
    let few : length (take count (drop (next + (at + 1)) piece)) ≤ count = omega (arith, length-take count (drop (next + (at + 1)) piece)) in
    first_line left at inside feed
    ∙ append_assoc (take at left) (10 ∷ []) (take (length left - (at + 1)) (drop (at + 1) left))
    ∙ ap (λ b. take at left ++ 10 ∷ b) (ap (λ n. take n (drop (at + 1) left)) many ∙ ap (take count) behind ∙ take_all count (take count (drop (next + (at + 1)) piece)) few)

-- part of the next line came
pub record HasBegun (left now : Option (List ℕ)) (old new : Input) : Type 0 where
  pub begun : List ℕ
  pub one : HasNoFeed begun
  pub line : gathered new.line ≡ take 257 begun
  pub takes : Takes left now old new begun

pub nothing_begun : (left : Option (List ℕ)) (old new : Input) → pending new ≡ pending old → gathered new.line ≡ [] → HasBegun left left old new
nothing_begun left old new same line = record {
  begun = [];
  one = no_feed_in_none;
  line = line;
  takes = record { read = []; consumed = none_read left [] refl; same = append-nil (pending old) ∙ sym same };
}

-- what was pending is put behind
pub front_put : (left now : Option (List ℕ)) (old mid new : Input) → HasBegun left now old mid → HasNoFeed (pending mid) → pending new ≡ [] → gathered new.line ≡ take 257 (gathered mid.line ++ pending mid) → HasBegun left now old new
front_put left now old mid new so_far one none line = record {
  begun = so_far.begun ++ pending mid;
  one = no_feed_in_both so_far.begun (pending mid) so_far.one one;
  line = line ∙ ap (λ l. take 257 (l ++ pending mid)) so_far.line ∙ take_both 257 so_far.begun (pending mid);
  takes = record {
    read = so_far.takes.read;
    consumed = so_far.takes.consumed;
    same = so_far.takes.same ∙ sym (append-nil (so_far.begun ++ pending mid)) ∙ ap (λ b. (so_far.begun ++ pending mid) ++ b) (sym none);
  };
}

-- a piece more was read
pub piece_read : (left now next : Option (List ℕ)) (old mid new : Input) → HasBegun left now old mid → pending mid ≡ [] → Consumes now next (pending new) → new.line ≡ mid.line → HasBegun left next old new
piece_read left now next old mid new so_far none consumed line =
    let begun = so_far.begun in
    let read = so_far.takes.read in
    let all : pending old ++ read ≡ begun = so_far.takes.same ∙ ap (λ b. begun ++ b) none ∙ append-nil begun in
    record {
      begun = begun;
      one = so_far.one;
      line = ap gathered line ∙ so_far.line;
      takes = record {
        read = read ++ pending new;
        consumed = more_read left now next read (pending new) (read ++ pending new) so_far.takes.consumed consumed refl;
        same = sym (append_assoc (pending old) read (pending new)) ∙ ap (λ b. b ++ pending new) all;
      };
    }

-- the line in hand reached its feed
pub line_came : (left now : Option (List ℕ)) (old mid new : Input) → HasBegun left now old mid → EndsFront mid new true → (line : List ℕ) × IsInHand new line × Takes left now old new (line ++ 10 ∷ [])
line_came left now old mid new so_far (front, one, same, line) =
    let begun = so_far.begun in
    let whole = begun ++ front in (
      whole,
      (no_feed_in_both begun front so_far.one one, line ∙ ap (λ l. take 257 (l ++ front)) so_far.line ∙ take_both 257 begun front),
      record {
        read = so_far.takes.read;
        consumed = so_far.takes.consumed;
        same = so_far.takes.same ∙ ap (λ b. begun ++ b) same ∙ sym (append_assoc begun front (10 ∷ pending new)) ∙ sym (append_assoc whole (10 ∷ []) (pending new));
      },
    )

-- the input ended
pub input_ends : (left now next : Option (List ℕ)) (old mid new : Input) → HasBegun left now old mid → pending mid ≡ [] → Consumes now next [] → new.line ≡ mid.line → pending new ≡ [] → HasBegun left next old new
input_ends left now next old mid new so_far none consumed line empty = piece_read left now next old mid new so_far none (subst (Consumes now next) (sym empty) consumed) line

not_none : (n : ℕ) (line : List ℕ) → line ≡ [] → length (take n line) ≡ 0
not_none n line e = omega (arith, length-take n line, ap length e)

-- the last line, which has no feed
pub last_came : (left now : Option (List ℕ)) (old new : Input) → HasBegun left now old new → 0 < length (gathered new.line) → pending new ≡ [] → IsAtEnd now
    → (line : List ℕ) × IsInHand new line × (line ≢ []) × Takes left now old new line × (pending new ≡ []) × IsAtEnd now
last_came left now old new so_far some none end =
    (so_far.begun, (so_far.one, so_far.line), (λ e. absurd (omega (arith, some, ap length so_far.line, not_none 257 so_far.begun e))), so_far.takes, none, end)

-- the reader failed
pub front_came : (left now : Option (List ℕ)) (old new : Input) → HasBegun left now old new → HasFront left now old new
front_came left now old new so_far = (so_far.begun, so_far.one, so_far.takes)
