-- The lines of a script as they are read one after another.
use Rattle.std.proofs.Common.{◌≡◌, ◌≢◌, ◌≤◌, ◌∙◌, ℕ, zero, suc, ◌+◌, ◌-◌, List, [], ◌∷◌, ◌++◌, length, take, drop, arith, slice_get, Option, Some, IfSome, ap, append_assoc, append-nil, length-append, refl, subst, sym}
use Rattle.std.proofs.lemmas.List.{length-drop, length-take, take-append-drop, take-take, take_all}
use Rattle.std.proofs.lemmas.List.Elements.{All-tail}
use Rattle.std.specs.Io.KnownBytes.{IsAtEnd}
use Rattle.i3c_streams.specs.declared.reading.Piece.{Piece}
use Rattle.i3c_streams.specs.declared.script_lines.Reading.{Reading}
use Rattle.i3c_streams.specs.declared.script_lines.ScriptLines.{ScriptLines}
use Rattle.i3c_streams.specs.Lines.{IsGivenOut, IsReadAs, IsReadFrom, given}
use Rattle.i3c_streams.specs.Outcomes.{HasNoFeed}
use Rattle.i3c_streams.specs.Reading.{IsPiece}
use Rattle.i3c_streams.proofs.Written.{take_more}
use Rattle.i3c_streams.proofs.BytesRead.{all_read, ended_is, more_read, script_is, unread}

-- a piece for which there is no room
pub read_beyond : (known now next : Option (List ℕ)) (left count : ℕ) (chunk bytes : List ℕ) → IsReadAs Reading.Open known now bytes → IsPiece now next left chunk (Piece.Beyond count) → left ≡ 1048576 - length bytes
    → IsReadAs Reading.TooLarge known next (bytes ++ take count chunk)
read_beyond known now next left count chunk bytes is piece room =
    let (n, larger, fits, consumed) = piece.3 in
    let more = drop count (take n chunk) in
    let within : count ≤ n = omega (arith, piece.0, larger) in
    let all : take n chunk ≡ take count chunk ++ more = sym (take-append-drop count (take n chunk)) ∙ ap (λ b. b ++ more) (take-take count n chunk within) in
    let split : (bytes ++ take count chunk) ++ more ≡ bytes ++ take n chunk = append_assoc bytes (take count chunk) more ∙ ap (λ b. bytes ++ b) (sym all) in (
      more,
      more_read known now next bytes (take n chunk) ((bytes ++ take count chunk) ++ more) is.0 consumed split,
      omega (arith, ap length split, length-append bytes (take n chunk), length-take n chunk, larger, fits, room, is.1),
    )

-- the bytes up to a feed, and the feed
take_feed : (bytes : List ℕ) (end : ℕ) → slice_get bytes end ≡ Some 10 → take (suc end) bytes ≡ take end bytes ++ 10 ∷ []
take_feed [] end e = absurd cc
take_feed (byte ∷ bytes) zero e = let feed : byte ≡ 10 = cc in ap (λ b. b ∷ []) feed
take_feed (byte ∷ bytes) (suc end) e = ap (λ b. byte ∷ b) (take_feed bytes end e)

whole_rest : (next : ℕ) (bytes : List ℕ) → take (length bytes - next) (drop next bytes) ≡ drop next bytes
whole_rest next bytes = take_all (length bytes - next) (drop next bytes) (omega (arith, length-drop next bytes))

-- the next line, which ends `end` bytes later
pub gives : (next end : ℕ) (bytes : List ℕ) → slice_get (take (length bytes - next) (drop next bytes)) end ≡ Some 10 → HasNoFeed (take end (take (length bytes - next) (drop next bytes)))
    → HasNoFeed (take (next + end - next) (drop next bytes)) × (take (next + end + 1) bytes ≡ take next bytes ++ (take (next + end - next) (drop next bytes) ++ 10 ∷ []))
gives next end bytes feed none =
    let rest = drop next bytes in
    let whole = whole_rest next bytes in
    let same : end ≡ next + end - next = omega arith in
    let more : next + suc end ≡ next + end + 1 = omega arith in
    let line : take end rest ≡ take (next + end - next) rest = ap (λ n. take n rest) same in
    let here : slice_get rest end ≡ Some 10 = subst (λ b. slice_get b end ≡ Some 10) whole feed in (
      subst HasNoFeed line (subst (λ b. HasNoFeed (take end b)) whole none),
      ap (λ n. take n bytes) (sym more) ∙ sym (take_more next (suc end) bytes) ∙ ap (λ b. take next bytes ++ b) (take_feed rest end here ∙ ap (λ b. b ++ 10 ∷ []) line),
    )

ends_in_feed : (read : List ℕ) → HasNoFeed (read ++ 10 ∷ []) → ⊥
ends_in_feed [] none = none 0 0 (omega arith) refl
ends_in_feed (byte ∷ read) none = ends_in_feed read (All-tail (λ (b : ℕ). b ≢ 10) byte (read ++ 10 ∷ []) none)

nothing_behind : (front rest : List ℕ) → front ++ rest ≡ [] → rest ≡ []
nothing_behind [] rest e = e
nothing_behind (byte ∷ front) rest e = absurd cc

-- what ends in a feed has nothing behind its last feed
last_feed : (front read rest : List ℕ) → front ++ rest ≡ read ++ 10 ∷ [] → HasNoFeed rest → rest ≡ []
last_feed [] read rest e none = absurd (ends_in_feed read (subst HasNoFeed e none))
last_feed (x ∷ front) [] rest e none = nothing_behind front rest (cc)
last_feed (x ∷ front) (y ∷ read) rest e none = last_feed front read rest (cc) none

-- a script whose lines were all given
pub all_given : (known left : Option (List ℕ)) (lines : ScriptLines) → IsReadFrom known left lines → IsGivenOut lines
    → IfSome known (λ script. given lines ≡ script ++ 10 ∷ []) × IsAtEnd left × IfSome known (λ script. length script ≤ 1048576)
all_given known left lines is out =
    let (read, consumed, end, few, bytes) = subst (λ r. IsReadAs r known left lines.bytes.items) out.0 is in
    let front = given lines in
    let rest = drop lines.next lines.bytes.items in
    let whole : front ++ rest ≡ lines.bytes.items = take-append-drop lines.next lines.bytes.items in
    let none : rest ≡ [] = last_feed front read rest (whole ∙ bytes) out.1 in
    let same : read ++ 10 ∷ [] ≡ front = sym bytes ∙ sym whole ∙ ap (λ b. front ++ b) none ∙ append-nil front in
    (ended_is known left read front consumed end same, end, all_read known left read (λ script. length script ≤ 1048576) consumed end few)

unread_by : (reading : Reading) (known left : Option (List ℕ)) (bytes front rest : List ℕ) → IsReadAs reading known left bytes → bytes ≡ front ++ rest → (more : List ℕ) × IfSome known (λ script. front ++ more ≡ script ++ 10 ∷ [])
unread_by Reading.Open known left bytes front rest is same = (rest ++ (unread left ++ 10 ∷ []), script_is known left bytes front rest is.0 same)
unread_by Reading.Ended known left bytes front rest (read, consumed, end, few, all) same = (rest, ended_is known left read (front ++ rest) consumed end (sym all ∙ same))
unread_by Reading.TooLarge known left bytes front rest (more, consumed, large) same =
    ((rest ++ more) ++ (unread left ++ 10 ∷ []), script_is known left (bytes ++ more) front (rest ++ more) consumed (ap (λ b. b ++ more) same ∙ append_assoc front rest more))

-- the lines that were given are the first ones of the script
pub first_given : (known left : Option (List ℕ)) (lines : ScriptLines) → IsReadFrom known left lines → (more : List ℕ) × IfSome known (λ script. given lines ++ more ≡ script ++ 10 ∷ [])
first_given known left lines is =
    unread_by lines.reading known left lines.bytes.items (given lines) (drop lines.next lines.bytes.items) is (sym (take-append-drop lines.next lines.bytes.items))
