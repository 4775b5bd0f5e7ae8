-- The lines of an input, answered one after another.
use Rattle.std.proofs.Common.{◌≡◌, ◌≢◌, ◌∙◌, ℕ, suc, ◌+◌, List, [], ◌∷◌, ◌++◌, length, take, arith, Option, Some, None, IfSome, Result, Ok, Err, ap, append_assoc, append-nil, inl, inr, refl, subst, sym}
use Rattle.std.proofs.lemmas.List.Elements.{All-tail}
use Rattle.std.specs.Io.KnownBytes.{Appends, Consumes, IsAtEnd}
use Rattle.i3c_drive.specs.declared.input.Input.{Input}
use Rattle.i3c_drive.specs.Inputs.{IsInHand, Takes, pending}
use Rattle.i3c_drive.specs.Serving.{AreLinesOf, AreServed, IsTold, LacksFeed, Serves, ServesLine, ServesPart, ServesWhole, WentBefore, bytes_of_lines}
use Rattle.i3c_lines.specs.Gathering.{gathered}
use Rattle.i3c_streams.specs.declared.faults.ScriptFault.{ScriptFault}
use Rattle.i3c_streams.specs.Outcomes.{HasNoFeed}
use Rattle.i3c_streams.proofs.BytesRead.{ended_is, more_read, none_read, script_is, unread}
use Rattle.i3c_streams.proofs.Written.{appends_both}
use Rattle.i3c_runner.proofs.CheckRuns.{some_out}
use Rattle.i3c_runner.proofs.Gathered.{nothing_out, some_after}

length_more : (lines : List (List ℕ)) (line : List ℕ) → length (lines ++ line ∷ []) ≡ length lines + 1
length_more [] line = omega arith
length_more (one ∷ lines) line = omega (arith, length_more lines line)

-- the bytes of the lines with one more
bytes_more : (lines : List (List ℕ)) (line : List ℕ) → bytes_of_lines (lines ++ line ∷ []) ≡ bytes_of_lines lines ++ (line ++ 10 ∷ [])
bytes_more [] line = refl
bytes_more (one ∷ lines) line = ap (λ bytes. one ++ 10 ∷ bytes) (bytes_more lines line) ∙ sym (append_assoc one (10 ∷ bytes_of_lines lines) (line ++ 10 ∷ []))

-- the same with what comes behind them
bytes_then : (lines : List (List ℕ)) (line rest : List ℕ) → bytes_of_lines (lines ++ line ∷ []) ++ rest ≡ bytes_of_lines lines ++ (line ++ (10 ∷ rest))
bytes_then lines line rest =
    ap (λ bytes. bytes ++ rest) (bytes_more lines line) ∙ append_assoc (bytes_of_lines lines) (line ++ 10 ∷ []) rest ∙ ap (λ bytes. bytes_of_lines lines ++ bytes) (append_assoc line (10 ∷ []) rest)

-- what was read, where a text more was taken of it
taken_read : (known now next : Option (List ℕ)) (old new : Input) (before text : List ℕ) → Consumes known now (before ++ pending old) → Takes now next old new text → Consumes known next ((before ++ text) ++ pending new)
taken_read known now next old new before text one takes =
    more_read known now next (before ++ pending old) takes.read ((before ++ text) ++ pending new) one takes.consumed
    (append_assoc before text (pending new) ∙ ap (λ b. before ++ b) (sym takes.same) ∙ sym (append_assoc before (pending old) takes.read))

-- what was read to its end
ended_as : (known left : Option (List ℕ)) (read bytes : List ℕ) → Consumes known left read → IsAtEnd left → read ≡ bytes → IfSome known (λ input. bytes ≡ input)
ended_as None left read bytes consumed end same = tt
ended_as (Some xs) None read bytes consumed end same = absurd consumed
ended_as (Some xs) (Some ys) read bytes consumed end same = sym same ∙ sym (append-nil read) ∙ ap (λ b. read ++ b) (sym end) ∙ sym consumed

if_some : (P Q : List ℕ → Type 0) → (known : Option (List ℕ)) → ((input : List ℕ) → P input → Q input) → IfSome known P → IfSome known Q
if_some P Q None f h = tt
if_some P Q (Some input) f h = f input h

not_none : (byte : ℕ) (line : List ℕ) → byte ∷ line ≡ [] → ⊥
not_none byte line e = absurd cc

-- a text that isn't empty, and has no feed, ends in no feed
lacks_feed : (front line : List ℕ) → HasNoFeed line → line ≢ [] → LacksFeed (front ++ line)
lacks_feed front [] one some = absurd (some refl)
lacks_feed front (byte ∷ []) one some = (front, byte, refl, one 0 byte (omega arith))
lacks_feed front (byte ∷ (more ∷ line)) one some =
    let (head, last, same, is) = lacks_feed (front ++ byte ∷ []) (more ∷ line) (All-tail (λ (b : ℕ). b ≢ 10) byte (more ∷ line) one) (λ e. not_none more line e) in
    (head, last, sym (append_assoc front (byte ∷ []) (more ∷ line)) ∙ same, is)

went_whole : (fault : ScriptFault) (before after : Option (List ℕ)) (answers : List ℕ) → Appends before after answers → WentBefore fault before after answers
went_whole ScriptFault.Memory before after answers out = out
went_whole ScriptFault.Write before after answers out = some_out before after answers out
went_whole ScriptFault.Read before after answers out = out
went_whole ScriptFault.TooLarge before after answers out = out

-- the line that came with its feed, in the input
fed_first : (known now next : Option (List ℕ)) (input further : Input) (bytes line : List ℕ) → Consumes known now (bytes ++ pending input) → Takes now next input further (line ++ 10 ∷ [])
    → IfSome known (λ input. bytes ++ (line ++ (10 ∷ (pending further ++ (unread next ++ 10 ∷ [])))) ≡ input ++ 10 ∷ [])
fed_first known now next input further bytes line one takes =
    let read = taken_read known now next input further bytes (line ++ 10 ∷ []) one takes in
    let more = pending further ++ (unread next ++ 10 ∷ []) in
    let same : (bytes ++ (line ++ 10 ∷ [])) ++ more ≡ bytes ++ (line ++ (10 ∷ more)) = append_assoc bytes (line ++ 10 ∷ []) more ∙ ap (λ b. bytes ++ b) (append_assoc line (10 ∷ []) more) in
    if_some (λ input. (bytes ++ (line ++ 10 ∷ [])) ++ more ≡ input ++ 10 ∷ []) (λ input. bytes ++ (line ++ (10 ∷ more)) ≡ input ++ 10 ∷ []) known (λ input is. sym same ∙ is)
    (script_is known next ((bytes ++ (line ++ 10 ∷ [])) ++ pending further) (bytes ++ (line ++ 10 ∷ [])) (pending further) read refl)

-- the line that came without one
last_first : (known now next : Option (List ℕ)) (input further : Input) (bytes line : List ℕ) → Consumes known now (bytes ++ pending input) → Takes now next input further line → pending further ≡ [] → IsAtEnd next
    → IfSome known (λ input. bytes ++ (line ++ (10 ∷ [])) ≡ input ++ 10 ∷ [])
last_first known now next input further bytes line one takes none end =
    let read = taken_read known now next input further bytes line one takes in
    let same : ((bytes ++ line) ++ pending further) ++ 10 ∷ [] ≡ bytes ++ (line ++ 10 ∷ []) =
    ap (λ b. ((bytes ++ line) ++ b) ++ 10 ∷ []) none ∙ ap (λ b. b ++ 10 ∷ []) (append-nil (bytes ++ line)) ∙ append_assoc bytes line (10 ∷ []) in
    ended_is known next ((bytes ++ line) ++ pending further) (bytes ++ (line ++ 10 ∷ [])) read end same

-- the lines that were answered so far, the number of the next one, and the bytes that were read beside them
pub record ServedSoFar {A : Type 0} (answers : A → ℕ → List ℕ → List ℕ → A → Type 0) (known now before after : Option (List ℕ)) (input : Input) (old new : A) (at : ℕ) : Type 0 where
  pub lines : List (List ℕ)
  pub text : List ℕ
  pub served : AreServed answers 1 old lines new text
  pub number : at ≡ 1 + length lines
  pub out : Appends before after text
  pub read : Consumes known now (bytes_of_lines lines ++ pending input)

module _ {A : Type 0} (answers : A → ℕ → List ℕ → List ℕ → A → Type 0) where
  -- one more line is answered
  served_more : (lines : List (List ℕ)) (number at : ℕ) (old mid new : A) (line text answer : List ℕ) → at ≡ number + length lines → AreServed answers number old lines mid text → HasNoFeed line → answers mid at (take 257 line) answer new
      → AreServed answers number old (lines ++ line ∷ []) new (text ++ answer)
  served_more [] number at old mid new line text answer e (same, none) one is =
      let first : at ≡ number = omega (arith, e) in
      let here = subst (λ from. answers from number (take 257 line) answer new) same (subst (λ n. answers mid n (take 257 line) answer new) first is) in
      (one, (new, answer, [], here, ap (λ t. t ++ answer) none ∙ sym (append-nil answer), (refl, refl)))
  served_more (other ∷ lines) number at old mid new line text answer e (first, (next, before, later, told, same, are)) one is =
      let on : at ≡ suc number + length lines = omega (arith, e) in
      (first, (next, before, later ++ answer, told, ap (λ t. t ++ answer) same ∙ append_assoc before later answer, served_more lines (suc number) at next mid new line later answer on are one is))

  -- no line was answered
  pub none_served : (known out : Option (List ℕ)) (old : A) → ServesPart answers known out out old ScriptFault.Memory
  none_served known out old = record {
    lines = [];
    end = old;
    text = [];
    rest = unread known ++ 10 ∷ [];
    served = (refl, refl);
    first = script_is known known [] [] [] (none_read known [] refl) refl;
    out = nothing_out out;
  }

  module _ (known before : Option (List ℕ)) (old : A) where
    -- nothing was answered so far
    pub first_served : (input : Input) → pending input ≡ [] → ServedSoFar answers known known before before input old old 1
    first_served input none = record { lines = []; text = []; served = (refl, refl); number = refl; out = nothing_out before; read = none_read known (pending input) none }

    -- the line in hand is answered behind the others
    hand_served : (now mid : Option (List ℕ)) (input further : Input) (from to : A) (number : ℕ) (line answer : List ℕ) → (so_far : ServedSoFar answers known now before mid input old from number) → IsInHand further line → answers from number (gathered further.line) answer to
        → AreServed answers 1 old (so_far.lines ++ line ∷ []) to (so_far.text ++ answer)
    hand_served now mid input further from to number line answer so_far hand is =
        served_more so_far.lines 1 number old from to line so_far.text answer so_far.number so_far.served hand.0 (subst (λ l. answers from number l answer to) hand.1 is)

    -- a line that came with its feed was answered
    pub one_served : (now next mid after : Option (List ℕ)) (input further : Input) (from to : A) (number : ℕ) (line : List ℕ) → ServedSoFar answers known now before mid input old from number → IsInHand further line → Takes now next input further (line ++ 10 ∷ [])
        → IsTold answers number (gathered further.line) from to (Appends mid after) → ServedSoFar answers known next before after further old to (number + 1)
    one_served now next mid after input further from to number line so_far hand takes (answer, is, out) =
        let lines = so_far.lines in
        record {
          lines = lines ++ line ∷ [];
          text = so_far.text ++ answer;
          served = hand_served now mid input further from to number line answer so_far hand is;
          number = omega (arith, so_far.number, length_more lines line);
          out = appends_both before mid after so_far.text answer so_far.out out;
          read = subst (λ b. Consumes known next (b ++ pending further)) (sym (bytes_more lines line)) (taken_read known now next input further (bytes_of_lines lines) (line ++ 10 ∷ []) so_far.read takes);
        }

    -- the input ended behind a line feed
    pub all_served : (now next after : Option (List ℕ)) (input further : Input) (new : A) (number : ℕ) → ServedSoFar answers known now before after input old new number → Takes now next input further [] → pending further ≡ [] → IsAtEnd next → ServesWhole answers known before after old new
    all_served now next after input further new number so_far takes none end =
        let bytes = bytes_of_lines so_far.lines in
        let read = taken_read known now next input further bytes [] so_far.read takes in
        let same : (bytes ++ []) ++ pending further ≡ bytes = ap (λ b. (bytes ++ []) ++ b) none ∙ append-nil (bytes ++ []) ∙ append-nil bytes in
        record {
          lines = so_far.lines;
          text = so_far.text;
          served = so_far.served;
          all = if_some (λ input. bytes ≡ input) (λ input. AreLinesOf input so_far.lines) known (λ input is. inl is) (ended_as known next ((bytes ++ []) ++ pending further) bytes read end same);
          out = so_far.out;
        }

    -- the last line was answered, which has no feed
    last_served : (now next mid after : Option (List ℕ)) (input further : Input) (from to : A) (number : ℕ) (line : List ℕ)
        → ServedSoFar answers known now before mid input old from number → IsInHand further line → line ≢ [] → Takes now next input further line → pending further ≡ [] → IsAtEnd next → IsTold answers number (gathered further.line) from to (Appends mid after)
        → ServesWhole answers known before after old to
    last_served now next mid after input further from to number line so_far hand some takes none end (answer, is, out) =
        let lines = so_far.lines in
        let bytes = bytes_of_lines lines in
        let read = taken_read known now next input further bytes line so_far.read takes in
        let front : (bytes ++ line) ++ pending further ≡ bytes ++ line = ap (λ b. (bytes ++ line) ++ b) none ∙ append-nil (bytes ++ line) in
        let feed : bytes_of_lines (lines ++ line ∷ []) ≡ (bytes ++ line) ++ 10 ∷ [] = bytes_more lines line ∙ sym (append_assoc bytes line (10 ∷ [])) in
        record {
          lines = lines ++ line ∷ [];
          text = so_far.text ++ answer;
          served = hand_served now mid input further from to number line answer so_far hand is;
          all = if_some (λ input. bytes ++ line ≡ input) (λ input. AreLinesOf input (lines ++ line ∷ [])) known
              (λ input is. inr (subst LacksFeed is (lacks_feed bytes line hand.0 some), feed ∙ ap (λ b. b ++ 10 ∷ []) is))
              (ended_as known next ((bytes ++ line) ++ pending further) (bytes ++ line) read end front);
          out = appends_both before mid after so_far.text answer so_far.out out;
        }

    -- a fault before the next line
    pub serving_stops : (now after : Option (List ℕ)) (input : Input) (to : A) (number : ℕ) (fault : ScriptFault) → ServedSoFar answers known now before after input old to number → ServesPart answers known before after old fault
    serving_stops now after input to number fault so_far = record {
      lines = so_far.lines;
      end = to;
      text = so_far.text;
      rest = pending input ++ (unread now ++ 10 ∷ []);
      served = so_far.served;
      first = script_is known now (bytes_of_lines so_far.lines ++ pending input) (bytes_of_lines so_far.lines) (pending input) so_far.read refl;
      out = went_whole fault before after so_far.text so_far.out;
    }

    -- a fault at a line
    line_fails : (fault : ScriptFault) (now mid after : Option (List ℕ)) (input further : Input) (from to : A) (number : ℕ) (line rest : List ℕ)
        → (so_far : ServedSoFar answers known now before mid input old from number) → IsInHand further line → IfSome known (λ input. bytes_of_lines so_far.lines ++ (line ++ (10 ∷ rest)) ≡ input ++ 10 ∷ [])
        → ServesLine answers number (gathered further.line) mid after from to (Err fault) → ServesPart answers known before after old fault
    line_fails ScriptFault.Memory now mid after input further from to number line rest so_far hand first same =
        subst (λ out. ServesPart answers known before out old ScriptFault.Memory) (sym same) (serving_stops now mid input from number ScriptFault.Memory so_far)
    line_fails ScriptFault.Write now mid after input further from to number line rest so_far hand first (answer, is, out) =
        let lines = so_far.lines in
        let then_rest = bytes_then lines line rest in
        record {
          lines = lines ++ line ∷ [];
          end = to;
          text = so_far.text ++ answer;
          rest = rest;
          served = hand_served now mid input further from to number line answer so_far hand is;
          first = if_some (λ input. bytes_of_lines lines ++ (line ++ (10 ∷ rest)) ≡ input ++ 10 ∷ []) (λ input. bytes_of_lines (lines ++ line ∷ []) ++ rest ≡ input ++ 10 ∷ []) known (λ input is. then_rest ∙ is) first;
          out = some_after before mid after so_far.text answer so_far.out out;
        }
    line_fails ScriptFault.Read now mid after input further from to number line rest so_far hand first none = absurd none
    line_fails ScriptFault.TooLarge now mid after input further from to number line rest so_far hand first none = absurd none

    -- a fault at a line that came with its feed
    pub fed_fails : (fault : ScriptFault) (now next mid after : Option (List ℕ)) (input further : Input) (from to : A) (number : ℕ) (line : List ℕ) → ServedSoFar answers known now before mid input old from number → IsInHand further line → Takes now next input further (line ++ 10 ∷ [])
        → ServesLine answers number (gathered further.line) mid after from to (Err fault) → ServesPart answers known before after old fault
    fed_fails fault now next mid after input further from to number line so_far hand takes fails =
        line_fails fault now mid after input further from to number line (pending further ++ (unread next ++ 10 ∷ [])) so_far hand (fed_first known now next input further (bytes_of_lines so_far.lines) line so_far.read takes) fails

    -- the result of the last line is the result of the run
    pub last_serves : (now next mid after : Option (List ℕ)) (input further : Input) (from to : A) (number : ℕ) (line : List ℕ) (result : Result (Unit {0}) ScriptFault)
        → ServedSoFar answers known now before mid input old from number → IsInHand further line → line ≢ [] → Takes now next input further line → pending further ≡ [] → IsAtEnd next → ServesLine answers number (gathered further.line) mid after from to result
        → Serves answers known before after old to result
    last_serves now next mid after input further from to number line (Ok done) so_far hand some takes none end told = last_served now next mid after input further from to number line so_far hand some takes none end told
    last_serves now next mid after input further from to number line (Err fault) so_far hand some takes none end fails =
        line_fails fault now mid after input further from to number line [] so_far hand (last_first known now next input further (bytes_of_lines so_far.lines) line so_far.read takes none end) fails
