-- Letters of a word, and the space behind them, as they are read byte by byte.
use Rattle.std.specs.Prelude.{⊤}
use Rattle.std.proofs.Common.{◌≡◌, ◌⊎◌, ◌∙◌, ℕ, suc, ◌+◌, ◌<◌, ◌≤◌, ◌==◌, nat_lt, Bool, true, false, not, ◌&&◌, List, [], ◌∷◌, ◌++◌, length, get_or, take, drop, position, unwrap_or, Result, Ok, Err, ap, append_assoc, append-nil, arith, inl, inr, lt-ltb, ltb-false, ltb-true, ne_eqb, refl, subst, sym, if◌then◌else◌}
use Rattle.std.proofs.lemmas.List.{length-append, take-append-drop, take_all, take_more}
use Rattle.std.proofs.lemmas.List.Sums.{passes_at_first, prefix_len-le-length}
use Rattle.std.specs.List.{position_or_len}
use Rattle.i3c_wave.specs.declared.capture_fault.CaptureFault.{CaptureFault}
use Rattle.i3c_wave.specs.CaptureTexts.{Input, byte_read, bytes_read, goes_on, is_space, letters_in, letters_kept, part_read, parted, word_ended}
use Rattle.i3c_wave.proofs.CaptureLaws.{bytes_both}

-- none of the bytes is a space
abbrev pub AreLetters : List ℕ → Type 0
AreLetters [] = ⊤
AreLetters (byte ∷ rest) = (is_space byte ≡ false) × AreLetters rest

-- a text with a letter isn't empty
some_letters : (n : ℕ) (b : Bool) → (not (suc n == 0) && b) ≡ b
some_letters n b = ap (λ (none : Bool). not none && b) (ne_eqb (suc n) 0 (λ e. absurd (omega (arith, e))))

-- there is room for a letter and some more just where there is for these behind it
same_room : (word : List ℕ) (x : ℕ) (xs : List ℕ) → length word < 65536
    → (not (length xs == 0) && nat_lt 65536 (length (word ++ x ∷ []) + length xs)) ≡ (not (length (x ∷ xs) == 0) && nat_lt 65536 (length word + length (x ∷ xs)))
same_room word x [] room = sym (ltb-past 65536 (length word + 1) (omega (arith, room))) where
  ltb-past : (a b : ℕ) → b ≤ a → nat_lt a b ≡ false
  ltb-past a b le = grind (arith, le)
same_room word x (y ∷ ys) room =
    let long : length (word ++ x ∷ []) + length (y ∷ ys) ≡ length word + length (x ∷ y ∷ ys) = omega (arith, length-append word (x ∷ [])) in
    some_letters (length ys) (nat_lt 65536 (length (word ++ x ∷ []) + length (y ∷ ys))) ∙ ap (λ n. nat_lt 65536 n) long ∙ sym (some_letters (length (y ∷ ys)) (nat_lt 65536 (length word + length (x ∷ y ∷ ys))))

letters_more : (input : Input) (x : ℕ) (xs : List ℕ) → length input.word < 65536 → letters_kept (record input { word = input.word ++ x ∷ [] }) xs ≡ letters_kept input (x ∷ xs)
letters_more input x xs room =
    ap (λ (full : Bool). if full then Err (CaptureFault.BadWord input.reached.line) else Ok (record input { word = (input.word ++ x ∷ []) ++ xs })) (same_room input.word x xs room)
    ∙ ap (λ word. if not (length (x ∷ xs) == 0) && nat_lt 65536 (length input.word + length (x ∷ xs)) then Err (CaptureFault.BadWord input.reached.line) else Ok (record input { word = word })) (append_assoc input.word (x ∷ []) xs)

-- a letter, and those behind it
letter_on : (scl sda : List ℕ) (x : ℕ) (xs : List ℕ) (input : Input) (room : Bool) → nat_lt (length input.word) 65536 ≡ room → is_space x ≡ false
    → ((next : Input) → bytes_read scl sda next xs ≡ letters_kept next xs) → bytes_read scl sda input (x ∷ xs) ≡ letters_kept input (x ∷ xs)
letter_on scl sda x xs input true is letter more =
    let step : byte_read scl sda input x ≡ Ok (record input { word = input.word ++ x ∷ [] }) = rw (letter, is) refl in
    ap (λ step. goes_on step (λ next. bytes_read scl sda next xs)) step ∙ more (record input { word = input.word ++ x ∷ [] }) ∙ letters_more input x xs (ltb-true _ _ is)
letter_on scl sda x xs input false is letter more =
    let step : byte_read scl sda input x ≡ Err (CaptureFault.BadWord input.reached.line) = rw (letter, is) refl in
    let full : (not (length (x ∷ xs) == 0) && nat_lt 65536 (length input.word + length (x ∷ xs))) ≡ true = some_letters (length xs) (nat_lt 65536 (length input.word + length (x ∷ xs))) ∙ lt-ltb _ _ (omega (arith, ltb-false _ _ is)) in
    ap (λ step. goes_on step (λ next. bytes_read scl sda next xs)) step ∙ sym (ap (λ (full : Bool). if full then Err (CaptureFault.BadWord input.reached.line) else Ok (record input { word = input.word ++ (x ∷ xs) })) full)

-- letters are kept as they are read byte by byte
pub letters_read : (scl sda letters : List ℕ) (input : Input) → AreLetters letters → bytes_read scl sda input letters ≡ letters_kept input letters
letters_read scl sda [] input are = ap (λ word. Ok (record input { word = word })) (sym (append-nil input.word))
letters_read scl sda (x ∷ xs) input are = letter_on scl sda x xs input (nat_lt (length input.word) 65536) refl are.0 (λ next. letters_read scl sda xs next are.1)

-- a space, behind letters that were kept
behind_letters : (scl sda : List ℕ) (space : ℕ) (rest : List ℕ) (kept : Result Input CaptureFault) → is_space space ≡ true
    → goes_on kept (λ last. bytes_read scl sda last (space ∷ rest)) ≡ goes_on (parted space (goes_on kept (word_ended scl sda))) (λ next. bytes_read scl sda next rest)
behind_letters scl sda space rest (Ok last) is =
    let step : byte_read scl sda last space ≡ parted space (word_ended scl sda last) = rw is refl in
    ap (λ step. goes_on step (λ next. bytes_read scl sda next rest)) step
behind_letters scl sda space rest (Err fault) is = refl

-- letters, a space behind them, and the rest
pub part_on : (scl sda letters : List ℕ) (space : ℕ) (rest : List ℕ) (input : Input) → AreLetters letters → is_space space ≡ true
    → bytes_read scl sda input (letters ++ space ∷ rest) ≡ goes_on (part_read scl sda input letters space) (λ next. bytes_read scl sda next rest)
part_on scl sda letters space rest input are is =
    bytes_both scl sda letters (space ∷ rest) input ∙ ap (λ kept. goes_on kept (λ last. bytes_read scl sda last (space ∷ rest))) (letters_read scl sda letters input are)
    ∙ behind_letters scl sda space rest (letters_kept input letters) is

-- the first place, or the length if there is none
position_is : (p : ℕ → Bool) (text : List ℕ) → unwrap_or (position p text) (length text) ≡ position_or_len p text
position_is p text = go (nat_lt (position_or_len p text) (length text)) refl where
  go : (b : Bool) → nat_lt (position_or_len p text) (length text) ≡ b → unwrap_or (position p text) (length text) ≡ position_or_len p text
  go true within = rw within
  go false past = rw past (omega (arith, prefix_len-le-length (λ x. not (p x)) text, ltb-false _ _ past))

-- one letter more
letter_first : (x : ℕ) (text : List ℕ) (space : Bool) → is_space x ≡ space → AreLetters (take (position_or_len is_space text) text) → AreLetters (take (position_or_len is_space (x ∷ text)) (x ∷ text))
letter_first x text true is more = rw is tt
letter_first x text false is more =
    let next : 1 + position_or_len is_space text ≡ suc (position_or_len is_space text) = omega arith in
    rw is (subst (λ n. AreLetters (take n (x ∷ text))) (sym next) (is, more))

-- the bytes before the first space are letters
letters_first : (text : List ℕ) → AreLetters (take (position_or_len is_space text) text)
letters_first [] = tt
letters_first (x ∷ text) = letter_first x text (is_space x) refl (letters_first text)

-- the letters at the front of a text, the space behind them, and the rest
pub front_read : (scl sda text : List ℕ) (count : ℕ) (input : Input) → count ≡ letters_in text → count < length text
    → bytes_read scl sda input text ≡ goes_on (part_read scl sda input (take count text) (get_or text count 0)) (λ next. bytes_read scl sda next (drop (count + 1) text))
front_read scl sda text count input is within =
    let place : count ≡ position_or_len is_space text = is ∙ position_is is_space text in
    let letters : AreLetters (take count text) = subst (λ n. AreLetters (take n text)) (sym place) (letters_first text) in
    let space : is_space (get_or text count 0) ≡ true = subst (λ n. is_space (get_or text n 0) ≡ true) (sym place) (passes_at_first is_space text 0 (subst (λ n. n < length text) place within)) in
    let parts : text ≡ take count text ++ get_or text count 0 ∷ drop (count + 1) text =
    sym (take-append-drop (count + 1) text) ∙ ap (λ front. front ++ drop (count + 1) text) (take_more text count 0 within) ∙ append_assoc (take count text) (get_or text count 0 ∷ []) (drop (count + 1) text) in
    ap (bytes_read scl sda input) parts ∙ part_on scl sda (take count text) (get_or text count 0) (drop (count + 1) text) input letters space

-- a text without a space
pub open_read : (scl sda text : List ℕ) (count : ℕ) (input : Input) → count ≡ letters_in text → length text ≤ count → bytes_read scl sda input text ≡ letters_kept input text
open_read scl sda text count input is past =
    let place : count ≡ position_or_len is_space text = is ∙ position_is is_space text in
    letters_read scl sda text input (subst AreLetters (take_all count text past) (subst (λ n. AreLetters (take n text)) (sym place) (letters_first text)))

-- a call that reads the first part, where the whole gives this fault
pub part_fault : (scl sda text : List ℕ) (part : Result Input CaptureFault) (fault : CaptureFault) (outcome : Result Input CaptureFault) (rest : List ℕ) → outcome ≡ goes_on part (λ next. bytes_read scl sda next rest)
    → (fault ≡ CaptureFault.Memory) ⊎ (part ≡ Err fault) → (fault ≡ CaptureFault.Memory) ⊎ (outcome ≡ Err fault)
part_fault scl sda text part fault outcome rest is (inl memory) = inl memory
part_fault scl sda text part fault outcome rest is (inr told) = inr (is ∙ ap (λ step. goes_on step (λ next. bytes_read scl sda next rest)) told)
