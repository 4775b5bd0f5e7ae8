-- The text of a value has no control byte.
use Rattle.std.proofs.Common.{◌≡◌, ◌≤◌, ℕ, zero, suc, ◌+◌, ◌/◌, ◌%◌, ◌==◌, nat_lt, Bool, true, false, ◌||◌, cond, List, [], ◌∷◌, ◌++◌, pos, negsuc, decimal, Some, ap, arith, refl, subst}
use Rattle.std.specs.Char.{digit_char}
use Rattle.std.specs.Fmt.{digit_glyph, digits, digits_onto}
use Rattle.std.specs.List.{AllByRecursion}
use Rattle.std.proofs.lemmas.List.Elements.{All-cons}
use Rattle.json.specs.Print.{escape, escape_byte, escape_letter, quoted, token_text}
use Rattle.json.specs.Token.{Token}
use Rattle.serde_json.specs.Data.{Num, unsigned, negative, float, Data, null, boolean, number, string, array, object, Items, no_items, item, Members, no_members, member, depth}
use Rattle.serde_json.specs.Read.{read}
use Rattle.serde_json.specs.Written.{comma_if, has_float, compact_text, items_text, members_text, number_text}
use Rattle.i3c_json.specs.Objects.{HasNoControl, IsLineOf}

-- the same, byte by byte
abbrev Prints : List ℕ → Type 0
Prints text = AllByRecursion (λ byte. 32 ≤ byte) text

whole : (text : List ℕ) → Prints text → HasNoControl text
whole [] are = λ k d less. absurd (omega (arith, less))
whole (byte ∷ text) are = All-cons (λ byte. 32 ≤ byte) byte text are.0 (whole text are.1)

both : (first other : List ℕ) → Prints first → Prints other → Prints (first ++ other)
both [] other one two = two
both (byte ∷ first) other one two = (one.0, both first other one.1 two)

picked : (Q : List ℕ → Type 0) (b : Bool) (xs ys : List ℕ) → (b ≡ true → Q xs) → (b ≡ false → Q ys) → Q (cond b xs ys)
picked Q true xs ys first other = first refl
picked Q false xs ys first other = other refl

one_of : (Q : ℕ → Type 0) (b : Bool) (x y : ℕ) → (b ≡ true → Q x) → (b ≡ false → Q y) → Q (cond b x y)
one_of Q true x y first other = first refl
one_of Q false x y first other = other refl

glyph : (d : ℕ) → 32 ≤ digit_glyph false d
glyph d = one_of (λ byte. 32 ≤ byte) (nat_lt d 10) (48 + d) (87 + d) (λ _. omega arith) (λ _. omega arith)

digits_print : (k n : ℕ) (text : List ℕ) → Prints text → Prints (digits_onto k 10 false n text)
digits_print zero n text are = are
digits_print (suc k) n text are =
    let d = digit_glyph false (n % 10) in
    let longer : Prints (d ∷ text) = (glyph (n % 10), are) in
    picked Prints (n / 10 == 0) (d ∷ text) (digits_onto k 10 false (n / 10) (d ∷ text)) (λ _. longer) (λ _. digits_print k (n / 10) (d ∷ text) longer)

decimal_prints : (n : ℕ) → Prints (decimal n)
unfolding digits
decimal_prints n = digits_print 64 n [] tt

number_prints : (n : Num) → Prints (number_text n)
number_prints (unsigned n) = decimal_prints n
number_prints (negative (pos n)) = decimal_prints n
number_prints (negative (negsuc n)) = (omega arith, decimal_prints (suc n))
number_prints (float x) = tt

abbrev IsLetter : ℕ → Type 0
IsLetter n = nat_lt 0 n ≡ true → 32 ≤ n

-- the letter of a short escape
letter : (x : ℕ) → IsLetter (escape_letter x)
letter x =
    one_of IsLetter ((x == 34) || (x == 92)) x _ (λ e _. grind (arith, e))
    (λ _. one_of IsLetter (x == 8) 98 _ (λ _ _. omega arith)
    (λ _. one_of IsLetter (x == 12) 102 _ (λ _ _. omega arith)
    (λ _. one_of IsLetter (x == 10) 110 _ (λ _ _. omega arith)
    (λ _. one_of IsLetter (x == 13) 114 _ (λ _ _. omega arith)
    (λ _. one_of IsLetter (x == 9) 116 0 (λ _ _. omega arith) (λ _ e. grind (arith, e)))))))

hex_glyph : (d : ℕ) → 32 ≤ digit_char d
hex_glyph d = one_of (λ byte. 32 ≤ byte) (nat_lt d 10) (48 + d) (87 + d) (λ _. omega arith) (λ _. omega arith)

byte_prints : (x : ℕ) → Prints (escape_byte x)
unfolding escape_byte
byte_prints x =
    picked Prints (nat_lt 0 (escape_letter x)) (92 ∷ escape_letter x ∷ []) _ (λ e. (omega arith, (letter x e, tt)))
    (λ _. picked Prints (nat_lt x 32) (92 ∷ 117 ∷ 48 ∷ 48 ∷ digit_char (x / 16) ∷ digit_char (x % 16) ∷ []) (x ∷ [])
    (λ _. (omega arith, (omega arith, (omega arith, (omega arith, (hex_glyph (x / 16), (hex_glyph (x % 16), tt)))))))
    (λ e. (grind (arith, e), tt)))

escape_prints : (text : List ℕ) → Prints (escape text)
escape_prints [] = tt
escape_prints (x ∷ text) = both (escape_byte x) (escape text) (byte_prints x) (escape_prints text)

quoted_prints : (text : List ℕ) → Prints (quoted text)
quoted_prints text = (omega arith, both (escape text) (34 ∷ []) (escape_prints text) (omega arith, tt))

boolean_prints : (b : Bool) → Prints (token_text (Token.boolean b))
boolean_prints true = (omega arith, (omega arith, (omega arith, (omega arith, tt))))
boolean_prints false = (omega arith, (omega arith, (omega arith, (omega arith, (omega arith, tt)))))

comma_prints : (later : Bool) → Prints (comma_if later)
comma_prints true = (omega arith, tt)
comma_prints false = tt

mutual
  text_prints : (d : Data) → Prints (compact_text d)
  text_prints null = (omega arith, (omega arith, (omega arith, (omega arith, tt))))
  text_prints (boolean b) = boolean_prints b
  text_prints (number n) = number_prints n
  text_prints (string s) = quoted_prints s
  text_prints (array ds) = (omega arith, items_print false ds)
  text_prints (object ms) = (omega arith, members_print false ms)

  items_print : (later : Bool) (ds : Items) → Prints (items_text later ds)
  items_print later no_items = (omega arith, tt)
  items_print later (item d ds) = both (comma_if later) (compact_text d ++ items_text true ds) (comma_prints later) (both (compact_text d) (items_text true ds) (text_prints d) (items_print true ds))

  members_print : (later : Bool) (ms : Members) → Prints (members_text later ms)
  members_print later no_members = (omega arith, tt)
  members_print later (member k d ms) =
      both (comma_if later) (quoted k ++ 58 ∷ (compact_text d ++ members_text true ms)) (comma_prints later)
      (both (quoted k) (58 ∷ (compact_text d ++ members_text true ms)) (quoted_prints k) (omega arith, both (compact_text d) (members_text true ms) (text_prints d) (members_print true ms)))

-- each value
pub no_control : (d : Data) → HasNoControl (compact_text d)
no_control d = whole (compact_text d) (text_prints d)

-- what was written of a value that has no float and nests little, with a line feed behind it
pub is_line : (value : Data) (bytes : List ℕ) → (has_float value ≡ false) × (depth value ≤ 127) → (has_float value ≡ false → bytes ≡ compact_text value) × (depth value ≤ 127 → read bytes ≡ Some value) → IsLineOf value (bytes ++ 10 ∷ [])
is_line value bytes flat written =
    let same = written.0 flat.0 in
    record { text = ap (λ b. b ++ 10 ∷ []) same; reads = subst (λ b. read b ≡ Some value) same (written.1 flat.1); one = no_control value }
