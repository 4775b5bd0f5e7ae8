-- The letters of names, and that names stay known.
use Rattle.std.proofs.Common.{◌≡◌, ◌≢◌, ◌∙◌, ℕ, zero, suc, ◌+◌, ◌-◌, ◌<◌, ◌≤◌, ◌⊎◌, Bool, true, false, ◌&&◌, T, cond, nat_eq, nat_lt, if◌then◌else◌, eqb, eqb→eq, eq-zero-or-pos, get_or, inl, inr, List, [], ◌∷◌, ◌++◌, All, drop, length, replicate, set, take, Option, Some, None, IsTrue, ap, arith, refl, sym, subst}
use Rattle.std.proofs.lemmas.List.{drop-drop, drop-replicate, drop-set-lt, get_or-take, get_or_default, length-take-le, take_more, take_more_set}
use Rattle.std.specs.Cmp.Lexicographic.{pointwise, same_text}
use Rattle.std.specs.Option.{IsSome}
use Rattle.std.specs.Prelude.{MatchOption}
use Rattle.std.proofs.lemmas.Bool.{true≢false}
use lib.Ieee.Fits.{and_l, and_r}
use Rattle.i3c_lines.specs.Naming.{Empties, GivesAlone, GivesSlot, KeepsPlaces, Replaces, is_same, letters, place_named, slot_names}
use Rattle.i3c_lines.specs.Tokens.{IsNameLetter}
use Rattle.i3c_lines.specs.declared.names.Name.{Name}
use Rattle.i3c_lines.specs.declared.names.Names.{Names}
use Rattle.i3c_lines.specs.declared.names.Place.{Place}
use Rattle.i3c_lines.specs.declared.names.TheConstants.{LETTERS}

-- one name is given a place, and any other keeps what it stands for
pub known_after : (is_given : Bool) (place : Place) (before after : Option Place) → after ≡ cond is_given (Some place) before → IsSome before → IsSome after
known_after true place before after e known = subst IsSome (sym e) refl
known_after false place before after e known = subst IsSome (sym e) known

-- a name that is given its own place isn't gone first
not_gone : (is_name is_had : Bool) (here absent before : Option Place) → is_had ≡ is_name → (if is_name then here else before) ≡ (if is_name then here else (if is_had then absent else before))
not_gone true is_had here absent before e = refl
not_gone false is_had here absent before e = sym (ap (λ b. if b then absent else before) e)

-- the name that had the slot is gone first, unless it has another place
pub given_after : (old mid new : Names) (name : Name) (slot : ℕ) → Empties old mid slot (Place.Slot slot) → GivesAlone mid new name (Place.Slot slot) → GivesSlot old new name slot
given_after old mid new name slot = go (get_or (slot_names old) slot None)
  where
    either : (other : Name) → Option Place → Option Place
    either other place = if is_same name other then Some (Place.Slot slot) else place

    go : (known : Option Name)
        → MatchOption known (KeepsPlaces old mid)
        (λ had. (place_named old had ≡ Some (Place.Slot slot) → GivesAlone old mid had Place.Gone) × (place_named old had ≢ Some (Place.Slot slot) → KeepsPlaces old mid))
        → GivesAlone mid new name (Place.Slot slot)
        → MatchOption known (GivesAlone old new name (Place.Slot slot))
        (λ had. (place_named old had ≡ Some (Place.Slot slot) → Replaces old new had name slot) × (place_named old had ≢ Some (Place.Slot slot) → GivesAlone old new name (Place.Slot slot)))
    go None keeps alone = λ other. alone other ∙ ap (either other) (keeps other)
    go (Some had) keeps alone = (λ here other. alone other ∙ ap (either other) (keeps.0 here other), λ elsewhere other. alone other ∙ ap (either other) (keeps.1 elsewhere other))

-- the slot's name is this one, if a test says so
abbrev pub IsTested : Names → ℕ → Name → Bool → Type 0
IsTested names slot name test = MatchOption (get_or (slot_names names) slot None) (test ≡ false) (λ had. test ≡ is_same had name)

-- a slot is given the name that it has
pub given_again : (old new : Names) (name : Name) (slot : ℕ) (test : Bool) → test ≡ true → IsTested old slot name test → GivesAlone old new name (Place.Slot slot) → GivesSlot old new name slot
given_again old new name slot test is = go (get_or (slot_names old) slot None)
  where
    go : (known : Option Name) → MatchOption known (test ≡ false) (λ had. test ≡ is_same had name) → GivesAlone old new name (Place.Slot slot)
        → MatchOption known (GivesAlone old new name (Place.Slot slot))
        (λ had. (place_named old had ≡ Some (Place.Slot slot) → Replaces old new had name slot) × (place_named old had ≢ Some (Place.Slot slot) → GivesAlone old new name (Place.Slot slot)))
    go None h alone = absurd (true≢false (sym is ∙ h))
    go (Some had) h alone =
        let same : letters had ≡ letters name = same_text (letters had) (letters name) (sym is ∙ h) in
        let alike = λ (other : Name). ap (λ token. pointwise nat_eq token (letters other)) same in (
          λ here other. alone other ∙ not_gone (is_same name other) (is_same had other) (Some (Place.Slot slot)) (Some Place.Gone) (place_named old other) (alike other),
          λ elsewhere. alone,
        )

-- 1 for a letter, and 0 for any other byte
abbrev mark_of : ℕ → ℕ
mark_of byte = if nat_lt byte 48 then 0 else (if nat_lt byte 58 then 1 else (if nat_lt byte 97 then 0 else (if nat_lt byte 123 then 1 else 0)))

abbrev are_marks : ℕ → Bool
are_marks zero = true
are_marks (suc n) = eqb (get_or LETTERS n 0) (mark_of n) && are_marks n

marks_below : (n byte : ℕ) → T (are_marks n) → byte < n → get_or LETTERS byte 0 ≡ mark_of byte
marks_below zero byte t h = absurd (omega arith)
marks_below (suc n) byte t h =
    elim (eq-zero-or-pos (n - byte)) [
      | inl z ↦ let e : byte ≡ n = omega arith in rw e (eqb→eq _ _ (and_l _ (are_marks n) t))
      | inr g ↦ marks_below n byte (and_r _ (are_marks n) t) (omega arith)
    ]

below_or_not : (a b : ℕ) → (a < b) ⊎ (b ≤ a)
below_or_not a b =
    elim (eq-zero-or-pos (b - a)) [
      | inl z ↦ inr (omega (arith, z))
      | inr g ↦ inl (omega (arith, g))
    ]

-- a byte's mark tells whether it is a letter
abbrev pub IsMark : ℕ → ℕ → Type 0
IsMark byte mark = (IsNameLetter byte × (mark ≡ 1)) ⊎ ((IsNameLetter byte → ⊥) × (mark ≡ 0))

is_mark : (byte mark : ℕ) → mark ≡ mark_of byte → IsMark byte mark
is_mark byte mark e =
    elim (below_or_not byte 48) [
      | inl low ↦ inr (λ letter. grind arith, grind arith)
      | inr ge ↦
          elim (below_or_not byte 58) [
            | inl lt ↦ inl (inr (ge, omega (arith, lt)), grind arith)
            | inr more ↦
                elim (below_or_not byte 97) [
                  | inl lt ↦ inr (λ letter. grind arith, grind arith)
                  | inr small ↦
                      elim (below_or_not byte 123) [
                        | inl lt ↦ inl (inl (small, omega (arith, lt)), grind arith)
                        | inr past ↦ inr (λ letter. grind arith, grind arith)
                      ]
                ]
          ]
    ]

pub mark_here : (byte at : ℕ) → at ≡ byte → byte < 256 → IsMark byte (get_or LETTERS at 0)
mark_here byte at e h = subst (λ k. IsMark byte (get_or LETTERS k 0)) (sym e) (is_mark byte (get_or LETTERS byte 0) (marks_below 256 byte tt h))

pub letter_test : (byte mark : ℕ) → IsMark byte mark → (IsTrue (nat_eq mark 1) → IsNameLetter byte) × (IsNameLetter byte → IsTrue (nat_eq mark 1))
letter_test byte mark (inl is) = (λ _. is.0, λ _. grind (arith, is.1))
letter_test byte mark (inr not_one) = (λ t. absurd (grind (arith, not_one.1, t)), λ letter. absurd (not_one.0 letter))

-- after a letter is put behind those before it
pub letter_put : (bytes line : List ℕ) (i byte : ℕ) → length bytes ≡ 16 → i < 16 → i < length line → byte ≡ get_or line i 0 → take i bytes ≡ take i line → drop i bytes ≡ replicate (16 - i) 0
    → (take (i + 1) (set bytes i byte) ≡ take (i + 1) line) × (drop (i + 1) (set bytes i byte) ≡ replicate (16 - (i + 1)) 0)
letter_put bytes line i byte long within inside is before after =
    let fewer : 16 - i - 1 ≡ 16 - (i + 1) = omega arith in (
      take_more_set bytes i byte (omega (arith, long)) ∙ ap (λ xs. xs ++ byte ∷ []) before ∙ ap (λ b. take i line ++ b ∷ []) is ∙ sym (take_more line i 0 inside),
      drop-set-lt (i + 1) bytes i byte (omega arith)
          ∙ sym (drop-drop 1 i bytes)
          ∙ ap (drop 1) after
          ∙ drop-replicate 1 (16 - i) 0
          ∙ ap (λ k. replicate k 0) fewer,
    )

-- letters that were put into their places
pub letters_put : (bytes line : List ℕ) (n most : ℕ) → n ≡ most → most ≤ length bytes → take n bytes ≡ take n line → ((k : ℕ) → k < n → IsNameLetter (get_or line k 0)) → All IsNameLetter (take most bytes)
letters_put bytes line n most same few first are k d within =
    let short : length (take most bytes) ≡ most = length-take-le most bytes few in
    let before : k < n = omega (arith, within, short, same) in
    let here : get_or (take most bytes) k 0 ≡ get_or line k 0 =
    ap (λ m. get_or (take m bytes) k 0) (sym same) ∙ ap (λ xs. get_or xs k 0) first ∙ get_or-take n line k 0 before in
    subst IsNameLetter (sym here ∙ get_or_default (take most bytes) k 0 d within) (are k before)
