-- How symbols lead from place to place.
use Rattle.std.proofs.lemmas.Option.{none-some, same_Some}
use Rattle.std.proofs.lemmas.Bool.{true≢false}
use Rattle.std.proofs.Common.{◌≡◌, ◌∙◌, ℕ, ◌==◌, Bool, true, false, List, [], ◌∷◌, ◌++◌, Option, Some, None, map, option_and_then, if◌then◌else◌, ap, refl, sym, subst}
use Rattle.std.specs.Prelude.{⊤}
use Rattle.i3c_base.specs.Sets.{is_in}
use Rattle.i3c_frame.specs.declared.symbols.Symbol.{Symbol}
use Rattle.i3c_word.specs.declared.Word.{Word}
use Rattle.i3c_wave.specs.declared.awaited.Awaited.{Awaited}
use Rattle.i3c_wave.specs.Awaited.{awaited_behind, next_place, open_place, was_assigning}
use Rattle.i3c_wire_laws.specs.Wires.{Leads, place_behind}

-- an allowed symbol, and those behind it
pub lead_first : (legacies : ℕ) (place mid next : Option Awaited) (symbol : Symbol) (rest : List Symbol) → next_place legacies place symbol ≡ Some mid → Leads legacies mid rest next
    → Leads legacies place (symbol ∷ rest) next
lead_first legacies place mid next symbol rest e h = ap (option_and_then (λ next. place_behind legacies next rest)) e ∙ h

-- a place, if there is one, from which symbols lead on
lead_by : (legacies : ℕ) (mid next : Option Awaited) (first rest : List Symbol) (o : Option (Option Awaited)) → ((n : Option Awaited) → Leads legacies n first mid → Leads legacies n (first ++ rest) next)
    → option_and_then (λ n. place_behind legacies n first) o ≡ Some mid → option_and_then (λ n. place_behind legacies n (first ++ rest)) o ≡ Some next
lead_by legacies mid next first rest None later h = absurd (none-some mid h)
lead_by legacies mid next first rest (Some n) later h = later n h

-- symbols, and others behind them
pub lead_on : (legacies : ℕ) (place mid next : Option Awaited) (first rest : List Symbol) → Leads legacies place first mid → Leads legacies mid rest next → Leads legacies place (first ++ rest) next
lead_on legacies place mid next [] rest h k = subst (λ p. Leads legacies p rest next) (sym (same_Some place mid h)) k
lead_on legacies place mid next (symbol ∷ first) rest h k =
    lead_by legacies mid next first rest (next_place legacies place symbol) (λ n there. lead_on legacies n mid next first rest there k) h

-- words are allowed at the place
abbrev pub TakesWords : Awaited → Type 0
TakesWords Awaited.Code = ⊤
TakesWords (Awaited.Word assigning) = ⊤
TakesWords (Awaited.Header assigning) = ⊥
TakesWords (Awaited.LegacyWord assigning) = ⊥
TakesWords Awaited.Identity = ⊥
TakesWords Awaited.AddressByte = ⊥

-- words are allowed behind a word
pub word_next : (legacies : ℕ) (place : Awaited) (word : Word) → TakesWords place → (next : Awaited) × (next_place legacies (Some place) (Symbol.Word word) ≡ Some (Some next)) × TakesWords next
word_next legacies Awaited.Code word h = (Awaited.Word (word.byte == 7), refl, tt)
word_next legacies (Awaited.Word assigning) word h = (Awaited.Word assigning, refl, tt)
word_next legacies (Awaited.Header assigning) word h = absurd h
word_next legacies (Awaited.LegacyWord assigning) word h = absurd h
word_next legacies Awaited.Identity word h = absurd h
word_next legacies Awaited.AddressByte word h = absurd h

-- a STOP is allowed where words are
pub stop_there : (legacies : ℕ) (place : Awaited) → TakesWords place → Leads legacies (Some place) (Symbol.Stop ∷ []) None
stop_there legacies Awaited.Code h = refl
stop_there legacies (Awaited.Word assigning) h = refl
stop_there legacies (Awaited.Header assigning) h = absurd h
stop_there legacies (Awaited.LegacyWord assigning) h = absurd h
stop_there legacies Awaited.Identity h = absurd h
stop_there legacies Awaited.AddressByte h = absurd h

-- words, and a STOP
pub words_stop : (legacies : ℕ) (place : Awaited) (words : List Word) → TakesWords place → Leads legacies (Some place) (map Symbol.Word words ++ Symbol.Stop ∷ []) None
words_stop legacies place [] h = stop_there legacies place h
words_stop legacies place (word ∷ words) h =
    let n = word_next legacies place word h in
    lead_first legacies (Some place) (Some n.0) None (Symbol.Word word) (map Symbol.Word words ++ Symbol.Stop ∷ []) n.1 (words_stop legacies n.0 words n.2)

-- behind a header of no assignment: a START and a STOP are allowed, and both stay outside an assignment
pub record IsBehindHeader (place : Awaited) : Type 0 where
  pub opens : (next : Option Awaited) → open_place place next ≡ Some next
  pub plain : was_assigning place ≡ false

-- the same by the tests of the header
behind_tests : (legacy broadcast read ack : Bool)
    → IsBehindHeader (if legacy then Awaited.LegacyWord false else
    (if broadcast then (if read then (if false then (if ack then Awaited.Identity else Awaited.Word false) else Awaited.Word false) else Awaited.Code) else Awaited.Word false))
behind_tests true broadcast read ack = record { opens = λ next. refl; plain = refl }
behind_tests false true true ack = record { opens = λ next. refl; plain = refl }
behind_tests false true false ack = record { opens = λ next. refl; plain = refl }
behind_tests false false read ack = record { opens = λ next. refl; plain = refl }

pub behind_header : (legacies address : ℕ) (read ack : Bool) → IsBehindHeader (awaited_behind legacies false address read ack)
behind_header legacies address read ack = behind_tests (is_in legacies address) (address == 126) read ack

-- words are allowed behind a header of no legacy target
words_tests : (legacy broadcast read ack : Bool) → legacy ≡ false
    → TakesWords (if legacy then Awaited.LegacyWord false else
    (if broadcast then (if read then (if false then (if ack then Awaited.Identity else Awaited.Word false) else Awaited.Word false) else Awaited.Code) else Awaited.Word false))
words_tests true broadcast read ack h = absurd (true≢false h)
words_tests false true true ack h = tt
words_tests false true false ack h = tt
words_tests false false read ack h = tt

pub words_behind : (legacies address : ℕ) (read ack : Bool) → is_in legacies address ≡ false → TakesWords (awaited_behind legacies false address read ack)
words_behind legacies address read ack h = words_tests (is_in legacies address) (address == 126) read ack h

-- behind a header that reads no code is awaited
read_tests : (legacy broadcast ack : Bool) → legacy ≡ false
    → (if legacy then Awaited.LegacyWord false else
    (if broadcast then (if true then (if false then (if ack then Awaited.Identity else Awaited.Word false) else Awaited.Word false) else Awaited.Code) else Awaited.Word false)) ≡ Awaited.Word false
read_tests true broadcast ack h = absurd (true≢false h)
read_tests false true ack h = refl
read_tests false false ack h = refl

pub read_behind : (legacies address : ℕ) (ack : Bool) → is_in legacies address ≡ false → awaited_behind legacies false address true ack ≡ Awaited.Word false
read_behind legacies address ack h = read_tests (is_in legacies address) (address == 126) ack h

-- behind the header of a legacy target its words are awaited
pub legacy_behind : (legacies address : ℕ) (read ack : Bool) → is_in legacies address ≡ true → awaited_behind legacies false address read ack ≡ Awaited.LegacyWord false
legacy_behind legacies address read ack h =
    ap (λ (b : Bool). if b then Awaited.LegacyWord false else
    (if address == 126 then (if read then (if false then (if ack then Awaited.Identity else Awaited.Word false) else Awaited.Word false) else Awaited.Code) else Awaited.Word false)) h

-- behind the broadcast header that writes a code is awaited
pub code_behind : (legacies : ℕ) (assigning ack : Bool) → is_in legacies 126 ≡ false → awaited_behind legacies assigning 126 false ack ≡ Awaited.Code
code_behind legacies assigning ack h = ap (λ (b : Bool). if b then Awaited.LegacyWord assigning else Awaited.Code) h

-- behind the one that reads, in an assignment, an identity is awaited where it was acknowledged
pub identity_behind : (legacies : ℕ) → is_in legacies 126 ≡ false → awaited_behind legacies true 126 true true ≡ Awaited.Identity
identity_behind legacies h = ap (λ (b : Bool). if b then Awaited.LegacyWord true else Awaited.Identity) h

pub nothing_behind : (legacies : ℕ) → is_in legacies 126 ≡ false → awaited_behind legacies true 126 true false ≡ Awaited.Word true
nothing_behind legacies h = ap (λ (b : Bool). if b then Awaited.LegacyWord true else Awaited.Word true) h

-- STOP behind a header
pub stop_behind : (legacies : ℕ) (place : Awaited) → IsBehindHeader place → Leads legacies (Some place) (Symbol.Stop ∷ []) None
stop_behind legacies place h = ap (option_and_then (λ next. place_behind legacies next [])) (h.opens None)
