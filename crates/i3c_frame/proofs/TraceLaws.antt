-- Traces: one symbol more, and a trace has no first fault.
use Rattle.std.proofs.Common.{◌≡◌, ◌⊎◌, ℕ, suc, ◌+◌, List, [], ◌∷◌, ◌++◌, length, map, All, Option, Some, None, arith, refl, ap, sym, subst, ◌∙◌, ⊎_elim, append_assoc}
use Rattle.std.proofs.lemmas.List.{map-append}
use Rattle.std.specs.Option.{option_and_then}
use Rattle.i3c_frame.specs.declared.symbols.Symbol.{Symbol}
use Rattle.i3c_frame.specs.declared.traces.FramePosition.{FramePosition}
use Rattle.i3c_frame.specs.declared.traces.FramePosition.TheVariants.{Outside, Opened, Inside}
use Rattle.i3c_frame.specs.declared.traces.TraceFault.{TraceFault}
use Rattle.i3c_frame.specs.declared.traces.TraceFault.TheVariants.{BadSymbol, NoStop}
use Rattle.i3c_frame.specs.Texts.{IsInRange, text_of}
use Rattle.i3c_frame.specs.Traces.{IsFaultAt, IsFirstFault, IsMisplaced, IsNoSymbol, IsTrace, after, misplaced, place_after}
use Rattle.i3c_frame.proofs.TextLaws.{text_of_same}

-- some symbols, and then others
pub place_after-append : (place : FramePosition) (xs ys : List Symbol) → place_after place (xs ++ ys) ≡ option_and_then (λ mid. place_after mid ys) (place_after place xs)
place_after-append place [] ys = refl
place_after-append place (symbol ∷ xs) ys = go (after place symbol) (λ next. place_after-append next xs ys) where
  go : (o : Option FramePosition) → ((next : FramePosition) → place_after next (xs ++ ys) ≡ option_and_then (λ mid. place_after mid ys) (place_after next xs))
      → option_and_then (λ next. place_after next (xs ++ ys)) o ≡ option_and_then (λ mid. place_after mid ys) (option_and_then (λ next. place_after next xs) o)
  go None rest = refl
  go (Some next) rest = rest next

-- one symbol more
pub place_after-push : (place mid next : FramePosition) (symbols : List Symbol) (symbol : Symbol)
    → place_after place symbols ≡ Some mid → after mid symbol ≡ Some next → place_after place (symbols ++ symbol ∷ []) ≡ Some next
place_after-push place mid next symbols symbol before step =
    place_after-append place symbols (symbol ∷ []) ∙ ap (option_and_then (λ mid. place_after mid (symbol ∷ []))) before ∙ ap (option_and_then (λ last. Some last)) step

-- symbols in range with the same texts are the same
pub texts_same : (xs ys : List Symbol) → All IsInRange xs → All IsInRange ys → map text_of xs ≡ map text_of ys → xs ≡ ys
texts_same [] [] fit range e = refl
texts_same [] (y ∷ ys) fit range e = cc
texts_same (x ∷ xs) [] fit range e = cc
texts_same (x ∷ xs) (y ∷ ys) fit range e =
    let first = text_of_same x y (fit 0 x (omega arith)) (range 0 y (omega arith)) (cc) in
    let rest = texts_same xs ys (λ k d l. fit (suc k) d (omega arith)) (λ k d l. range (suc k) d (omega arith)) (cc) in
    λ i. first i ∷ rest i

-- a symbol of a trace is in range and allowed at its place
stands : {A B : Type 0} (place : FramePosition) (symbol : Symbol) (symbols : List Symbol) (part : List ℕ) → IsInRange symbol → text_of symbol ≡ part
    → place_after place (symbol ∷ symbols) ≡ Some Outside → (IsNoSymbol part × A) ⊎ (IsMisplaced place part × B) → ⊥
stands place symbol symbols part range same ends faulty = ⊎_elim
    (λ none. none.0 symbol range same)
    (λ wrong.
    let (other, fits, text, nowhere) = wrong.0 in
    let one : other ≡ symbol = text_of_same other symbol fits range (text ∙ sym same) in
    let none : place_after place (symbol ∷ symbols) ≡ None = ap (option_and_then (λ next. place_after next symbols)) (ap (after place) (sym one) ∙ nowhere) in
    let differ : None ≡ Some Outside = sym none ∙ ends in cc)
    faulty

-- where a trace goes on from a place there is no fault
no_fault_at : (symbols : List Symbol) (place : FramePosition) (n : ℕ) (rest : List (List ℕ)) (fault : TraceFault) → All IsInRange symbols → map text_of symbols ≡ rest
    → place_after place symbols ≡ Some Outside → IsFaultAt place n rest fault → ⊥
no_fault_at [] Outside n [] fault range same ends faulty = faulty
no_fault_at [] Opened n [] fault range same ends faulty = cc
no_fault_at [] Inside n [] fault range same ends faulty = cc
no_fault_at [] place n (part ∷ rest) fault range same ends faulty = cc
no_fault_at (symbol ∷ symbols) place n [] fault range same ends faulty = cc
no_fault_at (symbol ∷ symbols) Outside n (part ∷ rest) fault range same ends faulty = stands Outside symbol symbols part (range 0 symbol (omega arith)) (cc) ends faulty
no_fault_at (symbol ∷ symbols) Opened n (part ∷ rest) fault range same ends faulty = stands Opened symbol symbols part (range 0 symbol (omega arith)) (cc) ends faulty
no_fault_at (symbol ∷ symbols) Inside n (part ∷ rest) fault range same ends faulty = stands Inside symbol symbols part (range 0 symbol (omega arith)) (cc) ends faulty

-- a trace has no fault after its first symbols
no_fault_after : (before symbols : List Symbol) (start place : FramePosition) (n : ℕ) (rest : List (List ℕ)) (fault : TraceFault) → All IsInRange before → All IsInRange symbols
    → map text_of symbols ≡ map text_of before ++ rest → place_after start before ≡ Some place → place_after start symbols ≡ Some Outside → IsFaultAt place n rest fault → ⊥
no_fault_after [] symbols start place n rest fault fit range same leads ends faulty =
    let here : start ≡ place = cc in no_fault_at symbols start n rest fault range same ends (subst (λ at. IsFaultAt at n rest fault) (sym here) faulty)
no_fault_after (first ∷ before) [] start place n rest fault fit range same leads ends faulty = cc
no_fault_after (first ∷ before) (symbol ∷ symbols) start place n rest fault fit range same leads ends faulty =
    let one : symbol ≡ first = text_of_same symbol first (range 0 symbol (omega arith)) (fit 0 first (omega arith)) (cc) in
    let ends_so : place_after start (first ∷ symbols) ≡ Some Outside = ap (λ s. place_after start (s ∷ symbols)) (sym one) ∙ ends in
    go (after start first) leads ends_so
    (λ next leads ends. no_fault_after before symbols next place n rest fault (λ k d l. fit (suc k) d (omega arith)) (λ k d l. range (suc k) d (omega arith)) (cc) leads ends faulty) where
      go : (o : Option FramePosition) → option_and_then (λ next. place_after next before) o ≡ Some place → option_and_then (λ next. place_after next symbols) o ≡ Some Outside
          → ((next : FramePosition) → place_after next before ≡ Some place → place_after next symbols ≡ Some Outside → ⊥) → ⊥
      go None leads ends rest = cc
      go (Some next) leads ends rest = rest next leads ends

-- a trace has no first fault
pub no_first_fault : (texts : List (List ℕ)) (fault : TraceFault) → IsFirstFault texts fault → (symbols : List Symbol) → All IsInRange symbols → IsTrace symbols
    → map text_of symbols ≡ texts → ⊥
no_first_fault texts fault first symbols range is_trace same =
    no_fault_after first.before symbols Outside first.place (length first.before + 1) first.rest fault first.in_range range (same ∙ first.whole) first.leads is_trace first.faulty

-- one part more is read
pub whole_push : (texts left rest : List (List ℕ)) (part : List ℕ) (symbols : List Symbol) (symbol : Symbol)
    → texts ≡ map text_of symbols ++ left → left ≡ part ∷ rest → text_of symbol ≡ part → texts ≡ map text_of (symbols ++ symbol ∷ []) ++ rest
whole_push texts left rest part symbols symbol whole step text =
    whole ∙ ap (λ tail. map text_of symbols ++ tail) (step ∙ ap (λ first. first ∷ rest) (sym text)) ∙ sym (append_assoc (map text_of symbols) (text_of symbol ∷ []) rest)
    ∙ ap (λ front. front ++ rest) (sym (map-append text_of symbols (symbol ∷ [])))

-- the fault of a text that ends inside a frame
pub ends_inside : (place : FramePosition) (n : ℕ) → (place ≡ Opened) ⊎ (place ≡ Inside) → IsFaultAt place n [] NoStop
ends_inside Outside n inside = ⊎_elim (λ e. cc) (λ e. cc) inside
ends_inside Opened n inside = refl
ends_inside Inside n inside = refl

-- the fault of the part that follows some symbols
faulty_at : (place : FramePosition) (n : ℕ) (part : List ℕ) (rest : List (List ℕ)) (fault : TraceFault)
    → (IsNoSymbol part × (fault ≡ BadSymbol n)) ⊎ (IsMisplaced place part × (fault ≡ misplaced place n)) → IsFaultAt place n (part ∷ rest) fault
faulty_at Outside n part rest fault faulty = faulty
faulty_at Opened n part rest fault faulty = faulty
faulty_at Inside n part rest fault faulty = faulty

pub fault_behind : (texts left rest : List (List ℕ)) (part : List ℕ) (before : List Symbol) (place : FramePosition) (fault : TraceFault) → texts ≡ map text_of before ++ left → left ≡ part ∷ rest → All IsInRange before
    → place_after Outside before ≡ Some place → (IsNoSymbol part × (fault ≡ BadSymbol (length before + 1))) ⊎ (IsMisplaced place part × (fault ≡ misplaced place (length before + 1))) → IsFirstFault texts fault
fault_behind texts left rest part before place fault whole step in_range leads faulty = record {
  before = before;
  rest = part ∷ rest;
  place = place;
  whole = whole ∙ ap (λ tail. map text_of before ++ tail) step;
  in_range = in_range;
  leads = leads;
  faulty = faulty_at place (length before + 1) part rest fault faulty;
}
