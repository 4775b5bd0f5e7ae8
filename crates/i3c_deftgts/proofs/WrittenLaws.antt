-- What is written is read.
use Rattle.std.proofs.Common.{◌≡◌, ◌≢◌, ℕ, suc, ◌+◌, ◌*◌, ◌-◌, ◌≤◌, ◌<◌, ◌%◌, ◌/◌, Bool, true, false, not, ◌||◌, ◌==◌, List, [], ◌∷◌, ◌++◌, length, map, get_or, set, Option, Some, None, IfSome, is_some, option_map, count_ones, nat_le, IsTrue, sym, refl, ap, ◌∙◌, arith, subst}
use Rattle.std.specs.List.{AllByRecursion, flat_map, position_from}
use Rattle.std.proofs.lemmas.Bool.{and_parts, cond-false, leb-true, eq-eqb, ne_eqb}
use Rattle.std.proofs.lemmas.List.{length-map}
use Rattle.std.proofs.lemmas.List.Elements.{recursion_from_All}
use Rattle.i3c_base.specs.declared.identity.Bcr.{Bcr}
use Rattle.i3c_base.specs.declared.identity.Dcr.{Dcr}
use Rattle.i3c_base.specs.Covered.{Table}
use Rattle.i3c_base.specs.State.{Entry as Given, entry_in, IsFree, IsUsable}
use Rattle.i3c_base.specs.State.{is_static}
use Rattle.i3c_word.specs.declared.Word.{Word}
use Rattle.i3c_word.specs.Parity.{bit_of, HasOddParity}
use Rattle.i3c_deftgts.specs.declared.entries.Entry.{Entry}
use Rattle.i3c_deftgts.specs.declared.entries.Entry.TheVariants.{Device, Legacy}
use Rattle.i3c_deftgts.specs.Entries.{device_at, entries_of, has_twice, legacy_at, upwards}
use Rattle.i3c_deftgts.specs.Layout.{bytes, bytes_of, list_bytes, static_byte, Carry}
use Rattle.i3c_deftgts.specs.Reading.{address_in, entries_in, entry_at, entry_fault, first_static, is_count, is_miscounted, has_wrong_t, later_entries, AreTellable, ReadAs}
use Rattle.i3c_deftgts.proofs.CopyOfLaws.{still}
use Rattle.i3c_deftgts.proofs.DistinctLaws.{entries_once, own_is, some_at, stood_before}
use Rattle.i3c_deftgts.proofs.FaultLaws.{told_addresses, whole_is_not}
use Rattle.i3c_deftgts.proofs.LayoutLaws.{length-carried, length-flat_bytes}
use Rattle.i3c_deftgts.proofs.ReadingLaws.{no_entry_fault}

-- an entry's address isn't 0, nor is its static one
abbrev HasAddress : Entry → Type 0
HasAddress (Device address dcr bcr fixed) = (address ≢ 0) × IfSome fixed (λ a. a ≢ 0)
HasAddress (Legacy address lvr) = address ≢ 0

abbrev HaveAddresses : List Entry → Type 0
HaveAddresses [] = Unit {0}
HaveAddresses (entry ∷ rest) = HasAddress entry × HaveAddresses rest

-- an address that is shifted is found again
shifted : (a : ℕ) → a ≢ 0 → address_in (2 * a) ≡ Some a
shifted a some =
    let half : 2 * a / 2 ≡ a = omega arith in
    cond-false (2 * a / 2 == 0) None (Some (2 * a / 2)) (ne_eqb (2 * a / 2) 0 (λ e. some (sym half ∙ e))) ∙ ap Some half

static_shifted : (fixed : Option ℕ) → IfSome fixed (λ a. a ≢ 0) → address_in (static_byte fixed) ≡ fixed
static_shifted None h = refl
static_shifted (Some a) h = shifted a h

-- a static address that a list can tell isn't 0
static_some : (fixed : Option ℕ) → fixed ≢ Some 0 → IfSome fixed (λ a. a ≢ 0)
static_some None h = tt
static_some (Some a) h = λ e. h (ap Some e)

-- the own static address is found again
first_shifted : (fixed : Option ℕ) → fixed ≢ Some 0 → fixed ≢ Some 0x7E → first_static (static_byte fixed) ≡ fixed
first_shifted None h k = refl
first_shifted (Some a) h k =
    let half : 2 * a / 2 ≡ a = omega arith in
    cond-false (2 * a / 2 == 0x7E) None (address_in (2 * a)) (ne_eqb (2 * a / 2) 0x7E (λ e. k (ap Some (sym half ∙ e)))) ∙ shifted a (static_some (Some a) h)

-- one entry's bytes are read as the entry
later_back : (entry : Entry) (rest : List ℕ) → HasAddress entry → later_entries (bytes_of entry ++ rest) ≡ Some entry ∷ later_entries rest
later_back (Device address dcr bcr fixed) rest h =
    ap (λ o. entry_at o dcr.0 bcr.0 (address_in (static_byte fixed)) ∷ later_entries rest) (shifted address h.0)
    ∙ ap (λ o. entry_at (Some address) dcr.0 bcr.0 o ∷ later_entries rest) (static_shifted fixed h.1)
later_back (Legacy address lvr) rest h = ap (λ o. entry_at None lvr.0 0 o ∷ later_entries rest) (shifted address h)

all_later : (entries : List Entry) → HaveAddresses entries → later_entries (flat_map bytes_of entries) ≡ map Some entries
all_later [] h = refl
all_later (entry ∷ rest) h = later_back entry (flat_map bytes_of rest) h.0 ∙ ap (λ es. Some entry ∷ es) (all_later rest h.1)

-- the bytes of a list are read as its entries
pub entries_back : (a : ℕ) (dcr : Dcr) (bcr : Bcr) (fixed : Option ℕ) (rest : List Entry) → a ≢ 0 → fixed ≢ Some 0 → fixed ≢ Some 0x7E → HaveAddresses rest
    → entries_in (list_bytes (Device a dcr bcr fixed ∷ rest)) ≡ map Some (Device a dcr bcr fixed ∷ rest)
entries_back a dcr bcr fixed rest some told first h =
    ap (λ o. option_map (λ b. Device b dcr bcr (first_static (static_byte fixed))) o ∷ later_entries (flat_map bytes_of rest)) (shifted a some)
    ∙ (ap (λ f. Some (Device a dcr bcr f) ∷ later_entries (flat_map bytes_of rest)) (first_shifted fixed told first)
    ∙ ap (λ es. Some (Device a dcr bcr fixed) ∷ es) (all_later rest h))

-- no word has a wrong T bit
none_wrong : (words : List Word) (n : ℕ) → AllByRecursion HasOddParity words → position_from has_wrong_t n words ≡ None
none_wrong [] n h = refl
none_wrong (word ∷ rest) n h =
    cond-false (has_wrong_t word) (Some n) (position_from has_wrong_t (n + 1) rest) (ap not (eq-eqb ((count_ones word.byte + bit_of word.t) % 2) 1 h.0)) ∙ none_wrong rest (n + 1) h.1

or_true : (b : Bool) → (b || true) ≡ true
or_true true = refl
or_true false = refl

-- words that carry the bytes of entries that are read back are read as them
pub read_back : (entries : List Entry) (words : List Word) → 0 < length entries → Carry (list_bytes entries) words → entries_in (list_bytes entries) ≡ map Some entries → has_twice entries ≡ false → ReadAs words entries
read_back entries words some carried back own =
    let same : entries_in (bytes words) ≡ map Some entries = ap entries_in carried.same ∙ back in
    let long : length words ≡ 1 + 4 * length entries = let whole = length-carried (list_bytes entries) words carried in let flat = length-flat_bytes entries in omega (arith, whole, flat) in
    let many : length (entries_in (bytes words)) ≡ length entries = ap length same ∙ length-map entries Some in
    let one_less : (length entries - 1) + 1 ≡ length entries = omega (arith, some) in
    let right : is_miscounted (bytes words) (length (entries_in (bytes words))) ≡ false =
    ap (λ bs. is_miscounted bs (length (entries_in (bytes words)))) carried.same
    ∙ (ap (λ n. not (is_count (length entries - 1) n)) many
    ∙ ap not (ap (λ b. ((length entries - 1) == length entries) || b) (eq-eqb ((length entries - 1) + 1) (length entries) one_less) ∙ or_true ((length entries - 1) == length entries))) in
    record {
      flawless = told_addresses words (none_wrong words 1 (recursion_from_All HasOddParity words carried.odd)) (whole_is_not (length words) (omega (arith, long, some)) (omega (arith, long, some))) right
          ∙ (ap entry_fault same ∙ no_entry_fault entries own);
      same = same;
    }

-- the entries of a table have addresses
have_append : (xs ys : List Entry) → HaveAddresses xs → HaveAddresses ys → HaveAddresses (xs ++ ys)
have_append [] ys h k = k
have_append (x ∷ xs) ys h k = (h.0, have_append xs ys h.1 k)

module _ {A : Type 0} (entry : ℕ → A → Entry) where
  have_upwards : (xs : List (Option A)) (b : ℕ) → ((k : ℕ) → IfSome (get_or xs k None) (λ x. HasAddress (entry (b + k) x))) → HaveAddresses (upwards entry b xs)
  have_upwards [] b h = tt
  have_upwards (None ∷ xs) b h = have_upwards xs (suc b) (λ k. later xs b k (h (suc k)))
    where
      later : (xs : List (Option A)) (b k : ℕ) → IfSome (get_or xs k None) (λ x. HasAddress (entry (b + suc k) x)) → IfSome (get_or xs k None) (λ x. HasAddress (entry (suc b + k) x))
      later xs b k = let e : b + suc k ≡ suc b + k = omega arith in let P : ℕ → Type 0 = λ n. IfSome (get_or xs k None) (λ x. HasAddress (entry n x)) in subst P e
  have_upwards (Some x ∷ xs) b h = (first, have_upwards xs (suc b) (λ k. later xs b k (h (suc k))))
    where
      first : HasAddress (entry b x)
      first = let e : b + 0 ≡ b = omega arith in let P : ℕ → Type 0 = λ n. HasAddress (entry n x) in subst P e (h 0)

      later : (xs : List (Option A)) (b k : ℕ) → IfSome (get_or xs k None) (λ x. HasAddress (entry (b + suc k) x)) → IfSome (get_or xs k None) (λ x. HasAddress (entry (suc b + k) x))
      later xs b k = let e : b + suc k ≡ suc b + k = omega arith in let P : ℕ → Type 0 = λ n. IfSome (get_or xs k None) (λ x. HasAddress (entry n x)) in subst P e

-- an address follows if the place isn't empty
if_stands : {A : Type 0} (P : Type 0) (o : Option A) (Q : A → Type 0) → (is_some o ≡ true → P) → ((x : A) → P → Q x) → IfSome o Q
if_stands P None Q h k = tt
if_stands P (Some x) Q h k = k x (h refl)

both_stand : {A : Type 0} (P : Type 0) (o : Option A) (R Q : A → Type 0) → (is_some o ≡ true → P) → IfSome o R → ((x : A) → P → R x → Q x) → IfSome o Q
both_stand P None R Q h r k = tt
both_stand P (Some x) R Q h r k = k x (h refl) r

-- what is written of a table is read as its entries
pub entries_read : (table : Table) (own : ℕ) (words : List Word) → is_some (entry_in table.given own) ≡ true → ((a : ℕ) → IfSome (entry_in table.given a) (λ _. IsUsable a)) → ((a : ℕ) → IfSome (entry_in table.given a) (λ _. IsFree table.legacy a))
    → ((a : ℕ) → IfSome (get_or table.legacy a None) (λ _. IsTrue (is_static a))) → AreTellable table own → Carry (list_bytes (entries_of table own)) words
    → ReadAs words (entries_of table own)
entries_read table own words stands usable apart static told carried = of_own (entry_in table.given own) refl stands
  where
    not_zero : (a : ℕ) → 0x08 ≤ a → a ≢ 0
    not_zero a low e = omega (arith, low, e)

    others : List Entry
    others = upwards device_at 0 (set table.given own None)

    targets : List Entry
    targets = upwards legacy_at 0 table.legacy

    others_have : HaveAddresses (upwards device_at 0 (set table.given own None))
    others_have = have_upwards device_at (set table.given own None) 0 (λ k. both_stand (IsUsable k) (get_or (set table.given own None) k None) (λ x. x.fixed ≢ Some 0) (λ x. HasAddress (device_at (0 + k) x))
        (λ there. some_at (IsUsable k) (entry_in table.given k) (usable k) (stood_before table.given own k there))
        (still (λ (given : Given). given.fixed ≢ Some 0) table.given own k (told.each k))
        (λ x u s. (not_zero (0 + k) (let low = u.0 in omega (arith, low)), static_some x.fixed s)))

    targets_have : HaveAddresses (upwards legacy_at 0 table.legacy)
    targets_have = have_upwards legacy_at table.legacy 0 (λ k. if_stands (IsTrue (is_static k)) (get_or table.legacy k None) (λ x. HasAddress (legacy_at (0 + k) x))
        (λ there. some_at (IsTrue (is_static k)) (get_or table.legacy k None) (static k) there)
        (λ x s. not_zero (0 + k) (let low = leb-true 0x08 k (and_parts (nat_le 0x08 k) (nat_le k 0x77) s).0 in omega (arith, low))))

    of_own : (o : Option Given) → entry_in table.given own ≡ o → is_some o ≡ true → ReadAs words (entries_of table own)
    of_own None e there = cc
    of_own (Some g) e there =
        let is : entries_of table own ≡ device_at own g ∷ (others ++ targets) = ap (λ es. es ++ (others ++ targets)) (own_is table own g e) in
        let low = (some_at (IsUsable own) (entry_in table.given own) (usable own) (ap is_some e)).0 in
        let back = entries_back own g.dcr g.bcr g.fixed (others ++ targets) (not_zero own low) (subst (λ (o : Option Given). IfSome o (λ given. given.fixed ≢ Some 0)) e (told.each own)) (subst (λ (o : Option Given). IfSome o (λ given. given.fixed ≢ Some 0x7E)) e told.first) (have_append others targets others_have targets_have) in
        read_back (entries_of table own) words (let long = ap length is in omega (arith, long)) carried
        (ap (λ es. entries_in (list_bytes es)) is ∙ (back ∙ ap (map Some) (sym is))) (entries_once table own g e apart)
