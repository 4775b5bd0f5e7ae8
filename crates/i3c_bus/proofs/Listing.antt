-- The list of a bus, written and read.
use Rattle.std.proofs.Common.{cond, Option, None, Some, IfSome, ◌≡◌, ◌≢◌, ◌⊎◌, inl, inr, true, nat_le, ℕ, ◌+◌, ◌*◌, if◌then◌else◌, count_by, is_some, ◌<◌, List, [], ◌∷◌, ◌++◌, length, take, get_or, map, option_map, refl, sym, ap, ◌∙◌, arith, subst}
use Rattle.std.proofs.lemmas.Bool.{and_parts, leb-true}
use Rattle.std.proofs.lemmas.List.Sums.{sum_by-cons}
use Rattle.std.specs.List.{flat_map}
use Rattle.std.proofs.lemmas.List.{flat_map_more, map-append, take_more}
use Rattle.std.proofs.lemmas.List.Elements.{All-nil}
use Rattle.i3c_base.specs.declared.device.LegacyTarget.{LegacyTarget}
use Rattle.i3c_base.specs.declared.requests.Fixed.{Fixed}
use Rattle.i3c_base.specs.declared.requests.Request.{Request}
use Rattle.i3c_base.specs.declared.requests.Request.TheVariants.{Join, Role, Interrupt}
use Rattle.i3c_base.specs.declared.requests.Served.{Served}
use Rattle.i3c_base.specs.declared.requests.Served.TheVariants.{Quiet, Recorded, Refused, Torn, Joining, WantsRole}
use Rattle.i3c_base.specs.Covered.{IsCopy, IsTable, Table}
use Rattle.i3c_base.specs.Cutting.{Lost}
use Rattle.i3c_base.specs.Frames.{active_has, list_bits}
use Rattle.i3c_base.specs.Serve.{Serves, drives, each_driver, without_front, without_join, without_role}
use Rattle.i3c_base.specs.State.{Device, Entry as Given, State, device_at, entry_at, entry_in, has_address, in_slot, is_static, unkept}
use Rattle.i3c_base.proofs.Lookups.{each_at}
use Rattle.i3c_deftgts.specs.declared.entries.Entry.{Entry}
use Rattle.i3c_deftgts.specs.Copies.{copy_of, table_of}
use Rattle.i3c_deftgts.specs.Entries.{entries_of}
use Rattle.i3c_deftgts.specs.Layout.{bytes_of, list_bytes, Carry}
use Rattle.i3c_deftgts.specs.Reading.{AreTellable}
use Rattle.i3c_deftgts.proofs.LayoutLaws.{carry_append}
use Rattle.i3c_frame.specs.declared.symbols.Symbol.{Symbol}
use Rattle.i3c_frame.specs.Taps.{Tells}
use Rattle.i3c_frame.proofs.TapLaws.{NotesAll-append}
use Rattle.i3c_word.specs.Parity.{HasOddParity}
use Rattle.i3c_word.specs.declared.Word.{Word}
use Rattle.i3c_bus.specs.Wire.{AreWordsOf, IsListOf}
use Rattle.i3c_step.specs.Sound.{Addresses}
use Rattle.i3c_bus.proofs.Owning.{KeepsList, either_address, same_address}

-- four words, one by one
pub four_words : (words : List Word) (blank : Word) → length words ≡ 4 → words ≡ get_or words 0 blank ∷ get_or words 1 blank ∷ get_or words 2 blank ∷ get_or words 3 blank ∷ []
four_words (a ∷ b ∷ c ∷ d ∷ []) blank h = refl
four_words [] blank h = absurd (omega (arith, h))
four_words (a ∷ []) blank h = absurd (omega (arith, h))
four_words (a ∷ b ∷ []) blank h = absurd (omega (arith, h))
four_words (a ∷ b ∷ c ∷ []) blank h = absurd (omega (arith, h))
four_words (a ∷ b ∷ c ∷ d ∷ e ∷ rest) blank h = absurd (omega (arith, h))

-- no words are told
pub told_none : {T : Type 0} (gives : T → Symbol → T → Type 0) (tap : T) → Tells gives tap tap (AreWordsOf [])
told_none gives tap = ([], refl, ([], record { same = refl; odd = All-nil HasOddParity }, refl))

-- the words of some bytes, and then those of others
pub told_more : {T : Type 0} (gives : T → Symbol → T → Type 0) (old mid new : T) (bytes more : List ℕ) → Tells gives old mid (AreWordsOf bytes) → Tells gives mid new (AreWordsOf more) → Tells gives old new (AreWordsOf (bytes ++ more))
told_more gives old mid new bytes more first second = (
  first.0 ++ second.0,
  NotesAll-append gives old first.0 mid second.0 new first.1 second.1,
  (
    first.2.0 ++ second.2.0,
    carry_append bytes more first.2.0 second.2.0 first.2.1 second.2.1,
    (λ t. first.2.2 t ++ second.2.2 t) ∙ sym (map-append Symbol.Word first.2.0 second.2.0),
  ),
)

-- the bytes of one entry more
pub bytes_more : (entries : List Entry) (i : ℕ) (entry : Entry) → i < length entries → entry ≡ get_or entries i entry → flat_map bytes_of (take i entries) ++ bytes_of entry ≡ flat_map bytes_of (take (i + 1) entries)
bytes_more entries i entry l is =
    flat_map_more bytes_of [] (take i entries) entry ∙ ap (flat_map bytes_of) (ap (λ e. take i entries ++ e ∷ []) is ∙ sym (take_more entries i entry l))

-- what a table's list gives is a copy
pub copy_written : (st : State) (table : Table) (list : List Entry) → IsTable st table → table_of list ≡ copy_of table → IsCopy st (table_of list)
copy_written st table list covered copied =
    (ap (λ (t : Table). t.given) copied ∙ ap (map (option_map unkept)) covered.0, ap (λ (t : Table). t.legacy) copied ∙ covered.1)

-- a static address that may be declared is neither 00 nor 7E
static_told : (f x : ℕ) → is_static f ≡ true → (x < 0x08) ⊎ (0x77 < x) → f ≢ x
static_told f x static out e =
    let parts = and_parts (nat_le 0x08 f) (nat_le f 0x77) static in
    let low = leb-true 0x08 f parts.0 in
    let high = leb-true f 0x77 parts.1 in
    elim out [ inl under ↦ omega (arith, low, under, e) | inr over ↦ omega (arith, high, over, e) ]

-- an entry whose static address is declared has none that a list can't tell
entry_told : (st : State) (x : ℕ) → Addresses st → (x < 0x08) ⊎ (0x77 < x) → (a : ℕ) (o : Option Given) → entry_at st a ≡ o → IfSome o (λ entry. entry.fixed ≢ Some x)
entry_told st x inv out a None e = tt
entry_told st x inv out a (Some entry) e = λ same. let there = inv.fixed a entry e x same in static_told x x (inv.static x there.0 there.1) out refl

-- a list can tell the static addresses of a sound bus's table
pub tellable : (st : State) (table : Table) (own : ℕ) → Addresses st → table.given ≡ st.given → AreTellable table own
tellable st table own inv same = record {
  each = λ a. entry_told st 0x00 inv (inl (omega arith)) a (entry_in table.given a) (ap (λ given. entry_in given a) (sym same));
  first = entry_told st 0x7E inv (inr (omega arith)) own (entry_in table.given own) (ap (λ given. entry_in given own) (sym same));
}

-- serving leaves the table, and the active controller its address
pub record KeepsTable (old new : State) : Type 0 where
  pub given : new.given ≡ old.given
  pub legacy : new.legacy ≡ old.legacy
  pub listed : new.listed ≡ old.listed
  pub own : (a : ℕ) → active_has new a ≡ active_has old a

keeps_driver : (st : State) (r : Request) (f : Device → Device) → ((d : Device) → (f d).address ≡ d.address) → KeepsTable st (each_driver r f st)
keeps_driver st r f e = record {
  given = refl;
  legacy = refl;
  listed = refl;
  own = λ a. ap (in_slot (has_address a)) (each_at (λ s d. if drives st r s then f d else d) st st.active) ∙ same_address a (λ d. if drives st r st.active then f d else d) (device_at st st.active) (λ d. either_address (drives st r st.active) (f d) d (e d));
}

keeps_all : (st : State) → KeepsTable st st
keeps_all st = record { given = refl; legacy = refl; listed = refl; own = λ a. refl }

pub serves_keep : (st : State) (policy : Fixed) (lost : Lost) (served : Served) (new : State) → Serves st policy lost served new → KeepsTable st new
serves_keep st policy lost Quiet new h = subst (KeepsTable st) (sym h.1) (keeps_all st)
serves_keep st policy lost Refused new h = subst (KeepsTable st) (sym h.1) (keeps_all st)
serves_keep st policy lost Joining new h = subst (KeepsTable st) (sym h.2) (keeps_driver st Join without_join (λ d. refl))
serves_keep st policy lost (WantsRole a) new h = subst (KeepsTable st) (sym h.2) (keeps_driver st (Role a) without_role (λ d. refl))
serves_keep st policy lost (Recorded place) new h = subst (KeepsTable st) (sym h.left)
    (let k = keeps_driver st (Interrupt h.at) without_front (λ d. refl) in record { given = refl; legacy = refl; listed = refl; own = k.own })
serves_keep st policy lost Torn new h = subst (KeepsTable st) (sym h.left) (keeps_driver st (Interrupt h.at) without_front (λ d. refl))

-- serving leaves the list as current as it was
pub serves_current : (st : State) (policy : Fixed) (lost : Lost) (served : Served) (new : State) → Serves st policy lost served new → KeepsList st new
serves_current st policy lost served new h =
    let keeps = serves_keep st policy lost served new h in
    record { given = keeps.given; legacy = ap (map (option_map (λ (x : LegacyTarget). x.lvr))) keeps.legacy; listed = keeps.listed; own = keeps.own }

-- so the list is the same after the frame has begun
pub list_before : (old mid : State) (words : List Word) → KeepsTable old mid → IsListOf mid words → IsListOf old words
list_before old mid words keeps h = (
  h.0,
  sym (keeps.own h.0) ∙ h.1,
  subst (λ (t : Table). Carry (list_bytes (entries_of t h.0)) words) (λ k. record { given = keeps.given k; legacy = map (option_map (λ (x : LegacyTarget). x.lvr)) (keeps.legacy k); declared = old.declared; listed = keeps.listed k }) h.2,
)

count_cons : {A : Type 0} (x : Option A) (xs : List (Option A)) → count_by is_some (x ∷ xs) ≡ cond (is_some x) 1 0 + count_by is_some xs
count_cons x xs = sum_by-cons (λ o. cond (is_some o) 1 0) x xs

-- each mapped entry is counted as the entry was
pub count_mapped : {A B : Type 0} (f : A → B) (xs : List (Option A)) → count_by is_some (map (option_map f) xs) ≡ count_by is_some xs
count_mapped f [] = refl
count_mapped f (None ∷ xs) = count_cons None (map (option_map f) xs) ∙ (ap (λ n. 0 + n) (count_mapped f xs) ∙ sym (count_cons None xs))
count_mapped f (Some x ∷ xs) = count_cons (Some (f x)) (map (option_map f) xs) ∙ (ap (λ n. 1 + n) (count_mapped f xs) ∙ sym (count_cons (Some x) xs))

pub bits_before : (old mid : State) → KeepsTable old mid → list_bits mid ≡ list_bits old
bits_before old mid keeps = λ k. 9 * (2 + 4 * (count_by is_some (keeps.given k) + count_by is_some (keeps.legacy k)))
