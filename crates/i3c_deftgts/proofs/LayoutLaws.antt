-- Words that carry bytes.
use Rattle.std.proofs.Common.{◌≡◌, ℕ, ◌+◌, ◌*◌, ◌-◌, ◌≤◌, ◌<◌, List, [], ◌∷◌, ◌++◌, length, take, get_or, sym, refl, ap, ◌∙◌, arith, length-append}
use Rattle.std.specs.List.{flat_map}
use Rattle.std.proofs.lemmas.List.{flat_map_more, length-map, length-take, map-append, take_all, take_more}
use Rattle.std.proofs.lemmas.List.Elements.{All-append, All-nil, All-push}
use Rattle.i3c_word.specs.declared.Word.{Word}
use Rattle.i3c_word.specs.Parity.{HasOddParity}
use Rattle.i3c_deftgts.specs.declared.entries.Entry.{Entry}
use Rattle.i3c_deftgts.specs.declared.entries.Entry.TheVariants.{Device, Legacy}
use Rattle.i3c_deftgts.specs.Layout.{bytes_of, list_bytes, Carry}

pub length-carried : (sent : List ℕ) (words : List Word) → Carry sent words → length words ≡ length sent
length-carried sent words carried = sym (length-map words (λ (word : Word). word.byte)) ∙ ap length carried.same

-- one word
pub carry_one : (byte : ℕ) (word : Word) → word.byte ≡ byte → HasOddParity word → Carry (byte ∷ []) (word ∷ [])
carry_one byte word is odd = record { same = ap (λ b. b ∷ []) is; odd = All-push HasOddParity [] word (All-nil HasOddParity) odd }

-- some words, and then others
pub carry_append : (sent more : List ℕ) (words others : List Word) → Carry sent words → Carry more others → Carry (sent ++ more) (words ++ others)
carry_append sent more words others first second = record {
  same = map-append (λ (w : Word). w.byte) words others ∙ (λ t. first.same t ++ second.same t);
  odd = All-append HasOddParity words others first.odd second.odd;
}

pub length-bytes_of : (entry : Entry) → length (bytes_of entry) ≡ 4
length-bytes_of (Device address dcr bcr fixed) = refl
length-bytes_of (Legacy address lvr) = refl

pub length-flat_bytes : (entries : List Entry) → length (flat_map bytes_of entries) ≡ 4 * length entries
length-flat_bytes [] = refl
length-flat_bytes (entry ∷ rest) =
    let here = length-bytes_of entry in
    let both = length-append (bytes_of entry) (flat_map bytes_of rest) in
    omega (arith, here, both, length-flat_bytes rest)

-- one entry more of some that are sent
pub flat_more : (count : ℕ) (entries : List Entry) (i : ℕ) (entry : Entry) → i < length entries → entry ≡ get_or entries i entry → (count ∷ flat_map bytes_of (take i entries)) ++ bytes_of entry ≡ count ∷ flat_map bytes_of (take (i + 1) entries)
flat_more count entries i entry l is =
    flat_map_more bytes_of (count ∷ []) (take i entries) entry ∙ ap (λ e. count ∷ flat_map bytes_of e) (ap (λ e. take i entries ++ e ∷ []) is ∙ sym (take_more entries i entry l))

-- the same as words carry it
pub carried_next : (count : ℕ) (entries : List Entry) (i : ℕ) (entry : Entry) (words : List Word) → i < length entries → entry ≡ get_or entries i entry → Carry ((count ∷ flat_map bytes_of (take i entries)) ++ bytes_of entry) words → Carry (count ∷ flat_map bytes_of (take (i + 1) entries)) words
carried_next count entries i entry words l is carried = rw (sym (flat_more count entries i entry l is)) carried

pub carried_room : (count : ℕ) (entries : List Entry) (i : ℕ) (words : List Word) → i < length entries → Carry (count ∷ flat_map bytes_of (take i entries)) words → length words ≡ 1 + 4 * i
carried_room count entries i words l carried =
    let long = length-carried (count ∷ flat_map bytes_of (take i entries)) words carried in
    let flat = length-flat_bytes (take i entries) in
    let taken = length-take i entries in
    omega (arith, long, flat, taken, l)

pub carried_all : (entries whole : List Entry) (i : ℕ) (words : List Word) → length entries ≤ i → entries ≡ whole → Carry ((length entries - 1) ∷ flat_map bytes_of (take i entries)) words → Carry (list_bytes whole) words
carried_all entries whole i words past same carried = rw (sym (ap list_bytes same)) (rw (sym (ap (λ e. (length entries - 1) ∷ flat_map bytes_of e) (take_all i entries past))) carried)
