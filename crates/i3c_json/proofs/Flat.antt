-- An answer's object has no float, and nests little.
use Rattle.std.proofs.Common.{◌≡◌, ◌≤◌, ℕ, Bool, true, false, ◌||◌, cond, List, [], ◌∷◌, map, option_map, Option, Some, None, Ordering, Less, Equal, Greater, arith, refl}
use Rattle.std.proofs.lemmas.Bool.{or_parts}
use Rattle.std.specs.Prelude.{codes, ⊤}
use Rattle.std.specs.Ordering.{match_ordering}
use Rattle.serde_json.specs.Data.{Data, array, boolean, number, unsigned, Members, no_members, member, put, depth, items_depth, members_depth}
use Rattle.serde_json.specs.View.{items_of}
use Rattle.serde_json.specs.Written.{has_float, items_have_float, members_have_float}
use Rattle.i3c_base.specs.declared.requests.Record.{Record}
use Rattle.i3c_base.specs.declared.requests.Request.{Request}
use Rattle.i3c_base.specs.declared.requests.Request.TheVariants.{Interrupt, Join, Role}
use Rattle.i3c_lines.specs.declared.names.Name.{Name}
use Rattle.i3c_lines.specs.declared.refusals.Refusal.{Refusal}
use Rattle.i3c_lines.specs.Refusing.{refusal_token}
use Rattle.i3c_script.specs.declared.piece.Piece.{Piece}
use Rattle.i3c_text.specs.Hex.{byte_text}
use Rattle.i3c_json.specs.declared.aside.Aside.{Aside}
use Rattle.i3c_json.specs.declared.fields.Array.{Array}
use Rattle.i3c_json.specs.declared.told.Told.{Told}
use Rattle.i3c_json.specs.declared.verdict.Verdict.{Verdict}
use Rattle.i3c_json.specs.Fields.{field_of, is_item, item_data, put_arrays, put_field, put_fields, put_items, put_pieces, symbol_lines, values_of}
use Rattle.i3c_json.specs.Values.{byte_data, name_data, record_data, text_data, unmet_data, wish_data}
use Rattle.i3c_json.specs.Objects.{aside_field, put_address, put_asking, put_outcome, put_record, put_verdict, refusal_address, told_data}

-- no float, and at most two levels
abbrev IsFlat : Data → Type 0
IsFlat value = (has_float value ≡ false) × (depth value ≤ 2)

abbrev AreFlat : Members → Type 0
AreFlat members = (members_have_float members ≡ false) × (members_depth members ≤ 2)

-- values of an array, with one level at most
abbrev ValuesFlat : List Data → Type 0
ValuesFlat values = (items_have_float (items_of values) ≡ false) × (items_depth (items_of values) ≤ 1)

or_false : (a b : Bool) → a ≡ false → b ≡ false → (a || b) ≡ false
or_false true b lacks other = lacks
or_false false b lacks other = other

by_ordering : (o : Ordering) (a b c : Members) → AreFlat a → AreFlat b → AreFlat c → AreFlat (match_ordering o a b c)
by_ordering Less a b c p q r = p
by_ordering Equal a b c p q r = q
by_ordering Greater a b c p q r = r

one_flat : (key : List ℕ) (value : Data) (members : Members) → IsFlat value → AreFlat members → AreFlat (member key value members)
one_flat key value members one are = (or_false (has_float value) (members_have_float members) one.0 are.0, omega (arith, one.1, are.1))

put_flat : (key : List ℕ) (value : Data) (members : Members) → IsFlat value → AreFlat members → AreFlat (put key value members)
put_flat key value no_members one are = one_flat key value no_members one are
put_flat key value (member other old rest) one are =
    let parts = or_parts (has_float old) (members_have_float rest) are.0 in
    let before : IsFlat old = (parts.0, omega (arith, are.1)) in
    let behind : AreFlat rest = (parts.1, omega (arith, are.1)) in
    by_ordering _ (member key value (member other old rest)) (member other value rest) (member other old (put key value rest))
    (one_flat key value (member other old rest) one are) (one_flat other value rest one behind) (one_flat other old (put key value rest) before (put_flat key value rest one behind))

text_flat : (text : List ℕ) → IsFlat (text_data text)
text_flat text = (refl, omega arith)

-- a value in front of others
value_more : (value : Data) (values : List Data) → has_float value ≡ false → depth value ≤ 1 → ValuesFlat values → ValuesFlat (value ∷ values)
value_more value values lacks small are = (or_false (has_float value) (items_have_float (items_of values)) lacks are.0, omega (arith, small, are.1))

texts_flat : (texts : List (List ℕ)) → ValuesFlat (map text_data texts)
texts_flat [] = (refl, omega arith)
texts_flat (text ∷ texts) = value_more (text_data text) (map text_data texts) refl (omega arith) (texts_flat texts)

names_flat : (names : List Name) → ValuesFlat (map name_data names)
names_flat [] = (refl, omega arith)
names_flat (name ∷ names) = value_more (name_data name) (map name_data names) refl (omega arith) (names_flat names)

byte_flat : (byte : Option ℕ) → (has_float (byte_data byte) ≡ false) × (depth (byte_data byte) ≤ 0)
byte_flat None = (refl, omega arith)
byte_flat (Some byte) = (refl, omega arith)

wish_flat : (wish : Option Request) → (has_float (wish_data wish) ≡ false) × (depth (wish_data wish) ≤ 0)
wish_flat None = (refl, omega arith)
wish_flat (Some Join) = (refl, omega arith)
wish_flat (Some (Role a)) = (refl, omega arith)
wish_flat (Some (Interrupt a)) = (refl, omega arith)

-- a value with one level at most
abbrev IsSmall : Data → Type 0
IsSmall value = (has_float value ≡ false) × (depth value ≤ 1)

record_small : (count : ℕ) (recorded : Record) → IsSmall (record_data count recorded)
record_small count recorded =
    let byte = byte_flat recorded.byte in
    (or_false (has_float (byte_data recorded.byte)) false byte.0 refl, omega (arith, byte.1))

item_small : (piece : Piece) → IsSmall (item_data piece)
item_small (Piece.Entry count r) = record_small count r
item_small (Piece.Device name address waiting) =
    let byte = byte_flat address in
    (or_false (has_float (byte_data address)) false byte.0 refl, omega (arith, byte.1))
item_small (Piece.Description device) =
    let wish = wish_flat device.wish in
    (or_false (has_float (wish_data device.wish)) false wish.0 refl, omega (arith, wish.1))
item_small _ = (refl, omega arith)

chosen : (b : Bool) (xs ys : List Data) → ValuesFlat xs → ValuesFlat ys → ValuesFlat (cond b xs ys)
chosen true xs ys first other = first
chosen false xs ys first other = other

values_flat : (items : Array) (pieces : List Piece) → ValuesFlat (values_of items pieces)
values_flat items [] = (refl, omega arith)
values_flat items (piece ∷ pieces) =
    let one = item_small piece in
    let are = values_flat items pieces in
    chosen (is_item items piece) (item_data piece ∷ values_of items pieces) (values_of items pieces) (value_more (item_data piece) (values_of items pieces) one.0 one.1 are) are

array_flat : (values : List Data) → ValuesFlat values → IsFlat (array (items_of values))
array_flat values are = (are.0, omega (arith, are.1))

items_put : (key : List ℕ) (values : List Data) (members : Members) → ValuesFlat values → AreFlat members → AreFlat (put_items key values members)
items_put key [] members are flat = flat
items_put key (value ∷ more) members are flat = put_flat key (array (items_of (value ∷ more))) members (array_flat (value ∷ more) are) flat

-- the value of a piece's field
abbrev FieldFlat : Option (List ℕ × Data) → Type 0
FieldFlat None = ⊤
FieldFlat (Some field) = IsFlat field.1

field_flat : (piece : Piece) → FieldFlat (field_of piece)
field_flat (Piece.Legacy name a) = (refl, omega arith)
field_flat (Piece.Declared a) = (refl, omega arith)
field_flat (Piece.Main name address) = (let byte = byte_flat address in (or_false (has_float (byte_data address)) false byte.0 refl, omega (arith, byte.1)))
field_flat (Piece.Entered name slot) = (refl, omega arith)
field_flat Piece.Dropped = (refl, omega arith)
field_flat (Piece.Raised count) = (refl, omega arith)
field_flat Piece.Asked = (refl, omega arith)
field_flat (Piece.Served served) = (refl, omega arith)
field_flat Piece.Done = (refl, omega arith)
field_flat (Piece.Bytes bytes) = (refl, omega arith)
field_flat (Piece.Told what bytes) = (refl, omega arith)
field_flat Piece.Opened = (refl, omega arith)
field_flat (Piece.Assigned a identity) = tt
field_flat Piece.Nobody = (refl, omega arith)
field_flat Piece.Ended = (refl, omega arith)
field_flat (Piece.Active None) = (refl, omega arith)
field_flat (Piece.Active (Some a)) = (refl, omega arith)
field_flat (Piece.Device name address waiting) = tt
field_flat (Piece.Target name a) = tt
field_flat (Piece.Records count) = (refl, omega arith)
field_flat (Piece.Entry count r) = tt
field_flat (Piece.Description device) = tt
field_flat (Piece.Listed is_current) = (refl, omega arith)
field_flat (Piece.Session is_open) = (refl, omega arith)
field_flat (Piece.Tenure slot from to) = tt
field_flat (Piece.FirstSymbol symbol) = tt
field_flat (Piece.Symbol symbol) = tt
field_flat Piece.SymbolsEnd = tt

field_put : (field : Option (List ℕ × Data)) (members : Members) → FieldFlat field → AreFlat members → AreFlat (put_field field members)
field_put None members one flat = flat
field_put (Some field) members one flat = put_flat field.0 field.1 members one flat

fields_put : (pieces : List Piece) (members : Members) → AreFlat members → AreFlat (put_fields pieces members)
fields_put [] members flat = flat
fields_put (piece ∷ pieces) members flat = field_put (field_of piece) (put_fields pieces members) (field_flat piece) (fields_put pieces members flat)

arrays_put : (pieces : List Piece) (members : Members) → AreFlat members → AreFlat (put_arrays pieces members)
arrays_put pieces members flat =
    items_put (codes "tenures") _ _ (values_flat Array.Tenures pieces)
    (items_put (codes "descriptions") _ _ (values_flat Array.Descriptions pieces)
    (items_put (codes "log") _ _ (values_flat Array.Log pieces)
    (items_put (codes "targets") _ _ (values_flat Array.Targets pieces)
    (items_put (codes "devices") _ _ (values_flat Array.Devices pieces)
    (items_put (codes "assigned") _ _ (values_flat Array.Assigned pieces) flat)))))

pieces_put : (pieces : List Piece) (members : Members) → AreFlat members → AreFlat (put_pieces pieces members)
pieces_put pieces members flat = items_put (codes "told") _ _ (texts_flat (symbol_lines [] pieces)) (arrays_put pieces (put_fields pieces members) (fields_put pieces members flat))

address_put : (address : Option ℕ) (members : Members) → AreFlat members → AreFlat (put_address address members)
address_put None members flat = flat
address_put (Some a) members flat = put_flat (codes "about") (text_data (byte_text a)) members (text_flat (byte_text a)) flat

outcome_put : (refused : Option Refusal) (members : Members) → AreFlat members → AreFlat (put_outcome refused members)
outcome_put None members flat = put_flat (codes "ok") (boolean true) members (refl, omega arith) flat
outcome_put (Some why) members flat =
    address_put (refusal_address why) (put (codes "refused") (text_data (refusal_token why)) members) (put_flat (codes "refused") (text_data (refusal_token why)) members (text_flat (refusal_token why)) flat)

verdict_put : (verdict : Verdict) (members : Members) → AreFlat members → AreFlat (put_verdict verdict members)
verdict_put Verdict.Done members flat = outcome_put None members flat
verdict_put (Verdict.Refused why) members flat = outcome_put (Some why) members flat
verdict_put (Verdict.Named name) members flat = put_flat (codes "refused") (text_data name.now) members (text_flat name.now) flat
verdict_put (Verdict.Unmet line there) members flat =
    put_flat (codes "unmet") (unmet_data line there.now) (put (codes "refused") (text_data (codes "Unmet")) members) (refl, omega arith) (put_flat (codes "refused") (text_data (codes "Unmet")) members (text_flat (codes "Unmet")) flat)

aside_flat : (aside : Aside) → FieldFlat (aside_field aside)
aside_flat Aside.Nothing = tt
aside_flat (Aside.Happened is_so) = (refl, omega arith)
aside_flat (Aside.Due line) = (refl, omega arith)
aside_flat (Aside.Order count) = (refl, omega arith)
aside_flat (Aside.All count) = (refl, omega arith)
aside_flat (Aside.Tried count) = (refl, omega arith)
aside_flat (Aside.Script lines) = (refl, omega arith)
aside_flat (Aside.Choices numbers) = (refl, omega arith)
aside_flat (Aside.Same count) = (refl, omega arith)
aside_flat Aside.Known = (refl, omega arith)

record_put : (added : Option (ℕ × Record)) (members : Members) → AreFlat members → AreFlat (put_record added members)
record_put None members flat = flat
record_put (Some numbered) members flat =
    let one = record_small numbered.0 numbered.1 in
    put_flat (codes "record") (record_data numbered.0 numbered.1) members (one.0, omega (arith, one.1)) flat

asking_put : (asking : Option (List Name)) (members : Members) → AreFlat members → AreFlat (put_asking asking members)
asking_put None members flat = flat
asking_put (Some names) members flat = put_flat (codes "asking") _ members (array_flat _ (names_flat names)) flat

-- an answer's object
pub told_flat : (told : Told) → (has_float (told_data told) ≡ false) × (depth (told_data told) ≤ 127)
told_flat told =
    let line : AreFlat (put (codes "line") (number (unsigned told.number)) no_members) = (refl, omega arith) in
    let inner = asking_put (option_map (λ names. names.now) told.asking) _ (record_put told.added _ (pieces_put told.pieces.now _ (verdict_put told.verdict _ line))) in
    let all = field_put (aside_field told.aside) _ (aside_flat told.aside) inner in
    (all.0, omega (arith, all.1))
