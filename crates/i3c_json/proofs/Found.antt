-- What a reader finds in an answer's object.
use Rattle.std.proofs.Common.{◌≡◌, ◌∙◌, ℕ, Bool, true, false, ◌||◌, cond, List, [], ◌∷◌, Option, Some, None, map, option_map, refl, subst, sym}
use Rattle.std.proofs.lemmas.Bool.{false≢true, or_parts}
use Rattle.std.proofs.lemmas.Slice.Eq.{bytes_eq-Decides}
use Rattle.std.specs.Prelude.{bytes_eq, codes, ⊤}
use Rattle.serde_json.specs.Data.{Data, Members, boolean, number, object, unsigned, no_members, put}
use Rattle.serde_json.specs.Find.{get_member}
use Rattle.serde_json.proofs.Views.{get_member-put, get_member-put_other}
use Rattle.i3c_base.specs.declared.datum.Datum.{Datum}
use Rattle.i3c_base.specs.declared.requests.Record.{Record}
use Rattle.i3c_lines.specs.declared.names.Name.{Name}
use Rattle.i3c_lines.specs.Data.{datum_name}
use Rattle.i3c_lines.specs.Refusing.{refusal_token}
use Rattle.i3c_script.specs.declared.piece.Piece.{Piece}
use Rattle.i3c_text.specs.Hex.{byte_text}
use Rattle.i3c_json.specs.declared.aside.Aside.{Aside}
use Rattle.i3c_json.specs.declared.fields.Array.{Array}
use Rattle.i3c_json.specs.declared.verdict.Verdict.{Verdict}
use Rattle.i3c_json.specs.Fields.{field_of, put_arrays, put_field, put_fields, put_items, put_pieces, symbol_lines, values_of}
use Rattle.i3c_json.specs.Laws.{ObjectsTellOutcomes, ObjectsTellPieces, TellsVerdict, ToldObjectsTellAsides, ToldObjectsTellPieces, ToldObjectsTellVerdicts, address_of, aside_value, done_of, first_value, reason_of, unmet_of, value_or}
use Rattle.i3c_json.specs.Objects.{aside_field, put_address, put_aside, put_asking, put_record, put_verdict, refusal_address}
use Rattle.i3c_json.specs.Values.{record_data, text_data, unmet_data}

-- whether a name is among keys
abbrev is_among : List ℕ → List (List ℕ) → Bool
is_among name [] = false
is_among name (key ∷ keys) = bytes_eq name key || is_among name keys

-- a name that isn't among keys is none of them
apart : (keys : List (List ℕ)) (name key : List ℕ) → is_among name keys ≡ false → is_among key keys ≡ true → bytes_eq name key ≡ false
apart keys name key lacks has = by_same (bytes_eq name key) refl where
  by_same : (b : Bool) → bytes_eq name key ≡ b → b ≡ false
  by_same true same = absurd (false≢true (sym (subst (λ n. is_among n keys ≡ false) ((bytes_eq-Decides name key).0 same) lacks) ∙ has))
  by_same false far = refl

-- whether no name is among both keys
abbrev are_apart : List (List ℕ) → List (List ℕ) → Bool
are_apart [] others = true
are_apart (key ∷ keys) others = cond (is_among key others) false (are_apart keys others)

both_apart : (b r : Bool) → cond b false r ≡ true → (b ≡ false) × (r ≡ true)
both_apart true r is = absurd (false≢true is)
both_apart false r is = (refl, is)

-- the first key is the name, or the name is among the later keys
by_key : (name key : List ℕ) (keys others : List (List ℕ)) (b : Bool) → bytes_eq name key ≡ b → is_among key others ≡ false → (is_among name keys ≡ true → is_among name others ≡ false) → (b || is_among name keys) ≡ true → is_among name others ≡ false
by_key name key keys others true same far later is = subst (λ n. is_among n others ≡ false) (sym ((bytes_eq-Decides name key).0 same)) far
by_key name key keys others false away far later is = later is

-- a name among keys isn't among others
apart_from : (keys others : List (List ℕ)) (name : List ℕ) → are_apart keys others ≡ true → is_among name keys ≡ true → is_among name others ≡ false
apart_from [] others name far is = absurd (false≢true is)
apart_from (key ∷ keys) others name far is =
    let parts = both_apart (is_among key others) (are_apart keys others) far in
    by_key name key keys others (bytes_eq name key) refl parts.0 (apart_from keys others name parts.1) is

differ : (name key : List ℕ) → bytes_eq name key ≡ false → name ≡ key → ⊥
differ name key far same = absurd (false≢true (sym far ∙ (bytes_eq-Decides name key).1 same))

-- what is put under another name
other : (name key : List ℕ) (value : Data) (members : Members) → bytes_eq name key ≡ false → get_member name (put key value members) ≡ get_member name members
other name key value members far = get_member-put_other name key value members (differ name key far)

-- the arrays, the record and the devices that ask
abbrev rest_keys : List (List ℕ)
rest_keys = codes "asking" ∷ codes "record" ∷ codes "told" ∷ codes "tenures" ∷ codes "descriptions" ∷ codes "log" ∷ codes "targets" ∷ codes "devices" ∷ codes "assigned" ∷ []

other_items : (name key : List ℕ) (values : List Data) (members : Members) → is_among name rest_keys ≡ false → is_among key rest_keys ≡ true → get_member name (put_items key values members) ≡ get_member name members
other_items name key [] members far is = refl
other_items name key (value ∷ more) members far is = other name key _ members (apart rest_keys name key far is)

other_record : (name : List ℕ) (added : Option (ℕ × Record)) (members : Members) → is_among name rest_keys ≡ false → get_member name (put_record added members) ≡ get_member name members
other_record name None members far = refl
other_record name (Some numbered) members far = other name (codes "record") (record_data numbered.0 numbered.1) members (apart rest_keys name (codes "record") far refl)

other_asking : (name : List ℕ) (asking : Option (List Name)) (members : Members) → is_among name rest_keys ≡ false → get_member name (put_asking asking members) ≡ get_member name members
other_asking name None members far = refl
other_asking name (Some names) members far = other name (codes "asking") _ members (apart rest_keys name (codes "asking") far refl)

-- under a name that none of these has, only the pieces' own fields count, and what was there
rest_found : (name : List ℕ) (pieces : List Piece) (added : Option (ℕ × Record)) (asking : Option (List Name)) (members : Members) → is_among name rest_keys ≡ false
    → get_member name (put_asking asking (put_record added (put_pieces pieces members))) ≡ get_member name (put_fields pieces members)
rest_found name pieces added asking members far =
    let own = put_fields pieces members in
    let first = put_items (codes "assigned") (values_of Array.Assigned pieces) own in
    let second = put_items (codes "devices") (values_of Array.Devices pieces) first in
    let third = put_items (codes "targets") (values_of Array.Targets pieces) second in
    let fourth = put_items (codes "log") (values_of Array.Log pieces) third in
    let fifth = put_items (codes "descriptions") (values_of Array.Descriptions pieces) fourth in
    other_asking name asking (put_record added (put_pieces pieces members)) far
    ∙ other_record name added (put_pieces pieces members) far
    ∙ other_items name (codes "told") (map text_data (symbol_lines [] pieces)) (put_arrays pieces own) far refl
    ∙ other_items name (codes "tenures") (values_of Array.Tenures pieces) fifth far refl
    ∙ other_items name (codes "descriptions") (values_of Array.Descriptions pieces) fourth far refl
    ∙ other_items name (codes "log") (values_of Array.Log pieces) third far refl
    ∙ other_items name (codes "targets") (values_of Array.Targets pieces) second far refl
    ∙ other_items name (codes "devices") (values_of Array.Devices pieces) first far refl
    ∙ other_items name (codes "assigned") (values_of Array.Assigned pieces) own far refl

-- a field over what is found without it
field_found : (name : List ℕ) (field : Option (List ℕ × Data)) (members : Members) (later : Option Data) → get_member name members ≡ later → get_member name (put_field field members) ≡ value_or name field later
field_found name None members later is = is
field_found name (Some field) members later is = by_same (bytes_eq name field.0) refl where
  by_same : (b : Bool) → bytes_eq name field.0 ≡ b → get_member name (put field.0 field.1 members) ≡ cond b (Some field.1) later
  by_same true same = subst (λ n. get_member n (put field.0 field.1 members) ≡ Some field.1) (sym ((bytes_eq-Decides name field.0).0 same)) (get_member-put field.0 field.1 members)
  by_same false far = other name field.0 field.1 members far ∙ is

-- a field whose key is one of these
abbrev IsOf : List (List ℕ) → Option (List ℕ × Data) → Type 0
IsOf keys None = ⊤
IsOf keys (Some field) = is_among field.0 keys ≡ true

other_field : (keys : List (List ℕ)) (name : List ℕ) (field : Option (List ℕ × Data)) (members : Members) → is_among name keys ≡ false → IsOf keys field → get_member name (put_field field members) ≡ get_member name members
other_field keys name None members far is = refl
other_field keys name (Some field) members far is = other name field.0 field.1 members (apart keys name field.0 far is)

-- the fields that pieces fill by themselves
abbrev piece_keys : List (List ℕ)
piece_keys =
    codes "legacy" ∷ codes "declared" ∷ codes "entered" ∷ codes "result" ∷ codes "raised" ∷ codes "served" ∷ codes "bytes" ∷ codes "active" ∷ codes "records" ∷ codes "listed" ∷ codes "session" ∷ codes "pid" ∷ codes "bcr" ∷ codes "dcr" ∷ codes "status" ∷ codes "mwl" ∷ codes "mrl" ∷ codes "mxds" ∷ codes "caps" ∷ []

datum_key : (what : Datum) → is_among (datum_name what) piece_keys ≡ true
datum_key Datum.Pid = refl
datum_key Datum.Bcr = refl
datum_key Datum.Dcr = refl
datum_key Datum.Status = refl
datum_key Datum.WriteLength = refl
datum_key Datum.ReadLength = refl
datum_key Datum.Speed = refl
datum_key Datum.Capabilities = refl

piece_key : (piece : Piece) → IsOf piece_keys (field_of piece)
piece_key (Piece.Legacy n a) = refl
piece_key (Piece.Declared a) = refl
piece_key (Piece.Main n address) = refl
piece_key (Piece.Entered n slot) = refl
piece_key Piece.Dropped = refl
piece_key (Piece.Raised count) = refl
piece_key Piece.Asked = refl
piece_key (Piece.Served served) = refl
piece_key Piece.Done = refl
piece_key (Piece.Bytes bytes) = refl
piece_key (Piece.Told what bytes) = datum_key what
piece_key Piece.Opened = refl
piece_key (Piece.Assigned a identity) = tt
piece_key Piece.Nobody = refl
piece_key Piece.Ended = refl
piece_key (Piece.Active address) = refl
piece_key (Piece.Device n address waiting) = tt
piece_key (Piece.Target n a) = tt
piece_key (Piece.Records count) = refl
piece_key (Piece.Entry count r) = tt
piece_key (Piece.Description device) = tt
piece_key (Piece.Listed is_current) = refl
piece_key (Piece.Session is_open) = refl
piece_key (Piece.Tenure slot from to) = tt
piece_key (Piece.FirstSymbol symbol) = tt
piece_key (Piece.Symbol symbol) = tt
piece_key Piece.SymbolsEnd = tt

other_fields : (name : List ℕ) (pieces : List Piece) (members : Members) → is_among name piece_keys ≡ false → get_member name (put_fields pieces members) ≡ get_member name members
other_fields name [] members far = refl
other_fields name (piece ∷ pieces) members far = other_field piece_keys name (field_of piece) (put_fields pieces members) far (piece_key piece) ∙ other_fields name pieces members far

-- the fields of what an answer says besides
abbrev aside_keys : List (List ℕ)
aside_keys = codes "happened" ∷ codes "due" ∷ codes "order" ∷ codes "all" ∷ codes "tried" ∷ codes "script" ∷ codes "choices" ∷ codes "same" ∷ codes "known" ∷ []

aside_key : (aside : Aside) → IsOf aside_keys (aside_field aside)
aside_key Aside.Nothing = tt
aside_key (Aside.Happened is_so) = refl
aside_key (Aside.Due line) = refl
aside_key (Aside.Order count) = refl
aside_key (Aside.All count) = refl
aside_key (Aside.Tried count) = refl
aside_key (Aside.Script lines) = refl
aside_key (Aside.Choices numbers) = refl
aside_key (Aside.Same count) = refl
aside_key Aside.Known = refl

-- how a line ended
abbrev verdict_keys : List (List ℕ)
verdict_keys = codes "ok" ∷ codes "refused" ∷ codes "about" ∷ codes "unmet" ∷ []

abbrev ending_keys : List (List ℕ)
ending_keys = codes "line" ∷ verdict_keys

other_address : (name : List ℕ) (address : Option ℕ) (members : Members) → bytes_eq name (codes "about") ≡ false → get_member name (put_address address members) ≡ get_member name members
other_address name None members far = refl
other_address name (Some a) members far = other name (codes "about") (text_data (byte_text a)) members far

other_verdict : (name : List ℕ) (verdict : Verdict) (members : Members) → is_among name verdict_keys ≡ false → get_member name (put_verdict verdict members) ≡ get_member name members
other_verdict name Verdict.Done members far = other name (codes "ok") (boolean true) members (apart verdict_keys name (codes "ok") far refl)
other_verdict name (Verdict.Refused why) members far =
    other_address name (refusal_address why) (put (codes "refused") (text_data (refusal_token why)) members) (apart verdict_keys name (codes "about") far refl)
    ∙ other name (codes "refused") (text_data (refusal_token why)) members (apart verdict_keys name (codes "refused") far refl)
other_verdict name (Verdict.Named reason) members far = other name (codes "refused") (text_data reason.now) members (apart verdict_keys name (codes "refused") far refl)
other_verdict name (Verdict.Unmet line there) members far =
    other name (codes "unmet") (unmet_data line there.now) (put (codes "refused") (text_data (codes "Unmet")) members) (apart verdict_keys name (codes "unmet") far refl)
    ∙ other name (codes "refused") (text_data (codes "Unmet")) members (apart verdict_keys name (codes "refused") far refl)

-- the line's number alone, and with how the line ended
abbrev numbered : ℕ → Members
numbered count = put (codes "line") (number (unsigned count)) no_members

abbrev ended : ℕ → Verdict → Members
ended count verdict = put_verdict verdict (numbered count)

-- the members of an answer, but for what it says besides
abbrev inner : ℕ → Verdict → List Piece → Option (ℕ × Record) → Option (List Name) → Members
inner count verdict pieces added asking = put_asking asking (put_record added (put_pieces pieces (ended count verdict)))

-- under a name that tells how a line ended, that is found which the verdict says
ending_found : (name : List ℕ) (count : ℕ) (verdict : Verdict) (pieces : List Piece) (added : Option (ℕ × Record)) (asking : Option (List Name)) (aside : Aside) → is_among name ending_keys ≡ true
    → get_member name (put_aside aside (inner count verdict pieces added asking)) ≡ get_member name (ended count verdict)
ending_found name count verdict pieces added asking aside is =
    other_field aside_keys name (aside_field aside) (inner count verdict pieces added asking) (apart_from ending_keys aside_keys name refl is) (aside_key aside)
    ∙ rest_found name pieces added asking (ended count verdict) (apart_from ending_keys rest_keys name refl is)
    ∙ other_fields name pieces (ended count verdict) (apart_from ending_keys piece_keys name refl is)

ok_found : (count : ℕ) (verdict : Verdict) → get_member (codes "ok") (ended count verdict) ≡ done_of verdict
ok_found count Verdict.Done = get_member-put (codes "ok") (boolean true) (numbered count)
ok_found count (Verdict.Refused why) =
    other_address (codes "ok") (refusal_address why) (put (codes "refused") (text_data (refusal_token why)) (numbered count)) refl
    ∙ other (codes "ok") (codes "refused") (text_data (refusal_token why)) (numbered count) refl
ok_found count (Verdict.Named name) = other (codes "ok") (codes "refused") (text_data name.now) (numbered count) refl
ok_found count (Verdict.Unmet line there) =
    other (codes "ok") (codes "unmet") (unmet_data line there.now) (put (codes "refused") (text_data (codes "Unmet")) (numbered count)) refl
    ∙ other (codes "ok") (codes "refused") (text_data (codes "Unmet")) (numbered count) refl

why_found : (count : ℕ) (verdict : Verdict) → get_member (codes "refused") (ended count verdict) ≡ option_map text_data (reason_of verdict)
why_found count Verdict.Done = other (codes "refused") (codes "ok") (boolean true) (numbered count) refl
why_found count (Verdict.Refused why) =
    other_address (codes "refused") (refusal_address why) (put (codes "refused") (text_data (refusal_token why)) (numbered count)) refl
    ∙ get_member-put (codes "refused") (text_data (refusal_token why)) (numbered count)
why_found count (Verdict.Named name) = get_member-put (codes "refused") (text_data name.now) (numbered count)
why_found count (Verdict.Unmet line there) =
    other (codes "refused") (codes "unmet") (unmet_data line there.now) (put (codes "refused") (text_data (codes "Unmet")) (numbered count)) refl
    ∙ get_member-put (codes "refused") (text_data (codes "Unmet")) (numbered count)

address_found : (address : Option ℕ) (members : Members) → get_member (codes "about") members ≡ None → get_member (codes "about") (put_address address members) ≡ option_map (λ a. text_data (byte_text a)) address
address_found None members none = none
address_found (Some a) members none = get_member-put (codes "about") (text_data (byte_text a)) members

about_found : (count : ℕ) (verdict : Verdict) → get_member (codes "about") (ended count verdict) ≡ option_map (λ a. text_data (byte_text a)) (address_of verdict)
about_found count Verdict.Done = other (codes "about") (codes "ok") (boolean true) (numbered count) refl
about_found count (Verdict.Refused why) =
    address_found (refusal_address why) (put (codes "refused") (text_data (refusal_token why)) (numbered count)) (other (codes "about") (codes "refused") (text_data (refusal_token why)) (numbered count) refl)
about_found count (Verdict.Named name) = other (codes "about") (codes "refused") (text_data name.now) (numbered count) refl
about_found count (Verdict.Unmet line there) =
    other (codes "about") (codes "unmet") (unmet_data line there.now) (put (codes "refused") (text_data (codes "Unmet")) (numbered count)) refl
    ∙ other (codes "about") (codes "refused") (text_data (codes "Unmet")) (numbered count) refl

unmet_found : (count : ℕ) (verdict : Verdict) → get_member (codes "unmet") (ended count verdict) ≡ unmet_of verdict
unmet_found count Verdict.Done = other (codes "unmet") (codes "ok") (boolean true) (numbered count) refl
unmet_found count (Verdict.Refused why) =
    other_address (codes "unmet") (refusal_address why) (put (codes "refused") (text_data (refusal_token why)) (numbered count)) refl
    ∙ other (codes "unmet") (codes "refused") (text_data (refusal_token why)) (numbered count) refl
unmet_found count (Verdict.Named name) = other (codes "unmet") (codes "refused") (text_data name.now) (numbered count) refl
unmet_found count (Verdict.Unmet line there) = get_member-put (codes "unmet") (unmet_data line there.now) (put (codes "refused") (text_data (codes "Unmet")) (numbered count))

verdict_found : (count : ℕ) (verdict : Verdict) (pieces : List Piece) (added : Option (ℕ × Record)) (asking : Option (List Name)) (aside : Aside) → TellsVerdict count verdict (object (put_aside aside (inner count verdict pieces added asking)))
verdict_found count verdict pieces added asking aside =
    record {
      line = ending_found (codes "line") count verdict pieces added asking aside refl ∙ other_verdict (codes "line") verdict (numbered count) refl;
      ok = ending_found (codes "ok") count verdict pieces added asking aside refl ∙ ok_found count verdict;
      why = ending_found (codes "refused") count verdict pieces added asking aside refl ∙ why_found count verdict;
      about = ending_found (codes "about") count verdict pieces added asking aside refl ∙ about_found count verdict;
      unmet = ending_found (codes "unmet") count verdict pieces added asking aside refl ∙ unmet_found count verdict;
    }

pub verdicts_told : ToldObjectsTellVerdicts
verdicts_told told = verdict_found told.number told.verdict told.pieces.now told.added (option_map (λ names. names.now) told.asking) told.aside

pub outcomes_told : ObjectsTellOutcomes
outcomes_told count None pieces added asking =
    let told = verdict_found count Verdict.Done pieces added asking Aside.Nothing in
    record { line = told.line; ok = told.ok; why = told.why }
outcomes_told count (Some why) pieces added asking =
    let told = verdict_found count (Verdict.Refused why) pieces added asking Aside.Nothing in
    record { line = told.line; ok = told.ok; why = told.why }

-- under another name nothing is found of how a line ended
ending_silent : (name : List ℕ) (count : ℕ) (verdict : Verdict) → is_among name ending_keys ≡ false → get_member name (ended count verdict) ≡ None
ending_silent name count verdict far =
    let parts = or_parts (bytes_eq name (codes "line")) (is_among name verdict_keys) far in
    other_verdict name verdict (numbered count) parts.1 ∙ other name (codes "line") (number (unsigned count)) no_members parts.0

-- under the name of what an answer may say besides, that is found which it says so
aside_found : (name : List ℕ) (count : ℕ) (verdict : Verdict) (pieces : List Piece) (added : Option (ℕ × Record)) (asking : Option (List Name)) (aside : Aside) → is_among name aside_keys ≡ true
    → get_member name (put_aside aside (inner count verdict pieces added asking)) ≡ aside_value name aside
aside_found name count verdict pieces added asking aside is =
    field_found name (aside_field aside) (inner count verdict pieces added asking) None
    (rest_found name pieces added asking (ended count verdict) (apart_from aside_keys rest_keys name refl is)
    ∙ other_fields name pieces (ended count verdict) (apart_from aside_keys piece_keys name refl is)
    ∙ ending_silent name count verdict (apart_from aside_keys ending_keys name refl is))

pub asides_told : ToldObjectsTellAsides
asides_told told =
    let pieces = told.pieces.now in
    let asking = option_map (λ names. names.now) told.asking in
    record {
      happened = aside_found (codes "happened") told.number told.verdict pieces told.added asking told.aside refl;
      due = aside_found (codes "due") told.number told.verdict pieces told.added asking told.aside refl;
      order = aside_found (codes "order") told.number told.verdict pieces told.added asking told.aside refl;
      all = aside_found (codes "all") told.number told.verdict pieces told.added asking told.aside refl;
      tried = aside_found (codes "tried") told.number told.verdict pieces told.added asking told.aside refl;
      script = aside_found (codes "script") told.number told.verdict pieces told.added asking told.aside refl;
      choices = aside_found (codes "choices") told.number told.verdict pieces told.added asking told.aside refl;
      same = aside_found (codes "same") told.number told.verdict pieces told.added asking told.aside refl;
      known = aside_found (codes "known") told.number told.verdict pieces told.added asking told.aside refl;
    }

-- a field that pieces fill by themselves has what the first says, where nothing was there
first_found : (name : List ℕ) (pieces : List Piece) (members : Members) → get_member name members ≡ None → get_member name (put_fields pieces members) ≡ first_value name pieces
first_found name [] members none = none
first_found name (piece ∷ pieces) members none = field_found name (field_of piece) (put_fields pieces members) (first_value name pieces) (first_found name pieces members none)

piece_found : (name : List ℕ) (count : ℕ) (verdict : Verdict) (pieces : List Piece) (added : Option (ℕ × Record)) (asking : Option (List Name)) (aside : Aside) → is_among name piece_keys ≡ true
    → get_member name (put_aside aside (inner count verdict pieces added asking)) ≡ first_value name pieces
piece_found name count verdict pieces added asking aside is =
    other_field aside_keys name (aside_field aside) (inner count verdict pieces added asking) (apart_from piece_keys aside_keys name refl is) (aside_key aside)
    ∙ rest_found name pieces added asking (ended count verdict) (apart_from piece_keys rest_keys name refl is)
    ∙ first_found name pieces (ended count verdict) (ending_silent name count verdict (apart_from piece_keys ending_keys name refl is))

-- the name of a piece's field
own_name : (piece : Piece) (name : List ℕ) (value : Data) → field_of piece ≡ Some (name, value) → is_among name piece_keys ≡ true
own_name piece name value is = subst (IsOf piece_keys) is (piece_key piece)

pub told_pieces_told : ToldObjectsTellPieces
told_pieces_told piece name value is told = piece_found name told.number told.verdict told.pieces.now told.added (option_map (λ names. names.now) told.asking) told.aside (own_name piece name value is)

pub pieces_told : ObjectsTellPieces
pieces_told piece name value is count None pieces added asking = piece_found name count Verdict.Done pieces added asking Aside.Nothing (own_name piece name value is)
pieces_told piece name value is count (Some why) pieces added asking = piece_found name count (Verdict.Refused why) pieces added asking Aside.Nothing (own_name piece name value is)
