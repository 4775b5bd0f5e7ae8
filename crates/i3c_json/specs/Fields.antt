-- Which field of the object each piece of a line fills.
use Rattle.std.specs.Prelude.{ℕ, Bool, true, false, List, [], ◌∷◌, ◌++◌, codes, map, Option, Some, None, if◌then◌else◌}
use Rattle.serde_json.specs.Data.{Data, Members, array, boolean, null, number, unsigned, put}
use Rattle.serde_json.specs.View.{items_of}
use Rattle.i3c_lines.specs.Data.{datum_name}
use Rattle.i3c_script.specs.declared.piece.Piece.{Piece}
use Rattle.i3c_script.specs.Printed.{piece_text}
use Rattle.i3c_text.specs.Hex.{byte_text, bytes_text}
use Rattle.i3c_json.specs.declared.fields.Array.{Array}
use Rattle.i3c_json.specs.Values.{active_data, assigned_data, description_data, device_data, entered_data, record_data, served_words, target_data, tenure_data, text_data}

-- the field that a piece fills by itself, and its value
abbrev pub field_of : Piece → Option (List ℕ × Data)
field_of (Piece.Legacy name a) = Some (codes "legacy", target_data name a)
field_of (Piece.Declared a) = Some (codes "declared", text_data (byte_text a))
field_of (Piece.Main name address) = Some (codes "entered", entered_data name 0 address)
field_of (Piece.Entered name slot) = Some (codes "entered", entered_data name slot None)
field_of Piece.Dropped = Some (codes "result", text_data (codes "dropped"))
field_of (Piece.Raised count) = Some (codes "raised", number (unsigned count))
field_of Piece.Asked = Some (codes "result", text_data (codes "asked"))
field_of (Piece.Served served) = Some (codes "served", text_data (served_words served))
field_of Piece.Done = Some (codes "result", text_data (codes "done"))
field_of (Piece.Bytes bytes) = Some (codes "bytes", text_data (bytes_text bytes))
field_of (Piece.Told what bytes) = Some (datum_name what, text_data (bytes_text bytes))
field_of Piece.Opened = Some (codes "result", text_data (codes "open"))
field_of (Piece.Assigned a identity) = None
field_of Piece.Nobody = Some (codes "result", text_data (codes "nobody"))
field_of Piece.Ended = Some (codes "result", text_data (codes "ended"))
field_of (Piece.Active address) = Some (codes "active", active_data address)
field_of (Piece.Device name address waiting) = None
field_of (Piece.Target name a) = None
field_of (Piece.Records count) = Some (codes "records", number (unsigned count))
field_of (Piece.Entry count r) = None
field_of (Piece.Description device) = None
field_of (Piece.Listed is_current) = Some (codes "listed", boolean is_current)
field_of (Piece.Session is_open) = Some (codes "session", boolean is_open)
field_of (Piece.Tenure slot from to) = None
field_of (Piece.FirstSymbol symbol) = None
field_of (Piece.Symbol symbol) = None
field_of Piece.SymbolsEnd = None

abbrev pub put_field : Option (List ℕ × Data) → Members → Members
put_field None members = members
put_field (Some field) members = put field.0 field.1 members

-- the fields that pieces fill by themselves: where two fill the same one, it has what the first says
abbrev pub put_fields : List Piece → Members → Members
put_fields [] members = members
put_fields (piece ∷ rest) members = put_field (field_of piece) (put_fields rest members)

abbrev pub is_assigned : Piece → Bool
is_assigned (Piece.Assigned a identity) = true
is_assigned _ = false

abbrev pub is_device : Piece → Bool
is_device (Piece.Device name address waiting) = true
is_device _ = false

abbrev pub is_target : Piece → Bool
is_target (Piece.Target name a) = true
is_target _ = false

abbrev pub is_entry : Piece → Bool
is_entry (Piece.Entry count r) = true
is_entry _ = false

abbrev pub is_description : Piece → Bool
is_description (Piece.Description device) = true
is_description _ = false

abbrev pub is_tenure : Piece → Bool
is_tenure (Piece.Tenure slot from to) = true
is_tenure _ = false

-- whether a piece is an item of an array
abbrev pub is_item : Array → Piece → Bool
is_item Array.Assigned piece = is_assigned piece
is_item Array.Devices piece = is_device piece
is_item Array.Targets piece = is_target piece
is_item Array.Log piece = is_entry piece
is_item Array.Descriptions piece = is_description piece
is_item Array.Tenures piece = is_tenure piece

-- a piece as an item of an array
abbrev pub item_data : Piece → Data
item_data (Piece.Assigned a identity) = assigned_data a identity
item_data (Piece.Device name address waiting) = device_data name address waiting
item_data (Piece.Target name a) = target_data name a
item_data (Piece.Entry count r) = record_data count r
item_data (Piece.Description device) = description_data device
item_data (Piece.Tenure slot from to) = tenure_data slot from to
item_data _ = null

-- the items of an array, in their order
abbrev pub values_of : Array → List Piece → List Data
values_of which [] = []
values_of which (piece ∷ rest) = if is_item which piece then item_data piece ∷ values_of which rest else values_of which rest

-- an array, unless it is empty
abbrev pub put_items : List ℕ → List Data → Members → Members
put_items key [] members = members
put_items key (value ∷ more) members = put key (array (items_of (value ∷ more))) members

-- the arrays that pieces are items of
abbrev pub put_arrays : List Piece → Members → Members
put_arrays pieces members =
    put_items (codes "tenures") (values_of Array.Tenures pieces) (put_items (codes "descriptions") (values_of Array.Descriptions pieces) (put_items (codes "log") (values_of Array.Log pieces) (put_items (codes "targets") (values_of Array.Targets pieces) (put_items (codes "devices") (values_of Array.Devices pieces) (put_items (codes "assigned") (values_of Array.Assigned pieces) members)))))

-- the lines of symbols, the first of which began with this text; no other piece is printed here
abbrev pub symbol_lines : List ℕ → List Piece → List (List ℕ)
symbol_lines line [] = []
symbol_lines line (Piece.FirstSymbol symbol ∷ rest) = symbol_lines (line ++ piece_text (Piece.FirstSymbol symbol)) rest
symbol_lines line (Piece.Symbol symbol ∷ rest) = symbol_lines (line ++ piece_text (Piece.Symbol symbol)) rest
symbol_lines line (Piece.SymbolsEnd ∷ rest) = line ∷ symbol_lines [] rest
symbol_lines line (_ ∷ rest) = symbol_lines line rest

-- the fields that the pieces of a line fill
abbrev pub put_pieces : List Piece → Members → Members
put_pieces pieces members = put_items (codes "told") (map text_data (symbol_lines [] pieces)) (put_arrays pieces (put_fields pieces members))
