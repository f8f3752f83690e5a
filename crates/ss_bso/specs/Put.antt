-- What a request's part makes of a row (SyncStorage API 1.5: a field that isn't given stays).
use Rattle.std.specs.Prelude.{ℕ, ◌+◌, ◌*◌, List, [], Option, Some, None, option_and_then}
use Rattle.std.specs.Option.{option_map_or}
use Rattle.ss_bso.specs.declared.rows.Row.{Row}
use Rattle.ss_bso.specs.declared.parts.Part.{Part}
use Rattle.ss_bso.specs.declared.parts.Field.{Field}
use Rattle.ss_bso.specs.declared.parts.Field.TheVariants.{Keep, Clear, Set}

-- a field's value: what was kept, the default, or the new value
abbrev pub field_value : {S T : Type 0} → Field S → T → T → (S → T) → T
field_value Keep kept default made = kept
field_value Clear kept default made = default
field_value (Set value) kept default made = made value

-- put: the row that a part makes of the old one, if there is one, at this time;
-- the defaults are the empty text, no sortindex and no expiry, and a ttl in seconds counts from this time
abbrev pub row_after_put : Option Row → List ℕ → Part → ℕ → Row
row_after_put old collection part time = record {
  collection = collection;
  id = part.id;
  modified = time;
  sortindex = field_value part.fields.sortindex (option_and_then (λ row. row.sortindex) old) None (λ index. Some index);
  payload = field_value part.fields.payload (option_map_or (λ row. row.payload) old []) [] (λ text. text);
  expires = field_value part.fields.ttl (option_and_then (λ row. row.expires) old) None (λ seconds. Some (time + 100 * seconds));
}

-- the payload that a part sets
abbrev pub payload_set : Field (List ℕ) → List ℕ
payload_set Keep = []
payload_set Clear = []
payload_set (Set text) = text
