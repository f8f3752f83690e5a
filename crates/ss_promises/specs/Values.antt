-- What the types of requests, accounts and replies say of their values.
use Rattle.std.specs.Prelude.{◌≡◌, ℕ, ℤ, ◌^◌, ◌<◌, ◌≤◌, true, List, All, ⊤}
use Rattle.std.specs.Int.Signed.{mag}
use Rattle.std.specs.Str.{IsUtf8}
use Rattle.ss_text.specs.Names.{is_id}
use Rattle.ss_text.specs.Time.{last_stamp}
use Rattle.ss_bso.specs.declared.account.Plain.{Plain}
use Rattle.ss_bso.specs.declared.account.Staged.{Staged}
use Rattle.ss_bso.specs.declared.parts.Field.{Field}
use Rattle.ss_bso.specs.declared.parts.Field.TheVariants.{Keep, Clear, Set}
use Rattle.ss_bso.specs.declared.parts.Fields.{Fields}
use Rattle.ss_bso.specs.declared.parts.Part.{Part}
use Rattle.ss_bso.specs.Validity.{IsValid}
use Rattle.ss_query.specs.declared.requests.Request.{Request}
use Rattle.ss_query.specs.declared.requests.Request.TheVariants.{Post, Put}
use Rattle.ss_query.specs.Refused.{collection_time}
use Rattle.ss_bso.specs.Put.{payload_set}
use Rattle.ss_serving.specs.Bookmarks.{bookmarks}
use Rattle.ss_serving.specs.Typed.{IsTypedRow}

-- a record of a request: its id has the form of one, and the payload that it sets is a text
abbrev pub IsTypedPart : Part → Type 0
IsTypedPart part = (is_id part.id ≡ true) × IsUtf8 (payload_set part.fields.payload)

-- a valid account whose rows have the values of their types; the bookmarks' time is one, also where it is that of the last deletion
pub record IsTypedAccount (account : Plain) : Type 0 where
  pub valid : IsValid account
  pub time : collection_time account bookmarks ≤ last_stamp
  pub rows : All IsTypedRow account.rows

-- ---- what stays so

-- a sortindex that is set is one of 32 bits
abbrev pub IsTypedIndex : Field ℤ → Type 0
IsTypedIndex Keep = ⊤
IsTypedIndex Clear = ⊤
IsTypedIndex (Set index) = mag index < 2 ^ 31

-- what is put for an id
pub record IsTypedPut (id : List ℕ) (fields : Fields) : Type 0 where
  pub form : is_id id ≡ true
  pub text : IsUtf8 (payload_set fields.payload)
  pub index : IsTypedIndex fields.sortindex

abbrev pub IsTypedRecord : Part → Type 0
IsTypedRecord part = IsTypedPut part.id part.fields

-- a request whose records have the values of their types
abbrev pub IsTypedAsk : Request → Type 0
IsTypedAsk (Post collection records mode cond) = All IsTypedRecord records.parts
IsTypedAsk (Put collection id fields cond) = IsTypedPut id fields
IsTypedAsk _ = ⊤

abbrev pub IsTypedBatch : Staged → Type 0
IsTypedBatch batch = All IsTypedRecord batch.parts

-- such an account that stays one: the time of the last deletion is one, and what its batches hold has the values of its types too
pub record StaysTyped (account : Plain) : Type 0 where
  pub valid : IsValid account
  pub deleted : account.last_delete ≤ last_stamp
  pub rows : All IsTypedRow account.rows
  pub batches : All IsTypedBatch account.batches
