-- A text as a trace: its one value of JSON (RFC 8259), in UTF-8 and with no byte order mark, has the form of a trace.
use Rattle.std.specs.Prelude.{◌≡◌, ℕ, List, Option, None, Some, Err, if◌then◌else◌}
use Rattle.std.specs.Str.{is_utf8}
use Rattle.serde_json.specs.Data.{Data}
use Rattle.serde_json.specs.Read.{read}
use Rattle.trace_log.specs.declared.trace.Trace.{Trace}
use Rattle.trace_log.specs.declared.trace.TraceError.{TraceError}
use Rattle.trace_log.specs.declared.trace.TraceError.TheVariants as errors
use Rattle.trace_log.specs.Readings.{Path}
use Rattle.trace_log.specs.TraceEntries.{trace_of}
use Rattle.trace_log.specs.TraceForms.{IsTrace}

-- the value that bytes are, if they are one
abbrev pub value_in : List ℕ → Option Data
value_in bytes = if is_utf8 bytes then read bytes else None

-- the bytes are a value that is this trace
pub record SpellsTrace (bytes : List ℕ) (trace : Trace) : Type 0 where
  pub value : Data
  pub read : value_in bytes ≡ Some value
  pub form : IsTrace value trace

-- the bytes are a value in which this place is the first that isn't of the form of a trace
pub record IsAmissAt (bytes : List ℕ) (path : Path) : Type 0 where
  pub value : Data
  pub read : value_in bytes ≡ Some value
  pub first : trace_of value ≡ Err path

-- why bytes are no trace; that memory ran out says nothing
abbrev pub IsWhy : List ℕ → TraceError → Type 0
IsWhy bytes errors.Syntax = value_in bytes ≡ None
IsWhy bytes (errors.Shape path) = IsAmissAt bytes path
IsWhy bytes errors.NoMemory = Unit {0}

-- why bytes are no value
abbrev pub IsUnread : List ℕ → TraceError → Type 0
IsUnread bytes errors.Syntax = value_in bytes ≡ None
IsUnread bytes (errors.Shape path) = ⊥
IsUnread bytes errors.NoMemory = Unit {0}
