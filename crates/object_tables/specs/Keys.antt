-- What the identifiers of a model are hashed after.
use Rattle.std.specs.Prelude.{ℕ, List}
use Rattle.std.specs.Hash.DefaultHasher as sip
use Rattle.object_tables.specs.declared.keys.HashKey.{HashKey}

-- nothing stands before an identifier
abbrev pub no_key : HashKey
no_key = record { start = sip.initial }

-- these bytes stand before it besides
abbrev pub after : HashKey → List ℕ → HashKey
after key bytes = record { start = sip.write key.start bytes }

-- the hash of a text of these bytes
abbrev pub hash_after : HashKey → List ℕ → ℕ
hash_after key bytes = sip.finish (sip.write key.start bytes)
