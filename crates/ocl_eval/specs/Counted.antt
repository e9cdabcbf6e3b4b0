-- The number of a String's characters.
use Rattle.std.specs.Prelude.{◌≡◌, ℕ, length, IfSome}
use Rattle.qvtr_semantics.specs.declared.out.Out.{Out}
use Rattle.qvtr_semantics.specs.Outs.{string_of}

-- if the value is a String, it has so many characters
abbrev pub IsCounted : Out → ℕ → Type 0
IsCounted x count = IfSome (string_of x) (λ s. count ≡ length s)
