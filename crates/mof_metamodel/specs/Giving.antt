-- What a call gives that may also run out of memory.
use Rattle.std.specs.Prelude.{◌≡◌, Option, Result, Ok, Err, IfSome}

-- The answer, seen by `view`, is what is meant, unless memory ran out: an error that holds a fault holds the one that is meant, and
-- one that holds none says nothing.
abbrev pub Gives : {X Y E F : Type 0} → (E → Option F) → (X → Y) → Result X E → Result Y F → Type 0
Gives fault_of view (Ok x) meaning = meaning ≡ Ok (view x)
Gives fault_of view (Err e) meaning = IfSome (fault_of e) (λ fault. meaning ≡ Err fault)
