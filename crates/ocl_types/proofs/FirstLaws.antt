-- The first that passes a test, one by one.
use Rattle.std.proofs.Common.{◌≡◌, ◌<◌, ◌-◌, Bool, false, List, [], ◌∷◌, Option, length, take, drop, get_or, sym, ap, ◌∙◌, arith}
use Rattle.std.specs.List.{find}
use Rattle.std.proofs.lemmas.Bool.{cond-false}
use Rattle.std.proofs.lemmas.List.{take_all}

-- where the first item doesn't pass, it is among those behind it
pub found_behind : {X : Type 0} (r : Option X) (p : X → Bool) (xs : List X) (d : X) → 0 < length xs → p (get_or xs 0 d) ≡ false
    → r ≡ find p (take (length xs - 1) (drop 1 xs)) → r ≡ find p xs
found_behind r p [] d some fails behind = absurd (omega arith)
found_behind r p (x ∷ xs) d some fails behind = behind ∙ ap (find p) (take_all (length (x ∷ xs) - 1) xs (omega arith)) ∙ sym (cond-false _ _ _ fails)
