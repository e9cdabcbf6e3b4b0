-- No values by number are no values as terms.
use Rattle.std.specs.Prelude.{◌≡◌, ℕ, zero, suc, List, ◌∷◌, replicate, None}
use Rattle.std.proofs.Common.{refl, sym, ap, ◌∙◌}
use Rattle.repair_semantics.specs.declared.term.Term.{Term}
use Rattle.term_table.specs.TermTables.{values_in}
use Rattle.entry_bindings.specs.Asked.{AreWithin}
use Rattle.entry_bindings.proofs.ArgumentLaws.{none_some, none_there}

pub none_shown : (terms : List Term) (n : ℕ) → values_in terms (replicate n None) ≡ replicate n None
none_shown terms zero = refl
none_shown terms (suc n) = ap (λ os. None ∷ os) (none_shown terms n)

pub none_within : (terms : List Term) (n : ℕ) → AreWithin terms (replicate n None)
none_within terms n v x is = absurd (none_some x (sym (none_there n v) ∙ is))
