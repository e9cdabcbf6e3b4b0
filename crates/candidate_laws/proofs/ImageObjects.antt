-- The image of a term is an object of the target that conforms to the term's class.
use Rattle.std.specs.Prelude.{◌≡◌, ◌<◌, ℕ, true, List, [], ◌∷◌, map, length, Option, None, Some, Contains}
use Rattle.std.specs.List.{filter, range_with_len}
use Rattle.std.proofs.Common.{ap, sym, ◌∙◌, subst, arith}
use Rattle.std.proofs.lemmas.Option.{none-some, same_Some}
use Rattle.mof_metamodel.specs.declared.desc.PropId.{PropId}
use Rattle.mof_metamodel.proofs.Facts.{contains_first}
use Rattle.object_tables.specs.Models.{ModelData}
use Rattle.qv_syntax.specs.declared.program.Program.{Program}
use Rattle.qvtr_semantics.specs.Objects.{conforms_at, extent_of}
use Rattle.repair_semantics.specs.declared.term.Term.{Term, out-Term, roll-out-Term}
use Rattle.repair_semantics.specs.TargetItems.{key_of}
use Rattle.repair_semantics.specs.Claims.{Held}
use Rattle.repair_semantics.specs.Images.{holds_key, first_number, object_with_key, image}
use Rattle.repair_semantics.proofs.TermLaws.{image_of_value, image_is}
use Rattle.candidate_laws.proofs.Lists.{from_filter, within_range}

first_in : (ns : List ℕ) (o : ℕ) → first_number ns ≡ Some o → Contains ns o
first_in [] o h = absurd (none-some o h)
first_in (n ∷ ns) o h = subst (λ k. Contains (k ∷ ns) o) (sym (same_Some n o h)) (contains_first o ns)

module _ (program : Program) (m : ModelData) where
  found : (class : ℕ) (hs : List (Option (Held ℕ))) (o : ℕ) (ps : Option (List PropId)) → object_with_key program m class hs ps ≡ Some o
      → Contains (extent_of m class) o
  found class hs o None h = absurd (none-some o h)
  found class hs o (Some ps) h = (from_filter (λ a. holds_key program m a ps hs) (extent_of m class) o
      (first_in (filter (λ a. holds_key program m a ps hs) (extent_of m class)) o h)).0

  in_extent : (t : Term) (o : ℕ) → image program m t ≡ Some o → Contains (extent_of m (out-Term t).class.0) o
  in_extent t o h =
      found (out-Term t).class.0 (map (image_of_value program m) (out-Term t).keys) o (key_of program (out-Term t).class.0)
      (sym (image_is program m (out-Term t).class (out-Term t).keys) ∙ ap (image program m) (roll-out-Term t) ∙ h)

  pub image_conforms : (t : Term) (o : ℕ) → image program m t ≡ Some o → conforms_at m (out-Term t).class.0 o ≡ true
  image_conforms t o h = (from_filter (conforms_at m (out-Term t).class.0) (range_with_len 0 (length m.objects)) o (in_extent t o h)).1

  pub image_within : (t : Term) (o : ℕ) → image program m t ≡ Some o → o < length m.objects
  image_within t o h =
      let bounds = within_range 0 (length m.objects) o
      (from_filter (conforms_at m (out-Term t).class.0) (range_with_len 0 (length m.objects)) o (in_extent t o h)).0 in
      omega (arith, bounds.1)
