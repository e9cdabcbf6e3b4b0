-- What the definitions on terms give for a term with these key values, form by form.
use Rattle.std.specs.Prelude.{◌≡◌, ℕ, suc, List, map, Option, Some}
use Rattle.std.specs.Option.{option_map}
use Rattle.mof_metamodel.specs.declared.desc.ClassId.{ClassId}
use Rattle.object_tables.specs.Models.{ModelData}
use Rattle.qv_syntax.specs.declared.program.Program.{Program}
use Rattle.qvtr_semantics.specs.declared.datum.Datum.{Datum}
use Rattle.repair_semantics.specs.declared.term.Term.{Term, roll-Term, fold-roll-Term}
use Rattle.repair_semantics.specs.declared.term.TermValue.{TermValue, roll-TermValue, fold-TermValue, fold-roll-TermValue}
use Rattle.repair_semantics.specs.declared.term.TermValue.TheOpen as of
use Rattle.repair_semantics.specs.Terms.{ValueOrder, TermOrder, value_height, term_height, height, greatest, value_against, terms_against, term_order, value_order}
use Rattle.repair_semantics.specs.Claims.{Held}
use Rattle.repair_semantics.specs.Images.{value_image, term_image, image}

-- ---- heights

abbrev pub height_of_value : TermValue → ℕ
height_of_value = fold-TermValue ℕ ℕ value_height term_height

pub height_is : (class : ClassId) (keys : List TermValue) → height (roll-Term (record { class = class; keys = keys })) ≡ suc (greatest (map height_of_value keys))
height_is class keys = fold-roll-Term ℕ ℕ value_height term_height (record { class = class; keys = keys })

pub height_of_datum : (d : Datum) → height_of_value (roll-TermValue (of.Val d)) ≡ 0
height_of_datum d = fold-roll-TermValue ℕ ℕ value_height term_height (of.Val d)

pub height_of_term : (t : Term) → height_of_value (roll-TermValue (of.Term t)) ≡ height t
height_of_term t = fold-roll-TermValue ℕ ℕ value_height term_height (of.Term t)

-- ---- order

pub order_is : (class : ClassId) (keys : List TermValue)
    → term_order (roll-Term (record { class = class; keys = keys })) ≡ terms_against (record { class = class; keys = map value_order keys })
order_is class keys = fold-roll-Term ValueOrder TermOrder value_against terms_against (record { class = class; keys = keys })

pub order_of_datum : (d : Datum) → value_order (roll-TermValue (of.Val d)) ≡ value_against (of.Val d)
order_of_datum d = fold-roll-TermValue ValueOrder TermOrder value_against terms_against (of.Val d)

pub order_of_term : (t : Term) → value_order (roll-TermValue (of.Term t)) ≡ value_against (of.Term (term_order t))
order_of_term t = fold-roll-TermValue ValueOrder TermOrder value_against terms_against (of.Term t)

-- ---- images

abbrev pub image_of_value : Program → ModelData → TermValue → Option (Held ℕ)
image_of_value program m = fold-TermValue (Option (Held ℕ)) (Option ℕ) value_image (term_image program m)

pub image_is : (program : Program) (m : ModelData) (class : ClassId) (keys : List TermValue)
    → image program m (roll-Term (record { class = class; keys = keys })) ≡ term_image program m (record { class = class; keys = map (image_of_value program m) keys })
image_is program m class keys = fold-roll-Term (Option (Held ℕ)) (Option ℕ) value_image (term_image program m) (record { class = class; keys = keys })

pub image_of_datum : (program : Program) (m : ModelData) (d : Datum) → image_of_value program m (roll-TermValue (of.Val d)) ≡ Some (Held.datum d)
image_of_datum program m d = fold-roll-TermValue (Option (Held ℕ)) (Option ℕ) value_image (term_image program m) (of.Val d)

pub image_of_term : (program : Program) (m : ModelData) (t : Term) → image_of_value program m (roll-TermValue (of.Term t)) ≡ option_map (λ n. Held.object n) (image program m t)
image_of_term program m t = fold-roll-TermValue (Option (Held ℕ)) (Option ℕ) value_image (term_image program m) (of.Term t)
