-- Wrong images that the definitions exclude, each on a small case.
use Rattle.std.specs.Prelude.{◌≡◌, ℕ, [], ◌∷◌, codes, Option, None, Some}
use Rattle.std.proofs.Common.{refl, sym, ap, ◌∙◌, arith}
use Rattle.std.proofs.lemmas.Option.{same_Some}
use Rattle.repair_semantics.specs.Images.{image}
use Rattle.repair_semantics.specs.SmallRepairs.{two_relations, twice, schema}
use Rattle.repair_semantics.proofs.RepairRows.{first_is_image}
use Rattle.term_table.specs.declared.numbered.NumberedValue.{NumberedValue}
use Rattle.term_table.specs.declared.numbered.NumberedValue.TheVariants.{Val, Term}
use Rattle.term_images.specs.FoundImages.{key_image}

-- of two schemas `a` the last one
pub last_object : image two_relations twice (schema (codes "a")) ≡ Some 1 → ⊥
last_object e = let apart : 0 ≡ 1 = same_Some 0 1 (sym first_is_image ∙ e) in omega (arith, apart)

-- ---- a key value: the term 0, whose image is the object 7

pub by_its_image : key_image (Some (record { 0 = 7 }) ∷ []) (Term 0) ≡ Some (Term 7)
by_its_image = refl

abbrev number_in : Option NumberedValue → ℕ
number_in None = 0
number_in (Some (Val d)) = 0
number_in (Some (Term n)) = n

-- the number of the term in place of the object's
pub term_by_its_number : key_image (Some (record { 0 = 7 }) ∷ []) (Term 0) ≡ Some (Term 0) → ⊥
term_by_its_number e = let apart : 7 ≡ 0 = ap number_in e in omega (arith, apart)
