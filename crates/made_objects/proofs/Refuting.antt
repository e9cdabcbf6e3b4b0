-- Wrong answers that the definitions exclude: of two schemas the second one goes, and of two terms the first one has an image.
use Rattle.std.specs.Prelude.{◌≡◌, ℕ, true, false, List, [], ◌∷◌, None, Some}
use Rattle.std.proofs.Common.{refl}
use Rattle.object_tables.specs.Models.{ModelData}
use Rattle.qvtr_semantics.specs.SmallModels.{two_schemas, one_schema}
use Rattle.made_objects.specs.Making.{is_staying}
use Rattle.made_objects.specs.Headers.{KeepsWhere, header_at}
use Rattle.made_objects.specs.Numbers.{unknown_in}

-- an object stays that goes
pub all_objects_stay : KeepsWhere two_schemas (is_staying (true ∷ false ∷ [])) two_schemas → ⊥
all_objects_stay keeps = let e = keeps.headers 1 in cc

pub second_is_fresh : unknown_in (Some (record { 0 = 7 }) ∷ None ∷ []) (0 ∷ 1 ∷ []) ≡ 1 ∷ []
second_is_fresh = refl

-- a term with an image gets a fresh object too
pub terms_with_an_image_are_fresh : unknown_in (Some (record { 0 = 7 }) ∷ None ∷ []) (0 ∷ 1 ∷ []) ≡ 0 ∷ 1 ∷ [] → ⊥
terms_with_an_image_are_fresh e = cc
