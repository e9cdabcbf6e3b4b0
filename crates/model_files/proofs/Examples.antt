-- Texts of models as JSON, and where values of JSON differ from the form of a model, computed.
use Rattle.std.specs.Prelude.{◌≡◌, true, [], ◌∷◌, ◌++◌, codes, None, Some}
use Rattle.std.specs.Fmt.{decimal}
use Rattle.std.specs.Str.{chars}
use Rattle.std.proofs.Common.{refl}
use Rattle.serde_json.specs.Data.{unsigned, Data, null, boolean, number, string, array, object, item, no_items, member, no_members}
use Rattle.model_files.specs.Shape.{first_amiss}

pub nothing_stands : first_amiss (object no_members) ≡ Some (codes "/metamodel")
unfolding chars
nothing_stands = refl

pub no_object : first_amiss null ≡ Some []
no_object = refl

abbrev model : Data → Data → Data
model objects version = object (member (codes "metamodel") (string (codes "M")) (member (codes "objects") objects (member (codes "version") version no_members)))

abbrev one_object : Data → Data
one_object slots =
    array (item (object (member (codes "class") (string (codes "A")) (member (codes "id") (string (codes "a")) (member (codes "slots") slots no_members)))) no_items)

pub right_form : first_amiss (model (one_object (object (member (codes "name") (array no_items) no_members))) (number (unsigned 1))) ≡ None
right_form = refl

pub another_version : first_amiss (model (array no_items) (number (unsigned 2))) ≡ Some (codes "/version")
unfolding chars
another_version = refl

pub slots_are_a_list : first_amiss (model (one_object (array no_items)) (number (unsigned 2))) ≡ Some ((codes "/objects" ++ 47 ∷ decimal 0) ++ codes "/slots")
unfolding chars
slots_are_a_list = refl

pub slot_is_no_list : first_amiss (model (one_object (object (member (codes "name") (boolean true) no_members))) (number (unsigned 1))) ≡ Some (((codes "/objects" ++ 47 ∷ decimal 0) ++ codes "/slots") ++ codes "/name")
unfolding chars
slot_is_no_list = refl

pub other_member : first_amiss (object (member (codes "extra") null no_members)) ≡ Some (codes "/extra")
unfolding chars
other_member = refl
