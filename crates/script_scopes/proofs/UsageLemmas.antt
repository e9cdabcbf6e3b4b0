-- The name of the extent's operation, by its characters and by its bytes.
use Rattle.std.proofs.Common.{◌≡◌, true, List, ℕ, refl, sym, ◌∙◌, ap}
use Rattle.std.specs.Prelude.{codes, encode_utf8_all}
use Rattle.std.specs.Cmp.{both_ways}
use Rattle.std.specs.Cmp.Lexicographic.{bytes_decides}
use Rattle.std.specs.Str.{chars}
use Rattle.std.proofs.lemmas.Str.{encodes_same}
use Rattle.ocl_types.specs.Typing as typing
use Rattle.script_scopes.specs.Usages.{is_all_instances}

pub all_instances_characters : chars (codes "allInstances") ≡ codes "allInstances"
unfolding chars
all_instances_characters = refl

all_instances_bytes : encode_utf8_all (codes "allInstances") ≡ codes "allInstances"
unfolding lib.Utf8.encode
all_instances_bytes = refl

-- the typing of expressions compares bytes
pub all_instances_alike : (name : List ℕ) → typing.is_all_instances name ≡ is_all_instances name
unfolding typing.is_all_instances
all_instances_alike name = both_ways _ _
    (λ h. (bytes_decides (codes "allInstances") name).1 (sym (encodes_same name (codes "allInstances") ((bytes_decides (encode_utf8_all name) (codes "allInstances")).0 h ∙ sym all_instances_bytes))))
    (λ h. (bytes_decides (encode_utf8_all name) (codes "allInstances")).1 (sym (ap encode_utf8_all ((bytes_decides (codes "allInstances") name).0 h)) ∙ all_instances_bytes))
