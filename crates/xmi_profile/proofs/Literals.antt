-- Characters of the words of the profile.
use Rattle.std.proofs.Common.{◌≡◌, refl}
use Rattle.std.specs.Prelude.{codes}
use Rattle.std.specs.Str.{chars, IsUtf8}

pub document : chars (codes "xmi:XMI") ≡ codes "xmi:XMI"
unfolding chars
document = refl

pub extension : chars (codes "xmi:Extension") ≡ codes "xmi:Extension"
unfolding chars
extension = refl

pub documentation : chars (codes "xmi:Documentation") ≡ codes "xmi:Documentation"
unfolding chars
documentation = refl

pub identifier : chars (codes "xmi:id") ≡ codes "xmi:id"
unfolding chars
identifier = refl

pub xmi_type : chars (codes "xmi:type") ≡ codes "xmi:type"
unfolding chars
xmi_type = refl

pub xsi_type : chars (codes "xsi:type") ≡ codes "xsi:type"
unfolding chars
xsi_type = refl

pub reference : chars (codes "xmi:idref") ≡ codes "xmi:idref"
unfolding chars
reference = refl

pub nil : chars (codes "xsi:nil") ≡ codes "xsi:nil"
unfolding chars
nil = refl

pub href : chars (codes "href") ≡ codes "href"
unfolding chars
href = refl

pub declaration : chars (codes "xmlns") ≡ codes "xmlns"
unfolding chars
declaration = refl

pub truth : chars (codes "true") ≡ codes "true"
unfolding chars
truth = refl

pub primitive : chars (codes "PrimitiveType") ≡ codes "PrimitiveType"
unfolding chars
primitive = refl

pub string : chars (codes "String") ≡ codes "String"
unfolding chars
string = refl

pub integer : chars (codes "Integer") ≡ codes "Integer"
unfolding chars
integer = refl

pub boolean : chars (codes "Boolean") ≡ codes "Boolean"
unfolding chars
boolean = refl

pub xmi_prefix : IsUtf8 (codes "xmi:") × (chars (codes "xmi:") ≡ codes "xmi:")
unfolding chars lib.Utf8.encode
xmi_prefix = ((codes "xmi:", (refl, refl)), refl)

pub xsi_prefix : IsUtf8 (codes "xsi:") × (chars (codes "xsi:") ≡ codes "xsi:")
unfolding chars lib.Utf8.encode
xsi_prefix = ((codes "xsi:", (refl, refl)), refl)

pub xmlns_prefix : IsUtf8 (codes "xmlns:") × (chars (codes "xmlns:") ≡ codes "xmlns:")
unfolding chars lib.Utf8.encode
xmlns_prefix = ((codes "xmlns:", (refl, refl)), refl)

pub hash : IsUtf8 (codes "#") × (chars (codes "#") ≡ codes "#")
unfolding chars lib.Utf8.encode
hash = ((codes "#", (refl, refl)), refl)

pub dash : chars (codes "-") ≡ codes "-"
unfolding chars
dash = refl

pub one : chars (codes "1") ≡ codes "1"
unfolding chars
one = refl

pub zero : chars (codes "0") ≡ codes "0"
unfolding chars
zero = refl

pub falsehood : chars (codes "false") ≡ codes "false"
unfolding chars
falsehood = refl

pub underscore : chars (codes "_") ≡ codes "_"
unfolding chars
underscore = refl

pub name : chars (codes "name") ≡ codes "name"
unfolding chars
name = refl
