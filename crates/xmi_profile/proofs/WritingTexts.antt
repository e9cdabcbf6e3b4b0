-- The characters of what a writer of models writes.
use Rattle.std.proofs.Common.{◌≡◌, codes, refl}
use Rattle.std.specs.Prelude.{ℤ, FitsSigned}
use Rattle.std.specs.Int.{w64}
use Rattle.std.specs.Fmt.{signed_decimal}
use Rattle.std.specs.Str.{chars}
use Rattle.std.proofs.lemmas.Str.{chars-IsAscii}
use Rattle.std.proofs.lemmas.Fmt.{IsAscii-signed}

pub document_characters : chars (codes "xmi:XMI") ≡ codes "xmi:XMI"
unfolding chars
document_characters = refl

pub version_characters : chars (codes "xmi:version") ≡ codes "xmi:version"
unfolding chars
version_characters = refl

pub number_characters : chars (codes "20131001") ≡ codes "20131001"
unfolding chars
number_characters = refl

pub namespace_characters : chars (codes "xmlns:xmi") ≡ codes "xmlns:xmi"
unfolding chars
namespace_characters = refl

pub address_characters : chars (codes "http://www.omg.org/spec/XMI/20131001") ≡ codes "http://www.omg.org/spec/XMI/20131001"
unfolding chars
address_characters = refl

pub prefix_characters : chars (codes "xmlns:m") ≡ codes "xmlns:m"
unfolding chars
prefix_characters = refl

pub id_characters : chars (codes "xmi:id") ≡ codes "xmi:id"
unfolding chars
id_characters = refl

pub type_characters : chars (codes "xmi:type") ≡ codes "xmi:type"
unfolding chars
type_characters = refl

pub typed_characters : chars (codes "m:") ≡ codes "m:"
unfolding chars
typed_characters = refl

pub true_characters : chars (codes "true") ≡ codes "true"
unfolding chars
true_characters = refl

pub false_characters : chars (codes "false") ≡ codes "false"
unfolding chars
false_characters = refl

pub signed_characters : (z : ℤ) → FitsSigned w64 z → chars (signed_decimal z) ≡ signed_decimal z
signed_characters z f = chars-IsAscii (signed_decimal z) (IsAscii-signed z f.sfits)
