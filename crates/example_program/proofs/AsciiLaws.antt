-- The characters of an ASCII text are its bytes.
use Rattle.std.proofs.Common.{◌≡◌, ℕ, List}
use Rattle.std.specs.Prelude.{IsTrue, chars}
use Rattle.example_models.specs.Descriptions.{is_ascii}
use Rattle.example_models.proofs.AsciiLaws.{ascii_characters}

pub its_characters : (text : List ℕ) → IsTrue (is_ascii text) → chars text ≡ text
its_characters text e = ascii_characters text e
