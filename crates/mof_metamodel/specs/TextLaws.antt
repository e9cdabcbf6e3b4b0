-- A text as its characters and as its bytes.
use Rattle.std.proofs.Common.{◌≡◌, ℕ, List, [], ◌∷◌, ◌++◌, refl, sym, ◌∙◌, ap, append-nil, true, arith}
use Rattle.std.specs.Prelude.{◌==◌, length, nat_eq, encode_utf8_all, chars, encode_utf8}
use Rattle.std.specs.Str.{IsUtf8}
use Rattle.std.specs.Char.{IsScalar}
use Rattle.std.specs.Hash as fed
use Rattle.std.specs.Cmp.{IsTotalOrder, both_ways, on_total}
use Rattle.std.specs.Cmp.Lexicographic.{pointwise, bytes_decides, nat_list_cmp_total, texts_ties}
use Rattle.std.specs.Ordering.{eq_by_cmp}
use Rattle.mof_metamodel.specs.Characters.{text_cmp}
use Rattle.std.proofs.lemmas.Str.{encodes-chars, chars-append, chars_from_encodes, encodes_same, IsUtf8-encode, length-le-encodes}
use Rattle.std.proofs.lemmas.Bool.{eqb-true, ne_eqb}
use Rattle.std.proofs.lemmas.List.{nil_from_length}
use Rattle.std.proofs.Math.Dec.{eqb-suc-zero}

-- two texts of the same characters have the same bytes
pub bytes_same : (xs bs : List ℕ) → IsUtf8 xs → IsUtf8 bs → chars xs ≡ chars bs → xs ≡ bs
bytes_same xs bs ua ub e = sym (encodes-chars xs ua) ∙ ap encode_utf8_all e ∙ encodes-chars bs ub

-- one more character is the bytes that encode it
pub chars_push : (bs : List ℕ) (c : ℕ) → IsUtf8 bs → IsScalar c → chars (bs ++ encode_utf8 c) ≡ chars bs ++ c ∷ []
chars_push bs c u s = chars-append bs (encode_utf8 c) u ∙ ap (λ cs. chars bs ++ cs) (sym (chars_from_encodes (c ∷ []) (encode_utf8 c) (IsUtf8-encode c s) (append-nil (encode_utf8 c))))

-- a list of characters is empty exactly where it has no bytes
pub empty_same : (cs : List ℕ) → (length (encode_utf8_all cs) == 0) ≡ (length cs == 0)
empty_same [] = refl
empty_same (c ∷ cs) = ne_eqb _ _ (λ e. absurd (omega (arith, length-le-encodes (c ∷ cs), e))) ∙ sym (eqb-suc-zero (length cs))

-- and exactly where it is the empty list
pub empty_is : (cs : List ℕ) → ((length cs == 0) ≡ true → cs ≡ []) × (cs ≡ [] → (length cs == 0) ≡ true)
empty_is cs = (λ h. nil_from_length cs (eqb-true (length cs) 0 h), λ h. ap (λ xs. length xs == 0) h)

-- two lists of characters are equal exactly where their encodings are
pub equal_encodings : (xs ys : List ℕ) → pointwise nat_eq xs ys ≡ pointwise nat_eq (encode_utf8_all xs) (encode_utf8_all ys)
equal_encodings xs ys = both_ways _ _
    (λ e. (bytes_decides (encode_utf8_all xs) (encode_utf8_all ys)).1 (ap encode_utf8_all ((bytes_decides xs ys).0 e)))
    (λ e. (bytes_decides xs ys).1 (encodes_same xs ys ((bytes_decides (encode_utf8_all xs) (encode_utf8_all ys)).0 e)))

-- texts are in the order of their bytes
pub texts_total : IsTotalOrder text_cmp
texts_total = on_total encode_utf8_all nat_list_cmp_total

-- and tie exactly where they are equal
pub text_ties : (xs ys : List ℕ) → pointwise nat_eq xs ys ≡ eq_by_cmp text_cmp xs ys
text_ties xs ys = equal_encodings xs ys ∙ texts_ties (encode_utf8_all xs) (encode_utf8_all ys)

-- equal texts feed a hasher alike
pub hashed_alike : (xs ys : List ℕ) → pointwise nat_eq xs ys ≡ true → fed.str (encode_utf8_all xs) ≡ fed.str (encode_utf8_all ys)
hashed_alike xs ys e = ap (λ t. fed.str (encode_utf8_all t)) ((bytes_decides xs ys).0 e)
