-- Texts with a comma between, one after the other.
use Rattle.std.specs.Prelude.{◌≡◌, ℕ, zero, suc, ◌+◌, List, [], ◌∷◌, ◌++◌, codes}
use Rattle.std.specs.List.{flat_map}
use Rattle.std.proofs.Common.{refl, sym, ap, ◌∙◌, append_assoc, add-one}
use Rattle.std.proofs.lemmas.List.{append-nil}
use Rattle.entry_texts.specs.Commas.{comma, listed_from}

listed_next : (k : ℕ) (text : List ℕ) (more : List (List ℕ)) → listed_from k (text ∷ more) ≡ comma k ++ (text ++ listed_from (suc k) more)
listed_next zero text more = refl
listed_next (suc k) text more = append_assoc (codes ", ") text (flat_map (λ t. codes ", " ++ t) more)

-- one more of the texts that are left
pub listed_more : (k : ℕ) (out text : List ℕ) (left more : List (List ℕ)) → left ≡ text ∷ more → ((out ++ comma k) ++ text) ++ listed_from (k + 1) more ≡ out ++ listed_from k left
listed_more k out text left more is =
    ap (λ n. ((out ++ comma k) ++ text) ++ listed_from n more) (add-one k)
    ∙ append_assoc (out ++ comma k) text (listed_from (suc k) more)
    ∙ append_assoc out (comma k) (text ++ listed_from (suc k) more)
    ∙ ap (λ rest. out ++ rest) (sym (ap (listed_from k) is ∙ listed_next k text more))

none_listed : (k : ℕ) → listed_from k [] ≡ []
none_listed zero = refl
none_listed (suc k) = refl

-- nothing is left
pub listed_all : (k : ℕ) (out : List ℕ) (left : List (List ℕ)) → left ≡ [] → out ≡ out ++ listed_from k left
listed_all k out left is = sym (append-nil out) ∙ ap (λ rest. out ++ rest) (sym (ap (listed_from k) is ∙ none_listed k))
