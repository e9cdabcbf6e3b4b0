-- What claims of one place say against a claim of that place.
use Rattle.std.specs.Prelude.{◌≡◌, ℕ, Bool, true, false, ◌&&◌, ◌||◌, not, List, [], ◌∷◌, ◌++◌, filter}
use Rattle.std.specs.List.{list_any}
use Rattle.std.proofs.Common.{refl, sym, ap, ◌∙◌}
use Rattle.std.proofs.lemmas.List.Folds.{list_any-append}
use Rattle.mof_metamodel.proofs.Facts.{or_false}
use Rattle.mof_metamodel.specs.declared.desc.MetaDesc.{MetaDesc}
use Rattle.repair_semantics.specs.Claims.{Spot, Said, Claim, part_claim, same_spot, same_said, is_single_spot, are_against}
use Rattle.repair_semantics.specs.Images.{same_number}
use Rattle.slot_claims.specs.ObjectClaims.{is_of_spot, says_otherwise, is_one_against}
use Rattle.slot_claims.proofs.ListLaws.{any_filtered}

-- those of the place that say something else
pub otherwise_there : (s : Spot ℕ) (a : Said ℕ) (cs there : List (Claim ℕ)) → there ≡ filter (is_of_spot s) cs
    → list_any (λ c. not (same_said same_number a c.said)) there ≡ list_any (says_otherwise s a) cs
otherwise_there s a cs there is =
    ap (list_any (λ c. not (same_said same_number a c.said))) is ∙ any_filtered (is_of_spot s) (λ c. not (same_said same_number a c.said)) cs

-- a claim is against such ones, if at most one thing stands at its place
pub single_against : (meta : MetaDesc) (c : Claim ℕ) (cs : List (Claim ℕ))
    → (is_single_spot meta c.spot && list_any (says_otherwise c.spot c.said) cs) ≡ list_any (are_against meta same_number c) cs
single_against meta c [] = by (is_single_spot meta c.spot)
  where
    by : (b : Bool) → (b && false) ≡ false
    by true = refl
    by false = refl
single_against meta c (d ∷ cs) =
    by (same_spot same_number c.spot d.spot) (is_single_spot meta c.spot) (not (same_said same_number c.said d.said))
    (list_any (says_otherwise c.spot c.said) cs)
    ∙ ap (λ b. are_against meta same_number c d || b) (single_against meta c cs)
  where
    by : (s one differ later : Bool) → (one && ((s && differ) || later)) ≡ ((s && one && differ) || (one && later))
    by true true differ later = refl
    by true false differ later = refl
    by false true differ later = refl
    by false false differ later = refl

pub single_then : (meta : MetaDesc) (c : Claim ℕ) (cs : List (Claim ℕ)) (one says : Bool) → one ≡ is_single_spot meta c.spot → one ≡ true
    → says ≡ list_any (says_otherwise c.spot c.said) cs
    → says ≡ list_any (are_against meta same_number c) cs
single_then meta c cs one says one_is holds says_is =
    says_is ∙ ap (λ b. b && list_any (says_otherwise c.spot c.said) cs) (sym holds ∙ one_is) ∙ single_against meta c cs

pub single_else : (meta : MetaDesc) (c : Claim ℕ) (cs : List (Claim ℕ)) (one : Bool) → one ≡ is_single_spot meta c.spot → one ≡ false
    → one ≡ list_any (are_against meta same_number c) cs
single_else meta c cs one one_is fails =
    fails ∙ ap (λ b. b && list_any (says_otherwise c.spot c.said) cs) (sym fails ∙ one_is) ∙ single_against meta c cs

-- the container that a link gives to a part, if the property is composite
pub part_against : (meta : MetaDesc) (composite : Bool) (part whole p : ℕ) (cs : List (Claim ℕ))
    → (composite && list_any (says_otherwise (Spot.container part) (Said.within whole p)) cs)
    ≡ is_one_against meta cs (part_claim composite part whole p)
part_against meta false part whole p cs = refl
part_against meta true part whole p cs =
    single_against meta (record { spot = Spot.container part; said = Said.within whole p }) cs
    ∙ sym (or_false (list_any (are_against meta same_number (record { spot = Spot.container part; said = Said.within whole p })) cs))

-- claims of two lists
pub both_against : (meta : MetaDesc) (cs ones others : List (Claim ℕ))
    → is_one_against meta cs (ones ++ others) ≡ (is_one_against meta cs ones || is_one_against meta cs others)
both_against meta cs ones others = list_any-append (λ c. list_any (are_against meta same_number c) cs) ones others
