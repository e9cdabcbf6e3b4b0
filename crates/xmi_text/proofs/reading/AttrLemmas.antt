-- The names of the attributes against an ordered set of them.
use Rattle.std.proofs.Common.{◌≡◌, ℕ, Bool, true, false, cond, List, [], ◌∷◌, ◌++◌, refl, sym, ◌∙◌, ap}
use Rattle.std.specs.Prelude.{◌||◌, nat_eq}
use Rattle.std.specs.Cmp.Lexicographic.{pointwise}
use Rattle.std.specs.BTreeMap.{is_at}
use Rattle.mof_metamodel.specs.Characters.{text_cmp}
use Rattle.mof_metamodel.specs.TextLaws.{text_ties}
use Rattle.xmi_text.specs.declared.mark.Attr.{Attr}
use Rattle.xmi_text.specs.AttrNames.{has_name}
use Rattle.mof_metamodel.proofs.Facts.{or_false}

or_last : (x y z : Bool) → (x || (y || z)) ≡ ((x || y) || z)
or_last true y z = refl
or_last false y z = refl

or_swap : (x y : Bool) → (x || y) ≡ cond y true x
or_swap true true = refl
or_swap true false = refl
or_swap false true = refl
or_swap false false = refl

-- one more attribute
pub has_name-push : (items : List Attr) (a : Attr) (q : List ℕ) → has_name (items ++ a ∷ []) q ≡ (has_name items q || pointwise nat_eq a.name q)
has_name-push [] a q = or_false (pointwise nat_eq a.name q)
has_name-push (x ∷ items) a q = ap (λ b. pointwise nat_eq x.name q || b) (has_name-push items a q) ∙ or_last (pointwise nat_eq x.name q) (has_name items q) (pointwise nat_eq a.name q)

-- one more name in the set
pub has_after : (items : List Attr) (a : Attr) (q key : List ℕ) (before after : Bool) → key ≡ a.name → before ≡ has_name items q → after ≡ cond (is_at (text_cmp key) q) true before → after ≡ has_name (items ++ a ∷ []) q
has_after items a q key before after e was now =
    now ∙ ap (λ b. cond (is_at (text_cmp key) q) true b) was
    ∙ ap (λ b. cond b true (has_name items q)) (sym (text_ties key q))
    ∙ ap (λ k. cond (pointwise nat_eq k q) true (has_name items q)) e
    ∙ sym (or_swap (has_name items q) (pointwise nat_eq a.name q))
    ∙ sym (has_name-push items a q)
