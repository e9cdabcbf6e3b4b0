-- Terms tie in their order exactly where they are one: by the terms within them.
use Rattle.std.specs.Prelude.{◌≡◌, ◌↔◌, ℕ, true, List, [], ◌∷◌, map}
use Rattle.std.specs.Cmp.{Equal-is, nat_cmp_is}
use Rattle.std.specs.FinMap.{nat_cmp-IsAntisymmetric}
use Rattle.std.specs.Ordering.{nat_cmp, ordering_then, is_eq}
use Rattle.std.specs.declared.cmp.Ordering.{Ordering}
use Rattle.std.specs.declared.cmp.Ordering.TheVariants.{Less, Equal, Greater}
use Rattle.std.proofs.Common.{refl, ap, sym, ◌∙◌, subst}
use Rattle.qvtr_semantics.specs.declared.datum.Datum.{Datum}
use Rattle.ocl_eval.specs.Order.{datum_order}
use Rattle.ocl_eval.specs.OrderLaws.{ties_where_same, same_decides}
use Rattle.repair_semantics.specs.declared.term.Term.{Term, roll-Term, out-Term, out-roll-Term, roll-out-Term, map-Term, ind-Term}
use Rattle.repair_semantics.specs.declared.term.TermValue.{TermValue, roll-TermValue, out-TermValue, out-roll-TermValue, roll-out-TermValue, map-TermValue}
use Rattle.repair_semantics.specs.declared.term.TermValue.TheOpen as of
use Rattle.repair_semantics.specs.Terms.{ValueOrder, TermOrder, keys_against, datum_against, term_against, terms_against, term_order, value_order, same_term}
use Rattle.repair_semantics.proofs.TermLaws.{order_is, order_of_datum, order_of_term}

-- ---- comparisons in turn

then_equal : (o q : Ordering) → ordering_then o q ≡ Equal → (o ≡ Equal) × (q ≡ Equal)
then_equal Equal q h = (refl, h)
then_equal Less q h = absurd (cc)
then_equal Greater q h = absurd (cc)

both_equal : (o q : Ordering) → o ≡ Equal → q ≡ Equal → ordering_then o q ≡ Equal
both_equal o q a b = ap (λ x. ordering_then x q) a ∙ b

number_ties : (n : ℕ) → nat_cmp n n ≡ Equal
number_ties n = sym (nat_cmp_is n n Equal refl)

data_tie : (d : Datum) → datum_order d d ≡ Equal
data_tie d = (Equal-is (datum_order d d)).0 (sym (ties_where_same d d) ∙ (same_decides d d).1 refl)

tied_data : (d e : Datum) → datum_order d e ≡ Equal → d ≡ e
tied_data d e h = (same_decides d e).0 (ties_where_same d e ∙ ap is_eq h)

-- ---- what ties is one

abbrev ValueTied : TermValue → Type 0
ValueTied x = (w : TermValue) → value_order x w ≡ Equal → x ≡ w

abbrev TermTied : Term → Type 0
TermTied t = (u : Term) → term_order t u ≡ Equal → t ≡ u

abbrev TiedValue : Type 0
TiedValue = (x : TermValue) × ValueTied x

abbrev TiedTerm : Type 0
TiedTerm = (t : Term) × TermTied t

keys_tied : (zs : List TiedValue) (ws : List TermValue) → keys_against (map value_order (map (λ z. z.0) zs)) ws ≡ Equal → map (λ z. z.0) zs ≡ ws
keys_tied [] [] h = refl
keys_tied [] (w ∷ ws) h = absurd (cc)
keys_tied (z ∷ zs) [] h = absurd (cc)
keys_tied (z ∷ zs) (w ∷ ws) h =
    let both = then_equal (value_order z.0 w) (keys_against (map value_order (map (λ z. z.0) zs)) ws) h in
    ap (λ x. x ∷ map (λ z. z.0) zs) (z.1 w both.0) ∙ ap (λ rs. w ∷ rs) (keys_tied zs ws both.1)

term_tied : (z : of.Term-F TiedValue TiedTerm) → TermTied (roll-Term (map-Term TiedValue TiedTerm TermValue Term (λ x. x.0) (λ x. x.0) z))
term_tied z u h =
    let keys : List TermValue = map (λ x. x.0) z.keys in
    let e : terms_against (record { class = z.class; keys = map value_order keys }) u ≡ Equal = sym (ap (λ (f : TermOrder). f u) (order_is z.class keys)) ∙ h in
    let both = then_equal (nat_cmp z.class.0 (out-Term u).class.0) (keys_against (map value_order keys) (out-Term u).keys) e in
    ap (λ n. roll-Term (record { class = record { 0 = n }; keys = keys })) (nat_cmp-IsAntisymmetric z.class.0 (out-Term u).class.0 both.0)
    ∙ ap (λ ks. roll-Term (record { class = (out-Term u).class; keys = ks })) (keys_tied z.keys (out-Term u).keys both.1)
    ∙ roll-out-Term u

value_tied : (z : of.TermValue-F TiedValue TiedTerm) → ValueTied (roll-TermValue (map-TermValue TiedValue TiedTerm TermValue Term (λ x. x.0) (λ x. x.0) z))
value_tied (of.Val d) w h = by (out-TermValue w) refl
  where
    by : (x : of.TermValue-F TermValue Term) → out-TermValue w ≡ x → roll-TermValue (of.Val d) ≡ w
    by (of.Val e) is =
        let tie : datum_order d e ≡ Equal = sym (ap (λ (f : ValueOrder). f w) (order_of_datum d) ∙ ap (datum_against d) is) ∙ h in
        ap (λ k. roll-TermValue (of.Val k)) (tied_data d e tie) ∙ ap roll-TermValue (sym is) ∙ roll-out-TermValue w
    by (of.Term t) is =
        let tie : Less ≡ Equal = sym (ap (λ (f : ValueOrder). f w) (order_of_datum d) ∙ ap (datum_against d) is) ∙ h in
        absurd (cc)
value_tied (of.Term s) w h = by (out-TermValue w) refl
  where
    by : (x : of.TermValue-F TermValue Term) → out-TermValue w ≡ x → roll-TermValue (of.Term s.0) ≡ w
    by (of.Val e) is =
        let tie : Greater ≡ Equal = sym (ap (λ (f : ValueOrder). f w) (order_of_term s.0) ∙ ap (term_against (term_order s.0)) is) ∙ h in
        absurd (cc)
    by (of.Term t) is =
        let tie : term_order s.0 t ≡ Equal = sym (ap (λ (f : ValueOrder). f w) (order_of_term s.0) ∙ ap (term_against (term_order s.0)) is) ∙ h in
        ap (λ k. roll-TermValue (of.Term k)) (s.1 t tie) ∙ ap roll-TermValue (sym is) ∙ roll-out-TermValue w

tied_terms : (t : Term) → TermTied t
tied_terms = ind-Term ValueTied TermTied
    (λ x y is. subst (λ z. ValueTied (roll-TermValue z)) is (value_tied y))
    (λ x y is. subst (λ z. TermTied (roll-Term z)) is (term_tied y))

-- ---- what is one ties

abbrev ValueTies : TermValue → Type 0
ValueTies x = value_order x x ≡ Equal

abbrev TermTies : Term → Type 0
TermTies t = term_order t t ≡ Equal

abbrev TyingValue : Type 0
TyingValue = (x : TermValue) × ValueTies x

abbrev TyingTerm : Type 0
TyingTerm = (t : Term) × TermTies t

keys_tie : (zs : List TyingValue) → keys_against (map value_order (map (λ z. z.0) zs)) (map (λ z. z.0) zs) ≡ Equal
keys_tie [] = refl
keys_tie (z ∷ zs) = both_equal (value_order z.0 z.0) (keys_against (map value_order (map (λ z. z.0) zs)) (map (λ z. z.0) zs)) z.1 (keys_tie zs)

term_ties : (z : of.Term-F TyingValue TyingTerm) → TermTies (roll-Term (map-Term TyingValue TyingTerm TermValue Term (λ x. x.0) (λ x. x.0) z))
term_ties z =
    let keys : List TermValue = map (λ x. x.0) z.keys in
    let t : Term = roll-Term (record { class = z.class; keys = keys }) in
    ap (λ (f : TermOrder). f t) (order_is z.class keys)
    ∙ ap (λ (o : of.Term-F TermValue Term). ordering_then (nat_cmp z.class.0 o.class.0) (keys_against (map value_order keys) o.keys)) (out-roll-Term (record { class = z.class; keys = keys }))
    ∙ both_equal (nat_cmp z.class.0 z.class.0) (keys_against (map value_order keys) keys) (number_ties z.class.0) (keys_tie z.keys)

value_ties : (z : of.TermValue-F TyingValue TyingTerm) → ValueTies (roll-TermValue (map-TermValue TyingValue TyingTerm TermValue Term (λ x. x.0) (λ x. x.0) z))
value_ties (of.Val d) = ap (λ (f : ValueOrder). f (roll-TermValue (of.Val d))) (order_of_datum d) ∙ ap (datum_against d) (out-roll-TermValue (of.Val d)) ∙ data_tie d
value_ties (of.Term s) = ap (λ (f : ValueOrder). f (roll-TermValue (of.Term s.0))) (order_of_term s.0) ∙ ap (term_against (term_order s.0)) (out-roll-TermValue (of.Term s.0)) ∙ s.1

tying_terms : (t : Term) → TermTies t
tying_terms = ind-Term ValueTies TermTies
    (λ x y is. subst (λ z. ValueTies (roll-TermValue z)) is (value_ties y))
    (λ x y is. subst (λ z. TermTies (roll-Term z)) is (term_ties y))

-- two terms tie exactly where they are one
pub ties_are_one : (t u : Term) → same_term t u ≡ true ↔ (t ≡ u)
ties_are_one t u = (
  λ h. tied_terms t u ((Equal-is (term_order t u)).0 h),
  λ e. ap is_eq (subst (λ x. term_order t x ≡ Equal) e (tying_terms t)),
)
