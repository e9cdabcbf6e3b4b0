-- The search for an object that is contained twice: what is known of the namings so far.
use Rattle.std.proofs.Common.{◌≡◌, ℕ, zero, suc, ◌+◌, ◌<◌, ◌⊎◌, Bool, true, false, cond, List, [], ◌∷◌, length, get_or, refl, sym, ◌∙◌, ap, arith, subst, Option, Some, None, inl, inr, true≢false, eq-eqb, replicate, set}
use Rattle.std.specs.Prelude.{◌==◌, ◌&&◌, not}
use Rattle.std.proofs.lemmas.Bool.{eqb-true, and_parts, cases_eq, cases_lt, not-false}
use Rattle.mof_metamodel.specs.declared.desc.MetaDesc.{MetaDesc}
use Rattle.mof_metamodel.specs.Metamodels.{prop_at, opposite_of}
use Rattle.object_tables.specs.Lists.{update_at}
use Rattle.object_tables.proofs.ListLemmas.{get_or-update_at_same, get_or-update_at_other, length-update_at}
use Rattle.model_assembly.specs.declared.assembly.naming.Naming.{Naming}
use Rattle.model_assembly.specs.declared.assembly.first.Part.{Part}
use Rattle.model_assembly.specs.AssemblyNamings.{at, part_of, part_by_opposite, IsSecondWhole}
use Rattle.model_assembly.specs.AssemblyFirsts.{is_other, is_contradicted_if, is_contradicted_by, or_part, with_part, with_part_if, with_naming}
use Rattle.std.proofs.lemmas.Option.{none-some, same_Some}

same_part : (w v : Part) → is_other w (Some v) ≡ false → v ≡ w
same_part w v e =
    let all = and_parts (v.part == w.part) ((v.whole == w.whole) && (v.property == w.property)) (not-false _ e) in
    let rest = and_parts (v.whole == w.whole) (v.property == w.property) all.1 in
    let a = eqb-true v.part w.part all.0 in
    let b = eqb-true v.whole w.whole rest.0 in
    let c = eqb-true v.property w.property rest.1 in
    λ i. record { part = a i; whole = b i; property = c i }

not_other : (w : Part) → is_other w (Some w) ≡ false
not_other w =
    λ i. not (eq-eqb w.part w.part refl i && (eq-eqb w.whole w.whole refl i && eq-eqb w.property w.property refl i))

other_part : (w v : Part) → is_other w (Some v) ≡ true → v ≡ w → ⊥
other_part w v e same = true≢false (sym e ∙ ap (λ u. is_other w (Some u)) same ∙ not_other w)

there_at : (part other : Part) (ps : List (Option Part)) (n : ℕ) → get_or ps n None ≡ Some other → ps ≡ update_at ps n (or_part part)
there_at part other [] n k = refl
there_at part other (o ∷ ps) zero k = ap (λ x. x ∷ ps) (k ∙ sym (ap (or_part part) k))
there_at part other (o ∷ ps) (suc n) k = ap (λ rest. o ∷ rest) (there_at part other ps n k)

put_at : (part : Part) (ps : List (Option Part)) (n : ℕ) → get_or ps n None ≡ None → set ps n (Some part) ≡ update_at ps n (or_part part)
put_at part [] n k = refl
put_at part (o ∷ ps) zero k = ap (λ x. x ∷ ps) (sym (ap (or_part part) k))
put_at part (o ∷ ps) (suc n) k = ap (λ rest. o ∷ rest) (put_at part ps n k)

-- a part that is put down
pub part_there : (parts : List (Option Part)) (part other : Part) → get_or parts part.part None ≡ Some other → parts ≡ with_part parts part
part_there parts part other e = there_at part other parts part.part e

pub part_put : (parts : List (Option Part)) (part : Part) → get_or parts part.part None ≡ None → set parts part.part (Some part) ≡ with_part parts part
part_put parts part e = put_at part parts part.part e

-- for each object what makes it a part so far, where nothing contradicts that
pub record AreParts (meta : MetaDesc) (xs : List Naming) (i : ℕ) (parts : List (Option Part)) : Type 0 where
  pub known : (x : ℕ) (w : Part) → get_or parts x None ≡ Some w → (w.part ≡ x) × ((j : ℕ) × (j < i) × (part_of meta (at xs j) ≡ Some w))
  pub all : (j : ℕ) (w : Part) → j < i → part_of meta (at xs j) ≡ Some w → get_or parts w.part None ≡ Some w

abbrev nones : ℕ → List (Option Part)
nones n = replicate n None

nothing : (n x : ℕ) → get_or (nones n) x None ≡ None
nothing zero x = refl
nothing (suc n) zero = refl
nothing (suc n) (suc x) = nothing n x

pub no_parts : (meta : MetaDesc) (xs : List Naming) (n : ℕ) → AreParts meta xs 0 (replicate n None)
no_parts meta xs n = record {
  known = λ x w e. absurd (none-some w (sym (nothing n x) ∙ e));
  all = λ j w l e. absurd (omega (arith, l));
}

-- a naming that contradicts an earlier one
pub second_found : (meta : MetaDesc) (xs : List Naming) (i : ℕ) (parts : List (Option Part)) → AreParts meta xs i parts → is_contradicted_by meta parts (at xs i) ≡ true → IsSecondWhole meta xs i
second_found meta xs i parts h e = by (part_of meta (at xs i)) refl e
  where
    met : (w : Part) → part_of meta (at xs i) ≡ Some w → (o : Option Part) → get_or parts w.part None ≡ o → is_other w o ≡ true → IsSecondWhole meta xs i
    met w p None g f = absurd (true≢false (sym f))
    met w p (Some v) g f =
        let k = h.known w.part v g in
        record { part = w; part_is = p; earlier = k.1.0; before = k.1.1; other = v; other_is = k.1.2; same = k.0; differs = other_part w v f }

    by : (o : Option Part) → part_of meta (at xs i) ≡ o → is_contradicted_if parts o ≡ true → IsSecondWhole meta xs i
    by None p f = absurd (true≢false (sym f))
    by (Some w) p f = met w p (get_or parts w.part None) refl f

-- one that doesn't
pub not_second : (meta : MetaDesc) (xs : List Naming) (i : ℕ) (parts : List (Option Part)) → AreParts meta xs i parts → is_contradicted_by meta parts (at xs i) ≡ false → IsSecondWhole meta xs i → ⊥
not_second meta xs i parts h e s =
    let there : get_or parts s.other.part None ≡ Some s.other = h.all s.earlier s.other s.before s.other_is in
    let here : get_or parts s.part.part None ≡ Some s.other = subst (λ x. get_or parts x None ≡ Some s.other) s.same there in
    let f : is_other s.part (Some s.other) ≡ false = sym (ap (is_other s.part) here) ∙ sym (ap (is_contradicted_if parts) s.part_is) ∙ e in
    s.differs (same_part s.part s.other f)

pub parts_more : (meta : MetaDesc) (xs : List Naming) (i : ℕ) (parts : List (Option Part)) → AreParts meta xs i parts → is_contradicted_by meta parts (at xs i) ≡ false
    → ((w : Part) → part_of meta (at xs i) ≡ Some w → w.part < length parts) → AreParts meta xs (suc i) (with_naming meta parts (at xs i))
parts_more meta xs i parts h e within = by (part_of meta (at xs i)) refl e
  where
    earlier : (j : ℕ) → j < suc i → (j < i) ⊎ (j ≡ i)
    earlier j l = elim (cases_lt j i) [ inl a ↦ inl a | inr b ↦ inr (omega (arith, l, b)) ]

    later : (parts : List (Option Part)) → AreParts meta xs i parts → ((w : Part) → part_of meta (at xs i) ≡ Some w → get_or parts w.part None ≡ Some w) → AreParts meta xs (suc i) parts
    later parts h here = record {
      known = λ x w g. (let k = h.known x w g in let l = k.1.1 in (k.0, (k.1.0, omega (arith, l), k.1.2)));
      all = λ j w l p. elim (earlier j l) [ inl a ↦ h.all j w a p | inr q ↦ here w (subst (λ n. part_of meta (at xs n) ≡ Some w) q p) ];
    }

    new : (w : Part) → part_of meta (at xs i) ≡ Some w → get_or parts w.part None ≡ None → AreParts meta xs (suc i) (with_part parts w)
    new w p g = record { known = known; all = all }
      where
        at_part : get_or (with_part parts w) w.part None ≡ Some w
        at_part = get_or-update_at_same parts w.part (or_part w) None (within w p) ∙ ap (or_part w) g

        known : (x : ℕ) (v : Part) → get_or (with_part parts w) x None ≡ Some v → (v.part ≡ x) × ((j : ℕ) × (j < suc i) × (part_of meta (at xs j) ≡ Some v))
        known x v k = elim (cases_eq x w.part) [
          | inl q ↦ (
              let same : w ≡ v = same_Some w v (sym at_part ∙ sym (ap (λ y. get_or (with_part parts w) y None) q) ∙ k) in
              (sym (ap (λ (u : Part). u.part) same) ∙ sym q, (i, omega arith, p ∙ ap Some same)))
          | inr ne ↦ (
              let old = h.known x v (sym (get_or-update_at_other parts w.part x (or_part w) None ne) ∙ k) in
              let l = old.1.1 in
              (old.0, (old.1.0, omega (arith, l), old.1.2)))
        ]

        all : (j : ℕ) (v : Part) → j < suc i → part_of meta (at xs j) ≡ Some v → get_or (with_part parts w) v.part None ≡ Some v
        all j v l q = elim (earlier j l) [
          | inl a ↦ (
              let old = h.all j v a q in
              elim (cases_eq v.part w.part) [
                | inl s ↦ absurd (none-some v (sym g ∙ sym (ap (λ y. get_or parts y None) s) ∙ old))
                | inr ne ↦ get_or-update_at_other parts w.part v.part (or_part w) None ne ∙ old
              ])
          | inr s ↦ (
              let same : w ≡ v = same_Some w v (sym p ∙ sym (ap (λ n. part_of meta (at xs n)) s) ∙ q) in
              subst (λ (u : Part). get_or (with_part parts w) u.part None ≡ Some u) same at_part)
        ]

    old : (w v : Part) → part_of meta (at xs i) ≡ Some w → get_or parts w.part None ≡ Some v → v ≡ w → AreParts meta xs (suc i) (with_part parts w)
    old w v p g same = subst (AreParts meta xs (suc i)) (sym unchanged) (later parts h (λ u q. here u q))
      where
        unchanged : with_part parts w ≡ parts
        unchanged = sym (there_at w v parts w.part g)

        here : (u : Part) → part_of meta (at xs i) ≡ Some u → get_or parts u.part None ≡ Some u
        here u q = let s : w ≡ u = same_Some w u (sym p ∙ q) in subst (λ (z : Part). get_or parts z.part None ≡ Some z) s (g ∙ ap Some same)

    met : (w : Part) → part_of meta (at xs i) ≡ Some w → (o : Option Part) → get_or parts w.part None ≡ o → is_other w o ≡ false → AreParts meta xs (suc i) (with_part parts w)
    met w p None g f = new w p g
    met w p (Some v) g f = old w v p g (same_part w v f)

    by : (o : Option Part) → part_of meta (at xs i) ≡ o → is_contradicted_if parts o ≡ false → AreParts meta xs (suc i) (with_part_if parts o)
    by None p f = later parts h (λ w q. absurd (none-some w (sym p ∙ q)))
    by (Some w) p f = met w p (get_or parts w.part None) refl f

-- ---- the steps of the search

kept_count : (meta : MetaDesc) (parts : List (Option Part)) (n : Naming) → length (with_naming meta parts n) ≡ length parts
kept_count meta parts n = by (part_of meta n)
  where
    by : (o : Option Part) → length (with_part_if parts o) ≡ length parts
    by None = refl
    by (Some part) = length-update_at parts part.part (or_part part)

part_within : (meta : MetaDesc) (n : Naming) (k : ℕ) (w : Part) → n.object < k → n.target < k → part_of meta n ≡ Some w → w.part < k
part_within meta n k w o t e = by (prop_at meta n.property).composite e
  where
    if_whole : (q : ℕ) (b : Bool) → cond b (Some (record { part = n.object; whole = n.target; property = q })) None ≡ Some w → w.part < k
    if_whole q true g = subst (λ (u : Part). u.part < k) (same_Some (record { part = n.object; whole = n.target; property = q }) w g) o
    if_whole q false g = absurd (none-some w g)

    over : (m : Option ℕ) → part_by_opposite meta n m ≡ Some w → w.part < k
    over None g = absurd (none-some w g)
    over (Some q) g = if_whole q (prop_at meta q).composite g

    by : (b : Bool) → cond b (Some (record { part = n.target; whole = n.object; property = n.property })) (part_by_opposite meta n (opposite_of meta n.property)) ≡ Some w → w.part < k
    by true g = subst (λ (u : Part). u.part < k) (same_Some (record { part = n.target; whole = n.object; property = n.property }) w g) t
    by false g = over (opposite_of meta n.property) g

pub count_step : (meta : MetaDesc) (parts new : List (Option Part)) (n : Naming) (k : ℕ) → new ≡ with_naming meta parts n → length parts ≡ k → length new ≡ k
count_step meta parts new n k e h = ap length e ∙ kept_count meta parts n ∙ h

pub parts_step : (meta : MetaDesc) (xs : List Naming) (i k : ℕ) (parts new : List (Option Part)) → AreParts meta xs i parts → length parts ≡ k → is_contradicted_by meta parts (at xs i) ≡ false
    → (at xs i).object < k → (at xs i).target < k → new ≡ with_naming meta parts (at xs i) → AreParts meta xs (i + 1) new
parts_step meta xs i k parts new h c e o t is =
    let q : suc i ≡ i + 1 = omega arith in
    subst (λ n. AreParts meta xs n new) q
    (subst (AreParts meta xs (suc i)) (sym is) (parts_more meta xs i parts h e (λ w p. (let l = part_within meta (at xs i) k w o t p in omega (arith, l, c)))))
