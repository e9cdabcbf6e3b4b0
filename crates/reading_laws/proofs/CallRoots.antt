-- The roots of a call between entries, and those of the call as which it is read.
use Rattle.std.specs.Prelude.{◌≡◌, ◌⊎◌, ◌<◌, ℕ, zero, suc, List, [], ◌∷◌, map, length, replicate, Option, None, Some, slice_set, Contains}
use Rattle.std.specs.List.{filter_map, cons_option}
use Rattle.std.proofs.Common.{refl, sym, ap, subst, ◌∙◌, inl, inr, arith}
use Rattle.qv_syntax.specs.declared.program.Rel.{Rel}
use Rattle.qv_syntax.specs.declared.program.Dom.{Dom}
use Rattle.template_match.proofs.ListLaws.{contains_later}
use Rattle.mof_metamodel.proofs.Facts.{contains_first}
use Rattle.repair_semantics.specs.declared.term.TermValue.{TermValue}
use Rattle.repair_semantics.specs.EntryValues.{TermValues, value_of, no_values, with_roots, root_values}
use Rattle.repair_semantics.specs.Entries.{bound_roots}
use Rattle.reading_laws.proofs.CallValues.{none_some}

-- ---- values with one more

-- where a value is put, or what stands elsewhere; so in two bindings of one length
pub put_both : (a b : TermValues) (r v : ℕ) (y x : TermValue) → length a ≡ length b
    → ((r ≡ v) × (value_of (slice_set a r (Some y)) v ≡ Some y))
    ⊎ ((value_of (slice_set a r (Some y)) v ≡ value_of a v) × (value_of (slice_set b r (Some x)) v ≡ value_of b v))
put_both [] [] r v y x long = inr (refl, refl)
put_both [] (p ∷ b) r v y x long = absurd (omega (arith, long))
put_both (o ∷ a) [] r v y x long = absurd (omega (arith, long))
put_both (o ∷ a) (p ∷ b) zero zero y x long = inl (refl, refl)
put_both (o ∷ a) (p ∷ b) zero (suc v) y x long = inr (refl, refl)
put_both (o ∷ a) (p ∷ b) (suc r) zero y x long = inr (refl, refl)
put_both (o ∷ a) (p ∷ b) (suc r) (suc v) y x long = by (put_both a b r v y x (omega (arith, long)))
  where
    by : ((r ≡ v) × (value_of (slice_set a r (Some y)) v ≡ Some y)) ⊎ ((value_of (slice_set a r (Some y)) v ≡ value_of a v) × (value_of (slice_set b r (Some x)) v ≡ value_of b v))
        → ((suc r ≡ suc v) × (value_of (slice_set a r (Some y)) v ≡ Some y)) ⊎ ((value_of (slice_set a r (Some y)) v ≡ value_of a v) × (value_of (slice_set b r (Some x)) v ≡ value_of b v))
    by (inl (is, at)) = inl (ap suc is, at)
    by (inr h) = inr h

pub put_long : (b : TermValues) (r : ℕ) (x : TermValue) → length (slice_set b r (Some x)) ≡ length b
put_long [] r x = refl
put_long (o ∷ b) zero x = refl
put_long (o ∷ b) (suc r) x = ap suc (put_long b r x)

pub put_there : (b : TermValues) (r : ℕ) (x : TermValue) → r < length b → value_of (slice_set b r (Some x)) r ≡ Some x
put_there [] r x within = absurd (omega (arith, within))
put_there (o ∷ b) zero x within = refl
put_there (o ∷ b) (suc r) x within = put_there b r x (omega (arith, within))

put_keeps : (b : TermValues) (r v : ℕ) (x y : TermValue) → value_of b v ≡ Some y → (z : TermValue) × (value_of (slice_set b r (Some x)) v ≡ Some z)
put_keeps b r v x y at = by (put_both b b r v x x refl)
  where
    by : ((r ≡ v) × (value_of (slice_set b r (Some x)) v ≡ Some x)) ⊎ ((value_of (slice_set b r (Some x)) v ≡ value_of b v) × (value_of (slice_set b r (Some x)) v ≡ value_of b v))
        → (z : TermValue) × (value_of (slice_set b r (Some x)) v ≡ Some z)
    by (inl (is, there)) = (x, there)
    by (inr (same, again)) = (y, same ∙ at)

-- ---- roots

pub roots_long : (b : TermValues) (doms : List Dom) (xs : List TermValue) → length (with_roots b doms xs) ≡ length b
roots_long b [] xs = refl
roots_long b (dom ∷ doms) [] = refl
roots_long b (dom ∷ doms) (x ∷ xs) = roots_long (slice_set b dom.root (Some x)) doms xs ∙ put_long b dom.root x

roots_keep : (b : TermValues) (doms : List Dom) (xs : List TermValue) (v : ℕ) (y : TermValue) → value_of b v ≡ Some y → (z : TermValue) × (value_of (with_roots b doms xs) v ≡ Some z)
roots_keep b [] xs v y at = (y, at)
roots_keep b (dom ∷ doms) [] v y at = (y, at)
roots_keep b (dom ∷ doms) (x ∷ xs) v y at = let z = put_keeps b dom.root v x y at in roots_keep (slice_set b dom.root (Some x)) doms xs v z.0 z.1

-- each root has a value where there is an argument for each domain
pub root_given : (b : TermValues) (doms : List Dom) (xs : List TermValue) → length xs ≡ length doms → ((dom : Dom) → Contains doms dom → dom.root < length b)
    → (dom : Dom) → Contains doms dom → (z : TermValue) × (value_of (with_roots b doms xs) dom.root ≡ Some z)
root_given b [] xs long within dom (k, less, is) = absurd (omega (arith, less))
root_given b (first ∷ doms) [] long within dom there = absurd (omega (arith, long))
root_given b (first ∷ doms) (x ∷ xs) long within dom (zero, less, is) =
    subst (λ (d : Dom). (z : TermValue) × (value_of (with_roots b (first ∷ doms) (x ∷ xs)) d.root ≡ Some z)) is
    (roots_keep (slice_set b first.root (Some x)) doms xs first.root x (put_there b first.root x (within first (contains_first first doms))))
root_given b (first ∷ doms) (x ∷ xs) long within dom (suc k, less, is) =
    root_given (slice_set b first.root (Some x)) doms xs (omega (arith, long))
    (λ d there. subst (λ n. d.root < n) (sym (put_long b first.root x)) (within d (contains_later d first doms there))) dom (k, omega (arith, less), is)

-- the values of the roots of these domains
pub Finals : TermValues → List Dom → List TermValue → Type 0
Finals f [] [] = Unit {0}
Finals f [] (y ∷ ys) = ⊥
Finals f (dom ∷ doms) [] = ⊥
Finals f (dom ∷ doms) (y ∷ ys) = (value_of f dom.root ≡ Some y) × Finals f doms ys

finals : (f : TermValues) (doms : List Dom) → ((dom : Dom) → Contains doms dom → (z : TermValue) × (value_of f dom.root ≡ Some z))
    → Finals f doms (filter_map (λ dom. value_of f dom.root) doms)
unfolding Finals
finals f [] each = tt
finals f (dom ∷ doms) each =
    by (value_of f dom.root) refl (each dom (contains_first dom doms)) (finals f doms (λ d there. each d (contains_later d dom doms there)))
  where
    by : (o : Option TermValue) → value_of f dom.root ≡ o → (z : TermValue) × (value_of f dom.root ≡ Some z) → Finals f doms (filter_map (λ dom. value_of f dom.root) doms)
        → Finals f (dom ∷ doms) (filter_map (λ dom. value_of f dom.root) (dom ∷ doms))
    by None is some rest = absurd (none_some some.0 (sym is ∙ some.1))
    by (Some y) is some rest = subst (λ o. Finals f (dom ∷ doms) (cons_option o (filter_map (λ dom. value_of f dom.root) doms))) (sym is) (is, rest)

pub finals_map : (f : TermValues) (doms : List Dom) (ys : List TermValue) → Finals f doms ys → map (λ dom. value_of f dom.root) doms ≡ map (λ x. Some x) ys
unfolding Finals
finals_map f [] [] h = refl
finals_map f [] (y ∷ ys) h = absurd h
finals_map f (dom ∷ doms) [] h = absurd h
finals_map f (dom ∷ doms) (y ∷ ys) h = ap (λ o. o ∷ map (λ d. value_of f d.root) doms) h.0 ∙ ap (λ os. Some y ∷ os) (finals_map f doms ys h.1)

-- the last values that are put at the roots, put there again, give the same
rerun : (v : ℕ) (f : TermValues) (doms : List Dom) (xs ys : List TermValue) (a b : TermValues) → Finals f doms ys → length xs ≡ length doms
    → value_of (with_roots b doms xs) v ≡ value_of f v → (value_of a v ≡ value_of b v) ⊎ (value_of a v ≡ value_of f v) → length a ≡ length b
    → value_of (with_roots a doms ys) v ≡ value_of f v
unfolding Finals
rerun v f [] xs ys a b all long end (inl same) longs = same ∙ end
rerun v f [] xs ys a b all long end (inr is) longs = is
rerun v f (dom ∷ doms) [] ys a b all long end state longs = absurd (omega (arith, long))
rerun v f (dom ∷ doms) (x ∷ xs) [] a b all long end state longs = absurd all
rerun v f (dom ∷ doms) (x ∷ xs) (y ∷ ys) a b all long end state longs =
    rerun v f doms xs ys (slice_set a dom.root (Some y)) (slice_set b dom.root (Some x)) all.1 (omega (arith, long)) end (by (put_both a b dom.root v y x longs) state)
    (put_long a dom.root y ∙ longs ∙ sym (put_long b dom.root x))
  where
    by : ((dom.root ≡ v) × (value_of (slice_set a dom.root (Some y)) v ≡ Some y))
        ⊎ ((value_of (slice_set a dom.root (Some y)) v ≡ value_of a v) × (value_of (slice_set b dom.root (Some x)) v ≡ value_of b v))
        → (value_of a v ≡ value_of b v) ⊎ (value_of a v ≡ value_of f v)
        → (value_of (slice_set a dom.root (Some y)) v ≡ value_of (slice_set b dom.root (Some x)) v) ⊎ (value_of (slice_set a dom.root (Some y)) v ≡ value_of f v)
    by (inl (is, at)) before = inr (at ∙ sym all.0 ∙ ap (value_of f) is)
    by (inr (one, other)) (inl same) = inl (one ∙ same ∙ sym other)
    by (inr (one, other)) (inr is) = inr (one ∙ is)

pub none_long : {X : Type 0} (n : ℕ) (x : X) → length (replicate n x) ≡ n
none_long zero x = refl
none_long (suc n) x = ap suc (none_long n x)

module _ (called : Rel) (range : (dom : Dom) → Contains called.domains dom → dom.root < length called.vars) (xs : List TermValue) (long : length xs ≡ length called.domains) where
  abbrev last : TermValues
  last = root_values called xs

  root_last : (dom : Dom) → Contains called.domains dom → (z : TermValue) × (value_of last dom.root ≡ Some z)
  root_last = root_given (no_values called) called.domains xs long (λ dom there. subst (λ n. dom.root < n) (sym (none_long (length called.vars) None)) (range dom there))

  pub bound_finals : Finals last called.domains (bound_roots called xs)
  bound_finals = finals last called.domains root_last

  pub bound_same : (v : ℕ) → value_of (root_values called (bound_roots called xs)) v ≡ value_of last v
  bound_same v = rerun v last called.domains xs (bound_roots called xs) (no_values called) (no_values called) bound_finals long refl (inl refl) refl

  pub bound_back : map (λ dom. value_of last dom.root) called.domains ≡ map (λ x. Some x) (bound_roots called xs)
  bound_back = finals_map last called.domains (bound_roots called xs) bound_finals
