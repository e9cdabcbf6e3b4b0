-- Claims that stand in a valid model: of two of one single place both say the same.
use Rattle.std.specs.Prelude.{◌≡◌, ℕ, zero, suc, Bool, true, false, ◌&&◌, ◌||◌, not, ◌==◌, List, [], ◌∷◌, ◌++◌, map, Option, None, Some, Contains, if◌then◌else◌}
use Rattle.std.specs.List.{list_any}
use Rattle.std.proofs.Common.{refl, ap, sym, ◌∙◌, subst, arith, true≢false}
use Rattle.std.proofs.lemmas.Bool.Decides.{nat_tests}
use Rattle.mof_metamodel.specs.Metamodels.{prop_at, type_of, opposite_of}
use Rattle.object_tables.specs.Models.{ModelData, is_class_type, values_at, partners_at, IsLinked, IsContainedIn}
use Rattle.object_tables.specs.Validity.{Valid}
use Rattle.object_tables.proofs.KeptLemmas.{sound_of, linked_reference}
use Rattle.template_match.proofs.ListLaws.{contains_later}
use Rattle.mof_metamodel.proofs.Facts.{contains_first}
use Rattle.qv_syntax.specs.declared.program.Program.{Program}
use Rattle.qvtr_semantics.specs.declared.datum.Datum.{Datum}
use Rattle.qvtr_semantics.specs.Objects.{value_datum}
use Rattle.ocl_eval.specs.OrderLaws.{same_decides}
use Rattle.repair_semantics.specs.TargetItems.{target_meta_number}
use Rattle.repair_semantics.specs.Claims.{Held, Spot, Said, Claim, part_claim, opposite_claims, claims_of, is_single_spot, same_held, same_spot, same_said, are_against, is_against}
use Rattle.repair_semantics.specs.Images.{same_number, held_in, holds}
use Rattle.repair_semantics.specs.Candidates.{fact_at}
use Rattle.reading_laws.proofs.HeldLaws.{one_held, few_held}
use Rattle.mof_metamodel.proofs.Facts.{second_true}
use Rattle.mof_metamodel.proofs.Facts.{first_true}

-- ---- tests

one_number : (a b : ℕ) → (a == b) ≡ true → a ≡ b
one_number a b h = grind (arith, nat_tests)

number_itself : (n : ℕ) → (n == n) ≡ true
number_itself n = grind (arith, nat_tests)

pub held_itself : (h : Held ℕ) → same_held same_number h h ≡ true
held_itself (Held.datum d) = (same_decides d d).1 refl
held_itself (Held.object a) = number_itself a

unless : (x y z : Bool) → (x ≡ true → y ≡ true → z ≡ true) → (x && y && not z) ≡ false
unless false y z h = refl
unless true false z h = refl
unless true true z h = ap not (h refl refl)

-- ---- what is held

pub held_there : (h : Held ℕ) (hs : List (Held ℕ)) → Contains hs h → list_any (same_held same_number h) hs ≡ true
held_there h [] (k, within, is) = absurd (omega (arith, within))
held_there h (i ∷ hs) (zero, within, is) = ap (λ x. same_held same_number h x || list_any (same_held same_number h) hs) is ∙ ap (λ b. b || list_any (same_held same_number h) hs) (held_itself h)
held_there h (i ∷ hs) (suc k, within, is) = later (same_held same_number h i) (held_there h hs (k, omega (arith, within), is))
  where
    later : (b : Bool) → list_any (same_held same_number h) hs ≡ true → (b || list_any (same_held same_number h) hs) ≡ true
    later true g = refl
    later false g = g

among_numbers : (b : ℕ) (ns : List ℕ) → list_any (same_held same_number (Held.object b)) (map (λ k. Held.object k) ns) ≡ true → Contains ns b
among_numbers b [] h = absurd (true≢false (sym h))
among_numbers b (n ∷ ns) h = by (b == n) refl h (among_numbers b ns)
  where
    by : (t : Bool) → (b == n) ≡ t → (t || list_any (same_held same_number (Held.object b)) (map (λ k. Held.object k) ns)) ≡ true
        → (list_any (same_held same_number (Held.object b)) (map (λ k. Held.object k) ns) ≡ true → Contains ns b) → Contains (n ∷ ns) b
    by true is g more = subst (λ k. Contains (k ∷ ns) b) (one_number b n is) (contains_first b ns)
    by false is g more = contains_later b n ns (more g)

numbers_there : (b : ℕ) (ns : List ℕ) → Contains ns b → list_any (same_held same_number (Held.object b)) (map (λ k. Held.object k) ns) ≡ true
numbers_there b [] (k, within, is) = absurd (omega (arith, within))
numbers_there b (n ∷ ns) (zero, within, is) =
    ap (λ x. same_number b x || list_any (same_held same_number (Held.object b)) (map (λ k. Held.object k) ns)) is
    ∙ ap (λ t. t || list_any (same_held same_number (Held.object b)) (map (λ k. Held.object k) ns)) (number_itself b)
numbers_there b (n ∷ ns) (suc k, within, is) = later (same_number b n) (numbers_there b ns (k, omega (arith, within), is))
  where
    later : (t : Bool) → list_any (same_held same_number (Held.object b)) (map (λ x. Held.object x) ns) ≡ true
        → (t || list_any (same_held same_number (Held.object b)) (map (λ x. Held.object x) ns)) ≡ true
    later true g = refl
    later false g = g

no_data : {X : Type 0} (b : ℕ) (f : X → Datum) (vs : List X) → list_any (same_held same_number (Held.object b)) (map (λ v. Held.datum (f v)) vs) ≡ false
no_data b f [] = refl
no_data b f (v ∷ vs) = no_data b f vs

module _ (program : Program) (m : ModelData) where
  -- an object that is held is linked
  pub held_link : (a p b : ℕ) → holds program m a p (Held.object b) ≡ true → IsLinked m p a b
  held_link a p b h = by (is_class_type (type_of m.meta p)) h
    where
      by : (c : Bool) → list_any (same_held same_number (Held.object b))
          (if c then map (λ k. Held.object k) (partners_at m a p) else map (λ v. Held.datum (value_datum (target_meta_number program) v)) (values_at m a p)) ≡ true → IsLinked m p a b
      by true g = among_numbers b (partners_at m a p) g
      by false g = absurd (true≢false (sym g ∙ no_data b (value_datum (target_meta_number program)) (values_at m a p)))

  pub link_held : (a p b : ℕ) → is_class_type (type_of m.meta p) ≡ true → IsLinked m p a b → holds program m a p (Held.object b) ≡ true
  link_held a p b reference linked =
      ap (λ c. list_any (same_held same_number (Held.object b))
      (if c then map (λ k. Held.object k) (partners_at m a p) else map (λ v. Held.datum (value_datum (target_meta_number program) v)) (values_at m a p))) reference
      ∙ numbers_there b (partners_at m a p) linked

  -- ---- claims that stand

  abbrev pub SaidStands : Spot ℕ → Said ℕ → Type 0
  SaidStands (Spot.slot a p) (Said.element h) = holds program m a p h ≡ true
  SaidStands (Spot.container b) (Said.within a p) = IsContainedIn m b a p
  SaidStands spot said = ⊥

  abbrev pub AllClaimed : List (Claim ℕ) → Type 0
  AllClaimed [] = Unit {0}
  AllClaimed (c ∷ cs) = SaidStands c.spot c.said × AllClaimed cs

  pub both_claimed : (cs ds : List (Claim ℕ)) → AllClaimed cs → AllClaimed ds → AllClaimed (cs ++ ds)
  both_claimed [] ds a b = b
  both_claimed (c ∷ cs) ds a b = (a.0, both_claimed cs ds a.1 b)

  module _ (valid : Valid m) where
    part_claimed : (a b p : ℕ) (composite : Bool) → (prop_at m.meta p).composite ≡ composite → IsLinked m p a b → AllClaimed (part_claim composite b a p)
    part_claimed a b p true is linked = (record { composite = is; linked = linked }, tt)
    part_claimed a b p false is linked = tt

    far_claimed : (a b p : ℕ) (q : Option ℕ) → opposite_of m.meta p ≡ q → IsLinked m p a b → AllClaimed (opposite_claims m.meta a b q)
    far_claimed a b p None is linked = tt
    far_claimed a b p (Some q) is linked =
        let back : IsLinked m q b a = (valid.kept.opposites p q a b is).0 linked in
        (link_held b q a (linked_reference m q b a (sound_of m valid.kept) back).reference back, part_claimed b a q (prop_at m.meta q).composite refl back)

    -- the claims of what is held stand
    pub fact_claimed : (a p : ℕ) (h : Held ℕ) → holds program m a p h ≡ true → AllClaimed (claims_of m.meta (fact_at a p h))
    fact_claimed a p (Held.datum d) held = (held, tt)
    fact_claimed a p (Held.object b) held =
        let linked : IsLinked m p a b = held_link a p b held in (
          held,
          both_claimed (opposite_claims m.meta a b (opposite_of m.meta p)) (part_claim (prop_at m.meta p).composite b a p)
              (far_claimed a b p (opposite_of m.meta p) refl linked) (part_claimed a b p (prop_at m.meta p).composite refl linked),
        )

    -- ---- of one place

    one_said : (s t : Spot ℕ) (x y : Said ℕ) → SaidStands s x → SaidStands t y → same_spot same_number s t ≡ true → is_single_spot m.meta s ≡ true → same_said same_number x y ≡ true
    one_said (Spot.slot a p) (Spot.slot b q) (Said.element h) (Said.element i) here there same single =
        let objects : a ≡ b = one_number a b (first_true (a == b) (p == q) same) in
        let props : p ≡ q = one_number p q (second_true (a == b) (p == q) same) in
        let there : holds program m a p i ≡ true = ap (λ o. holds program m o p i) objects ∙ ap (λ r. holds program m b r i) props ∙ there in
        let one : h ≡ i = one_held (held_in program m a p) h i (few_held program m a p valid single) here there in
        ap (λ x. same_held same_number h x) (sym one) ∙ held_itself h
    one_said (Spot.container a) (Spot.container b) (Said.within x p) (Said.within y q) here there same single =
        let objects : a ≡ b = one_number a b same in
        let one : (x ≡ y) × (p ≡ q) = valid.kept.containers a x y p q here (subst (λ o. IsContainedIn m o y q) (sym objects) there) in
        ap (λ z. (z == y) && (p == q)) one.0 ∙ ap (λ z. (y == y) && (z == q)) one.1 ∙ ap (λ t. t && (q == q)) (number_itself y) ∙ number_itself q
    one_said (Spot.slot a p) (Spot.slot b q) (Said.element h) (Said.within y r) here there same single = absurd there
    one_said (Spot.slot a p) (Spot.container b) (Said.element h) y here there same single = absurd (true≢false (sym same))
    one_said (Spot.slot a p) t (Said.within x r) y here there same single = absurd here
    one_said (Spot.container a) t (Said.element h) y here there same single = absurd here
    one_said (Spot.container a) (Spot.slot b q) (Said.within x p) y here there same single = absurd (true≢false (sym same))
    one_said (Spot.container a) (Spot.container b) (Said.within x p) (Said.element h) here there same single = absurd there

    not_against : (c d : Claim ℕ) → SaidStands c.spot c.said → SaidStands d.spot d.said → are_against m.meta same_number c d ≡ false
    not_against c d here there =
        unless (same_spot same_number c.spot d.spot) (is_single_spot m.meta c.spot) (same_said same_number c.said d.said) (one_said c.spot d.spot c.said d.said here there)

    against_none : (c : Claim ℕ) (ds : List (Claim ℕ)) → SaidStands c.spot c.said → AllClaimed ds → list_any (are_against m.meta same_number c) ds ≡ false
    against_none c [] here there = refl
    against_none c (d ∷ ds) here there = ap (λ b. b || list_any (are_against m.meta same_number c) ds) (not_against c d here there.0) ∙ against_none c ds here there.1

    none_against : (cs ds : List (Claim ℕ)) → AllClaimed cs → AllClaimed ds → list_any (λ c. list_any (are_against m.meta same_number c) ds) cs ≡ false
    none_against [] ds here there = refl
    none_against (c ∷ cs) ds here there =
        ap (λ b. b || list_any (λ e. list_any (are_against m.meta same_number e) ds) cs) (against_none c ds here.0 there) ∙ none_against cs ds here.1 there

    -- no claim that stands is against what is held
    pub held_unopposed : (claims : List (Claim ℕ)) (a p : ℕ) (h : Held ℕ) → AllClaimed claims → holds program m a p h ≡ true → is_against m.meta same_number claims (fact_at a p h) ≡ false
    held_unopposed claims a p h all held = none_against (claims_of m.meta (fact_at a p h)) claims (fact_claimed a p h held) all
