-- In a model that is the same as a reading an object holds the images of a term's key values exactly where the term's object goes to it.
use Rattle.std.specs.Prelude.{◌≡◌, ◌<◌, ◌+◌, ℕ, Bool, true, ◌&&◌, ◌||◌, ◌==◌, List, [], ◌∷◌, map, Option, None, Some, Contains}
use Rattle.std.specs.Option.{option_map}
use Rattle.std.proofs.Common.{refl, ap, sym, ◌∙◌, true≢false}
use Rattle.mof_metamodel.specs.declared.desc.PropId.{PropId}
use Rattle.mof_metamodel.specs.Metamodels.{prop_at}
use Rattle.object_tables.specs.Models.{ModelData}
use Rattle.object_tables.specs.Validity.{Valid}
use Rattle.object_tables.specs.Sameness.{IsSame}
use Rattle.qv_syntax.specs.declared.program.Program.{Program}
use Rattle.qvtr_semantics.specs.Objects.{conforms_at}
use Rattle.template_match.proofs.ListLaws.{contains_later}
use Rattle.mof_metamodel.proofs.Facts.{contains_first}
use Rattle.repair_semantics.specs.declared.term.Term.{Term, out-Term}
use Rattle.repair_semantics.specs.declared.term.TermValue.{TermValue, roll-TermValue, out-TermValue, roll-out-TermValue}
use Rattle.repair_semantics.specs.declared.term.TermValue.TheOpen as of
use Rattle.repair_semantics.specs.Terms.{term_in, term_part}
use Rattle.repair_semantics.specs.Claims.{Held, is_one}
use Rattle.repair_semantics.specs.Conflicts.{held_in as value_held_in}
use Rattle.repair_semantics.specs.Images.{held_in, holds, holds_key, image}
use Rattle.repair_semantics.specs.Candidates.{held_by_number}
use Rattle.repair_semantics.proofs.TermLaws.{image_of_value}
use Rattle.reading_laws.specs.Readings.{Numbering, held_as, IsReading}
use Rattle.reading_laws.proofs.HeldLaws.{one_held, few_held}
use Rattle.mof_metamodel.proofs.Facts.{second_true}
use Rattle.mof_metamodel.proofs.Facts.{first_true}
use Rattle.repair_laws.proofs.MovedLaws.{moved, from_to, holds_moved}

module _ (program : Program) (m n : ModelData) (same : IsSame m n) (valid : Valid m) (valid_there : Valid n) (terms : List Term) (number : Numbering) (r : IsReading program m terms number) where
  abbrev to : ℕ → ℕ
  to = same.image

  -- ---- key values

  abbrev pub ValueMoved : TermValue → Type 0
  ValueMoved x = ((u : Term) → term_in x ≡ Some u → Contains terms u) → (h : Held ℕ) → held_as number x ≡ Some h → image_of_value program n x ≡ Some (moved to h)

  abbrev pub TermMoved : Term → Type 0
  TermMoved t = Contains terms t → (o : ℕ) → number t ≡ Some o → image program n t ≡ Some (to o)

  pub keys_moved : (o : ℕ) (ps : List PropId) (xs : List TermValue) → ((x : TermValue) → Contains xs x → (h : Held ℕ) → held_as number x ≡ Some h → image_of_value program n x ≡ Some (moved to h))
      → holds_key program m o ps (map (held_as number) xs) ≡ true → holds_key program n (to o) ps (map (image_of_value program n) xs) ≡ true
  keys_moved o [] [] each h = refl
  keys_moved o [] (x ∷ xs) each h = absurd (true≢false (sym h))
  keys_moved o (p ∷ ps) [] each h = absurd (true≢false (sym h))
  keys_moved o (p ∷ ps) (x ∷ xs) each h = by (held_as number x) refl h (keys_moved o ps xs (λ y c. each y (contains_later y x xs c)))
    where
      by : (k : Option (Held ℕ)) → held_as number x ≡ k → holds_key program m o (p ∷ ps) (k ∷ map (held_as number) xs) ≡ true
          → (holds_key program m o ps (map (held_as number) xs) ≡ true → holds_key program n (to o) ps (map (image_of_value program n) xs) ≡ true)
          → holds_key program n (to o) (p ∷ ps) (image_of_value program n x ∷ map (image_of_value program n) xs) ≡ true
      by None is g more = absurd (true≢false (sym g))
      by (Some i) is g more =
          let rest = holds_key program m o ps (map (held_as number) xs) in
          ap (λ y. holds_key program n (to o) (p ∷ ps) (y ∷ map (image_of_value program n) xs)) (each x (contains_first x xs) i is)
          ∙ ap (λ b. b && holds_key program n (to o) ps (map (image_of_value program n) xs)) (holds_moved program m n same valid valid_there o p.0 i (first_true (holds program m o p.0 i) rest g))
          ∙ more (second_true (holds program m o p.0 i) rest g)

  -- ---- values that are read alike are one

  live_term : (t : Term) (o : ℕ) → Contains terms t → number t ≡ Some o → conforms_at m (out-Term t).class.0 o ≡ true
  live_term t o has is = (r.holds t o has is).conforms

  one_value : (x y : TermValue) (h i : Held ℕ) → ((u : Term) → term_in x ≡ Some u → Contains terms u) → ((u : Term) → term_in y ≡ Some u → Contains terms u)
      → held_as number x ≡ Some h → held_as number y ≡ Some i → moved to h ≡ moved to i → x ≡ y
  one_value x y h i xs ys hx hy e = sym (roll-out-TermValue x) ∙ by (out-TermValue x) (out-TermValue y) refl refl hx hy ∙ roll-out-TermValue y
    where
      by : (a b : of.TermValue-F TermValue Term) → out-TermValue x ≡ a → out-TermValue y ≡ b → held_by_number number (value_held_in a) ≡ Some h → held_by_number number (value_held_in b) ≡ Some i
          → roll-TermValue a ≡ roll-TermValue b
      by (of.Val d) (of.Val c) ix iy ka kb =
          let first : Held.datum d ≡ h = cc in
          let second : Held.datum c ≡ i = cc in
          let both : Held.datum d ≡ Held.datum c = ap (moved to) first ∙ e ∙ sym (ap (moved to) second) in
          let one : d ≡ c = cc in
          ap (λ z. roll-TermValue (of.Val z)) one
      by (of.Val d) (of.Term u) ix iy ka kb = absurd (apart_data (number u) kb)
        where
          apart_data : (z : Option ℕ) → option_map (λ k. Held.object k) z ≡ Some i → ⊥
          apart_data None g = cc
          apart_data (Some b) g =
              let first : Held.datum d ≡ h = cc in
              let second : Held.object b ≡ i = cc in
              let both : ◌≡◌ {A = Held ℕ} (Held.datum d) (Held.object (to b)) = ap (moved to) first ∙ e ∙ sym (ap (moved to) second) in
              cc
      by (of.Term t) (of.Val c) ix iy ka kb = absurd (apart_objects (number t) ka)
        where
          apart_objects : (z : Option ℕ) → option_map (λ k. Held.object k) z ≡ Some h → ⊥
          apart_objects None g = cc
          apart_objects (Some a) g =
              let first : Held.object a ≡ h = cc in
              let second : Held.datum c ≡ i = cc in
              let both : ◌≡◌ {A = Held ℕ} (Held.object (to a)) (Held.datum c) = ap (moved to) first ∙ e ∙ sym (ap (moved to) second) in
              cc
      by (of.Term t) (of.Term u) ix iy ka kb = objects (number t) (number u) refl refl ka kb
        where
          objects : (a b : Option ℕ) → number t ≡ a → number u ≡ b → option_map (λ k. Held.object k) a ≡ Some h → option_map (λ k. Held.object k) b ≡ Some i
              → roll-TermValue (of.Term t) ≡ roll-TermValue (of.Term u)
          objects None b na nb f g = absurd (cc)
          objects (Some a) None na nb f g = absurd (cc)
          objects (Some a) (Some b) na nb f g =
              let first : Held.object a ≡ h = cc in
              let second : Held.object b ≡ i = cc in
              let both : ◌≡◌ {A = Held ℕ} (Held.object (to a)) (Held.object (to b)) = ap (moved to) first ∙ e ∙ sym (ap (moved to) second) in
              let there : to a ≡ to b = cc in
              let ht : Contains terms t = xs t (ap term_part ix) in
              let hu : Contains terms u = ys u (ap term_part iy) in
              let back : a ≡ b =
              sym (from_to program m n same valid valid_there (out-Term t).class.0 a (live_term t a ht na)) ∙ ap same.origin there
              ∙ from_to program m n same valid valid_there (out-Term u).class.0 b (live_term u b hu nb) in
              ap (λ z. roll-TermValue (of.Term z)) (r.apart t u b ht hu (na ∙ ap (λ z. Some z) back) nb)

  abbrev pub Single : List PropId → Type 0
  Single ps = (p : PropId) → Contains ps p → is_one (prop_at n.meta p.0).upper ≡ true

  -- the keys of a term whose images an object holds are those of the term of which it is the object
  pub one_key : (q : ℕ) (ps : List PropId) (xs ys : List TermValue) → Single ps
      → ((x : TermValue) → Contains xs x → (u : Term) → term_in x ≡ Some u → Contains terms u) → ((y : TermValue) → Contains ys y → (u : Term) → term_in y ≡ Some u → Contains terms u)
      → (o : ℕ) → holds_key program m o ps (map (held_as number) xs) ≡ true
      → ((x : TermValue) → Contains xs x → (h : Held ℕ) → held_as number x ≡ Some h → image_of_value program n x ≡ Some (moved to h))
      → holds_key program n (to q) ps (map (image_of_value program n) xs) ≡ true → holds_key program m q ps (map (held_as number) ys) ≡ true → xs ≡ ys
  one_key q [] [] [] single wx wy o a each b c = refl
  one_key q [] [] (y ∷ ys) single wx wy o a each b c = absurd (true≢false (sym c))
  one_key q [] (x ∷ xs) ys single wx wy o a each b c = absurd (true≢false (sym a))
  one_key q (p ∷ ps) [] ys single wx wy o a each b c = absurd (true≢false (sym a))
  one_key q (p ∷ ps) (x ∷ xs) [] single wx wy o a each b c = absurd (true≢false (sym c))
  one_key q (p ∷ ps) (x ∷ xs) (y ∷ ys) single wx wy o a each b c =
      by (held_as number x) (held_as number y) refl refl a c
      (one_key q ps xs ys (λ k e. single k (contains_later k p ps e)) (λ z e. wx z (contains_later z x xs e)) (λ z e. wy z (contains_later z y ys e)) o)
    where
      rest_there : List TermValue → Bool
      rest_there zs = holds_key program n (to q) ps (map (image_of_value program n) zs)

      by : (h i : Option (Held ℕ)) → held_as number x ≡ h → held_as number y ≡ i → holds_key program m o (p ∷ ps) (h ∷ map (held_as number) xs) ≡ true
          → holds_key program m q (p ∷ ps) (i ∷ map (held_as number) ys) ≡ true
          → (holds_key program m o ps (map (held_as number) xs) ≡ true
          → ((z : TermValue) → Contains xs z → (k : Held ℕ) → held_as number z ≡ Some k → image_of_value program n z ≡ Some (moved to k))
          → holds_key program n (to q) ps (map (image_of_value program n) xs) ≡ true → holds_key program m q ps (map (held_as number) ys) ≡ true → xs ≡ ys)
          → x ∷ xs ≡ y ∷ ys
      by None i ih ii f g more = absurd (true≢false (sym f))
      by (Some h) None ih ii f g more = absurd (true≢false (sym g))
      by (Some h) (Some i) ih ii f g more =
          let here : Bool = holds_key program m o ps (map (held_as number) xs) in
          let own : Bool = holds_key program m q ps (map (held_as number) ys) in
          let there : Bool = holds_key program n (to q) ps (map (image_of_value program n) xs) in
          let image_there : holds_key program n (to q) (p ∷ ps) (Some (moved to h) ∷ map (image_of_value program n) xs) ≡ true =
          ap (λ z. holds_key program n (to q) (p ∷ ps) (z ∷ map (image_of_value program n) xs)) (sym (each x (contains_first x xs) h ih)) ∙ b in
          let one : moved to h ≡ moved to i =
          one_held (held_in program n (to q) p.0) (moved to h) (moved to i) (few_held program n (to q) p.0 valid_there (single p (contains_first p ps)))
          (first_true (holds program n (to q) p.0 (moved to h)) there image_there)
          (holds_moved program m n same valid valid_there q p.0 i (first_true (holds program m q p.0 i) own g)) in
          let first : x ≡ y = one_value x y h i (wx x (contains_first x xs)) (wy y (contains_first y ys)) ih ii one in
          let rest : xs ≡ ys =
          more (second_true (holds program m o p.0 h) here f) (λ z e. each z (contains_later z x xs e)) (second_true (holds program n (to q) p.0 (moved to h)) there image_there)
          (second_true (holds program m q p.0 i) own g) in
          ap (λ z. z ∷ xs) first ∙ ap (λ zs. y ∷ zs) rest
