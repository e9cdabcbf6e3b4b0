-- What is claimed of a slot of a made object is claimed by demands of its term; so a single slot of an object that is made for the example's demands
-- has one thing at most.
use Rattle.std.proofs.Common.{◌≡◌, ◌≢◌, ◌≤◌, ℕ, suc, Bool, true, false, List, [], ◌∷◌, length, None, Some, refl, sym, ap, ◌∙◌, subst, arith, inl, inr}
use Rattle.std.specs.Prelude.{Option, Contains, ◌⊎◌, if◌then◌else◌}
use Rattle.std.specs.List.{filter_map, cons_option}
use Rattle.std.specs.Option.{option_map, option_and_then}
use Rattle.std.proofs.lemmas.Option.{none-some, same_Some}
use Rattle.mof_metamodel.specs.Metamodels.{prop_at, type_of, opposite_of}
use Rattle.mof_metamodel.proofs.Facts.{nothing_in, contains_first}
use Rattle.mof_metamodel.proofs.PropLemmas.{from_flat_map, to_flat_map}
use Rattle.object_tables.specs.Models.{ModelData, is_class_type}
use Rattle.template_match.proofs.ListLaws.{contains_later}
use Rattle.qv_syntax.specs.declared.program.Program.{Program}
use Rattle.repair_semantics.specs.declared.term.Term.{Term}
use Rattle.repair_semantics.specs.declared.term.TermValue.{TermValue, out-TermValue}
use Rattle.repair_semantics.specs.declared.term.TermValue.TheOpen as of
use Rattle.repair_semantics.specs.declared.demand.Demand.{Demand}
use Rattle.repair_semantics.specs.Terms.{term_part, term_in}
use Rattle.repair_semantics.specs.Demands.{demanded_terms}
use Rattle.repair_semantics.specs.Claims.{Held, Fact, claims_of, is_one}
use Rattle.repair_semantics.specs.Conflicts.{held_in, fact_of}
use Rattle.repair_semantics.specs.Candidates.{held_by_number, fact_by_number}
use Rattle.candidate_laws.specs.Placing.{Placeable}
use Rattle.candidate_laws.specs.Parts.{IsClaimedIn, IsKeptIn, demanded_number, made_contents}
use Rattle.candidate_laws.proofs.Lists.{from_filter_map, in_filter_map, AllLater}
use Rattle.candidate_laws.proofs.FactClaims.{slot_claim, own_there, back_there, SlotCase, slot_case}
use Rattle.candidate_laws.proofs.DemandClaims.{owner_demanded, value_demanded}
use Rattle.candidate_laws.proofs.Numbers.{numbers_apart}
use Rattle.candidate_laws.proofs.Contents.{contents_from}
use Rattle.example_models.specs.RdbTable.{rdb_desc}
use Rattle.example_models.specs.declared.limits.TheConstants.{MAX_SOURCE_CLASSES}
use Rattle.example_program.specs.MainProgram.{main_program_data}
use Rattle.example_laws.specs.ExampleModels.{empty_target}
use Rattle.example_laws.specs.ExampleDemands.{IsExampleDemand}
use Rattle.example_laws.proofs.PeaceLaws.{one_held}

-- ---- lists

pub fewer_given : {X Y : Type 0} (f : X → Option Y) (xs : List X) → length (filter_map f xs) ≤ length xs
fewer_given f [] = omega arith
fewer_given {X} {Y} f (x ∷ xs) = by (f x) (fewer_given f xs)
  where
    by : (o : Option Y) → length (filter_map f xs) ≤ length xs → length (cons_option o (filter_map f xs)) ≤ suc (length xs)
    by None rest = omega (arith, rest)
    by (Some y) rest = omega (arith, rest)

-- where no two elements are one, but any two are, there is one at most
pub one_at_most : {X : Type 0} (xs : List X) → AllLater (λ (x y : X). x ≢ y) xs → ((x y : X) → Contains xs x → Contains xs y → x ≡ y) → length xs ≤ 1
one_at_most [] apart same = omega arith
one_at_most (x ∷ []) apart same = omega arith
one_at_most (x ∷ y ∷ xs) apart same = absurd (apart.0 y (contains_first y xs) (same x y (contains_first x (y ∷ xs)) (contains_later y x (y ∷ xs) (contains_first y xs))))

value_term : (v : TermValue) (t : Term) → held_in (out-TermValue v) ≡ Held.object t → term_in v ≡ Some t
value_term v t h = by (out-TermValue v) h
  where
    by : (l : of.TermValue-F TermValue Term) → held_in l ≡ Held.object t → term_part l ≡ Some t
    by (of.Val d) e = absurd (cc)
    by (of.Term u) e = let same : u ≡ t = cc in ap (λ z. Some z) same

-- ---- claims by terms

module _ (program : Program) (m : ModelData) (demands : List Demand) where
  abbrev number : Term → Option ℕ
  number = demanded_number program m demands

  -- a demand claims of a slot of the object's term what is claimed of the object
  pub record IsOfTerm (o p : ℕ) (h : Held ℕ) : Type 0 where
    pub demand : Demand
    pub there : Contains demands demand
    pub term : Term
    pub demanded : Contains (demanded_terms demands) term
    pub term_is : number term ≡ Some o
    pub held : Held Term
    pub held_is : held_by_number number held ≡ Some h
    pub claimed : Contains (claims_of m.meta (fact_of demand)) (slot_claim term p held)

  -- what a demand says by numbers
  record IsStated (d : Demand) (f : Fact ℕ) : Type 0 where
    owner : number d.owner ≡ Some f.owner
    prop : d.prop.0 ≡ f.prop
    holds : held_by_number number (fact_of d).holds ≡ Some f.holds

  stated : (d : Demand) (f : Fact ℕ) → fact_by_number number (fact_of d) ≡ Some f → IsStated d f
  stated d f h = by (number d.owner) refl (held_by_number number (fact_of d).holds) refl h
    where
      by : (o : Option ℕ) → number d.owner ≡ o → (x : Option (Held ℕ)) → held_by_number number (fact_of d).holds ≡ x
          → option_and_then (λ n. option_map (λ (i : Held ℕ). record { owner = n; prop = d.prop.0; holds = i }) x) o ≡ Some f → IsStated d f
      by None owns x holds e = absurd (none-some f e)
      by (Some n) owns None holds e = absurd (none-some f e)
      by (Some n) owns (Some i) holds e =
          let same : record { owner = n; prop = d.prop.0; holds = i } ≡ f = same_Some (record { owner = n; prop = d.prop.0; holds = i }) f e in
          record {
            owner = owns ∙ ap (λ (g : Fact ℕ). Some g.owner) same;
            prop = ap (λ (g : Fact ℕ). g.prop) same;
            holds = holds ∙ ap (λ (g : Fact ℕ). Some g.holds) same;
          }

  numbered_object : (h : Held Term) (n : ℕ) → held_by_number number h ≡ Some (Held.object n) → (t : Term) × (h ≡ Held.object t) × (number t ≡ Some n)
  numbered_object (Held.datum d) n e = absurd (cc)
  numbered_object (Held.object t) n e = by (number t) refl e
    where
      by : (o : Option ℕ) → number t ≡ o → option_map (λ k. Held.object k) o ≡ Some (Held.object n) → (u : Term) × (Held.object t ≡ Held.object u) × (number u ≡ Some n)
      by None is g = absurd (cc)
      by (Some k) is g = (t, refl, is ∙ (let one : k ≡ n = cc in ap (λ z. Some z) one))

  pub of_term : (o p : ℕ) (h : Held ℕ) → IsClaimedIn program m demands o p h → IsOfTerm o p h
  of_term o p h has =
      let (f, listed, within) = from_flat_map (claims_of m.meta) (filter_map (λ d. fact_by_number number (fact_of d)) demands) (slot_claim o p h) has in
      let (d, there, is) = from_filter_map (λ d. fact_by_number number (fact_of d)) demands f listed in
      by d there f (stated d f is) (slot_case m.meta f o p h within)
    where
      by : (d : Demand) → Contains demands d → (f : Fact ℕ) → IsStated d f → SlotCase m.meta f o p h → IsOfTerm o p h
      by d there f s (SlotCase.own owner prop holds) = record {
        demand = d;
        there = there;
        term = d.owner;
        demanded = owner_demanded demands d there;
        term_is = s.owner ∙ ap (λ z. Some z) owner;
        held = (fact_of d).holds;
        held_is = s.holds ∙ ap (λ z. Some z) holds;
        claimed = subst (λ q. Contains (claims_of m.meta (fact_of d)) (slot_claim d.owner q (fact_of d).holds)) (s.prop ∙ prop) (own_there m.meta (fact_of d));
      }
      by d there f s (SlotCase.back holds far is) =
          let (t, held, at) = numbered_object (fact_of d).holds o (s.holds ∙ ap (λ z. Some z) holds) in
          record {
            demand = d;
            there = there;
            term = t;
            demanded = value_demanded demands d t there (value_term d.value t held);
            term_is = at;
            held = Held.object d.owner;
            held_is = ap (option_map (λ n. Held.object n)) s.owner ∙ ap (λ z. Some z) (sym is);
            claimed = back_there m.meta (fact_of d) t p held (ap (opposite_of m.meta) s.prop ∙ far);
          }

  -- what a demand says of its own slot is claimed of the object
  fact_is : (d : Demand) (o : ℕ) (h : Held ℕ) → number d.owner ≡ Some o → held_by_number number (fact_of d).holds ≡ Some h
      → fact_by_number number (fact_of d) ≡ Some (record { owner = o; prop = d.prop.0; holds = h })
  fact_is d o h owner held =
      ap (λ x. option_and_then (λ n. option_map (λ k. record { owner = n; prop = d.prop.0; holds = k }) (held_by_number number (fact_of d).holds)) x) owner
      ∙ ap (option_map (λ k. record { owner = o; prop = d.prop.0; holds = k })) held

  pub claimed_by : (d : Demand) (o : ℕ) (h : Held ℕ) → Contains demands d → number d.owner ≡ Some o → held_by_number number (fact_of d).holds ≡ Some h
      → IsClaimedIn program m demands o d.prop.0 h
  claimed_by d o h there owner held =
      let f : Fact ℕ = record { owner = o; prop = d.prop.0; holds = h } in
      to_flat_map (claims_of m.meta) (filter_map (λ e. fact_by_number number (fact_of e)) demands) f (slot_claim o d.prop.0 h)
      (in_filter_map (λ e. fact_by_number number (fact_of e)) demands d f there (fact_is d o h owner held)) (own_there m.meta f)

-- ---- what is made for the example's demands

nothing_kept : (b : Bool) (p : ℕ) (h : Held ℕ) → Contains (if b then [] else []) h → ⊥
nothing_kept true p h c = nothing_in h c
nothing_kept false p h c = nothing_in h c

module _ (n seed : ℕ) (few : n ≤ MAX_SOURCE_CLASSES) (ds : List Demand) (only : (d : Demand) → Contains ds d → IsExampleDemand n seed d)
    (placeable : Placeable main_program_data empty_target ds)
  where
    -- nothing but what is claimed stands in a slot
    pub claimed_there : (o p : ℕ) (h : Held ℕ) → Contains (made_contents main_program_data empty_target ds o p) h → IsClaimedIn main_program_data empty_target ds o p h
    claimed_there o p h c = by (contents_from main_program_data empty_target ds o p h c)
      where
        by : IsKeptIn main_program_data empty_target ds o p h ⊎ IsClaimedIn main_program_data empty_target ds o p h → IsClaimedIn main_program_data empty_target ds o p h
        by (inl kept) = absurd (nothing_kept (is_class_type (type_of rdb_desc p)) p h kept.held)
        by (inr claimed) = claimed

    -- one thing at most in a slot of one
    pub one_claimed : (o p : ℕ) (h i : Held ℕ) → is_one (prop_at rdb_desc p).upper ≡ true → Contains (made_contents main_program_data empty_target ds o p) h
        → Contains (made_contents main_program_data empty_target ds o p) i → h ≡ i
    one_claimed o p h i single a b =
        let x = of_term main_program_data empty_target ds o p h (claimed_there o p h a) in
        let y = of_term main_program_data empty_target ds o p i (claimed_there o p i b) in
        let terms : x.term ≡ y.term = numbers_apart main_program_data empty_target ds placeable x.term y.term o x.demanded y.demanded x.term_is y.term_is in
        let held : x.held ≡ y.held =
        one_held n seed few x.demand y.demand (only x.demand x.there) (only y.demand y.there) x.term p x.held y.held single x.claimed
        (subst (λ t. Contains (claims_of rdb_desc (fact_of y.demand)) (slot_claim t p y.held)) (sym terms) y.claimed) in
        same_Some h i (sym x.held_is ∙ ap (held_by_number (demanded_number main_program_data empty_target ds)) held ∙ y.held_is)
