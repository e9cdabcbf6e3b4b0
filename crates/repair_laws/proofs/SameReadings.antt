-- In a model that is the same as a reading each term's image is what its object goes to; so demands that stand in the reading stand there, and
-- no object is unneeded.
use Rattle.std.specs.Prelude.{◌≡◌, ◌<◌, ◌+◌, ℕ, zero, suc, Bool, true, false, ◌&&◌, ◌||◌, not, ◌==◌, List, [], ◌∷◌, map, length, Option, None, Some, Contains}
use Rattle.std.specs.List.{filter, list_any, range_with_len}
use Rattle.std.specs.Option.{option_map}
use Rattle.std.proofs.Common.{refl, ap, sym, ◌∙◌, subst, arith, true≢false}
use Rattle.std.proofs.lemmas.Bool.Decides.{nat_tests}
use Rattle.std.proofs.lemmas.List.FromFn.{get_or-range_with_len, length-range_with_len}
use Rattle.mof_metamodel.specs.declared.desc.MetaDesc.{MetaDesc}
use Rattle.mof_metamodel.specs.declared.desc.PropId.{PropId}
use Rattle.mof_metamodel.specs.Metamodels.{prop_at}
use Rattle.object_tables.specs.Models.{ModelData, class_at}
use Rattle.object_tables.specs.Validity.{Valid}
use Rattle.object_tables.specs.Sameness.{IsSame}
use Rattle.object_tables.proofs.ListLemmas.{Contains-from_map}
use Rattle.object_tables.proofs.ContainmentLemmas.{live-below}
use Rattle.object_tables.proofs.SlotLemmas.{Contains-to_filter}
use Rattle.qv_syntax.specs.declared.program.Program.{Program}
use Rattle.qvtr_semantics.specs.Objects.{is_number_among, conforms_if, conforms_at, extent_of}
use Rattle.template_match.proofs.ListLaws.{any_from}
use Rattle.repair_semantics.specs.declared.term.Term.{Term, roll-Term, out-Term, roll-out-Term, out-roll-Term, map-Term, ind-Term}
use Rattle.repair_semantics.specs.declared.term.TermValue.{TermValue, roll-TermValue, out-TermValue, out-roll-TermValue, map-TermValue}
use Rattle.repair_semantics.specs.declared.term.TermValue.TheOpen as of
use Rattle.repair_semantics.specs.declared.demand.Demand.{Demand}
use Rattle.repair_semantics.specs.Terms.{term_in, term_part}
use Rattle.repair_semantics.specs.TargetItems.{key_of}
use Rattle.repair_semantics.specs.Demands.{demanded_terms}
use Rattle.repair_semantics.specs.Claims.{Held, is_one}
use Rattle.repair_semantics.specs.Conflicts.{held_in as value_held_in}
use Rattle.repair_semantics.specs.Images.{holds, holds_key, first_number, object_with_key, image}
use Rattle.repair_semantics.specs.Deletions.{managed_classes, images_of, is_unneeded}
use Rattle.repair_semantics.specs.Candidates.{held_by_number, candidate}
use Rattle.repair_semantics.proofs.TermLaws.{image_of_value, image_is, image_of_datum, image_of_term}
use Rattle.reading_laws.specs.Keyed.{TellsByKeys}
use Rattle.reading_laws.specs.Readings.{Numbering, held_as, HoldsKeyOf, IsReading, HaveObjects, Stands, AllStand}
use Rattle.repair_laws.proofs.ImageLaws.{term_found}
use Rattle.repair_laws.proofs.DemandLaws.{in_filter_map}
use Rattle.repair_laws.proofs.MovedLaws.{moved, conforming_is_live, conforms_moved, conforms_back, to_from, holds_moved}
use Rattle.repair_laws.proofs.MovedKeys.{ValueMoved as IsMovedValue, TermMoved as IsMovedTerm, Single as AreSingle, keys_moved, one_key}
use Rattle.repair_laws.proofs.TermListLaws.{owner_demanded, value_demanded, standing_terms}
use Rattle.repair_laws.proofs.UnchangedLaws.{nothing_changes}

-- ---- the first number of a list that passes a test

first_there : (test : ℕ → Bool) (ns : List ℕ) (o : ℕ) → test o ≡ true → Contains ns o → (k : ℕ) × (first_number (filter test ns) ≡ Some k)
first_there test ns o passes has = by (filter test ns) (Contains-to_filter test ns o passes has)
  where
    by : (ks : List ℕ) → Contains ks o → (k : ℕ) × (first_number ks ≡ Some k)
    by [] (i, within, is) = absurd (omega (arith, within))
    by (k ∷ ks) c = (k, refl)

in_range : (count o : ℕ) → o < count → Contains (range_with_len 0 count) o
in_range count o within =
    let none : 0 + o ≡ o = omega arith in
    (o, subst (λ l. o < l) (sym (length-range_with_len 0 count)) within, get_or-range_with_len 0 count o o within ∙ none)

number_there : (k : ℕ) (ks : List ℕ) → Contains ks k → is_number_among k ks ≡ true
number_there k [] (i, within, e) = absurd (omega (arith, within))
number_there k (j ∷ ks) (zero, within, e) = let one : (j == k) ≡ true = grind (arith, nat_tests) in ap (λ b. b || is_number_among k ks) one
number_there k (j ∷ ks) (suc i, within, e) = later (j == k) (number_there k ks (i, omega (arith, within), e))
  where
    later : (b : Bool) → is_number_among k ks ≡ true → (b || is_number_among k ks) ≡ true
    later true g = refl
    later false g = g

module _ (program : Program) (m n : ModelData) (same : IsSame m n) (valid : Valid m) (valid_there : Valid n) (terms : List Term) (number : Numbering)
    (tells : TellsByKeys program m) (r : IsReading program m terms number) (have : HaveObjects terms number)
    (managed : (t : Term) → Contains terms t → Contains (managed_classes program) (out-Term t).class.0)
  where
    abbrev to : ℕ → ℕ
    to = same.image

    abbrev ValueMoved : TermValue → Type 0
    ValueMoved = IsMovedValue program m n same valid valid_there terms number r

    abbrev TermMoved : Term → Type 0
    TermMoved = IsMovedTerm program m n same valid valid_there terms number r

    abbrev Single : List PropId → Type 0
    Single = AreSingle program m n same valid valid_there terms number r

    -- ---- the image of a term

    kind_at : (class o : ℕ) → conforms_at m class o ≡ true → (own : ℕ) × (class_at m o ≡ Some own)
    kind_at class o h = by (class_at m o) h
      where
        by : (x : Option ℕ) → conforms_if m.meta class x ≡ true → (own : ℕ) × (x ≡ Some own)
        by None e = absurd (true≢false (sym e))
        by (Some c) e = (c, refl)

    one_class : (c d o : ℕ) (ps qs : List PropId) → Contains (managed_classes program) c → key_of program c ≡ Some ps → key_of program d ≡ Some qs
        → conforms_at m c o ≡ true → conforms_at m d o ≡ true → c ≡ d
    one_class c d o ps qs has kc kd hc hd =
        let own = kind_at c o hc in
        tells.apart own.0 c d ps qs has kc kd (sym (ap (conforms_if m.meta c) own.1) ∙ hc) (sym (ap (conforms_if m.meta d) own.1) ∙ hd)

    term_moved : (t : Term) → ((x : TermValue) → Contains (out-Term t).keys x → ValueMoved x) → TermMoved t
    term_moved t layer has o is =
        let held : HoldsKeyOf program m number t o = r.holds t o has is in
        let each : (x : TermValue) → Contains (out-Term t).keys x → (h : Held ℕ) → held_as number x ≡ Some h → image_of_value program n x ≡ Some (moved to h) =
        λ x c. layer x c (λ u e. r.within t x u has c e) in
        let hs : List (Option (Held ℕ)) = map (image_of_value program n) (out-Term t).keys in
        let holds_there : holds_key program n (to o) held.props hs ≡ true = keys_moved program m n same valid valid_there terms number r o held.props (out-Term t).keys each held.holds in
        let conforms_there : conforms_at n (out-Term t).class.0 (to o) ≡ true = conforms_moved program m n same valid valid_there (out-Term t).class.0 o held.conforms in
        let among : Contains (extent_of n (out-Term t).class.0) (to o) =
        Contains-to_filter (conforms_at n (out-Term t).class.0) (range_with_len 0 (length n.objects)) (to o) conforms_there (in_range (length n.objects) (to o) (live-below n (to o) (conforming_is_live program m n same valid valid_there n (out-Term t).class.0 (to o) conforms_there))) in
        let found = first_there (λ a. holds_key program n a held.props hs) (extent_of n (out-Term t).class.0) (to o) holds_there among in
        let k : ℕ = found.0 in
        let image_there : image program n t ≡ Some k =
        ap (image program n) (sym (roll-out-Term t)) ∙ image_is program n (out-Term t).class (out-Term t).keys
        ∙ ap (object_with_key program n (out-Term t).class.0 hs) held.key ∙ found.1 in
        image_there ∙ ap (λ z. Some z) (is_image k image_there each held)
      where
        is_image : (k : ℕ) → image program n t ≡ Some k
            → ((x : TermValue) → Contains (out-Term t).keys x → (h : Held ℕ) → held_as number x ≡ Some h → image_of_value program n x ≡ Some (moved to h))
            → HoldsKeyOf program m number t o → k ≡ to o
        is_image k image_there each held =
            let class : ℕ = (out-Term t).class.0 in
            let q : ℕ = same.origin k in
            let object = term_found program n (out-Term t).class (out-Term t).keys k (ap (image program n) (roll-out-Term t) ∙ image_there) in
            let goes : to q ≡ k = to_from program m n same valid valid_there class k object.conforms in
            let conforms_here : conforms_at m class q ≡ true = conforms_back program m n same valid valid_there class k object.conforms in
            let other = r.all class q (managed t has) conforms_here in
            let u : Term = other.0 in
            let own : HoldsKeyOf program m number u q = r.holds u q other.1 other.2 in
            let classes : class ≡ (out-Term u).class.0 = one_class class (out-Term u).class.0 q held.props own.props (managed t has) held.key own.key conforms_here own.conforms in
            let props : Some held.props ≡ Some own.props = sym held.key ∙ ap (key_of program) classes ∙ own.key in
            let props : held.props ≡ own.props = cc in
            let found : Some object.props ≡ Some held.props = sym object.key ∙ held.key in
            let found : object.props ≡ held.props = cc in
            let single : Single held.props =
            λ p c. ap (λ (d : MetaDesc). is_one (prop_at d p.0).upper) same.meta ∙ tells.single class held.props p (managed t has) held.key c in
            let keys : (out-Term t).keys ≡ (out-Term u).keys =
            one_key program m n same valid valid_there terms number r q held.props (out-Term t).keys (out-Term u).keys single (λ x c v. r.within t x v has c) (λ y c v. r.within u y v other.1 c) o held.holds each
            (ap (λ z. holds_key program n z held.props (map (image_of_value program n) (out-Term t).keys)) goes
            ∙ ap (λ ps. holds_key program n k ps (map (image_of_value program n) (out-Term t).keys)) (sym found) ∙ object.holds)
            (ap (λ ps. holds_key program m q ps (map (held_as number) (out-Term u).keys)) props ∙ own.holds) in
            let terms_one : t ≡ u =
            sym (roll-out-Term t) ∙ ap (λ c. roll-Term (record { class = record { 0 = c }; keys = (out-Term t).keys })) classes
            ∙ ap (λ ks. roll-Term (record { class = (out-Term u).class; keys = ks })) keys ∙ roll-out-Term u in
            let numbers : Some o ≡ Some q = sym is ∙ ap number terms_one ∙ other.2 in
            let number_one : o ≡ q = cc in
            sym goes ∙ ap to (sym number_one)

    abbrev MovedValue : Type 0
    MovedValue = (x : TermValue) × ValueMoved x

    abbrev MovedTerm : Type 0
    MovedTerm = (t : Term) × TermMoved t

    each_moved : (zs : List MovedValue) (x : TermValue) → Contains (map (λ z. z.0) zs) x → ValueMoved x
    each_moved zs x c = let found = Contains-from_map (λ z. z.0) zs x c in subst ValueMoved found.2 found.0.1

    term_layer : (z : of.Term-F MovedValue MovedTerm) → TermMoved (roll-Term (map-Term MovedValue MovedTerm TermValue Term (λ x. x.0) (λ x. x.0) z))
    term_layer z =
        let keys : List TermValue = map (λ x. x.0) z.keys in
        term_moved (roll-Term (record { class = z.class; keys = keys }))
        (λ x c. each_moved z.keys x (subst (λ (f : of.Term-F TermValue Term). Contains f.keys x) (out-roll-Term (record { class = z.class; keys = keys })) c))

    value_layer : (z : of.TermValue-F MovedValue MovedTerm) → ValueMoved (roll-TermValue (map-TermValue MovedValue MovedTerm TermValue Term (λ x. x.0) (λ x. x.0) z))
    value_layer (of.Val d) within h is =
        let read : Some (Held.datum d) ≡ Some h = sym (ap (λ (f : of.TermValue-F TermValue Term). held_by_number number (value_held_in f)) (out-roll-TermValue (of.Val d))) ∙ is in
        let held : Held.datum d ≡ h = cc in
        image_of_datum program n d ∙ ap (λ k. Some (moved to k)) held
    value_layer (of.Term w) within h is =
        by (number w.0) refl (sym (ap (λ (f : of.TermValue-F TermValue Term). held_by_number number (value_held_in f)) (out-roll-TermValue (of.Term w.0))) ∙ is)
      where
        by : (z : Option ℕ) → number w.0 ≡ z → option_map (λ k. Held.object k) z ≡ Some h → image_of_value program n (roll-TermValue (of.Term w.0)) ≡ Some (moved to h)
        by None e g = absurd (cc)
        by (Some o) e g =
            let held : Held.object o ≡ h = cc in
            let has : Contains terms w.0 = within w.0 (ap term_part (out-roll-TermValue (of.Term w.0))) in
            image_of_term program n w.0 ∙ ap (option_map (λ k. Held.object k)) (w.1 has o e) ∙ ap (λ k. Some (moved to k)) held

    -- each term's image is what its object goes to
    pub images_moved : (t : Term) → TermMoved t
    images_moved = ind-Term ValueMoved TermMoved
        (λ x y is. subst (λ z. ValueMoved (roll-TermValue z)) is (value_layer y))
        (λ x y is. subst (λ z. TermMoved (roll-Term z)) is (term_layer y))

    -- ---- demands, and objects that are unneeded

    pub have_images : HaveObjects terms (image program n)
    have_images t has = let own = have t has in (to own.0, images_moved t has own.0 own.1)

    pub none_unneeded : (o : ℕ) → is_unneeded n (managed_classes program) (images_of program n terms) o ≡ false
    none_unneeded o = by (list_any (λ class. conforms_at n class o) (managed_classes program)) refl
      where
        by : (b : Bool) → list_any (λ class. conforms_at n class o) (managed_classes program) ≡ b → (b && not (is_number_among o (images_of program n terms))) ≡ false
        by false is = refl
        by true is =
            let found = any_from (λ class. conforms_at n class o) (managed_classes program) is in
            let own = r.all found.0 (same.origin o) found.1 (conforms_back program m n same valid valid_there found.0 o found.2) in
            let goes : image program n own.0 ≡ Some o =
            images_moved own.0 own.1 (same.origin o) own.2 ∙ ap (λ z. Some z) (to_from program m n same valid valid_there found.0 o found.2) in
            ap not (number_there o (images_of program n terms) (in_filter_map (image program n) terms own.0 o own.1 goes))

    held_value : (x : TermValue) (h : Held ℕ) → ((u : Term) → term_in x ≡ Some u → Contains terms u) → held_as number x ≡ Some h → held_as (image program n) x ≡ Some (moved to h)
    held_value x h within is = by (out-TermValue x) refl is
      where
        by : (a : of.TermValue-F TermValue Term) → out-TermValue x ≡ a → held_by_number number (value_held_in a) ≡ Some h → held_by_number (image program n) (value_held_in a) ≡ Some (moved to h)
        by (of.Val d) e g = let held : Held.datum d ≡ h = cc in ap (λ k. Some (moved to k)) held
        by (of.Term t) e g = object (number t) refl g
          where
            object : (z : Option ℕ) → number t ≡ z → option_map (λ k. Held.object k) z ≡ Some h → option_map (λ k. Held.object k) (image program n t) ≡ Some (moved to h)
            object None o f = absurd (cc)
            object (Some o) c f =
                let held : Held.object o ≡ h = cc in
                ap (option_map (λ k. Held.object k)) (images_moved t (within t (ap term_part e)) o c) ∙ ap (λ k. Some (moved to k)) held

    pub demands_moved : (demands : List Demand) → ((d : Demand) → Contains demands d → Contains terms d.owner)
        → ((d : Demand) (u : Term) → Contains demands d → term_in d.value ≡ Some u → Contains terms u)
        → AllStand program m number demands → AllStand program n (image program n) demands
    demands_moved demands owners values stand d has =
        let here : Stands program m number d = stand d has in record {
          owner = to here.owner;
          owner_is = images_moved d.owner (owners d has) here.owner here.owner_is;
          held = moved to here.held;
          held_is = held_value d.value here.held (λ u e. values d u has e) here.held_is;
          holds = holds_moved program m n same valid valid_there here.owner d.prop.0 here.held here.holds;
        }

-- the model that enforcing the demands makes of such a model is that model
pub second_changes_nothing : (program : Program) (m n : ModelData) (demands : List Demand) (number : Numbering) → IsSame m n → Valid m → Valid n → TellsByKeys program m
    → IsReading program m (demanded_terms demands) number → ((t : Term) → Contains (demanded_terms demands) t → Contains (managed_classes program) (out-Term t).class.0)
    → AllStand program m number demands → candidate program n demands ≡ n
second_changes_nothing program m n demands number same valid valid_there tells r managed stand =
    let terms : List Term = demanded_terms demands in
    let have : HaveObjects terms number = standing_terms program m number demands stand in
    nothing_changes program n valid_there demands (none_unneeded program m n same valid valid_there terms number tells r have managed)
    (have_images program m n same valid valid_there terms number tells r have managed)
    (demands_moved program m n same valid valid_there terms number tells r have managed demands (owner_demanded demands) (value_demanded demands) stand)
