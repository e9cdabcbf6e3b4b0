-- Over a valid model of which keys tell the objects apart, terms with one image are one: by the terms within them.
use Rattle.std.specs.Prelude.{◌≡◌, ◌<◌, ◌≤◌, ℕ, Bool, true, false, cond, List, [], ◌∷◌, map, length, Option, None, Some, Contains}
use Rattle.std.specs.List.{filter, range_with_len}
use Rattle.std.specs.Option.{option_map}
use Rattle.std.proofs.Common.{refl, ap, sym, ◌∙◌, subst, inl, inr, true≢false}
use Rattle.std.proofs.lemmas.Bool.{cases_lt}
use Rattle.std.proofs.lemmas.List.{get_or_past}
use Rattle.mof_metamodel.specs.declared.desc.ClassId.{ClassId}
use Rattle.mof_metamodel.specs.declared.desc.PropId.{PropId}
use Rattle.object_tables.specs.Objects.{Object}
use Rattle.object_tables.specs.Models.{ModelData, class_at}
use Rattle.object_tables.specs.Validity.{Valid}
use Rattle.qv_syntax.specs.declared.program.Program.{Program}
use Rattle.qvtr_semantics.specs.declared.datum.Datum.{Datum}
use Rattle.qvtr_semantics.specs.Objects.{conforms_if, conforms_at, extent_of}
use Rattle.template_match.proofs.ListLaws.{contains_later}
use Rattle.mof_metamodel.proofs.Facts.{contains_first}
use Rattle.repair_semantics.specs.declared.term.Term.{Term, roll-Term, out-Term, roll-out-Term, out-roll-Term, map-Term, ind-Term}
use Rattle.repair_semantics.specs.declared.term.TermValue.{TermValue, roll-TermValue, out-TermValue, roll-out-TermValue, out-roll-TermValue, map-TermValue}
use Rattle.repair_semantics.specs.declared.term.TermValue.TheOpen as of
use Rattle.repair_semantics.specs.Terms.{term_part, term_in}
use Rattle.repair_semantics.specs.TargetItems.{key_of}
use Rattle.repair_semantics.specs.Claims.{Held}
use Rattle.repair_semantics.specs.Images.{held_in, holds, holds_key, first_number, object_with_key, image}
use Rattle.repair_semantics.proofs.TermLaws.{image_of_value, image_is, image_of_datum, image_of_term}
use Rattle.repair_semantics.specs.Deletions.{managed_classes}
use Rattle.reading_laws.specs.Keyed.{TellsByKeys}
use Rattle.repair_laws.specs.Closed.{AreClosed}
use Rattle.reading_laws.proofs.HeldLaws.{one_held, few_held}
use Rattle.mof_metamodel.proofs.Facts.{second_true}
use Rattle.mof_metamodel.proofs.Facts.{first_true}

-- ---- the first number of a list that passes a test

one_number : (n o : ℕ) → Some n ≡ Some o → n ≡ o
one_number n o h = cc

no_first : {X : Type 0} (o : X) → ◌≡◌ {A = Option X} None (Some o) → ⊥
no_first o h = cc

first_passes : (test : ℕ → Bool) (ns : List ℕ) (o : ℕ) → first_number (filter test ns) ≡ Some o → test o ≡ true
first_passes test [] o h = absurd (no_first o h)
first_passes test (n ∷ ns) o h = by (first_passes test ns o) (test n) refl h
  where
    by : (first_number (filter test ns) ≡ Some o → test o ≡ true) → (b : Bool) → test n ≡ b
        → first_number (cond b (n ∷ filter test ns) (filter test ns)) ≡ Some o → test o ≡ true
    by later true is e = subst (λ k. test k ≡ true) (one_number n o e) is
    by later false is e = later e

inner_passes : (test inner : ℕ → Bool) (ns : List ℕ) (o : ℕ) → first_number (filter test (filter inner ns)) ≡ Some o → inner o ≡ true
inner_passes test inner [] o h = absurd (no_first o h)
inner_passes test inner (n ∷ ns) o h = by (inner_passes test inner ns o) (inner n) refl h
  where
    kept : (first_number (filter test (filter inner ns)) ≡ Some o → inner o ≡ true) → inner n ≡ true → (c : Bool)
        → first_number (cond c (n ∷ filter test (filter inner ns)) (filter test (filter inner ns))) ≡ Some o → inner o ≡ true
    kept later is true e = subst (λ k. inner k ≡ true) (one_number n o e) is
    kept later is false e = later e

    by : (first_number (filter test (filter inner ns)) ≡ Some o → inner o ≡ true) → (b : Bool) → inner n ≡ b
        → first_number (filter test (cond b (n ∷ filter inner ns) (filter inner ns))) ≡ Some o → inner o ≡ true
    by later true is e = kept later is (test n) e
    by later false is e = later e

-- ---- objects and data

some_held : (h i : Held ℕ) → Some h ≡ Some i → h ≡ i
some_held h i e = cc

some_props : (ps qs : List PropId) → Some ps ≡ Some qs → ps ≡ qs
some_props ps qs e = cc

data_one : (d e : Datum) → ◌≡◌ {A = Held ℕ} (Held.datum d) (Held.datum e) → d ≡ e
data_one d e h = cc

objects_one : (a b : ℕ) → Held.object a ≡ Held.object b → a ≡ b
objects_one a b h = cc

object_image : (x : Option ℕ) (h : Held ℕ) → option_map (λ n. Held.object n) x ≡ Some h → (n : ℕ) × (x ≡ Some n) × (h ≡ Held.object n)
object_image None h e = absurd (no_first h e)
object_image (Some n) h e = (n, refl, sym (some_held (Held.object n) h e))

no_object : (d : Datum) (n : ℕ) → ◌≡◌ {A = Held ℕ} (Held.datum d) (Held.object n) → ⊥
no_object d n h = cc

module _ (program : Program) (m : ModelData) where
  -- ---- what an image is

  pub record IsObjectFor (class : ℕ) (hs : List (Option (Held ℕ))) (o : ℕ) : Type 0 where
    pub props : List PropId
    pub key : key_of program class ≡ Some props
    pub holds : holds_key program m o props hs ≡ true
    pub conforms : conforms_at m class o ≡ true

  object_found : (class : ℕ) (hs : List (Option (Held ℕ))) (o : ℕ) (k : Option (List PropId)) → key_of program class ≡ k
      → object_with_key program m class hs k ≡ Some o → IsObjectFor class hs o
  object_found class hs o None is h = absurd (no_first o h)
  object_found class hs o (Some ps) is h = record {
    props = ps;
    key = is;
    holds = first_passes (λ a. holds_key program m a ps hs) (extent_of m class) o h;
    conforms = inner_passes (λ a. holds_key program m a ps hs) (conforms_at m class) (range_with_len 0 (length m.objects)) o h;
  }

  -- the object of a term
  pub term_found : (class : ClassId) (keys : List TermValue) (o : ℕ) → image program m (roll-Term (record { class = class; keys = keys })) ≡ Some o
      → IsObjectFor class.0 (map (image_of_value program m) keys) o
  term_found class keys o h = object_found class.0 (map (image_of_value program m) keys) o (key_of program class.0) refl (sym (image_is program m class keys) ∙ h)

  conforming_is_live : (class o : ℕ) → conforms_at m class o ≡ true → o < length m.objects
  conforming_is_live class o h = elim (cases_lt o (length m.objects)) [
    | inl l ↦ l
    | inr le ↦ absurd (true≢false (sym h ∙ ap (λ (x : Option Object). conforms_if m.meta class (option_map (λ ob. ob.class) x)) (get_or_past m.objects o None le)))
  ]

  -- an image is an object of the term's class
  pub image_conforms : (t : Term) (o : ℕ) → image program m t ≡ Some o → conforms_at m (out-Term t).class.0 o ≡ true
  image_conforms t o h = (term_found (out-Term t).class (out-Term t).keys o (ap (image program m) (roll-out-Term t) ∙ h)).conforms

  pub image_is_live : (t : Term) (o : ℕ) → image program m t ≡ Some o → o < length m.objects
  image_is_live t o h = conforming_is_live (out-Term t).class.0 o (image_conforms t o h)

module _ (program : Program) (m : ModelData) (terms : List Term) (valid : Valid m) (tells : TellsByKeys program m) (closed : AreClosed program terms) where
  -- ---- one class

  one_class : (c d o : ℕ) (ps qs : List PropId) → Contains (managed_classes program) c → key_of program c ≡ Some ps → key_of program d ≡ Some qs → conforms_at m c o ≡ true → conforms_at m d o ≡ true → c ≡ d
  one_class c d o ps qs managed kc kd hc hd = by (class_at m o) hc hd
    where
      by : (x : Option ℕ) → conforms_if m.meta c x ≡ true → conforms_if m.meta d x ≡ true → c ≡ d
      by None h g = absurd (true≢false (sym h))
      by (Some k) h g = tells.apart k c d ps qs managed kc kd h g

  -- ---- key values

  -- a term of the list, or any datum
  abbrev IsAmong : TermValue → Type 0
  IsAmong x = (u : Term) → term_in x ≡ Some u → Contains terms u

  -- such a value with the image of another one is that one
  abbrev ValueTold : TermValue → Type 0
  ValueTold x = IsAmong x → (y : TermValue) (h : Held ℕ) → image_of_value program m x ≡ Some h → image_of_value program m y ≡ Some h → x ≡ y

  abbrev TermTold : Term → Type 0
  TermTold t = Contains terms t → (u : Term) (o : ℕ) → image program m t ≡ Some o → image program m u ≡ Some o → t ≡ u

  abbrev ToldValue : Type 0
  ToldValue = (x : TermValue) × ValueTold x

  abbrev ToldTerm : Type 0
  ToldTerm = (t : Term) × TermTold t

  abbrev Few : ℕ → List PropId → Type 0
  Few o ps = (p : PropId) → Contains ps p → length (held_in program m o p.0) ≤ 1

  keys_told : (o : ℕ) (ps : List PropId) (zs : List ToldValue) (ys : List TermValue) → Few o ps → ((x : TermValue) → Contains (map (λ z. z.0) zs) x → IsAmong x)
      → holds_key program m o ps (map (image_of_value program m) (map (λ z. z.0) zs)) ≡ true → holds_key program m o ps (map (image_of_value program m) ys) ≡ true
      → map (λ z. z.0) zs ≡ ys
  keys_told o [] [] [] few among a b = refl
  keys_told o [] [] (y ∷ ys) few among a b = absurd (true≢false (sym b))
  keys_told o [] (z ∷ zs) ys few among a b = absurd (true≢false (sym a))
  keys_told o (p ∷ ps) [] ys few among a b = absurd (true≢false (sym a))
  keys_told o (p ∷ ps) (z ∷ zs) [] few among a b = absurd (true≢false (sym b))
  keys_told o (p ∷ ps) (z ∷ zs) (y ∷ ys) few among a b =
      by (keys_told o ps zs ys (λ q k. few q (contains_later q p ps k)) (λ x k. among x (contains_later x z.0 (map (λ w. w.0) zs) k))) (image_of_value program m z.0) (image_of_value program m y) refl refl a b
    where
      by : (holds_key program m o ps (map (image_of_value program m) (map (λ w. w.0) zs)) ≡ true → holds_key program m o ps (map (image_of_value program m) ys) ≡ true
          → map (λ w. w.0) zs ≡ ys) → (h i : Option (Held ℕ)) → image_of_value program m z.0 ≡ h → image_of_value program m y ≡ i
          → holds_key program m o (p ∷ ps) (h ∷ map (image_of_value program m) (map (λ w. w.0) zs)) ≡ true
          → holds_key program m o (p ∷ ps) (i ∷ map (image_of_value program m) ys) ≡ true → z.0 ∷ map (λ w. w.0) zs ≡ y ∷ ys
      by later None i ih ii c d = absurd (true≢false (sym c))
      by later (Some h) None ih ii c d = absurd (true≢false (sym d))
      by later (Some h) (Some i) ih ii c d =
          let there = holds_key program m o ps (map (image_of_value program m) (map (λ w. w.0) zs)) in
          let here = holds_key program m o ps (map (image_of_value program m) ys) in
          let same : h ≡ i = one_held (held_in program m o p.0) h i (few p (contains_first p ps)) (first_true (holds program m o p.0 h) there c) (first_true (holds program m o p.0 i) here d) in
          let first : z.0 ≡ y = z.1 (among z.0 (contains_first z.0 (map (λ w. w.0) zs))) y h ih (ii ∙ ap (λ x. Some x) (sym same)) in
          let rest : map (λ w. w.0) zs ≡ ys = later (second_true (holds program m o p.0 h) there c) (second_true (holds program m o p.0 i) here d) in
          ap (λ x. x ∷ map (λ w. w.0) zs) first ∙ ap (λ rs. y ∷ rs) rest

  -- ---- terms by the terms within them

  few_at : (o class : ℕ) (ps : List PropId) → Contains (managed_classes program) class → key_of program class ≡ Some ps → Few o ps
  few_at o class ps managed key p has = few_held program m o p.0 valid (tells.single class ps p managed key has)

  out_value : (x : of.TermValue-F TermValue Term) → term_in (roll-TermValue x) ≡ term_part x
  out_value x = ap term_part (out-roll-TermValue x)

  term_layer : (z : of.Term-F ToldValue ToldTerm) → TermTold (roll-Term (map-Term ToldValue ToldTerm TermValue Term (λ x. x.0) (λ x. x.0) z))
  term_layer z has u o h k =
      let whole : of.Term-F TermValue Term = map-Term ToldValue ToldTerm TermValue Term (λ x. x.0) (λ x. x.0) z in
      let managed : Contains (managed_classes program) z.class.0 = subst (λ (y : of.Term-F TermValue Term). Contains (managed_classes program) y.class.0) (out-roll-Term whole) (closed.managed (roll-Term whole) has) in
      let keys : List TermValue = map (λ x. x.0) z.keys in
      let found = term_found program m z.class keys o h in
      let other = term_found program m (out-Term u).class (out-Term u).keys o (ap (image program m) (roll-out-Term u) ∙ k) in
      let class : z.class.0 ≡ (out-Term u).class.0 = one_class z.class.0 (out-Term u).class.0 o found.props other.props managed found.key other.key found.conforms other.conforms in
      let keyed : Some found.props ≡ Some other.props = sym found.key ∙ ap (key_of program) class ∙ other.key in
      let props : found.props ≡ other.props = some_props found.props other.props keyed in
      let same : keys ≡ (out-Term u).keys = keys_told o found.props z.keys (out-Term u).keys (few_at o z.class.0 found.props managed found.key)
      (λ x there v is. closed.within (roll-Term whole) x v has (subst (λ (y : of.Term-F TermValue Term). Contains y.keys x) (sym (out-roll-Term whole)) there) is) found.holds
      (subst (λ ps. holds_key program m o ps (map (image_of_value program m) (out-Term u).keys) ≡ true) (sym props) other.holds) in
      ap (λ n. roll-Term (record { class = record { 0 = n }; keys = keys })) class ∙ ap (λ ks. roll-Term (record { class = (out-Term u).class; keys = ks })) same ∙ roll-out-Term u

  opened : (y : TermValue) (h : Held ℕ) → image_of_value program m y ≡ Some h → image_of_value program m (roll-TermValue (out-TermValue y)) ≡ Some h
  opened y h e = ap (image_of_value program m) (roll-out-TermValue y) ∙ e

  value_layer : (z : of.TermValue-F ToldValue ToldTerm) → ValueTold (roll-TermValue (map-TermValue ToldValue ToldTerm TermValue Term (λ x. x.0) (λ x. x.0) z))
  value_layer (of.Val d) within y h a b = by (out-TermValue y) (roll-out-TermValue y) (opened y h b)
    where
      here : Held.datum d ≡ h
      here = some_held (Held.datum d) h (sym (image_of_datum program m d) ∙ a)

      by : (x : of.TermValue-F TermValue Term) → roll-TermValue x ≡ y → image_of_value program m (roll-TermValue x) ≡ Some h → roll-TermValue (of.Val d) ≡ y
      by (of.Val e) is c =
          let there : Held.datum e ≡ h = some_held (Held.datum e) h (sym (image_of_datum program m e) ∙ c) in
          ap (λ x. roll-TermValue (of.Val x)) (data_one d e (here ∙ sym there)) ∙ is
      by (of.Term t) is c =
          let found = object_image (image program m t) h (sym (image_of_term program m t) ∙ c) in
          absurd (no_object d found.0 (here ∙ found.2))
  value_layer (of.Term w) within y h a b = by (out-TermValue y) (roll-out-TermValue y) (opened y h b)
    where
      here : (n : ℕ) × (image program m w.0 ≡ Some n) × (h ≡ Held.object n)
      here = object_image (image program m w.0) h (sym (image_of_term program m w.0) ∙ a)

      by : (x : of.TermValue-F TermValue Term) → roll-TermValue x ≡ y → image_of_value program m (roll-TermValue x) ≡ Some h → roll-TermValue (of.Term w.0) ≡ y
      by (of.Val e) is c =
          absurd (no_object e here.0 (some_held (Held.datum e) h (sym (image_of_datum program m e) ∙ c) ∙ here.2))
      by (of.Term t) is c =
          let found = object_image (image program m t) h (sym (image_of_term program m t) ∙ c) in
          let objects : Held.object here.0 ≡ Held.object found.0 = sym here.2 ∙ found.2 in
          let number : here.0 ≡ found.0 = objects_one here.0 found.0 objects in
          ap (λ x. roll-TermValue (of.Term x)) (w.1 (within w.0 (out_value (of.Term w.0))) t here.0 here.1 (found.1 ∙ ap (λ n. Some n) (sym number))) ∙ is

  pub one_image_one_term : (t : Term) → TermTold t
  one_image_one_term = ind-Term ValueTold TermTold
      (λ x y is. subst (λ z. ValueTold (roll-TermValue z)) is (value_layer y))
      (λ x y is. subst (λ z. TermTold (roll-Term z)) is (term_layer y))
