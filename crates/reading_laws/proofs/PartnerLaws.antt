-- A partner of an entry's binding has the values that the entry makes, as they are read: a term by the object that holds its key values.
use Rattle.std.specs.Prelude.{◌≡◌, ◌<◌, ◌≤◌, ◌⊎◌, ℕ, zero, suc, Bool, true, false, List, [], ◌∷◌, map, length, Option, None, Some, Contains}
use Rattle.std.specs.Option.{option_map, option_and_then, option_or}
use Rattle.std.proofs.Common.{refl, sym, ap, subst, ◌∙◌, inl, inr}
use Rattle.std.proofs.lemmas.Bool.{true≢false, cases_lt}
use Rattle.std.proofs.lemmas.List.{get_or_past}
use Rattle.mof_metamodel.specs.declared.desc.MetaDesc.{MetaDesc}
use Rattle.mof_metamodel.specs.declared.desc.PropId.{PropId}
use Rattle.object_tables.specs.Models.{ModelData, class_at}
use Rattle.qv_syntax.specs.declared.program.Program.{Program}
use Rattle.qv_syntax.specs.declared.program.Rel.{Rel}
use Rattle.qv_syntax.specs.declared.program.Conj.TheVariants as conjuncts
use Rattle.qv_syntax.specs.declared.typed.Typed.{Typed}
use Rattle.qvtr_semantics.specs.declared.datum.Datum.{Datum}
use Rattle.qvtr_semantics.specs.declared.out.Out.{Out}
use Rattle.qvtr_semantics.specs.declared.out.Out.TheVariants as outs
use Rattle.qvtr_semantics.specs.Outs.{and_then, all_given}
use Rattle.qvtr_semantics.specs.Objects.{conforms_if, conforms_at, object_datum}
use Rattle.qvtr_semantics.specs.Expressions.{Scope, value, variable, bound_value, setting}
use Rattle.qvtr_semantics.specs.Templates.{Values, value_at, conforms, is_of_class}
use Rattle.template_match.specs.Sources.{is_of_target, is_target_variable}
use Rattle.template_match.proofs.ListLaws.{contains_later}
use Rattle.mof_metamodel.proofs.Facts.{contains_first}
use Rattle.source_laws.specs.SourceValues.{IsOfSources}
use Rattle.source_laws.proofs.QueryLaws.{variable_is}
use Rattle.repair_semantics.specs.declared.term.Term.{Term, out-Term, roll-out-Term}
use Rattle.repair_semantics.specs.declared.term.TermValue.{TermValue, roll-TermValue, out-TermValue, roll-out-TermValue}
use Rattle.repair_semantics.specs.declared.term.TermValue.TheVariants as values
use Rattle.repair_semantics.specs.declared.term.TermValue.TheOpen as of
use Rattle.repair_semantics.specs.Terms.{datum_part, term_part, datum_in, term_in}
use Rattle.repair_semantics.specs.EntryValues.{TermValues, value_of, term_of, given_out}
use Rattle.repair_semantics.specs.TargetItems.{target_items, class_of_variable, key_of}
use Rattle.repair_semantics.specs.Making.{variables, entry_scope, key_value, keyed, term_by, made_term, value_or_datum, with_terms, values_within, entry_known}
use Rattle.repair_semantics.specs.Claims.{Held}
use Rattle.repair_semantics.specs.Deletions.{managed_classes}
use Rattle.repair_semantics.specs.Conflicts.{held_in}
use Rattle.repair_semantics.specs.Images as images
use Rattle.repair_semantics.specs.Images.{holds, holds_key}
use Rattle.repair_semantics.specs.Candidates.{held_by_number}
use Rattle.reading_laws.specs.Readings.{Numbering, held_as, read_part, read_value, IsReading, Reads}
use Rattle.reading_laws.proofs.HeldLaws.{one_held, few_held}
use Rattle.mof_metamodel.proofs.Facts.{second_true}
use Rattle.mof_metamodel.proofs.Facts.{first_true}
use Rattle.reading_laws.proofs.MeetingValues.{nothing_some, within_terms, data_at, out_datum, out_term}
use Rattle.std.proofs.lemmas.Option.{same_Some}
use Rattle.reading_laws.proofs.MeetingKnown.{at_variable}
use Rattle.reading_laws.proofs.PartnerValues.{places_of, object_for, model_is, IsPartnered, Fits, given_fits, places, partner_apart}
use Rattle.reading_laws.proofs.PartnerEquations.{scope_is_read, target_scope}
use Rattle.reading_laws.proofs.PartnerPlaces.{IsMadeHere, made_here}
use Rattle.reading_laws.proofs.PartnerKeys.{IsKeyHeld, key_held}

-- ---- values that are held

data_one : (d e : Datum) → ◌≡◌ {A = Held ℕ} (Held.datum d) (Held.datum e) → d ≡ e
data_one d e h = cc

objects_one : (a b : ℕ) → ◌≡◌ {A = Held ℕ} (Held.object a) (Held.object b) → a ≡ b
objects_one a b h = cc

no_object : (d : Datum) (n : ℕ) → ◌≡◌ {A = Held ℕ} (Held.datum d) (Held.object n) → ⊥
no_object d n h = cc

object_held : (o : Option ℕ) (h : Held ℕ) → option_map (λ n. Held.object n) o ≡ Some h → (n : ℕ) × (o ≡ Some n) × (Held.object n ≡ h)
object_held None h e = absurd (nothing_some h e)
object_held (Some n) h e = (n, refl, same_Some (Held.object n) h e)

module _ (program : Program) (m : ModelData) (terms : List Term) (number : Numbering) (reading : IsReading program m terms number) where
  abbrev Own : TermValue → Type 0
  Own x = (t : Term) → term_in x ≡ Some t → Contains terms t

  -- two values that are held alike are one
  pub value_same : (x y : TermValue) (h : Held ℕ) → held_as number x ≡ Some h → held_as number y ≡ Some h → Own x → Own y → x ≡ y
  value_same x y h held_x held_y own_x own_y =
      sym (roll-out-TermValue x) ∙ ap roll-TermValue (by (out-TermValue x) (out-TermValue y) refl refl) ∙ roll-out-TermValue y
    where
      at : (z : TermValue) (l : of.TermValue-F TermValue Term) → out-TermValue z ≡ l → held_as number z ≡ Some h → held_by_number number (held_in l) ≡ Some h
      at z l is held = sym (ap (λ k. held_by_number number (held_in k)) is) ∙ held

      by : (k l : of.TermValue-F TermValue Term) → out-TermValue x ≡ k → out-TermValue y ≡ l → out-TermValue x ≡ out-TermValue y
      by (of.Val d) (of.Val e) is_x is_y =
          let one = data_one d e (same_Some (Held.datum d) h (at x (of.Val d) is_x held_x) ∙ sym (same_Some (Held.datum e) h (at y (of.Val e) is_y held_y))) in
          is_x ∙ ap (λ z. let l : of.TermValue-F TermValue Term = of.Val z in l) one ∙ sym is_y
      by (of.Val d) (of.Term u) is_x is_y =
          let (n, has, same) = object_held (number u) h (at y (of.Term u) is_y held_y) in
          absurd (no_object d n (same_Some (Held.datum d) h (at x (of.Val d) is_x held_x) ∙ sym same))
      by (of.Term t) (of.Val e) is_x is_y =
          let (n, has, same) = object_held (number t) h (at x (of.Term t) is_x held_x) in
          absurd (no_object e n (same_Some (Held.datum e) h (at y (of.Val e) is_y held_y) ∙ sym same))
      by (of.Term t) (of.Term u) is_x is_y =
          let (n, has, same) = object_held (number t) h (at x (of.Term t) is_x held_x) in
          let (k, has_too, there) = object_held (number u) h (at y (of.Term u) is_y held_y) in
          let number_is : n ≡ k = objects_one n k (same ∙ sym there) in
          let one : t ≡ u = reading.apart t u n (own_x t (ap term_part is_x)) (own_y u (ap term_part is_y)) has (has_too ∙ ap (λ j. Some j) (sym number_is)) in
          is_x ∙ ap (λ z. let l : of.TermValue-F TermValue Term = of.Term z in l) one ∙ sym is_y

module _ (metas : List MetaDesc) (program : Program) (sources models : List ModelData) (m : ModelData) (terms : List Term) (number : Numbering) (rel : Rel) (roots b : TermValues) (c g : Values)
    (p : IsPartnered metas program sources models m terms number rel roots b c g)
    (fix : (v : ℕ) (e : Typed) → Contains rel.wheres (conjuncts.Equation v e)
    → variable (entry_scope program sources rel b) v ≡ value program sources e (entry_scope program sources rel b)) where
  abbrev scope : Scope
  scope = entry_scope program sources rel b

  abbrev FitsAt : ℕ → TermValue → Type 0
  FitsAt v x = Fits metas program sources models m terms number rel roots b c g p v x

  abbrev AllFit : TermValues → Type 0
  AllFit vs = (v : ℕ) (x : TermValue) → value_of vs v ≡ Some x → FitsAt v x

  abbrev KeyHeld : ℕ → ℕ → TermValue → Type 0
  KeyHeld n q x = IsKeyHeld metas program sources models m terms number rel roots b c g p fix n q x

  -- ---- the key values of an object that holds those of a term are the term's

  keys_same : (kv : PropId → Option TermValue) (n : ℕ) → ((q : PropId) (x : TermValue) → kv q ≡ Some x → KeyHeld n q.0 x) → (props : List PropId) (xs ys : List TermValue)
      → ((q : PropId) → Contains props q → length (images.held_in program m n q.0) ≤ 1) → ((y : TermValue) (t : Term) → Contains ys y → term_in y ≡ Some t → Contains terms t)
      → all_given (map kv props) ≡ Some xs → holds_key program m n props (map (held_as number) ys) ≡ true → xs ≡ ys
  keys_same kv n held [] xs [] few own given h = sym (same_Some [] xs given)
  keys_same kv n held [] xs (y ∷ ys) few own given h = absurd (true≢false (sym h))
  keys_same kv n held (q ∷ props) xs [] few own given h = absurd (true≢false (sym h))
  keys_same kv n held (q ∷ props) xs (y ∷ ys) few own given h =
      by (λ zs all k. keys_same kv n held props zs ys (λ r among. few r (contains_later r q props among)) (λ z t among term. own z t (contains_later z y ys among) term) all k)
      (kv q) (all_given (map kv props)) (held_as number y) refl refl refl given h
    where
      by : ((zs : List TermValue) → all_given (map kv props) ≡ Some zs → holds_key program m n props (map (held_as number) ys) ≡ true → zs ≡ ys)
          → (o : Option TermValue) (os : Option (List TermValue)) (i : Option (Held ℕ)) → kv q ≡ o → all_given (map kv props) ≡ os → held_as number y ≡ i
          → all_given (o ∷ map kv props) ≡ Some xs → holds_key program m n (q ∷ props) (i ∷ map (held_as number) ys) ≡ true → xs ≡ y ∷ ys
      by later None os i is rest held_y all k = absurd (nothing_some xs all)
      by later (Some x) None i is rest held_y all k = absurd (nothing_some xs (sym (ap (option_map (λ zs. x ∷ zs)) rest) ∙ all))
      by later (Some x) (Some zs) None is rest held_y all k = absurd (true≢false (sym k))
      by later (Some x) (Some zs) (Some i) is rest held_y all k =
          let here : KeyHeld n q.0 x = held q x is in
          let others = holds_key program m n props (map (held_as number) ys) in
          let one : here.held.held ≡ i =
          one_held (images.held_in program m n q.0) here.held.held i (few q (contains_first q props)) here.held.holds (first_true (holds program m n q.0 i) others k) in
          let same : x ≡ y =
          value_same program m terms number p.reading x y i (here.held.held_is ∙ ap (λ j. Some j) one) held_y here.among (λ t term. own y t (contains_first y ys) term) in
          let more : zs ≡ ys = later zs rest (second_true (holds program m n q.0 i) others k) in
          sym (same_Some (x ∷ zs) xs (sym (ap (option_map (λ rs. x ∷ rs)) rest) ∙ all)) ∙ ap (λ z. z ∷ zs) same ∙ ap (λ rs. y ∷ rs) more

  -- ---- a term that is made

  -- an object of the class
  record IsObject (v class : ℕ) : Type 0 where
    object : ℕ
    at : value_at g v ≡ Some (object_datum program.target object)
    conforms : conforms_at m class object ≡ true

  object_of : (v class : ℕ) → IsMadeHere metas program sources models m terms number rel roots b c g p v class → IsObject v class
  object_of v class made =
      let x = made.valued in
      let (k, n, is, model, of_class) = object_for (setting program models) x.var class x.value made.typed x.fits in
      let same : k ≡ program.target = model_is x.var.model k program.target model (sym (ap (is_of_target program) x.found) ∙ made.target) in
      record {
        object = n;
        at = x.at ∙ ap (λ d. Some d) (is ∙ ap (λ j. object_datum j n) same);
        conforms = by n (class_at m n) refl
            (subst (λ o. conforms class (and_then o (λ (model : ModelData). option_map (λ own. record { meta = model.meta; class = own }) (class_at model n))) ≡ true) p.over.target
            (subst (λ j. is_of_class (setting program models) class (object_datum j n) ≡ true) same of_class));
      }
    where
      by : (n : ℕ) (o : Option ℕ) → class_at m n ≡ o → conforms class (option_map (λ own. record { meta = m.meta; class = own }) o) ≡ true → conforms_at m class n ≡ true
      by n None is h = absurd (true≢false (sym h))
      by n (Some own) is h = ap (conforms_if m.meta class) is ∙ h

  one_class : (c d n : ℕ) (ps qs : List PropId) → Contains (managed_classes program) c → key_of program c ≡ Some ps → key_of program d ≡ Some qs
      → conforms_at m c n ≡ true → conforms_at m d n ≡ true → c ≡ d
  one_class c d n ps qs managed key_c key_d is_c is_d = by (class_at m n) is_c is_d
    where
      by : (o : Option ℕ) → conforms_if m.meta c o ≡ true → conforms_if m.meta d o ≡ true → c ≡ d
      by None h k = absurd (true≢false (sym h))
      by (Some own) h k = p.over.tells.apart own c d ps qs managed key_c key_d h k

  term_fits : (vs : TermValues) → AllFit vs → (v class : ℕ) (props : List PropId) (xs : List TermValue) → IsMadeHere metas program sources models m terms number rel roots b c g p v class
      → key_of program class ≡ Some props → all_given (map (key_value program sources (target_items program rel) (record { values = vs; scope = scope }) v) props) ≡ Some xs → FitsAt v (keyed class xs)
  term_fits vs fit v class props xs made key given =
      let has_object = object_of v class made in
      let n = has_object.object in
      let (u, among, number_is) = p.reading.all class n made.managed has_object.conforms in
      let holds_own = p.reading.holds u n among number_is in
      let same_class : class ≡ (out-Term u).class.0 = one_class class (out-Term u).class.0 n props holds_own.props made.managed key holds_own.key has_object.conforms holds_own.conforms in
      let same_props : props ≡ holds_own.props = same_Some props holds_own.props (sym key ∙ ap (key_of program) same_class ∙ holds_own.key) in
      let same_keys : xs ≡ (out-Term u).keys =
      keys_same (key_value program sources (target_items program rel) (record { values = vs; scope = scope }) v) n
      (λ q x gives. key_held metas program sources models m terms number rel roots b c g p fix vs fit v n q x has_object.at gives) props xs (out-Term u).keys
      (λ q c. few_held program m n q.0 p.over.valid (p.over.tells.single class props q made.managed key c))
      (λ y t c term. p.reading.within u y t among c term) given
      (subst (λ ps. holds_key program m n ps (map (held_as number) (out-Term u).keys) ≡ true) (sym same_props) holds_own.holds) in
      let same : keyed class xs ≡ values.Term u =
      ap (λ j. keyed j xs) same_class ∙ ap (keyed (out-Term u).class.0) same_keys ∙ ap (λ t. values.Term t) (roll-out-Term u) in
      record {
        datum = object_datum program.target n;
        at = has_object.at;
        read = ap (read_value program number) same ∙ ap (read_part program number) (out_term u) ∙ ap (option_map (λ j. object_datum program.target j)) number_is;
        among = λ t term. subst (Contains terms) (same_Some u t (sym (ap term_part (out_term u)) ∙ sym (ap term_in same) ∙ term)) among;
        of_sources = λ d datum. absurd (nothing_some d (sym (ap datum_part (out_term u)) ∙ sym (ap datum_in same) ∙ datum));
      }

  made_fits : (vs : TermValues) → AllFit vs → (v : ℕ) (x : TermValue) → v < length rel.vars → value_of b v ≡ None
      → made_term program sources rel (target_items program rel) (record { values = vs; scope = scope }) v ≡ Some x → FitsAt v x
  made_fits vs fit v x below none made = of_class (class_of_variable rel v) refl made
    where
      of_keys : (class : ℕ) (props : List PropId) (o : Option (List TermValue)) → class_of_variable rel v ≡ Some class → key_of program class ≡ Some props
          → all_given (map (key_value program sources (target_items program rel) (record { values = vs; scope = scope }) v) props) ≡ o → option_map (keyed class) o ≡ Some x → FitsAt v x
      of_keys class props None typed key given h = absurd (nothing_some x h)
      of_keys class props (Some xs) typed key given h =
          subst (FitsAt v) (same_Some (keyed class xs) x h)
          (term_fits vs fit v class props xs (made_here metas program sources models m terms number rel roots b c g p v class below none typed) key given)

      of_key : (class : ℕ) (o : Option (List PropId)) → class_of_variable rel v ≡ Some class → key_of program class ≡ o
          → option_and_then (λ props. option_map (keyed class) (all_given (map (key_value program sources (target_items program rel) (record { values = vs; scope = scope }) v) props))) o ≡ Some x → FitsAt v x
      of_key class None typed key h = absurd (nothing_some x h)
      of_key class (Some props) typed key h =
          of_keys class props (all_given (map (key_value program sources (target_items program rel) (record { values = vs; scope = scope }) v) props)) typed key refl h

      of_class : (o : Option ℕ) → class_of_variable rel v ≡ o → option_and_then (term_by program sources (target_items program rel) (record { values = vs; scope = scope }) v) o ≡ Some x → FitsAt v x
      of_class None typed h = absurd (nothing_some x h)
      of_class (Some class) typed h = of_key class (key_of program class) typed refl h

  -- ---- rounds

  abbrev begin : TermValues
  begin = map (value_or_datum b scope) (variables rel)

  given_datum : (out : Out) (d : Datum) (x : TermValue) → out ≡ outs.One d → given_out out ≡ Some x → x ≡ values.Val d
  given_datum out d x is h = sym (same_Some (values.Val d) x (sym (ap given_out is) ∙ h))

  -- a datum by an equation
  datum_fits : (v : ℕ) (x : TermValue) → v < length rel.vars → value_of b v ≡ None → given_out (variable scope v) ≡ Some x → FitsAt v x
  datum_fits v x below none h = by (is_target_variable program rel v) refl
    where
      of_value : (o : Option Datum) → is_target_variable program rel v ≡ false → value_at g v ≡ o → given_out (bound_value o) ≡ Some x → FitsAt v x
      of_value None outside at k = absurd (nothing_some x k)
      of_value (Some d) outside at k =
          let val : x ≡ values.Val d = given_datum (outs.One d) d x refl k in
          record {
            datum = d;
            at = at;
            read = ap (read_value program number) val ∙ ap (read_part program number) (out_datum d);
            among = λ t term. absurd (nothing_some t (sym (ap term_part (out_datum d)) ∙ sym (ap term_in val) ∙ term));
            of_sources = λ e datum.
                subst (IsOfSources program.target) (same_Some d e (sym (ap datum_part (out_datum d)) ∙ sym (ap datum_in val) ∙ datum))
                (partner_apart metas program sources models m terms number rel roots b c g p v d outside at);
          }

      by : (y : Bool) → is_target_variable program rel v ≡ y → FitsAt v x
      by true target =
          absurd (nothing_some x (sym (ap given_out (target_scope metas program sources models m terms number rel roots b c g p fix v below target
          ∙ ap bound_value (data_at b v ∙ ap (option_and_then datum_in) none))) ∙ h))
      by false outside =
          of_value (value_at g v) outside refl
          (sym (ap given_out (scope_is_read metas program sources models m terms number rel roots b c g p fix v outside ∙ variable_is g v)) ∙ h)

  begin_fits : AllFit begin
  begin_fits v x at = by (value_of b v) refl (sym (at_variable rel (value_or_datum b scope) v below) ∙ at)
    where
      below : v < length rel.vars
      below = subst (λ n. v < n) (places_of rel (value_or_datum b scope)) (within_terms begin v x at)

      by : (o : Option TermValue) → value_of b v ≡ o → option_or o (given_out (variable scope v)) ≡ Some x → FitsAt v x
      by None is h = datum_fits v x below is h
      by (Some y) is h = given_fits metas program sources models m terms number rel roots b c g p v x (is ∙ h)

  abbrev next : TermValues → ℕ → Option TermValue
  next vs v = option_or (value_of begin v) (made_term program sources rel (target_items program rel) (record { values = vs; scope = scope }) v)

  step_fits : (vs : TermValues) → AllFit vs → AllFit (with_terms program sources rel (target_items program rel) scope begin vs)
  step_fits vs fit v x at = by (value_of begin v) refl (sym (at_variable rel (next vs) v below) ∙ at)
    where
      below : v < length rel.vars
      below = subst (λ n. v < n) (places_of rel (next vs)) (within_terms (map (next vs) (variables rel)) v x at)

      none_before : (o q : Option TermValue) → option_or o q ≡ None → o ≡ None
      none_before None q h = refl
      none_before (Some y) q h = absurd (nothing_some y (sym h))

      by : (o : Option TermValue) → value_of begin v ≡ o
          → option_or o (made_term program sources rel (target_items program rel) (record { values = vs; scope = scope }) v) ≡ Some x → FitsAt v x
      by None is h =
          made_fits vs fit v x below (none_before (value_of b v) (given_out (variable scope v)) (sym (at_variable rel (value_or_datum b scope) v below) ∙ is)) h
      by (Some y) is h = begin_fits v x (is ∙ h)

  rounds_fit : (n : ℕ) → AllFit (values_within program sources rel (target_items program rel) scope begin n)
  rounds_fit zero = begin_fits
  rounds_fit (suc n) = step_fits (values_within program sources rel (target_items program rel) scope begin n) (rounds_fit n)

  rounds_places : (n : ℕ) → length (values_within program sources rel (target_items program rel) scope begin n) ≡ length rel.vars
  rounds_places zero = places_of rel (value_or_datum b scope)
  rounds_places (suc n) = places_of rel (next (values_within program sources rel (target_items program rel) scope begin n))

  -- ---- the law

  pub made_among : (v : ℕ) (t : Term) → term_of (entry_known program sources rel b).values v ≡ Some t → Contains terms t
  made_among v t h = by (value_of (entry_known program sources rel b).values v) refl h
    where
      by : (o : Option TermValue) → value_of (entry_known program sources rel b).values v ≡ o → option_and_then term_in o ≡ Some t → Contains terms t
      by None is k = absurd (nothing_some t k)
      by (Some x) is k = (rounds_fit (length rel.vars) v x is).among t k

  pub partner_read : ((v : ℕ) → v < length rel.vars → (x : TermValue) × (value_of (entry_known program sources rel b).values v ≡ Some x))
      → Reads program number (entry_known program sources rel b).values g
  partner_read total = record {
    places = places metas program sources models m terms number rel roots b c g p ∙ sym (rounds_places (length rel.vars));
    given = λ v x at. let fits = rounds_fit (length rel.vars) v x at in (fits.datum, fits.at, fits.read);
    none = λ v at. by v at (cases_lt v (length rel.vars));
  }
    where
      by : (v : ℕ) → value_of (entry_known program sources rel b).values v ≡ None → (v < length rel.vars) ⊎ (length rel.vars ≤ v) → value_at g v ≡ None
      by v at (inl below) = let (x, is) = total v below in absurd (nothing_some x (sym at ∙ is))
      by v at (inr past) = get_or_past g v None (subst (λ n. n ≤ v) (sym (places metas program sources models m terms number rel roots b c g p)) past)
