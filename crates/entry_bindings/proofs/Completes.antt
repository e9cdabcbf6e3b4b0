-- Each binding of an entry is found: where its calls have their matches, the join comes to it.
use Rattle.std.specs.Prelude.{◌≡◌, ◌⊎◌, ℕ, Bool, true, false, ◌==◌, List, [], ◌∷◌, map, Option, None, Some, slice_get, slice_set, Contains, if◌then◌else◌}
use Rattle.std.specs.List.{AllByRecursion, flat_map}
use Rattle.std.specs.Option.{option_map, option_and_then}
use Rattle.std.proofs.Common.{refl, sym, ap, subst, ◌∙◌, inl, inr}
use Rattle.std.proofs.lemmas.Bool.{and_from, true≢false, eq-eqb}
use Rattle.std.proofs.lemmas.Option.{same_Some}
use Rattle.object_tables.specs.Models.{ModelData}
use Rattle.qv_syntax.specs.declared.program.Program.{Program}
use Rattle.qv_syntax.specs.declared.program.Rel.{Rel}
use Rattle.qv_syntax.specs.declared.program.Conj.{Conj}
use Rattle.qv_syntax.specs.declared.program.Conj.TheVariants as conjuncts
use Rattle.qv_syntax.specs.declared.typed.Typed.{Typed}
use Rattle.qvtr_semantics.specs.declared.datum.Datum.{Datum}
use Rattle.qvtr_semantics.specs.Outs.{datum_of, all_given}
use Rattle.qvtr_semantics.specs.Expressions.{value_for}
use Rattle.qvtr_semantics.specs.Templates.{Values, value_at}
use Rattle.mof_metamodel.proofs.Facts.{contains_first}
use Rattle.template_match.specs.Sources.{is_target_variable}
use Rattle.template_match.proofs.ListLaws.{contains_later}
use Rattle.repair_semantics.specs.declared.term.Term.{Term}
use Rattle.repair_semantics.specs.declared.term.TermValue.{TermValue}
use Rattle.repair_semantics.specs.declared.term.TermValue.TheVariants as values
use Rattle.repair_semantics.specs.declared.entry.EntryName.{EntryName}
use Rattle.repair_semantics.specs.EntryValues.{TermValues, Known, known, value_of, data_in, variable_alone, given_by, given_value}
use Rattle.repair_semantics.specs.Entries.{IsUniversalTarget, TermSource, call_to, named_call, calls_in, bound_roots}
use Rattle.term_table.specs.declared.numbered.NumberedValue.{NumberedValue}
use Rattle.term_table.specs.declared.numbered.NumberedValue.TheVariants as numbered
use Rattle.term_table.specs.TermTables.{value_in, values_in, IsWithin, AreDistinct}
use Rattle.term_table.proofs.NumberLaws.{ties_are_one}
use Rattle.entry_bindings.specs.declared.argument.Argument.{Argument}
use Rattle.entry_bindings.specs.declared.argument.Argument.TheVariants as arguments
use Rattle.entry_bindings.specs.declared.matching.Match.{Match}
use Rattle.entry_bindings.specs.Matches.{name_in, names_in, AreAmong}
use Rattle.entry_bindings.specs.Starts.{NumberedValues, number_of, is_term}
use Rattle.entry_bindings.specs.Arguments.{variable_argument, argument_by, argument_of, arguments_of, bound}
use Rattle.entry_bindings.specs.Joins.{agrees, agree, is_match, matching, opened, taken, filled, extended_by, call_extended, joined}
use Rattle.entry_bindings.specs.Asked.{IsEnforced, AreRoots, AreMatchesWithin}
use Rattle.entry_bindings.proofs.ArgumentLaws.{none_some, set_from, bound_map, bound_all}
use Rattle.entry_bindings.proofs.ListLaws.{filtered_in, picked_in, joined_in, mapped_from, same_lists}
use Rattle.entry_bindings.proofs.ValueLaws.{val_or_term, datum_from, datum_there, value_there, value_none, number_term, same_numbers, decoded_long}
use Rattle.entry_bindings.proofs.Partials.{IsPartial, AreOpenTargets, reached, extended_comes}
use Rattle.entry_bindings.proofs.Sounds.{told_by, told, argument_universal, targets_given}

module _ (program : Program) (models : List ModelData) (rel : Rel) (terms : List Term) (ms : List Match) (roots : NumberedValues)
    (enforced : IsEnforced program rel) (are_roots : AreRoots program rel (values_in terms roots)) (apart : AreDistinct terms)
    (ms_within : AreMatchesWithin terms ms) (b : TermValues) (source : TermSource program models rel (values_in terms roots) b) where
  -- the numbered binding has values of this one alone, by numbers of the table
  pub record IsUnder (c : NumberedValues) : Type 0 where
    pub under : (v : ℕ) (x : NumberedValue) → number_of c v ≡ Some x → value_of b v ≡ Some (value_in terms x)
    pub within : (v : ℕ) (x : NumberedValue) → number_of c v ≡ Some x → IsWithin terms x

  abbrev pub d : Values
  d = data_in b

  abbrev k : Known
  k = known b

  -- an argument with a number of the table, or a universal variable for objects of the target
  abbrev IsMeant : Argument → Type 0
  IsMeant (arguments.Given x) = IsWithin terms x
  IsMeant (arguments.Open v) = IsUniversalTarget program rel v

  -- ---- arguments

  record Gives (c : NumberedValues) (e : Typed) (x : TermValue) : Type 0 where
    a : Argument
    is : argument_of program models rel d c e ≡ Some a
    told_is : told terms b a ≡ x
    meant : IsMeant a

  -- a variable that isn't for objects of the target has its datum
  outside_has : (c : NumberedValues) → IsPartial program models rel terms ms roots d c → (v : ℕ) (x : TermValue) → is_target_variable program rel v ≡ false → value_of b v ≡ Some x → number_of c v ≡ None → ⊥
  outside_has c partial v x outside at none = by (val_or_term x)
    where
      term_no : (t : Term) → IsUniversalTarget program rel v ⊎ (value_of (values_in terms roots) v ≡ Some (values.Term t)) → ⊥
      term_no t (inl u) = true≢false (sym u.target ∙ outside)
      term_no t (inr is) = true≢false (sym (are_roots.terms v t is) ∙ outside)

      by : ((y : Datum) × (x ≡ values.Val y)) ⊎ ((t : Term) × (x ≡ values.Term t)) → ⊥
      by (inl (y, is)) =
          let own : value_at d v ≡ Some y = datum_there b v y (at ∙ ap (λ z. Some z) is) in
          let there : value_of (values_in terms c) v ≡ Some (values.Val y) = datum_from (values_in terms c) v y (ap (λ z. value_at z v) partial.data_values ∙ own) in
          none_some (values.Val y) (sym (value_none terms c v none) ∙ there)
      by (inr (t, is)) = term_no t (source.no_others v t (at ∙ ap (λ z. Some z) is))

  gives_one : (c : NumberedValues) → IsPartial program models rel terms ms roots d c → IsUnder c → (e : Typed) (x : TermValue)
      → ((v : ℕ) → variable_alone e ≡ Some v → is_target_variable program rel v ≡ true → IsUniversalTarget program rel v)
      → given_value program models k e ≡ Some x → Gives c e x
  gives_one c partial under e x opens is = by (variable_alone e) refl is
    where
      datum_by : (o : Option Datum) → option_map (λ y. values.Val y) o ≡ Some x → argument_of program models rel d c e ≡ option_map (λ y. arguments.Given (numbered.Val y)) o → Gives c e x
      datum_by None h own = absurd (none_some x h)
      datum_by (Some y) h own = record { a = arguments.Given (numbered.Val y); is = own; told_is = same_Some (values.Val y) x h; meant = tt }

      open_by : (v : ℕ) → variable_alone e ≡ Some v → number_of c v ≡ None → value_of b v ≡ Some x → (y : Bool) → is_target_variable program rel v ≡ y
          → argument_of program models rel d c e ≡ (if y then Some (arguments.Open v) else None) → Gives c e x
      open_by v alone none at true target own = record { a = arguments.Open v; is = own; told_is = ap told_by at; meant = opens v alone target }
      open_by v alone none at false outside own = absurd (outside_has c partial v x outside at none)

      value_by : (v : ℕ) → variable_alone e ≡ Some v → value_of b v ≡ Some x → (o : Option NumberedValue) → number_of c v ≡ o
          → argument_of program models rel d c e ≡ variable_argument program rel v o → Gives c e x
      value_by v alone at (Some y) there own =
          record { a = arguments.Given y; is = own; told_is = same_Some (value_in terms y) x (sym (under.under v y there) ∙ at); meant = under.within v y there }
      value_by v alone at None none own = open_by v alone none at (is_target_variable program rel v) refl own

      by : (o : Option ℕ) → variable_alone e ≡ o → given_value program models k e ≡ Some x → Gives c e x
      by None alone h =
          datum_by (datum_of (value_for program models e d)) (sym (ap (given_by program models k e) alone) ∙ h) (ap (argument_by program models rel d c e) alone)
      by (Some v) alone h =
          value_by v alone (sym (ap (given_by program models k e) alone) ∙ h) (number_of c v) refl (ap (argument_by program models rel d c e) alone)

  record GivesAll (c : NumberedValues) (args : List Typed) (xs : List TermValue) : Type 0 where
    gs : List Argument
    is : arguments_of program models rel d c args ≡ Some gs
    told_are : xs ≡ map (told terms b) gs
    meant : AllByRecursion IsMeant gs

  gives_all : (c : NumberedValues) → IsPartial program models rel terms ms roots d c → IsUnder c → (args : List Typed) (xs : List TermValue)
      → ((e : Typed) (v : ℕ) → Contains args e → variable_alone e ≡ Some v → is_target_variable program rel v ≡ true → IsUniversalTarget program rel v)
      → all_given (map (given_value program models k) args) ≡ Some xs → GivesAll c args xs
  gives_all c partial under [] xs opens h = record { gs = []; is = refl; told_are = sym (same_Some [] xs h); meant = tt }
  gives_all c partial under (e ∷ es) xs opens h =
      by (given_value program models k e) refl (all_given (map (given_value program models k) es)) refl h
      (λ ys. gives_all c partial under es ys (λ x v there. opens x v (contains_later x e es there)))
    where
      by : (o : Option TermValue) → given_value program models k e ≡ o → (p : Option (List TermValue)) → all_given (map (given_value program models k) es) ≡ p
          → all_given (o ∷ map (given_value program models k) es) ≡ Some xs
          → ((ys : List TermValue) → all_given (map (given_value program models k) es) ≡ Some ys → GivesAll c es ys) → GivesAll c (e ∷ es) xs
      by None is p others h rest = absurd (none_some xs h)
      by (Some x) is None others h rest = absurd (none_some xs (sym (ap (option_map (λ ys. x ∷ ys)) others) ∙ h))
      by (Some x) is (Some ys) others h rest =
          let one = gives_one c partial under e x (λ v. opens e v (contains_first e es)) is in
          let more = rest ys others in
          record {
            gs = one.a ∷ more.gs;
            is = ap (λ o. all_given (o ∷ map (argument_of program models rel d c) es)) one.is ∙ ap (option_map (λ zs. one.a ∷ zs)) more.is;
            told_are = sym (same_Some (x ∷ ys) xs (sym (ap (option_map (λ zs. x ∷ zs)) others) ∙ h)) ∙ ap (λ z. z ∷ ys) (sym one.told_is) ∙ ap (λ zs. told terms b one.a ∷ zs) more.told_are;
            meant = (one.meant, more.meant);
          }

  -- ---- the roots of a match

  head_of : (x y : TermValue) (xs ys : List TermValue) → x ∷ xs ≡ y ∷ ys → x ≡ y
  head_of x y xs ys h = cc

  tail_of : (x y : TermValue) (xs ys : List TermValue) → x ∷ xs ≡ y ∷ ys → xs ≡ ys
  tail_of x y xs ys h = cc

  none_cons : (x : TermValue) (xs : List TermValue) → ◌≡◌ {A = List TermValue} [] (x ∷ xs) → ⊥
  none_cons x xs h = cc

  open_told : (v : ℕ) → IsUniversalTarget program rel v → (y : NumberedValue) → told_by (value_of b v) ≡ value_in terms y
      → (value_of b v ≡ Some (value_in terms y)) × (is_term y ≡ true)
  open_told v u y is =
      let (t, at) = source.terms v u in
      let own : values.Term t ≡ value_in terms y = sym (ap told_by at) ∙ is in
      let (n, term, same) = number_term terms y t (sym own) in
      (at ∙ ap (λ z. Some z) own, ap is_term term)

  record FillsOne (c : NumberedValues) (a : Argument) (y : NumberedValue) : Type 0 where
    c2 : NumberedValues
    is : taken c a y ≡ Some c2
    agreed : agrees a y ≡ true
    under : IsUnder c2

  fills_one : (c : NumberedValues) (a : Argument) (y : NumberedValue) → IsUnder c → IsMeant a → IsWithin terms y → told terms b a ≡ value_in terms y → FillsOne c a y
  fills_one c (arguments.Given x) y under meant within is =
      record { c2 = c; is = refl; agreed = (ties_are_one x y).1 (same_numbers terms apart x y meant within is); under = under }
  fills_one c (arguments.Open v) y under meant within is = by (number_of c v) refl (open_told v meant y is)
    where
      by : (o : Option NumberedValue) → number_of c v ≡ o → (value_of b v ≡ Some (value_in terms y)) × (is_term y ≡ true) → FillsOne c (arguments.Open v) y
      by None none own = record {
        c2 = slice_set c v (Some y);
        is = ap (opened c v y) none;
        agreed = own.1;
        under = record {
          under = λ w x at. under_by w x (set_from c v w y x at);
          within = λ w x at. within_by w x (set_from c v w y x at);
        };
      }
        where
          under_by : (w : ℕ) (x : NumberedValue) → ((v ≡ w) × (y ≡ x)) ⊎ (number_of c w ≡ Some x) → value_of b w ≡ Some (value_in terms x)
          under_by w x (inl both) = ap (value_of b) (sym both.0) ∙ own.0 ∙ ap (λ z. Some (value_in terms z)) both.1
          under_by w x (inr at) = under.under w x at

          within_by : (w : ℕ) (x : NumberedValue) → ((v ≡ w) × (y ≡ x)) ⊎ (number_of c w ≡ Some x) → IsWithin terms x
          within_by w x (inl both) = subst (IsWithin terms) both.1 within
          within_by w x (inr at) = under.within w x at
      by (Some x) at own =
          let same : x ≡ y = same_numbers terms apart x y (under.within v x at) within (same_Some (value_in terms x) (value_in terms y) (sym (under.under v x at) ∙ own.0)) in
          record {
            c2 = c;
            is = ap (opened c v y) at ∙ ap (λ s. if s then Some c else None) ((ties_are_one x y).1 same);
            agreed = own.1;
            under = under;
          }

  record Fills (c : NumberedValues) (gs : List Argument) (ys : List NumberedValue) : Type 0 where
    c2 : NumberedValues
    is : filled c gs ys ≡ Some c2
    agreed : agree gs ys ≡ true
    under : IsUnder c2

  fills : (c : NumberedValues) (gs : List Argument) (ys : List NumberedValue) → IsUnder c → AllByRecursion IsMeant gs → ((y : NumberedValue) → Contains ys y → IsWithin terms y)
      → map (told terms b) gs ≡ map (value_in terms) ys → Fills c gs ys
  fills c [] [] under meant within is = record { c2 = c; is = refl; agreed = refl; under = under }
  fills c [] (y ∷ ys) under meant within is = absurd (none_cons (value_in terms y) (map (value_in terms) ys) is)
  fills c (a ∷ gs) [] under meant within is = absurd (none_cons (told terms b a) (map (told terms b) gs) (sym is))
  fills c (a ∷ gs) (y ∷ ys) under meant within is =
      let one = fills_one c a y under meant.0 (within y (contains_first y ys)) (head_of (told terms b a) (value_in terms y) (map (told terms b) gs) (map (value_in terms) ys) is) in
      let rest = fills one.c2 gs ys one.under meant.1 (λ z there. within z (contains_later z y ys there)) (tail_of (told terms b a) (value_in terms y) (map (told terms b) gs) (map (value_in terms) ys) is) in
      record {
        c2 = rest.c2;
        is = ap (option_and_then (λ m. filled m gs ys)) one.is ∙ rest.is;
        agreed = and_from (agrees a y) (agree gs ys) one.agreed rest.agreed;
        under = rest.under;
      }

  -- ---- calls

  record Extends (c : NumberedValues) (number : ℕ) (args : List Typed) : Type 0 where
    c2 : NumberedValues
    there : Contains (call_extended program models ms rel d number args c) c2
    under : IsUnder c2

  call_parts : (number : ℕ) (o : Option Rel) (p : Option (List TermValue)) (name : EntryName) → option_and_then (call_to number o) p ≡ Some name
      → (called : Rel) × (xs : List TermValue) × (o ≡ Some called) × (p ≡ Some xs) × (name ≡ record { rel = number; roots = bound_roots called xs })
  call_parts number o None name h = absurd (none_some name h)
  call_parts number None (Some xs) name h = absurd (none_some name h)
  call_parts number (Some called) (Some xs) name h = (called, xs, refl, refl, sym (same_Some (let n : EntryName = record { rel = number; roots = bound_roots called xs } in n) name h))

  extends : (c : NumberedValues) (number : ℕ) (args : List Typed) (name : EntryName) → IsPartial program models rel terms ms roots d c → IsUnder c
      → Contains rel.whens (conjuncts.Call number args) → named_call program models k number args ≡ Some name → Contains (names_in terms ms) name → Extends c number args
  extends c number args name partial under call named among =
      let (called, xs, found, given, is) = call_parts number (slice_get program.rels number) (all_given (map (given_value program models k) args)) name named in
      let (m, within, same) = mapped_from (name_in terms) ms name among in
      let all = gives_all c partial under args xs (λ e v there. argument_universal program models rel terms ms roots enforced are_roots number args e v call there) given in
      let m_roots : map (told terms b) (bound called all.gs) ≡ map (value_in terms) m.roots
      = sym (bound_map (told terms b) called all.gs) ∙ ap (bound_roots called) (sym all.told_are) ∙ ap (λ (n : EntryName). n.roots) (sym is) ∙ ap (λ (n : EntryName). n.roots) (sym same) in
      let filling = fills c (bound called all.gs) m.roots under (bound_all IsMeant called all.gs all.meant) (λ y there. ms_within m y within there) m_roots in
      let number_is : m.rel ≡ number = ap (λ (n : EntryName). n.rel) (same ∙ is) in
      let one : is_match number (bound called all.gs) m ≡ true = and_from (m.rel == number) (agree (bound called all.gs) m.roots) (eq-eqb m.rel number number_is) filling.agreed in
      record {
        c2 = filling.c2;
        there = subst (λ o. Contains (extended_by ms c number o (arguments_of program models rel d c args)) filling.c2) (sym found)
            (subst (λ o. Contains (extended_by ms c number (Some called) o) filling.c2) (sym all.is)
            (picked_in (λ (n : Match). filled c (bound called all.gs) n.roots) (matching ms number (bound called all.gs)) m filling.c2
            (filtered_in (is_match number (bound called all.gs)) ms m within one) filling.is));
        under = filling.under;
      }

  record Ends (cs : List Conj) (bs : List NumberedValues) : Type 0 where
    e : NumberedValues
    there : Contains (joined program models ms rel d cs bs) e
    under : IsUnder e

  comes : (cs : List Conj) (bs : List NumberedValues) (c : NumberedValues) → ((x : Conj) → Contains cs x → Contains rel.whens x) → Contains bs c
      → IsPartial program models rel terms ms roots d c → IsUnder c → AreAmong (names_in terms ms) (calls_in program models k cs) → Ends cs bs
  comes [] bs c whens there partial under among = record { e = c; there = there; under = under }
  comes (conjuncts.Call number args ∷ cs) bs c whens there partial under among =
      let call = whens (conjuncts.Call number args) (contains_first (conjuncts.Call number args) cs) in
      let (name, named, within) = among (named_call program models k number args) (contains_first (named_call program models k number args) (calls_in program models k cs)) in
      let more = extends c number args name partial under call named within in
      let step = extended_comes program models rel terms ms roots d c more.c2 number args partial
      (λ e v there. argument_universal program models rel terms ms roots enforced are_roots number args e v call there) more.there in
      let rest = comes cs (flat_map (call_extended program models ms rel d number args) bs) more.c2 (λ x within. whens x (contains_later x (conjuncts.Call number args) cs within))
      (joined_in (call_extended program models ms rel d number args) bs c more.c2 there more.there) step.partial more.under
      (λ o within. among o (contains_later o (named_call program models k number args) (calls_in program models k cs) within)) in
      record { e = rest.e; there = rest.there; under = rest.under }
  comes (conjuncts.Cond x ∷ cs) bs c whens there partial under among =
      let rest = comes cs bs c (λ y within. whens y (contains_later y (conjuncts.Cond x) cs within)) there partial under among in record { e = rest.e; there = rest.there; under = rest.under }
  comes (conjuncts.Equation v x ∷ cs) bs c whens there partial under among =
      let rest = comes cs bs c (λ y within. whens y (contains_later y (conjuncts.Equation v x) cs within)) there partial under among in record { e = rest.e; there = rest.there; under = rest.under }

  -- ---- the binding itself

  pub open_whens : AreOpenTargets program models rel terms ms roots d rel.whens
  open_whens number args e v call there = argument_universal program models rel terms ms roots enforced are_roots number args e v call there

  -- where all its calls were joined, nothing is left out
  is_all : (e : NumberedValues) → IsUnder e → IsPartial program models rel terms ms roots d e → ((v : ℕ) → IsUniversalTarget program rel v → (n : ℕ) × (number_of e v ≡ Some (numbered.Term n)))
      → values_in terms e ≡ b
  is_all e under partial targets = same_lists (values_in terms e) b (decoded_long terms e ∙ partial.places ∙ sym source.places) (λ v. by v (number_of e v) refl)
    where
      root_by : (v : ℕ) (t : Term) → number_of e v ≡ None → IsUniversalTarget program rel v ⊎ (value_of (values_in terms roots) v ≡ Some (values.Term t)) → ⊥
      root_by v t none (inl u) = let (n, at) = targets v u in none_some (numbered.Term n) (sym none ∙ at)
      root_by v t none (inr at) = none_some (values.Term t) (sym (value_none terms e v none) ∙ partial.extends v (values.Term t) at)

      nothing : (v : ℕ) (x : TermValue) → number_of e v ≡ None → value_of b v ≡ Some x → ((y : Datum) × (x ≡ values.Val y)) ⊎ ((t : Term) × (x ≡ values.Term t)) → ⊥
      nothing v x none at (inl (y, is)) =
          none_some (values.Val y) (sym (value_none terms e v none)
          ∙ datum_from (values_in terms e) v y (ap (λ z. value_at z v) partial.data_values ∙ datum_there b v y (at ∙ ap (λ z. Some z) is)))
      nothing v x none at (inr (t, is)) = root_by v t none (source.no_others v t (at ∙ ap (λ z. Some z) is))

      none_by : (v : ℕ) → number_of e v ≡ None → (o : Option TermValue) → value_of b v ≡ o → None ≡ o
      none_by v none None at = refl
      none_by v none (Some x) at = absurd (nothing v x none at (val_or_term x))

      by : (v : ℕ) (o : Option NumberedValue) → number_of e v ≡ o → value_of (values_in terms e) v ≡ value_of b v
      by v (Some x) at = value_there terms e v x at ∙ sym (under.under v x at)
      by v None none = value_none terms e v none ∙ none_by v none (value_of b v) refl

  pub record IsFound (bs : List NumberedValues) : Type 0 where
    pub e : NumberedValues
    pub there : Contains (joined program models ms rel d rel.whens bs) e
    pub is : values_in terms e ≡ b

  pub found : (bs : List NumberedValues) (c : NumberedValues) → Contains bs c → ((x : NumberedValues) → Contains bs x → IsPartial program models rel terms ms roots d x) → IsUnder c
      → AreAmong (names_in terms ms) (calls_in program models k rel.whens) → IsFound bs
  found bs c there partial under among =
      let end = comes rel.whens bs c (λ x within. within) there (partial c there) under among in
      let r = reached program models rel terms ms roots d rel.whens bs end.e open_whens partial end.there in
      record {
        e = end.e;
        there = end.there;
        is = is_all end.e end.under r.partial (targets_given program models rel terms ms roots enforced are_roots d source.source end.e r.partial r.calls);
      }
