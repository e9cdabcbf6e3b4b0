-- A binding that was joined with matches is one of an entry: it meets the source, has its terms, and its calls are those matches.
use Rattle.std.specs.Prelude.{◌≡◌, ◌⊎◌, ℕ, Bool, true, false, List, [], ◌∷◌, map, Option, None, Some, slice_get, Contains, if◌then◌else◌}
use Rattle.std.specs.List.{AllByRecursion}
use Rattle.std.specs.Option.{option_map, option_and_then}
use Rattle.std.proofs.Common.{refl, sym, ap, subst, ◌∙◌, inl, inr}
use Rattle.std.proofs.lemmas.Bool.{true≢false}
use Rattle.std.proofs.lemmas.Option.{same_Some}
use Rattle.object_tables.specs.Models.{ModelData}
use Rattle.qv_syntax.specs.declared.program.Program.{Program}
use Rattle.qv_syntax.specs.declared.program.Rel.{Rel}
use Rattle.qv_syntax.specs.declared.program.Var.{Var}
use Rattle.qv_syntax.specs.declared.program.Conj.{Conj}
use Rattle.qv_syntax.specs.declared.program.Conj.TheVariants as conjuncts
use Rattle.qv_syntax.specs.declared.ty.Ty.{Ty}
use Rattle.qv_syntax.specs.declared.typed.Typed.{Typed}
use Rattle.qv_syntax.specs.declared.typed.TypedInfix.{TypedInfix}
use Rattle.qv_syntax.specs.declared.typed.TypedPostfix.{TypedPostfix}
use Rattle.qv_syntax.specs.declared.typed.Node.{Node, out-Node, roll-Node, roll-out-Node, out-roll-Node}
use Rattle.qv_syntax.specs.declared.typed.Node.TheVariants as nodes
use Rattle.qv_syntax.specs.declared.typed.Call.{Call}
use Rattle.qv_syntax.specs.declared.typed.Call.TheOpen as of
use Rattle.qv_syntax.specs.Parts.{Names, IsWithin}
use Rattle.qv_syntax.specs.Relations.{IsUniversal, OccursInClause}
use Rattle.qvtr_semantics.specs.declared.datum.Datum.{Datum}
use Rattle.qvtr_semantics.specs.Outs.{datum_of, all_given}
use Rattle.qvtr_semantics.specs.Expressions.{value, value_for, scope_of}
use Rattle.qvtr_semantics.specs.Templates.{Values, value_at}
use Rattle.mof_metamodel.proofs.Facts.{nothing_in, contains_first, contains_map, contains_at}
use Rattle.template_match.specs.Sources.{is_of_target, is_target_variable, source_variables, SourceWithoutTarget}
use Rattle.template_match.proofs.ListLaws.{contains_later}
use Rattle.source_laws.proofs.BindingLaws.{source_variable}
use Rattle.source_laws.proofs.RuleLaws.{target_is}
use Rattle.enforcement_rules.specs.TargetParts.{IsTargetVariable}
use Rattle.enforcement_rules.specs.Calls.{IsTaken, HasUnmatchedCall}
use Rattle.enforcement_rules.specs.Rules.{Breaks}
use Rattle.repair_semantics.specs.declared.term.Term.{Term}
use Rattle.repair_semantics.specs.declared.term.TermValue.{TermValue}
use Rattle.repair_semantics.specs.declared.term.TermValue.TheVariants as values
use Rattle.repair_semantics.specs.declared.entry.EntryName.{EntryName}
use Rattle.repair_semantics.specs.EntryValues.{TermValues, Known, known, value_of, data_in, variable_at, variable_alone, given_out, given_by, given_value}
use Rattle.repair_semantics.specs.Entries.{IsUniversalTarget, TermSource, call_to, named_call, calls_in}
use Rattle.term_table.specs.declared.numbered.NumberedValue.{NumberedValue}
use Rattle.term_table.specs.declared.numbered.NumberedValue.TheVariants as numbered
use Rattle.term_table.specs.TermTables.{term_at, value_in, values_in}
use Rattle.entry_bindings.specs.declared.argument.Argument.{Argument}
use Rattle.entry_bindings.specs.declared.argument.Argument.TheVariants as arguments
use Rattle.entry_bindings.specs.declared.matching.Match.{Match}
use Rattle.entry_bindings.specs.Matches.{name_in, names_in, AreAmong}
use Rattle.entry_bindings.specs.Starts.{NumberedValues, number_of}
use Rattle.entry_bindings.specs.Arguments.{variable_argument, argument_by, argument_of, bound}
use Rattle.entry_bindings.specs.Asked.{IsEnforced, AreRoots, IsEntryBinding}
use Rattle.entry_bindings.proofs.ArgumentLaws.{none_some, bound_map, bound_last}
use Rattle.entry_bindings.proofs.ListLaws.{parts_of}
use Rattle.entry_bindings.proofs.ValueLaws.{datum_from, datum_there, value_there, number_there, number_term, decoded_long, Grows}
use Rattle.entry_bindings.proofs.Partials.{AllFit, open_fits, AreGivenBy, argument_at, expression_at, IsPartial, IsOpenTarget, open_arguments, IsJoined}

-- ---- a variable alone

some_layer : (d : of.Node-F Call Node Typed TypedInfix TypedPostfix) (v : ℕ) → variable_at d ≡ Some v → d ≡ of.Variable v
some_layer (of.Variable n) v h = ap of.Variable (same_Some n v h)
some_layer d v h = absurd (none_some v h)

pub alone_is : (e : Typed) (v : ℕ) → variable_alone e ≡ Some v → e ≡ record { ty = e.ty; node = nodes.Variable v }
alone_is e v is =
    ap (λ (n : Node). let x : Typed = record { ty = e.ty; node = n } in x) (sym (roll-out-Node e.node) ∙ ap roll-Node (some_layer (out-Node e.node) v is) ∙ nodes.rolls-Variable v)

variable_is : (v : ℕ) → variable_at (out-Node (nodes.Variable v)) ≡ Some v
variable_is v = ap (λ n. variable_at (out-Node n)) (sym (nodes.rolls-Variable v)) ∙ ap variable_at (out-roll-Node (of.Variable v))

pub alone_there : (e : Typed) (ty : Ty) (v : ℕ) → e ≡ record { ty = ty; node = nodes.Variable v } → variable_alone e ≡ Some v
alone_there e ty v is = ap variable_alone is ∙ variable_is v

alone_named : (e : Typed) (v : ℕ) → variable_alone e ≡ Some v → Names e v
alone_named e v alone = (e.ty, subst (IsWithin e) (alone_is e v alone) (IsWithin.whole e))

-- ---- what an argument is in the end

abbrev pub told_by : Option TermValue → TermValue
told_by None = values.Term (term_at [] 0)
told_by (Some x) = x

abbrev pub told : List Term → TermValues → Argument → TermValue
told terms b (arguments.Given x) = value_in terms x
told terms b (arguments.Open v) = told_by (value_of b v)

-- an open argument has a value
abbrev pub Has : TermValues → Argument → Type 0
Has b (arguments.Given x) = Unit {0}
Has b (arguments.Open v) = (y : TermValue) × (value_of b v ≡ Some y)

module _ (program : Program) (models : List ModelData) (rel : Rel) (terms : List Term) (ms : List Match) (roots : NumberedValues)
    (enforced : IsEnforced program rel) (are_roots : AreRoots program rel (values_in terms roots)) where
  found_target : (v : ℕ) → is_target_variable program rel v ≡ true → IsTargetVariable program rel v
  found_target v h = by (slice_get rel.vars v) refl h
    where
      by : (o : Option Var) → slice_get rel.vars v ≡ o → is_of_target program o ≡ true → IsTargetVariable program rel v
      by None found is = absurd (true≢false (sym is))
      by (Some var) found is = record { var = var; found = found; target = target_is program.target var.model is }

  -- a variable for objects of the target that is an argument of a call in the when clause is universal
  pub argument_universal : (number : ℕ) (args : List Typed) (e : Typed) (v : ℕ) → Contains rel.whens (conjuncts.Call number args) → Contains args e → variable_alone e ≡ Some v
      → is_target_variable program rel v ≡ true → IsUniversalTarget program rel v
  argument_universal number args e v call there alone target =
      let t = found_target v target in record {
        universal = ((enforced.formed.relations enforced.number rel enforced.found).variables.universal v t.var t.found).1
            (IsUniversal.when (OccursInClause.expression (conjuncts.Call number args) e call there (alone_named e v alone)));
        target = target;
      }

  module _ (d : Values) (source : SourceWithoutTarget program models rel (data_in (values_in terms roots)) d) where
    pub target_none : (v : ℕ) → is_target_variable program rel v ≡ true → value_at d v ≡ None
    target_none v target = by (value_at d v) refl
      where
        no : (x : Datum) → Contains (source_variables program rel) v ⊎ (value_at (data_in (values_in terms roots)) v ≡ Some x) → ⊥
        no x (inl c) = true≢false (sym target ∙ source_variable program rel v c)
        no x (inr at) = true≢false (sym target ∙ are_roots.data_values v x (datum_from (values_in terms roots) v x at))

        by : (o : Option Datum) → value_at d v ≡ o → o ≡ None
        by None at = refl
        by (Some x) at = absurd (no x (source.no_others v x at))

    module _ (e : NumberedValues) (partial : IsPartial program models rel terms ms roots d e)
        (calls : (number : ℕ) (args : List Typed) → Contains rel.whens (conjuncts.Call number args) → IsJoined program models rel terms ms roots d e number args) where
      abbrev decoded : TermValues
      decoded = values_in terms e

      -- a variable that is the last argument for a root has a value
      pub taken_given : (v : ℕ) → is_target_variable program rel v ≡ true → IsTaken program rel.whens v → (y : NumberedValue) × (number_of e v ≡ Some y)
      taken_given v target t =
          let j = calls t.argument.number t.argument.args t.argument.call in
          let alone : variable_alone t.e ≡ Some v = alone_there t.e t.alone.0 v t.alone.1 in
          let same : t.called ≡ j.called = same_Some t.called j.called (sym t.argument.found ∙ j.found) in
          by j same alone (argument_at (argument_of program models rel d j.b) t.argument.args j.given j.are t.argument.place t.e t.argument.argument)
        where
          by : (j : IsJoined program models rel terms ms roots d e t.argument.number t.argument.args) → t.called ≡ j.called → variable_alone t.e ≡ Some v
              → (a : Argument) × (slice_get j.given t.argument.place ≡ Some a) × (argument_of program models rel d j.b t.e ≡ Some a) → (y : NumberedValue) × (number_of e v ≡ Some y)
          by j same alone (a, at, is) = value_by (number_of j.b v) refl (sym (ap (argument_by program models rel d j.b t.e) alone) ∙ is)
            where
              there : slice_get j.called.domains t.argument.place ≡ Some t.dom
              there = ap (λ (r : Rel). slice_get r.domains t.argument.place) (sym same) ∙ t.argument.of

              within : Contains j.called.domains t.dom
              within = contains_at j.called.domains t.argument.place t.dom there

              open_by : (x : Bool) → is_target_variable program rel v ≡ x → (if x then Some (arguments.Open v) else None) ≡ Some a → (y : NumberedValue) × (number_of e v ≡ Some y)
              open_by false outside h = absurd (true≢false (sym target ∙ outside))
              open_by true own h =
                  open_fits e (bound j.called j.given) j.m.roots v j.fits (subst (Contains (bound j.called j.given)) (sym (same_Some (arguments.Open v) a h))
                  (bound_last j.called j.given t.argument.place t.dom a there within at
                  ((enforced.formed.numbers.relations j.called (contains_at program.rels t.argument.number j.called j.found)).roots t.dom within)
                  (λ later other more after found given. let (x, more_at) = expression_at (argument_of program models rel d j.b) t.argument.args j.given j.are later more given in
                  t.argument.last later other x after (ap (λ (r : Rel). slice_get r.domains later) same ∙ found) more_at)))

              value_by : (o : Option NumberedValue) → number_of j.b v ≡ o → variable_argument program rel v o ≡ Some a → (y : NumberedValue) × (number_of e v ≡ Some y)
              value_by (Some x) given h = (x, j.before v x given)
              value_by None none h = open_by (is_target_variable program rel v) refl h

      -- each universal variable for objects of the target has a term
      pub targets_given : (v : ℕ) → IsUniversalTarget program rel v → (n : ℕ) × (number_of e v ≡ Some (numbered.Term n))
      targets_given v u = by (number_of e v) refl
        where
          none_broken : number_of e v ≡ None → ⊥
          none_broken none =
              let t = found_target v u.target in
              enforced.enforceable enforced.number 9 (record {
                rel = rel;
                found = enforced.found;
                in_direction = enforced.direction;
                breaks = Breaks.e9 refl (HasUnmatchedCall.variable v
                    (((enforced.formed.relations enforced.number rel enforced.found).variables.universal v t.var t.found).0 u.universal) t
                    (λ taken. let (y, at) = taken_given v u.target taken in none_some y (sym none ∙ at)));
              })

          no_datum : (x : Datum) → number_of e v ≡ Some (numbered.Val x) → ⊥
          no_datum x at =
              none_some x (sym (target_none v u.target) ∙ ap (λ z. value_at z v) (sym partial.data_values) ∙ datum_there decoded v x (value_there terms e v (numbered.Val x) at))

          by : (o : Option NumberedValue) → number_of e v ≡ o → (n : ℕ) × (o ≡ Some (numbered.Term n))
          by None at = absurd (none_broken at)
          by (Some (numbered.Val x)) at = absurd (no_datum x at)
          by (Some (numbered.Term n)) at = (n, refl)

      term_source : TermSource program models rel (values_in terms roots) decoded
      term_source = record {
        places = decoded_long terms e ∙ partial.places;
        extends = partial.extends;
        source = subst (SourceWithoutTarget program models rel (data_in (values_in terms roots))) (sym partial.data_values) source;
        terms = λ v u. let (n, at) = targets_given v u in (term_at terms n, value_there terms e v (numbered.Term n) at);
        no_others = λ v t at. others v t (number_there terms e v (values.Term t) at);
      }
        where
          root_by : (v n : ℕ) (t : Term) → term_at terms n ≡ t → IsUniversalTarget program rel v ⊎ (number_of roots v ≡ Some (numbered.Term n))
              → IsUniversalTarget program rel v ⊎ (value_of (values_in terms roots) v ≡ Some (values.Term t))
          root_by v n t is (inl u) = inl u
          root_by v n t is (inr at) = inr (value_there terms roots v (numbered.Term n) at ∙ ap (λ z. Some (values.Term z)) is)

          others : (v : ℕ) (t : Term) → (x : NumberedValue) × (number_of e v ≡ Some x) × (value_in terms x ≡ values.Term t)
              → IsUniversalTarget program rel v ⊎ (value_of (values_in terms roots) v ≡ Some (values.Term t))
          others v t (x, at, is) =
              let (n, term, same) = number_term terms x t is in root_by v n t same (partial.no_others v n (at ∙ ap (λ z. Some z) term))

      -- ---- calls

      abbrev k : Known
      k = known decoded

      given_one : (b : NumberedValues) (x : Typed) (a : Argument) → Grows b e → argument_of program models rel d b x ≡ Some a → Has decoded a
          → given_value program models k x ≡ Some (told terms decoded a)
      given_one b x a grows is has = by (variable_alone x) refl is
        where
          datum_by : (o : Option Datum) → option_map (λ y. arguments.Given (numbered.Val y)) o ≡ Some a → option_map (λ y. values.Val y) o ≡ Some (told terms decoded a)
          datum_by None h = absurd (none_some a h)
          datum_by (Some y) h = ap (λ z. Some (told terms decoded z)) (same_Some (arguments.Given (numbered.Val y)) a h)

          open_by : (v : ℕ) (y : Bool) → (if y then Some (arguments.Open v) else None) ≡ Some a → value_of decoded v ≡ Some (told terms decoded a)
          open_by v false h = absurd (none_some a h)
          open_by v true h =
              let same : arguments.Open v ≡ a = same_Some (arguments.Open v) a h in
              let (y, at) = subst (Has decoded) (sym same) has in
              at ∙ sym (ap (λ o. Some (told_by o)) at) ∙ ap (λ z. Some (told terms decoded z)) same

          value_by : (v : ℕ) (o : Option NumberedValue) → number_of b v ≡ o → variable_argument program rel v o ≡ Some a → value_of decoded v ≡ Some (told terms decoded a)
          value_by v (Some y) at h = value_there terms e v y (grows v y at) ∙ ap (λ z. Some (told terms decoded z)) (same_Some (arguments.Given y) a h)
          value_by v None at h = open_by v (is_target_variable program rel v) h

          by : (o : Option ℕ) → variable_alone x ≡ o → argument_by program models rel d b x o ≡ Some a → given_value program models k x ≡ Some (told terms decoded a)
          by None alone h =
              ap (given_by program models k x) alone ∙ ap (λ z. given_out (value program models x (scope_of z))) partial.data_values ∙ datum_by (datum_of (value_for program models x d)) h
          by (Some v) alone h = ap (given_by program models k x) alone ∙ value_by v (number_of b v) refl h

      given_all_of : (b : NumberedValues) (args : List Typed) (gs : List Argument) → Grows b e → AreGivenBy (argument_of program models rel d b) args gs → AllByRecursion (Has decoded) gs
          → all_given (map (given_value program models k) args) ≡ Some (map (told terms decoded) gs)
      given_all_of b [] [] grows are has = refl
      given_all_of b [] (a ∷ gs) grows are has = absurd are
      given_all_of b (x ∷ args) [] grows are has = absurd are
      given_all_of b (x ∷ args) (a ∷ gs) grows are has =
          ap (λ o. all_given (o ∷ map (given_value program models k) args)) (given_one b x a grows are.0 has.0)
          ∙ ap (option_map (λ ys. told terms decoded a ∷ ys)) (given_all_of b args gs grows are.1 has.1)

      told_fits : (gs : List Argument) (ys : List NumberedValue) → AllFit e gs ys → map (told terms decoded) gs ≡ map (value_in terms) ys
      told_fits [] [] fits = refl
      told_fits [] (y ∷ ys) fits = absurd fits
      told_fits (a ∷ gs) [] fits = absurd fits
      told_fits (arguments.Given x ∷ gs) (y ∷ ys) fits =
          ap (λ z. value_in terms z ∷ map (told terms decoded) gs) fits.0 ∙ ap (λ zs. value_in terms y ∷ zs) (told_fits gs ys fits.1)
      told_fits (arguments.Open v ∷ gs) (y ∷ ys) fits =
          ap (λ o. told_by o ∷ map (told terms decoded) gs) (value_there terms e v y fits.0) ∙ ap (λ zs. value_in terms y ∷ zs) (told_fits gs ys fits.1)

      has_all : (gs : List Argument) → AllByRecursion (IsOpenTarget program models rel terms ms roots) gs → AllByRecursion (Has decoded) gs
      has_all [] all = tt
      has_all (arguments.Given x ∷ gs) all = (tt, has_all gs all.1)
      has_all (arguments.Open v ∷ gs) all = (let (n, at) = targets_given v all.0 in (value_in terms (numbered.Term n), value_there terms e v (numbered.Term n) at), has_all gs all.1)

      abbrev named_as : ℕ → List TermValue → Option EntryName
      named_as n ys = Some (record { rel = n; roots = ys })

      call_named : (number : ℕ) (args : List Typed) → Contains rel.whens (conjuncts.Call number args) → (j : IsJoined program models rel terms ms roots d e number args)
          → named_call program models k number args ≡ Some (name_in terms j.m)
      call_named number args call j =
          let has = has_all j.given (open_arguments program models rel terms ms roots d j.b args j.given j.are (λ x v there. argument_universal number args x v call there)) in
          ap (λ o. option_and_then (call_to number o) (all_given (map (given_value program models k) args))) j.found
          ∙ ap (option_and_then (call_to number (Some j.called))) (given_all_of j.b args j.given j.before j.are has)
          ∙ ap (λ ys. named_as number ys) (bound_map (told terms decoded) j.called j.given ∙ told_fits (bound j.called j.given) j.m.roots j.fits)
          ∙ ap (λ n. named_as n (map (value_in terms) j.m.roots)) (sym j.number_is)

      whens_among : AreAmong (names_in terms ms) (calls_in program models k rel.whens)
      whens_among = go rel.whens (λ number args there. there)
        where
          go : (cs : List Conj) → ((number : ℕ) (args : List Typed) → Contains cs (conjuncts.Call number args) → Contains rel.whens (conjuncts.Call number args))
              → AreAmong (names_in terms ms) (calls_in program models k cs)
          go [] within = λ o there. absurd (nothing_in o there)
          go (conjuncts.Call number args ∷ cs) within =
              let call = within number args (contains_first (conjuncts.Call number args) cs) in
              let j = calls number args call in
              parts_of (λ o. (c : EntryName) × (o ≡ Some c) × Contains (names_in terms ms) c) (named_call program models k number args) (calls_in program models k cs)
              (name_in terms j.m, call_named number args call j, contains_map (name_in terms) ms j.m j.within)
              (go cs (λ n xs there. within n xs (contains_later (conjuncts.Call n xs) (conjuncts.Call number args) cs there)))
          go (conjuncts.Cond x ∷ cs) within = go cs (λ n xs there. within n xs (contains_later (conjuncts.Call n xs) (conjuncts.Cond x) cs there))
          go (conjuncts.Equation v x ∷ cs) within = go cs (λ n xs there. within n xs (contains_later (conjuncts.Call n xs) (conjuncts.Equation v x) cs there))

      pub is_entry_binding : IsEntryBinding program models rel (names_in terms ms) (values_in terms roots) decoded
      is_entry_binding = record { source = term_source; whens = whens_among }
