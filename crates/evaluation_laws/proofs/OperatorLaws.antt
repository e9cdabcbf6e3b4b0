-- What operators and operations on single values give is of the type that their rule says (OCL 2.4, sections 7.4.7, 11.3 and 11.5).
use Rattle.std.proofs.Common.{◌≡◌, ◌+◌, ◌-◌, ◌&&◌, ℕ, ℤ, Bool, true, false, List, [], ◌∷◌, ◌++◌, length, take, drop, Option, None, Some, refl, sym, ◌∙◌, subst, inl, inr}
use Rattle.std.specs.Prelude.{nat_le, codes, pos, ◌+ℤ◌, ◌-ℤ◌, ◌*ℤ◌, neg_ℤ, nat_abs, int_lt, int_le, int_div, int_rem}
use Rattle.std.specs.Int.{int_min, int_max}
use Rattle.std.specs.Option.{option_map}
use Rattle.std.specs.Ordering.{int_eq}
use Rattle.std.specs.Fmt.{signed_decimal}
use Rattle.std.proofs.lemmas.Option.{none-some, same_Some}
use Rattle.std.proofs.lemmas.List.Elements.{All-nil, All-cons}
use Rattle.mof_metamodel.specs.declared.desc.MetaDesc.{MetaDesc}
use Rattle.mof_metamodel.specs.Characters.{is_storable_text}
use Rattle.qv_syntax.specs.declared.type_tree.Kind.TheVariants as kinds
use Rattle.qv_syntax.specs.declared.ty.Ty.{Ty}
use Rattle.qv_syntax.specs.declared.ty.Ty.TheVariants as types
use Rattle.qv_syntax.specs.declared.operator.Operator.{Operator}
use Rattle.qv_syntax.specs.declared.operator.Operator.TheVariants as operators
use Rattle.qv_syntax.specs.declared.operation.Operation.{Operation}
use Rattle.qv_syntax.specs.declared.operation.Operation.TheVariants as operations
use Rattle.qv_syntax.specs.TypeRules.{Operated, OperationGives}
use Rattle.qv_syntax.specs.TypedTrees.{Typing, types_of}
use Rattle.qvtr_semantics.specs.declared.out.Out.{Out}
use Rattle.qvtr_semantics.specs.declared.out.Out.TheVariants as outs
use Rattle.qvtr_semantics.specs.Outs.{and_then, given, integer_of, string_of, boolean_of, natural, string}
use Rattle.qvtr_semantics.specs.Integers as integers
use Rattle.qvtr_semantics.specs.Strings as strings
use Rattle.qvtr_semantics.specs.Truth as logic
use Rattle.qvtr_semantics.specs.Equality.{equal, unequal}
use Rattle.qvtr_semantics.specs.Objects.{Setting}
use Rattle.qvtr_semantics.specs.Expressions.{operated, operation, on_integers, on_strings, result, or_else, added, argument, to_string, substring, negation, negated, is_undefined, is_invalid, singleton}
use Rattle.evaluation_laws.specs.TypedValues.{IsDatumIn, IsValueIn}
use Rattle.evaluation_laws.proofs.ListLaws.{either_way}
use Rattle.evaluation_laws.proofs.TextLaws.{storable_append, storable_take, storable_drop, storable_integer}
use Rattle.evaluation_laws.proofs.ValueLaws.{of_given, no_objects_text, value_of_data, AreOf, first_argument, is_truth, is_integer_value, is_string, text_in, no_integer, no_text}

-- ---- results that may be missing

-- it holds of the value, if there is one
abbrev IfThere : (Out → Type 0) → Option Out → Type 0
IfThere Q o = (z : Out) → o ≡ Some z → Q z

of_result : (Q : Out → Type 0) (o : Option Out) → Q outs.Invalid → IfThere Q o → Q (result o)
of_result Q o none there = of_given Q o (λ x. x) none there

of_either : (Q : Out → Type 0) (o p : Option Out) → Q outs.Invalid → IfThere Q o → IfThere Q p → Q (or_else o p)
of_either Q None p none first second = of_result Q p none second
of_either Q (Some x) p none first second = first x refl

of_two : {A : Type 0} (Q : Out → Type 0) (f : A → A → Out) (o p : Option A) → ((a b : A) → o ≡ Some a → p ≡ Some b → Q (f a b)) → IfThere Q (and_then o (λ a. option_map (f a) p))
of_two Q f None p both z is = absurd (none-some z is)
of_two Q f (Some a) None both z is = absurd (none-some z is)
of_two Q f (Some a) (Some b) both z is = subst Q (same_Some (f a b) z is) (both a b refl refl)

of_one : {A : Type 0} (Q : Out → Type 0) (f : A → Out) (o : Option A) → ((a : A) → o ≡ Some a → Q (f a)) → IfThere Q (option_map f o)
of_one Q f None one z is = absurd (none-some z is)
of_one Q f (Some a) one z is = subst Q (same_Some (f a) z is) (one a refl)

not_there : {A : Type 0} (o : Option A) (a : A) → o ≡ None → o ≡ Some a → ⊥
not_there o a none some = none-some a (sym none ∙ some)

module _ (metas : List MetaDesc) (s : Setting) (In : ℕ → Type 0) where
  abbrev IsOf : Ty → Out → Type 0
  IsOf ty x = IsValueIn metas s In ty x

  abbrev of_type : (ty t : Ty) (x : Out) → t ≡ ty → IsOf ty x → IsOf t x
  of_type ty t x is = subst (λ u. IsOf u x) (sym is)

  -- ---- Integers and Strings

  is_number : (i : ℤ) → IsOf types.Int (integers.integer i)
  is_number i = is_integer_value metas s In i

  two_integers : (f : ℤ → ℤ → Out) → ((i j : ℤ) → IsOf types.Int (f i j)) → (x y : Out) → IsOf types.Int (result (on_integers f x y))
  two_integers f gives x y = of_result (IsOf types.Int) (on_integers f x y) tt (of_two (IsOf types.Int) f (integer_of x) (integer_of y) (λ i j one other. gives i j))

  joined : (s' t : List ℕ) → is_storable_text s' ≡ true → is_storable_text t ≡ true → IsOf types.Str (strings.concatenated s' t)
  joined s' t one other = is_string metas s In (s' ++ t) (storable_append s' t one other)

  two_strings : (x y : Out) → IsOf types.Str x → IsOf types.Str y → IfThere (IsOf types.Str) (on_strings strings.concatenated x y)
  two_strings x y one other = of_two (IsOf types.Str) strings.concatenated (string_of x) (string_of y)
      (λ a b first second. joined a b (text_in metas s In x one a first) (text_in metas s In y other b second))

  added_integers : (x y : Out) → IsOf types.Int x → IsOf types.Int (added x y)
  added_integers x y one =
      of_either (IsOf types.Int) (on_integers integers.plus x y) (on_strings strings.concatenated x y) tt
      (of_two (IsOf types.Int) integers.plus (integer_of x) (integer_of y) (λ i j first second. is_number (i +ℤ j)))
      (of_two (IsOf types.Int) strings.concatenated (string_of x) (string_of y) (λ a b first second. absurd (not_there (string_of x) a (no_text metas s In x one) first)))

  added_strings : (x y : Out) → IsOf types.Str x → IsOf types.Str y → IsOf types.Str (added x y)
  added_strings x y one other =
      of_either (IsOf types.Str) (on_integers integers.plus x y) (on_strings strings.concatenated x y) tt
      (of_two (IsOf types.Str) integers.plus (integer_of x) (integer_of y) (λ i j first second. absurd (not_there (integer_of x) i (no_integer metas s In x one) first)))
      (two_strings x y one other)

  -- ---- operators

  -- the model of the second part's objects is asked of none
  pub operated_is : (There : ℕ → Type 0) (o : Operator) (a b t : Ty) → Operated metas o a b t → (x y : Out) → IsOf a x → IsValueIn metas s There b y → IsOf t (operated o x y)
  operated_is There operators.Implies a b t is x y one other = of_type types.Bool t (operated operators.Implies x y) is.2 (is_truth metas s In (logic.implies (boolean_of x) (boolean_of y)))
  operated_is There operators.Xor a b t is x y one other = of_type types.Bool t (operated operators.Xor x y) is.2 (is_truth metas s In (logic.xor (boolean_of x) (boolean_of y)))
  operated_is There operators.Or a b t is x y one other = of_type types.Bool t (operated operators.Or x y) is.2 (is_truth metas s In (logic.or (boolean_of x) (boolean_of y)))
  operated_is There operators.And a b t is x y one other = of_type types.Bool t (operated operators.And x y) is.2 (is_truth metas s In (logic.and (boolean_of x) (boolean_of y)))
  operated_is There operators.Equal a b t is x y one other = of_type types.Bool t (operated operators.Equal x y) is.1 (is_truth metas s In (equal x y))
  operated_is There operators.NotEqual a b t is x y one other = of_type types.Bool t (operated operators.NotEqual x y) is.1 (is_truth metas s In (unequal x y))
  operated_is There operators.Less a b t is x y one other = of_type types.Bool t (operated operators.Less x y) is.2 (is_truth metas s In (on_integers int_lt x y))
  operated_is There operators.Greater a b t is x y one other = of_type types.Bool t (operated operators.Greater x y) is.2 (is_truth metas s In (on_integers (λ i j. int_lt j i) x y))
  operated_is There operators.AtMost a b t is x y one other = of_type types.Bool t (operated operators.AtMost x y) is.2 (is_truth metas s In (on_integers int_le x y))
  operated_is There operators.AtLeast a b t is x y one other = of_type types.Bool t (operated operators.AtLeast x y) is.2 (is_truth metas s In (on_integers (λ i j. int_le j i) x y))
  operated_is There operators.Plus a b t (inl is) x y one other = of_type types.Int t (added x y) is.2 (added_integers x y (subst (λ u. IsOf u x) is.0 one))
  operated_is There operators.Plus a b t (inr is) x y one other =
      of_type types.Str t (added x y) is.2 (added_strings x y (subst (λ u. IsOf u x) is.0 one) (value_of_data metas s There In types.Str no_objects_text y (subst (λ u. IsValueIn metas s There u y) is.1 other)))
  operated_is There operators.Minus a b t is x y one other = of_type types.Int t (operated operators.Minus x y) is.2 (two_integers integers.minus (λ i j. is_number (i -ℤ j)) x y)
  operated_is There operators.Times a b t is x y one other = of_type types.Int t (operated operators.Times x y) is.2 (two_integers integers.times (λ i j. is_number (i *ℤ j)) x y)

  pub negation_is : (x : Out) → IsOf types.Bool (negation x)
  negation_is x = is_truth metas s In (logic.negation (boolean_of x))

  pub negated_is : (x : Out) → IsOf types.Int (negated x)
  negated_is x = of_given (IsOf types.Int) (integer_of x) integers.negated tt (λ i same. is_number (neg_ℤ i))

  -- ---- operations

  divided : (i j : ℤ) → IsOf types.Int (integers.quotient i j)
  divided i j = either_way (IsOf types.Int) (int_eq j (pos 0)) outs.Invalid (integers.integer (int_div i j)) tt (is_number (int_div i j))

  left : (i j : ℤ) → IsOf types.Int (integers.remainder i j)
  left i j = either_way (IsOf types.Int) (int_eq j (pos 0)) outs.Invalid (integers.integer (int_rem i j)) tt (is_number (int_rem i j))

  truth_text : (b : Bool) → IsOf types.Str (strings.boolean_text b)
  truth_text true = is_string metas s In (codes "true") refl
  truth_text false = is_string metas s In (codes "false") refl

  written : (x : Out) → IsOf types.Str (to_string x)
  written x = of_either (IsOf types.Str) (option_map strings.integer_text (integer_of x)) (option_map strings.boolean_text (boolean_of x)) tt
      (of_one (IsOf types.Str) strings.integer_text (integer_of x) (λ i same. is_string metas s In (signed_decimal i) (storable_integer i)))
      (of_one (IsOf types.Str) strings.boolean_text (boolean_of x) (λ b same. truth_text b))

  part : (t : List ℕ) (lower upper : ℕ) → is_storable_text t ≡ true → IsOf types.Str (strings.part_between t lower upper)
  part t lower upper storable =
      either_way (IsOf types.Str) (nat_le 1 lower && nat_le lower upper && nat_le upper (length t)) (string (take (upper + 1 - lower) (drop (lower - 1) t))) outs.Invalid
      (is_string metas s In (take (upper + 1 - lower) (drop (lower - 1) t)) (storable_take (upper + 1 - lower) (drop (lower - 1) t) (storable_drop (lower - 1) t storable))) tt

  part_of : (x lower upper : Out) → IsOf types.Str x → IsOf types.Str (substring x lower upper)
  part_of x lower upper is =
      of_given (IsOf types.Str) (string_of x) (λ t. given (integer_of lower) (λ l. given (integer_of upper) (strings.substring t l))) tt (λ t has.
      of_given (IsOf types.Str) (integer_of lower) (λ l. given (integer_of upper) (strings.substring t l)) tt (λ l first.
      of_given (IsOf types.Str) (integer_of upper) (strings.substring t l) tt (λ u second.
      of_given (IsOf types.Str) (natural l) (λ i. given (natural u) (λ j. strings.part_between t i j)) tt (λ i one.
      of_given (IsOf types.Str) (natural u) (λ j. strings.part_between t i j) tt (λ j other.
      part t i j (text_in metas s In x is t has))))))

  counted : (x : Out) (f : List ℕ → Out) → ((t : List ℕ) → IsOf types.Int (f t)) → IsOf types.Int (given (string_of x) f)
  counted x f gives = of_given (IsOf types.Int) (string_of x) f tt (λ t same. gives t)

  undefined_is : (x : Out) → IsOf types.Bool (is_undefined x)
  undefined_is (outs.One d) = (false, refl)
  undefined_is (outs.Many kind ds) = (false, refl)
  undefined_is outs.Null = (true, refl)
  undefined_is outs.Invalid = (true, refl)

  invalid_is : (x : Out) → IsOf types.Bool (is_invalid x)
  invalid_is (outs.One d) = (false, refl)
  invalid_is (outs.Many kind ds) = (false, refl)
  invalid_is outs.Null = (false, refl)
  invalid_is outs.Invalid = (true, refl)

  singleton_is : (ty : Ty) (x : Out) → IsOf ty x → IsOf (types.Coll kinds.Set ty) (singleton x)
  singleton_is ty (outs.One d) is = (ty, refl, All-cons (IsDatumIn metas s In ty) d [] is (All-nil (IsDatumIn metas s In ty)))
  singleton_is ty (outs.Many kind ds) is = tt
  singleton_is ty outs.Null is = (ty, refl, All-nil (IsDatumIn metas s In ty))
  singleton_is ty outs.Invalid is = tt

  text_argument : (There : Option ℕ → ℕ → Type 0) (parts : List Typing) (xs : List Out) → AreOf metas s There parts xs → types_of parts ≡ types.Str ∷ [] → IsOf types.Str (argument xs 0)
  text_argument There parts xs are same =
      let first = first_argument metas s There parts types.Str [] xs are same in
      value_of_data metas s (There first.part.model) In types.Str no_objects_text (argument xs 0) first.is

  -- what an operation gives of a value of this type, and arguments of those
  pub operation_is : (There : Option ℕ → ℕ → Type 0) (o : Operation) (a : Ty) (parts : List Typing) (t : Ty) → OperationGives o a (types_of parts) t
      → (x : Out) (xs : List Out) → IsOf a x → AreOf metas s There parts xs → IsOf t (operation o x xs)
  operation_is There operations.Absolute a parts t is x xs one are = of_type types.Int t (operation operations.Absolute x xs) is.2 (of_given (IsOf types.Int) (integer_of x) integers.absolute tt (λ i same. is_number (pos (nat_abs i))))
  operation_is There operations.Divide a parts t is x xs one are = of_type types.Int t (operation operations.Divide x xs) is.2 (two_integers integers.quotient divided x (argument xs 0))
  operation_is There operations.Modulo a parts t is x xs one are = of_type types.Int t (operation operations.Modulo x xs) is.2 (two_integers integers.remainder left x (argument xs 0))
  operation_is There operations.Maximum a parts t is x xs one are = of_type types.Int t (operation operations.Maximum x xs) is.2 (two_integers integers.maximum (λ i j. is_number (int_max i j)) x (argument xs 0))
  operation_is There operations.Minimum a parts t is x xs one are = of_type types.Int t (operation operations.Minimum x xs) is.2 (two_integers integers.minimum (λ i j. is_number (int_min i j)) x (argument xs 0))
  operation_is There operations.ToString a parts t (inl is) x xs one are = of_type types.Str t (operation operations.ToString x xs) is.2 (written x)
  operation_is There operations.ToString a parts t (inr is) x xs one are = of_type types.Str t (operation operations.ToString x xs) is.2 (written x)
  operation_is There operations.Length a parts t is x xs one are = of_type types.Int t (operation operations.Length x xs) is.2 (counted x strings.size (λ u. is_number (pos (length u))))
  operation_is There operations.Concatenate a parts t is x xs one are =
      of_type types.Str t (operation operations.Concatenate x xs) is.2
      (of_result (IsOf types.Str) (on_strings strings.concatenated x (argument xs 0)) tt (two_strings x (argument xs 0) (subst (λ u. IsOf u x) is.0 one) (text_argument There parts xs are is.1)))
  operation_is There operations.ToInteger a parts t is x xs one are =
      of_type types.Int t (operation operations.ToInteger x xs) is.2 (counted x strings.to_integer (λ u. of_given (IsOf types.Int) (strings.spelled_integer u) integers.integer tt (λ i same. is_number i)))
  operation_is There operations.Substring a parts t is x xs one are =
      of_type types.Str t (operation operations.Substring x xs) is.2 (part_of x (argument xs 0) (argument xs 1) (subst (λ u. IsOf u x) is.0 one))
  operation_is There operations.IsUndefined a parts t is x xs one are = of_type types.Bool t (operation operations.IsUndefined x xs) is.1 (undefined_is x)
  operation_is There operations.IsInvalid a parts t is x xs one are = of_type types.Bool t (operation operations.IsInvalid x xs) is.1 (invalid_is x)
  operation_is There operations.AsSingletonSet a parts t is x xs one are = of_type (types.Coll kinds.Set a) t (operation operations.AsSingletonSet x xs) is.2 (singleton_is a x one)
