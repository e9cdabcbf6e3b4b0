-- The calls of a clause of an entry, and their matches.
use Rattle.std.specs.Prelude.{◌≡◌, ℕ, zero, suc, List, [], ◌∷◌, map, length, Option, None, Some, slice_get, Contains}
use Rattle.std.specs.Option.{option_map, option_and_then}
use Rattle.std.proofs.Common.{refl, ap, sym, ◌∙◌, subst, arith}
use Rattle.std.proofs.lemmas.Option.{none-some, same_Some}
use Rattle.object_tables.specs.Models.{ModelData}
use Rattle.qv_syntax.specs.declared.typed.Typed.{Typed}
use Rattle.qv_syntax.specs.declared.typed.TypedInfix.{TypedInfix}
use Rattle.qv_syntax.specs.declared.typed.TypedPostfix.{TypedPostfix}
use Rattle.qv_syntax.specs.declared.typed.Call.{Call}
use Rattle.qv_syntax.specs.declared.typed.Node.{Node, out-Node}
use Rattle.qv_syntax.specs.declared.typed.Call.TheOpen as of
use Rattle.qv_syntax.specs.declared.program.Program.{Program}
use Rattle.qv_syntax.specs.declared.program.Rel.{Rel}
use Rattle.qv_syntax.specs.declared.program.Conj.{Conj}
use Rattle.qv_syntax.specs.declared.program.Conj.TheVariants as conjuncts
use Rattle.qvtr_semantics.specs.Outs.{all_given}
use Rattle.template_match.proofs.ListLaws.{contains_later}
use Rattle.mof_metamodel.proofs.Facts.{contains_first}
use Rattle.enforcement_rules.specs.ExpressionTests as rules
use Rattle.repair_semantics.specs.declared.term.TermValue.{TermValue}
use Rattle.repair_semantics.specs.declared.entry.Entry.{Entry}
use Rattle.repair_semantics.specs.declared.entry.EntryName.{EntryName}
use Rattle.repair_semantics.specs.EntryValues.{variable_at, variable_alone, Known, given_value}
use Rattle.repair_semantics.specs.Entries.{bound_roots, call_to, named_call, calls_in, IsMatchFor, AreMatches}

-- ---- a variable alone

same_alone : (d : of.Node-F Call Node Typed TypedInfix TypedPostfix) → variable_at d ≡ rules.variable_alone d
same_alone (of.Number value) = refl
same_alone (of.Str value) = refl
same_alone (of.Bool value) = refl
same_alone of.Null = refl
same_alone of.Invalid = refl
same_alone (of.EnumLiteral m e l) = refl
same_alone (of.Variable n) = refl
same_alone (of.Let n value body) = refl
same_alone (of.Chain first rest) = refl
same_alone (of.Not operand) = refl
same_alone (of.Negated operand) = refl
same_alone (of.Calls part calls) = refl
same_alone (of.If condition one other) = refl
same_alone (of.Coll kind elements) = refl
same_alone (of.Extent m class) = refl
same_alone (of.Query n args) = refl

pub alone_agrees : (e : Typed) → variable_alone e ≡ rules.variable_alone (out-Node e.node)
alone_agrees e = same_alone (out-Node e.node)

-- ---- calls

-- the parts of a call that is made
pub record IsCallWith (program : Program) (models : List ModelData) (k : Known) (number : ℕ) (args : List Typed) (c : EntryName) : Type 0 where
  pub called : Rel
  pub found : slice_get program.rels number ≡ Some called
  pub xs : List TermValue
  pub given : all_given (map (given_value program models k) args) ≡ Some xs
  pub rel : c.rel ≡ number
  pub roots : c.roots ≡ bound_roots called xs

call_with : (program : Program) (models : List ModelData) (k : Known) (number : ℕ) (args : List Typed) (c : EntryName) → named_call program models k number args ≡ Some c
    → IsCallWith program models k number args c
call_with program models k number args c h = by (all_given (map (given_value program models k) args)) refl h
  where
    by_rel : (xs : List TermValue) → all_given (map (given_value program models k) args) ≡ Some xs → (o : Option Rel) → slice_get program.rels number ≡ o → call_to number o xs ≡ Some c
        → IsCallWith program models k number args c
    by_rel xs given None found e = absurd (none-some c e)
    by_rel xs given (Some called) found e =
        let same = same_Some (let n : EntryName = record { rel = number; roots = bound_roots called xs } in n) c e in
        record { called = called; found = found; xs = xs; given = given; rel = sym (ap (λ (n : EntryName). n.rel) same); roots = sym (ap (λ (n : EntryName). n.roots) same) }

    by : (o : Option (List TermValue)) → all_given (map (given_value program models k) args) ≡ o → option_and_then (call_to number (slice_get program.rels number)) o ≡ Some c
        → IsCallWith program models k number args c
    by None given e = absurd (none-some c e)
    by (Some xs) given e = by_rel xs given (slice_get program.rels number) refl e

-- each argument that is given has its value at its place
given_at : (f : Typed → Option TermValue) (args : List Typed) (xs : List TermValue) → all_given (map f args) ≡ Some xs
    → (length xs ≡ length args) × ((i : ℕ) (e : Typed) → slice_get args i ≡ Some e → (x : TermValue) × (slice_get xs i ≡ Some x) × (f e ≡ Some x))
given_at f [] xs h = let none : [] ≡ xs = same_Some [] xs h in (sym (ap length none), λ i e is. absurd (none-some e is))
given_at f (a ∷ args) xs h = by (λ ys. given_at f args ys) (f a) refl h
  where
    whole : (x : TermValue) (ys : List TermValue) → f a ≡ Some x
        → (length ys ≡ length args) × ((i : ℕ) (e : Typed) → slice_get args i ≡ Some e → (z : TermValue) × (slice_get ys i ≡ Some z) × (f e ≡ Some z))
        → (length (x ∷ ys) ≡ length (a ∷ args)) × ((i : ℕ) (e : Typed) → slice_get (a ∷ args) i ≡ Some e → (z : TermValue) × (slice_get (x ∷ ys) i ≡ Some z) × (f e ≡ Some z))
    whole x ys is rest = (let many : length ys ≡ length args = rest.0 in omega (arith, many), at)
      where
        at : (i : ℕ) (e : Typed) → slice_get (a ∷ args) i ≡ Some e → (z : TermValue) × (slice_get (x ∷ ys) i ≡ Some z) × (f e ≡ Some z)
        at zero e there = (x, refl, ap f (sym (same_Some a e there)) ∙ is)
        at (suc i) e there = rest.1 i e there

    more : ((ys : List TermValue) → all_given (map f args) ≡ Some ys → (length ys ≡ length args) × ((i : ℕ) (e : Typed) → slice_get args i ≡ Some e → (z : TermValue) × (slice_get ys i ≡ Some z) × (f e ≡ Some z)))
        → (x : TermValue) → f a ≡ Some x → (o : Option (List TermValue)) → all_given (map f args) ≡ o → option_map (λ ys. x ∷ ys) o ≡ Some xs
        → (length xs ≡ length (a ∷ args)) × ((i : ℕ) (e : Typed) → slice_get (a ∷ args) i ≡ Some e → (z : TermValue) × (slice_get xs i ≡ Some z) × (f e ≡ Some z))
    more later x is None given e = absurd (none-some xs e)
    more later x is (Some ys) given e =
        subst (λ (zs : List TermValue). (length zs ≡ length (a ∷ args)) × ((i : ℕ) (d : Typed) → slice_get (a ∷ args) i ≡ Some d → (z : TermValue) × (slice_get zs i ≡ Some z) × (f d ≡ Some z)))
        (same_Some (x ∷ ys) xs e) (whole x ys is (later ys given))

    by : ((ys : List TermValue) → all_given (map f args) ≡ Some ys → (length ys ≡ length args) × ((i : ℕ) (e : Typed) → slice_get args i ≡ Some e → (z : TermValue) × (slice_get ys i ≡ Some z) × (f e ≡ Some z)))
        → (o : Option TermValue) → f a ≡ o → all_given (o ∷ map f args) ≡ Some xs
        → (length xs ≡ length (a ∷ args)) × ((i : ℕ) (e : Typed) → slice_get (a ∷ args) i ≡ Some e → (z : TermValue) × (slice_get xs i ≡ Some z) × (f e ≡ Some z))
    by later None is e = absurd (none-some xs e)
    by later (Some x) is e = more later x is (all_given (map f args)) refl e

module _ (program : Program) (models : List ModelData) (k : Known) where
  pub values_given : (number : ℕ) (args : List Typed) (c : EntryName) (w : IsCallWith program models k number args c)
      → (length w.xs ≡ length args) × ((i : ℕ) (e : Typed) → slice_get args i ≡ Some e → (x : TermValue) × (slice_get w.xs i ≡ Some x) × (given_value program models k e ≡ Some x))
  values_given number args c w = given_at (given_value program models k) args w.xs w.given

  pub call_from : (clause : List Conj) (c : EntryName) → Contains (calls_in program models k clause) (Some c)
      → (number : ℕ) × (args : List Typed) × Contains clause (conjuncts.Call number args) × IsCallWith program models k number args c
  call_from [] c (i, below, is) = absurd (omega (arith, below))
  call_from (conjuncts.Call n args ∷ cs) c (zero, below, is) = (n, args, contains_first (conjuncts.Call n args) cs, call_with program models k n args c is)
  call_from (conjuncts.Call n args ∷ cs) c (suc i, below, is) =
      let (m, more, there, w) = call_from cs c (i, omega (arith, below), is) in (m, more, contains_later (conjuncts.Call m more) (conjuncts.Call n args) cs there, w)
  call_from (conjuncts.Cond e ∷ cs) c has =
      let (m, more, there, w) = call_from cs c has in (m, more, contains_later (conjuncts.Call m more) (conjuncts.Cond e) cs there, w)
  call_from (conjuncts.Equation v e ∷ cs) c has =
      let (m, more, there, w) = call_from cs c has in (m, more, contains_later (conjuncts.Call m more) (conjuncts.Equation v e) cs there, w)

  -- each call of the clause is made, and has its match
  pub matched : (clause : List Conj) (matches : List Entry) (number : ℕ) (args : List Typed) → AreMatches program (calls_in program models k clause) matches
      → Contains clause (conjuncts.Call number args) → (c : EntryName) × (m : Entry) × Contains matches m × IsCallWith program models k number args c × IsMatchFor program c m
  matched [] matches number args are (i, below, is) = absurd (omega (arith, below))
  matched (conjuncts.Call n xs ∷ cs) matches number args are has = by (λ es. matched cs es number args) (named_call program models k n xs) refl matches are has
    where
      first : (c : EntryName) (e : Entry) (es : List Entry) → named_call program models k n xs ≡ Some c → IsMatchFor program c e → conjuncts.Call n xs ≡ conjuncts.Call number args
          → (d : EntryName) × (m : Entry) × Contains (e ∷ es) m × IsCallWith program models k number args d × IsMatchFor program d m
      first c e es made is same =
          let numbers : n ≡ number = cc in
          let arguments : xs ≡ args = cc in
          (c, e, contains_first e es, call_with program models k number args c (sym (ap (λ y. named_call program models k y xs) numbers ∙ ap (named_call program models k number) arguments) ∙ made), is)

      by : ((es : List Entry) → AreMatches program (calls_in program models k cs) es → Contains cs (conjuncts.Call number args)
          → (d : EntryName) × (m : Entry) × Contains es m × IsCallWith program models k number args d × IsMatchFor program d m)
          → (o : Option EntryName) → named_call program models k n xs ≡ o → (ms : List Entry) → AreMatches program (o ∷ calls_in program models k cs) ms
          → Contains (conjuncts.Call n xs ∷ cs) (conjuncts.Call number args)
          → (d : EntryName) × (m : Entry) × Contains ms m × IsCallWith program models k number args d × IsMatchFor program d m
      by later None made [] a h = absurd a
      by later None made (m ∷ ms) a h = absurd a
      by later (Some c) made [] a h = absurd a
      by later (Some c) made (e ∷ es) a (zero, below, is) = first c e es made a.0 is
      by later (Some c) made (e ∷ es) a (suc i, below, is) =
          let (d, m, there, w, match) = later es a.1 (i, omega (arith, below), is) in (d, m, contains_later m e es there, w, match)
  matched (conjuncts.Cond x ∷ cs) matches number args are (zero, below, is) = absurd (cc)
  matched (conjuncts.Cond x ∷ cs) matches number args are (suc i, below, is) = matched cs matches number args are (i, omega (arith, below), is)
  matched (conjuncts.Equation v x ∷ cs) matches number args are (zero, below, is) = absurd (cc)
  matched (conjuncts.Equation v x ∷ cs) matches number args are (suc i, below, is) = matched cs matches number args are (i, omega (arith, below), is)
