-- A binding on the way: it has the data of the source, and terms of roots and of arguments of calls.
use Rattle.std.specs.Prelude.{◌≡◌, ◌⊎◌, ◌<◌, ℕ, zero, suc, Bool, true, false, ◌==◌, List, [], ◌∷◌, map, length, Option, None, Some, slice_get, slice_set, Contains, if◌then◌else◌}
use Rattle.std.specs.List.{AllByRecursion, flat_map}
use Rattle.std.specs.Option.{option_map, option_and_then}
use Rattle.std.proofs.Common.{refl, sym, ap, subst, ◌∙◌, inl, inr, arith}
use Rattle.std.proofs.lemmas.Bool.{and_parts, true≢false, eqb-true}
use Rattle.std.proofs.lemmas.Option.{same_Some}
use Rattle.object_tables.specs.Models.{ModelData}
use Rattle.qv_syntax.specs.declared.program.Program.{Program}
use Rattle.qv_syntax.specs.declared.program.Rel.{Rel}
use Rattle.qv_syntax.specs.declared.program.Var.{Var}
use Rattle.qv_syntax.specs.declared.program.Conj.{Conj}
use Rattle.qv_syntax.specs.declared.program.Conj.TheVariants as conjuncts
use Rattle.qv_syntax.specs.declared.typed.Typed.{Typed}
use Rattle.qvtr_semantics.specs.declared.datum.Datum.{Datum}
use Rattle.qvtr_semantics.specs.Outs.{datum_of, all_given}
use Rattle.qvtr_semantics.specs.Expressions.{value_for}
use Rattle.qvtr_semantics.specs.Templates.{Values}
use Rattle.mof_metamodel.proofs.Facts.{nothing_in, contains_first}
use Rattle.template_match.specs.Sources.{is_of_target, is_target_variable}
use Rattle.template_match.proofs.ListLaws.{contains_later}
use Rattle.repair_semantics.specs.declared.term.Term.{Term}
use Rattle.repair_semantics.specs.declared.term.TermValue.{TermValue}
use Rattle.repair_semantics.specs.EntryValues.{TermsExtend, value_of, data_in, variable_alone}
use Rattle.repair_semantics.specs.Entries.{IsUniversalTarget}
use Rattle.term_table.specs.declared.numbered.NumberedValue.{NumberedValue}
use Rattle.term_table.specs.declared.numbered.NumberedValue.TheVariants as numbered
use Rattle.term_table.specs.TermTables.{value_in, values_in}
use Rattle.term_table.proofs.NumberLaws.{ties_are_one}
use Rattle.entry_bindings.specs.declared.argument.Argument.{Argument}
use Rattle.entry_bindings.specs.declared.argument.Argument.TheVariants as arguments
use Rattle.entry_bindings.specs.declared.matching.Match.{Match}
use Rattle.entry_bindings.specs.Starts.{NumberedValues, number_of}
use Rattle.entry_bindings.specs.Arguments.{variable_argument, argument_by, argument_of, arguments_of, bound}
use Rattle.entry_bindings.specs.Joins.{same_number, agrees, agree, is_match, matching, opened, taken, filled, extended_by, call_extended, joined}
use Rattle.entry_bindings.proofs.ArgumentLaws.{none_some, set_there, set_from, set_long, bound_all}
use Rattle.entry_bindings.proofs.ListLaws.{filtered_from, picked_from, joined_from, below}
use Rattle.entry_bindings.proofs.ValueLaws.{term_number, value_there, number_there, set_data, Grows, set_grows}

pub grows_through : (a b c : NumberedValues) → Grows a b → Grows b c → Grows a c
grows_through a b c one other v x at = other v x (one v x at)

-- ---- what fits

-- the binding gives the argument this value
abbrev pub Fits : NumberedValues → Argument → NumberedValue → Type 0
Fits c (arguments.Given x) y = x ≡ y
Fits c (arguments.Open v) y = number_of c v ≡ Some y

abbrev pub AllFit : NumberedValues → List Argument → List NumberedValue → Type 0
AllFit c [] [] = Unit {0}
AllFit c [] (y ∷ ys) = ⊥
AllFit c (a ∷ gs) [] = ⊥
AllFit c (a ∷ gs) (y ∷ ys) = Fits c a y × AllFit c gs ys

one_more : (b c : NumberedValues) → Grows b c → (a : Argument) (y : NumberedValue) → Fits b a y → Fits c a y
one_more b c more (arguments.Given x) y h = h
one_more b c more (arguments.Open v) y h = more v y h

pub all_more : (b c : NumberedValues) → Grows b c → (gs : List Argument) (ys : List NumberedValue) → AllFit b gs ys → AllFit c gs ys
all_more b c more [] [] h = h
all_more b c more [] (y ∷ ys) h = h
all_more b c more (a ∷ gs) [] h = h
all_more b c more (a ∷ gs) (y ∷ ys) h = (one_more b c more a y h.0, all_more b c more gs ys h.1)

pub open_fits : (c : NumberedValues) (gs : List Argument) (ys : List NumberedValue) (v : ℕ) → AllFit c gs ys → Contains gs (arguments.Open v) → (y : NumberedValue) × (number_of c v ≡ Some y)
open_fits c [] ys v h there = absurd (nothing_in (arguments.Open v) there)
open_fits c (a ∷ gs) [] v h there = absurd h
open_fits c (a ∷ gs) (y ∷ ys) v h (zero, less, is) = (y, subst (λ z. Fits c z y) is h.0)
open_fits c (a ∷ gs) (y ∷ ys) v h (suc k, less, is) = open_fits c gs ys v h.1 (k, omega (arith, less), is)

-- ---- arguments

-- each argument is what its expression gives
abbrev pub AreGivenBy : (Typed → Option Argument) → List Typed → List Argument → Type 0
AreGivenBy g [] [] = Unit {0}
AreGivenBy g [] (a ∷ gs) = ⊥
AreGivenBy g (e ∷ es) [] = ⊥
AreGivenBy g (e ∷ es) (a ∷ gs) = (g e ≡ Some a) × AreGivenBy g es gs

pub given_each : (g : Typed → Option Argument) (es : List Typed) (gs : List Argument) → all_given (map g es) ≡ Some gs → AreGivenBy g es gs
given_each g [] [] h = tt
given_each g [] (a ∷ gs) h = absurd (cc)
given_each g (e ∷ es) gs h = by gs (g e) refl (all_given (map g es)) refl h (given_each g es)
  where
    by : (gs : List Argument) (o : Option Argument) → g e ≡ o → (p : Option (List Argument)) → all_given (map g es) ≡ p → all_given (o ∷ map g es) ≡ Some gs
        → ((bs : List Argument) → all_given (map g es) ≡ Some bs → AreGivenBy g es bs) → AreGivenBy g (e ∷ es) gs
    by gs None is p others h rest = absurd (none_some gs h)
    by gs (Some a) is None others h rest = absurd (none_some gs (sym (ap (option_map (λ ys. a ∷ ys)) others) ∙ h))
    by gs (Some a) is (Some bs) others h rest =
        subst (AreGivenBy g (e ∷ es)) (same_Some (a ∷ bs) gs (sym (ap (option_map (λ ys. a ∷ ys)) others) ∙ h)) (is, rest bs others)

pub argument_at : (g : Typed → Option Argument) (es : List Typed) (gs : List Argument) → AreGivenBy g es gs → (k : ℕ) (e : Typed) → slice_get es k ≡ Some e
    → (a : Argument) × (slice_get gs k ≡ Some a) × (g e ≡ Some a)
argument_at g [] gs are k e at = absurd (none_some e at)
argument_at g (x ∷ es) [] are k e at = absurd are
argument_at g (x ∷ es) (a ∷ gs) are zero e at = (a, refl, sym (ap g (same_Some x e at)) ∙ are.0)
argument_at g (x ∷ es) (a ∷ gs) are (suc k) e at = argument_at g es gs are.1 k e at

pub expression_at : (g : Typed → Option Argument) (es : List Typed) (gs : List Argument) → AreGivenBy g es gs → (k : ℕ) (a : Argument) → slice_get gs k ≡ Some a
    → (e : Typed) × (slice_get es k ≡ Some e)
expression_at g [] [] are k a at = absurd (none_some a at)
expression_at g [] (b ∷ gs) are k a at = absurd are
expression_at g (x ∷ es) [] are k a at = absurd are
expression_at g (x ∷ es) (b ∷ gs) are zero a at = (x, refl)
expression_at g (x ∷ es) (b ∷ gs) are (suc k) a at = expression_at g es gs are.1 k a at

pub given_all : (P : Argument → Type 0) (g : Typed → Option Argument) (es : List Typed) (gs : List Argument) → AreGivenBy g es gs
    → ((e : Typed) (a : Argument) → Contains es e → g e ≡ Some a → P a) → AllByRecursion P gs
given_all P g [] [] are each = tt
given_all P g [] (a ∷ gs) are each = absurd are
given_all P g (e ∷ es) [] are each = absurd are
given_all P g (e ∷ es) (a ∷ gs) are each = (each e a (contains_first e es) are.0, given_all P g es gs are.1 (λ x b there. each x b (contains_later x e es there)))

module _ (program : Program) (models : List ModelData) (rel : Rel) (terms : List Term) (ms : List Match) (roots : NumberedValues) where
  pub record IsPartial (d : Values) (b : NumberedValues) : Type 0 where
    pub places : length b ≡ length rel.vars
    pub data_values : data_in (values_in terms b) ≡ d
    pub extends : TermsExtend (values_in terms roots) (values_in terms b)
    pub terms_target : (v n : ℕ) → number_of b v ≡ Some (numbered.Term n) → is_target_variable program rel v ≡ true
    pub no_others : (v n : ℕ) → number_of b v ≡ Some (numbered.Term n) → IsUniversalTarget program rel v ⊎ (number_of roots v ≡ Some (numbered.Term n))

  -- an open argument is a universal variable for objects of the target
  abbrev pub IsOpenTarget : Argument → Type 0
  IsOpenTarget (arguments.Given x) = Unit {0}
  IsOpenTarget (arguments.Open v) = IsUniversalTarget program rel v

  pub variable_below : (v : ℕ) → is_target_variable program rel v ≡ true → (var : Var) × (slice_get rel.vars v ≡ Some var)
  variable_below v target = by (slice_get rel.vars v) refl target
    where
      by : (o : Option Var) → slice_get rel.vars v ≡ o → is_of_target program o ≡ true → (var : Var) × (slice_get rel.vars v ≡ Some var)
      by None at is = absurd (true≢false (sym is))
      by (Some var) at is = (var, at)

  module _ (d : Values) where
    pub record Goes (b c : NumberedValues) (gs : List Argument) (ys : List NumberedValue) : Type 0 where
      pub partial : IsPartial d c
      pub grows : Grows b c
      pub fits : AllFit c gs ys

    pub record Steps (b c : NumberedValues) (a : Argument) (y : NumberedValue) : Type 0 where
      pub partial : IsPartial d c
      pub grows : Grows b c
      pub fits : Fits c a y

    opened_partial : (b : NumberedValues) (v n : ℕ) → IsPartial d b → IsUniversalTarget program rel v → number_of b v ≡ None → Steps b (slice_set b v (Some (numbered.Term n))) (arguments.Open v) (numbered.Term n)
    opened_partial b v n partial opens none = record {
      partial = record {
        places = set_long b v (Some (numbered.Term n)) ∙ partial.places;
        data_values = set_data terms b v n none ∙ partial.data_values;
        extends = λ w x at. extended_at w x (number_there terms b w x (partial.extends w x at));
        terms_target = λ w k at. target w k (set_from b v w (numbered.Term n) (numbered.Term k) at);
        no_others = λ w k at. other w k (set_from b v w (numbered.Term n) (numbered.Term k) at);
      };
      grows = λ w x at. set_grows b v w (Some (numbered.Term n)) x none at;
      fits = set_there b v (numbered.Term n) (subst (λ m. v < m) (sym partial.places) (let (var, at) = variable_below v opens.target in below rel.vars v var at));
    }
      where
        extended_at : (w : ℕ) (x : TermValue) → (y : NumberedValue) × (number_of b w ≡ Some y) × (value_in terms y ≡ x)
            → value_of (values_in terms (slice_set b v (Some (numbered.Term n)))) w ≡ Some x
        extended_at w x (y, at, is) =
            value_there terms (slice_set b v (Some (numbered.Term n))) w y (set_grows b v w (Some (numbered.Term n)) y none at) ∙ ap (λ z. Some z) is

        target : (w k : ℕ) → ((v ≡ w) × (numbered.Term n ≡ numbered.Term k)) ⊎ (number_of b w ≡ Some (numbered.Term k)) → is_target_variable program rel w ≡ true
        target w k (inl both) = subst (λ u. is_target_variable program rel u ≡ true) both.0 opens.target
        target w k (inr at) = partial.terms_target w k at

        other : (w k : ℕ) → ((v ≡ w) × (numbered.Term n ≡ numbered.Term k)) ⊎ (number_of b w ≡ Some (numbered.Term k))
            → IsUniversalTarget program rel w ⊎ (number_of roots w ≡ Some (numbered.Term k))
        other w k (inl both) = inl (subst (IsUniversalTarget program rel) both.0 opens)
        other w k (inr at) = partial.no_others w k at

    taken_partial : (b : NumberedValues) (a : Argument) (y : NumberedValue) (c : NumberedValues) → IsPartial d b → IsOpenTarget a → agrees a y ≡ true → taken b a y ≡ Some c → Steps b c a y
    taken_partial b (arguments.Given x) y c partial opens agreed is =
        let same : b ≡ c = same_Some b c is in
        record { partial = subst (IsPartial d) same partial; grows = subst (Grows b) same (λ v z at. at); fits = (ties_are_one x y).0 agreed }
    taken_partial b (arguments.Open v) y c partial opens agreed is = by (number_of b v) refl is
      where
        same_by : (x : NumberedValue) → number_of b v ≡ Some x → (s : Bool) → same_number x y ≡ s → (if s then Some b else None) ≡ Some c → Steps b c (arguments.Open v) y
        same_by x at true tie h =
            let same : b ≡ c = same_Some b c h in
            record {
              partial = subst (IsPartial d) same partial;
              grows = subst (Grows b) same (λ w z there. there);
              fits = ap (λ p. number_of p v) (sym same) ∙ at ∙ ap (λ z. Some z) ((ties_are_one x y).0 tie);
            }
        same_by x at false tie h = absurd (none_some c h)

        by : (o : Option NumberedValue) → number_of b v ≡ o → opened b v y o ≡ Some c → Steps b c (arguments.Open v) y
        by None none h =
            let (n, term) = term_number y agreed in
            let made : Steps b (slice_set b v (Some (numbered.Term n))) (arguments.Open v) (numbered.Term n) = opened_partial b v n partial opens none in
            subst (λ p. Steps b p (arguments.Open v) y) (ap (λ z. slice_set b v (Some z)) (sym term) ∙ same_Some (slice_set b v (Some y)) c h)
            (subst (Steps b (slice_set b v (Some (numbered.Term n))) (arguments.Open v)) (sym term) made)
        by (Some x) at h = same_by x at (same_number x y) refl h

    pub filled_partial : (b : NumberedValues) (gs : List Argument) (ys : List NumberedValue) (c : NumberedValues) → IsPartial d b → AllByRecursion IsOpenTarget gs → agree gs ys ≡ true
        → filled b gs ys ≡ Some c → Goes b c gs ys
    filled_partial b [] [] c partial opens agreed is =
        let same : b ≡ c = same_Some b c is in record { partial = subst (IsPartial d) same partial; grows = subst (Grows b) same (λ v z at. at); fits = tt }
    filled_partial b [] (y ∷ ys) c partial opens agreed is = absurd (true≢false (sym agreed))
    filled_partial b (a ∷ gs) [] c partial opens agreed is = absurd (true≢false (sym agreed))
    filled_partial b (a ∷ gs) (y ∷ ys) c partial opens agreed is = by (taken b a y) refl is (λ m. filled_partial m gs ys c)
      where
        parts : (agrees a y ≡ true) × (agree gs ys ≡ true)
        parts = and_parts (agrees a y) (agree gs ys) agreed

        by : (o : Option NumberedValues) → taken b a y ≡ o → option_and_then (λ m. filled m gs ys) o ≡ Some c
            → ((m : NumberedValues) → IsPartial d m → AllByRecursion IsOpenTarget gs → agree gs ys ≡ true → filled m gs ys ≡ Some c → Goes m c gs ys) → Goes b c (a ∷ gs) (y ∷ ys)
        by None at h go = absurd (none_some c h)
        by (Some m) at h go =
            let step = taken_partial b a y m partial opens.0 parts.0 at in
            let rest = go m step.partial opens.1 parts.1 h in
            record { partial = rest.partial; grows = grows_through b m c step.grows rest.grows; fits = (one_more m c rest.grows a y step.fits, rest.fits) }

    -- ---- calls

    -- the call of these arguments was joined with a match, whose roots the binding gives
    pub record IsJoined (e : NumberedValues) (number : ℕ) (args : List Typed) : Type 0 where
      pub called : Rel
      pub found : slice_get program.rels number ≡ Some called
      pub b : NumberedValues
      pub before : Grows b e
      pub given : List Argument
      pub are : AreGivenBy (argument_of program models rel d b) args given
      pub m : Match
      pub within : Contains ms m
      pub number_is : m.rel ≡ number
      pub fits : AllFit e (bound called given) m.roots

    pub joined_more : (e c : NumberedValues) (number : ℕ) (args : List Typed) → Grows e c → IsJoined e number args → IsJoined c number args
    joined_more e c number args more j = record {
      called = j.called;
      found = j.found;
      b = j.b;
      before = grows_through j.b e c j.before more;
      given = j.given;
      are = j.are;
      m = j.m;
      within = j.within;
      number_is = j.number_is;
      fits = all_more e c more (bound j.called j.given) j.m.roots j.fits;
    }

    -- what is asked of the calls of a clause: their open arguments are universal variables
    abbrev pub AreOpenTargets : List Conj → Type 0
    AreOpenTargets cs = (number : ℕ) (args : List Typed) (e : Typed) (v : ℕ) → Contains cs (conjuncts.Call number args) → Contains args e → variable_alone e ≡ Some v
        → is_target_variable program rel v ≡ true → IsUniversalTarget program rel v

    open_argument : (b : NumberedValues) (e : Typed) (a : Argument) → ((v : ℕ) → variable_alone e ≡ Some v → is_target_variable program rel v ≡ true → IsUniversalTarget program rel v)
        → argument_of program models rel d b e ≡ Some a → IsOpenTarget a
    open_argument b e (arguments.Given x) opens is = tt
    open_argument b e (arguments.Open w) opens is = by (variable_alone e) refl is
      where
        by_datum : (o : Option Datum) → option_map (λ x. arguments.Given (numbered.Val x)) o ≡ Some (arguments.Open w) → IsUniversalTarget program rel w
        by_datum None h = absurd (none_some (arguments.Open w) h)
        by_datum (Some x) h = absurd (cc)

        by_target : (v : ℕ) → variable_alone e ≡ Some v → (x : Bool) → is_target_variable program rel v ≡ x → (if x then Some (arguments.Open v) else None) ≡ Some (arguments.Open w)
            → IsUniversalTarget program rel w
        by_target v alone true target h = subst (IsUniversalTarget program rel) (same_open v w h) (opens v alone target)
          where
            same_open : (m n : ℕ) → Some (arguments.Open m) ≡ Some (arguments.Open n) → m ≡ n
            same_open m n k = cc
        by_target v alone false target h = absurd (none_some (arguments.Open w) h)

        by_value : (v : ℕ) → variable_alone e ≡ Some v → (o : Option NumberedValue) → variable_argument program rel v o ≡ Some (arguments.Open w) → IsUniversalTarget program rel w
        by_value v alone None h = by_target v alone (is_target_variable program rel v) refl h
        by_value v alone (Some x) h = absurd (cc)

        by : (o : Option ℕ) → variable_alone e ≡ o → argument_by program models rel d b e o ≡ Some (arguments.Open w) → IsUniversalTarget program rel w
        by None alone h = by_datum (datum_of (value_for program models e d)) h
        by (Some v) alone h = by_value v alone (number_of b v) h

    pub open_arguments : (b : NumberedValues) (args : List Typed) (given : List Argument) → AreGivenBy (argument_of program models rel d b) args given
        → ((e : Typed) (v : ℕ) → Contains args e → variable_alone e ≡ Some v → is_target_variable program rel v ≡ true → IsUniversalTarget program rel v) → AllByRecursion IsOpenTarget given
    open_arguments b args given are opens =
        given_all IsOpenTarget (argument_of program models rel d b) args given are (λ e a there is. open_argument b e a (λ v alone target. opens e v there alone target) is)

    pub record Comes (b c : NumberedValues) (number : ℕ) (args : List Typed) : Type 0 where
      pub partial : IsPartial d c
      pub grows : Grows b c
      pub joined : IsJoined c number args

    pub extended_comes : (b c : NumberedValues) (number : ℕ) (args : List Typed) → IsPartial d b
        → ((e : Typed) (v : ℕ) → Contains args e → variable_alone e ≡ Some v → is_target_variable program rel v ≡ true → IsUniversalTarget program rel v)
        → Contains (call_extended program models ms rel d number args b) c → Comes b c number args
    extended_comes b c number args partial opens there = by (slice_get program.rels number) refl (arguments_of program models rel d b args) refl there
      where
        by : (o : Option Rel) → slice_get program.rels number ≡ o → (p : Option (List Argument)) → arguments_of program models rel d b args ≡ p
            → Contains (extended_by ms b number o p) c → Comes b c number args
        by None found p given h = absurd (nothing_in c h)
        by (Some called) found None given h = absurd (nothing_in c h)
        by (Some called) found (Some gs) given h =
            let (m, among, is) = picked_from (λ (m : Match). filled b (bound called gs) m.roots) (matching ms number (bound called gs)) c h in
            let one = filtered_from (is_match number (bound called gs)) ms m among in
            let parts = and_parts (m.rel == number) (agree (bound called gs) m.roots) one.1 in
            let are = given_each (argument_of program models rel d b) args gs given in
            let goes = filled_partial b (bound called gs) m.roots c partial (bound_all IsOpenTarget called gs (open_arguments b args gs are opens)) parts.1 is in
            record {
              partial = goes.partial;
              grows = goes.grows;
              joined = record {
                called = called;
                found = found;
                b = b;
                before = goes.grows;
                given = gs;
                are = are;
                m = m;
                within = one.0;
                number_is = eqb-true m.rel number parts.0;
                fits = goes.fits;
              };
            }

    -- a binding at the end, and one at the begin of which it comes
    pub record IsReached (cs : List Conj) (bs : List NumberedValues) (e : NumberedValues) : Type 0 where
      pub b : NumberedValues
      pub from : Contains bs b
      pub grows : Grows b e
      pub partial : IsPartial d e
      pub calls : (number : ℕ) (args : List Typed) → Contains cs (conjuncts.Call number args) → IsJoined e number args

    later : (cs : List Conj) (c : Conj) → AreOpenTargets (c ∷ cs) → AreOpenTargets cs
    later cs c opens number args e v there = opens number args e v (contains_later (conjuncts.Call number args) c cs there)

    elsewhere : (c : Conj) (cs : List Conj) (bs : List NumberedValues) (e : NumberedValues) → ((n : ℕ) (xs : List Typed) → c ≡ conjuncts.Call n xs → ⊥) → IsReached cs bs e → IsReached (c ∷ cs) bs e
    elsewhere c cs bs e none r = record { b = r.b; from = r.from; grows = r.grows; partial = r.partial; calls = by }
      where
        by : (n : ℕ) (xs : List Typed) → Contains (c ∷ cs) (conjuncts.Call n xs) → IsJoined e n xs
        by n xs (zero, less, is) = absurd (none n xs is)
        by n xs (suc k, less, is) = r.calls n xs (k, omega (arith, less), is)

    pub reached : (cs : List Conj) (bs : List NumberedValues) (e : NumberedValues) → AreOpenTargets cs → ((b : NumberedValues) → Contains bs b → IsPartial d b)
        → Contains (joined program models ms rel d cs bs) e → IsReached cs bs e
    reached [] bs e opens partial there = record { b = e; from = there; grows = λ v x at. at; partial = partial e there; calls = λ number args none. absurd (nothing_in (conjuncts.Call number args) none) }
    reached (conjuncts.Call number args ∷ cs) bs e opens partial there =
        let comes : (b c : NumberedValues) → Contains bs b → Contains (call_extended program models ms rel d number args b) c → Comes b c number args
        = λ b c among within. extended_comes b c number args (partial b among) (λ x v. opens number args x v (contains_first (conjuncts.Call number args) cs)) within in
        let r = reached cs (flat_map (call_extended program models ms rel d number args) bs) e (later cs (conjuncts.Call number args) opens)
        (λ c within. let (b, among, from) = joined_from (call_extended program models ms rel d number args) bs c within in (comes b c among from).partial) there in
        let (b, among, from) = joined_from (call_extended program models ms rel d number args) bs r.b r.from in
        let step = comes b r.b among from in
        record {
          b = b;
          from = among;
          grows = grows_through b r.b e step.grows r.grows;
          partial = r.partial;
          calls = λ n xs within. by n xs (joined_more r.b e number args r.grows step.joined) r.calls within;
        }
      where
        same_number_of : (m n : ℕ) (xs ys : List Typed) → conjuncts.Call m xs ≡ conjuncts.Call n ys → m ≡ n
        same_number_of m n xs ys h = cc

        same_arguments : (m n : ℕ) (xs ys : List Typed) → conjuncts.Call m xs ≡ conjuncts.Call n ys → xs ≡ ys
        same_arguments m n xs ys h = cc

        by : (n : ℕ) (xs : List Typed) → IsJoined e number args → ((m : ℕ) (ys : List Typed) → Contains cs (conjuncts.Call m ys) → IsJoined e m ys)
            → Contains (conjuncts.Call number args ∷ cs) (conjuncts.Call n xs) → IsJoined e n xs
        by n xs one rest (zero, less, is) = subst (λ m. IsJoined e m xs) (same_number_of number n args xs is) (subst (IsJoined e number) (same_arguments number n args xs is) one)
        by n xs one rest (suc k, less, is) = rest n xs (k, omega (arith, less), is)
    reached (conjuncts.Cond x ∷ cs) bs e opens partial there = elsewhere (conjuncts.Cond x) cs bs e (λ n xs h. cc) (reached cs bs e (later cs (conjuncts.Cond x) opens) partial there)
    reached (conjuncts.Equation v x ∷ cs) bs e opens partial there = elsewhere (conjuncts.Equation v x) cs bs e (λ n xs h. cc) (reached cs bs e (later cs (conjuncts.Equation v x) opens) partial there)
