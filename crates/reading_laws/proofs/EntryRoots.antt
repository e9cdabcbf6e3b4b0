-- The roots of an entry: those of the domains of its relation, terms for objects of the target and data of their types for others. By the entry
-- from which its call comes.
use Rattle.std.specs.Prelude.{◌≡◌, ◌≢◌, ◌<◌, ℕ, zero, suc, Bool, true, false, List, [], ◌∷◌, length, replicate, Option, None, Some, slice_get, Contains}
use Rattle.std.specs.Option.{option_map_or}
use Rattle.std.proofs.Common.{refl, sym, ap, subst, ◌∙◌, arith, inr}
use Rattle.std.proofs.lemmas.Bool.{true≢false}
use Rattle.mof_metamodel.specs.declared.desc.MetaDesc.{MetaDesc}
use Rattle.object_tables.specs.Models.{ModelData}
use Rattle.qv_syntax.specs.declared.typed.Typed.{Typed}
use Rattle.qv_syntax.specs.declared.program.Program.{Program}
use Rattle.qv_syntax.specs.declared.program.Rel.{Rel}
use Rattle.qv_syntax.specs.declared.program.Var.{Var}
use Rattle.qv_syntax.specs.declared.program.Dom.{Dom}
use Rattle.qv_syntax.specs.Relations.{IsTargetDomain, IsDataVariable}
use Rattle.qv_syntax.specs.ProgramTypes.{IsGiven, AreGiven, typing_of}
use Rattle.qvtr_semantics.specs.declared.datum.Datum.{Datum}
use Rattle.qvtr_semantics.specs.Outs.{datum_of}
use Rattle.qvtr_semantics.specs.Bindings.{is_model}
use Rattle.qvtr_semantics.specs.Expressions.{Scope, setting, queries_within, value}
use Rattle.template_match.specs.Sources.{is_of_target, is_target_variable}
use Rattle.enforcement_rules.specs.TargetParts.{IsTargetVariable}
use Rattle.enforcement_rules.specs.Calls.{HasWrongArgument}
use Rattle.enforcement_rules.specs.Rules.{Breaks, IsEnforceable}
use Rattle.evaluation_laws.specs.Evaluable.{IsEvaluable}
use Rattle.evaluation_laws.specs.Scopes.{HasValueOfType}
use Rattle.evaluation_laws.proofs.CallLaws.{where_argument}
use Rattle.mof_metamodel.proofs.Facts.{contains_at}
use Rattle.source_laws.proofs.CallLaws.{alone_meaning}
use Rattle.source_laws.proofs.RootLaws.{same_called, alone_given, typed_call}
use Rattle.source_laws.proofs.RuleLaws.{target_is}
use Rattle.repair_semantics.specs.declared.term.Term.{Term}
use Rattle.repair_semantics.specs.declared.term.TermValue.{TermValue}
use Rattle.repair_semantics.specs.declared.term.TermValue.TheVariants as values
use Rattle.repair_semantics.specs.declared.entry.Entry.{Entry}
use Rattle.repair_semantics.specs.declared.entry.EntryName.{EntryName}
use Rattle.repair_semantics.specs.EntryValues.{TermValues, Known, value_of, data_in, no_values, root_values, variable_alone, given_by, given_value}
use Rattle.repair_semantics.specs.Making.{entry_scope, entry_known}
use Rattle.repair_semantics.specs.Entries.{TermSource, calls_where, entry_calls, IsEntry}
use Rattle.reading_laws.specs.Roots.{HasRootsOf}
use Rattle.reading_laws.proofs.MeetingValues.{nothing_some, KindOf, kind_of, no_term, one_datum, datum_to}
use Rattle.std.proofs.lemmas.Option.{same_Some}
use Rattle.reading_laws.proofs.MeetingTypes.{target_root_is, entry_typed}
use Rattle.reading_laws.proofs.PartnerKeys.{alone_is, is_alone, datum_given}
use Rattle.reading_laws.proofs.CallRoots.{root_given, bound_same, none_long}
use Rattle.reading_laws.proofs.CallArguments.{Comes, comes, given_long, argument_of, value_given, IsCallMade, where_made}
use Rattle.reading_laws.proofs.KnownValues.{is_target, keeps, no_datum, term_target, datum_known}

none_at : (n v : ℕ) → value_of (replicate n None) v ≡ None
none_at zero v = refl
none_at (suc n) zero = refl
none_at (suc n) (suc v) = none_at n v

found_target : (program : Program) (rel : Rel) (v : ℕ) → is_target_variable program rel v ≡ true → IsTargetVariable program rel v
found_target program rel v h = by (slice_get rel.vars v) refl h
  where
    by : (o : Option Var) → slice_get rel.vars v ≡ o → is_of_target program o ≡ true → IsTargetVariable program rel v
    by None found is = absurd (true≢false (sym is))
    by (Some var) found is = record { var = var; found = found; target = target_is program.target var.model is }

-- ---- an argument at its place

record IsForRoot (metas : List MetaDesc) (program : Program) (rel called : Rel) (dom : Dom) (e : Typed) : Type 0 where
  root : Var
  found : slice_get called.vars dom.root ≡ Some root
  given : IsGiven metas program rel (typing_of root) e

given_at : (metas : List MetaDesc) (program : Program) (rel called : Rel) (doms : List Dom) (es : List Typed) → AreGiven metas program rel called doms es → (place : ℕ) (dom : Dom) (e : Typed)
    → slice_get doms place ≡ Some dom → slice_get es place ≡ Some e → IsForRoot metas program rel called dom e
given_at metas program rel called [] [] given place dom e at there = absurd (nothing_some dom at)
given_at metas program rel called [] (x ∷ es) given place dom e at there = absurd given
given_at metas program rel called (d ∷ doms) [] given place dom e at there = absurd given
given_at metas program rel called (d ∷ doms) (x ∷ es) given zero dom e at there =
    let first : IsForRoot metas program rel called d x = record { root = given.0.0; found = given.0.1; given = given.0.2 } in
    subst (λ y. IsForRoot metas program rel called dom y) (same_Some x e there) (subst (λ y. IsForRoot metas program rel called y x) (same_Some d dom at) first)
given_at metas program rel called (d ∷ doms) (x ∷ es) given (suc place) dom e at there = given_at metas program rel called doms es given.1 place dom e at there

as_many : (metas : List MetaDesc) (program : Program) (rel called : Rel) (doms : List Dom) (es : List Typed) → AreGiven metas program rel called doms es → length es ≡ length doms
as_many metas program rel called [] [] given = refl
as_many metas program rel called [] (x ∷ es) given = absurd given
as_many metas program rel called (d ∷ doms) [] given = absurd given
as_many metas program rel called (d ∷ doms) (x ∷ es) given = ap suc (as_many metas program rel called doms es given.1)

module _ (metas : List MetaDesc) (program : Program) (sources : List ModelData) (over : IsEvaluable metas program sources) (enforceable : IsEnforceable metas program) where
  module _ (place : ℕ) (rel : Rel) (found : slice_get program.rels place ≡ Some rel) (direction : rel.in_direction ≡ true)
      (roots b : TermValues) (source : TermSource program sources rel roots b) (has : HasRootsOf metas program sources rel roots) where
    abbrev scope : Scope
    scope = entry_scope program sources rel b

    abbrev k : Known
    k = entry_known program sources rel b

    -- ---- the roots of a call

    module _ (c : EntryName) (m : IsCallMade program sources k rel.wheres c) where
      abbrev one : Typed → Option TermValue
      one e = given_value program sources k e

      typed : AreGiven metas program rel m.called m.called.domains m.args
      typed =
          let t = typed_call metas program over.well place rel found c.rel m.args (inr m.there) in
          subst (λ (r : Rel). AreGiven metas program rel r r.domains m.args) (same_called t.called m.called (sym t.found ∙ m.found)) t.given

      long : length m.xs ≡ length m.called.domains
      long = given_long one m.args m.xs m.given ∙ as_many metas program rel m.called m.called.domains m.args typed

      range : (dom : Dom) → Contains m.called.domains dom → dom.root < length m.called.vars
      range = (over.well.numbers.relations m.called (contains_at program.rels c.rel m.called m.found)).roots

      abbrev handed : TermValues
      handed = root_values m.called c.roots

      handed_are : (v : ℕ) → value_of handed v ≡ value_of (root_values m.called m.xs) v
      handed_are v = ap (λ ys. value_of (root_values m.called ys) v) m.roots ∙ bound_same m.called range m.xs long v

      -- the last argument for a root, with its value
      record IsLast (v : ℕ) (x : TermValue) : Type 0 where
        index : ℕ
        dom : Dom
        at : slice_get m.called.domains index ≡ Some dom
        root : dom.root ≡ v
        e : Typed
        argument : slice_get m.args index ≡ Some e
        given : one e ≡ Some x
        last : (later : ℕ) (other : Dom) (more : Typed) → index < later → slice_get m.called.domains later ≡ Some other → slice_get m.args later ≡ Some more → other.root ≢ dom.root

      last_of : (v : ℕ) (x : TermValue) → value_of handed v ≡ Some x → IsLast v x
      last_of v x at = by (comes (no_values m.called) m.called.domains m.xs v x (sym (handed_are v) ∙ at))
        where
          by : Comes (no_values m.called) m.called.domains m.xs v x → IsLast v x
          by (Comes.put p) =
              let (e, argument, given) = argument_of one m.args m.xs m.given p.place x p.given in
              record {
                index = p.place;
                dom = p.dom;
                at = p.at;
                root = p.root;
                e = e;
                argument = argument;
                given = given;
                last = λ later other more after at_other at_more same.
                    let (y, there) = value_given one m.args m.xs m.given later more at_more in p.last later other y after at_other there (same ∙ p.root);
              }
          by (Comes.kept is none) = absurd (nothing_some x (sym (none_at (length m.called.vars) v) ∙ is))

      given_root : (dom : Dom) → Contains m.called.domains dom → (x : TermValue) × (value_of handed dom.root ≡ Some x)
      given_root dom there =
          let (x, at) = root_given (no_values m.called) m.called.domains m.xs long (λ d c. subst (λ n. d.root < n) (sym (none_long (length m.called.vars) None)) (range d c)) dom there in
          (x, handed_are dom.root ∙ at)

      -- the value of a variable alone
      alone_given_by : (e : Typed) (w : ℕ) (x : TermValue) → variable_alone e ≡ Some w → one e ≡ Some x → value_of k.values w ≡ Some x
      alone_given_by e w x alone is = sym (ap (given_by program sources k e) alone) ∙ is

      no_data : (v : ℕ) (d : Datum) → value_of handed v ≡ Some (values.Val d) → is_target_variable program m.called v ≡ true → ⊥
      no_data v d at target =
          let a = last_of v (values.Val d) at in
          enforceable place 10 (record {
            rel = rel;
            found = found;
            in_direction = direction;
            breaks = Breaks.e10 refl (HasWrongArgument.of_where m.called a.dom a.e (record {
              number = c.rel;
              args = m.args;
              call = m.there;
              found = m.found;
              place = a.index;
              of = a.at;
              target = subst (IsTargetVariable program m.called) (sym a.root) (found_target program m.called v target);
              last = a.last;
              argument = a.argument;
            }) (λ passed.
                let t = passed.types in
                let alone : variable_alone a.e ≡ Some t.v = ap variable_alone t.alone.1 ∙ is_alone t.v in
                no_datum metas program sources over enforceable place rel found direction roots b source has t.v d (alone_given_by a.e t.v (values.Val d) alone a.given) (is_target program rel t.v t.var t.found t.target)));
          })

      terms_target : (v : ℕ) (t : Term) → value_of handed v ≡ Some (values.Term t) → is_target_variable program m.called v ≡ true
      terms_target v t at = by (is_target_variable program m.called v) refl
        where
          of_alone : (a : IsLast v (values.Term t)) → is_target_variable program m.called v ≡ false → (o : Option ℕ) → variable_alone a.e ≡ o → ⊥
          of_alone a outside None plain =
              let (d, out, same) = datum_given (value program sources a.e scope) (values.Term t) (sym (ap (given_by program sources k a.e) plain) ∙ a.given) in no_term d t (ap (λ x. Some x) (sym same))
          of_alone a outside (Some w) alone =
              let f = given_at metas program rel m.called m.called.domains m.args typed a.index a.dom a.e a.at a.argument in
              let root_outside : is_of_target program (Some f.root) ≡ false = sym (ap (is_of_target program) f.found) ∙ ap (is_target_variable program m.called) a.root ∙ outside in
              true≢false (sym (term_target metas program sources over enforceable place rel found direction roots b source has w t (alone_given_by a.e w (values.Term t) alone a.given))
              ∙ alone_given metas program over.well place rel found f.root a.e a.e.ty w f.given (alone_is a.e w alone) root_outside)

          by : (x : Bool) → is_target_variable program m.called v ≡ x → x ≡ true
          by true is = refl
          by false is = let a = last_of v (values.Term t) at in absurd (of_alone a is (variable_alone a.e) refl)

      -- the datum of an argument is its value in the scope
      datum_argument : (e : Typed) (d : Datum) (o : Option ℕ) → variable_alone e ≡ o → given_by program sources k e o ≡ Some (values.Val d) → datum_of (value program sources e scope) ≡ Some d
      datum_argument e d None plain is =
          let (y, out, same) = datum_given (value program sources e scope) (values.Val d) is in
          ap datum_of out ∙ sym (ap (λ z. Some z) (one_datum d y (ap (λ x. Some x) same)))
      datum_argument e d (Some w) alone is =
          ap (λ y. datum_of (value program sources y scope)) (alone_is e w alone)
          ∙ ap datum_of (alone_meaning (setting program sources) (queries_within program.queries (setting program sources) (length program.queries)) e.ty w scope ∙ datum_known metas program sources over enforceable place rel found direction roots b source has w d is)

      data_typed : (dom : Dom) → Contains m.called.domains dom → IsDataVariable m.called dom.root → HasValueOfType metas (setting program sources) m.called (data_in handed) dom.root
      data_typed dom there is_data = let (x, at) = given_root dom there in by x at (kind_of x)
        where
          outside : is_target_variable program m.called dom.root ≡ false
          outside =
              ap (is_of_target program) is_data.found
              ∙ ap (λ y. is_model y program.target) (((over.well.relations c.rel m.called m.found).variables.models is_data.var (contains_at m.called.vars dom.root is_data.var is_data.found)).data_value is_data.data_type)

          of_datum : (d : Datum) → value_of handed dom.root ≡ Some (values.Val d) → HasValueOfType metas (setting program sources) m.called (data_in handed) dom.root
          of_datum d at =
              let a = last_of dom.root (values.Val d) at in
              record {
                var = is_data.var;
                found = is_data.found;
                datum = d;
                at = datum_to handed dom.root d at;
                is = where_argument metas program sources over.kept over.well over.texts rel [] (contains_at program.rels place rel found) c.rel m.args m.there m.called m.found a.index a.dom a.e a.at a.argument
                    (subst (IsDataVariable m.called) (sym a.root) is_data) scope (entry_typed metas program sources over place rel found (keeps metas program sources over enforceable place rel found direction roots b source has) roots b source has a.e) is_data.var
                    (ap (slice_get m.called.vars) a.root ∙ is_data.found) d (datum_argument a.e d (variable_alone a.e) refl a.given);
              }

          by : (x : TermValue) → value_of handed dom.root ≡ Some x → KindOf x → HasValueOfType metas (setting program sources) m.called (data_in handed) dom.root
          by x at (KindOf.datum d is) = of_datum d (at ∙ ap (λ y. Some y) is)
          by x at (KindOf.term t is) = absurd (true≢false (sym (terms_target dom.root t (at ∙ ap (λ y. Some y) is)) ∙ outside))

      pub call_roots : HasRootsOf metas program sources m.called handed
      call_roots = record {
        of_domains = λ v x at. let a = last_of v x at in (a.dom, contains_at m.called.domains a.index a.dom a.at, a.root);
        data_values = λ v d at. by v d at (is_target_variable program m.called v) refl;
        terms = terms_target;
        given = λ not_top dom there is_data. data_typed dom there is_data;
        handed = λ not_top dom of. let (x, at) = given_root dom of.is in term_there dom of x at (kind_of x);
      }
        where
          by : (v : ℕ) (d : Datum) → value_of handed v ≡ Some (values.Val d) → (x : Bool) → is_target_variable program m.called v ≡ x → x ≡ false
          by v d at true target = absurd (no_data v d at target)
          by v d at false is = refl

          term_there : (dom : Dom) → IsTargetDomain program m.called dom → (x : TermValue) → value_of handed dom.root ≡ Some x → KindOf x → (t : Term) × (value_of handed dom.root ≡ Some (values.Term t))
          term_there dom of x at (KindOf.term t is) = (t, at ∙ ap (λ y. Some y) is)
          term_there dom of x at (KindOf.datum d is) =
              absurd (no_data dom.root d (at ∙ ap (λ y. Some y) is) (target_root_is metas program sources over c.rel m.called m.found dom of))

  -- ---- entries

  -- an entry is one of a relation of the direction, by roots of which this holds
  pub record IsRooted (e : Entry) (rel : Rel) : Type 0 where
    pub direction : rel.in_direction ≡ true
    pub roots : TermValues
    pub source : TermSource program sources rel roots e.values
    pub has : HasRootsOf metas program sources rel roots

  pub no_roots : (rel : Rel) → rel.top ≡ true → HasRootsOf metas program sources rel (no_values rel)
  no_roots rel top = record {
    of_domains = λ v x at. absurd (nothing_some x (sym (none_at (length rel.vars) v) ∙ at));
    data_values = λ v d at. absurd (nothing_some (values.Val d) (sym (none_at (length rel.vars) v) ∙ at));
    terms = λ v t at. absurd (nothing_some (values.Term t) (sym (none_at (length rel.vars) v) ∙ at));
    given = λ called. absurd (true≢false (sym top ∙ called));
    handed = λ called. absurd (true≢false (sym top ∙ called));
  }

  of_relation : (e : Entry) (n : ℕ) (one other : Rel) → e.rel ≡ n → slice_get program.rels n ≡ Some one → slice_get program.rels e.rel ≡ Some other → IsRooted e one → IsRooted e other
  of_relation e n one other number at found rooted = subst (IsRooted e) (same_called one other (sym at ∙ ap (slice_get program.rels) (sym number) ∙ found)) rooted

  pub call_found : (from : Entry) (c : EntryName) → Contains (entry_calls program sources from) c → (rel : Rel) × (slice_get program.rels from.rel ≡ Some rel)
  call_found from c within = by (slice_get program.rels from.rel) refl within
    where
      by : (o : Option Rel) → slice_get program.rels from.rel ≡ o
          → Contains (option_map_or (λ r. calls_where program sources r (entry_known program sources r from.values)) o []) c
          → (rel : Rel) × (slice_get program.rels from.rel ≡ Some rel)
      by None at (i, less, is) = absurd (omega (arith, less))
      by (Some rel) at there = (rel, at)

  -- the relation that an entry calls is of the direction, and has the roots of the call
  pub call_rooted : (from : Entry) (c : EntryName) (frel rel : Rel) → slice_get program.rels from.rel ≡ Some frel → IsRooted from frel → Contains (entry_calls program sources from) c
      → slice_get program.rels c.rel ≡ Some rel → (rel.in_direction ≡ true) × HasRootsOf metas program sources rel (root_values rel c.roots)
  call_rooted from c frel rel found rooted within at =
      let m = where_made program sources from frel c found within in
      let same : m.called ≡ rel = same_called m.called rel (sym m.found ∙ at) in (
        ((over.well.relations from.rel frel found).calls rooted.direction).wheres c.rel rel (m.args, m.there) at,
        subst (λ (r : Rel). HasRootsOf metas program sources r (root_values r c.roots)) same (call_roots from.rel frel found rooted.direction rooted.roots from.values rooted.source rooted.has c m),
      )

  called_rooted : (e from : Entry) (c : EntryName) (frel rel : Rel) → slice_get program.rels from.rel ≡ Some frel → IsRooted from frel → Contains (entry_calls program sources from) c
      → slice_get program.rels c.rel ≡ Some rel → TermSource program sources rel (root_values rel c.roots) e.values → IsRooted e rel
  called_rooted e from c frel rel found rooted within at source =
      let (direction, has) = call_rooted from c frel rel found rooted within at in
      record { direction = direction; roots = root_values rel c.roots; source = source; has = has }

  pub entry_rooted : (e : Entry) → IsEntry program sources e → (rel : Rel) → slice_get program.rels e.rel ≡ Some rel → IsRooted e rel
  entry_rooted e (IsEntry.of_top _ number rel matches top entry more) other found =
      of_relation e number rel other (ap (λ (x : Entry). x.rel) entry.is) top.is found
      (record { direction = top.in_direction; roots = no_values rel; source = entry.source; has = no_roots rel top.top })
  entry_rooted e (IsEntry.of_call _ from c rel matches is_from within at entry more) other found =
      let (frel, from_found) = call_found from c within in
      of_relation e c.rel rel other (ap (λ (x : Entry). x.rel) entry.is) at found
      (called_rooted e from c frel rel from_found (entry_rooted from is_from frel from_found) within at entry.source)
