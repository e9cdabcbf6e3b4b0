-- What relations and roots may be asked for: a top relation without roots, and a relation that an entry calls with the roots of its call.
use Rattle.std.specs.Prelude.{◌≡◌, ◌<◌, ℕ, suc, List, [], ◌∷◌, length, Option, None, Some, slice_get, Contains}
use Rattle.std.specs.Option.{option_map_or}
use Rattle.std.proofs.Common.{refl, sym, ap, subst, ◌∙◌, inr}
use Rattle.std.proofs.lemmas.Bool.{true≢false}
use Rattle.mof_metamodel.specs.declared.desc.MetaDesc.{MetaDesc}
use Rattle.mof_metamodel.proofs.Facts.{nothing_in, contains_at}
use Rattle.object_tables.specs.Models.{ModelData}
use Rattle.qv_syntax.specs.declared.typed.Typed.{Typed}
use Rattle.qv_syntax.specs.declared.program.Program.{Program}
use Rattle.qv_syntax.specs.declared.program.Rel.{Rel}
use Rattle.qv_syntax.specs.declared.program.Dom.{Dom}
use Rattle.qv_syntax.specs.ProgramTypes.{AreGiven}
use Rattle.qvtr_semantics.specs.Satisfaction.{IsTop}
use Rattle.source_laws.proofs.RootLaws.{same_called, typed_call}
use Rattle.repair_semantics.specs.declared.term.TermValue.{TermValue}
use Rattle.repair_semantics.specs.declared.term.TermValue.TheVariants as values
use Rattle.repair_semantics.specs.declared.entry.Entry.{Entry}
use Rattle.repair_semantics.specs.declared.entry.EntryName.{EntryName}
use Rattle.repair_semantics.specs.EntryValues.{value_of, no_values, root_values, given_value}
use Rattle.repair_semantics.specs.Making.{entry_known}
use Rattle.repair_semantics.specs.Entries.{calls_where, entry_calls, IsEntry}
use Rattle.reading_laws.specs.Roots.{HasRootsOf}
use Rattle.reading_laws.proofs.CallRoots.{root_given, roots_long, bound_same, none_long}
use Rattle.reading_laws.proofs.CallArguments.{given_long, IsCallMade, where_made}
use Rattle.reading_laws.proofs.EntryRoots.{IsRooted, call_roots, entry_rooted}
use Rattle.entry_bindings.specs.Asked.{HasPrimitiveRoots}
use Rattle.entry_bindings.proofs.ArgumentLaws.{none_some, none_there}
use Rattle.entry_finding.specs.Premises.{CanBeEnforced}
use Rattle.entry_finding.specs.Found.{IsSought}

as_many : (metas : List MetaDesc) (program : Program) (rel called : Rel) (doms : List Dom) (es : List Typed) → AreGiven metas program rel called doms es → length es ≡ length doms
as_many metas program rel called [] [] given = refl
as_many metas program rel called [] (x ∷ es) given = absurd given
as_many metas program rel called (d ∷ doms) [] given = absurd given
as_many metas program rel called (d ∷ doms) (x ∷ es) given = ap suc (as_many metas program rel called doms es given.1)

no_value : (rel : Rel) (v : ℕ) (x : TermValue) → value_of (no_values rel) v ≡ Some x → ⊥
no_value rel v x at = none_some x (sym (none_there (length rel.vars) v) ∙ at)

module _ (metas : List MetaDesc) (program : Program) (models : List ModelData) (p : CanBeEnforced metas program models) where
  -- a top relation without roots
  pub top_sought : (number : ℕ) (rel : Rel) → IsTop program number rel → IsSought metas program models number (no_values rel)
  top_sought number rel top = record {
    rel = rel;
    found = top.is;
    direction = top.in_direction;
    places = none_long (length rel.vars) None;
    has = record {
      of_domains = λ v x at. absurd (no_value rel v x at);
      data_values = λ v d at. absurd (no_value rel v (values.Val d) at);
      terms = λ v t at. absurd (no_value rel v (values.Term t) at);
      given = λ called. absurd (true≢false (sym top.top ∙ called));
      handed = λ called. absurd (true≢false (sym top.top ∙ called));
    };
    primitive = λ dom called. absurd (true≢false (sym top.top ∙ called));
  }

  module _ (from : Entry) (is_from : IsEntry program models from) (c : EntryName) (within : Contains (entry_calls program models from) c) (rel : Rel) (found : slice_get program.rels c.rel ≡ Some rel) where
    caller : (r : Rel) × (slice_get program.rels from.rel ≡ Some r)
    caller = by (slice_get program.rels from.rel) refl within
      where
        by : (o : Option Rel) → slice_get program.rels from.rel ≡ o
            → Contains (option_map_or (λ r. calls_where program models r (entry_known program models r from.values)) o []) c
            → (r : Rel) × (slice_get program.rels from.rel ≡ Some r)
        by None at there = absurd (nothing_in c there)
        by (Some r) at there = (r, at)

    abbrev own : Rel
    own = caller.0

    rooted : IsRooted metas program models p.evaluable p.enforceable from own
    rooted = entry_rooted metas program models p.evaluable p.enforceable from is_from own caller.1

    made : IsCallMade program models (entry_known program models own from.values) own.wheres c
    made = where_made program models from own c caller.1 within

    same : made.called ≡ rel
    same = same_called made.called rel (sym made.found ∙ found)

    has : HasRootsOf metas program models made.called (root_values made.called c.roots)
    has = call_roots metas program models p.evaluable p.enforceable from.rel own caller.1 rooted.direction rooted.roots from.values rooted.source rooted.has c made

    range : (dom : Dom) → Contains made.called.domains dom → dom.root < length made.called.vars
    range = (p.evaluable.well.numbers.relations made.called (contains_at program.rels c.rel made.called made.found)).roots

    typed : AreGiven metas program own made.called made.called.domains made.args
    typed =
        let t = typed_call metas program p.evaluable.well from.rel own caller.1 c.rel made.args (inr made.there) in
        subst (λ (r : Rel). AreGiven metas program own r r.domains made.args) (same_called t.called made.called (sym t.found ∙ made.found)) t.given

    long : length made.xs ≡ length made.called.domains
    long =
        given_long (given_value program models (entry_known program models own from.values)) made.args made.xs made.given
        ∙ as_many metas program own made.called made.called.domains made.args typed

    given : (dom : Dom) → Contains made.called.domains dom → (x : TermValue) × (value_of (root_values made.called c.roots) dom.root ≡ Some x)
    given dom there =
        let (x, at) = root_given (no_values made.called) made.called.domains made.xs long
        (λ d among. subst (λ n. d.root < n) (sym (none_long (length made.called.vars) None)) (range d among)) dom there in
        (x, ap (λ (ys : List TermValue). value_of (root_values made.called ys) dom.root) made.roots ∙ bound_same made.called range made.xs long dom.root ∙ at)

    -- a relation that an entry calls, with the roots of its call
    pub call_sought : IsSought metas program models c.rel (root_values rel c.roots)
    call_sought = record {
      rel = rel;
      found = found;
      direction = ((p.evaluable.well.relations from.rel own caller.1).calls rooted.direction).wheres c.rel rel (made.args, made.there) found;
      places = roots_long (no_values rel) rel.domains c.roots ∙ none_long (length rel.vars) None;
      has = subst (λ (r : Rel). HasRootsOf metas program models r (root_values r c.roots)) same has;
      primitive = subst (λ (r : Rel). HasPrimitiveRoots r (root_values r c.roots)) same (λ dom called there bare. given dom there);
    }
