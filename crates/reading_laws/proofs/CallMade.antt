-- Calls that are made, over the models and between entries.
use Rattle.std.specs.Prelude.{◌≡◌, ◌⊎◌, ℕ, zero, suc, List, [], ◌∷◌, map, length, Option, None, Some, slice_get, slice_set, Contains}
use Rattle.std.proofs.Common.{refl, sym, ap, subst, ◌∙◌, inl, inr, arith}
use Rattle.object_tables.specs.Models.{ModelData}
use Rattle.qv_syntax.specs.declared.typed.Typed.{Typed}
use Rattle.qv_syntax.specs.declared.program.Program.{Program}
use Rattle.qv_syntax.specs.declared.program.Rel.{Rel}
use Rattle.qv_syntax.specs.declared.program.Dom.{Dom}
use Rattle.qv_syntax.specs.declared.program.Conj.{Conj}
use Rattle.qvtr_semantics.specs.declared.datum.Datum.{Datum}
use Rattle.qvtr_semantics.specs.Outs.{datum_of, all_given}
use Rattle.qvtr_semantics.specs.Expressions.{value_for}
use Rattle.qvtr_semantics.specs.Templates.{Values, value_at}
use Rattle.qvtr_semantics.specs.Calls.{RelationCall, Asked, AllAsked, free, call_with, call_of, calls_of}
use Rattle.template_match.proofs.ListLaws.{contains_later}
use Rattle.mof_metamodel.proofs.Facts.{contains_first}
use Rattle.source_laws.proofs.RootLaws.{put, none_free}
use Rattle.repair_semantics.specs.declared.entry.EntryName.{EntryName}
use Rattle.repair_semantics.specs.EntryValues.{Known}
use Rattle.repair_semantics.specs.Entries.{named_call, calls_in}
use Rattle.reading_laws.proofs.CallValues.{none_some}
use Rattle.std.proofs.lemmas.Option.{same_Some}
use Rattle.qv_syntax.specs.declared.program.Conj.TheVariants as conjuncts
use Rattle.qvtr_semantics.specs.Calls as calls

-- the call of an argument list is one of its relation
pub to_rel : (program : Program) (models : List ModelData) (c : Values) (n : ℕ) (args : List Typed) (to : RelationCall) → call_of program models c n args ≡ Some to → to.rel ≡ n
to_rel program models c n args to is = by (slice_get program.rels n) (all_given (map (λ e. datum_of (value_for program models e c)) args)) is
  where
    by : (q : Option Rel) (o : Option (List Datum)) → call_with n q o ≡ Some to → to.rel ≡ n
    by None o h = absurd (none_some to h)
    by (Some called) None h = absurd (none_some to h)
    by (Some called) (Some ds) h = sym (ap (λ (t : RelationCall). t.rel) (same_Some (record { rel = n; roots = calls.with_roots (free called) called.domains ds }) to h))

-- the roots of a call have values at roots of domains alone
root_from : (c : Values) (doms : List Dom) (ds : List Datum) (v : ℕ) (d : Datum) → value_at (calls.with_roots c doms ds) v ≡ Some d
    → ((dom : Dom) × Contains doms dom × (dom.root ≡ v)) ⊎ (value_at c v ≡ Some d)
root_from c [] ds v d at = inr at
root_from c (dom ∷ doms) [] v d at = inr at
root_from c (dom ∷ doms) (e ∷ ds) v d at = by (root_from (slice_set c dom.root (Some e)) doms ds v d at)
  where
    here : ((dom.root ≡ v) × (e ≡ d)) ⊎ (value_at c v ≡ Some d) → ((x : Dom) × Contains (dom ∷ doms) x × (x.root ≡ v)) ⊎ (value_at c v ≡ Some d)
    here (inl (is, same)) = inl (dom, contains_first dom doms, is)
    here (inr before) = inr before

    by : ((x : Dom) × Contains doms x × (x.root ≡ v)) ⊎ (value_at (slice_set c dom.root (Some e)) v ≡ Some d) → ((x : Dom) × Contains (dom ∷ doms) x × (x.root ≡ v)) ⊎ (value_at c v ≡ Some d)
    by (inl (x, there, is)) = inl (x, contains_later x dom doms there, is)
    by (inr before) = here (put c dom.root v e d before)

pub to_root : (program : Program) (models : List ModelData) (c : Values) (n : ℕ) (args : List Typed) (to : RelationCall) (called : Rel) → call_of program models c n args ≡ Some to
    → slice_get program.rels n ≡ Some called → (v : ℕ) (d : Datum) → value_at to.roots v ≡ Some d → (dom : Dom) × Contains called.domains dom × (dom.root ≡ v)
to_root program models c n args to called is found v d at =
    by (all_given (map (λ e. datum_of (value_for program models e c)) args)) (sym (ap (λ o. call_with n o (all_given (map (λ e. datum_of (value_for program models e c)) args))) found) ∙ is)
  where
    end : ((dom : Dom) × Contains called.domains dom × (dom.root ≡ v)) ⊎ (value_at (free called) v ≡ Some d) → (dom : Dom) × Contains called.domains dom × (dom.root ≡ v)
    end (inl dom) = dom
    end (inr none) = absurd (none_some d (sym (none_free (length called.vars) v) ∙ none))

    by : (o : Option (List Datum)) → call_with n (Some called) o ≡ Some to → (dom : Dom) × Contains called.domains dom × (dom.root ≡ v)
    by None h = absurd (none_some to h)
    by (Some ds) h =
        end (root_from (free called) called.domains ds v d
        (ap (λ (t : RelationCall). value_at t.roots v) (same_Some (record { rel = n; roots = calls.with_roots (free called) called.domains ds }) to h) ∙ at))

-- the call that a conjunct makes
abbrev call_in : Program → List ModelData → Values → Conj → Option RelationCall
call_in program models c (conjuncts.Call n args) = call_of program models c n args
call_in program models c other = None

abbrev name_in : Program → List ModelData → Known → Conj → Option EntryName
name_in program sources k (conjuncts.Call n args) = named_call program sources k n args
name_in program sources k other = None

-- each call of a clause of which this is asked is made
pub asked_of : (asked : Asked) (program : Program) (models : List ModelData) (c : Values) (clause : List Conj) → AllAsked asked (calls_of program models c clause) → (n : ℕ) (args : List Typed)
    → Contains clause (conjuncts.Call n args) → (to : RelationCall) × (call_of program models c n args ≡ Some to) × asked to
asked_of asked program models c [] all n args (k, less, is) = absurd (omega (arith, less))
asked_of asked program models c (conjuncts.Call k more ∷ cs) all n args within = by (call_of program models c k more) refl all within (λ rest there. asked_of asked program models c cs rest n args there)
  where
    first : (to : RelationCall) → call_of program models c k more ≡ Some to → asked to → conjuncts.Call k more ≡ conjuncts.Call n args → (x : RelationCall) × (call_of program models c n args ≡ Some x) × asked x
    first to is here same = (to, sym (ap (call_in program models c) same) ∙ is, here)

    by : (o : Option RelationCall) → call_of program models c k more ≡ o → AllAsked asked (o ∷ calls_of program models c cs) → Contains (conjuncts.Call k more ∷ cs) (conjuncts.Call n args)
        → (AllAsked asked (calls_of program models c cs) → Contains cs (conjuncts.Call n args) → (x : RelationCall) × (call_of program models c n args ≡ Some x) × asked x)
        → (x : RelationCall) × (call_of program models c n args ≡ Some x) × asked x
    by None is none there rest = absurd none
    by (Some to) is both (zero, less, same) rest = first to is both.0 same
    by (Some to) is both (suc j, less, same) rest = rest both.1 (j, omega (arith, less), same)
asked_of asked program models c (conjuncts.Cond e ∷ cs) all n args (zero, less, is) = absurd (cc)
asked_of asked program models c (conjuncts.Cond e ∷ cs) all n args (suc k, less, is) = asked_of asked program models c cs all n args (k, omega (arith, less), is)
asked_of asked program models c (conjuncts.Equation v e ∷ cs) all n args (zero, less, is) = absurd (cc)
asked_of asked program models c (conjuncts.Equation v e ∷ cs) all n args (suc k, less, is) = asked_of asked program models c cs all n args (k, omega (arith, less), is)

-- a call of the clause that is made is among its calls
pub named_within : (program : Program) (sources : List ModelData) (k : Known) (clause : List Conj) (n : ℕ) (args : List Typed) (from : EntryName) → Contains clause (conjuncts.Call n args)
    → named_call program sources k n args ≡ Some from → Contains (calls_in program sources k clause) (Some from)
named_within program sources k [] n args from (j, less, is) made = absurd (omega (arith, less))
named_within program sources k (conjuncts.Call d more ∷ cs) n args from (zero, less, same) made =
    subst (λ o. Contains (o ∷ calls_in program sources k cs) (Some from)) (sym (ap (name_in program sources k) same ∙ made)) (contains_first (Some from) (calls_in program sources k cs))
named_within program sources k (conjuncts.Call d more ∷ cs) n args from (suc j, less, same) made =
    contains_later (Some from) (named_call program sources k d more) (calls_in program sources k cs) (named_within program sources k cs n args from (j, omega (arith, less), same) made)
named_within program sources k (conjuncts.Cond e ∷ cs) n args from (zero, less, is) made = absurd (cc)
named_within program sources k (conjuncts.Cond e ∷ cs) n args from (suc j, less, is) made = named_within program sources k cs n args from (j, omega (arith, less), is) made
named_within program sources k (conjuncts.Equation v e ∷ cs) n args from (zero, less, is) made = absurd (cc)
named_within program sources k (conjuncts.Equation v e ∷ cs) n args from (suc j, less, is) made = named_within program sources k cs n args from (j, omega (arith, less), is) made
