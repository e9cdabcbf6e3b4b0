-- The calls that a clause makes: of which relation each is, with which data, and what is asked of it.
use Rattle.std.specs.Prelude.{◌≡◌, ℕ, zero, suc, List, [], ◌∷◌, map, Option, None, Some, slice_get, Contains}
use Rattle.std.specs.Option.{option_map}
use Rattle.std.proofs.Common.{refl, sym, ap, subst, arith}
use Rattle.std.proofs.lemmas.Option.{same_Some}
use Rattle.object_tables.specs.Models.{ModelData}
use Rattle.qv_syntax.specs.declared.program.Program.{Program}
use Rattle.qv_syntax.specs.declared.program.Rel.{Rel}
use Rattle.qv_syntax.specs.declared.program.Conj.{Conj}
use Rattle.qv_syntax.specs.declared.program.Conj.TheVariants as conjuncts
use Rattle.qv_syntax.specs.declared.typed.Typed.{Typed}
use Rattle.qv_syntax.specs.Relations.{CallsIn}
use Rattle.qvtr_semantics.specs.declared.datum.Datum.{Datum}
use Rattle.qvtr_semantics.specs.Outs.{datum_of, all_given}
use Rattle.qvtr_semantics.specs.Expressions.{value_for}
use Rattle.qvtr_semantics.specs.Templates.{Values}
use Rattle.qvtr_semantics.specs.Calls.{RelationCall, Asked, AllAsked, free, with_roots, call_with, call_of, calls_of}
use Rattle.relation_calls.proofs.CallLaws.{made}

some_call : (c d : RelationCall) → Some c ≡ Some d → c ≡ d
some_call c d e = cc

no_call : (d : RelationCall) → ◌≡◌ {A = Option RelationCall} None (Some d) → ⊥
no_call d e = cc

pub all_given_parts : {X : Type 0} (o : Option X) (os : List (Option X)) (ys : List X) → all_given (o ∷ os) ≡ Some ys
    → (y : X) × (zs : List X) × (o ≡ Some y) × (all_given os ≡ Some zs) × (y ∷ zs ≡ ys)
all_given_parts None os ys e = absurd (cc)
all_given_parts {X} (Some x) os ys e = by (all_given os) refl e
  where
    by : (q : Option (List X)) → all_given os ≡ q → option_map (λ zs. x ∷ zs) q ≡ Some ys → (y : X) × (zs : List X) × (Some x ≡ Some y) × (all_given os ≡ Some zs) × (y ∷ zs ≡ ys)
    by None is h = absurd (cc)
    by (Some zs) is h = (x, zs, refl, is, same_Some (x ∷ zs) ys h)

module _ (program : Program) (models : List ModelData) where
  -- the call that arguments make is of the relation of that number, with the values that they give
  pub record IsMade (number : ℕ) (ds : Option (List Datum)) (d : RelationCall) : Type 0 where
    pub rel : Rel
    pub found : slice_get program.rels number ≡ Some rel
    pub arguments : List Datum
    pub given : ds ≡ Some arguments
    pub is : d ≡ record { rel = number; roots = with_roots (free rel) rel.domains arguments }

  made_with : (number : ℕ) (o : Option Rel) (ds : Option (List Datum)) (d : RelationCall) → slice_get program.rels number ≡ o → call_with number o ds ≡ Some d → IsMade number ds d
  made_with number None ds d found e = absurd (no_call d e)
  made_with number (Some rel) None d found e = absurd (no_call d e)
  made_with number (Some rel) (Some ds) d found e =
      record { rel = rel; found = found; arguments = ds; given = refl; is = sym (some_call (record { rel = number; roots = with_roots (free rel) rel.domains ds }) d e) }

  pub made_by : (b : Values) (number : ℕ) (args : List Typed) (d : RelationCall) → call_of program models b number args ≡ Some d
      → IsMade number (all_given (map (λ e. datum_of (value_for program models e b)) args)) d
  made_by b number args d e = made_with number (slice_get program.rels number) (all_given (map (λ x. datum_of (value_for program models x b)) args)) d refl e

  -- the clause calls the relation of a call that it makes
  pub called_in : (b : Values) (clause : List Conj) (d : RelationCall) → Contains (calls_of program models b clause) (Some d) → CallsIn clause d.rel
  called_in b clause d c =
      let m = made program models b clause d c in
      let by = made_by b m.number m.args d m.is in
      let same : d.rel ≡ m.number = ap (λ (x : RelationCall). x.rel) by.is in
      (m.args, subst (λ (n : ℕ). Contains clause (conjuncts.Call n m.args)) (sym same) m.has)

  -- ---- what is asked of each

  module _ (b : Values) where
    abbrev pub IsAskedBy : Asked → Conj → Type 0
    IsAskedBy asked (conjuncts.Call number args) = (c : RelationCall) × (call_of program models b number args ≡ Some c) × asked c
    IsAskedBy asked (conjuncts.Cond e) = Unit {0}
    IsAskedBy asked (conjuncts.Equation v e) = Unit {0}

    first_asked : (asked : Asked) (o : Option RelationCall) (cs : List (Option RelationCall)) → AllAsked asked (o ∷ cs) → ((c : RelationCall) × (o ≡ Some c) × asked c) × AllAsked asked cs
    first_asked asked None cs all = absurd all
    first_asked asked (Some c) cs all = ((c, refl, all.0), all.1)

    pub asked_at : (asked : Asked) (clause : List Conj) (x : Conj) → AllAsked asked (calls_of program models b clause) → Contains clause x → IsAskedBy asked x
    asked_at asked [] x all (k, within, is) = absurd (omega (arith, within))
    asked_at asked (conjuncts.Cond e ∷ cs) x all (zero, within, is) = subst (IsAskedBy asked) is tt
    asked_at asked (conjuncts.Cond e ∷ cs) x all (suc k, within, is) = asked_at asked cs x all (k, omega (arith, within), is)
    asked_at asked (conjuncts.Equation v e ∷ cs) x all (zero, within, is) = subst (IsAskedBy asked) is tt
    asked_at asked (conjuncts.Equation v e ∷ cs) x all (suc k, within, is) = asked_at asked cs x all (k, omega (arith, within), is)
    asked_at asked (conjuncts.Call number args ∷ cs) x all (zero, within, is) =
        subst (IsAskedBy asked) is (first_asked asked (call_of program models b number args) (calls_of program models b cs) all).0
    asked_at asked (conjuncts.Call number args ∷ cs) x all (suc k, within, is) =
        asked_at asked cs x (first_asked asked (call_of program models b number args) (calls_of program models b cs) all).1 (k, omega (arith, within), is)
