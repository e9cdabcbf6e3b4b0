-- A call in a when clause that matches, and a chain of calls in where clauses that comes back to where it was.
use Rattle.std.specs.Prelude.{◌≡◌, ◌⊎◌, ℕ, zero, suc, Bool, true, ◌&&◌, [], ◌∷◌, codes, None, Some, Contains}
use Rattle.std.proofs.Common.{refl, ap, sym, subst, arith, inl, inr}
use Rattle.qv_syntax.specs.declared.program.Rel.{Rel}
use Rattle.qvtr_semantics.specs.declared.datum.Datum.{Datum}
use Rattle.qvtr_semantics.specs.Templates.{Values, Pattern, value_at}
use Rattle.qvtr_semantics.specs.Bindings.{have_values}
use Rattle.qvtr_semantics.specs.Calls.{Match, calls_of, free}
use Rattle.qvtr_semantics.specs.Chains.{CallsWhere, ReachedFrom, IsTopCall, as_top, CyclicChain}
use Rattle.qvtr_semantics.specs.SmallModels.{package_call, begins, again, looping, again_call, class, program, models, package_to_schema, text, object}
use Rattle.qvtr_semantics.proofs.RowParts.{named_template, bare_template, call_by_variables}
use Rattle.qvtr_semantics.proofs.RowAnswers.{nothing_free}
use Rattle.std.proofs.lemmas.Option.{none-some}

-- ---- a call in a when clause matches

abbrev a_bound : Values
a_bound = text (codes "a") ∷ object 0 0 ∷ object 1 0 ∷ []

roots_kept : (v : ℕ) (d : Datum) → value_at package_call.roots v ≡ Some d → value_at a_bound v ≡ Some d
roots_kept zero d e = absurd (none-some d e)
roots_kept (suc zero) d e = e
roots_kept (suc (suc zero)) d e = e
roots_kept (suc (suc (suc v))) d e = e

universal_or_root : (v : ℕ) (d : Datum) → value_at a_bound v ≡ Some d → Contains package_to_schema.universal v ⊎ (value_at package_call.roots v ≡ Some d)
universal_or_root zero d e = inl (0, omega arith, refl)
universal_or_root (suc zero) d e = inr e
universal_or_root (suc (suc zero)) d e = inr e
universal_or_root (suc (suc (suc v))) d e = inr e

abbrev source_by : Pattern → Values → Bool
source_by p b = have_values program models package_to_schema package_to_schema.universal b && (p.matches b && true) && true

abbrev target_by : Pattern → Values → Bool
target_by p g = have_values program models package_to_schema package_to_schema.existential g && (p.matches g && true) && true

pub package_call_matches : Match program models package_call
package_call_matches = (
  a_bound,
  a_bound,
  record {
    source = record { places = refl; extends = roots_kept; no_others = universal_or_root; meets = ap (λ q. source_by q a_bound) (named_template program models 1 1 0) };
    whens = tt;
  },
  record {
    target = record { places = refl; extends = λ v d e. e; no_others = λ v d e. inr e; meets = ap (λ q. target_by q a_bound) (named_template program models 2 1 0) };
    wheres = tt;
  },
)

-- ---- a chain that comes back

abbrev pub a_pair : Values
a_pair = object 0 0 ∷ object 1 0 ∷ []

-- a package and a schema meet the source and the target of each of the two relations
abbrev pair_source : Rel → Pattern → Values → Bool
pair_source rel p b = have_values looping models rel rel.universal b && (p.matches b && true) && true

abbrev pair_target : Rel → Pattern → Values → Bool
pair_target rel p g = have_values looping models rel rel.existential g && (p.matches g && true) && true

calls_the_pair : calls_of looping models a_pair again.wheres ≡ Some again_call ∷ []
calls_the_pair = ap (λ c. c ∷ []) (call_by_variables looping models 1 0 1 (class 0 1) (class 1 1) a_pair)

only_call : Contains (calls_of looping models a_pair again.wheres) (Some again_call)
only_call = subst (λ cs. Contains cs (Some again_call)) (sym calls_the_pair) (0, omega arith, refl)

-- Begins calls Again(p1, s1)
nothing_free_two : (v : ℕ) (d : Datum) → value_at (free begins) v ≡ Some d → value_at (object 0 0 ∷ None ∷ []) v ≡ Some d
nothing_free_two v d e = absurd (nothing_free 2 v d e)

only_package : (v : ℕ) (d : Datum) → value_at (object 0 0 ∷ None ∷ []) v ≡ Some d → Contains begins.universal v ⊎ (value_at (free begins) v ≡ Some d)
only_package zero d e = inl (0, omega arith, refl)
only_package (suc zero) d e = absurd (none-some d e)
only_package (suc (suc v)) d e = absurd (none-some d e)

package_kept : (v : ℕ) (d : Datum) → value_at (object 0 0 ∷ None ∷ []) v ≡ Some d → value_at a_pair v ≡ Some d
package_kept zero d e = e
package_kept (suc zero) d e = absurd (none-some d e)
package_kept (suc (suc v)) d e = absurd (none-some d e)

schema_or_kept : (v : ℕ) (d : Datum) → value_at a_pair v ≡ Some d → Contains begins.existential v ⊎ (value_at (object 0 0 ∷ None ∷ []) v ≡ Some d)
schema_or_kept zero d e = inr e
schema_or_kept (suc zero) d e = inl (0, omega arith, refl)
schema_or_kept (suc (suc v)) d e = absurd (none-some d e)

begins_calls : CallsWhere looping models (record { rel = 0; roots = free begins }) again_call
begins_calls = record {
  rel = begins;
  is = refl;
  binding = object 0 0 ∷ None ∷ [];
  source = record {
    source = record { places = refl; extends = nothing_free_two; no_others = only_package; meets = ap (λ p. pair_source begins p (object 0 0 ∷ None ∷ [])) (bare_template looping models 0 1) };
    whens = tt;
  };
  partner = a_pair;
  target = record { places = refl; extends = package_kept; no_others = schema_or_kept; meets = ap (λ p. pair_target begins p a_pair) (bare_template looping models 1 1) };
  calls = only_call;
}

-- Again(p1, s1) calls itself
again_calls : CallsWhere looping models again_call again_call
again_calls = record {
  rel = again;
  is = refl;
  binding = a_pair;
  source = record {
    source = record { places = refl; extends = λ v d e. e; no_others = λ v d e. inr e; meets = ap (λ p. pair_source again p a_pair) (bare_template looping models 0 1) };
    whens = tt;
  };
  partner = a_pair;
  target = record { places = refl; extends = λ v d e. e; no_others = λ v d e. inr e; meets = ap (λ p. pair_target again p a_pair) (bare_template looping models 1 1) };
  calls = only_call;
}

pub call_comes_back : CyclicChain looping models (again_call ∷ again_call ∷ [])
call_comes_back = record {
  reached = (
    record {
      from = record { rel = 0; roots = free begins };
      begins = inl (ReachedFrom.start as_top (record { rel = 0; roots = free begins }) (IsTopCall.top 0 begins (record { is = refl; top = refl; in_direction = refl })));
      calls = begins_calls;
    },
    (again_calls, tt),
  );
  cyclic = record {
    before = again_call ∷ [];
    last = again_call;
    is = refl;
    distinct = λ i j d before within. absurd (omega (arith, before, within));
    repeat = (0, omega arith, refl);
  };
}
