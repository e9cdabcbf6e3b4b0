-- What is looked for from a binding on: with each value of the next variable what is looked for from there, and where nothing is open the
-- binding itself, if it meets the side.
use Rattle.std.specs.Prelude.{◌≡◌, ◌≢◌, ◌⊎◌, ◌<◌, ◌++◌, ℕ, zero, suc, Bool, true, false, List, [], ◌∷◌, length, Option, None, Some, is_some, slice_get, Contains, if◌then◌else◌}
use Rattle.std.proofs.Common.{refl, sym, ap, subst, ◌∙◌, arith, inl, inr}
use Rattle.std.proofs.lemmas.Bool.{and_parts, and_from, true≢false, cases_eq}
use Rattle.std.proofs.lemmas.List.{length-set}
use Rattle.std.proofs.lemmas.List.Elements.{Contains-append_left, Contains-append_right, Contains-append_cases}
use Rattle.mof_metamodel.proofs.Facts.{contains_first}
use Rattle.qv_syntax.specs.declared.program.Rel.{Rel}
use Rattle.qv_syntax.specs.declared.program.Dom.{Dom}
use Rattle.qvtr_semantics.specs.declared.datum.Datum.{Datum}
use Rattle.qvtr_semantics.specs.Objects.{is_number_among}
use Rattle.qvtr_semantics.specs.Templates.{Values, value_at}
use Rattle.qvtr_semantics.specs.Bindings.{Extends}
use Rattle.ocl_eval.proofs.ClassLaws.{among_from, among_to}
use Rattle.template_match.specs.declared.side.Side.{Side}
use Rattle.template_match.specs.declared.side.Side.TheVariants.{Source, Target}
use Rattle.template_match.specs.declared.branch.Branch.{Branch}
use Rattle.template_match.specs.declared.prepared.Prepared.{Prepared}
use Rattle.template_match.specs.Sides.{meets_side}
use Rattle.template_match.specs.Problems.{Problem}
use Rattle.template_match.specs.Joins.{are_joined}
use Rattle.template_match.specs.Search.{sought, is_vacant, is_open, is_any_open, with_value, fits, tested}
use Rattle.template_match.specs.Posed.{HasRoots, IsPosed, IsSought}
use Rattle.template_match.specs.Prepared.{problem_in, IsPrepared}
use Rattle.template_match.specs.Branches.{IsBranch, IsBarren, IsStuck, IsFound}
use Rattle.template_match.proofs.ListLaws.{any_at}
use Rattle.template_match.proofs.ValueLaws.{not_some, same_values, within_values, vacant_parts, vacant_from, same_place, other_place}
use Rattle.template_match.proofs.SideLaws.{meets_parts, valued}
use Rattle.template_match.proofs.JoinLaws.{all_joined_from, all_joined_to}
use Rattle.template_match.proofs.ProgressLaws.{none_stuck}

-- ---- open variables

-- an open variable is sought, and its place has no value
pub record IsOpen (p : Problem) (a : Values) (v : ℕ) : Type 0 where
  pub sought_is : Contains (sought p) v
  pub within : v < length a
  pub none : value_at a v ≡ None

pub opened : (p : Problem) (a : Values) (v : ℕ) → is_open p a v ≡ true → IsOpen p a v
opened p a v h =
    let both = and_parts (is_number_among v (sought p)) (is_vacant (slice_get a v)) h in
    let parts = vacant_parts a v both.1 in
    record { sought_is = among_to v (sought p) both.0; within = parts.0; none = parts.1 }

not_open : (p : Problem) (a : Values) (v : ℕ) → is_any_open p a ≡ false → Contains (sought p) v → v < length a → (d : Datum) × (value_at a v ≡ Some d)
not_open p a v none c within = by (value_at a v) refl
  where
    by : (o : Option Datum) → value_at a v ≡ o → (d : Datum) × (value_at a v ≡ Some d)
    by (Some d) e = (d, e)
    by None e =
        let here : is_open p a v ≡ true = and_from (is_number_among v (sought p)) (is_vacant (slice_get a v)) (among_from v (sought p) c) (vacant_from a v within (ap is_some e)) in
        absurd (true≢false (sym (any_at (is_open p a) (sought p) v here c) ∙ none))

-- ---- one value more

extended_still : (a b : Values) (v : ℕ) (d : Datum) → v < length a → Extends a b → value_at b v ≡ Some d → Extends (with_value a v d) b
extended_still a b v d within more at w e h = by (cases_eq w v)
  where
    by : (w ≡ v) ⊎ (w ≢ v) → value_at b w ≡ Some e
    by (inl same) =
        let put : Some d ≡ Some e = sym (same_place a v d within) ∙ sym (ap (value_at (with_value a v d)) same) ∙ h in
        ap (value_at b) same ∙ at ∙ put
    by (inr apart) = more w e (sym (other_place a v w d apart) ∙ h)

pub extends_with : (a : Values) (v : ℕ) (d : Datum) → value_at a v ≡ None → Extends a (with_value a v d)
extends_with a v d none w e h = by (cases_eq w v)
  where
    by : (w ≡ v) ⊎ (w ≢ v) → value_at (with_value a v d) w ≡ Some e
    by (inl same) = absurd (not_some e (sym none ∙ sym (ap (value_at a) same) ∙ h))
    by (inr apart) = other_place a v w d apart ∙ h

roots_still : (side : Side) (rel : Rel) (a c : Values) → HasRoots side rel a → Extends a c → HasRoots side rel c
roots_still Source rel a c has more = λ (dom : Dom) top within none. let x = has dom top within none in (x.0, more dom.root x.0 x.1)
roots_still Target rel a c has more = λ (v : ℕ) within. let x = has v within in (x.0, more v x.0 x.1)

posed_still : (p : Problem) (a c : Values) → IsPosed p a → Extends a c → IsPosed p c
posed_still p a c posed more = record { links = posed.links; variables = posed.variables; seeks = posed.seeks; roots = roots_still p.side p.rel a c posed.roots more }

-- what was made ready stays so
pub prepared_with : (s : Prepared) (a : Values) (v : ℕ) (d : Datum) (c : Values) → IsPrepared s a → is_open (problem_in s) a v ≡ true → c ≡ with_value a v d → IsPrepared s c
prepared_with s a v d c h is same =
    subst (IsPrepared s) (sym same) (record {
      posed = posed_still (problem_in s) a (with_value a v d) h.posed (extends_with a v d (opened (problem_in s) a v is).none);
      places = length-set a v (Some d) ∙ h.places;
      marks = h.marks;
      asked = h.asked;
      shapes = h.shapes;
    })

module _ (p : Problem) (a b : Values) (v : ℕ) (d : Datum) (is : is_open p a v ≡ true) where
  pub sought_with : IsSought p a b → value_at b v ≡ Some d → IsSought p (with_value a v d) b
  sought_with whole at = record {
    partial = record {
      places = whole.partial.places;
      extends = extended_still a b v d (opened p a v is).within whole.partial.extends at;
      no_others = λ w e h. by w e (whole.partial.no_others w e h);
    };
    joined = whole.joined;
    meets = whole.meets;
  }
    where
      by : (w : ℕ) (e : Datum) → Contains (sought p) w ⊎ (value_at a w ≡ Some e) → Contains (sought p) w ⊎ (value_at (with_value a v d) w ≡ Some e)
      by w e (inl c) = inl c
      by w e (inr r) = inr (extends_with a v d (opened p a v is).none w e r)

  pub sought_back : IsSought p (with_value a v d) b → IsSought p a b × (value_at b v ≡ Some d)
  sought_back whole = (
    record {
      partial = record {
        places = whole.partial.places;
        extends = λ w e h. whole.partial.extends w e (extends_with a v d (opened p a v is).none w e h);
        no_others = λ w e h. by w e (whole.partial.no_others w e h);
      };
      joined = whole.joined;
      meets = whole.meets;
    },
    whole.partial.extends v d (same_place a v d (opened p a v is).within),
  )
    where
      by : (w : ℕ) (e : Datum) → Contains (sought p) w ⊎ (value_at (with_value a v d) w ≡ Some e) → Contains (sought p) w ⊎ (value_at a w ≡ Some e)
      by w e (inl c) = inl c
      by w e (inr r) = apart (cases_eq w v)
        where
          apart : (w ≡ v) ⊎ (w ≢ v) → Contains (sought p) w ⊎ (value_at a w ≡ Some e)
          apart (inl same) = inl (subst (Contains (sought p)) (sym same) (opened p a v is).sought_is)
          apart (inr other) = inr (sym (other_place a v w d other) ∙ r)

-- ---- where nothing is open

closed : (p : Problem) (a b : Values) → length a ≡ length p.rel.vars → is_any_open p a ≡ false → IsSought p a b → a ≡ b
closed p a b places none whole = same_values a b long (λ v. by v (value_at b v) refl)
  where
    long : length a ≡ length b
    long = places ∙ sym whole.partial.places

    by : (v : ℕ) (o : Option Datum) → value_at b v ≡ o → value_at a v ≡ value_at b v
    by v None e = nothing (value_at a v) refl
      where
        nothing : (q : Option Datum) → value_at a v ≡ q → value_at a v ≡ value_at b v
        nothing None f = f ∙ sym e
        nothing (Some d) f = absurd (not_some d (sym e ∙ whole.partial.extends v d f))
    by v (Some d) e = there (whole.partial.no_others v d e)
      where
        there : Contains (sought p) v ⊎ (value_at a v ≡ Some d) → value_at a v ≡ value_at b v
        there (inl c) =
            let within : v < length a = subst (λ n. v < n) (sym long) (within_values b v d e) in
            let found = not_open p a v none c within in
            found.1 ∙ sym (whole.partial.extends v found.0 found.1)
        there (inr r) = r ∙ sym e

tested_sought : (p : Problem) (a b : Values) (m : Bool) → fits p a ≡ m → length a ≡ length p.rel.vars → Contains (if m then a ∷ [] else []) b → IsSought p a b
tested_sought p a b true h places (zero, within, is) =
    let both = and_parts (are_joined p.joins a) (meets_side p.side (sought p) p.program p.models p.rel a) h in
    subst (IsSought p a) is (record {
      partial = record { places = places; extends = λ v d at. at; no_others = λ v d at. inr at };
      joined = all_joined_from p.joins a both.0;
      meets = both.1;
    })
tested_sought p a b true h places (suc k, within, is) = absurd (omega (arith, within))
tested_sought p a b false h places (k, within, is) = absurd (omega (arith, within))

sought_tested : (p : Problem) (a b : Values) → length a ≡ length p.rel.vars → is_any_open p a ≡ false → IsSought p a b → Contains (tested p a) b
sought_tested p a b places none whole =
    subst (λ x. Contains (tested p x) b) (sym (closed p a b places none whole))
    (subst (λ m. Contains (if m then b ∷ [] else []) b) (sym fit) (contains_first b []))
  where
    fit : fits p b ≡ true
    fit = and_from (are_joined p.joins b) (meets_side p.side (sought p) p.program p.models p.rel b) (all_joined_to p.joins b whole.joined) whole.meets

pub tested_found : (p : Problem) (a : Values) (olds news : List Values) (x : Bool) → x ≡ is_any_open p a → x ≡ false → length a ≡ length p.rel.vars → news ≡ olds ++ tested p a → IsFound p a olds news
tested_found p a olds news x is none places all b = (
  λ c. by (Contains-append_cases olds (tested p a) b (subst (λ bs. Contains bs b) all c)),
  λ c. subst (λ bs. Contains bs b) (sym all) (back c),
)
  where
    by : Contains olds b ⊎ Contains (tested p a) b → Contains olds b ⊎ IsSought p a b
    by (inl c) = inl c
    by (inr c) = inr (tested_sought p a b (fits p a) refl places c)

    back : Contains olds b ⊎ IsSought p a b → Contains (olds ++ tested p a) b
    back (inl c) = Contains-append_left olds (tested p a) b c
    back (inr whole) = Contains-append_right olds (tested p a) b (sought_tested p a b places (sym is ∙ none) whole)

-- ---- where nothing is looked for

pub barren_found : (p : Problem) (a : Values) (olds : List Values) → IsBarren p a → IsFound p a olds olds
barren_found p a olds none b = (λ c. inl c, by)
  where
    by : Contains olds b ⊎ IsSought p a b → Contains olds b
    by (inl c) = c
    by (inr whole) = absurd (none b whole)

pub stuck_found : (p : Problem) (a : Values) (olds : List Values) (x : Bool) → IsPosed p a → length a ≡ length p.rel.vars → x ≡ is_any_open p a → x ≡ true → IsStuck p a → IsFound p a olds olds
stuck_found p a olds x posed places is some stuck =
    barren_found p a olds (λ b whole. none_stuck p a b a posed whole (places ∙ sym whole.partial.places) (λ v d h. h) whole.partial.extends stuck (sym is ∙ some))

-- ---- the next variable

-- a binding that is looked for gives it one of its candidates
pub branch_value : (p : Problem) (a b : Values) (branch : Branch) → IsBranch p a branch → IsSought p a b → (d : Datum) × Contains branch.candidates d × (value_at b branch.variable ≡ Some d)
branch_value p a b branch is whole =
    let own = (opened p a branch.variable is.opens).sought_is in
    let val = valued p.program p.models p.rel (sought p) b branch.variable (meets_parts p.side (sought p) p.program p.models p.rel b whole.meets).have own in
    (val.value, is.named b val.value whole val.at, val.at)

-- two that agree on the variables that are sought are one
pub one_binding : (p : Problem) (roots a b : Values) → IsSought p roots a → IsSought p roots b → ((v : ℕ) → Contains (sought p) v → value_at a v ≡ value_at b v) → a ≡ b
one_binding p roots a b one other same = same_values a b (one.partial.places ∙ sym other.partial.places) (λ v. by v (value_at a v) (value_at b v) refl refl)
  where
    by : (v : ℕ) (x y : Option Datum) → value_at a v ≡ x → value_at b v ≡ y → value_at a v ≡ value_at b v
    by v None None e f = e ∙ sym f
    by v (Some d) y e f = from (one.partial.no_others v d e)
      where
        from : Contains (sought p) v ⊎ (value_at roots v ≡ Some d) → value_at a v ≡ value_at b v
        from (inl c) = same v c
        from (inr r) = e ∙ sym (other.partial.extends v d r)
    by v None (Some d) e f = from (other.partial.no_others v d f)
      where
        from : Contains (sought p) v ⊎ (value_at roots v ≡ Some d) → value_at a v ≡ value_at b v
        from (inl c) = same v c
        from (inr r) = one.partial.extends v d r ∙ sym f
