-- What the levels of a search owe: a new level owes all that is looked for from its binding on, and one with a candidate fewer what it owed
-- but for the bindings with that candidate.
use Rattle.std.specs.Prelude.{◌≡◌, ◌⊎◌, ◌↔◌, ◌++◌, ℕ, Bool, true, List, [], ◌∷◌, length, reverse, Option, None, Some, set, Contains}
use Rattle.std.proofs.Common.{refl, sym, ap, subst, ◌∙◌, arith, inl, inr}
use Rattle.std.proofs.lemmas.List.{set-set, set-get_or, reverse-append}
use Rattle.std.proofs.lemmas.List.Elements.{Contains-append_left, Contains-append_right, Contains-push_cases}
use Rattle.mof_metamodel.proofs.Facts.{contains_first}
use Rattle.qvtr_semantics.specs.declared.datum.Datum.{Datum}
use Rattle.qvtr_semantics.specs.Templates.{Values, value_at}
use Rattle.template_match.specs.declared.branch.Branch.{Branch}
use Rattle.template_match.specs.declared.prepared.Prepared.{Prepared}
use Rattle.template_match.specs.Problems.{Problem}
use Rattle.template_match.specs.Search.{is_open, is_any_open, with_value}
use Rattle.template_match.specs.Posed.{IsPosed, IsSought}
use Rattle.template_match.specs.Prepared.{problem_in, IsPrepared}
use Rattle.template_match.specs.Branches.{IsBranch, IsNext, IsFound}
use Rattle.template_match.specs.Levels.{without_value, IsLevel, AreLevels, IsLeft, IsOwed, IsFoundOrOwed, IsBegun, AreMore, IsStep}
use Rattle.template_match.proofs.SearchLaws.{opened, prepared_with, sought_with, sought_back, stuck_found, branch_value}

-- what stands behind a list comes first in the other order
pub last_first : {X : Type 0} (xs ys : List X) (x : X) → ys ≡ xs ++ x ∷ [] → reverse ys ≡ x ∷ reverse xs
last_first xs ys x is = ap reverse is ∙ reverse-append xs (x ∷ [])

-- ---- a value is given and taken away

without_none : (a : Values) (v : ℕ) → value_at a v ≡ None → without_value a v ≡ a
without_none a v none = ap (set a v) (sym none) ∙ set-get_or a v None

-- ---- a new level

-- the next variable, if there is one
pub begun_next : (p : Problem) (a : Values) (olds : List Values) (x : Bool) → IsPosed p a → length a ≡ length p.rel.vars → x ≡ is_any_open p a → x ≡ true
    → (level : Option Branch) → IsNext p a level → IsBegun p a olds olds level
begun_next p a olds x posed places is some None stuck = stuck_found p a olds x posed places is some stuck
begun_next p a olds x posed places is some (Some level) branch = (refl, branch)

module _ (s : Prepared) (a : Values) (before : List Branch) (level : Branch) (is : IsBranch (problem_in s) a level) where
  same_here : without_value a level.variable ≡ a
  same_here = without_none a level.variable (opened (problem_in s) a level.variable is.opens).none

  levels_begun : IsPrepared s a → AreLevels s a before → AreLevels s a (level ∷ before)
  levels_begun prepared are = subst (λ x. IsLevel s x level × AreLevels s x before) (sym same_here) (record { prepared = prepared; opens = is.opens }, are)

  module _ (b : Values) where
    owed_from : IsOwed (problem_in s) a (level ∷ before) b → IsOwed (problem_in s) a before b ⊎ IsSought (problem_in s) a b
    owed_from owed = by (subst (λ x. IsLeft (problem_in s) x level b ⊎ IsOwed (problem_in s) x before b) same_here owed)
      where
        by : IsLeft (problem_in s) a level b ⊎ IsOwed (problem_in s) a before b → IsOwed (problem_in s) a before b ⊎ IsSought (problem_in s) a b
        by (inl left) = inr left.0
        by (inr owed) = inl owed

    owed_to : IsOwed (problem_in s) a before b ⊎ IsSought (problem_in s) a b → IsOwed (problem_in s) a (level ∷ before) b
    owed_to h = subst (λ x. IsLeft (problem_in s) x level b ⊎ IsOwed (problem_in s) x before b) (sym same_here) (by h)
      where
        by : IsOwed (problem_in s) a before b ⊎ IsSought (problem_in s) a b → IsLeft (problem_in s) a level b ⊎ IsOwed (problem_in s) a before b
        by (inl owed) = inr owed
        by (inr whole) = inl (whole, branch_value (problem_in s) a b level is whole)

    begun_from : (olds : List Values) → IsFoundOrOwed (problem_in s) a (level ∷ before) olds b → IsFoundOrOwed (problem_in s) a before olds b ⊎ IsSought (problem_in s) a b
    begun_from olds (inl c) = inl (inl c)
    begun_from olds (inr owed) = by (owed_from owed)
      where
        by : IsOwed (problem_in s) a before b ⊎ IsSought (problem_in s) a b → IsFoundOrOwed (problem_in s) a before olds b ⊎ IsSought (problem_in s) a b
        by (inl x) = inl (inr x)
        by (inr whole) = inr whole

    begun_to : (olds : List Values) → IsFoundOrOwed (problem_in s) a before olds b ⊎ IsSought (problem_in s) a b → IsFoundOrOwed (problem_in s) a (level ∷ before) olds b
    begun_to olds (inl (inl c)) = inl c
    begun_to olds (inl (inr owed)) = inr (owed_to (inl owed))
    begun_to olds (inr whole) = inr (owed_to (inr whole))

  more_begun : IsPrepared s a → AreLevels s a before → (olds news : List Values) → news ≡ olds → AreMore s a before olds (level ∷ before) news
  more_begun prepared are olds news same =
      subst (λ x. AreMore s a before olds (level ∷ before) x) (sym same)
      (record { levels = levels_begun prepared are; all = λ b. (begun_from b olds, begun_to b olds) })

-- a level is put behind others
pub more_pushed : (s : Prepared) (a : Values) (olds news : List Values) (before after : List Branch) (level : Branch) → IsPrepared s a → AreLevels s a (reverse before)
    → (news ≡ olds) × IsBranch (problem_in s) a level → after ≡ before ++ level ∷ [] → AreMore s a (reverse before) olds (reverse after) news
more_pushed s a olds news before after level prepared are begun is =
    subst (λ x. AreMore s a (reverse before) olds x news) (sym (last_first before after level is))
    (more_begun s a (reverse before) level begun.1 prepared are olds news begun.0)

-- no level is needed
pub more_found : (s : Prepared) (a : Values) (olds news : List Values) (levels : List Branch) → AreLevels s a levels → IsFound (problem_in s) a olds news → AreMore s a levels olds levels news
more_found s a olds news levels are found = record { levels = are; all = λ b. (forth b, back b) }
  where
    forth : (b : Values) → IsFoundOrOwed (problem_in s) a levels news b → IsFoundOrOwed (problem_in s) a levels olds b ⊎ IsSought (problem_in s) a b
    forth b (inl c) = by ((found b).0 c)
      where
        by : Contains olds b ⊎ IsSought (problem_in s) a b → IsFoundOrOwed (problem_in s) a levels olds b ⊎ IsSought (problem_in s) a b
        by (inl x) = inl (inl x)
        by (inr whole) = inr whole
    forth b (inr owed) = inl (inr owed)

    back : (b : Values) → IsFoundOrOwed (problem_in s) a levels olds b ⊎ IsSought (problem_in s) a b → IsFoundOrOwed (problem_in s) a levels news b
    back b (inl (inl c)) = inl ((found b).1 (inl c))
    back b (inl (inr owed)) = inr owed
    back b (inr whole) = inl ((found b).1 (inr whole))

-- ---- the next candidate

module _ (s : Prepared) (a c : Values) (before : List Branch) (last level : Branch) (d : Datum) (same : level.variable ≡ last.variable) (one : last.candidates ≡ level.candidates ++ d ∷ [])
    (next : c ≡ with_value a last.variable d) (are : AreLevels s a (last ∷ before)) where
  abbrev begins : Values
  begins = without_value a last.variable

  from_there : c ≡ with_value begins last.variable d
  from_there = next ∙ sym (set-set a last.variable None (Some d))

  back_there : without_value c level.variable ≡ begins
  back_there = ap (without_value c) same ∙ ap (λ x. without_value x last.variable) next ∙ set-set a last.variable (Some d) None

  pub candidate_prepared : IsPrepared s c
  candidate_prepared = prepared_with s begins last.variable d c are.0.prepared are.0.opens from_there

  pub candidate_levels : AreLevels s c (level ∷ before)
  candidate_levels =
      subst (λ x. IsLevel s x level × AreLevels s x before) (sym back_there)
      (record { prepared = are.0.prepared; opens = ap (is_open (problem_in s) begins) same ∙ are.0.opens }, are.1)

  module _ (b : Values) where
    fewer : IsLeft (problem_in s) begins level b → IsLeft (problem_in s) begins last b
    fewer (whole, (e, within, at)) =
        (whole, (e, subst (λ ds. Contains ds e) (sym one) (Contains-append_left level.candidates (d ∷ []) e within), ap (value_at b) (sym same) ∙ at))

    tried : IsSought (problem_in s) c b → IsLeft (problem_in s) begins last b
    tried whole =
        let own = sought_back (problem_in s) begins b last.variable d are.0.opens (subst (λ x. IsSought (problem_in s) x b) from_there whole) in
        (own.0, (d, subst (λ ds. Contains ds d) (sym one) (Contains-append_right level.candidates (d ∷ []) d (contains_first d [])), own.1))

    left_or_tried : IsLeft (problem_in s) begins last b → IsLeft (problem_in s) begins level b ⊎ IsSought (problem_in s) c b
    left_or_tried (whole, (e, within, at)) = by (Contains-push_cases level.candidates d e (subst (λ ds. Contains ds e) one within))
      where
        by : Contains level.candidates e ⊎ (d ≡ e) → IsLeft (problem_in s) begins level b ⊎ IsSought (problem_in s) c b
        by (inl x) = inl (whole, (e, x, ap (value_at b) same ∙ at))
        by (inr x) =
            inr (subst (λ y. IsSought (problem_in s) y b) (sym from_there)
            (sought_with (problem_in s) begins b last.variable d are.0.opens whole (at ∙ ap (λ y. Some y) (sym x))))

    owed_there : IsOwed (problem_in s) c (level ∷ before) b → IsOwed (problem_in s) a (last ∷ before) b
    owed_there owed = by (subst (λ x. IsLeft (problem_in s) x level b ⊎ IsOwed (problem_in s) x before b) back_there owed)
      where
        by : IsLeft (problem_in s) begins level b ⊎ IsOwed (problem_in s) begins before b → IsOwed (problem_in s) a (last ∷ before) b
        by (inl x) = inl (fewer x)
        by (inr x) = inr x

    put_back : IsLeft (problem_in s) begins level b ⊎ IsOwed (problem_in s) begins before b → IsOwed (problem_in s) c (level ∷ before) b
    put_back h = subst (λ x. IsLeft (problem_in s) x level b ⊎ IsOwed (problem_in s) x before b) (sym back_there) h

    module _ (olds : List Values) where
      candidate_from : IsFoundOrOwed (problem_in s) c (level ∷ before) olds b ⊎ IsSought (problem_in s) c b → IsFoundOrOwed (problem_in s) a (last ∷ before) olds b
      candidate_from (inl (inl x)) = inl x
      candidate_from (inl (inr owed)) = inr (owed_there owed)
      candidate_from (inr whole) = inr (inl (tried whole))

      candidate_to : IsFoundOrOwed (problem_in s) a (last ∷ before) olds b → IsFoundOrOwed (problem_in s) c (level ∷ before) olds b ⊎ IsSought (problem_in s) c b
      candidate_to (inl x) = inl (inl x)
      candidate_to (inr (inl left)) = by (left_or_tried left)
        where
          by : IsLeft (problem_in s) begins level b ⊎ IsSought (problem_in s) c b → IsFoundOrOwed (problem_in s) c (level ∷ before) olds b ⊎ IsSought (problem_in s) c b
          by (inl x) = inl (inr (put_back (inl x)))
          by (inr whole) = inr whole
      candidate_to (inr (inr owed)) = inl (inr (put_back (inr owed)))

  pub candidate_step : (olds news : List Values) (after : List Branch) → AreMore s c (level ∷ before) olds after news → IsStep s a (last ∷ before) olds c after news
  candidate_step olds news after more = record {
    levels = more.levels;
    same = λ b. (λ x. candidate_from b olds ((more.all b).0 x), λ x. (more.all b).1 (candidate_to b olds x));
  }

-- ---- none is left

pub done_step : (s : Prepared) (a c : Values) (before : List Branch) (last : Branch) (olds : List Values) → last.candidates ≡ [] → c ≡ without_value a last.variable → AreLevels s a (last ∷ before)
    → IsStep s a (last ∷ before) olds c before olds
done_step s a c before last olds none is are =
    subst (λ x. IsStep s a (last ∷ before) olds x before olds) (sym is) (record { levels = are.1; same = λ b. (forth b, back b) })
  where
    forth : (b : Values) → IsFoundOrOwed (problem_in s) (without_value a last.variable) before olds b → IsFoundOrOwed (problem_in s) a (last ∷ before) olds b
    forth b (inl x) = inl x
    forth b (inr owed) = inr (inr owed)

    back : (b : Values) → IsFoundOrOwed (problem_in s) a (last ∷ before) olds b → IsFoundOrOwed (problem_in s) (without_value a last.variable) before olds b
    back b (inl x) = inl x
    back b (inr (inl left)) = absurd (nothing (subst (λ ds. Contains ds left.1.0) none left.1.1))
      where
        nothing : Contains [] left.1.0 → ⊥
        nothing (k, within, e) = omega (arith, within)
    back b (inr (inr owed)) = inr owed

-- ---- all steps

-- a step behind others
pub step_follows : (s : Prepared) (roots a c : Values) (first before after : List Branch) (olds mids news : List Values)
    → ((b : Values) → IsFoundOrOwed (problem_in s) a before mids b ↔ IsFoundOrOwed (problem_in s) roots first olds b) → IsStep s a before mids c after news
    → (b : Values) → IsFoundOrOwed (problem_in s) c after news b ↔ IsFoundOrOwed (problem_in s) roots first olds b
step_follows s roots a c first before after olds mids news same step b = (λ x. (same b).0 ((step.same b).0 x), λ x. (step.same b).1 ((same b).1 x))

module _ (p : Problem) (a : Values) (levels : List Branch) (news : List Values) (none : levels ≡ []) (b : Values) where
  found_from : IsFoundOrOwed p a (reverse levels) news b → Contains news b
  found_from h = by (subst (λ ls. IsFoundOrOwed p a (reverse ls) news b) none h)
    where
      by : IsFoundOrOwed p a [] news b → Contains news b
      by (inl c) = c
      by (inr owed) = absurd owed

-- where no level is left, all that is owed is found
pub steps_done : (p : Problem) (roots a : Values) (first levels : List Branch) (olds news : List Values) → levels ≡ []
    → ((b : Values) → IsFoundOrOwed p a (reverse levels) news b ↔ IsFoundOrOwed p roots first olds b)
    → (b : Values) → Contains news b ↔ IsFoundOrOwed p roots first olds b
steps_done p roots a first levels olds news none same b = (λ c. (same b).0 (inl c), λ x. found_from p a levels news none b ((same b).1 x))

-- what begins with no level, and is gone through to its end, finds all that is looked for
pub search_done : (s : Prepared) (a roots : Values) (none levels : List Branch) (olds mids news : List Values) → none ≡ [] → roots ≡ a
    → AreMore s a (reverse none) olds (reverse levels) mids → ((b : Values) → Contains news b ↔ IsFoundOrOwed (problem_in s) roots (reverse levels) mids b)
    → IsFound (problem_in s) a olds news
search_done s a roots none levels olds mids news no_level same more all b = (
  λ c. forth ((more.all b).0 (subst (λ x. IsFoundOrOwed (problem_in s) x (reverse levels) mids b) same ((all b).0 c))),
  λ h. (all b).1 (subst (λ x. IsFoundOrOwed (problem_in s) x (reverse levels) mids b) (sym same) ((more.all b).1 (back h))),
)
  where
    forth : IsFoundOrOwed (problem_in s) a (reverse none) olds b ⊎ IsSought (problem_in s) a b → Contains olds b ⊎ IsSought (problem_in s) a b
    forth (inl x) = inl (found_from (problem_in s) a none olds no_level b x)
    forth (inr whole) = inr whole

    back : Contains olds b ⊎ IsSought (problem_in s) a b → IsFoundOrOwed (problem_in s) a (reverse none) olds b ⊎ IsSought (problem_in s) a b
    back (inl c) = inl (inl c)
    back (inr whole) = inr whole
