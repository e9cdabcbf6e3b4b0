-- The target as it was is a reading by images, where none of its objects is unneeded.
use Rattle.std.specs.Prelude.{◌≡◌, ℕ, zero, suc, Bool, true, false, ◌&&◌, not, ◌==◌, List, [], ◌∷◌, Option, None, Some, Contains}
use Rattle.std.specs.List.{list_any, filter_map, cons_option}
use Rattle.std.proofs.Common.{refl, ap, sym, ◌∙◌, subst, arith, true≢false}
use Rattle.std.proofs.lemmas.Bool.Decides.{nat_tests}
use Rattle.std.proofs.lemmas.List.Folds.{list_any_at}
use Rattle.object_tables.specs.Models.{ModelData}
use Rattle.object_tables.proofs.ListLemmas.{map-same}
use Rattle.qv_syntax.specs.declared.program.Program.{Program}
use Rattle.qvtr_semantics.specs.Objects.{is_number_among, conforms_at}
use Rattle.template_match.proofs.ListLaws.{contains_later, any_from}
use Rattle.mof_metamodel.proofs.Facts.{contains_first}
use Rattle.repair_semantics.specs.declared.term.Term.{Term, out-Term, roll-out-Term}
use Rattle.repair_semantics.specs.declared.term.TermValue.{TermValue, out-TermValue, roll-TermValue, roll-out-TermValue}
use Rattle.repair_semantics.specs.declared.term.TermValue.TheOpen as of
use Rattle.repair_semantics.specs.Terms.{term_in}
use Rattle.repair_semantics.specs.Conflicts.{held_in}
use Rattle.repair_semantics.specs.Images.{holds_key, image}
use Rattle.repair_semantics.specs.Deletions.{managed_classes, images_of, is_unneeded}
use Rattle.repair_semantics.specs.Candidates.{held_by_number}
use Rattle.repair_semantics.proofs.TermLaws.{image_of_value, image_of_datum, image_of_term}
use Rattle.reading_laws.specs.Readings.{held_as, HoldsKeyOf, IsReading}
use Rattle.repair_laws.proofs.ImageLaws.{term_found}

-- ---- lists

pub from_filter_map : {X Y : Type 0} (f : X → Option Y) (xs : List X) (y : Y) → Contains (filter_map f xs) y → (x : X) × Contains xs x × (f x ≡ Some y)
from_filter_map f [] y (k, within, is) = absurd (omega (arith, within))
from_filter_map {X} {Y} f (x ∷ xs) y c = by (f x) refl c (from_filter_map f xs y)
  where
    by : (o : Option Y) → f x ≡ o → Contains (cons_option o (filter_map f xs)) y → (Contains (filter_map f xs) y → (z : X) × Contains xs z × (f z ≡ Some y))
        → (z : X) × Contains (x ∷ xs) z × (f z ≡ Some y)
    by None is d more = let found = more d in (found.0, contains_later found.0 x xs found.1, found.2)
    by (Some w) is (zero, within, same) more = (x, contains_first x xs, is ∙ ap (λ z. Some z) same)
    by (Some w) is (suc k, within, same) more = let found = more (k, omega (arith, within), same) in (found.0, contains_later found.0 x xs found.1, found.2)

needed_by : (a b : Bool) → (a && not b) ≡ false → a ≡ true → b ≡ true
needed_by true true e h = refl
needed_by true false e h = absurd (true≢false e)
needed_by false b e h = absurd (true≢false (sym h))

module _ (program : Program) (m : ModelData) where
  -- ---- key values by their images

  pub value_image_is : (x : TermValue) → image_of_value program m x ≡ held_as (image program m) x
  value_image_is x = by (out-TermValue x) refl
    where
      by : (y : of.TermValue-F TermValue Term) → out-TermValue x ≡ y → image_of_value program m x ≡ held_by_number (image program m) (held_in y)
      by (of.Val d) is = ap (image_of_value program m) (sym (roll-out-TermValue x) ∙ ap roll-TermValue is) ∙ image_of_datum program m d
      by (of.Term t) is = ap (image_of_value program m) (sym (roll-out-TermValue x) ∙ ap roll-TermValue is) ∙ image_of_term program m t

  -- an image is an object of its term's class, and holds the term's key values
  pub image_holds_key : (t : Term) (n : ℕ) → image program m t ≡ Some n → HoldsKeyOf program m (image program m) t n
  image_holds_key t n is =
      let found = term_found program m (out-Term t).class (out-Term t).keys n (ap (image program m) (roll-out-Term t) ∙ is) in record {
        props = found.props;
        key = found.key;
        conforms = found.conforms;
        holds = ap (holds_key program m n found.props) (sym (map-same (image_of_value program m) (held_as (image program m)) (out-Term t).keys value_image_is)) ∙ found.holds;
      }

  module _ (terms : List Term) where
    -- an object of a managed class is an image, where none is unneeded
    image_of_managed : ((o : ℕ) → is_unneeded m (managed_classes program) (images_of program m terms) o ≡ false) → (class n : ℕ) → Contains (managed_classes program) class
        → conforms_at m class n ≡ true → (t : Term) × Contains terms t × (image program m t ≡ Some n)
    image_of_managed needed class n (k, within, is) conforms =
        let managed : list_any (λ c. conforms_at m c n) (managed_classes program) ≡ true =
        list_any_at (λ c. conforms_at m c n) (managed_classes program) k class within (ap (λ c. conforms_at m c n) is ∙ conforms) in
        let among : is_number_among n (images_of program m terms) ≡ true =
        needed_by (list_any (λ c. conforms_at m c n) (managed_classes program)) (is_number_among n (images_of program m terms)) (needed n) managed in
        let found = any_from (λ k. k == n) (images_of program m terms) among in
        let same : found.0 ≡ n = number found.0 n found.2 in
        from_filter_map (image program m) terms n (subst (λ o. Contains (images_of program m terms) o) same found.1)
      where
        number : (a b : ℕ) → (a == b) ≡ true → a ≡ b
        number a b h = grind (arith, nat_tests)

    pub images_read : ((o : ℕ) → is_unneeded m (managed_classes program) (images_of program m terms) o ≡ false)
        → ((t u : Term) (n : ℕ) → Contains terms t → Contains terms u → image program m t ≡ Some n → image program m u ≡ Some n → t ≡ u)
        → ((t : Term) (x : TermValue) (u : Term) → Contains terms t → Contains (out-Term t).keys x → term_in x ≡ Some u → Contains terms u)
        → IsReading program m terms (image program m)
    images_read needed apart within = record {
      holds = λ t n has is. image_holds_key t n is;
      apart = apart;
      within = within;
      all = image_of_managed needed;
    }
