-- The images that are found are those of the terms.
use Rattle.std.specs.Prelude.{◌≡◌, ◌<◌, ◌+◌, ◌&&◌, ℕ, zero, suc, Bool, false, cond, List, [], ◌∷◌, ◌++◌, map, length, take, Option, None, Some, All, slice_index_or}
use Rattle.std.specs.List.{filter}
use Rattle.std.specs.Option.{option_map, option_and_then}
use Rattle.std.proofs.Common.{refl, sym, ap, ◌∙◌, arith, get_or}
use Rattle.std.proofs.lemmas.List.{get_or-take, get_or-map, length-take, map_push, map_more}
use Rattle.std.proofs.lemmas.List.Elements.{All-head, All-tail}
use Rattle.std.proofs.lemmas.Option.{same_Some}
use Rattle.mof_metamodel.specs.declared.desc.PropId.{PropId}
use Rattle.object_tables.specs.declared.value.ObjId.{ObjId}
use Rattle.object_tables.specs.Models.{ModelData}
use Rattle.qv_syntax.specs.declared.program.Program.{Program}
use Rattle.qvtr_semantics.specs.Objects.{extent_of}
use Rattle.qvtr_semantics.specs.declared.datum.Datum.{Datum}
use Rattle.qvtr_semantics.specs.Outs.{all_given}
use Rattle.repair_semantics.specs.Claims.{Held}
use Rattle.repair_semantics.specs.Images.{holds, holds_key, first_number, object_with_key, image}
use Rattle.repair_semantics.specs.TargetItems.{key_of}
use Rattle.repair_semantics.specs.declared.term.Term.{Term}
use Rattle.repair_semantics.specs.declared.term.TermValue.TheVariants as values
use Rattle.repair_semantics.proofs.TermLaws.{image_of_value, image_is, image_of_datum, image_of_term}
use Rattle.term_table.specs.declared.numbered.NumberedValue.{NumberedValue}
use Rattle.term_table.specs.declared.numbered.NumberedValue.TheVariants as numbered
use Rattle.term_table.specs.declared.numbered.NumberedTerm.{NumberedTerm}
use Rattle.term_table.specs.TermTables.{keyed, no_term, term_at, value_in, IsBelow}
use Rattle.term_images.specs.KeyReadings.{as_held, asked_value, asked}
use Rattle.term_images.specs.ClassIndexes.{number_of, object_holding}
use Rattle.term_images.specs.FoundImages.{image_numbers, object_value, key_image, image_by}
use Rattle.term_images.proofs.KeyLaws.{and_false}

-- ---- key values of which one is missing

none_passes : (p : ℕ → Bool) (os : List ℕ) → ((o : ℕ) → p o ≡ false) → first_number (filter p os) ≡ None
none_passes p [] never = refl
none_passes p (o ∷ os) never = ap (λ b. first_number (cond b (o ∷ filter p os) (filter p os))) (never o) ∙ none_passes p os never

-- key values as what slots hold
abbrev HeldValues : Type 0
HeldValues = List (Option (Held ℕ))

abbrev held_values : List (Option NumberedValue) → HeldValues
held_values vs = map (option_map as_held) vs

all_there : (vs : List (Option NumberedValue)) (ws : List NumberedValue) → all_given vs ≡ Some ws → held_values vs ≡ asked ws
all_there [] ws e = ap asked (same_Some [] ws e)
all_there (None ∷ vs) ws e = absurd (cc)
all_there (Some v ∷ vs) ws e = by (all_given vs) (all_there vs) e
  where
    by : (o : Option (List NumberedValue)) → ((us : List NumberedValue) → o ≡ Some us → held_values vs ≡ asked us)
        → option_map (λ us. v ∷ us) o ≡ Some ws → held_values (Some v ∷ vs) ≡ asked ws
    by None more h = absurd (cc)
    by (Some us) more h = ap (λ (hs : HeldValues). asked_value v ∷ hs) (more us refl) ∙ ap asked (same_Some (v ∷ us) ws h)

module _ (program : Program) (m : ModelData) where
  -- an object holds nothing that isn't there
  missing : (o : ℕ) (ps : List PropId) (vs : List (Option NumberedValue)) → all_given vs ≡ None → holds_key program m o ps (held_values vs) ≡ false
  missing o [] [] e = absurd (cc)
  missing o [] (v ∷ vs) e = refl
  missing o (p ∷ ps) [] e = refl
  missing o (p ∷ ps) (None ∷ vs) e = refl
  missing o (p ∷ ps) (Some v ∷ vs) e = by (all_given vs) (missing o ps vs) e
    where
      by : (x : Option (List NumberedValue)) → (x ≡ None → holds_key program m o ps (held_values vs) ≡ false) → option_map (λ us. v ∷ us) x ≡ None
          → (holds program m o p.0 (as_held v) && holds_key program m o ps (held_values vs)) ≡ false
      by None rest h =
          ap (λ b. holds program m o p.0 (as_held v) && b) (rest refl) ∙ and_false (holds program m o p.0 (as_held v))
      by (Some us) rest h = absurd (cc)

  held_nowhere : (class : ℕ) (vs : List (Option NumberedValue)) (key : Option (List PropId)) → all_given vs ≡ None
      → None ≡ object_with_key program m class (held_values vs) key
  held_nowhere class vs None e = refl
  held_nowhere class vs (Some ps) e =
      sym (none_passes (λ o. holds_key program m o ps (held_values vs)) (extent_of m class) (λ o. missing o ps vs e))

  -- the object of least number that holds the values
  abbrev least_holding : ℕ → HeldValues → Option ℕ
  least_holding class hs = object_with_key program m class hs (key_of program class)

  given_image : (class : ℕ) (vs : List (Option NumberedValue))
      → option_and_then (object_holding program m class) (all_given vs) ≡ least_holding class (held_values vs)
  given_image class vs = by (all_given vs) refl
    where
      by : (x : Option (List NumberedValue)) → all_given vs ≡ x
          → option_and_then (object_holding program m class) x ≡ least_holding class (held_values vs)
      by None e = held_nowhere class vs (key_of program class) e
      by (Some ws) e = sym (ap (least_holding class) (all_there vs ws e))

  -- ---- terms of a table

  datum_read : (d : Datum) → image_of_value program m (values.Val d) ≡ Some (Held.datum d)
  datum_read d = ap (image_of_value program m) (sym (values.rolls-Val d)) ∙ image_of_datum program m d

  term_read : (t : Term) → image_of_value program m (values.Term t) ≡ option_map (λ n. Held.object n) (image program m t)
  term_read t = ap (image_of_value program m) (sym (values.rolls-Term t)) ∙ image_of_term program m t

  object_read : (x : Option ObjId) → option_map as_held (option_map object_value x) ≡ option_map (λ n. Held.object n) (option_map number_of x)
  object_read None = refl
  object_read (Some o) = refl

  number_at : (found : List (Option ObjId)) (k : ℕ) → option_map number_of (get_or found k None) ≡ get_or (image_numbers found) k None
  number_at [] k = refl
  number_at (x ∷ found) zero = refl
  number_at (x ∷ found) (suc k) = number_at found k

  module _ (terms : List Term) (n : ℕ) (within : n < length terms) (found : List (Option ObjId))
      (known : image_numbers found ≡ map (image program m) (take n terms)) where
    found_at : (k : ℕ) → k < n → option_map number_of (get_or found k None) ≡ image program m (term_at terms k)
    found_at k below =
        let short : k < length (take n terms) = omega (arith, within, below, length-take n terms) in
        number_at found k
        ∙ ap (λ xs. get_or xs k None) known
        ∙ get_or-map (image program m) (take n terms) k no_term None short
        ∙ ap (image program m) (get_or-take n terms k no_term below)

    value_read : (v : NumberedValue) → IsBelow n v → option_map as_held (key_image found v) ≡ image_of_value program m (value_in terms v)
    value_read (numbered.Val d) below = sym (datum_read d)
    value_read (numbered.Term k) below =
        object_read (slice_index_or found k None)
        ∙ ap (λ x. option_map (λ n. Held.object n) x) (found_at k below)
        ∙ sym (term_read (term_at terms k))

    keys_read : (vs : List NumberedValue) → All (IsBelow n) vs
        → held_values (map (key_image found) vs) ≡ map (image_of_value program m) (map (value_in terms) vs)
    keys_read [] below = refl
    keys_read (v ∷ vs) below =
        ap (λ (x : Option (Held ℕ)). x ∷ held_values (map (key_image found) vs)) (value_read v (All-head (IsBelow n) v vs below))
        ∙ ap (λ (xs : HeldValues). image_of_value program m (value_in terms v) ∷ xs) (keys_read vs (All-tail (IsBelow n) v vs below))

    -- the image by those of its key values is that of the term
    pub image_found : (t : NumberedTerm) → All (IsBelow n) t.keys → keyed t.class (map (value_in terms) t.keys) ≡ term_at terms n
        → image_by program m found t ≡ image program m (term_at terms n)
    image_found t below is =
        given_image t.class.0 (map (key_image found) t.keys)
        ∙ ap (least_holding t.class.0) (keys_read t.keys below)
        ∙ sym (image_is program m t.class (map (value_in terms) t.keys))
        ∙ ap (image program m) is

    -- one term more
    pub images_more : (t : NumberedTerm) (one : Option ObjId) (after : List (Option ObjId)) → All (IsBelow n) t.keys
        → keyed t.class (map (value_in terms) t.keys) ≡ term_at terms n → option_map number_of one ≡ image_by program m found t
        → after ≡ found ++ one ∷ [] → image_numbers after ≡ map (image program m) (take (n + 1) terms)
    images_more t one after below is by put =
        ap image_numbers put
        ∙ map_push (option_map number_of) found one
        ∙ ap (λ xs. xs ++ option_map number_of one ∷ []) known
        ∙ ap (λ x. map (image program m) (take n terms) ++ x ∷ []) (by ∙ image_found t below is)
        ∙ sym (map_more (image program m) terms n no_term within)
