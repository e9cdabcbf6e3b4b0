-- What lists of elements keep: numbers of open elements are in range, and so are classes.
use Rattle.std.proofs.Common.{◌≡◌, ℕ, zero, suc, ◌+◌, ◌-◌, ◌^◌, ◌<◌, ◌≤◌, Bool, true, false, List, [], ◌∷◌, ◌++◌, length, refl, sym, arith, subst, None, Some}
use Rattle.std.specs.Prelude.{All, IfSome, OnOk, Option, Result, Ok, Err, is_some, slice_get, if◌then◌else◌}
use Rattle.std.specs.Option.{option_and_then}
use Rattle.std.proofs.lemmas.List.{length-append}
use Rattle.std.proofs.lemmas.Option.{slice_get_within, get_or_from_slice_get}
use Rattle.std.proofs.lemmas.List.Elements.{All-nil, All-push, All-weaker, All-take, All-cons, All-head, All-tail, All-get_or}
use Rattle.mof_metamodel.specs.declared.desc.MetaDesc.{MetaDesc}
use Rattle.object_tables.specs.Lists.{update_at}
use Rattle.object_tables.proofs.ListLemmas.{length-update_at}
use Rattle.xmi_profile.specs.declared.element.Element.{Element}
use Rattle.model_assembly.specs.Attributes.{Attrs}
use Rattle.model_assembly.specs.declared.role.Role.{Role}
use Rattle.model_assembly.specs.Elements.{object_of}
use Rattle.xmi_profile.specs.Listing.{Listing, IsSound, AreKnown, nothing, begun, with_run, with_element, said, said_in, closed, innermost, parent_of}
use Rattle.xmi_profile.specs.Scanning.{IsWithin}

get_all : {X : Type 0} (P : X → Type 0) (xs : List X) (k : ℕ) (x : X) → All P xs → slice_get xs k ≡ Some x → P x
get_all P xs k x a e = subst P (get_or_from_slice_get xs k x x e) (All-get_or P xs k x (slice_get_within xs k x e) a)

abbrev IsElement : Option Element → Element → Type 0
IsElement None e = ⊥
IsElement (Some d) e = d ≡ e

abbrev of_element : MetaDesc → Element → Type 0
of_element meta e = IsWithin meta e.role

abbrev at_most : ℕ → Element → Type 0
at_most place e = e.place ≤ place

pub sound_nothing : (meta : MetaDesc) → IsSound meta nothing
sound_nothing meta = record { ancestors = All-nil (λ (n : ℕ). n < 0); within = All-nil (of_element meta); number = omega arith; places = All-nil (at_most 0) }

pub sound_opened : (meta : MetaDesc) (l : Listing) (role : Role) (name : List ℕ) (attrs : Attrs) → IsSound meta l → IsWithin meta role → IsSound meta (with_element l role name attrs)
sound_opened meta l role name attrs s w =
    let e : Element = begun l.place role name attrs in
    let len : length (l.elements ++ e ∷ []) ≡ length l.elements + 1 = length-append l.elements (e ∷ []) in
    record {
      ancestors =
          All-push (λ (n : ℕ). n < length (l.elements ++ e ∷ [])) l.ancestors (length l.elements)
          (All-weaker (λ (n : ℕ). n < length l.elements) (λ (n : ℕ). n < length (l.elements ++ e ∷ [])) (λ n h. omega (arith, h, len)) l.ancestors s.ancestors)
          (omega (arith, len));
      within = All-push (of_element meta) l.elements e s.within w;
      number = by (is_some (object_of role)) (omega (arith, s.number, len)) (omega (arith, s.number, len));
      places =
          All-push (at_most (suc (l.place + length attrs))) l.elements e
          (All-weaker (at_most l.place) (at_most (suc (l.place + length attrs))) (λ d h. omega (arith, h)) l.elements s.places) (omega arith);
    }
  where
    by : (b : Bool) → suc l.number ≤ length (l.elements ++ begun l.place role name attrs ∷ []) → l.number ≤ length (l.elements ++ begun l.place role name attrs ∷ [])
        → (if b then suc l.number else l.number) ≤ length (l.elements ++ begun l.place role name attrs ∷ [])
    by true h k = h
    by false h k = k

within_updated : (meta : MetaDesc) (es : List Element) (n place : ℕ) (characters : List ℕ) → All (of_element meta) es → All (of_element meta) (update_at es n (with_run place characters))
within_updated meta [] n place characters a = a
within_updated meta (e ∷ es) zero place characters a =
    All-cons (of_element meta) (with_run place characters e) es (All-head (of_element meta) e es a) (All-tail (of_element meta) e es a)
within_updated meta (e ∷ es) (suc n) place characters a =
    All-cons (of_element meta) e (update_at es n (with_run place characters)) (All-head (of_element meta) e es a)
    (within_updated meta es n place characters (All-tail (of_element meta) e es a))

places_updated : (es : List Element) (n place most : ℕ) (characters : List ℕ) → All (at_most most) es → All (at_most most) (update_at es n (with_run place characters))
places_updated [] n place most characters a = a
places_updated (e ∷ es) zero place most characters a =
    All-cons (at_most most) (with_run place characters e) es (All-head (at_most most) e es a) (All-tail (at_most most) e es a)
places_updated (e ∷ es) (suc n) place most characters a =
    All-cons (at_most most) e (update_at es n (with_run place characters)) (All-head (at_most most) e es a)
    (places_updated es n place most characters (All-tail (at_most most) e es a))

places_said : (es : List Element) (place most : ℕ) (characters : List ℕ) (o : Option ℕ) → All (at_most most) es → All (at_most most) (said_in es place characters o)
places_said es place most characters None a = a
places_said es place most characters (Some n) a = places_updated es n place most characters a

within_said : (meta : MetaDesc) (es : List Element) (place : ℕ) (characters : List ℕ) (o : Option ℕ) → All (of_element meta) es → All (of_element meta) (said_in es place characters o)
within_said meta es place characters None a = a
within_said meta es place characters (Some n) a = within_updated meta es n place characters a

length_said : (es : List Element) (place : ℕ) (characters : List ℕ) (o : Option ℕ) → length (said_in es place characters o) ≡ length es
length_said es place characters None = refl
length_said es place characters (Some n) = length-update_at es n (with_run place characters)

pub sound_said : (meta : MetaDesc) (l : Listing) (characters : List ℕ) → IsSound meta l → IsSound meta (said l characters)
sound_said meta l characters s =
    let es : List Element = said_in l.elements l.place characters (innermost l.ancestors) in
    let len : length es ≡ length l.elements = length_said l.elements l.place characters (innermost l.ancestors) in
    record {
      ancestors = All-weaker (λ (n : ℕ). n < length l.elements) (λ (n : ℕ). n < length es) (λ n h. omega (arith, h, len)) l.ancestors s.ancestors;
      within = within_said meta l.elements l.place characters (innermost l.ancestors) s.within;
      number = omega (arith, s.number, len);
      places =
          places_said l.elements l.place (suc l.place) characters (innermost l.ancestors)
          (All-weaker (at_most l.place) (at_most (suc l.place)) (λ d h. omega (arith, h)) l.elements s.places);
    }

pub sound_closed : (meta : MetaDesc) (l : Listing) → IsSound meta l → IsSound meta (closed l)
sound_closed meta l s = record {
  ancestors = All-take (λ (n : ℕ). n < length l.elements) (length l.ancestors - 1) l.ancestors s.ancestors;
  within = s.within;
  number = s.number;
  places = All-weaker (at_most l.place) (at_most (suc l.place)) (λ d h. omega (arith, h)) l.elements s.places;
}

-- elements of a list whose last place has room are known
pub sound_known : (meta : MetaDesc) (l : Listing) → IsSound meta l → l.place + 2 ^ 64 < 2 ^ 128 → AreKnown meta l.elements
sound_known meta l s r = record {
  within = s.within;
  room = All-weaker (at_most l.place) (λ (e : Element). e.place + 2 ^ 64 < 2 ^ 128) (λ d h. omega (arith, h, r)) l.elements s.places;
}

-- what is found in range
pub innermost_within : (k : ℕ) (xs : List ℕ) → All (λ n. n < k) xs → IfSome (innermost xs) (λ n. n < k)
innermost_within k xs a = by (slice_get xs (length xs - 1)) (λ x e. get_all (λ (n : ℕ). n < k) xs (length xs - 1) x a e)
  where
    by : (o : Option ℕ) → ((x : ℕ) → o ≡ Some x → x < k) → IfSome o (λ n. n < k)
    by None h = tt
    by (Some x) h = h x refl

pub parent_within : (meta : MetaDesc) (l : Listing) (e : Element) → IsSound meta l → parent_of l ≡ Some e → IsWithin meta e.role
parent_within meta l e s p = by (innermost l.ancestors) p
  where
    by : (o : Option ℕ) → option_and_then (slice_get l.elements) o ≡ Some e → IsWithin meta e.role
    by None h = absurd (subst (λ (o : Option Element). IsElement o e) (sym h) refl)
    by (Some n) h = get_all (of_element meta) l.elements n e s.within h

pub sound_if_said : {T E : Type 0} (meta : MetaDesc) (l k : Listing) (characters : List ℕ) (r : Result T E) → IsSound meta l
    → OnOk r (k ≡ said l characters) → OnOk r (IsSound meta k)
sound_if_said meta l k characters (Ok x) s e = subst (IsSound meta) (sym e) (sound_said meta l characters s)
sound_if_said meta l k characters (Err x) s e = tt
