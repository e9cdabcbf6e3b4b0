-- The first name that stands before it in a list is one that stands twice, and where there is none, none does.
use Rattle.std.proofs.Common.{◌≡◌, ℕ, ◌+◌, ◌<◌, ◌≤◌, List, [], ◌∷◌, ◌++◌, Bool, true, false, cond, refl, sym, ◌∙◌, ap, subst, length, get_or, take, drop, append_assoc, append-nil, arith, ⊎_elim, length-append}
use Rattle.std.specs.Prelude.{Some, None, slice_get}
use Rattle.std.specs.Set.{is_member}
use Rattle.std.proofs.lemmas.Bool.{cases_order}
use Rattle.std.proofs.lemmas.List.{drop_more, take_more}
use Rattle.std.proofs.lemmas.Option.{slice_get_within, slice_get-get_or, get_or_from_slice_get, same_Some, none-some}
use Rattle.std.proofs.lemmas.List.{get_or_append_left}
use Rattle.mof_metamodel.specs.Characters.{same_name}
use Rattle.mof_metamodel.specs.MetaFaults.{first_repeat}
use Rattle.script_scopes.specs.Declarations.{IsRepeated}
use Rattle.script_scopes.proofs.NameLemmas.{has_name, lacks_name}
use Rattle.script_scopes.proofs.OnceLemmas.{get_at}

-- ---- one more name

repeat_step : (names : List (List ℕ)) (i : ℕ) (name : List ℕ) → i < length names → name ≡ get_or names i name
    → first_repeat (take i names) (drop i names) ≡ cond (is_member same_name (take i names) name) (Some name) (first_repeat (take (i + 1) names) (drop (i + 1) names))
repeat_step names i name l r =
    ap (first_repeat (take i names)) (drop_more names i name l ∙ ap (λ y. y ∷ drop (i + 1) names) (sym r))
    ∙ ap (λ ms. cond (is_member same_name (take i names) name) (Some name) (first_repeat ms (drop (i + 1) names))) (sym (take_more names i name l ∙ ap (λ y. take i names ++ y ∷ []) (sym r)))

module _ (names : List (List ℕ)) (i : ℕ) (name : List ℕ) (l : i < length names) (r : name ≡ get_or names i name) where
  pub repeat_here : first_repeat (take i names) (drop i names) ≡ first_repeat [] names → is_member same_name (take i names) name ≡ true → Some name ≡ first_repeat [] names
  repeat_here h e = sym (repeat_step names i name l r ∙ ap (λ b. cond b (Some name) (first_repeat (take (i + 1) names) (drop (i + 1) names))) e) ∙ h

  pub repeat_past : first_repeat (take i names) (drop i names) ≡ first_repeat [] names → is_member same_name (take i names) name ≡ false
      → first_repeat (take (i + 1) names) (drop (i + 1) names) ≡ first_repeat [] names
  repeat_past h e = sym (repeat_step names i name l r ∙ ap (λ b. cond b (Some name) (first_repeat (take (i + 1) names) (drop (i + 1) names))) e) ∙ h

-- ---- what the first repeat says

pub at_left : (xs ys : List (List ℕ)) (k : ℕ) (x : List ℕ) → k < length xs → get_or xs k x ≡ x → slice_get (xs ++ ys) k ≡ Some x
at_left xs ys k x l e = slice_get-get_or (xs ++ ys) k x (omega (arith, length-append xs ys)) ∙ ap Some (get_or_append_left xs ys x k l ∙ e)

repeated_behind : (met names : List (List ℕ)) (name : List ℕ) → first_repeat met names ≡ Some name → IsRepeated (met ++ names) name
repeated_behind met [] name h = absurd (none-some name h)
repeated_behind met (x ∷ names) name h = by (λ g. repeated_behind (met ++ x ∷ []) names name g) (is_member same_name met x) refl h
  where
    found : is_member same_name met x ≡ true → IsRepeated (met ++ (x ∷ names)) x
    found e = let (k, l, at) = has_name met x e in record {
      first = k;
      second = length met;
      order = l;
      one = at_left met (x ∷ names) k x l at;
      other = get_at met x names;
    }

    by : (first_repeat (met ++ x ∷ []) names ≡ Some name → IsRepeated ((met ++ x ∷ []) ++ names) name) → (b : Bool) → is_member same_name met x ≡ b
        → cond b (Some x) (first_repeat (met ++ x ∷ []) names) ≡ Some name → IsRepeated (met ++ (x ∷ names)) name
    by later true e g = subst (IsRepeated (met ++ (x ∷ names))) (same_Some x name g) (found e)
    by later false e g = subst (λ (ns : List (List ℕ)). IsRepeated ns name) (append_assoc met (x ∷ []) names) (later g)

pub is_repeated : (names : List (List ℕ)) (name : List ℕ) → first_repeat [] names ≡ Some name → IsRepeated names name
is_repeated names name h = repeated_behind [] names name h

-- no name from a place on stands before it
none_behind : (met names : List (List ℕ)) → first_repeat met names ≡ None → (i j : ℕ) (name : List ℕ) → i < j → length met ≤ j
    → slice_get (met ++ names) i ≡ Some name → slice_get (met ++ names) j ≡ Some name → ⊥
none_behind met [] h i j name below past one other =
    let within = slice_get_within (met ++ []) j name other in
    omega (arith, within, ap length (append-nil met))
none_behind met (x ∷ names) h i j name below past one other = by (λ g. none_behind (met ++ x ∷ []) names g i j name below) (is_member same_name met x) refl h
  where
    by : (first_repeat (met ++ x ∷ []) names ≡ None → length (met ++ x ∷ []) ≤ j → slice_get ((met ++ x ∷ []) ++ names) i ≡ Some name → slice_get ((met ++ x ∷ []) ++ names) j ≡ Some name → ⊥)
        → (b : Bool) → is_member same_name met x ≡ b → cond b (Some x) (first_repeat (met ++ x ∷ []) names) ≡ None → ⊥
    by later true e g = none-some x (sym g)
    by later false e g = ⊎_elim
        (λ same. lacks_name met x e (
          i,
          omega arith,
          sym (get_or_append_left met (x ∷ names) x i (omega arith)) ∙ get_or_from_slice_get (met ++ (x ∷ names)) i name x one
              ∙ sym (same_Some x name (sym (get_at met x names) ∙ ap (slice_get (met ++ (x ∷ names))) same ∙ other)),
        ))
        (λ apart. ⊎_elim
        (λ less. later g (omega (arith, length-append met (x ∷ []))) (ap (λ ns. slice_get ns i) (append_assoc met (x ∷ []) names) ∙ one) (ap (λ ns. slice_get ns j) (append_assoc met (x ∷ []) names) ∙ other))
        (λ more. omega arith) apart)
        (cases_order (length met) j)

pub none_repeated : (names : List (List ℕ)) → first_repeat [] names ≡ None → (name : List ℕ) → IsRepeated names name → ⊥
none_repeated names h name r = none_behind [] names h r.first r.second name r.order (omega arith) r.one r.other
