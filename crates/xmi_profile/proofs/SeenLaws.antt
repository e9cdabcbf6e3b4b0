-- What is kept of an element of a tree: its characters, the place of the first run of them, and that of the first that isn't blank.
use Rattle.std.proofs.Common.{◌≡◌, ◌⊎◌, ℕ, suc, ◌≤◌, Bool, true, false, List, [], ◌∷◌, ◌++◌, refl, sym, ◌∙◌, ap, arith, subst, inl, inr, append_assoc, append-nil, None, Some}
use Rattle.std.specs.Prelude.{Option, Contains}
use Rattle.std.specs.Option.{unwrap_or}
use Rattle.std.proofs.lemmas.Bool.{true≢false}
use Rattle.xmi_text.specs.Trees.{Nodes, Ends, Run, Element as Inner}
use Rattle.xmi_profile.specs.declared.element.Element.{Element}
use Rattle.model_assembly.specs.Elements.{Item, inner_place, behind_place}
use Rattle.model_assembly.specs.Judged.{runs_in, runs, first_place}
use Rattle.xmi_profile.specs.Listing.{begun, or_place, odd_place, with_run, with_runs, element_of}
use Rattle.model_assembly.specs.Source.{text_in}
use Rattle.model_assembly.specs.Values.{is_all_blank}
use Rattle.mof_metamodel.proofs.Facts.{nothing_in, contains_first}
use Rattle.model_assembly.proofs.assembling.ListLaws.{in_cons, in_tail}

-- ---- runs

abbrev Runs : Type 0
Runs = List (ℕ × List ℕ)

abbrev pub at_from : Option ℕ → Runs → Option ℕ
at_from at [] = at
at_from at (run ∷ rest) = at_from (or_place at run.0) rest

abbrev pub odd_from : Option ℕ → Runs → Option ℕ
odd_from odd [] = odd
odd_from odd (run ∷ rest) = odd_from (odd_place (is_all_blank run.1) odd run.0) rest

abbrev seen : Nodes → ℕ → Element → Element
seen nodes place e =
    record e { text = e.text ++ text_in nodes; text_at = at_from e.text_at (runs_in nodes place); odd_at = odd_from e.odd_at (runs_in nodes place) }

with_text : (e : Element) (text text2 : List ℕ) (at odd : Option ℕ) → text ≡ text2 → record e { text = text; text_at = at; odd_at = odd } ≡ record e { text = text2; text_at = at; odd_at = odd }
with_text e text text2 at odd h = ap (λ (t : List ℕ). record e { text = t; text_at = at; odd_at = odd }) h

runs_seen : (nodes : Nodes) (place : ℕ) (e : Element) → with_runs nodes place e ≡ seen nodes place e
runs_seen Ends place e = with_text e e.text (e.text ++ []) e.text_at e.odd_at (sym (append-nil e.text))
runs_seen (Run characters more) place e =
    runs_seen more (suc place) (with_run place characters e)
    ∙ with_text e ((e.text ++ characters) ++ text_in more) (e.text ++ (characters ++ text_in more)) (at_from e.text_at (runs_in (Run characters more) place)) (odd_from e.odd_at (runs_in (Run characters more) place))
    (append_assoc e.text characters (text_in more))
runs_seen (Inner name attrs inner more) place e = runs_seen more (behind_place place attrs inner) e

-- an element of a tree, with what is kept of the runs directly in it
abbrev pub kept : Item → Element
kept item = record {
  place = item.place;
  role = item.role;
  name = item.name;
  attrs = item.attrs;
  text = text_in item.inner;
  text_at = at_from None (runs item);
  odd_at = odd_from None (runs item);
}

pub element_kept : (item : Item) → element_of item ≡ kept item
element_kept item = runs_seen item.inner (inner_place item.place item.attrs) (begun item.place item.role item.name item.attrs)

-- ---- the first run

at_stays : (place : ℕ) (rest : Runs) → at_from (Some place) rest ≡ Some place
at_stays place [] = refl
at_stays place (run ∷ rest) = at_stays place rest

pub text_at_is : (place : ℕ) (rs : Runs) → unwrap_or (at_from None rs) place ≡ first_place place rs
text_at_is place [] = refl
text_at_is place (run ∷ rest) = ap (λ (o : Option ℕ). unwrap_or o place) (at_stays run.0 rest)

-- ---- the first that isn't blank

odd_stays : (place : ℕ) (rest : Runs) → odd_from (Some place) rest ≡ Some place
odd_stays place [] = refl
odd_stays place (run ∷ rest) = by (is_all_blank run.1) (odd_stays place rest)
  where
    by : (b : Bool) → odd_from (Some place) rest ≡ Some place → odd_from (odd_place b (Some place) run.0) rest ≡ Some place
    by true h = h
    by false h = h

-- some characters at the place aren't all blank
abbrev pub IsOdd : Runs → ℕ → Type 0
IsOdd rs place = (characters : List ℕ) × Contains rs (place, characters) × (is_all_blank characters ≡ false)

abbrev pub FirstOdd : Runs → Option ℕ → Type 0
FirstOdd rs None = (place : ℕ) → ¬ IsOdd rs place
FirstOdd rs (Some first) = IsOdd rs first × ((place : ℕ) → IsOdd rs place → first ≤ place)

abbrev run_at : ℕ → List ℕ → ℕ × List ℕ
run_at place characters = (place, characters)

runs_later : (nodes : Nodes) (place : ℕ) (run : ℕ × List ℕ) → Contains (runs_in nodes place) run → place ≤ run.0
runs_later Ends place run c = absurd (nothing_in run c)
runs_later (Run characters more) place run c = by (in_cons (run_at place characters) (runs_in more (suc place)) run c) (runs_later more (suc place) run)
  where
    by : (run_at place characters ≡ run) ⊎ Contains (runs_in more (suc place)) run → (Contains (runs_in more (suc place)) run → suc place ≤ run.0) → place ≤ run.0
    by (inl e) later = let p : place ≡ run.0 = ap (λ (r : ℕ × List ℕ). r.0) e in omega (arith, p)
    by (inr h) later = let l = later h in omega (arith, l)
runs_later (Inner name attrs inner more) place run c =
    let l = runs_later more (behind_place place attrs inner) run c in omega (arith, l)

odd_of_head : (place : ℕ) (characters : List ℕ) (rest : Runs) (at : ℕ) → IsOdd ((place, characters) ∷ rest) at → ((at ≡ place) × (is_all_blank characters ≡ false)) ⊎ IsOdd rest at
odd_of_head place characters rest at o = by (in_cons (run_at place characters) rest (run_at at o.0) o.1)
  where
    by : (run_at place characters ≡ run_at at o.0) ⊎ Contains rest (at, o.0) → ((at ≡ place) × (is_all_blank characters ≡ false)) ⊎ IsOdd rest at
    by (inl e) = inl (sym (ap (λ (r : ℕ × List ℕ). r.0) e), ap (λ (r : ℕ × List ℕ). is_all_blank r.1) e ∙ o.2)
    by (inr h) = inr (o.0, h, o.2)

odd_in_tail : (run : ℕ × List ℕ) (rest : Runs) (at : ℕ) → IsOdd rest at → IsOdd (run ∷ rest) at
odd_in_tail run rest at o = (o.0, in_tail run rest (at, o.0) o.1, o.2)

odd_blank : (place : ℕ) (characters : List ℕ) (rest : Runs) (o : Option ℕ) → is_all_blank characters ≡ true → FirstOdd rest o → FirstOdd ((place, characters) ∷ rest) o
odd_blank place characters rest None b h = λ at x. by at (odd_of_head place characters rest at x)
  where
    by : (at : ℕ) → ((at ≡ place) × (is_all_blank characters ≡ false)) ⊎ IsOdd rest at → ⊥
    by at (inl e) = true≢false (sym b ∙ e.1)
    by at (inr x) = h at x
odd_blank place characters rest (Some first) b h = (odd_in_tail (place, characters) rest first h.0, λ at x. by at (odd_of_head place characters rest at x))
  where
    by : (at : ℕ) → ((at ≡ place) × (is_all_blank characters ≡ false)) ⊎ IsOdd rest at → first ≤ at
    by at (inl e) = absurd (true≢false (sym b ∙ e.1))
    by at (inr x) = h.1 at x

pub odd_found : (nodes : Nodes) (place : ℕ) → FirstOdd (runs_in nodes place) (odd_from None (runs_in nodes place))
odd_found Ends place = λ at o. nothing_in (at, o.0) o.1
odd_found (Run characters more) place = by (is_all_blank characters) refl (odd_found more (suc place))
  where
    by : (b : Bool) → is_all_blank characters ≡ b → FirstOdd (runs_in more (suc place)) (odd_from None (runs_in more (suc place))) → FirstOdd ((place, characters) ∷ runs_in more (suc place)) (odd_from (odd_place b None place) (runs_in more (suc place)))
    by true e h = odd_blank place characters (runs_in more (suc place)) (odd_from None (runs_in more (suc place))) e h
    by false e h = subst (λ (o : Option ℕ). FirstOdd ((place, characters) ∷ runs_in more (suc place)) o) (sym (odd_stays place (runs_in more (suc place)))) found
      where
        found : FirstOdd ((place, characters) ∷ runs_in more (suc place)) (Some place)
        found = (
          (characters, contains_first (place, characters) (runs_in more (suc place)), e),
          λ at o. runs_later (Run characters more) place (at, o.0) o.1,
        )
odd_found (Inner name attrs inner more) place = odd_found more (behind_place place attrs inner)
