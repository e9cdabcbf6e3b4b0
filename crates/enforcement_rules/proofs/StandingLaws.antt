-- How lists of templates with their places grow, and that those of the target's domains are the target templates.
use Rattle.std.proofs.Common.{◌≡◌, ◌⊎◌, ◌<◌, ◌+◌, ℕ, List, [], ◌∷◌, ◌++◌, Bool, true, false, Option, None, Some, Result, Ok, Err, refl, sym, ap, ◌∙◌, subst, inl, inr, ⊎_elim, length, map, take, get_or, true≢false}
use Rattle.std.specs.Prelude.{Contains, OnOk}
use Rattle.std.proofs.lemmas.List.{take_more, map-append}
use Rattle.std.proofs.lemmas.List.Elements.{Contains-append_left, Contains-append_right, Contains-append_cases}
use Rattle.qv_syntax.specs.declared.program.Program.{Program}
use Rattle.qv_syntax.specs.declared.program.Dom.{Dom}
use Rattle.qv_syntax.specs.declared.program.Tmpl.{Tmpl, out-Tmpl}
use Rattle.qv_syntax.specs.declared.program.Item.{Item}
use Rattle.qv_syntax.specs.declared.program.ItemValue.{ItemValue}
use Rattle.qv_syntax.specs.declared.program.ItemValue.TheVariants as items
use Rattle.qv_syntax.specs.Parts.{IsNested, HasItem}
use Rattle.enforcement_rules.specs.declared.standing.Place.{Place}
use Rattle.enforcement_rules.specs.declared.standing.Standing.{Standing}
use Rattle.enforcement_rules.specs.TargetParts.{Stands}
use Rattle.enforcement_rules.specs.TargetTests.{is_of_target}
use Rattle.enforcement_rules.specs.Standings.{Shown, shown_standing, Adds, IsOf, IsOfItems, IsOfValue, IsOfDomain, IsOfTarget, IsOfDomains}
use Rattle.enforcement_rules.proofs.ListLaws.{first_in, nothing_in, only_in}

-- ---- lists

pub adds_none : (P : Shown → Type 0) (xs : List Shown) → ((s : Shown) → ¬ P s) → Adds P xs xs
adds_none P xs none = record { kept = λ s c. c; more = λ s p. absurd (none s p); only = λ s c. inl c }

pub adds_one : (x : Shown) (xs : List Shown) → Adds (λ s. x ≡ s) xs (xs ++ x ∷ [])
adds_one x xs = record {
  kept = λ s c. Contains-append_left xs (x ∷ []) s c;
  more = λ s e. Contains-append_right xs (x ∷ []) s (first_in x s [] e);
  only = λ s c. ⊎_elim (λ (l : Contains xs s). inl l) (λ (r : Contains (x ∷ []) s). inr (only_in x s r)) (Contains-append_cases xs (x ∷ []) s c);
}

pub adds_then : (P Q R : Shown → Type 0) (a b c : List Shown) → Adds P a b → Adds Q b c → ((s : Shown) → P s → R s) → ((s : Shown) → Q s → R s) → ((s : Shown) → R s → P s ⊎ Q s)
    → Adds R a c
adds_then P Q R a b c first second left right either = record {
  kept = λ s h. second.kept s (first.kept s h);
  more = λ s r. ⊎_elim (λ (p : P s). second.kept s (first.more s p)) (λ (q : Q s). second.more s q) (either s r);
  only = λ s h. ⊎_elim
      (λ (there : Contains b s). ⊎_elim (λ (l : Contains a s). inl l) (λ (p : P s). inr (left s p)) (first.only s there))
      (λ (q : Q s). inr (right s q)) (second.only s h);
}

pub adds_as : (P Q : Shown → Type 0) (a b : List Shown) → Adds P a b → ((s : Shown) → P s → Q s) → ((s : Shown) → Q s → P s) → Adds Q a b
adds_as P Q a b adds there back = record {
  kept = adds.kept;
  more = λ s q. adds.more s (back s q);
  only = λ s c. ⊎_elim (λ (l : Contains a s). inl l) (λ (p : P s). inr (there s p)) (adds.only s c);
}

-- ---- a template

stands_there : (t : Tmpl) (at : Option Place) (s : Shown) → IsOfItems (out-Tmpl t).var (out-Tmpl t).items s → Stands t at s.0 s.1
stands_there t at s i =
    Stands.inside t at i.item.prop i.value.part s.0 s.1 (subst (λ v. HasItem t (record { prop = i.item.prop; value = v })) i.value.is i.among) i.value.stands

stands_by : (t : Tmpl) (at : Option Place) (u : Tmpl) (place : Option Place) → Stands t at u place → (◌≡◌ {A = Shown} (t, at) (u, place)) ⊎ IsOfItems (out-Tmpl t).var (out-Tmpl t).items (u, place)
stands_by t at u place (Stands.whole _ _) = inl refl
stands_by t at u place (Stands.inside _ _ prop part _ _ has inner) =
    inr (record { item = record { prop = prop; value = items.Nested part }; among = has; value = record { part = part; is = refl; stands = inner } })

pub template_added : {X E : Type 0} (r : Result X E) (t : Tmpl) (at : Option Place) (old mid new : List Shown) → mid ≡ old ++ (t, at) ∷ []
    → OnOk r (Adds (IsOfItems (out-Tmpl t).var (out-Tmpl t).items) mid new) → OnOk r (Adds (IsOf t at) old new)
template_added (Ok x) t at old mid new is more =
    adds_then (λ s. ◌≡◌ {A = Shown} (t, at) s) (IsOfItems (out-Tmpl t).var (out-Tmpl t).items) (IsOf t at) old mid new
    (subst (λ m. Adds (λ s. ◌≡◌ {A = Shown} (t, at) s) old m) (sym is) (adds_one (t, at) old)) more
    (λ s e. subst (λ (z : Shown). Stands t at z.0 z.1) e (Stands.whole t at)) (λ s i. stands_there t at s i) (λ s h. stands_by t at s.0 s.1 h)
template_added (Err e) t at old mid new is more = tt

-- the same of the items as they are read
pub template_added_as : {X E : Type 0} (r : Result X E) (t : Tmpl) (at : Option Place) (xs : List Item) (old mid new : List Shown) → xs ≡ (out-Tmpl t).items → mid ≡ old ++ (t, at) ∷ []
    → OnOk r (Adds (IsOfItems (out-Tmpl t).var xs) mid new) → OnOk r (Adds (IsOf t at) old new)
template_added_as r t at xs old mid new read is more = template_added r t at old mid new is (subst (λ ys. OnOk r (Adds (IsOfItems (out-Tmpl t).var ys) mid new)) read more)

pub pushed_shown : (old new : List Standing) (st : Standing) → new ≡ old ++ st ∷ [] → map shown_standing new ≡ map shown_standing old ++ shown_standing st ∷ []
pushed_shown old new st is = ap (map shown_standing) is ∙ map-append shown_standing old (st ∷ [])

-- ---- one more of a list

module _ {X : Type 0} (xs : List X) (i : ℕ) (x : X) (within : i < length xs) (is : x ≡ get_or xs i x) where
  more_is : take (i + 1) xs ≡ take i xs ++ x ∷ []
  more_is = take_more xs i x within ∙ ap (λ y. take i xs ++ y ∷ []) (sym is)

  pub more_before : (y : X) → Contains (take i xs) y → Contains (take (i + 1) xs) y
  more_before y c = subst (λ ys. Contains ys y) (sym more_is) (Contains-append_left (take i xs) (x ∷ []) y c)

  pub more_here : Contains (take (i + 1) xs) x
  more_here = subst (λ ys. Contains ys x) (sym more_is) (Contains-append_right (take i xs) (x ∷ []) x (first_in x x [] refl))

  pub more_either : (y : X) → Contains (take (i + 1) xs) y → Contains (take i xs) y ⊎ (x ≡ y)
  more_either y c = ⊎_elim (λ (l : Contains (take i xs) y). inl l) (λ (r : Contains (x ∷ []) y). inr (only_in x y r))
      (Contains-append_cases (take i xs) (x ∷ []) y (subst (λ ys. Contains ys y) more_is c))

pub no_items : (parent : ℕ) (xs : List Item) (old : List Shown) → Adds (IsOfItems parent (take 0 xs)) old old
no_items parent xs old = adds_none (IsOfItems parent (take 0 xs)) old (λ s i. nothing_in i.item i.among)

pub one_item : (parent : ℕ) (xs : List Item) (i : ℕ) (x : Item) (old mid new : List Shown) → i < length xs → x ≡ get_or xs i x
    → Adds (IsOfItems parent (take i xs)) old mid → Adds (IsOfValue (record { parent = parent; prop = x.prop }) x.value) mid new → Adds (IsOfItems parent (take (i + 1) xs)) old new
one_item parent xs i x old mid new within is so_far more =
    adds_then (IsOfItems parent (take i xs)) (IsOfValue (record { parent = parent; prop = x.prop }) x.value) (IsOfItems parent (take (i + 1) xs)) old mid new so_far more
    (λ s h. record { item = h.item; among = more_before xs i x within is h.item h.among; value = h.value })
    (λ s v. record { item = x; among = more_here xs i x within is; value = v })
    (λ s h. ⊎_elim
    (λ (before : Contains (take i xs) h.item). inl (record { item = h.item; among = before; value = h.value }))
    (λ (same : x ≡ h.item). inr (subst (λ (y : Item). IsOfValue (record { parent = parent; prop = y.prop }) y.value s) (sym same) h.value))
    (more_either xs i x within is h.item h.among))

-- ---- a value

pub nothing_nested : (place : Place) (value : ItemValue) (old : List Shown) → ((part : Tmpl) → ¬ (value ≡ items.Nested part)) → Adds (IsOfValue place value) old old
nothing_nested place value old none = adds_none (IsOfValue place value) old (λ s v. none v.part v.is)

same_part : (a b : Tmpl) → items.Nested a ≡ items.Nested b → a ≡ b
same_part a b e = cc

pub nested_added : {X E : Type 0} (r : Result X E) (place : Place) (value : ItemValue) (part : Tmpl) (old new : List Shown) → value ≡ items.Nested part
    → OnOk r (Adds (IsOf part (Some place)) old new) → OnOk r (Adds (IsOfValue place value) old new)
nested_added (Ok x) place value part old new is adds =
    adds_as (IsOf part (Some place)) (IsOfValue place value) old new adds
    (λ s h. record { part = part; is = is; stands = h })
    (λ s v. subst (λ (t : Tmpl). Stands t (Some place) s.0 s.1) (same_part v.part part (sym v.is ∙ is)) v.stands)
nested_added (Err e) place value part old new is adds = tt

-- ---- domains

same_template : (a b : Tmpl) → Some a ≡ Some b → a ≡ b
same_template a b e = cc

pub domain_added : {X E : Type 0} (r : Result X E) (dom : Dom) (root : Tmpl) (old new : List Shown) → dom.template ≡ Some root → OnOk r (Adds (IsOf root None) old new) → OnOk r (Adds (IsOfDomain dom) old new)
domain_added (Ok x) dom root old new is adds =
    adds_as (IsOf root None) (IsOfDomain dom) old new adds
    (λ s h. record { root = root; has = is; stands = h })
    (λ s d. subst (λ (t : Tmpl). Stands t None s.0 s.1) (same_template d.root root (sym d.has ∙ is)) d.stands)
domain_added (Err e) dom root old new is adds = tt

no_template : (root : Tmpl) → ¬ (None ≡ Some root)
no_template root e = cc

pub bare_added : (dom : Dom) (old : List Shown) → dom.template ≡ None → Adds (IsOfDomain dom) old old
bare_added dom old is = adds_none (IsOfDomain dom) old (λ s d. no_template d.root (sym is ∙ d.has))

pub no_domains : (Of : Dom → Shown → Type 0) (doms : List Dom) (old : List Shown) → Adds (IsOfDomains Of (take 0 doms)) old old
no_domains Of doms old = adds_none (IsOfDomains Of (take 0 doms)) old (λ s d. nothing_in d.dom d.among)

-- the domain is one of the target, or it is not
pub target_added : {X E : Type 0} (r : Result X E) (program : Program) (dom : Dom) (old new : List Shown) (b : Bool) → b ≡ is_of_target program dom.model → b ≡ true → OnOk r (Adds (IsOfDomain dom) old new)
    → OnOk r (Adds (IsOfTarget program dom) old new)
target_added (Ok x) program dom old new b told is adds =
    adds_as (IsOfDomain dom) (IsOfTarget program dom) old new adds (λ s d. record { target = sym told ∙ is; of = d }) (λ s t. t.of)
target_added (Err e) program dom old new b told is adds = tt

pub other_added : (program : Program) (dom : Dom) (old : List Shown) (b : Bool) → b ≡ is_of_target program dom.model → b ≡ false → Adds (IsOfTarget program dom) old old
other_added program dom old b told is = adds_none (IsOfTarget program dom) old (λ s t. true≢false (sym t.target ∙ sym told ∙ is))

pub domains_read : (Of : Dom → Shown → Type 0) (doms slice : List Dom) (new : List Shown) → slice ≡ doms → Adds (IsOfDomains Of slice) [] new → Adds (IsOfDomains Of doms) [] new
domains_read Of doms slice new is adds = subst (λ (ds : List Dom). Adds (IsOfDomains Of ds) [] new) is adds

pub one_domain : (Of : Dom → Shown → Type 0) (doms : List Dom) (i : ℕ) (dom : Dom) (old mid new : List Shown) → i < length doms → dom ≡ get_or doms i dom
    → Adds (IsOfDomains Of (take i doms)) old mid → Adds (Of dom) mid new → Adds (IsOfDomains Of (take (i + 1) doms)) old new
one_domain Of doms i dom old mid new within is so_far more =
    adds_then (IsOfDomains Of (take i doms)) (Of dom) (IsOfDomains Of (take (i + 1) doms)) old mid new so_far more
    (λ s h. record { dom = h.dom; among = more_before doms i dom within is h.dom h.among; of = h.of })
    (λ s v. record { dom = dom; among = more_here doms i dom within is; of = v })
    (λ s h. ⊎_elim
    (λ (before : Contains (take i doms) h.dom). inl (record { dom = h.dom; among = before; of = h.of }))
    (λ (same : dom ≡ h.dom). inr (subst (λ d. Of d s) (sym same) h.of))
    (more_either doms i dom within is h.dom h.among))

-- ---- templates with and without their places

pub stands_nested : (root : Tmpl) (begin : Option Place) (t : Tmpl) (at : Option Place) → Stands root begin t at → IsNested root t
stands_nested root begin t at (Stands.whole _ _) = IsNested.whole root
stands_nested root begin t at (Stands.inside _ _ prop part _ _ has inner) = IsNested.inside root prop part t has (stands_nested part (Some (record { parent = (out-Tmpl root).var; prop = prop })) t at inner)

pub nested_stands : (root : Tmpl) (begin : Option Place) (t : Tmpl) → IsNested root t → (at : Option Place) × Stands root begin t at
nested_stands root begin t (IsNested.whole _) = (begin, Stands.whole root begin)
nested_stands root begin t (IsNested.inside _ prop part _ has inner) =
    let r = nested_stands part (Some (record { parent = (out-Tmpl root).var; prop = prop })) t inner in
    (r.0, Stands.inside root begin prop part t r.0 has r.1)
