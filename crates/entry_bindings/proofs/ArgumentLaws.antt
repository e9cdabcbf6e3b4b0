-- What the roots of a called relation get of the arguments of a call.
use Rattle.std.specs.Prelude.{◌≡◌, ◌≢◌, ◌⊎◌, ◌<◌, ℕ, zero, suc, List, [], ◌∷◌, map, length, replicate, Option, None, Some, slice_get, slice_index_or, slice_set, Contains}
use Rattle.std.specs.List.{filter_map, cons_option, AllByRecursion}
use Rattle.std.specs.Option.{option_map}
use Rattle.std.proofs.Common.{refl, sym, ap, subst, ◌∙◌, inl, inr, arith}
use Rattle.std.proofs.lemmas.Option.{same_Some}
use Rattle.qv_syntax.specs.declared.program.Rel.{Rel}
use Rattle.qv_syntax.specs.declared.program.Dom.{Dom}
use Rattle.repair_semantics.specs.declared.term.TermValue.{TermValue}
use Rattle.repair_semantics.specs.EntryValues.{value_of, with_roots}
use Rattle.repair_semantics.specs.Entries.{bound_roots}
use Rattle.entry_bindings.specs.Arguments.{put_roots, lasts, bound}
use Rattle.entry_bindings.proofs.ListLaws.{picked_in}

pub none_some : {X : Type 0} (x : X) → ◌≡◌ {A = Option X} None (Some x) → ⊥
none_some x h = cc

-- ---- places of a list

pub set_there : {X : Type 0} (b : List (Option X)) (r : ℕ) (x : X) → r < length b → slice_index_or (slice_set b r (Some x)) r None ≡ Some x
set_there [] r x within = absurd (omega (arith, within))
set_there (o ∷ b) zero x within = refl
set_there (o ∷ b) (suc r) x within = set_there b r x (omega (arith, within))

pub set_elsewhere : {X : Type 0} (b : List (Option X)) (r v : ℕ) (o : Option X) → r ≢ v → slice_index_or (slice_set b r o) v None ≡ slice_index_or b v None
set_elsewhere [] r v o other = refl
set_elsewhere (p ∷ b) zero zero o other = absurd (other refl)
set_elsewhere (p ∷ b) zero (suc v) o other = refl
set_elsewhere (p ∷ b) (suc r) zero o other = refl
set_elsewhere (p ∷ b) (suc r) (suc v) o other = set_elsewhere b r v o (λ is. other (ap suc is))

-- what stands at a place is what was put there, or what stood there
pub set_from : {X : Type 0} (b : List (Option X)) (r v : ℕ) (x y : X) → slice_index_or (slice_set b r (Some x)) v None ≡ Some y
    → ((r ≡ v) × (x ≡ y)) ⊎ (slice_index_or b v None ≡ Some y)
set_from [] r v x y h = absurd (none_some y h)
set_from (o ∷ b) zero zero x y h = inl (refl, same_Some x y h)
set_from (o ∷ b) zero (suc v) x y h = inr h
set_from (o ∷ b) (suc r) zero x y h = inr h
set_from (o ∷ b) (suc r) (suc v) x y h = by (set_from b r v x y h)
  where
    by : ((r ≡ v) × (x ≡ y)) ⊎ (slice_index_or b v None ≡ Some y) → ((suc r ≡ suc v) × (x ≡ y)) ⊎ (slice_index_or b v None ≡ Some y)
    by (inl both) = inl (ap suc both.0, both.1)
    by (inr is) = inr is

pub set_long : {X : Type 0} (b : List (Option X)) (r : ℕ) (o : Option X) → length (slice_set b r o) ≡ length b
set_long [] r o = refl
set_long (p ∷ b) zero o = refl
set_long (p ∷ b) (suc r) o = ap suc (set_long b r o)

pub none_there : {X : Type 0} (n v : ℕ) → slice_index_or (replicate n (let o : Option X = None in o)) v None ≡ None
none_there zero v = refl
none_there (suc n) zero = refl
none_there (suc n) (suc v) = none_there n v

pub none_long : (X : Type 0) (n : ℕ) → length (replicate n (let o : Option X = None in o)) ≡ n
none_long X zero = refl
none_long X (suc n) = ap suc (none_long X n)

-- ---- in other words

module _ {X Y : Type 0} (g : X → Y) where
  pub set_map : (b : List (Option X)) (r : ℕ) (x : X) → slice_set (map (option_map g) b) r (Some (g x)) ≡ map (option_map g) (slice_set b r (Some x))
  set_map [] r x = refl
  set_map (o ∷ b) zero x = refl
  set_map (o ∷ b) (suc r) x = ap (λ os. option_map g o ∷ os) (set_map b r x)

  pub at_map : (b : List (Option X)) (v : ℕ) → slice_index_or (map (option_map g) b) v None ≡ option_map g (slice_index_or b v None)
  at_map [] v = refl
  at_map (o ∷ b) zero = refl
  at_map (o ∷ b) (suc v) = at_map b v

  none_map : (n : ℕ) → replicate n None ≡ map (option_map g) (replicate n None)
  none_map zero = refl
  none_map (suc n) = ap (λ os. None ∷ os) (none_map n)

  cons_map : (o : Option X) (xs : List X) → cons_option (option_map g o) (map g xs) ≡ map g (cons_option o xs)
  cons_map None xs = refl
  cons_map (Some x) xs = refl

  pub picked_map : {D : Type 0} (p : D → Option Y) (q : D → Option X) (ds : List D) → ((d : D) → p d ≡ option_map g (q d)) → filter_map p ds ≡ map g (filter_map q ds)
  picked_map p q [] h = refl
  picked_map p q (d ∷ ds) h = ap (λ o. cons_option o (filter_map p ds)) (h d) ∙ ap (cons_option (option_map g (q d))) (picked_map p q ds h) ∙ cons_map (q d) (filter_map q ds)

module _ {X : Type 0} (g : X → TermValue) where
  put_map : (b : List (Option X)) (doms : List Dom) (xs : List X) → with_roots (map (option_map g) b) doms (map g xs) ≡ map (option_map g) (put_roots b doms xs)
  put_map b [] xs = refl
  put_map b (dom ∷ doms) [] = refl
  put_map b (dom ∷ doms) (x ∷ xs) = ap (λ c. with_roots c doms (map g xs)) (set_map g b dom.root x) ∙ put_map (slice_set b dom.root (Some x)) doms xs

  pub bound_map : (rel : Rel) (xs : List X) → bound_roots rel (map g xs) ≡ map g (bound rel xs)
  bound_map rel xs = picked_map g (λ (dom : Dom). value_of (with_roots (replicate (length rel.vars) None) rel.domains (map g xs)) dom.root)
      (λ (dom : Dom). slice_index_or (lasts rel xs) dom.root None) rel.domains
      (λ dom. ap (λ c. value_of (with_roots c rel.domains (map g xs)) dom.root) (none_map g (length rel.vars))
      ∙ ap (λ c. value_of c dom.root) (put_map (replicate (length rel.vars) None) rel.domains xs)
      ∙ at_map g (lasts rel xs) dom.root)

-- ---- what holds of all

module _ {X : Type 0} (P : X → Type 0) where
  pub HoldsOfSome : List (Option X) → Type 0
  HoldsOfSome b = (v : ℕ) (x : X) → slice_index_or b v None ≡ Some x → P x

  put_all : (b : List (Option X)) (doms : List Dom) (xs : List X) → HoldsOfSome b → AllByRecursion P xs → HoldsOfSome (put_roots b doms xs)
  unfolding HoldsOfSome
  put_all b [] xs before all = before
  put_all b (dom ∷ doms) [] before all = before
  put_all b (dom ∷ doms) (x ∷ xs) before all = put_all (slice_set b dom.root (Some x)) doms xs (λ v y at. by v y (set_from b dom.root v x y at)) all.1
    where
      by : (v : ℕ) (y : X) → ((dom.root ≡ v) × (x ≡ y)) ⊎ (slice_index_or b v None ≡ Some y) → P y
      by v y (inl both) = subst P both.1 all.0
      by v y (inr is) = before v y is

  cons_all : (o : Option X) (xs : List X) → ((x : X) → o ≡ Some x → P x) → AllByRecursion P xs → AllByRecursion P (cons_option o xs)
  cons_all None xs one all = all
  cons_all (Some x) xs one all = (one x refl, all)

  picked_all : {D : Type 0} (q : D → Option X) (ds : List D) → ((d : D) (x : X) → q d ≡ Some x → P x) → AllByRecursion P (filter_map q ds)
  picked_all q [] h = tt
  picked_all q (d ∷ ds) h = cons_all (q d) (filter_map q ds) (h d) (picked_all q ds h)

  pub bound_all : (rel : Rel) (xs : List X) → AllByRecursion P xs → AllByRecursion P (bound rel xs)
  unfolding HoldsOfSome
  bound_all rel xs all = picked_all (λ (dom : Dom). slice_index_or (lasts rel xs) dom.root None) rel.domains
      (λ dom x at. put_all (replicate (length rel.vars) None) rel.domains xs (λ v y there. absurd (none_some y (sym (none_there (length rel.vars) v) ∙ there))) all dom.root x at)

-- ---- the last argument for a root

module _ {X : Type 0} where
  -- no domain that gets an argument has this root
  abbrev NoneAt : List Dom → List X → ℕ → Type 0
  NoneAt doms xs r = (later : ℕ) (other : Dom) (more : X) → slice_get doms later ≡ Some other → slice_get xs later ≡ Some more → other.root ≢ r

  kept_at : (b : List (Option X)) (doms : List Dom) (xs : List X) (r : ℕ) → NoneAt doms xs r → slice_index_or (put_roots b doms xs) r None ≡ slice_index_or b r None
  kept_at b [] xs r none = refl
  kept_at b (dom ∷ doms) [] r none = refl
  kept_at b (dom ∷ doms) (x ∷ xs) r none =
      kept_at (slice_set b dom.root (Some x)) doms xs r (λ later other more at there. none (suc later) other more at there)
      ∙ set_elsewhere b dom.root r (Some x) (none zero dom x refl refl)

  last_put : (b : List (Option X)) (doms : List Dom) (xs : List X) (place : ℕ) (dom : Dom) (x : X) → slice_get doms place ≡ Some dom → slice_get xs place ≡ Some x → dom.root < length b
      → ((later : ℕ) (other : Dom) (more : X) → place < later → slice_get doms later ≡ Some other → slice_get xs later ≡ Some more → other.root ≢ dom.root)
      → slice_index_or (put_roots b doms xs) dom.root None ≡ Some x
  last_put b [] xs place dom x at there within last = absurd (cc)
  last_put b (first ∷ doms) [] place dom x at there within last = absurd (cc)
  last_put b (first ∷ doms) (y ∷ xs) zero dom x at there within last =
      let own : first ≡ dom = same_Some first dom at in
      kept_at (slice_set b first.root (Some y)) doms xs dom.root (λ later other more found given. last (suc later) other more (omega arith) found given)
      ∙ ap (λ (d : Dom). slice_index_or (slice_set b d.root (Some y)) dom.root None) own
      ∙ set_there b dom.root y within
      ∙ there
  last_put b (first ∷ doms) (y ∷ xs) (suc place) dom x at there within last =
      last_put (slice_set b first.root (Some y)) doms xs place dom x at there (subst (λ n. dom.root < n) (sym (set_long b first.root (Some y))) within)
      (λ later other more after found given. last (suc later) other more (omega (arith, after)) found given)

  -- the last argument for a root is what it gets
  pub bound_last : (rel : Rel) (xs : List X) (place : ℕ) (dom : Dom) (x : X) → slice_get rel.domains place ≡ Some dom → Contains rel.domains dom → slice_get xs place ≡ Some x
      → dom.root < length rel.vars
      → ((later : ℕ) (other : Dom) (more : X) → place < later → slice_get rel.domains later ≡ Some other → slice_get xs later ≡ Some more → other.root ≢ dom.root)
      → Contains (bound rel xs) x
  bound_last rel xs place dom x at within there range last =
      picked_in (λ (d : Dom). slice_index_or (lasts rel xs) d.root None) rel.domains dom x within
      (last_put (replicate (length rel.vars) None) rel.domains xs place dom x at there (subst (λ n. dom.root < n) (sym (none_long X (length rel.vars))) range) last)
