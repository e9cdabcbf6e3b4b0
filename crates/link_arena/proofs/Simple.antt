-- The joins that an arena shows are simple.
use Rattle.std.proofs.Common.{◌≡◌, ◌≢◌, ℕ, ◌<◌, ◌≤◌, ◌-◌, List, [], ◌∷◌, length, get_or, map, refl, sym, ◌∙◌, ap, subst, arith, inl, inr, suc}
use Rattle.std.proofs.lemmas.Bool.{cases_lt}
use Rattle.std.proofs.lemmas.List.{length-map, get_or_past}
use Rattle.std.specs.Prelude.{Contains, AllPairs}
use Rattle.link_arena.specs.declared.half.Half.{Half}
use Rattle.link_arena.specs.declared.half.Head.{Head}
use Rattle.link_arena.specs.Links.{others_of, IsSimple}
use Rattle.link_arena.specs.Lists.{lists, list_of, list_at, owners, owner_at}
use Rattle.link_arena.specs.Twins.{twin, other, links, IsArena}
use Rattle.link_arena.proofs.Filed.{in_some_list}
use Rattle.link_arena.proofs.Twins.{twin-twin}
use Rattle.link_arena.proofs.Shown.{at_shown, length-shown}
use Rattle.link_arena.proofs.Arenas.{contains_mapped, owner_within}
use Rattle.link_arena.proofs.Members.{IsIn, IsDistinct, in_from, pairs_from, thread_apart, owned_in, filed_in}

pub record IsFrom (f : ℕ → ℕ) (xs : List ℕ) (y : ℕ) : Type 0 where
  pub source : ℕ
  pub there : IsIn source xs
  pub is : f source ≡ y

pub unmapped : (f : ℕ → ℕ) (xs : List ℕ) (y : ℕ) → IsIn y (map f xs) → IsFrom f xs y
unmapped f [] y has = absurd has
unmapped f (x ∷ xs) y (inl e) = record { source = x; there = inl refl; is = sym e }
unmapped f (x ∷ xs) y (inr has) =
    let rest : IsFrom f xs y = unmapped f xs y has in
    record { source = rest.source; there = inr rest.there; is = rest.is }

pub distinct-map : (f : ℕ → ℕ) (xs : List ℕ) → IsDistinct xs → ((x y : ℕ) → IsIn x xs → IsIn y xs → f x ≡ f y → x ≡ y) → IsDistinct (map f xs)
distinct-map f [] apart one = tt
distinct-map f (x ∷ xs) apart one = (
  λ h. (let from : IsFrom f xs (f x) = unmapped f xs (f x) h in
      apart.0 (subst (λ (k : ℕ). IsIn k xs) (one from.source x (inr from.there) (inl refl) from.is) from.there)),
  distinct-map f xs apart.1 (λ y z a b. one y z (inr a) (inr b)),
)

-- the half behind a join that is shown
pub record IsShownBy (heads : List Head) (halves : List Half) (a b : ℕ) : Type 0 where
  pub half : ℕ
  pub there : IsIn half (list_at heads halves (suc a))
  pub own : owner_at halves half ≡ suc a
  pub leads : owner_at halves (twin half) ≡ suc b

pub used_twin : (heads : List Head) (halves : List Half) → IsArena heads halves → (u a : ℕ) → owner_at halves u ≡ suc a → owner_at halves (twin u) ≢ 0
used_twin heads halves ok u a own z =
    let none : owner_at halves u ≡ 0 = ap (λ (i : ℕ). owner_at halves i) (sym (twin-twin u)) ∙ ok.twinned.free (twin u) z in
    (let k : suc a ≡ 0 = sym own ∙ none in omega arith)

pub shown_by : (heads : List Head) (halves : List Half) → IsArena heads halves → (a b : ℕ) → Contains (others_of (links heads halves) a) b
    → IsShownBy heads halves a b
shown_by heads halves ok a b has =
    let O : List ℕ = owners halves in
    let L : List (List ℕ) = lists heads halves in
    let has' : IsIn b (map (other O) (get_or L (suc a) [])) = in_from (map (other O) (get_or L (suc a) [])) b (subst (λ (l : List ℕ). Contains l b) (at_shown O L a) has) in
    let from : IsFrom (other O) (get_or L (suc a) []) b = unmapped (other O) (get_or L (suc a) []) b has' in
    let own : owner_at halves from.source ≡ suc a = owned_in ok.filed.threaded (suc a) from.source from.there in
    let some : owner_at halves (twin from.source) ≢ 0 = used_twin heads halves ok from.source a own in
    let is : owner_at halves (twin from.source) - 1 ≡ b = from.is in
    record { half = from.source; there = from.there; own = own; leads = omega arith }

pub shows : (heads : List Head) (halves : List Half) → IsArena heads halves → (u a b : ℕ) → owner_at halves u ≡ suc a → owner_at halves (twin u) ≡ suc b
    → Contains (others_of (links heads halves) a) b
shows heads halves ok u a b own leads =
    let O : List ℕ = owners halves in
    let L : List (List ℕ) = lists heads halves in
    let there : IsIn u (get_or L (suc a) []) = subst (λ (i : ℕ). IsIn u (get_or L i [])) own (filed_in ok.filed u (owner_within halves u a own)) in
    let is : other O u ≡ b = ap (λ (k : ℕ). k - 1) leads ∙ (let k : suc b - 1 ≡ b = omega arith in k) in
    subst (λ (l : List ℕ). Contains l b) (sym (at_shown O L a))
    (subst (λ (k : ℕ). Contains (map (other O) (get_or L (suc a) [])) k) is (contains_mapped (other O) (get_or L (suc a) []) u there))

pub list_distinct : (heads : List Head) (halves : List Half) → IsArena heads halves → (id : ℕ) → IsDistinct (list_at heads halves id)
list_distinct heads halves ok id =
    elim (cases_lt id (length heads)) [
      | inl h ↦ thread_apart (ok.filed.threaded.thread id h)
      | inr h ↦
          let past : length (lists heads halves) ≤ id = omega (arith, length-map heads (list_of halves)) in
          let none : list_at heads halves id ≡ [] = get_or_past (lists heads halves) id [] past in
          subst IsDistinct (sym none) tt
    ]

pub simple : (heads : List Head) (halves : List Half) → IsArena heads halves → IsSimple (links heads halves)
simple heads halves ok =
    let O : List ℕ = owners halves in
    let L : List (List ℕ) = lists heads halves in
    record {
      within = λ a b has.
          let by : IsShownBy heads halves a b = shown_by heads halves ok a b has in
          let there : suc b < length L = in_some_list L (suc b) (twin by.half)
          (subst (λ (i : ℕ). IsIn (twin by.half) (get_or L i [])) by.leads (filed_in ok.filed (twin by.half) (owner_within halves (twin by.half) b by.leads))) in
          let len : length (links heads halves) ≡ length L - 1 = length-shown O L in
          omega arith;
      symmetric = λ a b has.
          let by : IsShownBy heads halves a b = shown_by heads halves ok a b has in
          shows heads halves ok (twin by.half) b a by.leads (ap (λ (i : ℕ). owner_at halves i) (twin-twin by.half) ∙ by.own);
      loopless = λ a has.
          let by : IsShownBy heads halves a a = shown_by heads halves ok a a has in
          ok.twinned.apart by.half (λ z. (let k : suc a ≡ 0 = sym by.own ∙ z in omega arith)) (by.leads ∙ sym by.own);
      single = λ a.
          let xs : List ℕ = get_or L (suc a) [] in
          let apart : IsDistinct (map (other O) xs) = distinct-map (other O) xs (list_distinct heads halves ok (suc a)) (λ x y hx hy e.
          let ox : owner_at halves x ≡ suc a = owned_in ok.filed.threaded (suc a) x hx in
          let oy : owner_at halves y ≡ suc a = owned_in ok.filed.threaded (suc a) y hy in
          let sx : owner_at halves (twin x) ≢ 0 = used_twin heads halves ok x a ox in
          let sy : owner_at halves (twin y) ≢ 0 = used_twin heads halves ok y a oy in
          let e' : owner_at halves (twin x) - 1 ≡ owner_at halves (twin y) - 1 = e in
          let same : owner_at halves (twin x) ≡ owner_at halves (twin y) = omega arith in
          ok.twinned.single x y (λ z. (let k : suc a ≡ 0 = sym ox ∙ z in omega arith)) (ox ∙ sym oy) same) in
          subst (AllPairs (λ x y. x ≢ y)) (sym (at_shown O L a)) (pairs_from (map (other O) xs) apart);
    }
