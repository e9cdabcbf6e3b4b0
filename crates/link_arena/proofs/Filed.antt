-- A half moves from its list to the end of one.
use Rattle.std.proofs.Common.{◌≡◌, ◌≢◌, ℕ, ◌<◌, List, [], ◌∷◌, ◌++◌, length, get_or, set, refl, sym, ◌∙◌, ap, subst, arith, inl, inr, zero, suc, true, false, eqb, eq-eqb, ne_eqb}
use Rattle.std.proofs.lemmas.Bool.{cases_eq}
use Rattle.std.proofs.lemmas.List.{get_or-set_same, get_or-set_other, length-set, length-map}
use Rattle.link_arena.specs.declared.half.Half.{Half}
use Rattle.link_arena.specs.declared.half.Head.{Head}
use Rattle.link_arena.specs.Links.{without, with_last, without_other, others_of}
use Rattle.link_arena.specs.Lists.{owners, owner_at, list_of, lists, list_at, IsThreaded, IsFiled, moved_to}
use Rattle.link_arena.proofs.Leads.{IsIn-left, IsIn-right}
use Rattle.link_arena.proofs.Threaded.{IsIn-without}
use Rattle.link_arena.proofs.Members.{IsIn, contains_in, owned_in, filed_in}

pub IsIn-kept : (x at : ℕ) (xs : List ℕ) → x ≢ at → IsIn x xs → IsIn x (without at xs)
IsIn-kept x at [] n has = absurd has
IsIn-kept x at (y ∷ ys) n has =
    elim (cases_eq y at) [
      | inl e ↦
          let test : eqb y at ≡ true = eq-eqb y at e in
          rw test (elim has [ inl same ↦ absurd (n (same ∙ e)) | inr later ↦ IsIn-kept x at ys n later ])
      | inr ne ↦
          let test : eqb y at ≡ false = ne_eqb y at ne in
          rw test (elim has [ inl same ↦ inl same | inr later ↦ inr (IsIn-kept x at ys n later) ])
    ]

pub in_some_list : (L : List (List ℕ)) (j s : ℕ) → IsIn s (get_or L j []) → j < length L
in_some_list [] j s has = absurd has
in_some_list (xs ∷ L) zero s has = omega arith
in_some_list (xs ∷ L) (suc j) s has = omega (arith, in_some_list L j s has)

-- a half is in no list once it is taken out
pub out_of_all : (heads : List Head) (halves : List Half) → IsThreaded heads halves → (from at : ℕ) → from < length (lists heads halves)
    → owner_at halves at ≡ from → (j : ℕ) → ¬ IsIn at (get_or (without_other (lists heads halves) from at) j [])
out_of_all heads halves ok from at within is j has =
    elim (cases_eq j from) [
      | inl e ↦
          let has1 : IsIn at (get_or (without_other (lists heads halves) from at) from []) = subst (λ (i : ℕ). IsIn at (get_or (without_other (lists heads halves) from at) i [])) e has in
          let has2 : IsIn at (without at (list_at heads halves from)) = subst (IsIn at) (get_or-set_same (lists heads halves) from (without at (list_at heads halves from)) [] within) has1 in
          (IsIn-without at at (list_at heads halves from) has2).1 refl
      | inr n ↦
          let has1 : IsIn at (list_at heads halves j) = subst (IsIn at) (get_or-set_other (lists heads halves) from j (without at (list_at heads halves from)) [] n) has in
          n (sym (owned_in ok j at has1) ∙ is)
    ]

pub IsIn-with_last : (L : List (List ℕ)) (to at j s : ℕ) → IsIn s (get_or L j []) → IsIn s (get_or (with_last L to at) j [])
IsIn-with_last L to at j s has =
    elim (cases_eq j to) [
      | inl e ↦
          let has' : IsIn s (get_or L to []) = subst (λ (i : ℕ). IsIn s (get_or L i [])) e has in
          let h : IsIn s (get_or (with_last L to at) to []) = subst (IsIn s) (sym (get_or-set_same L to (others_of L to ++ at ∷ []) [] (in_some_list L to s has'))) (IsIn-left s (get_or L to []) (at ∷ []) has') in
          subst (λ (i : ℕ). IsIn s (get_or (with_last L to at) i [])) (sym e) h
      | inr n ↦ subst (IsIn s) (sym (get_or-set_other L to j (others_of L to ++ at ∷ []) [] n)) has
    ]

pub IsIn-without_other : (L : List (List ℕ)) (from at j s : ℕ) → s ≢ at → IsIn s (get_or L j []) → IsIn s (get_or (without_other L from at) j [])
IsIn-without_other L from at j s ne has =
    elim (cases_eq j from) [
      | inl e ↦
          let has' : IsIn s (get_or L from []) = subst (λ (i : ℕ). IsIn s (get_or L i [])) e has in
          let h : IsIn s (get_or (without_other L from at) from []) = subst (IsIn s) (sym (get_or-set_same L from (without at (others_of L from)) [] (in_some_list L from s has'))) (IsIn-kept s at (get_or L from []) ne has') in
          subst (λ (i : ℕ). IsIn s (get_or (without_other L from at) i [])) (sym e) h
      | inr n ↦ subst (IsIn s) (sym (get_or-set_other L from j (without at (others_of L from)) [] n)) has
    ]

pub filed-moved : (heads : List Head) (halves : List Half) (heads' : List Head) (halves' : List Half) (to at : ℕ)
    → IsFiled heads halves → to < length heads → at < length halves
    → IsThreaded heads' halves' → lists heads' halves' ≡ moved_to (lists heads halves) (owner_at halves at) to at
    → owners halves' ≡ set (owners halves) at to → IsFiled heads' halves'
filed-moved heads halves heads' halves' to at ok within at_within threaded lists_are owners_are =
    let count : length halves' ≡ length halves =
    sym (length-map halves' (λ (s : Half). s.owner)) ∙ (ap length owners_are ∙ (length-set (owners halves) at to ∙ length-map halves (λ (s : Half). s.owner))) in
    let mid : List (List ℕ) = without_other (lists heads halves) (owner_at halves at) at in
    record {
      threaded = threaded;
      all = λ s h. contains_in (list_at heads' halves' (owner_at halves' s)) s (
          let old : s < length halves = subst (λ (n : ℕ). s < n) count h in
          let in_owners : at < length (owners halves) = subst (λ (n : ℕ). at < n) (sym (length-map halves (λ (s : Half). s.owner))) at_within in
          elim (cases_eq s at) [
            | inl e ↦
                let owner : owner_at halves' s ≡ to = ap (λ (l : List ℕ). get_or l s 0) owners_are ∙ (ap (λ (i : ℕ). get_or (set (owners halves) at to) i 0) e ∙ get_or-set_same (owners halves) at to 0 in_owners) in
                let in_mid : to < length mid = subst (λ (n : ℕ). to < n) (sym (length-set (lists heads halves) (owner_at halves at) (without at (list_at heads halves (owner_at halves at))) ∙ length-map heads (list_of halves))) within in
                let there : IsIn s (get_or (with_last mid to at) to []) = subst (IsIn s) (sym (get_or-set_same mid to (others_of mid to ++ at ∷ []) [] in_mid)) (IsIn-right s (others_of mid to) (at ∷ []) (inl e)) in
                let there' : IsIn s (list_at heads' halves' to) = subst (λ (l : List (List ℕ)). IsIn s (get_or l to [])) (sym lists_are) there in
                subst (λ (i : ℕ). IsIn s (list_at heads' halves' i)) (sym owner) there'
            | inr n ↦
                let owner : owner_at halves' s ≡ owner_at halves s = ap (λ (l : List ℕ). get_or l s 0) owners_are ∙ get_or-set_other (owners halves) at s to 0 n in
                let there : IsIn s (get_or (with_last mid to at) (owner_at halves s) []) = IsIn-with_last mid to at (owner_at halves s) s (IsIn-without_other (lists heads halves) (owner_at halves at) at (owner_at halves s) s n (filed_in ok s old)) in
                let there' : IsIn s (list_at heads' halves' (owner_at halves s)) = subst (λ (l : List (List ℕ)). IsIn s (get_or l (owner_at halves s) [])) (sym lists_are) there in
                subst (λ (i : ℕ). IsIn s (list_at heads' halves' i)) (sym owner) there'
          ]);
    }
