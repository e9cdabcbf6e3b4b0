-- How many properties a metamodel has: a class has its own behind those that it inherits.
use Rattle.std.specs.Prelude.{◌≡◌, ◌⊎◌, ◌≤◌, ◌<◌, ◌+◌, ◌-◌, ℕ, max, List, [], ◌∷◌, ◌++◌, map, length, Option, None, Some, slice_get, slice_index_or, Contains, All}
use Rattle.std.specs.List.{range_with_len}
use Rattle.std.proofs.Common.{refl, sym, ap, ◌∙◌, subst, arith, get_or, inl, inr}
use Rattle.std.proofs.lemmas.Bool.{cases_lt, cases_eq}
use Rattle.std.proofs.lemmas.List.{length-map, length-append, get_or-map, get_or-append-add}
use Rattle.std.proofs.lemmas.List.FromFn.{length-range_with_len, get_or-range_with_len}
use Rattle.std.proofs.lemmas.List.Elements.{All-contains}
use Rattle.std.proofs.lemmas.Option.{slice_get-get_or, slice_get_past}
use Rattle.fault_lines.specs.Lines.{shown}
use Rattle.mof_metamodel.specs.declared.desc.MetaDesc.{MetaDesc}
use Rattle.mof_metamodel.specs.declared.desc.PropId.{PropId}
use Rattle.mof_metamodel.specs.Tables.{prop_numbers, IsPropOf}
use Rattle.mof_metamodel.specs.Metamodels.{prop_count, class_count, owner_of, own_props, props_of, inherited_props, first_own, class_at}
use Rattle.mof_metamodel.proofs.PropLemmas.{own_index, own_has, owner_within}
use Rattle.entry_texts.specs.Naming.{number_behind, behind_prop}

no_prop_id : PropId
no_prop_id = record { 0 = 0 }

-- the last property of a class is behind none of its own
pub own_behind : (desc : MetaDesc) (c p : ℕ) (props : List PropId) → prop_numbers props ≡ props_of desc c → props_of desc c ≡ inherited_props desc c ++ own_props desc c
    → Contains (own_props desc c) p → p < number_behind props
own_behind desc c p props numbers order own =
    let (i, short, is) = own_index desc c p own in
    let n : ℕ = length (class_at desc c).props in
    let inherited : List ℕ = inherited_props desc c in
    let all : prop_numbers props ≡ inherited ++ own_props desc c = numbers ∙ order in
    let own_count : length (own_props desc c) ≡ n = length-range_with_len (first_own desc c) n in
    let count : length props ≡ length inherited + n =
    sym (length-map props (λ (q : PropId). q.0)) ∙ ap length all ∙ length-append inherited (own_props desc c) ∙ ap (λ m. length inherited + m) own_count in
    let last : ℕ = length props - 1 in
    let last_is : last ≡ length inherited + (n - 1) = omega (arith, count, short) in
    let q : PropId = get_or props last no_prop_id in
    let number : q.0 ≡ first_own desc c + (n - 1) =
    sym (get_or-map (λ (q : PropId). q.0) props last no_prop_id 0 (omega (arith, count, short)))
    ∙ ap (λ ns. get_or ns last 0) all
    ∙ ap (λ k. get_or (inherited ++ own_props desc c) k 0) last_is
    ∙ get_or-append-add inherited (own_props desc c) (n - 1) 0
    ∙ get_or-range_with_len (first_own desc c) n (n - 1) 0 (omega (arith, short)) in
    let found : number_behind props ≡ q.0 + 1 = ap behind_prop (slice_get-get_or props last no_prop_id (omega (arith, count, short))) in
    omega (arith, found, number, short, is)

-- and it is one of the metamodel
pub behind_within : (desc : MetaDesc) (props : List PropId) → All (IsPropOf desc) props → number_behind props ≤ prop_count desc
behind_within desc props all = by props all
  where
    by : (props : List PropId) → All (IsPropOf desc) props → number_behind props ≤ prop_count desc
    by [] all = omega arith
    by (x ∷ xs) all =
        let last : ℕ = length (x ∷ xs) - 1 in
        let below : last < length (x ∷ xs) = grind arith in
        let q : PropId = get_or (x ∷ xs) last no_prop_id in
        let within : q.0 < prop_count desc = all last no_prop_id below in
        let found : number_behind (x ∷ xs) ≡ q.0 + 1 = ap behind_prop (slice_get-get_or (x ∷ xs) last no_prop_id below) in
        omega (arith, found, within)

-- the count covers the properties of classes below this number
pub record Covers (desc : MetaDesc) (class count : ℕ) : Type 0 where
  pub own : (p : ℕ) → p < prop_count desc → owner_of desc p < class → p < count
  pub most : count ≤ prop_count desc

pub covers_more : (desc : MetaDesc) (class count after : ℕ) (props : List PropId) → Covers desc class count → prop_numbers props ≡ props_of desc class
    → props_of desc class ≡ inherited_props desc class ++ own_props desc class → All (IsPropOf desc) props → after ≡ max count (number_behind props) → Covers desc (class + 1) after
covers_more desc class count after props covers numbers order all is = record { own = own; most = omega (arith, is, within, before) }
  where
    within : number_behind props ≤ prop_count desc
    within = behind_within desc props all

    before : count ≤ prop_count desc
    before = covers.most

    own : (p : ℕ) → p < prop_count desc → owner_of desc p < class + 1 → p < after
    own p known below = by (cases_lt (owner_of desc p) class)
      where
        by : (owner_of desc p < class) ⊎ (class ≤ owner_of desc p) → p < after
        by (inl first) = let l : p < count = covers.own p known first in omega (arith, l, is)
        by (inr past) =
            let here : owner_of desc p ≡ class = omega (arith, below, past) in
            let l : p < number_behind props = own_behind desc class p props numbers order (subst (λ c. Contains (own_props desc c) p) here (own_has desc p known)) in
            omega (arith, l, is)

pub covers_all : (desc : MetaDesc) (class count : ℕ) → Covers desc class count → class_count desc ≤ class → count ≡ prop_count desc
covers_all desc class count covers all = by (cases_lt count (prop_count desc))
  where
    most : count ≤ prop_count desc
    most = covers.most

    by : (count < prop_count desc) ⊎ (prop_count desc ≤ count) → count ≡ prop_count desc
    by (inl below) =
        let within : owner_of desc count < class_count desc = owner_within desc count below in
        let absurd_one : count < count = covers.own count below (omega (arith, within, all)) in
        omega (arith, absurd_one)
    by (inr past) = omega (arith, most, past)
