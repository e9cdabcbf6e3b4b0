-- A class has each property once, so that the i-th of them stands first at i.
use Rattle.std.proofs.Common.{◌≡◌, ℕ, ◌<◌, List, length, get_or, sym, arith, inl, inr}
use Rattle.std.proofs.lemmas.Bool.{cases_lt}
use Rattle.std.proofs.lemmas.List.Elements.{Contains-get_or}
use Rattle.mof_metamodel.specs.declared.desc.MetaDesc.{MetaDesc}
use Rattle.mof_metamodel.specs.Metamodels.{props_of}
use Rattle.mof_metamodel.proofs.DistinctLemmas.{IsOnce}
use Rattle.mof_metamodel.proofs.OnceLemmas.{props_of_once}
use Rattle.object_tables.specs.Models.{index_of}
use Rattle.object_tables.proofs.ModelLemmas.{index-within, index-found}

index_once : (xs : List ℕ) (i d : ℕ) → IsOnce xs → i < length xs → index_of xs (get_or xs i d) ≡ i
index_once xs i d once l =
    let j : ℕ = index_of xs (get_or xs i d) in
    let within : j < length xs = index-within xs (get_or xs i d) (Contains-get_or xs i d l) in
    let found : get_or xs j d ≡ get_or xs i d = index-found xs (get_or xs i d) d within in
    elim (cases_lt j i) [
      | inl before ↦ absurd (once j i d before l found)
      | inr le ↦ elim (cases_lt i j) [
        | inl behind ↦ absurd (once i j d behind within (sym found))
        | inr ge ↦ (let e : j ≡ i = omega arith in e)
      ]
    ]

pub property_place : (desc : MetaDesc) (c i d : ℕ) → i < length (props_of desc c) → index_of (props_of desc c) (get_or (props_of desc c) i d) ≡ i
property_place desc c i d l = index_once (props_of desc c) i d (props_of_once desc c) l
