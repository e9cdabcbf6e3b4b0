-- Wrong answers that the definitions exclude, each on a small case: what the definition gives, and that it isn't what the wrong
-- code would answer. A contract says that the code's result is what the definition gives, so it refuses that code.
use Rattle.std.specs.Prelude.{◌≡◌, ◌<◌, ℕ, zero, suc, false, List, [], ◌∷◌, codes, Option, None, Some, position, nat_eq}
use Rattle.std.specs.Option.{unwrap_or}
use Rattle.std.proofs.Common.{refl, ap, arith}
use Rattle.mof_metamodel.specs.declared.desc.MetaDesc.{MetaDesc}
use Rattle.mof_metamodel.specs.declared.desc.ClassDesc.{ClassDesc}
use Rattle.mof_metamodel.specs.declared.desc.PropDesc.{PropDesc}
use Rattle.mof_metamodel.specs.declared.desc.OppDesc.{OppDesc}
use Rattle.mof_metamodel.specs.declared.fault.MetaKind.TheVariants as kinds
use Rattle.mof_metamodel.specs.Metamodels.{Conforms, IsCircular, supers_of, props_of}
use Rattle.mof_metamodel.specs.MetaFaults.{IsFirstFault, HasNoFault, first_duplicate, first_bad_bounds, first_bad_opposite}

abbrev class : List ℕ → List (List ℕ) → List PropDesc → ClassDesc
class name supers props = record { name = name; is_abstract = false; supers = supers; props = props }

abbrev classes : List ClassDesc → MetaDesc
classes cs = record { name = codes "M"; classes = cs; enums = [] }

abbrev text : List ℕ → ℕ → Option ℕ → PropDesc
text name lower upper = record { name = name; type_name = codes "String"; lower = lower; upper = upper; composite = false; ordered = false; opposite = None }

abbrev reference : List ℕ → Option OppDesc → PropDesc
reference name opposite = record { name = name; type_name = codes "A"; lower = 0; upper = None; composite = false; ordered = false; opposite = opposite }

-- a class with a property
abbrev simple : MetaDesc
simple = classes (class (codes "A") [] (text (codes "n") 0 (Some 1) ∷ []) ∷ [])

no_circle : (c : ℕ) → c < 1 → IsCircular simple c → ⊥
no_circle zero within circle = let none = circle.2.1 in absurd (omega (arith, none))
no_circle (suc c) within circle = absurd (omega (arith, within))

pub no_fault : HasNoFault simple
no_fault kinds.Limit name h = let apart = h.0 in cc
no_fault kinds.BadName name h = let apart = h.1 in cc
no_fault kinds.DuplicateName name h = let apart = h.1 in cc
no_fault kinds.UnknownType name h = let apart = h.1 in cc
no_fault kinds.SuperCycle name h = no_circle h.1.class h.1.within h.1.circular
no_fault kinds.BadBounds name h = let apart = h.1 in cc
no_fault kinds.BadOpposite name h = let apart = h.1 in cc
no_fault kinds.TwoContainers name h = let apart = h.1 in cc

-- a fault of a description that has none
pub always_refuses : IsFirstFault simple kinds.Limit [] → ⊥
always_refuses h = no_fault kinds.Limit [] h

-- a class whose first two properties have one name, and whose third has a lower bound above the upper
abbrev twice : MetaDesc
twice = classes (class (codes "A") [] (text (codes "n") 0 (Some 1) ∷ text (codes "n") 0 (Some 1) ∷ text (codes "m") 2 (Some 1) ∷ []) ∷ [])

pub name_that_stands_twice : first_duplicate twice ≡ Some (codes "A.n")
name_that_stands_twice = refl

pub bounds_that_are_wrong : first_bad_bounds twice ≡ Some (codes "A.m")
bounds_that_are_wrong = refl

-- wrong bounds, where a name stands twice
pub bounds_before_duplicates : IsFirstFault twice kinds.BadBounds (codes "A.m") → ⊥
bounds_before_duplicates h = let apart = h.0.0.0.1 in cc

-- C inherits from B, and B from A
abbrev three : MetaDesc
three = classes (class (codes "A") [] [] ∷ class (codes "B") (codes "A" ∷ []) [] ∷ class (codes "C") (codes "B" ∷ []) [] ∷ [])

pub one_direct_superclass : supers_of three 2 ≡ 1 ∷ []
one_direct_superclass = refl

pub a_class_conforms_to_what_it_reaches : Conforms three 2 0
a_class_conforms_to_what_it_reaches = (1 ∷ 0 ∷ [], ((0, omega arith, refl), ((0, omega arith, refl), refl)))

-- no conformance to the superclass of a superclass
pub direct_superclasses_alone : (Conforms three 2 0 → ⊥) → ⊥
direct_superclasses_alone unrelated = unrelated a_class_conforms_to_what_it_reaches

-- A has a property, and B, which inherits from A, another
abbrev two : MetaDesc
two = classes (class (codes "A") [] (text (codes "n") 0 (Some 1) ∷ []) ∷ class (codes "B") (codes "A" ∷ []) (text (codes "m") 0 (Some 1) ∷ []) ∷ [])

pub own_properties_stand_behind : position (nat_eq 1) (props_of two 1) ≡ Some 1
own_properties_stand_behind = refl

-- a property's place among those of its owner alone, where the class inherits others
pub place_without_the_inherited : position (nat_eq 1) (props_of two 1) ≡ Some 0 → ⊥
place_without_the_inherited e = let same : 1 ≡ 0 = ap (λ o. unwrap_or o 0) e in omega (arith, same)

-- p names q as its opposite, and q names none
abbrev one_sided : MetaDesc
one_sided = classes (class (codes "A") [] (reference (codes "p") (Some (record { class = codes "A"; prop = codes "q" })) ∷ reference (codes "q") None ∷ []) ∷ [])

pub opposite_that_is_not_mutual : first_bad_opposite one_sided ≡ Some (codes "A.p")
opposite_that_is_not_mutual = refl

-- no fault, where one of two properties alone names the other
pub opposite_of_one_side : first_bad_opposite one_sided ≡ None → ⊥
opposite_of_one_side e = cc
